-- That wires join the set, as three looks show it, is true.
use Rattle.std.proofs.Common.{◌≡◌, ◌≢◌, ◌⊎◌, inl, inr, ℕ, ◌<◌, ◌+◌, Bool, true, false, not, ◌&&◌, ◌||◌, Some, None, Option, List, All, length, get_or, refl, sym, ap, ◌∙◌, subst, arith, ◌==◌, map, is_some}
use Rattle.diag_evidence.proofs.Vocabulary.{list_any, list_all, range_with_len, IsDistinct, false≢true, and_parts, or_right, nat_tests}
use Rattle.diag_evidence.proofs.Vocabulary.{pin_wire, pins_of, Joined-sym, is_closed, among, other_end, WireTest, has_number}
use Rattle.std.proofs.lemmas.List.{get_or-map, length-map, length-append, get_or_append_left, get_or-append-add}
use native.Mathlib.Decide.{ℕ_discrete}
use Rattle.machine_meaning.specs.Vocabulary.{Pins, Faults, stuck_cross, Joined, Shorted, net_of}
use Rattle.diag_evidence.specs.Vocabulary.{Kept, is_apart, HoldsFor, Gains, Trees, HangsOn, pin_of, is_hung, is_laid, IsForest, KeepsForest, IsLook, parts, swings, Foot, IsFoot, AreHangs, over_of, turned, overs, others, all_feet, closes, pin_at, pin_p, pin_q, feet_crosses, is_shown, shown, seen_on, parts_from_hung, all_hang, joins, joined_by}
use Rattle.diag_evidence.proofs.Found.{IsSome_of, some_of}
use Rattle.diag_evidence.proofs.Growing.{hung_by}
use Rattle.diag_evidence.proofs.Rows.{of_every}
use Rattle.diag_evidence.proofs.KeptLemmas.{GainHoldsFor, holds_by_gain, has_apart, gains_apart}
use Rattle.diag_evidence.proofs.Seeing.{g, standing, standing_on, foot_inside, pin_inside, part_unshorted, all_hang_so}
use Rattle.diag_evidence.proofs.Unfitting.{one_place, root_hangs}
use Rattle.diag_evidence.proofs.Hanging.{AreHung, hung_turned, some_hang, some_foot, over_among, overs_free, others_free, first_holds, second_holds}

-- A look that closes first crosspoints of hangs.
module _ {told : Option Faults} (trees : Trees) (gs : List WireTest) (rows : List Pins) (look : IsLook told trees.shape (closes trees (overs gs)) rows) (forest : IsForest trees) (hung : AreHung trees gs)
    (f : Faults) (is : told ≡ Some f) (free : (x : ℕ) → is_laid trees x ≡ true → stuck_cross f x ≡ None) where
  abbrev hang : ℕ → WireTest
  hang i = get_or gs i some_hang

  foot : (i : ℕ) → i < length gs → IsFoot trees (over_of (hang i))
  foot i below = hung.over i some_hang below

  shut : (x : ℕ) → is_laid trees x ≡ true → closes trees (overs gs) x ≡ true
  shut x on = ap (λ t. t || among (feet_crosses (overs gs)) x) on

  -- the wire of a hang whose crosspoint isn't stuck is joined to its pin
  stands : (i : ℕ) → i < length gs → stuck_cross f (hang i).over.0 ≡ None → Joined (net_of look.config.shape f (is_closed look.config)) (pin_wire look.config.shape (pin_p trees (hang i))) (hang i).wire.0
  stands i below open_ = standing_on look f is trees refl forest free shut (over_of (hang i)) (foot i below) open_ (or_right (is_laid trees (hang i).over.0) (among (feet_crosses (overs gs)) (hang i).over.0) (over_among gs i below))

  inside : (i : ℕ) → i < length gs → pin_p trees (hang i) < pins_of trees.shape
  inside i below = foot_inside look f is trees refl forest free shut (over_of (hang i)) (foot i below)

  -- a pin that parts from all others that hang does so from one on which a wire hangs
  parted : (p u t : ℕ) → parts_from_hung trees rows p ≡ true → HangsOn trees u t → t ≢ p → parts rows t p ≡ true
  parted p u t all h n =
      let root = root_hangs trees u t forest h in
      let below = pin_inside look f is trees refl forest free shut u t h in
      let other : (t == p) ≡ false = grind (arith, nat_tests, n) in
      let hangs : is_hung trees (pin_wire trees.shape t) ≡ true = ap is_some root in
      pick (t == p) (is_hung trees (pin_wire trees.shape t)) (parts rows t p) other hangs (of_every (λ k. (k == p) || (not (is_hung trees (pin_wire trees.shape k)) || parts rows k p)) (pins_of trees.shape) t all below)
    where
      pick : (a b c : Bool) → a ≡ false → b ≡ true → (a || (not b || c)) ≡ true → c ≡ true
      pick true b c e h s = absurd (false≢true (sym e))
      pick false true c e h s = s
      pick false false c e h s = absurd (false≢true h)

  -- .. so the wire isn't shorted to one that hangs on another pin
  pub from_hung : (i : ℕ) → i < length gs → stuck_cross f (hang i).over.0 ≡ None → parts_from_hung trees rows (pin_p trees (hang i)) ≡ true → (u t : ℕ) → HangsOn trees u t → t ≢ pin_p trees (hang i) → ¬ Shorted trees.shape f (hang i).wire.0 u
  from_hung i below open_ all u t h n short = part_unshorted look f is t (pin_p trees (hang i)) u (hang i).wire.0 (pin_inside look f is trees refl forest free shut u t h) (inside i below) (parted (pin_p trees (hang i)) u t all h n)
      (standing look f is trees refl forest free shut u t h) (stands i below open_) (Joined-sym short)

  -- .. nor to that of another hang, at another pin
  pub from_other : (i j : ℕ) → i < length gs → j < length gs → stuck_cross f (hang i).over.0 ≡ None → stuck_cross f (hang j).over.0 ≡ None → parts_from_hung trees rows (pin_p trees (hang i)) ≡ true →
      pin_p trees (hang j) ≢ pin_p trees (hang i) → ¬ Shorted trees.shape f (hang i).wire.0 (hang j).wire.0
  from_other i j bi bj oi oj all n short = part_unshorted look f is (pin_p trees (hang j)) (pin_p trees (hang i)) (hang j).wire.0 (hang i).wire.0 (inside j bj) (inside i bi)
      (parted (pin_p trees (hang i)) _ (pin_p trees (hang j)) all (foot j bj).hangs n) (stands j bj oj) (stands i bi oi) (Joined-sym short)

-- the feet of hangs, one after the other
count_overs : (hs : List WireTest) → length (overs hs) ≡ length hs
count_overs hs = length-map hs over_of

count_turned : (hs : List WireTest) → length (map turned hs) ≡ length hs
count_turned hs = length-map hs turned

turned_at : (hs : List WireTest) (i : ℕ) → i < length hs → get_or (map turned hs) i some_hang ≡ turned (get_or hs i some_hang)
turned_at hs i below = get_or-map turned hs i some_hang some_hang below

first_foot : (hs : List WireTest) (i : ℕ) → i < length hs → get_or (all_feet hs) i some_foot ≡ over_of (get_or hs i some_hang)
first_foot hs i below = get_or_append_left (overs hs) (others hs) some_foot i (let e = count_overs hs in omega (arith, below, e)) ∙ get_or-map over_of hs i some_hang some_foot below

second_foot : (hs : List WireTest) (i : ℕ) → i < length hs → get_or (all_feet hs) (length (overs hs) + i) some_foot ≡ over_of (turned (get_or hs i some_hang))
second_foot hs i below = get_or-append-add (overs hs) (others hs) i some_foot ∙ get_or-map over_of (map turned hs) i some_hang some_foot (let e = count_turned hs in omega (arith, below, e)) ∙ ap over_of (turned_at hs i below)

count_feet : (hs : List WireTest) → length (all_feet hs) ≡ length hs + length hs
count_feet hs = let e = count_overs hs in let d = count_overs (map turned hs) in let c = count_turned hs in let s = length-append (overs hs) (others hs) in omega (arith, e, d, c, s)

-- the pins of hangs differ
module _ (trees : Trees) (hs : List WireTest) (once : IsDistinct (λ a b. a == b) (map (pin_at trees) (all_feet hs))) where
  pub two_pins : (i : ℕ) → i < length hs → pin_p trees (get_or hs i some_hang) ≢ pin_q trees (get_or hs i some_hang)
  two_pins i below e =
      let many = count_feet hs in
      let n = count_overs hs in
      let same = one_place (pin_at trees) (all_feet hs) once i (length (overs hs) + i) some_foot (omega (arith, below, many)) (omega (arith, below, many, n))
      (ap (pin_at trees) (first_foot hs i below) ∙ e ∙ sym (ap (pin_at trees) (second_foot hs i below))) in
      let no_ : ⊥ = omega (arith, same, n, below) in no_

  pub other_pins : (i j : ℕ) → i < length hs → j < length hs → i ≢ j → pin_q trees (get_or hs i some_hang) ≢ pin_q trees (get_or hs j some_hang)
  other_pins i j bi bj d e =
      let many = count_feet hs in
      let n = count_overs hs in
      let same = one_place (pin_at trees) (all_feet hs) once (length (overs hs) + i) (length (overs hs) + j) some_foot (omega (arith, bi, many, n)) (omega (arith, bj, many, n))
      (ap (pin_at trees) (second_foot hs i bi) ∙ e ∙ sym (ap (pin_at trees) (second_foot hs j bj))) in
      d (omega (arith, same))

-- The three looks of a test of hangs.
module _ {told : Option Faults} (k : Kept) (trees : Trees) (hs : List WireTest) (rows no_over no_other : List Pins) (forest : IsForest trees) (keeps : KeepsForest k trees) (hangs : AreHangs trees hs) (hung : AreHung trees hs)
    (look : IsLook told trees.shape (closes trees (all_feet hs)) rows) (over_look : IsLook told trees.shape (closes trees (others hs)) no_over) (other_look : IsLook told trees.shape (closes trees (overs hs)) no_other) where
  -- a hang that joins
  record Joins (a : ℕ) : Type 0 where
    place : ℕ
    below : place < length hs
    is_it : (get_or hs place some_hang).wire.0 ≡ a
    over_shown : is_shown trees hs rows no_over (get_or hs place some_hang) ≡ true
    other_shown : is_shown trees (map turned hs) rows no_other (get_or (map turned hs) place some_hang) ≡ true
    over_parts : parts_from_hung trees no_over (pin_q trees (get_or hs place some_hang)) ≡ true
    other_parts : parts_from_hung trees no_other (pin_p trees (get_or hs place some_hang)) ≡ true

  joins_so : (a : ℕ) → list_any (λ h. (h.wire.0 == a) && joins trees hs rows no_over no_other h) hs ≡ true → Joins a
  joins_so a is_on = of_it (some_of (λ h. (h.wire.0 == a) && joins trees hs rows no_over no_other h) hs is_on)
    where
      of_it : IsSome_of (λ h. (h.wire.0 == a) && joins trees hs rows no_over no_other h) hs → Joins a
      of_it s =
          let h : WireTest = get_or hs s.place some_hang in
          let p = and_parts (h.wire.0 == a) (joins trees hs rows no_over no_other h) (s.holds some_hang) in
          let q = and_parts (is_shown trees hs rows no_over h) _ p.1 in
          let r = and_parts (is_shown trees (map turned hs) rows no_other (turned h)) _ q.1 in
          let t = and_parts (swings no_over (pin_q trees h)) _ r.1 in
          let u = and_parts (parts_from_hung trees no_over (pin_q trees h)) (parts_from_hung trees no_other (pin_p trees h)) t.1 in
          record {
            place = s.place;
            below = s.below;
            is_it = (let e = p.0 in grind (arith, nat_tests, e));
            over_shown = q.0;
            other_shown = ap (is_shown trees (map turned hs) rows no_other) (turned_at hs s.place s.below) ∙ r.0;
            over_parts = u.0;
            other_parts = u.1;
          }

  module _ (f : Faults) (is : told ≡ Some f) (holds : HoldsFor k f) where
    laid_free : (x : ℕ) → is_laid trees x ≡ true → stuck_cross f x ≡ None
    laid_free x on = holds.crosses x (keeps.crosses x on)

    in_turned : {a : ℕ} (j : Joins a) → j.place < length (map turned hs)
    in_turned j = let e = count_turned hs in let b = j.below in omega (arith, e, b)

    first_free : {a : ℕ} (j : Joins a) → stuck_cross f (get_or hs j.place some_hang).over.0 ≡ None
    first_free j = overs_free k trees hs rows no_over no_other forest keeps hung look over_look other_look f is holds j.place j.below j.over_shown

    second_free : {a : ℕ} (j : Joins a) → stuck_cross f (get_or (map turned hs) j.place some_hang).over.0 ≡ None
    second_free j = others_free k trees hs rows no_over no_other forest keeps hung look over_look other_look f is holds j.place (in_turned j) j.other_shown

    pin_there : (i : ℕ) → i < length hs → pin_p trees (get_or (map turned hs) i some_hang) ≡ pin_q trees (get_or hs i some_hang)
    pin_there i below = ap (pin_p trees) (turned_at hs i below)

    wire_there : (i : ℕ) → i < length hs → (get_or (map turned hs) i some_hang).wire.0 ≡ (get_or hs i some_hang).wire.0
    wire_there i below = ap (λ (h : WireTest). h.wire.0) (turned_at hs i below)

    parts_there : {a : ℕ} (j : Joins a) → parts_from_hung trees no_over (pin_p trees (get_or (map turned hs) j.place some_hang)) ≡ true
    parts_there j = ap (parts_from_hung trees no_over) (pin_there j.place j.below) ∙ j.over_parts

    -- it isn't shorted to a wire that hangs
    joins_hung : (a u t : ℕ) → Joins a → HangsOn trees u t → ¬ Shorted trees.shape f a u
    joins_hung a u t j h = by (ℕ_discrete t (pin_q trees (get_or hs j.place some_hang)))
      where
        by : Dec (t ≡ pin_q trees (get_or hs j.place some_hang)) → ¬ Shorted trees.shape f a u
        by (yes e) = subst (λ w. ¬ Shorted trees.shape f w u) j.is_it (from_hung trees hs no_other other_look forest hung f is laid_free j.place j.below (first_free j) j.other_parts u t h
            (λ same. two_pins trees hs hangs.pins j.place j.below (sym same ∙ e)))
        by (no n) = subst (λ w. ¬ Shorted trees.shape f w u) (wire_there j.place j.below ∙ j.is_it) (from_hung trees (map turned hs) no_over over_look forest (hung_turned hung) f is laid_free j.place (in_turned j) (second_free j) (parts_there j) u t h
            (λ same. n (same ∙ pin_there j.place j.below)))

    -- nor to one that joins too
    joins_other : (a b : ℕ) → Joins a → Joins b → a ≢ b → ¬ Shorted trees.shape f a b
    joins_other a b i j n =
        let apart_ : i.place ≢ j.place = λ e. n (sym i.is_it ∙ ap (λ p. (get_or hs p some_hang).wire.0) e ∙ j.is_it) in
        subst (λ w. ¬ Shorted trees.shape f w b) (wire_there i.place i.below ∙ i.is_it) (subst (λ u. ¬ Shorted trees.shape f (get_or (map turned hs) i.place some_hang).wire.0 u) (wire_there j.place j.below ∙ j.is_it)
        (from_other trees (map turned hs) no_over over_look forest (hung_turned hung) f is laid_free i.place j.place (in_turned i) (in_turned j) (second_free i) (second_free j) (parts_there i)
        (λ e. other_pins trees hs hangs.pins j.place i.place j.below i.below (λ same. apart_ (sym same)) (sym (pin_there j.place j.below) ∙ e ∙ pin_there i.place i.below))))

    -- so what joins is true
    pub joined_holds : (n : Kept) → n.shape ≡ trees.shape → GainHoldsFor n (joined_by n.apart trees hs rows no_over no_other) f
    joined_holds n there = record {
      crosses = λ x no_. absurd (false≢true no_);
      wires = λ w no_. absurd (false≢true no_);
      joined = λ a b is_on also d. subst (λ s. ¬ Shorted s f a b) (sym there) (joins_other a b (joins_so a (parts_of a is_on).1) (joins_so b (parts_of b also).1) d);
      joins = λ a b is_on of_set d. subst (λ s. ¬ Shorted s f a b) (sym there)
          (let h = hung_by (pin_of trees b) (all_hang_so n.apart trees (parts_of a is_on).0 b (has_apart n b ∙ of_set)) in joins_hung a b h.0 (joins_so a (parts_of a is_on).1) h.1);
      row = λ a b t no_. absurd (false≢true no_);
      cells = λ t a no_. absurd (false≢true no_);
      registers = λ t no_. absurd (false≢true no_);
    }
      where
        parts_of : (a : ℕ) → (joined_by n.apart trees hs rows no_over no_other).apart a ≡ true → (all_hang n.apart trees ≡ true) × (list_any (λ h. (h.wire.0 == a) && joins trees hs rows no_over no_other h) hs ≡ true)
        parts_of a is_on = and_parts (all_hang n.apart trees) _ is_on

  -- so all that is kept is true
  pub hung_holds : (mid near l : Kept) → Gains (seen_on trees (shown trees (map turned hs) rows no_other) no_over) k mid → Gains (seen_on trees (shown trees hs rows no_over) no_other) mid near →
      Gains (joined_by near.apart trees hs rows no_over no_other) near l → (f : Faults) → told ≡ Some f → HoldsFor k f → HoldsFor l f
  hung_holds mid near l one two three f is holds =
      let first : HoldsFor mid f = holds_by_gain _ k mid f one holds (first_holds k trees hs rows no_over no_other forest keeps hung look over_look other_look f is holds k (sym keeps.shape)) in
      let second : HoldsFor near f = holds_by_gain _ mid near f two first (second_holds k trees hs rows no_over no_other forest keeps hung look over_look other_look f is holds mid (one.shape ∙ sym keeps.shape)) in
      holds_by_gain _ near l f three second (joined_holds f is holds near (two.shape ∙ one.shape ∙ sym keeps.shape))

-- What joins by code: nothing where some of the set hang nowhere, and else what is marked.
pub none_joins : (k : Kept) (trees : Trees) (hs : List WireTest) (rows no_over no_other : List Pins) → all_hang k.apart trees ≡ false → Gains (joined_by k.apart trees hs rows no_over no_other) k k
none_joins k trees hs rows no_over no_other off = record {
  shape = refl;
  crosses = λ x. refl;
  wires = λ w. refl;
  apart = λ w. sym (ap (λ t. (t && list_any (λ h. (h.wire.0 == w) && joins trees hs rows no_over no_other h) hs) || is_apart k w) off);
  trial = refl;
  row = λ w. refl;
  cells = λ t a. refl;
  registers = λ t. refl;
}

pub all_join : (k : Kept) (trees : Trees) (hs : List WireTest) (rows no_over no_other : List Pins) (apart : List Bool) → all_hang k.apart trees ≡ true →
    ((w : ℕ) → has_number apart w ≡ (list_any (λ h. (h.wire.0 == w) && joins trees hs rows no_over no_other h) hs || has_number k.apart w)) →
    Gains (joined_by k.apart trees hs rows no_over no_other) k (record k { apart = apart })
all_join k trees hs rows no_over no_other apart on marks =
    gains_apart (joined_by k.apart trees hs rows no_over no_other).apart k apart
    (λ w. marks w ∙ ap (λ t. (t && list_any (λ h. (h.wire.0 == w) && joins trees hs rows no_over no_other h) hs) || has_number k.apart w) (sym on))
