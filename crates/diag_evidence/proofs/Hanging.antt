-- What the three looks of a test of hangs show is true.
use Rattle.std.proofs.Common.{◌≡◌, ◌≢◌, ◌⊎◌, inl, inr, ℕ, zero, suc, ◌<◌, ◌+◌, ◌++◌, Bool, true, false, ◌&&◌, ◌||◌, Some, None, Option, List, [], ◌∷◌, All, length, get_or, refl, sym, ap, ◌∙◌, subst, arith, ◌==◌, map, filter, cond}
use Rattle.diag_evidence.proofs.Vocabulary.{list_any, list_all, IsDistinct, nat_tests, get_or-map, length-map, map-append, list_any-append}
use Rattle.diag_evidence.proofs.Vocabulary.{All-map, All-filter, All-append, Shape, Ends, ends_of, pin_wire, pins_of, crosses_of}
use Rattle.diag_evidence.proofs.Vocabulary.{Joined-sym, Joined-trans, Configuration, is_closed, OpensFarFrom, among, other_end, WireTest}
use Rattle.std.proofs.lemmas.Bool.{false≢true, and_parts, or_cases, or_left, or_right}
use native.Mathlib.Decide.{ℕ_discrete}
use Rattle.machine_meaning.specs.Vocabulary.{Pins, Faults, stuck_cross, Joined, Shorted, net_of}
use Rattle.machine_config.proofs.Distance.{change_at_a_distance}
use Rattle.diag_evidence.specs.Vocabulary.{Kept, HoldsFor, Trees, HangsOn, is_laid, IsForest, KeepsForest, KnowsForest, IsLook, differ, parts, read_under, Foot, IsFoot, AreHangs, over_of, turned, overs, others, all_feet, closes, pin_at, pin_p, pin_q, feet_crosses, others_part_from, is_shown, shown, seen_on}
use Rattle.diag_evidence.proofs.KeptLemmas.{GainHoldsFor}
use Rattle.diag_evidence.proofs.Rows.{differ_so}
use Rattle.diag_evidence.proofs.Seeing.{g, row_under, standing, pin_inside, part_unjoined, seen_on_holds}
use Rattle.diag_evidence.proofs.Unfitting.{StandsAt, stands_at, all_pass, one_place, num_in, end_is}

-- a hang to name one beyond a list by
abbrev pub some_hang : WireTest
some_hang = record { wire = record { 0 = 0 }; over = record { 0 = 0 }; other = record { 0 = 0 } }

abbrev pub some_foot : Foot
some_foot = (record { 0 = 0 }, record { 0 = 0 })

-- conditions on hangs, of which the pins are left out
pub record AreHung (trees : Trees) (hs : List WireTest) : Type 0 where
  pub over : All (λ h. IsFoot trees (over_of h)) hs
  pub other : All (λ h. IsFoot trees (over_of (turned h))) hs
  pub wires : IsDistinct (λ a b. a == b) (map (λ h. h.wire.0) hs)

wires_turned : (hs : List WireTest) → map (λ (h : WireTest). h.wire.0) (map turned hs) ≡ map (λ (h : WireTest). h.wire.0) hs
wires_turned [] = refl
wires_turned (h ∷ hs) = ap (λ ws. h.wire.0 ∷ ws) (wires_turned hs)

pub hung_turned : {trees : Trees} {hs : List WireTest} → AreHung trees hs → AreHung trees (map turned hs)
hung_turned {trees} {hs} h = record {
  over = All-map (λ h. IsFoot trees (over_of h)) turned hs h.other;
  other = All-map (λ h. IsFoot trees (over_of (turned h))) turned hs h.over;
  wires = subst (IsDistinct (λ a b. a == b)) (sym (wires_turned hs)) h.wires;
}

pub overs_feet : {trees : Trees} (hs : List WireTest) → All (λ h. IsFoot trees (over_of h)) hs → All (IsFoot trees) (overs hs)
overs_feet {trees} hs all = All-map (IsFoot trees) over_of hs all

overs_wires : (hs : List WireTest) → map (λ (foot : Foot). foot.0.0) (overs hs) ≡ map (λ (h : WireTest). h.wire.0) hs
overs_wires [] = refl
overs_wires (h ∷ hs) = ap (λ ws. h.wire.0 ∷ ws) (overs_wires hs)

pub overs_once : {trees : Trees} {hs : List WireTest} → AreHung trees hs → IsDistinct (λ a b. a == b) (map (λ (foot : Foot). foot.0.0) (overs hs))
overs_once {trees} {hs} h = subst (IsDistinct (λ a b. a == b)) (sym (overs_wires hs)) h.wires

-- a crosspoint of feet over first crosspoints
pub over_stands : (hs : List WireTest) (x : ℕ) → among (feet_crosses (overs hs)) x ≡ true → StandsAt (λ (h : WireTest). h.over.0) hs x
over_stands hs x is = stands_at (λ (h : WireTest). h.over.0) hs x (subst (λ xs. among xs x ≡ true) (same hs) is)
  where
    same : (hs : List WireTest) → feet_crosses (overs hs) ≡ map (λ (h : WireTest). h.over.0) hs
    same [] = refl
    same (h ∷ hs) = ap (λ xs. h.over.0 ∷ xs) (same hs)

pub over_among : (hs : List WireTest) (i : ℕ) → i < length hs → among (feet_crosses (overs hs)) (get_or hs i some_hang).over.0 ≡ true
over_among [] i below = absurd (omega (arith, below))
over_among (h ∷ hs) zero below = or_left (h.over.0 == h.over.0) (among (feet_crosses (overs hs)) h.over.0) (grind (arith, nat_tests))
over_among (h ∷ hs) (suc i) below = or_right (h.over.0 == (get_or hs i some_hang).over.0) (among (feet_crosses (overs hs)) (get_or hs i some_hang).over.0) (over_among hs i (omega (arith, below)))

-- a hang of those that pass a test is one of all
record ComesFrom (p : WireTest → Bool) (hs : List WireTest) (h : WireTest) : Type 0 where
  place : ℕ
  below : place < length hs
  is : get_or hs place some_hang ≡ h
  passes : p h ≡ true

comes_from : (p : WireTest → Bool) (hs : List WireTest) (j : ℕ) → j < length (filter p hs) → ComesFrom p hs (get_or (filter p hs) j some_hang)
comes_from p [] j below = absurd (omega (arith, below))
comes_from p (h ∷ hs) j below = by (comes_from p hs) (p h) refl j below
  where
    later : {k : WireTest} → ComesFrom p hs k → ComesFrom p (h ∷ hs) k
    later c = let b = c.below in record { place = suc c.place; below = omega (arith, b); is = c.is; passes = c.passes }

    by : ((j : ℕ) → j < length (filter p hs) → ComesFrom p hs (get_or (filter p hs) j some_hang)) → (t : Bool) → p h ≡ t → (j : ℕ) → j < length (cond t (h ∷ filter p hs) (filter p hs)) →
        ComesFrom p (h ∷ hs) (get_or (cond t (h ∷ filter p hs) (filter p hs)) j some_hang)
    by more true e zero below = record { place = 0; below = omega arith; is = refl; passes = e }
    by more true e (suc j) below = later (more j (omega (arith, below)))
    by more false e j below = later (more j below)

-- Two looks, of which the second opens first crosspoints of hangs alone.
module _ {told : Option Faults} (trees : Trees) (hs : List WireTest) (rows without : List Pins) (close less : ℕ → Bool) (look : IsLook told trees.shape close rows) (later : IsLook told trees.shape less without)
    (fewer : (y : ℕ) → less y ≡ true → close y ≡ true) (opened : (y : ℕ) → close y ≡ true → less y ≡ false → among (feet_crosses (overs hs)) y ≡ true) (shut : (x : ℕ) → is_laid trees x ≡ true → close x ≡ true)
    (forest : IsForest trees) (hung : AreHung trees hs) (f : Faults) (is : told ≡ Some f) (free : (x : ℕ) → is_laid trees x ≡ true → stuck_cross f x ≡ None) where
  -- a first crosspoint that is shown isn't stuck
  pub shown_free : (i : ℕ) → i < length hs → is_shown trees hs rows without (get_or hs i some_hang) ≡ true → stuck_cross f (get_or hs i some_hang).over.0 ≡ None
  shown_free i below yes_ = change_at_a_distance f G H h.over.0 q _ _ _ look.off later.off q_inside opens (row_under look f is p p_small) (row_under later f is p p_small) (differ_so _ _ both.0)
    where
      h : WireTest
      h = get_or hs i some_hang

      G : Configuration
      G = look.config

      H : Configuration
      H = later.config

      p : ℕ
      p = pin_p trees h

      q : ℕ
      q = pin_q trees h

      both : (differ (read_under rows p q) (read_under without p q) ≡ true) × (others_part_from trees hs rows h.wire.0 q ≡ true)
      both = and_parts (differ (read_under rows p q) (read_under without p q)) (others_part_from trees hs rows h.wire.0 q) yes_

      p_small : p < pins_of trees.shape
      p_small = pin_inside look f is trees refl forest free shut _ p (hung.over i some_hang below).hangs

      q_small : q < pins_of trees.shape
      q_small = pin_inside look f is trees refl forest free shut _ q (hung.other i some_hang below).hangs

      q_inside : q < pins_of G.shape
      q_inside = subst (λ n. q < pins_of n) (sym look.shape) q_small

      far : (y a b : ℕ) → is_closed G y ≢ is_closed H y → y ≢ h.over.0 → Ends (ends_of G.shape y) a b → Joined (net_of G.shape f (is_closed G)) (pin_wire G.shape q) a → Joined (net_of G.shape f (is_closed G)) (pin_wire G.shape q) b → ⊥
      far y a b change n ends_ j l = by (is_closed G y) (is_closed H y) refl refl
        where
          by_hang : StandsAt (λ (h : WireTest). h.over.0) hs y → ⊥
          by_hang s = by_wire (ℕ_discrete o.wire.0 h.wire.0)
            where
              o : WireTest
              o = get_or hs s.place some_hang

              foot : IsFoot trees (over_of o)
              foot = hung.over s.place some_hang s.below

              r : ℕ
              r = pin_p trees o

              end : ℕ
              end = other_end trees.shape o.over.0 o.wire.0

              ends_too : Ends (ends_of G.shape y) o.wire.0 end
              ends_too = subst (λ n. Ends (ends_of n y) o.wire.0 end) (sym look.shape) (subst (λ x. Ends (ends_of trees.shape x) o.wire.0 end) (s.at some_hang) foot.ends)

              by_wire : Dec (o.wire.0 ≡ h.wire.0) → ⊥
              by_wire (yes e) = n (sym (s.at some_hang) ∙ ap (λ k. (get_or hs k some_hang).over.0) (one_place (λ (h : WireTest). h.wire.0) hs hung.wires s.place i some_hang s.below below e))
              by_wire (no d) = by_end (end_is ends_ ends_too)
                where
                  parted : parts rows r q ≡ true
                  parted = pick (o.wire.0 == h.wire.0) (parts rows r q) (all_pass (λ o. (o.wire.0 == h.wire.0) || parts rows (pin_p trees o) q) hs both.1 s.place some_hang s.below) (let t : (o.wire.0 == h.wire.0) ≡ false = grind (arith, nat_tests, d) in t)
                    where
                      pick : (a b : Bool) → (a || b) ≡ true → a ≡ false → b ≡ true
                      pick true b e f = absurd (false≢true (sym f))
                      pick false b e f = e

                  apart : ¬ Joined (net_of G.shape f (is_closed G)) (pin_wire G.shape r) (pin_wire G.shape q)
                  apart = part_unjoined look f is r q (pin_inside look f is trees refl forest free shut _ r foot.hangs) q_small parted

                  stands : Joined (net_of G.shape f (is_closed G)) (pin_wire G.shape r) end
                  stands = standing look f is trees refl forest free shut end r foot.hangs

                  by_end : (end ≡ a) ⊎ (end ≡ b) → ⊥
                  by_end (inl e) = apart (Joined-trans stands (Joined-sym (subst (Joined (net_of G.shape f (is_closed G)) (pin_wire G.shape q)) (sym e) j)))
                  by_end (inr e) = apart (Joined-trans stands (Joined-sym (subst (Joined (net_of G.shape f (is_closed G)) (pin_wire G.shape q)) (sym e) l)))

          by : (s t : Bool) → is_closed G y ≡ s → is_closed H y ≡ t → ⊥
          by true true e u = change (e ∙ sym u)
          by false false e u = change (e ∙ sym u)
          by false true e u = false≢true (sym e ∙ look.closed y ∙ fewer y (sym (later.closed y) ∙ u))
          by true false e u = by_hang (over_stands hs y (opened y (sym (look.closed y) ∙ e) (sym (later.closed y) ∙ u)))

      opens : OpensFarFrom f G H h.over.0 (pin_wire G.shape q)
      opens = record {
        shape = later.shape ∙ sym look.shape;
        fewer = λ y on. look.closed y ∙ fewer y (sym (later.closed y) ∙ on);
        far = far;
      }

  -- what is kept over feet that are shown is true, by a look that closes them
  pub shown_holds : (others_ : List Pins) (closing : ℕ → Bool) → IsLook told trees.shape closing others_ → ((x : ℕ) → is_laid trees x ≡ true → closing x ≡ true) → ((x : ℕ) → among (feet_crosses (overs hs)) x ≡ true → closing x ≡ true) →
      (k : Kept) → k.shape ≡ trees.shape → GainHoldsFor k (seen_on trees (shown trees hs rows without) others_) f
  shown_holds others_ closing view laid on k there = seen_on_holds view f is trees refl forest free laid (shown trees hs rows without)
      (overs_feet (filter (is_shown trees hs rows without) hs) (All-filter (is_shown trees hs rows without) (λ h. IsFoot trees (over_of h)) hs hung.over)) free_of on_of k there
    where
      p : WireTest → Bool
      p = is_shown trees hs rows without

      free_of : (x : ℕ) → among (feet_crosses (shown trees hs rows without)) x ≡ true → stuck_cross f x ≡ None
      free_of x is_in = by (over_stands (filter p hs) x is_in)
        where
          by : StandsAt (λ (h : WireTest). h.over.0) (filter p hs) x → stuck_cross f x ≡ None
          by s = let c = comes_from p hs s.place s.below in
              subst (λ y. stuck_cross f y ≡ None) (ap (λ (h : WireTest). h.over.0) c.is ∙ s.at some_hang) (shown_free c.place c.below (ap p c.is ∙ c.passes))

      on_of : (x : ℕ) → among (feet_crosses (shown trees hs rows without)) x ≡ true → closing x ≡ true
      on_of x is_in = by (over_stands (filter p hs) x is_in)
        where
          by : StandsAt (λ (h : WireTest). h.over.0) (filter p hs) x → closing x ≡ true
          by s = let c = comes_from p hs s.place s.below in
              on x (subst (λ y. among (feet_crosses (overs hs)) y ≡ true) (ap (λ (h : WireTest). h.over.0) c.is ∙ s.at some_hang) (over_among hs c.place c.below))

-- crosspoints of two lists of feet
among_both : (a b : List Foot) (x : ℕ) → among (feet_crosses (a ++ b)) x ≡ (among (feet_crosses a) x || among (feet_crosses b) x)
among_both a b x = ap (λ xs. among xs x) (map-append (λ (foot : Foot). foot.1.0) a b) ∙ list_any-append (λ z. z == x) (feet_crosses a) (feet_crosses b)

bool_second : (a b c : Bool) → (a || c) ≡ true → (a || (b || c)) ≡ true
bool_second true b c e = refl
bool_second false true c e = refl
bool_second false false c e = e

bool_first : (a b c : Bool) → (a || b) ≡ true → (a || (b || c)) ≡ true
bool_first true b c e = refl
bool_first false true c e = refl
bool_first false false c e = absurd (false≢true e)

bool_left : (a b c : Bool) → (a || (b || c)) ≡ true → (a || c) ≡ false → b ≡ true
bool_left true b c e n = absurd (false≢true (sym n))
bool_left false true c e n = refl
bool_left false false c e n = absurd (false≢true (sym n ∙ e))

bool_right : (a b c : Bool) → (a || (b || c)) ≡ true → (a || b) ≡ false → c ≡ true
bool_right true b c e n = absurd (false≢true (sym n))
bool_right false true c e n = absurd (false≢true (sym n))
bool_right false false c e n = e

-- the three looks
module _ {told : Option Faults} (k : Kept) (trees : Trees) (hs : List WireTest) (rows no_over no_other : List Pins) (forest : IsForest trees) (keeps : KeepsForest k trees) (hung : AreHung trees hs)
    (look : IsLook told trees.shape (closes trees (all_feet hs)) rows) (over_look : IsLook told trees.shape (closes trees (others hs)) no_over) (other_look : IsLook told trees.shape (closes trees (overs hs)) no_other) where
  closes_all : (x : ℕ) → closes trees (all_feet hs) x ≡ (is_laid trees x || (among (feet_crosses (overs hs)) x || among (feet_crosses (others hs)) x))
  closes_all x = ap (λ t. is_laid trees x || t) (among_both (overs hs) (others hs) x)

  module _ (f : Faults) (is : told ≡ Some f) (holds : HoldsFor k f) where
    free : (x : ℕ) → is_laid trees x ≡ true → stuck_cross f x ≡ None
    free x on = holds.crosses x (keeps.crosses x on)

    shut : (feet : List Foot) (x : ℕ) → is_laid trees x ≡ true → closes trees feet x ≡ true
    shut feet x on = or_left (is_laid trees x) (among (feet_crosses feet) x) on

    over_fewer : (y : ℕ) → closes trees (others hs) y ≡ true → closes trees (all_feet hs) y ≡ true
    over_fewer y on = closes_all y ∙ bool_second (is_laid trees y) (among (feet_crosses (overs hs)) y) (among (feet_crosses (others hs)) y) on

    over_opened : (y : ℕ) → closes trees (all_feet hs) y ≡ true → closes trees (others hs) y ≡ false → among (feet_crosses (overs hs)) y ≡ true
    over_opened y on off = bool_left (is_laid trees y) (among (feet_crosses (overs hs)) y) (among (feet_crosses (others hs)) y) (sym (closes_all y) ∙ on) off

    other_fewer : (y : ℕ) → closes trees (overs hs) y ≡ true → closes trees (all_feet hs) y ≡ true
    other_fewer y on = closes_all y ∙ bool_first (is_laid trees y) (among (feet_crosses (overs hs)) y) (among (feet_crosses (others hs)) y) on

    other_opened : (y : ℕ) → closes trees (all_feet hs) y ≡ true → closes trees (overs hs) y ≡ false → among (feet_crosses (others hs)) y ≡ true
    other_opened y on off = bool_right (is_laid trees y) (among (feet_crosses (overs hs)) y) (among (feet_crosses (others hs)) y) (sym (closes_all y) ∙ on) off

    -- crosspoints that are shown aren't stuck
    pub overs_free : (i : ℕ) → i < length hs → is_shown trees hs rows no_over (get_or hs i some_hang) ≡ true → stuck_cross f (get_or hs i some_hang).over.0 ≡ None
    overs_free = shown_free trees hs rows no_over (closes trees (all_feet hs)) (closes trees (others hs)) look over_look over_fewer over_opened (shut (all_feet hs)) forest hung f is free

    pub others_free : (i : ℕ) → i < length (map turned hs) → is_shown trees (map turned hs) rows no_other (get_or (map turned hs) i some_hang) ≡ true → stuck_cross f (get_or (map turned hs) i some_hang).over.0 ≡ None
    others_free = shown_free trees (map turned hs) rows no_other (closes trees (all_feet hs)) (closes trees (overs hs)) look other_look other_fewer other_opened (shut (all_feet hs)) forest (hung_turned hung) f is free

    pub second_holds : (n : Kept) → n.shape ≡ trees.shape → GainHoldsFor n (seen_on trees (shown trees hs rows no_over) no_other) f
    second_holds = shown_holds trees hs rows no_over (closes trees (all_feet hs)) (closes trees (others hs)) look over_look over_fewer over_opened
        (shut (all_feet hs)) forest hung f is free no_other (closes trees (overs hs)) other_look (shut (overs hs)) (λ x on. or_right (is_laid trees x) (among (feet_crosses (overs hs)) x) on)

    pub first_holds : (n : Kept) → n.shape ≡ trees.shape → GainHoldsFor n (seen_on trees (shown trees (map turned hs) rows no_other) no_over) f
    first_holds = shown_holds trees (map turned hs) rows no_other (closes trees (all_feet hs)) (closes trees (overs hs)) look other_look other_fewer other_opened
        (shut (all_feet hs)) forest (hung_turned hung) f is free no_over (closes trees (others hs)) over_look (shut (others hs)) (λ x on. or_right (is_laid trees x) (among (feet_crosses (others hs)) x) on)

-- crosspoints of feet are some of the machine
pub feet_below : {trees : Trees} (feet : List Foot) → All (IsFoot trees) feet → All (λ foot. foot.1.0 < crosses_of trees.shape) feet
feet_below feet all k d below = (all k d below).cross

pub all_are_feet : {trees : Trees} (hs : List WireTest) → All (λ h. IsFoot trees (over_of h)) hs → All (λ h. IsFoot trees (over_of (turned h))) hs → All (IsFoot trees) (all_feet hs)
all_are_feet {trees} hs over other = All-append (IsFoot trees) (overs hs) (others hs) (overs_feet hs over) (overs_feet (map turned hs) (All-map (λ h. IsFoot trees (over_of h)) turned hs other))

pub shown_feet : {trees : Trees} (hs : List WireTest) (rows without : List Pins) → All (λ h. IsFoot trees (over_of h)) hs → All (IsFoot trees) (shown trees hs rows without)
shown_feet {trees} hs rows without over = overs_feet (filter (is_shown trees hs rows without) hs) (All-filter (is_shown trees hs rows without) (λ h. IsFoot trees (over_of h)) hs over)
