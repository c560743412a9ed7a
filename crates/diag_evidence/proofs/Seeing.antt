-- What a look shows is true.
use Rattle.std.proofs.Common.{◌≡◌, ◌≢◌, ◌⊎◌, inl, inr, ℕ, zero, suc, ◌<◌, ◌+◌, Bool, true, false, not, ◌&&◌, ◌||◌, Some, None, Option, List, [], ◌∷◌, All, length, get_or, refl, sym, ap, ◌∙◌, subst, arith, ◌==◌, slice_get, map}
use Rattle.diag_evidence.proofs.Vocabulary.{list_any, list_all, range_with_len, option_map_or, false≢true, and_parts, or_left, or_right}
use Rattle.diag_evidence.proofs.Vocabulary.{nat_tests, slice_get-get_or, Shape, get_or_past, has_number, Ends, ends_of, pin_wire, pins_of}
use Rattle.diag_evidence.proofs.Vocabulary.{wires_of, Joined-sym, Joined-trans, Joined-Shorted, Ends-swap, LeadsTo-end, conducting}
use Rattle.diag_evidence.proofs.Vocabulary.{pin_value, reads_apart, Cycles-length, RigState, other_end}
use Rattle.std.proofs.lemmas.List.FromFn.{get_or-map-range_with_len}
use native.Mathlib.Decide.{dec_lt}
use Rattle.machine_meaning.specs.Vocabulary.{Circuit, Pins, Outputs, IsValue, IsHeld, Faults, stuck_cross, stuck_wire, Net, Joined, here, then, crossed, Shorted, net_of, IsClear}
use Rattle.machine_meaning.proofs.Values.{swings as two_values}
use Rattle.machine_config.specs.Vocabulary.{Configuration, is_closed, circuit_of, IsRun, among, Runs, Cycles, none, cycle, at_load, LeadsTo}
use Rattle.machine_config.proofs.Distance.{cycles_alike}
use Rattle.diag_evidence.specs.Vocabulary.{Kept, is_apart, HoldsFor, Gain, Trees, HangsOn, pin_of, is_hung, is_laid, IsForest, KeepsForest, IsLook, LogsLook, look_drives, one_driven, none_driven, differ, parts, swings, reads_somewhere, hangs_swinging, parts_from_others, joins_alone, read_at, seen_in, Foot, IsFoot, closes, pin_at, feet_crosses, seen_on, is_swinging_on, all_hang}
use Rattle.diag_evidence.proofs.Advancing.{joined_along}
use Rattle.diag_evidence.proofs.Found.{IsSome_of, some_of}
use Rattle.diag_evidence.proofs.Footing.{pin_below, foot_below}
use Rattle.diag_evidence.proofs.KeptLemmas.{GainHoldsFor, has_apart}
use Rattle.diag_evidence.proofs.Growing.{hung_by, within_places}
use Rattle.diag_evidence.proofs.Rows.{differ_so, drives_count, number_of_any, of_every}

none_by : (o : Option Bool) → ((v : Bool) → o ≡ Some v → ⊥) → o ≡ None
none_by None n = refl
none_by (Some v) n = absurd (n v refl)

not_true : (b : Bool) → not b ≡ true → b ≡ false
not_true true e = absurd (false≢true e)
not_true false e = refl

-- the bit that was asked for
bit_is : (a b : Bool) → not (differ a b) ≡ true → a ≡ b
bit_is true true e = refl
bit_is true false e = absurd (false≢true e)
bit_is false true e = absurd (false≢true e)
bit_is false false e = refl

module _ (f : Faults) (g : Configuration) where
  -- a pin that reads 0 in one cycle and 1 in another is joined to no stuck wire
  pub two_readings : {low high r q : Pins} (k : ℕ) → k < pins_of g.shape → IsRun f g (low ∷ []) (r ∷ []) → IsRun f g (high ∷ []) (q ∷ []) → get_or r k true ≡ false → get_or q k true ≡ true →
      (b : Bool) → ¬ IsHeld (circuit_of f g) (pin_wire g.shape k) b
  two_readings {low} {high} {r} {q} k below run later zero_ one_ b held = by run.cycles later.cycles
    where
      by : {x y : Outputs} → Cycles (circuit_of f g) (at_load (circuit_of f g)) (low ∷ []) (r ∷ []) x → Cycles (circuit_of f g) (at_load (circuit_of f g)) (high ∷ []) (q ∷ []) y → ⊥
      by (cycle s none) (cycle t none) = two_values (pin_value s k below zero_) (pin_value t k below one_) b held

-- A look whose faults are told.
module _ {told : Option Faults} {m : Shape} {close : ℕ → Bool} {rows : List Pins} (look : IsLook told m close rows) (f : Faults) (is : told ≡ Some f) where
  abbrev pub g : Configuration
  g = look.config

  abbrev net : Net
  net = net_of g.shape f (is_closed g)

  pub all_rows : length rows ≡ pins_of m + 1
  all_rows = Cycles-length (circuit_of f g) (look.run f is).cycles ∙ drives_count (pins_of m)

  -- each row is the reading of a first cycle
  pub one_row : (i : ℕ) → i < pins_of m + 1 → IsRun f g (get_or (look_drives (pins_of m)) i [] ∷ []) (get_or rows i [] ∷ [])
  one_row i below = cycles_alike f g (look_drives (pins_of m)) rows i _ _ look.off (look.run f is)
      (slice_get-get_or (look_drives (pins_of m)) i [] (let e = drives_count (pins_of m) in omega (arith, below, e)))
      (slice_get-get_or rows i [] (let e = all_rows in omega (arith, below, e)))

  -- that of the cycle in which nothing is driven, and in which a pin is
  pub row_free : IsRun f g (none_driven (pins_of m) ∷ []) (get_or rows 0 [] ∷ [])
  row_free = one_row 0 (omega arith)

  pub row_under : (k : ℕ) → k < pins_of m → IsRun f g (one_driven (pins_of m) k ∷ []) (get_or rows (k + 1) [] ∷ [])
  row_under k below = subst (λ d. IsRun f g (d ∷ []) (get_or rows (k + 1) [] ∷ [])) drive (one_row (k + 1) (omega (arith, below)))
    where
      next : (i : ℕ) → get_or (look_drives (pins_of m)) (suc i) [] ≡ get_or (map (one_driven (pins_of m)) (range_with_len 0 (pins_of m))) i []
      next i = refl

      drive : get_or (look_drives (pins_of m)) (k + 1) [] ≡ one_driven (pins_of m) k
      drive = let e : k + 1 ≡ suc k = omega arith in ap (λ i. get_or (look_drives (pins_of m)) i []) e ∙ next k ∙ get_or-map-range_with_len (one_driven (pins_of m)) 0 (pins_of m) k k [] below (omega arith)

  here_below : {k : ℕ} → k < pins_of m → k < pins_of g.shape
  here_below {k} below = subst (λ n. k < pins_of n) (sym look.shape) below

  -- pins that part aren't joined
  pub part_unjoined : (a b : ℕ) → a < pins_of m → b < pins_of m → parts rows a b ≡ true → ¬ Joined net (pin_wire g.shape a) (pin_wire g.shape b)
  part_unjoined a b ha hb part = by (some_of (λ row. differ (get_or row a true) (get_or row b true)) rows part)
    where
      by : IsSome_of (λ row. differ (get_or row a true) (get_or row b true)) rows → ¬ Joined net (pin_wire g.shape a) (pin_wire g.shape b)
      by s = reads_apart a b (one_row s.place (let e = all_rows in let l = s.below in omega (arith, e, l))).cycles (here_below ha) (here_below hb) (differ_so _ _ (s.holds []))

  -- nor are wires that are joined to such pins shorted
  pub part_unshorted : (a b w u : ℕ) → a < pins_of m → b < pins_of m → parts rows a b ≡ true → Joined net (pin_wire g.shape a) w → Joined net (pin_wire g.shape b) u → ¬ Shorted m f w u
  part_unshorted a b w u ha hb part j i s = part_unjoined a b ha hb part (Joined-trans j (Joined-trans (Joined-Shorted g.shape f (is_closed g) (subst (λ n. Shorted n f w u) (sym look.shape) s)) (Joined-sym i)))

  -- a pin that swings is joined to no stuck wire
  pub swing_unheld : (p : ℕ) → p < pins_of m → swings rows p ≡ true → (b : Bool) → ¬ IsHeld (circuit_of f g) (pin_wire g.shape p) b
  swing_unheld p below test_stuck = by (some_of (λ row. not (differ (get_or row p true) false)) rows both.0) (some_of (λ row. not (differ (get_or row p true) true)) rows both.1)
    where
      both : (reads_somewhere rows p false ≡ true) × (reads_somewhere rows p true ≡ true)
      both = and_parts (reads_somewhere rows p false) (reads_somewhere rows p true) test_stuck

      by : IsSome_of (λ row. not (differ (get_or row p true) false)) rows → IsSome_of (λ row. not (differ (get_or row p true) true)) rows → (b : Bool) → ¬ IsHeld (circuit_of f g) (pin_wire g.shape p) b
      by s t = let e = all_rows in let a = s.below in let b = t.below in
          two_readings f g p (here_below below) (one_row s.place (omega (arith, e, a))) (one_row t.place (omega (arith, e, b))) (bit_is _ _ (s.holds [])) (bit_is _ _ (t.holds []))

  pub swing_clear : (p w : ℕ) → p < pins_of m → swings rows p ≡ true → Joined net (pin_wire g.shape p) w → IsClear m f w
  swing_clear p w below test_stuck j u s = none_by (stuck_wire f u) (λ b e. swing_unheld p below test_stuck b
      (record { place = u; joined = Joined-trans j (Joined-Shorted g.shape f (is_closed g) (subst (λ n. Shorted n f w u) (sym look.shape) s)); stuck = e }))

  -- A forest whose crosspoints aren't stuck, in a look that closes them.
  module _ (trees : Trees) (same : trees.shape ≡ m) (forest : IsForest trees) (free : (x : ℕ) → is_laid trees x ≡ true → stuck_cross f x ≡ None) (shut : (x : ℕ) → is_laid trees x ≡ true → close x ≡ true) where
    conducts : (x : ℕ) → stuck_cross f x ≡ None → close x ≡ true → net.conducts x ≡ true
    conducts x open_ on = conducting f g (stuck_cross f x) (is_closed g x) (look.closed x ∙ on) open_

    to_shape : trees.shape ≡ g.shape
    to_shape = same ∙ sym look.shape

    -- a wire that hangs is joined to its pin
    pub standing : (w p : ℕ) → HangsOn trees w p → Joined net (pin_wire g.shape p) w
    standing w p h = let l = forest.led w p h in
        joined_along here (subst (λ n. LeadsTo n (pin_wire n p) l.crosses l.wires w) to_shape l.leads) (λ x on. conducts x (free x (l.laid x on)) (shut x (l.laid x on))) w (LeadsTo-end l.leads)

    pub pin_inside : (w p : ℕ) → HangsOn trees w p → p < pins_of m
    pin_inside w p h = subst (λ n. p < pins_of n) same (pin_below trees w p forest h)

    -- and so is the wire of a foot whose crosspoint isn't stuck
    pub standing_on : (foot : Foot) → IsFoot trees foot → stuck_cross f foot.1.0 ≡ None → close foot.1.0 ≡ true → Joined net (pin_wire g.shape (pin_at trees foot)) foot.0.0
    standing_on foot at open_ on = then (standing _ (pin_at trees foot) at.hangs)
        (crossed foot.1.0 (conducts foot.1.0 open_ on) (subst (λ n. Ends (ends_of n foot.1.0) (other_end trees.shape foot.1.0 foot.0.0) foot.0.0) to_shape (Ends-swap at.ends)))

    pub foot_inside : (foot : Foot) → IsFoot trees foot → pin_at trees foot < pins_of m
    foot_inside foot at = subst (λ n. pin_at trees foot < pins_of n) same (foot_below trees foot forest at)

    -- A pin of the machine that joins the set ..
    record Joins (a : ℕ) : Type 0 where
      pin : ℕ
      below : pin < pins_of trees.shape
      is_it : pin_wire trees.shape pin ≡ a
      hangs : HangsOn trees a pin
      parts_all : parts_from_others trees rows pin a ≡ true

    joins_so : (a : ℕ) → (seen_in trees rows).apart a ≡ true → Joins a
    joins_so a is_on =
        let s = number_of_any (λ k. (pin_wire trees.shape k == a) && joins_alone trees rows k) (pins_of trees.shape) is_on in
        let b = and_parts (pin_wire trees.shape s.0 == a) (joins_alone trees rows s.0) s.2 in
        let j = and_parts (is_hung trees (pin_wire trees.shape s.0)) (swings rows s.0 && parts_from_others trees rows s.0 (pin_wire trees.shape s.0)) b.1 in
        let h = hung_by (pin_of trees (pin_wire trees.shape s.0)) j.0 in
        let own : h.0 ≡ s.0 = forest.pins s.0 h.0 s.1 h.1 in
        let here_ : pin_wire trees.shape s.0 ≡ a = (let e = b.0 in grind (arith, nat_tests, e)) in
        record {
          pin = s.0;
          below = s.1;
          is_it = here_;
          hangs = subst (λ w. HangsOn trees w s.0) here_ (subst (λ p. HangsOn trees (pin_wire trees.shape s.0) p) own h.1);
          parts_all = subst (λ w. parts_from_others trees rows s.0 w ≡ true) here_ (and_parts (swings rows s.0) (parts_from_others trees rows s.0 (pin_wire trees.shape s.0)) j.1).1;
        }

    -- .. isn't shorted to another wire that hangs
    joins_apart : (a b p : ℕ) → Joins a → HangsOn trees b p → a ≢ b → ¬ Shorted m f a b
    joins_apart a b p j h n short = part_unshorted p j.pin b a (pin_inside b p h) (pin_inside a j.pin j.hangs) part (standing b p h) (standing a j.pin j.hangs) (Joined-sym short)
      where
        below_wires : b < wires_of trees.shape
        below_wires = let w = within_places trees.pins b p h in let e = forest.wires in omega (arith, w, e)

        case_of : ((b == a) || option_map_or (λ q. parts rows q j.pin) (pin_of trees b) true) ≡ true
        case_of = of_every (λ u. (u == a) || option_map_or (λ q. parts rows q j.pin) (pin_of trees u) true) (wires_of trees.shape) b j.parts_all below_wires

        part : parts rows p j.pin ≡ true
        part =
            let other : (b == a) ≡ false = (let d : b ≢ a = λ e. n (sym e) in grind (arith, nat_tests, d)) in
            sym (ap (λ o. option_map_or (λ q. parts rows q j.pin) o true) h) ∙ sym (ap (λ t. t || option_map_or (λ q. parts rows q j.pin) (pin_of trees b) true) other) ∙ case_of

    -- what is seen of wires that hang is true
    pub seen_in_holds : (k : Kept) → k.shape ≡ m → ((w : ℕ) → is_apart k w ≡ true → is_hung trees w ≡ true) → GainHoldsFor k (seen_in trees rows) f
    seen_in_holds k there hang = record {
      crosses = λ x no_. absurd (false≢true no_);
      wires = λ w is_on. subst (λ n. IsClear n f w) (sym there) (clear w (pin_of trees w) refl is_on);
      joined = λ a b is_on also n. subst (λ s. ¬ Shorted s f a b) (sym there) (let j = joins_so b also in joins_apart a b j.pin (joins_so a is_on) j.hangs n);
      joins = λ a b is_on of_set n. subst (λ s. ¬ Shorted s f a b) (sym there) (let h = hung_by (pin_of trees b) (hang b of_set) in joins_apart a b h.0 (joins_so a is_on) h.1 n);
      row = λ a b t no_. absurd (false≢true no_);
      cells = λ t a no_. absurd (false≢true no_);
      registers = λ t no_. absurd (false≢true no_);
    }
      where
        clear : (w : ℕ) (o : Option ℕ) → pin_of trees w ≡ o → option_map_or (λ p. swings rows p) o false ≡ true → IsClear m f w
        clear w None e no_ = absurd (false≢true no_)
        clear w (Some p) e test_stuck = swing_clear p w (pin_inside w p e) test_stuck (standing w p e)

    -- and what is seen of wires on feet
    module _ (feet : List Foot) (each : All (IsFoot trees) feet) (opens : (x : ℕ) → among (feet_crosses feet) x ≡ true → stuck_cross f x ≡ None) (on : (x : ℕ) → among (feet_crosses feet) x ≡ true → close x ≡ true) where
      in_feet : (i : ℕ) (d : Foot) → i < length feet → among (feet_crosses feet) (get_or feet i d).1.0 ≡ true
      in_feet i d below = stands_among feet i d below
        where
          stands_among : (feet : List Foot) (i : ℕ) (d : Foot) → i < length feet → among (feet_crosses feet) (get_or feet i d).1.0 ≡ true
          stands_among [] i d below = absurd (omega (arith, below))
          stands_among (foot ∷ feet) zero d below = or_left (foot.1.0 == foot.1.0) (among (feet_crosses feet) foot.1.0) (grind (arith, nat_tests))
          stands_among (foot ∷ feet) (suc i) d below = or_right (foot.1.0 == (get_or feet i d).1.0) (among (feet_crosses feet) (get_or feet i d).1.0) (stands_among feet i d (omega (arith, below)))

      d : Foot
      d = (record { 0 = 0 }, record { 0 = 0 })

      -- the foot of a place
      foot_joined : (i : ℕ) → i < length feet → Joined net (pin_wire g.shape (pin_at trees (get_or feet i d))) (get_or feet i d).0.0
      foot_joined i below = standing_on (get_or feet i d) (each i d below) (opens _ (in_feet i d below)) (on _ (in_feet i d below))

      foot_pin : (i : ℕ) → i < length feet → pin_at trees (get_or feet i d) < pins_of m
      foot_pin i below = foot_inside (get_or feet i d) (each i d below)

      same_number : (a b : ℕ) → (a == b) ≡ true → a ≡ b
      same_number a b e = grind (arith, nat_tests, e)

      pub seen_on_holds : (k : Kept) → k.shape ≡ m → GainHoldsFor k (seen_on trees feet rows) f
      seen_on_holds k there = record {
        crosses = opens;
        wires = λ w is_on. subst (λ n. IsClear n f w) (sym there) (clear w (some_of (λ (foot : Foot). (foot.0.0 == w) && swings rows (pin_at trees foot)) feet is_on));
        joined = λ a b no_. absurd (false≢true no_);
        joins = λ a b no_. absurd (false≢true no_);
        row = λ a b t no_. absurd (false≢true no_);
        cells = λ t a no_. absurd (false≢true no_);
        registers = λ t no_. absurd (false≢true no_);
      }
        where
          clear : (w : ℕ) → IsSome_of (λ (foot : Foot). (foot.0.0 == w) && swings rows (pin_at trees foot)) feet → IsClear m f w
          clear w t = let h = and_parts _ _ (t.holds d) in
              subst (IsClear m f) (same_number _ _ h.0) (swing_clear (pin_at trees (get_or feet t.place d)) _ (foot_pin t.place t.below) h.1 (foot_joined t.place t.below))

-- all wires of the set hang
pub all_hang_so : (set : List Bool) (trees : Trees) → all_hang set trees ≡ true → (w : ℕ) → has_number set w ≡ true → is_hung trees w ≡ true
all_hang_so set trees all w is = by (dec_lt w (length set))
  where
    second : (a b : Bool) → (not a || b) ≡ true → a ≡ true → b ≡ true
    second true b e f = e
    second false b e f = absurd (false≢true f)

    by : Dec (w < length set) → is_hung trees w ≡ true
    by (yes h) = second (has_number set w) (is_hung trees w) (of_every (λ w. not (has_number set w) || is_hung trees w) (length set) w all h) is
    by (no n) = absurd (false≢true (sym (get_or_past set w false (omega arith)) ∙ is))

-- what a look at a forest shows, over what is kept
pub look_holds : (told : Option Faults) (k : Kept) (trees : Trees) (rows : List Pins) → IsForest trees → KeepsForest k trees → all_hang k.apart trees ≡ true → IsLook told trees.shape (is_laid trees) rows →
    (f : Faults) → told ≡ Some f → HoldsFor k f → GainHoldsFor k (seen_in trees rows) f
look_holds told k trees rows forest keeps hang look f is holds =
    seen_in_holds look f is trees refl forest (λ x on. holds.crosses x (keeps.crosses x on)) (λ x on. on) k (sym keeps.shape) (λ w of_set. all_hang_so k.apart trees hang w (has_apart k w ∙ of_set))

-- no feet close nothing more ..
bare_too : (b : Bool) → (b || false) ≡ b
bare_too true = refl
bare_too false = refl

-- .. so a look at none is one at the forest alone
pub no_feet : (told : Option Faults) (trees : Trees) (rows : List Pins) → IsLook told trees.shape (closes trees []) rows → IsLook told trees.shape (is_laid trees) rows
no_feet told trees rows look = record {
  config = look.config;
  shape = look.shape;
  closed = λ x. look.closed x ∙ bare_too (is_laid trees x);
  off = look.off;
  ticks = look.ticks;
  run = look.run;
}

pub no_feet_logged : (trees : Trees) (rows : List Pins) (old new : RigState) → LogsLook trees.shape (closes trees []) rows old new → LogsLook trees.shape (is_laid trees) rows old new
no_feet_logged trees rows old new logs = let look = logs.look in record {
  session = logs.session;
  look = record {
    shape = look.shape;
    closed = λ x. look.closed x ∙ bare_too (is_laid trees x);
    off = look.off;
    ticks = look.ticks;
    driven = look.driven;
    read = look.read;
  };
  logged = logs.logged;
}
