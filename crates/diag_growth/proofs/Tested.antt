-- What tests over a seat leave.
use Rattle.std.proofs.Common.{◌≡◌, ◌⊎◌, ◌<◌, ◌≤◌, ◌+◌, ◌*◌, ℕ, zero, suc, Bool, true, false, ◌&&◌, ◌||◌, Some, None, Option, List, [], ◌∷◌, refl, sym, ◌∙◌, subst, inl, inr, arith, ◌==◌, ◌≢◌, All, IsTrue, length, slice_index_or}
use Rattle.diag_growth.proofs.Vocabulary.{nat_tests, Cross, Shape, crosses_of, table_wire, tables_of, Faults, wrong_cell, among, Walk}
use Rattle.diag_growth.proofs.Vocabulary.{cross_numbers, RigState, ForEach, untried_later, Arm, Seat}
use Rattle.diag_evidence.specs.Kept.{Kept, HoldsFor, IsMore, Advances, Gains, untried, one_cell, one_register, keeps_wire, keeps_pair, keeps_cell, keeps_register}
use Rattle.diag_growth.specs.Seats.{near_wires, far_wires, IsKeptBetween, IsKeptWalk, IsArm, IsSeat, TableIf, AddsOnlyTableFacts}
use Rattle.diag_growth.proofs.Tying.{lt_or}
use Rattle.diag_growth.specs.Ties.{IsSeatTie, to_output, on_arm, AreSeatTies, CellIf, CellsIf, RegisterIf}

-- ties are crosspoints of the machine
tie_below : {k : Kept} {s : Seat} {bits : ℕ → Bool} {n c : ℕ} → IsSeat k s → IsSeatTie s bits n c → c < crosses_of k.shape
tie_below {k} seat (to_output e) = subst (λ c. c < crosses_of k.shape) e seat.output.below
tie_below {k} seat (on_arm j a below at low (inl e)) = subst (λ c. c < crosses_of k.shape) e (seat.arms j a at).to_line.below
tie_below {k} seat (on_arm j a below at low (inr e)) = subst (λ c. c < crosses_of k.shape) e (seat.arms j a at).to_input.below

all_below : (ties : List Cross) (n : ℕ) → ((x : ℕ) → among (cross_numbers ties) x ≡ true → x < n) → (i : ℕ) (d : Cross) → i < length ties → (slice_index_or ties i d).0 < n
all_below [] n h i d below = absurd (omega arith)
all_below (c ∷ ties) n h zero d below = h c.0 (grind (arith, nat_tests))
all_below (c ∷ ties) n h (suc i) d below = all_below ties n (λ x is. h x (grind (arith, nat_tests))) i d (omega arith)

pub ties_below : {k : Kept} {s : Seat} {bits : ℕ → Bool} {n : ℕ} (ties : List Cross) → IsSeat k s → AreSeatTies s bits n (among (cross_numbers ties)) → All (λ (c : Cross). c.0 < crosses_of k.shape) ties
ties_below {k} ties seat tied = all_below ties (crosses_of k.shape) (λ x is. tie_below seat (tied.only x is))

-- a seat stays one
between_later : {k l : Kept} {c a b : ℕ} → IsMore k l → IsKeptBetween k c a b → IsKeptBetween l c a b
between_later more h = record { below = rw more.shape h.below; kept = more.crosses _ h.kept; at = rw more.shape h.at }

walk_later : {k l : Kept} {r : Walk} → IsMore k l → IsKeptWalk k r → IsKeptWalk l r
walk_later more h = record { route = rw more.shape h.route; crosses = λ x is. more.crosses x (h.crosses x is) }

arm_later : {k l : Kept} {s : Seat} {j : ℕ} {a : Arm} → IsMore k l → IsArm k s j a → IsArm l s j a
arm_later {l = l} {s = s} {j = j} {a = a} more h = record { to_line = between_later more h.to_line; to_input = subst (λ (m : Shape). IsKeptBetween l a.to_input.0 a.line.0 (table_wire m s.table.0 j)) (sym more.shape) (between_later more h.to_input) }

pub seat_later : {k l : Kept} {s : Seat} → IsMore k l → IsSeat k s → IsSeat l s
seat_later {k} {l} {s} more h = record {
  table = of_shape (λ m. s.table.0 < tables_of m) h.table;
  near = walk_later more h.near;
  far = walk_later more h.far;
  count = h.count;
  arms = λ j a at. arm_later more (h.arms j a at);
  output = of_shape (λ m. IsKeptBetween l s.output.0 s.far.end (table_wire m s.table.0 6)) (between_later more h.output);
  near_kept = λ w is. more.wires w (h.near_kept w is);
  far_kept = of_shape (λ m. (w : ℕ) → among (far_wires m s) w ≡ true → keeps_wire l w ≡ true) (λ w is. more.wires w (h.far_kept w is));
  inputs = of_shape (λ m. (j : ℕ) → j < 6 → keeps_wire l (table_wire m s.table.0 j) ≡ true) (λ j b. more.wires _ (h.inputs j b));
  sides = of_shape (λ m. (w u : ℕ) → among (near_wires s) w ≡ true → among (far_wires m s) u ≡ true → keeps_pair (untried l) w u ≡ true)
      (λ w u is on. untried_later w u more (h.sides w u is on));
  near_inputs = of_shape (λ m. (j w : ℕ) → j < 6 → among (near_wires s) w ≡ true → keeps_pair (untried l) (table_wire m s.table.0 j) w ≡ true)
      (λ j w b is. untried_later _ w more (h.near_inputs j w b is));
  far_inputs = of_shape (λ m. (j w : ℕ) → j < 6 → among (far_wires m s) w ≡ true → keeps_pair (untried l) (table_wire m s.table.0 j) w ≡ true)
      (λ j w b is. untried_later _ w more (h.far_inputs j w b is));
  between_inputs = of_shape (λ m. (i j : ℕ) → i < 6 → j < 6 → i ≢ j → keeps_pair (untried l) (table_wire m s.table.0 i) (table_wire m s.table.0 j) ≡ true)
      (λ i j b d n. untried_later _ _ more (h.between_inputs i j b d n));
}
  where
    of_shape : (P : Shape → Type 0) → P k.shape → P l.shape
    of_shape P p = subst P (sym more.shape) p

-- what is gained is kept
pub gained_cell : (k l : Kept) (t a : ℕ) → Gains (one_cell t a) k l → keeps_cell l t a ≡ true
gained_cell k l t a g = g.cells t a ∙ by (t == t) (a == a) (keeps_cell k t a) (grind (arith, nat_tests)) (grind (arith, nat_tests))
  where
    by : (b d e : Bool) → b ≡ true → d ≡ true → ((b && d) || e) ≡ true
    by b d e p q = rw (p, q) refl

pub gained_register : (k l : Kept) (t : ℕ) → Gains (one_register t) k l → keeps_register l t ≡ true
gained_register k l t g = g.registers t ∙ by (t == t) (keeps_register k t) (grind (arith, nat_tests))
  where
    by : (b e : Bool) → b ≡ true → (b || e) ≡ true
    by b e p = rw p refl

-- the first n cells were tested
pub record HasTestedCells (first now : RigState) (k l : Kept) (s : Seat) (n : ℕ) : Type 0 where
  pub advances : Advances first now k l
  pub only : AddsOnlyTableFacts k l
  pub cells_each : ForEach now (λ told. CellsIf told k l s.table.0 n)
  pub loads : now.loads ≤ first.loads + 2 * n

-- one cell more
pub cells_first : (told : Option Faults) (k : Kept) (t : ℕ) → CellsIf told k k t 0
cells_first told k t = record { at = λ f is h a below right. absurd (omega arith) }

pub cells_next : {told : Option Faults} {k l n : Kept} {t i : ℕ} → ((f : Faults) → told ≡ Some f → HoldsFor k f → HoldsFor l f) → IsMore l n → CellsIf told k l t i → CellIf told l n t i → CellsIf told k n t (i + 1)
cells_next {told} {k} {l} {n} {t} {i} later more old new = record { at = λ f is h c below right. by f is h c right (lt_or c i below) }
  where
    by : (f : Faults) → told ≡ Some f → HoldsFor k f → (c : ℕ) → wrong_cell f t c ≡ None → (c < i) ⊎ (c ≡ i) → keeps_cell n t c ≡ true
    by f is h c right (inl less) = more.cells t c (old.at f is h c less right)
    by f is h c right (inr same) = subst (λ d. keeps_cell n t d ≡ true) (sym same) (new.at f is (later f is h) (subst (λ d. wrong_cell f t d ≡ None) same right))

pub cells_end : {told : Option Faults} {k l : Kept} {t i : ℕ} → i ≡ 64 → CellsIf told k l t i → CellsIf told k l t 64
cells_end {told} {k} {l} {t} e h = subst (λ i. CellsIf told k l t i) e h

pub table_next : {told : Option Faults} {k l n : Kept} {t : ℕ} → ((f : Faults) → told ≡ Some f → HoldsFor k f → HoldsFor l f) → IsMore l n → CellsIf told k l t 64 → RegisterIf told l n t → TableIf told k n t
table_next later more cells register = record {
  at = λ f is h right. record {
    cells = λ a below. more.cells _ a (cells.at f is h a below (right.cells a below));
    register = register.at f is (later f is h) right.register;
  };
}

-- only facts of tables are new
pub only_itself : {k : Kept} → AddsOnlyTableFacts k k
only_itself = record { crosses = λ x. refl; wires = λ w. refl; apart = λ w. refl }

pub only_then : {k l n : Kept} → AddsOnlyTableFacts k l → AddsOnlyTableFacts l n → AddsOnlyTableFacts k n
only_then a b = record { crosses = λ x. b.crosses x ∙ a.crosses x; wires = λ w. b.wires w ∙ a.wires w; apart = λ w. b.apart w ∙ a.apart w }

pub only_same : {k l : Kept} → l ≡ k → AddsOnlyTableFacts k l
only_same {k} e = subst (AddsOnlyTableFacts k) (sym e) only_itself

pub only_cell : {k l : Kept} (t a : ℕ) (yes : Bool) → (IsTrue yes → Gains (one_cell t a) k l) → (yes ≡ false → l ≡ k) → AddsOnlyTableFacts k l
only_cell t a true g same = let h = g refl in record { crosses = λ x. h.crosses x; wires = λ w. h.wires w; apart = λ w. h.apart w }
only_cell t a false g same = only_same (same refl)

pub only_register : {k l : Kept} (t : ℕ) (yes : Bool) → (IsTrue yes → Gains (one_register t) k l) → (yes ≡ false → l ≡ k) → AddsOnlyTableFacts k l
only_register t true g same = let h = g refl in record { crosses = λ x. h.crosses x; wires = λ w. h.wires w; apart = λ w. h.apart w }
only_register t false g same = only_same (same refl)
