-- Over a seat the tests of a right table pass.
use Rattle.std.proofs.Common.{◌≡◌, ◌≢◌, ◌⊎◌, ◌<◌, ◌/◌, ◌%◌, ◌++◌, ℕ, zero, suc, Bool, true, false, if◌then◌else◌, Some, None, Option, List, [], ◌∷◌, map, length, refl, sym, ap, ◌∙◌, subst, inl, inr, arith, ◌==◌, ◌||◌, unwrap_or, slice_get}
use Rattle.diag_growth.proofs.Vocabulary.{range_with_len, false≢true, or_cases, or_left, or_right, nat_tests, Shape, Ends, in_order, turned}
use Rattle.diag_growth.proofs.Vocabulary.{ends_of, table_wire, untried_crosses, untried_wires, Arm, Seat, near_wires, far_wires}
use Rattle.diag_growth.proofs.Vocabulary.{IsKeptBetween, IsSeat, bit_of, IsSeatTie, to_output, on_arm, AreSeatTies}
use Rattle.std.proofs.lemmas.List.Folds.{list_any-append}
use Rattle.machine_meaning.specs.Vocabulary.{Shorted, IsClear, Faults, wrong_cell, stuck_cross}
use Rattle.machine_config.specs.Vocabulary.{among, both, IsWithin, AreClear, AreUnshorted, ends, goes, number_of, IsLoose}
use Rattle.machine_config.proofs.Grouped.{LeadsTo-end}
use Rattle.diag_evidence.specs.Vocabulary.{Kept, HoldsUntried, untried, keeps_wire, keeps_pair, IsTied, IsTableBy, IsCellBy}
use Rattle.diag_growth.proofs.Tying.{in_one, one_in}

bit_value : (n : ℕ) → (if n % 2 == 1 then 1 else 0) ≡ n % 2
bit_value n = by (n % 2 == 1) refl
  where
    by : (b : Bool) → (n % 2 == 1) ≡ b → (if b then 1 else 0) ≡ n % 2
    by true e = let h : n % 2 ≡ 1 = grind (arith, nat_tests) in sym h
    by false e = let h : n % 2 ≢ 1 = (λ s. grind (arith, nat_tests)) in omega arith

-- an address is the number of its bits
pub number_is : (a : ℕ) → a < 64 → number_of (map (bit_of a) (range_with_len 0 6)) ≡ a
number_is a h = rw (bit_value a, bit_value (a / 2), bit_value (a / 2 / 2), bit_value (a / 2 / 2 / 2), bit_value (a / 2 / 2 / 2 / 2), bit_value (a / 2 / 2 / 2 / 2 / 2)) (omega arith)

-- the inputs whose bit is 0
abbrev pub low_inputs : Shape → ℕ → (ℕ → Bool) → ℕ → List ℕ
low_inputs m t bits zero = []
low_inputs m t bits (suc j) = if bits j then low_inputs m t bits j else table_wire m t j ∷ low_inputs m t bits j

record LowInput (m : Shape) (t : ℕ) (bits : ℕ → Bool) (n w : ℕ) : Type 0 where
  place : ℕ
  below : place < n
  low : bits place ≡ false
  is : table_wire m t place ≡ w

low_in : (m : Shape) (t : ℕ) (bits : ℕ → Bool) (n j : ℕ) → j < n → bits j ≡ false → among (low_inputs m t bits n) (table_wire m t j) ≡ true
low_in m t bits zero j h e = absurd (omega arith)
low_in m t bits (suc n) j h e = by (low_in m t bits n j) (bits n) refl
  where
    at_place : (j < n → bits j ≡ false → among (low_inputs m t bits n) (table_wire m t j) ≡ true) → (j ≡ n) ⊎ (j < n) → among (table_wire m t n ∷ low_inputs m t bits n) (table_wire m t j) ≡ true
    at_place rest (inl s) = or_left (table_wire m t n == table_wire m t j) (among (low_inputs m t bits n) (table_wire m t j)) (grind (arith, nat_tests))
    at_place rest (inr b) = or_right (table_wire m t n == table_wire m t j) (among (low_inputs m t bits n) (table_wire m t j)) (rest b e)

    places : (j ≡ n) ⊎ (j < n)
    places = by_test (j == n) refl
      where
        by_test : (t : Bool) → (j == n) ≡ t → (j ≡ n) ⊎ (j < n)
        by_test true d = inl (grind (arith, nat_tests))
        by_test false d = inr (let o : j ≢ n = (λ s. grind (arith, nat_tests)) in omega arith)

    by : (j < n → bits j ≡ false → among (low_inputs m t bits n) (table_wire m t j) ≡ true) → (b : Bool) → bits n ≡ b → among (if b then low_inputs m t bits n else table_wire m t n ∷ low_inputs m t bits n) (table_wire m t j) ≡ true
    by rest true d = later places
      where
        later : (j ≡ n) ⊎ (j < n) → among (low_inputs m t bits n) (table_wire m t j) ≡ true
        later (inl s) = absurd (false≢true (sym e ∙ ap bits s ∙ d))
        later (inr b) = rest b e
    by rest false d = at_place rest places

in_low : (m : Shape) (t : ℕ) (bits : ℕ → Bool) (n w : ℕ) → among (low_inputs m t bits n) w ≡ true → LowInput m t bits n w
in_low m t bits zero w is = absurd (false≢true is)
in_low m t bits (suc n) w is = by (in_low m t bits n w) (bits n) refl is
  where
    further : LowInput m t bits n w → LowInput m t bits (suc n) w
    further h = record { place = h.place; below = (let b = h.below in omega arith); low = h.low; is = h.is }

    split : (among (low_inputs m t bits n) w ≡ true → LowInput m t bits n w) → bits n ≡ false → ((table_wire m t n == w) ≡ true) ⊎ (among (low_inputs m t bits n) w ≡ true) → LowInput m t bits (suc n) w
    split rest d (inl h) = record { place = n; below = omega arith; low = d; is = grind (arith, nat_tests) }
    split rest d (inr h) = further (rest h)

    by : (among (low_inputs m t bits n) w ≡ true → LowInput m t bits n w) → (b : Bool) → bits n ≡ b → among (if b then low_inputs m t bits n else table_wire m t n ∷ low_inputs m t bits n) w ≡ true → LowInput m t bits (suc n) w
    by rest true d g = further (rest g)
    by rest false d g = split rest d (or_cases (table_wire m t n == w) (among (low_inputs m t bits n) w) g)

-- membership in a list and its parts
in_append : (xs ys : List ℕ) (w : ℕ) → among (xs ++ ys) w ≡ (among xs w || among ys w)
in_append xs ys w = list_any-append (λ y. y == w) xs ys

line_in : (arms : List Arm) (j : ℕ) (a : Arm) → slice_get arms j ≡ Some a → among (map (λ (b : Arm). b.line.0) arms) a.line.0 ≡ true
line_in [] j a at = cc
line_in (b ∷ arms) zero a at = or_left (b.line.0 == a.line.0) (among (map (λ (x : Arm). x.line.0) arms) a.line.0) (itself (ap (λ (o : Option Arm). (unwrap_or o b).line.0) at))
  where
    itself : {x y : ℕ} → x ≡ y → (x == y) ≡ true
    itself e = grind (arith, nat_tests)
line_in (b ∷ arms) (suc j) a at = or_right (b.line.0 == a.line.0) (among (map (λ (x : Arm). x.line.0) arms) a.line.0) (line_in arms j a at)

-- what stands at a place
get_some : {X : Type 0} (xs : List X) (j : ℕ) → j < length xs → (x : X) × (slice_get xs j ≡ Some x)
get_some [] j below = absurd (omega arith)
get_some (x ∷ xs) zero below = (x, refl)
get_some (x ∷ xs) (suc j) below = get_some xs j (omega arith)

within_of : {m : Shape} {x a b : ℕ} (group : ℕ → Bool) → Ends (ends_of m x) a b → group a ≡ true → group b ≡ true → IsWithin m group x
within_of group (in_order s t) p q = record { tap = subst (λ w. group w ≡ true) (sym s) p; line = subst (λ w. group w ≡ true) (sym t) q }
within_of group (turned s t) p q = record { tap = subst (λ w. group w ≡ true) (sym s) q; line = subst (λ w. group w ≡ true) (sym t) p }

module _ (k : Kept) (f : Faults) (holds : HoldsUntried k f) (s : Seat) (seat : IsSeat k s) (bits : ℕ → Bool) (ties : List ℕ) (tied : AreSeatTies s bits 6 (among ties)) where
  abbrev m : Shape
  m = k.shape

  abbrev t : ℕ
  t = s.table.0

  abbrev pub near : ℕ → Bool
  near = both (among (near_wires s)) (among (low_inputs m t bits 6))

  abbrev pub far : ℕ → Bool
  far = among (far_wires m s)

  near_in : (w : ℕ) → among (near_wires s) w ≡ true → near w ≡ true
  near_in w h = or_left (among (near_wires s) w) (among (low_inputs m t bits 6) w) h

  near_cases : (w : ℕ) → near w ≡ true → (among (near_wires s) w ≡ true) ⊎ LowInput m t bits 6 w
  near_cases w h = by (or_cases (among (near_wires s) w) (among (low_inputs m t bits 6) w) h)
    where
      by : (among (near_wires s) w ≡ true) ⊎ (among (low_inputs m t bits 6) w ≡ true) → (among (near_wires s) w ≡ true) ⊎ LowInput m t bits 6 w
      by (inl g) = inl g
      by (inr g) = inr (in_low m t bits 6 w g)

  route_in : (w : ℕ) → among s.near.wires w ≡ true → near w ≡ true
  route_in w h = near_in w (in_append s.near.wires (map (λ (a : Arm). a.line.0) s.arms.items) w ∙ or_left (among s.near.wires w) (among (map (λ (a : Arm). a.line.0) s.arms.items) w) h)

  arm_in : (j : ℕ) (a : Arm) → slice_get s.arms.items j ≡ Some a → near a.line.0 ≡ true
  arm_in j a at = near_in a.line.0 (in_append s.near.wires (map (λ (b : Arm). b.line.0) s.arms.items) a.line.0 ∙ or_right (among s.near.wires a.line.0) (among (map (λ (b : Arm). b.line.0) s.arms.items) a.line.0) (line_in s.arms.items j a at))

  input_in : (j : ℕ) → j < 6 → bits j ≡ false → near (table_wire m t j) ≡ true
  input_in j h e = or_right (among (near_wires s) (table_wire m t j)) (among (low_inputs m t bits 6) (table_wire m t j)) (low_in m t bits 6 j h e)

  far_in : (w : ℕ) → among s.far.wires w ≡ true → far w ≡ true
  far_in w h = in_append s.far.wires (table_wire m t 6 ∷ []) w ∙ or_left (among s.far.wires w) (among (table_wire m t 6 ∷ []) w) h

  output_in : far (table_wire m t 6) ≡ true
  output_in = in_append s.far.wires (table_wire m t 6 ∷ []) (table_wire m t 6) ∙ or_right (among s.far.wires (table_wire m t 6)) (among (table_wire m t 6 ∷ []) (table_wire m t 6)) (one_in (table_wire m t 6) (table_wire m t 6) refl)

  near_clear : AreClear m f near
  near_clear w h = by (near_cases w h)
    where
      by : (among (near_wires s) w ≡ true) ⊎ LowInput m t bits 6 w → IsClear m f w
      by (inl g) = untried_wires k holds w (seat.near_kept w g)
      by (inr g) = untried_wires k holds w (subst (λ v. keeps_wire k v ≡ true) g.is (seat.inputs g.place g.below))

  sides_apart : AreUnshorted m f near far
  sides_apart w u h on = by (near_cases w h)
    where
      by : (among (near_wires s) w ≡ true) ⊎ LowInput m t bits 6 w → ¬ Shorted m f w u
      by (inl g) = holds.pairs w u (seat.sides w u g on)
      by (inr g) = holds.pairs w u (subst (λ v. keeps_pair (untried k) v u ≡ true) g.is (seat.far_inputs g.place u g.below on))

  tie_in : (y : ℕ) → IsSeatTie s bits 6 y → IsWithin m near y ⊎ IsWithin m far y
  tie_in y (to_output e) = inr (subst (IsWithin m far) e (within_of far seat.output.at (far_in s.far.end (LeadsTo-end seat.far.route.leads)) output_in))
  tie_in y (on_arm j a below at low (inl e)) = inl (subst (IsWithin m near) e (within_of near (seat.arms j a at).to_line.at (route_in s.near.end (LeadsTo-end seat.near.route.leads)) (arm_in j a at)))
  tie_in y (on_arm j a below at low (inr e)) = inl (subst (IsWithin m near) e (within_of near (seat.arms j a at).to_input.at (arm_in j a at) (input_in j below low)))

  -- a kept tie
  tie : (y c a b : ℕ) → IsKeptBetween k c a b → IsSeatTie s bits 6 c → c ≡ y → (among ties y ≡ true) × (stuck_cross f y ≡ None)
  tie y c a b kept is e = subst (λ z. (among ties z ≡ true) × (stuck_cross f z ≡ None)) e (tied.all c is, untried_crosses k holds c kept.kept)

  output_tied : IsTied m f ties s.far.end (table_wire m t 6)
  output_tied = record {
    over = s.output.0 ∷ [];
    wires = s.far.end ∷ table_wire m t 6 ∷ [];
    leads = goes seat.output.below seat.output.at ends;
    free = λ y h. tie y s.output.0 _ _ seat.output (to_output refl) (in_one s.output.0 y h);
  }

  input_tied : (j : ℕ) (a : Arm) → j < 6 → slice_get s.arms.items j ≡ Some a → bits j ≡ false → IsTied m f ties s.near.end (table_wire m t j)
  input_tied j a below at low =
      let arm = seat.arms j a at in
      record {
        over = a.to_line.0 ∷ a.to_input.0 ∷ [];
        wires = s.near.end ∷ a.line.0 ∷ table_wire m t j ∷ [];
        leads = goes arm.to_line.below arm.to_line.at (goes arm.to_input.below arm.to_input.at ends);
        free = λ y h. by y (or_cases (a.to_line.0 == y) (among (a.to_input.0 ∷ []) y) h);
      }
    where
      by : (y : ℕ) → ((a.to_line.0 == y) ≡ true) ⊎ (among (a.to_input.0 ∷ []) y ≡ true) → (among ties y ≡ true) × (stuck_cross f y ≡ None)
      by y (inl h) = tie y a.to_line.0 _ _ (seat.arms j a at).to_line (on_arm j a below at low (inl refl)) (grind (arith, nat_tests))
      by y (inr h) = tie y a.to_input.0 _ _ (seat.arms j a at).to_input (on_arm j a below at low (inr refl)) (in_one a.to_input.0 y h)

  pub table_by : IsTableBy m f s.near s.far ties t near far
  table_by = record {
    left_in = route_in;
    right_in = far_in;
    ties_in = λ y is. tie_in y (tied.only y is);
    left_clear = near_clear;
    right_clear = λ w h. untried_wires k holds w (seat.far_kept w h);
    apart = sides_apart;
    output = output_tied;
  }

  -- an input whose bit is 1
  loose : (j : ℕ) → j < 6 → bits j ≡ true → IsLoose m f near far (table_wire m t j)
  loose j h high = record { clear = untried_wires k holds (table_wire m t j) (seat.inputs j h); off_left = off; off_right = λ u on. holds.pairs (table_wire m t j) u (seat.far_inputs j u h on) }
    where
      off : (u : ℕ) → near u ≡ true → ¬ Shorted m f (table_wire m t j) u
      off u is = by (near_cases u is)
        where
          by : (among (near_wires s) u ≡ true) ⊎ LowInput m t bits 6 u → ¬ Shorted m f (table_wire m t j) u
          by (inl g) = holds.pairs (table_wire m t j) u (seat.near_inputs j u h g)
          by (inr g) = holds.pairs (table_wire m t j) u (subst (λ v. keeps_pair (untried k) (table_wire m t j) v ≡ true) g.is (seat.between_inputs j g.place h g.below (λ e. false≢true (sym g.low ∙ ap bits (sym e) ∙ high))))

  pub cell_by : (a : ℕ) → number_of (map bits (range_with_len 0 6)) ≡ a → wrong_cell f t a ≡ None → IsCellBy m f s.near s.far ties t a near far bits
  cell_by a number right = record { table = table_by; not_wrong = right; inputs = λ j h. by j h (bits j) refl; number = number }
    where
      by : (j : ℕ) → j < 6 → (b : Bool) → bits j ≡ b →
          ((bits j ≡ false) × (near (table_wire m t j) ≡ true) × IsTied m f ties s.near.end (table_wire m t j)) ⊎ ((bits j ≡ true) × IsLoose m f near far (table_wire m t j))
      by j h false e = let a = get_some s.arms.items j (rw seat.count h) in inl (e, input_in j h e, input_tied j a.0 h a.1 e)
      by j h true e = inr (e, loose j h e)
