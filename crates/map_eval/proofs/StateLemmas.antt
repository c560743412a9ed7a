-- Addresses and masks while signals change.
use Rattle.std.proofs.Common.{◌≡◌, ◌⊎◌, Bool, ℕ, zero, suc, ◌+◌, ◌*◌, ◌-◌, ◌<◌, ◌≤◌, ◌==◌, List, ◌++◌, take, drop, true, false, length, map, get_or, set, refl, sym, ap, subst, ◌∙◌, inl, inr, arith, not, slice_index_or}
use Rattle.map_eval.proofs.Vocabulary.{bit_at, with_items, range_with_len, Contains, cases_eq, cases_lt, same_from_bits_below, bit_at-lt}
use Rattle.map_eval.proofs.Vocabulary.{Source, Input, Table, Network, cell_not, cell_of_number, number_of_six, bit_of_cell, Pin, Plan}
use Rattle.map_eval.proofs.Vocabulary.{State, number_at, is_marked, differs, AreMarked, AreLow, ArePinsIn, AreTurned, value_in, pin_bit}
use Rattle.map_eval.proofs.Vocabulary.{HavePins, HaveMasks, IsPlan, IsKept, differs_in, AreOthersAsBefore, IsTurnedAt, IsEvaluated}
use Rattle.std.specs.Global.{Vec}
use Rattle.std.proofs.Math.Seq.{take-append_seam}
use Rattle.std.proofs.lemmas.List.{get_or-set_same, get_or-set_other, length-set, get_or-map, get_or_default, get_or_past, length-map}
use Rattle.std.proofs.lemmas.List.FromFn.{get_or-map-range_with_len, length-map-range_with_len}
use Rattle.map_network.specs.Vocabulary.{table_at, IsSourceOf, IsCombinational, IsLatched, bit_of, cell_at, number_of, pins_of, truth, flip, Reads}
use Rattle.map_eval.specs.Pins.{signal_of, source_at, signal_at, AreInRange, pins_at, IsAmong, AreApart, ArePins}
use Rattle.map_eval.proofs.PinLemmas.{pins_in, is_listed, is_read, reads_of}

-- the source gives the other bit exactly where the signal is its own
pub record HasTurned (n : Network) (s : ℕ) (inputs values inputs' values' : List Bool) : Type 0 where
  pub turned : (x : Source) → IsSourceOf n x → signal_of (length n.tables) x ≡ s → bit_of inputs' (value_in values') x ≡ not (bit_of inputs (value_in values) x)
  pub same : (x : Source) → IsSourceOf n x → (signal_of (length n.tables) x ≡ s → ⊥) → bit_of inputs' (value_in values') x ≡ bit_of inputs (value_in values) x

-- so addresses are right where exactly its pins are turned
module _ (n : Network) (lists : List (List Pin)) (range : AreInRange n) (are : ArePins n lists) (s : ℕ) (inputs values inputs' values' : List Bool) (turn : HasTurned n s inputs values inputs' values') (old new : List ℕ) (have : HavePins n inputs values old) (by : AreTurned (pins_at lists s) (length (pins_at lists s)) old new) where
  pin_is : (is vs : List Bool) (t p : ℕ) → p < length (table_at n t).ins → pin_bit n is vs t p ≡ bit_of is (value_in vs) (source_at n t p)
  pin_is is vs t p lp = get_or-map (bit_of is (value_in vs)) (table_at n t).ins p (Input 0) true lp

  no_pin_is : (is vs : List Bool) (t p : ℕ) → length (table_at n t).ins ≤ p → pin_bit n is vs t p ≡ true
  no_pin_is is vs t p g = get_or_past (map (bit_of is (value_in vs)) (table_at n t).ins) p true (omega (arith, length-map (table_at n t).ins (bit_of is (value_in vs))))

  pin_by : (t p : ℕ) → t < length n.tables → p < 6 → (p < length (table_at n t).ins) ⊎ (length (table_at n t).ins ≤ p) → (signal_at n t p ≡ s) ⊎ (signal_at n t p ≡ s → ⊥) → cell_at (number_at new t) p ≡ pin_bit n inputs' values' t p
  pin_by t p lt lp (inr g) e =
      by.same t p (let l = have.len in omega arith) lp (λ a. (let l = (is_read n lists range are s t p a).0 in let no : ⊥ = omega arith in no))
      ∙ have.pins t p lt lp ∙ no_pin_is inputs values t p g ∙ sym (no_pin_is inputs' values' t p g)
  pin_by t p lt lp (inl l) (inl e) =
      by.turned t p (let f = have.len in omega arith) lp (is_listed n lists range are s t p lt l e)
      ∙ ap not (have.pins t p lt lp ∙ pin_is inputs values t p l)
      ∙ sym (turn.turned (source_at n t p) (range.sources t p lt l) e)
      ∙ sym (pin_is inputs' values' t p l)
  pin_by t p lt lp (inl l) (inr d) =
      by.same t p (let f = have.len in omega arith) lp (λ a. d (is_read n lists range are s t p a).1)
      ∙ have.pins t p lt lp ∙ pin_is inputs values t p l
      ∙ sym (turn.same (source_at n t p) (range.sources t p lt l) d)
      ∙ sym (pin_is inputs' values' t p l)

  pub turned_pins : HavePins n inputs' values' new
  turned_pins = record {
    len = by.len ∙ have.len;
    low = by.low;
    pins = λ t p lt lp. pin_by t p lt lp (cases_lt p (length (table_at n t).ins)) (cases_eq (signal_at n t p) s);
  }

-- an input is turned
pub input_turned : (n : Network) (inputs values : List Bool) (k : ℕ) → length inputs ≡ n.inputs → k < n.inputs → HasTurned n (length n.tables + k) inputs values (set inputs k (not (value_in inputs k))) values
input_turned n inputs values k len lk = record { turned = turned; same = same }
  where
    turned : (x : Source) → IsSourceOf n x → signal_of (length n.tables) x ≡ length n.tables + k → bit_of (set inputs k (not (value_in inputs k))) (value_in values) x ≡ not (bit_of inputs (value_in values) x)
    turned (Table j) of e = absurd (let no : ⊥ = omega (arith, of, e) in no)
    turned (Input i) of e =
        let f : i ≡ k = omega (arith, e) in
        ap (λ y. get_or (set inputs k (not (value_in inputs k))) y true) f
        ∙ get_or-set_same inputs k (not (value_in inputs k)) true (omega (arith, len))
        ∙ ap not (get_or_default inputs k false true (omega (arith, len)))
        ∙ sym (ap (λ y. not (get_or inputs y true)) f)

    same : (x : Source) → IsSourceOf n x → (signal_of (length n.tables) x ≡ length n.tables + k → ⊥) → bit_of (set inputs k (not (value_in inputs k))) (value_in values) x ≡ bit_of inputs (value_in values) x
    same (Table j) of d = refl
    same (Input i) of d = get_or-set_other inputs k i (not (value_in inputs k)) true (λ f. d (ap (λ y. length n.tables + y) f))

-- a table is turned
pub table_turned : (n : Network) (inputs values : List Bool) (j : ℕ) → length values ≡ length n.tables → j < length n.tables → HasTurned n j inputs values inputs (set values j (not (value_in values j)))
table_turned n inputs values j len lj = record { turned = turned; same = same }
  where
    turned : (x : Source) → IsSourceOf n x → signal_of (length n.tables) x ≡ j → bit_of inputs (value_in (set values j (not (value_in values j)))) x ≡ not (bit_of inputs (value_in values) x)
    turned (Input i) of e = absurd (let no : ⊥ = omega (arith, lj, e) in no)
    turned (Table i) of e =
        ap (value_in (set values j (not (value_in values j)))) e
        ∙ get_or-set_same values j (not (value_in values j)) false (omega (arith, len))
        ∙ sym (ap (λ y. not (value_in values y)) e)

    same : (x : Source) → IsSourceOf n x → (signal_of (length n.tables) x ≡ j → ⊥) → bit_of inputs (value_in (set values j (not (value_in values j)))) x ≡ bit_of inputs (value_in values) x
    same (Input i) of d = refl
    same (Table i) of d = get_or-set_other values j i (not (value_in values j)) false d

-- masks

flip_not : (v b : Bool) → not (flip v b) ≡ flip (not v) b
flip_not true true = refl
flip_not true false = refl
flip_not false true = refl
flip_not false false = refl

module _ (n : Network) (values : List Bool) (masks : List ℕ) (j : ℕ) (len : length values ≡ length n.tables) (lj : j < length n.tables) (fits : number_at masks j < 18446744073709551616) (have : HaveMasks n values masks) where
  abbrev pub masks_after : List ℕ
  masks_after = set masks j (18446744073709551615 - number_at masks j)

  abbrev pub values_after : List Bool
  values_after = set values j (not (value_in values j))

  pub mask_here : (a : ℕ) → a < 64 → cell_at (number_at masks_after j) a ≡ not (cell_at (number_at masks j) a)
  mask_here a la = ap (λ m. cell_at m a) (get_or-set_same masks j (18446744073709551615 - number_at masks j) 0 (let l = have.len in omega arith)) ∙ cell_not (number_at masks j) a fits la

  pub mask_there : (t : ℕ) → (t ≡ j → ⊥) → number_at masks_after t ≡ number_at masks t
  mask_there t d = get_or-set_other masks j t (18446744073709551615 - number_at masks j) 0 d

  pub turned_masks : HaveMasks n values_after masks_after
  turned_masks = record {
    len = length-set masks j (18446744073709551615 - number_at masks j) ∙ have.len;
    cells = λ t a lt la. elim (cases_eq t j) [
      | inl e ↦
          (ap (λ x. cell_at (number_at masks_after x) a) e
          ∙ mask_here a la
          ∙ ap not (have.cells j a lj la)
          ∙ flip_not (value_in values j) (cell_at (table_at n j).cells a)
          ∙ ap (λ v. flip v (cell_at (table_at n j).cells a)) (sym (get_or-set_same values j (not (value_in values j)) false (omega (arith, len))))
          ∙ sym (ap (λ x. flip (value_in values_after x) (cell_at (table_at n x).cells a)) e))
      | inr d ↦
          (ap (λ m. cell_at m a) (mask_there t d)
          ∙ have.cells t a lt la
          ∙ ap (λ v. flip v (cell_at (table_at n t).cells a)) (sym (get_or-set_other values j t (not (value_in values j)) false d)))
    ];
  }

-- a table's address is that of its pins
module _ (n : Network) (inputs values : List Bool) (addresses masks : List ℕ) (have : HavePins n inputs values addresses) (cells : HaveMasks n values masks) (t : ℕ) (lt : t < length n.tables) where
  abbrev bits : List Bool
  bits = pins_of inputs (value_in values) (table_at n t).ins

  six : length bits ≡ 6
  six = length-map-range_with_len (λ k. slice_index_or (map (bit_of inputs (value_in values)) (table_at n t).ins) k true) 0 6

  low : number_at addresses t < 64
  low = have.low t (let l = have.len in omega arith)

  pub address_is : number_at addresses t ≡ number_of bits
  address_is =
      same_from_bits_below 6 (number_at addresses t) (number_of bits) low (number_of_six bits six)
      (λ i li. bit_of_cell (bit_at (number_at addresses t) i) (bit_at (number_of bits) i) (bit_at-lt (number_at addresses t) i) (bit_at-lt (number_of bits) i)
      (have.pins t i lt li
      ∙ sym (get_or-map-range_with_len (λ k. slice_index_or (map (bit_of inputs (value_in values)) (table_at n t).ins) k true) 0 6 i i false li (omega arith))
      ∙ sym (cell_of_number bits i)))

  -- so the mask's cell there says whether the table differs from what it gives
  pub differs_is : differs masks addresses t ≡ flip (value_in values t) (truth inputs (value_in values) (table_at n t))
  differs_is = cells.cells t (number_at addresses t) lt low ∙ ap (λ a. flip (value_in values t) (cell_at (table_at n t).cells a)) address_is

  same_flip : (v b : Bool) → flip v b ≡ false → v ≡ b
  same_flip true true e = refl
  same_flip true false e = absurd (let no : true ≡ false = e in cc)
  same_flip false true e = absurd (let no : true ≡ false = e in cc)
  same_flip false false e = refl

  flip_twice : (v b : Bool) → flip (flip v b) v ≡ b
  flip_twice true true = refl
  flip_twice true false = refl
  flip_twice false true = refl
  flip_twice false false = refl

  pub gives_truth : differs masks addresses t ≡ false → value_in values t ≡ truth inputs (value_in values) (table_at n t)
  gives_truth e = same_flip (value_in values t) (truth inputs (value_in values) (table_at n t)) (sym differs_is ∙ e)

  pub takes_truth : flip (differs masks addresses t) (value_in values t) ≡ truth inputs (value_in values) (table_at n t)
  takes_truth = ap (λ d. flip d (value_in values t)) differs_is ∙ flip_twice (value_in values t) (truth inputs (value_in values) (table_at n t))

-- tables that don't read the one that is turned have the addresses that they had
pub same_address : (n : Network) (lists : List (List Pin)) (range : AreInRange n) (are : ArePins n lists) (j t : ℕ) (old new : List ℕ) → j < length n.tables → length old ≡ length n.tables → AreTurned (pins_at lists j) (length (pins_at lists j)) old new → (Reads n t j → ⊥) → number_at new t ≡ number_at old t
same_address n lists range are j t old new lj len by apart = elim (cases_lt t (length n.tables)) [
  | inl lt ↦ by.others t (λ p lp a. (let r = is_read n lists range are j t p a in apart (reads_of n t p j lt lj r.0 r.1)))
  | inr g ↦ get_or_past new t 0 (let e = by.len in omega arith) ∙ sym (get_or_past old t 0 (omega arith))
]

-- the mark of a table whose mask is turned is turned too
pub turned_marked : (j : ℕ) (masks masks' addresses marks marks' : List ℕ) → AreMarked masks addresses marks → ((t : ℕ) → (t ≡ j → ⊥) → number_at masks' t ≡ number_at masks t) → differs masks' addresses j ≡ not (differs masks addresses j) → is_marked marks' j ≡ not (is_marked marks j) → ((t : ℕ) → (t ≡ j → ⊥) → is_marked marks' t ≡ is_marked marks t) → AreMarked masks' addresses marks'
turned_marked j masks masks' addresses marks marks' are same here this others t = elim (cases_eq t j) [
  | inl e ↦ ap (is_marked marks') e ∙ this ∙ ap not (are j) ∙ sym here ∙ sym (ap (differs masks' addresses) e)
  | inr d ↦ others t d ∙ are t ∙ sym (ap (λ m. cell_at m (number_at addresses t)) (same t d))
]

-- ---- one change of a signal

-- a vector that was written as a slice
pub whole_items : {X : Type 0} (v : Vec X) (ws : List X) → length ws ≡ length v.items → (with_items v ws).items ≡ ws
whole_items v ws e = ap (λ n. take n (ws ++ drop (length ws) v.items)) (v.ok.0 ∙ sym e) ∙ take-append_seam ws (drop (length ws) v.items)

pub pins_ready : (plan : Plan) (s : ℕ) (pins : List Pin) (from : List ℕ) → IsPlan plan → pins ≡ pins_at plan.pins.items s → length from ≡ length plan.network.tables → ArePinsIn (length from) pins
pins_ready plan s pins from is at len = subst (λ m. ArePinsIn m pins) (sym len) (subst (ArePinsIn (length plan.network.tables)) (sym at) (pins_in plan.network plan.pins.items is.range is.pins s))

pub pins_apart : (plan : Plan) (s : ℕ) (pins : List Pin) → IsPlan plan → pins ≡ pins_at plan.pins.items s → AreApart pins
pins_apart plan s pins is at = subst AreApart (sym at) (is.pins.apart s)

turned_at : (pins pins' : List Pin) (from from' new : List ℕ) → pins ≡ pins' → from ≡ from' → AreTurned pins (length pins) from new → AreTurned pins' (length pins') from' new
turned_at pins pins' from from' new e f h = subst (λ xs. AreTurned pins' (length pins') xs new) f (subst (λ ps. AreTurned ps (length ps) from new) e h)

pub marked_as : (m m' a a' k k' : List ℕ) → m ≡ m' → a ≡ a' → k ≡ k' → AreMarked m a k → AreMarked m' a' k'
marked_as m m' a a' k k' e2 e3 e4 h = subst (λ x. AreMarked x a' k') e2 (subst (λ x. AreMarked m x k') e3 (subst (AreMarked m a) e4 h))

-- an input is turned
module _ (plan : Plan) (old new : State) (k : ℕ) (bit : Bool) (pins : List Pin) (from masks marks : List ℕ) (is : IsPlan plan) (kept : IsKept plan old) (lk : k < plan.network.inputs) (bit_is : bit ≡ value_in old.inputs.items k) (inputs : new.inputs.items ≡ set old.inputs.items k (not bit)) (values : new.values.items ≡ old.values.items) (same : new.masks.items ≡ old.masks.items) (at : pins ≡ pins_at plan.pins.items (length plan.network.tables + k)) (from_is : from ≡ old.addresses.items) (masks_is : masks ≡ old.masks.items) (marks_is : marks ≡ old.marks.items) (to marks' : List ℕ) (to_is : new.addresses.items ≡ to) (marks'_is : new.marks.items ≡ marks') (by : AreTurned pins (length pins) from to) (len : length marks' ≡ length marks) (marked : AreMarked masks from marks → AreMarked masks to marks') where
  input_after : new.inputs.items ≡ set old.inputs.items k (not (value_in old.inputs.items k))
  input_after = inputs ∙ ap (λ b. set old.inputs.items k (not b)) bit_is

  pub input_kept : IsKept plan new
  input_kept = record {
    sized = record {
      inputs = ap length input_after ∙ length-set old.inputs.items k (not (value_in old.inputs.items k)) ∙ kept.sized.inputs;
      values = ap length values ∙ kept.sized.values;
      marks = ap length marks'_is ∙ len ∙ ap length marks_is ∙ kept.sized.marks;
      pins =
          subst (λ vs. HavePins plan.network new.inputs.items vs new.addresses.items) (sym values) (subst (λ is. HavePins plan.network is old.values.items new.addresses.items) (sym input_after)
          (turned_pins plan.network plan.pins.items is.range is.pins (length plan.network.tables + k) old.inputs.items old.values.items (set old.inputs.items k (not (value_in old.inputs.items k))) old.values.items
          (input_turned plan.network old.inputs.items old.values.items k kept.sized.inputs lk) old.addresses.items new.addresses.items kept.sized.pins
          (turned_at pins (pins_at plan.pins.items (length plan.network.tables + k)) from old.addresses.items new.addresses.items at from_is (subst (AreTurned pins (length pins) from) (sym to_is) by))));
      masks = subst (λ vs. HaveMasks plan.network vs new.masks.items) (sym values) (subst (HaveMasks plan.network old.values.items) (sym same) kept.sized.masks);
    };
    marked = marked_as masks new.masks.items to new.addresses.items marks' new.marks.items (masks_is ∙ sym same) (sym to_is) (sym marks'_is)
        (marked (marked_as old.masks.items masks old.addresses.items from old.marks.items marks (sym masks_is) (sym from_is) (sym marks_is) kept.marked));
  }

-- a table is turned, and its mark
module _ (plan : Plan) (old new : State) (j : ℕ) (bit : Bool) (mask : ℕ) (pins : List Pin) (from masks marks : List ℕ) (is : IsPlan plan) (lj : j < length plan.network.tables) (kept : IsKept plan old) (bit_is : bit ≡ value_in old.values.items j) (mask_is : mask ≡ number_at old.masks.items j) (fits : mask < 18446744073709551616) (inputs : new.inputs.items ≡ old.inputs.items) (values : new.values.items ≡ set old.values.items j (not bit)) (same : new.masks.items ≡ set old.masks.items j (18446744073709551615 - mask)) (at : pins ≡ pins_at plan.pins.items j) (from_is : from ≡ old.addresses.items) (masks_is : masks ≡ new.masks.items) (to marks' : List ℕ) (to_is : new.addresses.items ≡ to) (marks'_is : new.marks.items ≡ marks') (by : AreTurned pins (length pins) from to) (this : is_marked marks j ≡ not (is_marked old.marks.items j)) (rest : (t : ℕ) → (t ≡ j → ⊥) → is_marked marks t ≡ is_marked old.marks.items t) (len : length marks' ≡ length old.marks.items) (marked : AreMarked masks from marks → AreMarked masks to marks') where
  fits_at : number_at old.masks.items j < 18446744073709551616
  fits_at = subst (λ m. m < 18446744073709551616) mask_is fits

  value_after : new.values.items ≡ values_after plan.network old.values.items old.masks.items j kept.sized.values lj fits_at kept.sized.masks
  value_after = values ∙ ap (λ b. set old.values.items j (not b)) bit_is

  mask_after : new.masks.items ≡ masks_after plan.network old.values.items old.masks.items j kept.sized.values lj fits_at kept.sized.masks
  mask_after = same ∙ ap (λ m. set old.masks.items j (18446744073709551615 - m)) mask_is

  other_masks : (t : ℕ) → (t ≡ j → ⊥) → number_at new.masks.items t ≡ number_at old.masks.items t
  other_masks t d = ap (λ ms. number_at ms t) mask_after ∙ mask_there plan.network old.values.items old.masks.items j kept.sized.values lj fits_at kept.sized.masks t d

  differs_not : differs new.masks.items old.addresses.items j ≡ not (differs old.masks.items old.addresses.items j)
  differs_not =
      ap (λ ms. cell_at (number_at ms j) (number_at old.addresses.items j)) mask_after
      ∙ mask_here plan.network old.values.items old.masks.items j kept.sized.values lj fits_at kept.sized.masks (number_at old.addresses.items j) (kept.sized.pins.low j (let l = kept.sized.pins.len in omega arith))

  turn_by : AreTurned (pins_at plan.pins.items j) (length (pins_at plan.pins.items j)) old.addresses.items new.addresses.items
  turn_by = turned_at pins (pins_at plan.pins.items j) from old.addresses.items new.addresses.items at from_is (subst (AreTurned pins (length pins) from) (sym to_is) by)

  pub table_kept : IsKept plan new
  table_kept = record {
    sized = record {
      inputs = ap length inputs ∙ kept.sized.inputs;
      values = ap length values ∙ length-set old.values.items j (not bit) ∙ kept.sized.values;
      marks = ap length marks'_is ∙ len ∙ kept.sized.marks;
      pins =
          subst (λ is. HavePins plan.network is new.values.items new.addresses.items) (sym inputs) (subst (λ vs. HavePins plan.network old.inputs.items vs new.addresses.items) (sym (values ∙ ap (λ b. set old.values.items j (not b)) bit_is))
          (turned_pins plan.network plan.pins.items is.range is.pins j old.inputs.items old.values.items old.inputs.items (set old.values.items j (not (value_in old.values.items j)))
          (table_turned plan.network old.inputs.items old.values.items j kept.sized.values lj) old.addresses.items new.addresses.items kept.sized.pins turn_by));
      masks = subst (λ vs. HaveMasks plan.network vs new.masks.items) (sym value_after) (subst (HaveMasks plan.network (values_after plan.network old.values.items old.masks.items j kept.sized.values lj fits_at kept.sized.masks)) (sym mask_after) (turned_masks plan.network old.values.items old.masks.items j kept.sized.values lj fits_at kept.sized.masks));
    };
    marked = marked_as masks new.masks.items to new.addresses.items marks' new.marks.items masks_is (sym to_is) (sym marks'_is)
        (marked (marked_as new.masks.items masks old.addresses.items from marks marks (sym masks_is) (sym from_is) refl
        (turned_marked j old.masks.items new.masks.items old.addresses.items old.marks.items marks kept.marked other_masks differs_not this rest)));
  }

  address_as : (t : ℕ) → (Reads plan.network t j → ⊥) → number_at new.addresses.items t ≡ number_at old.addresses.items t
  address_as t apart = same_address plan.network plan.pins.items is.range is.pins j t old.addresses.items new.addresses.items lj kept.sized.pins.len turn_by apart

  pub table_turned_at : IsTurnedAt plan.network j old new
  table_turned_at = record {
    inputs = inputs;
    values = values ∙ ap (λ b. set old.values.items j (not b)) bit_is;
    this = λ apart.
        ap (λ a. cell_at (number_at new.masks.items j) a) (address_as j apart) ∙ differs_not;
    others = λ t d apart. ap (cell_at (number_at new.masks.items t)) (address_as t apart) ∙ ap (λ m. cell_at m (number_at old.addresses.items t)) (other_masks t d);
  }

-- a table that differs is given its cell where it is turned
pub evaluated_by : (n : Network) (table value mask address : ℕ) (old new : State) → value ≡ bit_at mask address → mask ≡ number_at old.masks.items table → address ≡ number_at old.addresses.items table → value ≡ 1 → IsTurnedAt n table old new → IsEvaluated n table old new
evaluated_by n table value mask address old new e m a one at = record {
  inputs = at.inputs;
  values = λ t d. ap (λ vs. value_in vs t) at.values ∙ get_or-set_other old.values.items table t (not (value_in old.values.items table)) false d;
  this = λ apart. at.this apart ∙ ap not (sym (ap (λ x. x == 1) (e ∙ ap (λ x. bit_at x address) m ∙ ap (bit_at (number_at old.masks.items table)) a)) ∙ ap (λ x. x == 1) one);
  others = at.others;
}
