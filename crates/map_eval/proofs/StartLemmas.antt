-- What is kept of a network at its first cycle, and vectors and rows.
use Rattle.std.proofs.Common.{◌≡◌, ◌⊎◌, Bool, ℕ, zero, suc, ◌+◌, ◌*◌, ◌/◌, ◌%◌, ◌^◌, ◌<◌, ◌≤◌, List, [], ◌∷◌, ◌++◌, take, true, false, length, map, get_or, set, refl, sym, ap, subst, ◌∙◌, inl, inr, arith, not}
use Rattle.map_eval.proofs.Vocabulary.{cases_eq, cases_lt, pow_below, six_places, Source, Input, Table, NetTable, Network, AreInRange}
use Rattle.map_eval.proofs.Vocabulary.{number_at, value_in, pin_bit, HavePins, HaveMasks, IsAddress, HaveMasksTo, HaveAddressesTo}
use Rattle.std.proofs.lemmas.List.{ext_get_or, get_or-map, get_or_default, get_or_past, get_or-set_same, get_or-set_other, get_or_append_left, get_or_push, length-map, length_push, length-set}
use Rattle.map_network.specs.Vocabulary.{no_table, table_at, bit_of, cell_at, flip}

-- a row that is made bit by bit
pub show_more : (f : Source → Bool) (outputs : List Source) (row : List Bool) (k : ℕ) (x : Bool) → k < length row → x ≡ f (get_or outputs k (Input 0)) → ((j : ℕ) → j < k → get_or row j true ≡ f (get_or outputs j (Input 0))) → (j : ℕ) → j < k + 1 → get_or (set row k x) j true ≡ f (get_or outputs j (Input 0))
show_more f outputs row k x lk e old j lj = elim (cases_eq j k) [
  | inl s ↦ ap (λ i. get_or (set row k x) i true) s ∙ get_or-set_same row k x true lk ∙ e ∙ ap (λ i. f (get_or outputs i (Input 0))) (sym s)
  | inr d ↦ get_or-set_other row k j x true d ∙ old j (omega (arith, d))
]

pub show_all : (f : Source → Bool) (outputs : List Source) (row : List Bool) (k : ℕ) → length row ≡ length outputs → length outputs ≤ k → ((j : ℕ) → j < k → get_or row j true ≡ f (get_or outputs j (Input 0))) → row ≡ map f outputs
show_all f outputs row k len all h = ext_get_or true row (map f outputs) (len ∙ sym (length-map outputs f)) (λ i li. h i (omega (arith, len)) ∙ sym (get_or-map f outputs i (Input 0) true (omega (arith, len))))

-- a vector that is put bit by bit
pub put_more : (vector inputs : List Bool) (k : ℕ) (x : Bool) → k < length inputs → x ≡ get_or vector k false → ((j : ℕ) → j < k → get_or inputs j false ≡ get_or vector j false) → (j : ℕ) → j < k + 1 → get_or (set inputs k x) j false ≡ get_or vector j false
put_more vector inputs k x lk e old j lj = elim (cases_eq j k) [
  | inl s ↦ ap (λ i. get_or (set inputs k x) i false) s ∙ get_or-set_same inputs k x false lk ∙ e ∙ ap (λ i. get_or vector i false) (sym s)
  | inr d ↦ get_or-set_other inputs k j x false d ∙ old j (omega (arith, d))
]

pub put_all : (vector inputs : List Bool) (k : ℕ) → length inputs ≡ length vector → length vector ≤ k → ((j : ℕ) → j < k → get_or inputs j false ≡ get_or vector j false) → inputs ≡ vector
put_all vector inputs k len all h = ext_get_or false inputs vector len (λ i li. h i (omega (arith, len)))

pub other_bit : (a b : Bool) → (a ≡ b → ⊥) → not a ≡ b
other_bit true true d = absurd (d refl)
other_bit true false d = refl
other_bit false true d = refl
other_bit false false d = absurd (d refl)

-- masks, one after the other

pub address_first : (ins : List Source) (inputs values : List Bool) → IsAddress ins inputs values 0 63
address_first ins inputs values = record {
  low = omega arith;
  pins = λ p lp. absurd (let no : ⊥ = omega arith in no);
  others = λ p g lp. ones p lp;
}
  where
    ones : (p : ℕ) → p < 6 → cell_at 63 p ≡ true
    ones = six_places (λ p. cell_at 63 p ≡ true) refl refl refl refl refl refl

pub address_more : (ins : List Source) (inputs values : List Bool) (m address new : ℕ) (bit : Bool) → m < length ins → bit ≡ bit_of inputs (value_in values) (get_or ins m (Input 0)) → new < 64 → cell_at new m ≡ bit → ((p : ℕ) → (p ≡ m → ⊥) → cell_at new p ≡ cell_at address p) → IsAddress ins inputs values m address → IsAddress ins inputs values (m + 1) new
address_more ins inputs values m address new bit lm e low this rest old = record {
  low = low;
  pins = λ p lp. elim (cases_eq p m) [
    | inl s ↦ ap (cell_at new) s ∙ this ∙ e ∙ sym (get_or-map (bit_of inputs (value_in values)) ins m (Input 0) true lm) ∙ ap (λ x. get_or (map (bit_of inputs (value_in values)) ins) x true) (sym s)
    | inr d ↦ rest p d ∙ old.pins p (omega (arith, d))
  ];
  others = λ p g lp. rest p (λ s. (let no : ⊥ = omega (arith, s) in no)) ∙ old.others p (omega arith) lp;
}

-- lists that are written anew
pub masks_set : (tables : List NetTable) (values : List Bool) (m mask cells : ℕ) (value : Bool) (old : List ℕ) → m < length tables → cells ≡ (get_or tables m no_table).cells → value ≡ value_in values m → ((a : ℕ) → a < 64 → cell_at mask a ≡ flip value (cell_at cells a)) → HaveMasksTo tables values m old → HaveMasksTo tables values (m + 1) (set old m mask)
masks_set tables values m mask cells value old lm ec ev is are = record {
  len = length-set old m mask ∙ are.len;
  cells = λ t a lt la. elim (cases_eq t m) [
    | inl e ↦ ap (λ x. cell_at (number_at (set old m mask) x) a) e ∙ ap (λ x. cell_at x a) (get_or-set_same old m mask 0 (omega (arith, are.len))) ∙ is a la ∙ ap (λ v. flip v (cell_at cells a)) ev ∙ ap (λ c. flip (value_in values m) (cell_at c a)) ec ∙ ap (λ x. flip (value_in values x) (cell_at (get_or tables x no_table).cells a)) (sym e)
    | inr d ↦ ap (λ x. cell_at x a) (get_or-set_other old m t mask 0 d) ∙ are.cells t a (omega (arith, d)) la
  ];
}

pub addresses_set : (n : Network) (inputs values : List Bool) (m address : ℕ) (ins : List Source) (old : List ℕ) → m < length n.tables → ins ≡ (table_at n m).ins → IsAddress ins inputs values (length ins) address → HaveAddressesTo n inputs values m old → HaveAddressesTo n inputs values (m + 1) (set old m address)
addresses_set n inputs values m address ins old lm e is are = record {
  len = length-set old m address ∙ are.len;
  each = λ t lt. elim (cases_eq t m) [
    | inl s ↦ subst (λ x. IsAddress (table_at n x).ins inputs values (length (table_at n x).ins) (number_at (set old m address) x)) (sym s) (subst (IsAddress (table_at n m).ins inputs values (length (table_at n m).ins)) (sym (get_or-set_same old m address 0 (omega (arith, are.len)))) (subst (λ xs. IsAddress xs inputs values (length xs) address) e is))
    | inr d ↦ subst (IsAddress (table_at n t).ins inputs values (length (table_at n t).ins)) (sym (get_or-set_other old m t address 0 d)) (are.each t (omega (arith, d)))
  ];
}

pub set_pins : (n : Network) (inputs values : List Bool) (addresses : List ℕ) → HaveAddressesTo n inputs values (length n.tables) addresses → HavePins n inputs values addresses
set_pins n inputs values addresses are = record {
  len = are.len;
  low = λ t lt. (are.each t (let l = are.len in omega arith)).low;
  pins = λ t p lt lp. elim (cases_lt p (length (table_at n t).ins)) [
    | inl l ↦ (are.each t lt).pins p l
    | inr g ↦ (are.each t lt).others p g lp ∙ sym (get_or_past (map (bit_of inputs (value_in values)) (table_at n t).ins) p true (omega (arith, length-map (table_at n t).ins (bit_of inputs (value_in values)))))
  ];
}

pub set_masks : (n : Network) (values : List Bool) (masks : List ℕ) → HaveMasksTo n.tables values (length n.tables) masks → HaveMasks n values masks
set_masks n values masks are = record { len = are.len; cells = are.cells }
