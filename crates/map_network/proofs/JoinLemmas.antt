-- A table is put into its reader: the network has the same rows.
use Rattle.std.proofs.Common.{◌≡◌, ◌⊎◌, Bool, ℕ, ◌<◌, ◌≤◌, List, [], ◌∷◌, ◌++◌, true, length, map, get_or, refl, sym, ap, subst, ◌∙◌, inl, inr, arith}
use Rattle.map_network.proofs.Vocabulary.{range_with_len, Contains, cases_eq, get_or-map, ext_get_or, length-map, Contains-get_or}
use Rattle.map_network.proofs.Vocabulary.{Contains-append_left, Contains-append_right, Source, Input, Table, NetTable, Network}
use Rattle.map_network.specs.Vocabulary.{number_of, cell_at, bit_of, pins_of, truth, IsNetworkValuation, next_state, first_state, RowsFrom, AreRows, pin_named, number, bit_with, address_by, joined_truth, IsJoined}
use Rattle.map_network.proofs.CellLemmas.{gives_of}
use Rattle.map_network.proofs.ValueLemmas.{pin_at, length-pins}
use Rattle.map_network.proofs.SourceLemmas.{has_both, named_value, with_given, with_pin}

pub same_address : (f g : Source → Bool) (ins : List Source) → ((s : Source) → Contains ins s → f s ≡ g s) → address_by f ins ≡ address_by g ins
same_address f g ins same = ap (λ bits. number_of (map (λ k. get_or bits k true) (range_with_len 0 6))) (ext_get_or true _ _ (length-map ins f ∙ sym (length-map ins g)) one)
  where
    one : (k : ℕ) → k < length (map f ins) → get_or (map f ins) k true ≡ get_or (map g ins) k true
    one k l =
        let h : k < length ins = rw length-map at l in
        get_or-map f ins k (Input 0) true h ∙ same (get_or ins k (Input 0)) (Contains-get_or ins k (Input 0) h) ∙ sym (get_or-map g ins k (Input 0) true h)

number_source : (s : Source) (j : ℕ) → (s ≡ Table j) ⊎ (s ≡ Table j → ⊥)
number_source (Input k) j = inr (λ e. cc)
number_source (Table i) j = elim (cases_eq i j) [ inl e ↦ inl (ap Table e) | inr d ↦ inr (λ e. d (name i j e)) ]
  where
    name : (a b : ℕ) → Table a ≡ Table b → a ≡ b
    name a b e = cc

-- the composed function
module _ (vector : List Bool) (given : ℕ → Bool) (j : ℕ) (inner reader joined : NetTable) (is : IsJoined j inner reader joined) (few : length joined.ins ≤ 6) (apart : Contains inner.ins (Table j) → ⊥) (value : given j ≡ truth vector given inner) where
  pin_is : (s : Source) → (s ≡ Table j → ⊥) → Contains (reader.ins ++ inner.ins) s → pin_named (map number joined.ins) (pins_of vector given joined.ins) (number s) ≡ bit_of vector given s
  pin_is s d c = named_value (bit_of vector given) joined.ins (pins_of vector given joined.ins) (omega (arith, length-pins vector given joined.ins, few)) (λ k lk. pin_at vector given joined.ins k (Input 0) few lk) s (has_both j reader.ins inner.ins joined.ins is.ins s d c)

  not_table : (s : Source) → Contains inner.ins s → s ≡ Table j → ⊥
  not_table s c e = apart (subst (Contains inner.ins) e c)

  inner_is : cell_at inner.cells (address_by (bit_with (map number joined.ins) (pins_of vector given joined.ins) j true) inner.ins) ≡ truth vector given inner
  inner_is = ap (cell_at inner.cells) (same_address (bit_with (map number joined.ins) (pins_of vector given joined.ins) j true) (bit_of vector given) inner.ins (λ s c. with_pin (map number joined.ins) (pins_of vector given joined.ins) j true s (not_table s c) ∙ pin_is s (not_table s c) (Contains-append_right reader.ins inner.ins s c)))

  reader_bit : (s : Source) → Contains reader.ins s → bit_with (map number joined.ins) (pins_of vector given joined.ins) j (cell_at inner.cells (address_by (bit_with (map number joined.ins) (pins_of vector given joined.ins) j true) inner.ins)) s ≡ bit_of vector given s
  reader_bit s c = by (number_source s j)
    where
      by : (s ≡ Table j) ⊎ (s ≡ Table j → ⊥) → bit_with (map number joined.ins) (pins_of vector given joined.ins) j (cell_at inner.cells (address_by (bit_with (map number joined.ins) (pins_of vector given joined.ins) j true) inner.ins)) s ≡ bit_of vector given s
      by (inl e) = with_given (map number joined.ins) (pins_of vector given joined.ins) j (cell_at inner.cells (address_by (bit_with (map number joined.ins) (pins_of vector given joined.ins) j true) inner.ins)) s e ∙ inner_is ∙ sym value ∙ ap (bit_of vector given) (sym e)
      by (inr d) = with_pin (map number joined.ins) (pins_of vector given joined.ins) j (cell_at inner.cells (address_by (bit_with (map number joined.ins) (pins_of vector given joined.ins) j true) inner.ins)) s d ∙ pin_is s d (Contains-append_left reader.ins inner.ins s c)

  unfolded : joined_truth (map number joined.ins) j inner reader (pins_of vector given joined.ins) ≡ cell_at reader.cells (address_by (bit_with (map number joined.ins) (pins_of vector given joined.ins) j (cell_at inner.cells (address_by (bit_with (map number joined.ins) (pins_of vector given joined.ins) j true) inner.ins))) reader.ins)
  unfolding joined_truth
  unfolded = refl

  pub joined_value : truth vector given joined ≡ truth vector given reader
  joined_value =
      ap (λ cells. cell_at cells (number_of (pins_of vector given joined.ins))) is.cells
      ∙ gives_of (joined_truth (map number joined.ins) j inner reader) (pins_of vector given joined.ins) (length-pins vector given joined.ins)
      ∙ unfolded
      ∙ ap (cell_at reader.cells) (same_address _ (bit_of vector given) reader.ins reader_bit)

-- networks that do the same
pub record IsLike (n m : Network) : Type 0 where
  pub inputs : n.inputs ≡ m.inputs
  pub outputs : n.outputs ≡ m.outputs
  pub inits : (j : ℕ) → first_state n j ≡ first_state m j
  pub right : (state : ℕ → Bool) (vector : List Bool) (given : ℕ → Bool) → IsNetworkValuation n state vector given → IsNetworkValuation m state vector given
  pub next : (state : ℕ → Bool) (vector : List Bool) (given : ℕ → Bool) → IsNetworkValuation n state vector given → (j : ℕ) → next_state n vector given j ≡ next_state m vector given j

module _ (n m : Network) (like : IsLike n m) where
  pub like_from : (vectors rows : List (List Bool)) (state : ℕ → Bool) → RowsFrom n state vectors rows → RowsFrom m state vectors rows
  like_from [] [] state p = tt
  like_from [] (row ∷ rows) state p = absurd p
  like_from (v ∷ vs) [] state p = absurd p
  like_from (v ∷ vs) (row ∷ rows) state p = (
    p.0,
    like.right state v p.0 p.1,
    p.2 ∙ ap (λ os. map (bit_of v p.0) os) like.outputs,
    subst (λ s. RowsFrom m s vs rows) (let f : next_state n v p.0 ≡ next_state m v p.0 = (λ i j. like.next state v p.0 p.1 j i) in f) (like_from vs rows (next_state n v p.0) p.3),
  )

  pub like_rows : (vectors rows : List (List Bool)) → AreRows n vectors rows → AreRows m vectors rows
  like_rows vectors rows p = subst (λ s. RowsFrom m s vectors rows) (let f : first_state n ≡ first_state m = (λ i j. like.inits j i) in f) (like_from vectors rows (first_state n) p)
