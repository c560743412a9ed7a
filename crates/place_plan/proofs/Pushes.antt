-- One more element of a list that a function of the index makes.
use Rattle.std.proofs.Common.{◌≡◌, ℕ, ◌+◌, ◌<◌, ◌++◌, List, [], ◌∷◌, map, length, get_or, append_assoc, sym, ap, ◌∙◌, subst, arith}
use Rattle.place_plan.proofs.Vocabulary.{All, flat_map, range_with_len, flat_map_more, get_or-map, length-map, number_of, nth_of}
use Rattle.std.proofs.lemmas.List.FromFn.{map-range_with_len_more}
use Rattle.machine_shape.specs.declared.Table.{Table}
use Rattle.place_plan.proofs.Ranges.{range_push}

pub map_next : {X : Type 0} (f : ℕ → X) (old cur new : List X) (j : ℕ) (x : X) → cur ≡ old ++ map f (range_with_len 0 j) → new ≡ cur ++ x ∷ [] → x ≡ f j → new ≡ old ++ map f (range_with_len 0 (j + 1))
map_next f old cur new j x p q e =
    q ∙ ap (λ xs. xs ++ x ∷ []) p ∙ append_assoc old (map f (range_with_len 0 j)) (x ∷ []) ∙ ap (λ y. old ++ (map f (range_with_len 0 j) ++ y ∷ [])) e ∙ ap (λ xs. old ++ xs) (sym (map-range_with_len_more f 0 j j (omega arith)))

pub flat_next : {X : Type 0} (f : ℕ → List X) (old cur new : List X) (j : ℕ) (xs : List X) → cur ≡ old ++ flat_map f (range_with_len 0 j) → new ≡ cur ++ xs → xs ≡ f j → new ≡ old ++ flat_map f (range_with_len 0 (j + 1))
flat_next f old cur new j xs p q e =
    q ∙ ap (λ z. z ++ xs) p ∙ append_assoc old (flat_map f (range_with_len 0 j)) xs ∙ ap (λ z. old ++ (flat_map f (range_with_len 0 j) ++ z)) e ∙ ap (λ z. old ++ z) (sym (ap (flat_map f) (range_push j) ∙ sym (flat_map_more f [] (range_with_len 0 j) j)))

abbrev pub no_place : Table
no_place = record { 0 = 0 }

pub place_at : (places : List Table) (j : ℕ) → j < length places → nth_of (map number_of places) j ≡ (get_or places j no_place).0
place_at places j lt = get_or-map number_of places j no_place 0 lt

pub place_below : (places : List Table) (j most : ℕ) → j < length places → All (λ t. t < most) (map number_of places) → (get_or places j no_place).0 < most
place_below places j most lt all = subst (λ z. z < most) (place_at places j lt) (all j 0 (subst (λ z. j < z) (sym (length-map places number_of)) lt))
