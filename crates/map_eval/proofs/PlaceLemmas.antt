-- Tables that are numbered anew, and their order.
use Rattle.std.proofs.Common.{◌≡◌, ◌⊎◌, Bool, ℕ, zero, suc, ◌+◌, ◌<◌, ◌≤◌, List, [], ◌∷◌, ◌++◌, true, false, length, map, get_or, refl, sym, ap, subst, ◌∙◌, inl, inr, arith}
use Rattle.map_eval.proofs.Vocabulary.{cases_eq, cases_lt, Source, Input, Table, NetTable, Network, AreInverse, ArePlaced, IsPlaced}
use Rattle.std.proofs.lemmas.List.{get_or_default, get_or_append_left, get_or_push, length_push, length-map}
use Rattle.map_network.specs.Vocabulary.{no_table, table_at, IsNetwork, IsSourceOf, IsCombinational, source_at, AreSourcesIn, IsSourceIn, named_by, renamed, renamed_table}

-- one more table of the order
pub placed_more : (n : Network) (places order : List ℕ) (m : ℕ) (old : List NetTable) (t : NetTable) → t ≡ renamed_table (named_by places) (table_at n (named_by order m)) → ArePlaced n places order m old → ArePlaced n places order (m + 1) (old ++ t ∷ [])
placed_more n places order m old t e are = record {
  len = length_push old t ∙ ap (λ x. x + 1) are.len;
  each = λ k lk. elim (cases_eq k m) [
    | inl s ↦ get_or_push old t no_table k (are.len ∙ sym s) ∙ e ∙ ap (λ x. renamed_table (named_by places) (table_at n (named_by order x))) (sym s)
    | inr d ↦ get_or_append_left old (t ∷ []) no_table k (let l = are.len in omega (arith, d)) ∙ are.each k (omega (arith, d))
  ];
}

-- tables read inputs and tables of the network
pub sources_in : (n : Network) (ss : List Source) → ((k : ℕ) (d : Source) → k < length ss → IsSourceOf n (get_or ss k d)) → AreSourcesIn (length n.tables) ss
sources_in n ss h k lk = in_range (get_or ss k (Input 0)) (h k (Input 0) lk)
  where
    in_range : (s : Source) → IsSourceOf n s → IsSourceIn (length n.tables) s
    in_range (Input i) of = tt
    in_range (Table j) of = of

-- all is placed
pub placed_all : (n m : Network) (places order : List ℕ) (tables : List NetTable) (outputs : List Source) → length places ≡ length n.tables → length order ≡ length n.tables → AreInverse places order → ArePlaced n places order (length order) tables → outputs ≡ map (renamed (named_by places)) n.outputs → m.inputs ≡ n.inputs → m.tables ≡ tables → m.outputs ≡ outputs → IsPlaced n m
placed_all n m places order tables outputs lp lo inverse are shown inputs is is' = record {
  places = places;
  count = ap length is ∙ are.len ∙ lo;
  inputs = inputs;
  tables = λ j lj. (let at = inverse j (omega (arith, lp)) in (
    (let e = ap length is in let f = are.len in let l = at.0 in omega arith),
    ap (λ ts. get_or ts (named_by places j) no_table) is ∙ are.each (named_by places j) at.0 ∙ ap (λ x. renamed_table (named_by places) (table_at n x)) at.1,
  ));
  outputs = is' ∙ shown;
}
