-- Each of two networks stands in their joint network.
use Rattle.std.proofs.Common.{◌≡◌, ◌⊎◌, ℕ, ◌+◌, ◌-◌, ◌<◌, ◌≤◌, ◌++◌, List, length, get_or, map, take, refl, sym, ap, ◌∙◌, subst, inl, inr, arith}
use Rattle.place_pair.proofs.Vocabulary.{Contains, cases_lt, Source, Input, Table, NetTable, Network, no_table, table_at, IsSourceOf}
use Rattle.place_pair.proofs.Vocabulary.{IsNetwork, part, moved, moved_table, joint_network, IsFrom, IsOwnSource, StandsIn}
use Rattle.std.proofs.lemmas.List.{get_or_append_left, get_or-append_right, get_or-map, length-map, take_at, drop_at, take_all}
use Rattle.place_pair.proofs.Lists.{contains_unmap, all_has}
use Rattle.place_pair.proofs.Moving.{sources_stay, tables_stay}
use Rattle.place_pair.proofs.Sounding.{long_tables, long_outputs, first_table, second_table}

-- what is behind a list
behind : {A : Type 0} (xs ys : List A) (n : ℕ) → length ys ≡ n → part (length xs) n (xs ++ ys) ≡ ys
behind xs ys n e = ap (take n) (drop_at xs ys (length xs) refl) ∙ take_all n ys (omega (arith, e))

module _ (n o : Network) (first : IsNetwork n) (second : IsNetwork o) where
  -- a source that was moved is none of the first's
  not_first : (net : ℕ) (y x : Source) → moved n.inputs (length n.tables) y ≡ x → IsOwnSource (record { input = 0; table = 0; output = 0; net = net }) n x → ⊥
  not_first net (Input k) (Input a) e own = let f : n.inputs + k ≡ a = number e in let l = own.1 in omega (arith, f, l)
    where
      number : {p q : ℕ} → Input p ≡ Input q → p ≡ q
      number e = cc
  not_first net (Table k) (Table a) e own = let f : length n.tables + k ≡ a = number e in let l = own.1 in omega (arith, f, l)
    where
      number : {p q : ℕ} → Table p ≡ Table q → p ≡ q
      number e = cc
  not_first net (Input k) (Table a) e own = absurd cc
  not_first net (Table k) (Input a) e own = absurd cc

  -- and one of the first's is none of the second's
  not_second : (output net : ℕ) (x : Source) → IsSourceOf n x → IsOwnSource (record { input = n.inputs; table = length n.tables; output = output; net = net }) o x → ⊥
  not_second output net (Input k) is own = let l = own.0 in omega (arith, l, is)
  not_second output net (Table k) is own = let l = own.0 in omega (arith, l, is)

  pub first_stands : (net : ℕ) → net ≡ n.inputs + o.inputs → StandsIn (record { input = 0; table = 0; output = 0; net = net }) n (joint_network n o)
  first_stands net e = record {
    inputs = omega arith;
    tables_within = (let l = long_tables n o in omega (arith, l));
    outputs_within = (let l = long_outputs n o in omega (arith, l));
    tables = take_at n.tables (map (moved_table n.inputs (length n.tables)) o.tables) (length n.tables) refl ∙ sym (tables_stay n.tables);
    outputs = take_at n.outputs (map (moved n.inputs (length n.tables)) o.outputs) (length n.outputs) refl ∙ sym (sources_stay n.outputs);
    net = omega (arith, e);
    others = λ j x l out has own. no_table_reads j x l (cases_lt j (length n.tables)) out has own;
    other_outputs = λ k x l out is own. no_output_shows k x l (cases_lt k (length n.outputs)) out is own;
  }
    where
      no_table_reads : (j : ℕ) (x : Source) → j < length (joint_network n o).tables → (j < length n.tables) ⊎ (length n.tables ≤ j) → ¬ IsFrom 0 (length n.tables) j → Contains (table_at (joint_network n o) j).ins x →
          IsOwnSource (record { input = 0; table = 0; output = 0; net = net }) n x → ⊥
      no_table_reads j x l (inl h) out has own = absurd (out (omega arith, omega (arith, h)))
      no_table_reads j x l (inr h) out has own =
          let i : j ≡ length n.tables + (j - length n.tables) = omega (arith, h) in
          let li : j - length n.tables < length o.tables = let e = long_tables n o in omega (arith, l, h, e) in
          let at = subst (λ (t : NetTable). Contains t.ins x) (ap (table_at (joint_network n o)) i ∙ second_table n o (j - length n.tables) li) has in
          let r = contains_unmap (moved n.inputs (length n.tables)) (table_at o (j - length n.tables)).ins x at in
          not_first net r.0 x r.2 own

      no_output_shows : (k : ℕ) (x : Source) → k < length (joint_network n o).outputs → (k < length n.outputs) ⊎ (length n.outputs ≤ k) → ¬ IsFrom 0 (length n.outputs) k → get_or (joint_network n o).outputs k x ≡ x →
          IsOwnSource (record { input = 0; table = 0; output = 0; net = net }) n x → ⊥
      no_output_shows k x l (inl h) out is own = absurd (out (omega arith, omega (arith, h)))
      no_output_shows k x l (inr h) out is own =
          let li : k - length n.outputs < length o.outputs = let e = long_outputs n o in omega (arith, l, h, e) in
          let at = get_or-append_right n.outputs (map (moved n.inputs (length n.tables)) o.outputs) (length n.outputs) k x refl h ∙ get_or-map (moved n.inputs (length n.tables)) o.outputs (k - length n.outputs) (Input 0) x li in
          not_first net (get_or o.outputs (k - length n.outputs) (Input 0)) x (sym at ∙ is) own

  pub second_stands : (net : ℕ) → net ≡ n.inputs + o.inputs + length n.tables → StandsIn (record { input = n.inputs; table = length n.tables; output = length n.outputs; net = net }) o (joint_network n o)
  second_stands net e = record {
    inputs = omega arith;
    tables_within = (let l = long_tables n o in omega (arith, l));
    outputs_within = (let l = long_outputs n o in omega (arith, l));
    tables = behind n.tables (map (moved_table n.inputs (length n.tables)) o.tables) (length o.tables) (length-map o.tables (moved_table n.inputs (length n.tables)));
    outputs = behind n.outputs (map (moved n.inputs (length n.tables)) o.outputs) (length o.outputs) (length-map o.outputs (moved n.inputs (length n.tables)));
    net = omega (arith, e);
    others = λ j x l out has own. no_table_reads j x l (cases_lt j (length n.tables)) out has own;
    other_outputs = λ k x l out is own. no_output_shows k x l (cases_lt k (length n.outputs)) out is own;
  }
    where
      no_table_reads : (j : ℕ) (x : Source) → j < length (joint_network n o).tables → (j < length n.tables) ⊎ (length n.tables ≤ j) → ¬ IsFrom (length n.tables) (length o.tables) j → Contains (table_at (joint_network n o) j).ins x →
          IsOwnSource (record { input = n.inputs; table = length n.tables; output = length n.outputs; net = net }) o x → ⊥
      no_table_reads j x l (inr h) out has own = absurd (out (h, let e = long_tables n o in omega (arith, l, e)))
      no_table_reads j x l (inl h) out has own =
          let at = subst (λ (t : NetTable). Contains t.ins x) (first_table n o j h) has in
          not_second (length n.outputs) net x (all_has (IsSourceOf n) (table_at n j).ins x (first.sources j no_table h) at) own

      no_output_shows : (k : ℕ) (x : Source) → k < length (joint_network n o).outputs → (k < length n.outputs) ⊎ (length n.outputs ≤ k) → ¬ IsFrom (length n.outputs) (length o.outputs) k → get_or (joint_network n o).outputs k x ≡ x →
          IsOwnSource (record { input = n.inputs; table = length n.tables; output = length n.outputs; net = net }) o x → ⊥
      no_output_shows k x l (inr h) out is own = absurd (out (h, let e = long_outputs n o in omega (arith, l, e)))
      no_output_shows k x l (inl h) out is own =
          not_second (length n.outputs) net x (subst (IsSourceOf n) (sym (get_or_append_left n.outputs (map (moved n.inputs (length n.tables)) o.outputs) x k h) ∙ is) (first.outputs k x h)) own
