-- How many tables a cover has.
use Rattle.std.specs.Prelude.{◌+◌, ◌/◌, ℕ, zero, suc, List, [], ◌∷◌, nat_lt, sum_by, if◌then◌else◌}
use Rattle.design_netlist.specs.declared.netlist_data.Lit.{Lit, TheVariants.Any}
use Rattle.map_network.specs.declared.{source.Source.Source, want.Want.Want}

abbrev pub is_wanted : Lit → ℕ
is_wanted Any = 0
is_wanted l = 1

-- a tree of at most so many levels over so many wants
unfoldable pub levels_size : ℕ → ℕ → ℕ
levels_size zero n = 1
levels_size (suc m) n = if nat_lt 6 n then (n + 5) / 6 + levels_size m ((n + 5) / 6) else 1

abbrev pub tree_size : ℕ → ℕ
tree_size n = levels_size n n

-- the characters that aren't `-`
abbrev pub wants_in : List Lit → ℕ
wants_in row = sum_by is_wanted row

abbrev pub row_size : List Lit → ℕ
row_size row = tree_size (wants_in row)

abbrev pub rows_size : List (List Lit) → ℕ
rows_size rows = sum_by row_size rows

-- a row's wants begin with that of this entry, if it is wanted
abbrev pub want_of : Source → Lit → List Want
want_of source Any = []
want_of source l = record { source = source; lit = l } ∷ []
