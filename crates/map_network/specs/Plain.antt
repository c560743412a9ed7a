-- The plain network of a netlist: one table for a narrow cover, trees of tables for a wide one, and one table for a latch.
use Rattle.std.specs.Prelude.{◌≡◌, ◌+◌, ◌-◌, ◌/◌, ◌==◌, ◌++◌, ◌&&◌, ◌||◌, ℕ, zero, suc, List, [], ◌∷◌, Bool, true, false, not, nat_lt, map}
use Rattle.std.specs.Prelude.{length, take, drop, sum_by, slice_index_or, if◌then◌else◌}
use Rattle.std.specs.List.{range_with_len, filter}
use Rattle.design_netlist.specs.declared.netlist_data.{Cover.Cover, Lit.Lit}
use Rattle.design_netlist.specs.declared.netlist_data.{NetlistData.NetlistData, LatchDef.LatchDef, Lit.TheVariants.One, Lit.TheVariants.Any}
use Rattle.design_netlist.specs.{declared.netlist_data.PortDef.PortDef, Vocabulary.fits, Vocabulary.truth, Vocabulary.drive_words}
use Rattle.map_network.specs.declared.{source.Source.Source, want.Want.Want, want.Gate.Gate, network.Network.Network}
use Rattle.map_network.specs.declared.{source.Source.TheVariants.Input, source.Source.TheVariants.Table, network.NetTable.NetTable}
use Rattle.map_network.specs.{declared.want.Gate.TheVariants.All, declared.want.Gate.TheVariants.Some, Rows.number_of, Rows.cell_at}

-- the six bits of an address, the lowest first: what the pins read at this address
unfoldable pub six_bits : ℕ → List Bool
six_bits a = map (cell_at a) (range_with_len 0 6)

-- the 64 cells that give f of what the pins read
unfoldable pub cells_where : (List Bool → Bool) → ℕ
cells_where f = number_of (map (λ a. f (six_bits a)) (range_with_len 0 64))

-- a combinational table that gives f of what its pins read
abbrev pub gives : List Source → (List Bool → Bool) → NetTable
gives ins f = record { ins = ins; cells = cells_where f; latched = false; init = false }

abbrev pub flip : Bool → Bool → Bool
flip off b = if off then not b else b

-- Trees

abbrev pub every : List Bool → Bool
every [] = true
every (b ∷ bs) = b && every bs

abbrev pub any : List Bool → Bool
any [] = false
any (b ∷ bs) = b || any bs

abbrev pub together : Gate → List Bool → Bool
together All bits = every bits
together Some bits = any bits

-- for each want, whether its pin is as wanted
abbrev pub met : List Want → List Bool → List Bool
met [] pins = []
met (w ∷ ws) [] = []
met (w ∷ ws) (b ∷ bs) = fits w.lit b ∷ met ws bs

-- one table over at most six wants
abbrev pub gate_table : Gate → Bool → List Want → NetTable
gate_table gate off ws = gives (map (λ w. w.source) ws) (λ pins. flip off (together gate (met ws pins)))

abbrev pub groups : {A : Type 0} → ℕ → List A → List (List A)
groups zero xs = []
groups (suc k) xs = take 6 xs ∷ groups k (drop 6 xs)

-- the list in groups of six, the last with the rest
abbrev pub sixes : {A : Type 0} → List A → List (List A)
sixes xs = groups ((length xs + 5) / 6) xs

-- a table that is wanted at 1
abbrev pub want_table : ℕ → Want
want_table j = record { source = Table j; lit = One }

-- so many tables from one on, wanted at 1
abbrev pub wants_from : ℕ → ℕ → List Want
wants_from first count = map want_table (range_with_len first count)

-- level by level, each group of six is a table, and the next level wants these at 1, until a level has one table.
-- The first table has the number `first`, and the last is negated for an off-set
unfoldable pub levels : Gate → Bool → ℕ → ℕ → List Want → List NetTable
levels gate off zero first ws = gate_table gate off ws ∷ []
levels gate off (suc n) first ws =
    if nat_lt 6 (length ws)
    then map (gate_table gate false) (sixes ws) ++ levels gate off n (first + length (sixes ws)) (wants_from first (length (sixes ws)))
    else gate_table gate off ws ∷ []

-- the tree over these wants. It has at least one table, and fewer levels than wants
abbrev pub tree : Gate → Bool → ℕ → List Want → List NetTable
tree gate off first ws = levels gate off (length ws) first ws

-- trees of AND, one after the other
unfoldable pub trees : ℕ → List (List Want) → List NetTable
trees first [] = []
trees first (ws ∷ more) = tree All false first ws ++ trees (first + length (tree All false first ws)) more

-- the last tables of these trees, wanted at 1
unfoldable pub tree_ends : ℕ → List (List Want) → List Want
tree_ends first [] = []
tree_ends first (ws ∷ more) = want_table (first + length (tree All false first ws) - 1) ∷ tree_ends
    (first + length (tree All false first ws)) more

-- Covers

-- the characters of a row that aren't `-`, with their signals
abbrev pub row_wants : (ℕ → Source) → List Lit → List ℕ → List Want
row_wants source [] ss = []
row_wants source (l ∷ ls) [] = []
row_wants source (Any ∷ ls) (s ∷ ss) = row_wants source ls ss
row_wants source (l ∷ ls) (s ∷ ss) = record { source = source s; lit = l } ∷ row_wants source ls ss

abbrev pub rows_wants : (ℕ → Source) → Cover → List (List Want)
rows_wants source c = map (λ row. row_wants source row c.ins) c.rows

-- a tree of AND for each row, and a tree of OR over them
abbrev pub wide_tables : (ℕ → Source) → ℕ → Cover → List NetTable
wide_tables source first c =
    trees first (rows_wants source c) ++ tree Some c.off (first + length (trees first (rows_wants source c)))
    (tree_ends first (rows_wants source c))

-- the different ones, in order of first appearance
abbrev pub distinct : List ℕ → List ℕ
distinct [] = []
distinct (s ∷ ss) = s ∷ filter (λ x. not (x == s)) (distinct ss)

-- the pin at the name's place
abbrev pub pin_named : List ℕ → List Bool → ℕ → Bool
pin_named [] pins s = true
pin_named (n ∷ ns) [] s = true
pin_named (n ∷ ns) (b ∷ bs) s = if n == s then b else pin_named ns bs s

-- a table whose inputs are the different names, and which gives the cover's truth
abbrev pub narrow_table : (ℕ → Source) → Cover → NetTable
narrow_table source c = gives (map source (distinct c.ins)) (λ pins. truth (pin_named (distinct c.ins) pins) c)

-- at most six different inputs
abbrev pub is_narrow : Cover → Bool
is_narrow c = nat_lt (length (distinct c.ins)) 7

unfoldable pub cover_tables : (ℕ → Source) → ℕ → Cover → List NetTable
cover_tables source first c = if is_narrow c then narrow_table source c ∷ [] else wide_tables source first c

-- how many tables a cover has, whatever the sources of its signals
unfoldable pub cover_size : Cover → ℕ
cover_size c = length (cover_tables Input 0 c)

-- the tables of the covers, one cover after the other
unfoldable pub covers_tables : (ℕ → Source) → ℕ → List Cover → List NetTable
covers_tables source first [] = []
covers_tables source first (c ∷ cs) = cover_tables source first c ++ covers_tables source (first + cover_size c) cs

-- the last table of each cover
unfoldable pub cover_ends : ℕ → List Cover → List Source
cover_ends first [] = []
cover_ends first (c ∷ cs) = Table (first + cover_size c - 1) ∷ cover_ends (first + cover_size c) cs

-- The network

-- a latched table that gives what its one pin read
unfoldable pub latch_table : (ℕ → Source) → LatchDef → NetTable
latch_table source l = record (gives (source l.from ∷ []) (λ pins. slice_index_or pins 0 true)) { latched = true; init = l.init }

-- what gives each word that drives: an input of the network, the last table of a cover, the table of a latch
unfoldable pub sources_of : NetlistData → List Source
sources_of d = map Input (range_with_len 0 (length d.inputs)) ++ cover_ends 0 d.covers ++ map Table
    (range_with_len (sum_by cover_size d.covers) (length d.latches))

-- the source of the first word of the signal
unfoldable pub source_among : List PortDef → List Source → ℕ → Source
source_among [] sources s = Input 0
source_among (w ∷ ws) [] s = Input 0
source_among (w ∷ ws) (x ∷ xs) s = if w.signal == s then x else source_among ws xs s

-- what gives a signal: the source of the word that drives it
abbrev pub source_of : NetlistData → ℕ → Source
source_of d s = source_among (drive_words d) (sources_of d) s

unfoldable pub plain_network : NetlistData → Network
plain_network d = record {
  inputs = length d.inputs;
  tables = covers_tables (source_of d) 0 d.covers ++ map (latch_table (source_of d)) d.latches;
  outputs = map (λ p. source_of d p.signal) d.outputs;
}

-- it is the plain network
abbrev pub IsPlainNetwork : NetlistData → Network → Type 0
IsPlainNetwork d n = n ≡ plain_network d
