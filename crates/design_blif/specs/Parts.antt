-- The words of lines, and what they make.
use Rattle.std.specs.Prelude.{ℕ, ◌-◌, ◌==◌, Bool, false, not, ◌&&◌, ◌||◌, nat_lt, codes, if◌then◌else◌, List, [], ◌∷◌, ◌++◌, Option, Some}
use Rattle.std.specs.{Prelude.None, Prelude.length, Prelude.map, Prelude.take, Prelude.slice_index, Prelude.slice_index_or, Str.bytes_eq}
use Rattle.std.specs.List.{list_all, before_first, after_first}
use Rattle.design_netlist.specs.declared.netlist_data.{Lit.Lit, Cover.Cover}
use Rattle.design_netlist.specs.declared.netlist_data.{Lit.TheVariants.Zero, Lit.TheVariants.One, Lit.TheVariants.Any, PortDef.PortDef}
use Rattle.design_flatten.specs.declared.model.PairDef.{PairDef}
use Rattle.design_blif.specs.Names.{numbers}

-- word k of a line
abbrev pub nth_word : ℕ → List (List ℕ) → List ℕ
nth_word k words = slice_index_or words k []

-- ---- rows

abbrev pub lit_of : ℕ → Lit
lit_of b = if b == 48 then Zero else if b == 49 then One else Any

-- 0, 1 or -
abbrev pub is_lit : ℕ → Bool
is_lit b = (b == 48) || (b == 49) || (b == 45)

-- one byte, 0 or 1
abbrev pub is_output : List ℕ → Bool
is_output w = (length w == 1) && ((slice_index w 0 == 48) || (slice_index w 0 == 49))

-- how many words a row has, for this many inputs
abbrev pub row_words : ℕ → ℕ
row_words n = if n == 0 then 1 else 2

abbrev pub pattern : ℕ → List (List ℕ) → List ℕ
pattern n words = if n == 0 then [] else nth_word 0 words

abbrev pub output : ℕ → List (List ℕ) → List ℕ
output n words = if n == 0 then nth_word 0 words else nth_word 1 words

abbrev pub is_off : ℕ → List (List ℕ) → Bool
is_off n words = slice_index (output n words) 0 == 48

abbrev pub is_right_row : ℕ → List (List ℕ) → Bool
is_right_row n words = (length (pattern n words) == n) && list_all is_lit (pattern n words) && is_output (output n words)

-- ---- latches

-- init is one of 0 to 3
abbrev pub is_init : List ℕ → Bool
is_init w = (length w == 1) && (not (nat_lt (slice_index w 0) 48)) && nat_lt (slice_index w 0) 52

-- behind input and output: the type and the control with two words or three, and init where it is the last of one or three
abbrev pub has_type : List (List ℕ) → Bool
has_type words = (length words == 5) || (length words == 6)

abbrev pub has_init : List (List ℕ) → Bool
has_init words = (length words == 4) || (length words == 6)

abbrev pub init_word : List (List ℕ) → List ℕ
init_word words = nth_word (length words - 1) words

abbrev pub init_of : List (List ℕ) → Bool
init_of words = has_init words && (slice_index (init_word words) 0 == 49)

-- the control, if it is a name
abbrev pub control_of : List (List ℕ) → Option (List ℕ)
control_of words = if has_type words && not (bytes_eq (nth_word 4 words) (codes "NIL")) then Some (nth_word 4 words) else None

-- ---- the use of a model

-- what stands before and after the first `=`
abbrev pub formal_of : List ℕ → List ℕ
formal_of w = before_first (λ b. b == 61) w

abbrev pub actual_of : List ℕ → List ℕ
actual_of w = after_first (λ b. b == 61) w

abbrev pub is_pair : List ℕ → Bool
is_pair w = nat_lt 0 (length (formal_of w)) && nat_lt 0 (length (actual_of w))

abbrev pub pairs_of : List (List ℕ) → List ℕ → List PairDef
pairs_of [] actuals = []
pairs_of (f ∷ formals) [] = []
pairs_of (f ∷ formals) (a ∷ actuals) = record { formal = f; actual = a } ∷ pairs_of formals actuals

-- ---- what a line makes

abbrev pub port_defs : List (List ℕ) → List (List ℕ) → ℕ → List PortDef
port_defs names words line = map (λ k. record { signal = k; line = line }) (numbers names words)

-- a cover without rows, from its signals
abbrev pub new_sum : List (List ℕ) → List (List ℕ) → ℕ → Cover
new_sum names words line =
    let ns = numbers names words in
    record { out = slice_index ns (length ns - 1); ins = take (length ns - 1) ns; rows = []; off = false; line = line }

abbrev pub with_row : Cover → List (List ℕ) → Cover
with_row c words = let n = length c.ins in record c { rows = c.rows ++ map lit_of (pattern n words) ∷ []; off = is_off n words }
