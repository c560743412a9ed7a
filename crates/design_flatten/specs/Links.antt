-- Names of models as covers, each of which reads those of the models that are used in models of its name.
use Rattle.std.specs.Prelude.{ℕ, ◌≡◌, ◌<◌, ◌↔◌, true, List, [], ◌∷◌, ◌++◌, length, slice_index_or}
use Rattle.std.specs.List.{Contains}
use Rattle.design_netlist.specs.{declared.netlist_data.Cover.Cover, Covers.cover_at}
use Rattle.design_flatten.specs.{Uses.Use, Uses.is_among, NameSets.number_in, UseLines.listed}

-- the names of the first n lines are among these
abbrev pub HaveNames : List (List ℕ) → List Use → ℕ → Type 0
HaveNames names uses n = (k : ℕ) → k < n → (is_among names (listed uses k).own ≡ true) × (is_among names (listed uses k).model ≡ true)

-- so many covers, each with its number as output
pub record AreBare (count : ℕ) (covers : List Cover) : Type 0 where
  pub len : length covers ≡ count
  pub outs : (i : ℕ) → i < count → (cover_at covers i).out ≡ i
  pub ins : (i : ℕ) → i < count → (cover_at covers i).ins ≡ []

abbrev pub with_input : Cover → ℕ → Cover
with_input c input = record { out = c.out; ins = c.ins ++ input ∷ []; rows = c.rows; off = c.off; line = c.line }

-- one of the first n lines stands in a model of the name with number i, and the name of the model that it uses has number j
abbrev pub IsLink : List (List ℕ) → List Use → ℕ → ℕ → ℕ → Type 0
IsLink names uses n i j = (k : ℕ) × (k < n) × (number_in names (listed uses k).own ≡ i) × (number_in names (listed uses k).model ≡ j)

-- the cover of each name reads those to which one of the first n lines leads
pub record AreLinked (names : List (List ℕ)) (uses : List Use) (n : ℕ) (covers : List Cover) : Type 0 where
  pub len : length covers ≡ length names
  pub outs : (i : ℕ) → i < length names → (cover_at covers i).out ≡ i
  pub ins : (i j : ℕ) → i < length names → Contains (cover_at covers i).ins j ↔ IsLink names uses n i j

abbrev pub group_at : List (List ℕ) → List ℕ → List ℕ → ℕ
group_at names groups w = slice_index_or groups (number_in names w) 0
