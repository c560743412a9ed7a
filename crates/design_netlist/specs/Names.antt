-- Names that share beginnings.
use Rattle.std.specs.Prelude.{ℕ, List, [], ◌∷◌, ◌++◌, Option, None, Some, fold, slice_index_or}
use Rattle.design_netlist.specs.declared.shared.{Beginning.Beginning, Shared.Shared}

-- one more beginning, behind the whole of the one in front of it, where that is earlier
abbrev pub with_text : List (List ℕ) → Beginning → List (List ℕ)
with_text texts b = texts ++ (slice_index_or texts b.before [] ++ b.text) ∷ []

-- the beginnings as whole texts
abbrev pub texts_of : List Beginning → List (List ℕ)
texts_of beginnings = fold with_text [] beginnings

abbrev pub text_in : List Beginning → ℕ → List ℕ
text_in beginnings k = slice_index_or (texts_of beginnings) k []

-- what stands in front of a name
abbrev pub front : List (List ℕ) → Option ℕ → List ℕ
front texts None = []
front texts (Some b) = slice_index_or texts b []

abbrev pub whole : List (List ℕ) → Shared → List ℕ
whole texts s = front texts s.beginning ++ s.end

abbrev pub no_beginning : Beginning
no_beginning = record { before = 0; text = [] }

abbrev pub beginning_at : List Beginning → ℕ → Beginning
beginning_at beginnings k = slice_index_or beginnings k no_beginning

-- the texts at some places, the last place first
abbrev pub joined : List Beginning → List ℕ → List ℕ
joined beginnings [] = []
joined beginnings (k ∷ ks) = joined beginnings ks ++ (beginning_at beginnings k).text
