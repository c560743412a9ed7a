-- Names of machines, and the faults that they stand for.
use Rattle.std.specs.Prelude.{◌≡◌, ℕ, ◌&&◌, ◌==◌, nat_le, if◌then◌else◌, Option, Some, None, IfSome, List, slice_index, drop, bytes_eq}
use Rattle.std.specs.Fmt.{decimal}
use Rattle.machine_shape.specs.declared.Shape.{Shape}
use Rattle.machine_meaning.specs.Vocabulary.{Faults}
use Rattle.machine_faults.specs.Text.{IsFaultText}
use Rattle.base_text.specs.Vocabulary.{read_on}

-- the number of at most 4,294,967,295 whose numeral the word is
abbrev pub number_of_word : List ℕ → Option ℕ
number_of_word word = if bytes_eq (decimal (read_on 0 word)) word && nat_le (read_on 0 word) 4294967295 then Some (read_on 0 word) else None

-- the number of a name of an at sign and a numeral, which stands for generated faults
abbrev pub generated_of : List ℕ → Option ℕ
generated_of name = if slice_index name 0 == 64 then number_of_word (drop 1 name) else None

-- where the fault text of the name is told, and so are the faults, they are those that it spells. Generated faults have no text
abbrev pub SpellsFaults : (text : Option (List ℕ)) → (name : List ℕ) → Shape → Option Faults → Type 0
SpellsFaults text name m faults = IfSome text (λ bytes. generated_of name ≡ None → IfSome faults (λ f. IsFaultText m bytes f))
