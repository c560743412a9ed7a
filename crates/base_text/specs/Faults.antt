-- What a fault says of the lines that are left.
use Rattle.std.specs.Prelude.{◌≡◌, true, false, Option, None, Some, List, [], ◌∷◌, ◌<◌, length}
use Rattle.base_text.specs.declared.lines.LineFault.{LineFault, TheVariants.BadByte, TheVariants.Memory}
use Rattle.base_text.specs.Lines.{LogicalLine, is_bad_line}

-- the first of the lines has a bad byte, and this number; of a lack of memory nothing is said
abbrev pub IsFaultAt : List LogicalLine → LineFault → Type 0
IsFaultAt lines Memory = Unit {0}
IsFaultAt [] (BadByte n) = ⊥
IsFaultAt (l ∷ lines) (BadByte n) = (l.number ≡ n) × (is_bad_line l ≡ true)

-- the next line is taken off, if there is one, and it has words and no bad byte
abbrev pub TakesNext : List LogicalLine → Option LogicalLine → List LogicalLine → Type 0
TakesNext old None new = (old ≡ []) × (new ≡ [])
TakesNext old (Some l) new = (old ≡ l ∷ new) × (is_bad_line l ≡ false) × (0 < length l.words)
