-- The summary that `bench` writes.
use Rattle.std.specs.Prelude.{ℕ, List, ◌++◌, codes}
use Rattle.std.specs.Fmt.{decimal}
use Rattle.cmd_steps.specs.Lines.{as_line}

-- a line of a word and a number
abbrev pub number_line : List ℕ → ℕ → List ℕ
number_line word n = as_line (word ++ decimal n)

abbrev pub shape_line : List ℕ
shape_line = as_line (codes "shape 2 2 4 8 24 24 24 32 32 32 32 28")

abbrev pub rows_line : List ℕ
rows_line = as_line (codes "rows 64")

-- the number, the counts of the machine, how many tables and nets the plain network has, the rows, the ones in them, and the loads
abbrev pub summary_text : (n tables nets ones loads : ℕ) → List ℕ
summary_text n tables nets ones loads =
    number_line (codes "bench ") n ++ shape_line ++ number_line (codes "tables ") tables ++ number_line (codes "nets ") nets
    ++ rows_line ++ number_line (codes "ones ") ones ++ number_line (codes "loads ") loads
