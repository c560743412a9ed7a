-- What a row's writer is once the line that it gave is let go.
use Rattle.std.specs.Prelude.{◌≡◌}
use Rattle.std.specs.{Borrow.MutBor, Borrow.Fml, Io.BufRead.Rests}
use Rattle.design_vectors.specs.{declared.row_text.RowText.RowText, contracts.row_text.RowText.the_row}

-- it has its width
abbrev pub KeepsWidth : MutBor RowText → Fml
KeepsWidth text = Rests the_row text (λ last. last ≡ text.now)
