use Rattle.design_blif.proofs.Vocabulary.{◌≡◌, true, length, logical_lines, run, text_start}
use Rattle.design_blif.specs.Texts.{text_of}
use Rattle.design_blif.proofs.read.read_lines.Given as goal

abbrev pub invariant-lines : goal.invariant-lines
invariant-lines l = run (text_of l.text) l.lines ≡ run text_start (logical_lines true l.bytes)

abbrev pub decreases-lines : goal.decreases-lines
decreases-lines l = length l.lines
