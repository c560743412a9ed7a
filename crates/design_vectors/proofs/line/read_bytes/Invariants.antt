use Rattle.design_vectors.proofs.Vocabulary.{Onward, HasRead}
use Rattle.design_vectors.proofs.line.read_bytes.Given as goal

abbrev pub invariant-bytes : goal.invariant-bytes
invariant-bytes l = HasRead Onward l.bytes l.k l.fn.line l.line
