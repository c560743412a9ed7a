use Rattle.diag_growth.proofs.Vocabulary.{◌<◌, ℕ, line_at, IsFreeArm}
use Rattle.diag_growth.proofs.search.find_arm.Given as goal

abbrev pub invariant-lines : goal.invariant-lines
invariant-lines l = record {
  none : (i : ℕ) → i < l.k →
      ¬ IsFreeArm l.facts l.known.steps l.hextant.0 l.near.0 l.input.0 l.beside.0 (line_at l.facts.shape l.hextant.0 i);
}
