use Rattle.example_parts.proofs.Vocabulary.{◌<◌, All, crosses_of}
use Rattle.example_parts.proofs.crossbars.setup.crosses_of.Given as goal

abbrev pub invariant-numbers : goal.invariant-numbers
invariant-numbers l = All (λ c. c.0 < crosses_of l.shape) l.crosses.items
