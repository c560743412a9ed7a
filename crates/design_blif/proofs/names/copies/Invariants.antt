use Rattle.std.proofs.Common.{◌≡◌, map, take}
use Rattle.design_blif.proofs.names.copies.Given as goal

abbrev pub invariant-words : goal.invariant-words
invariant-words l = l.names.items ≡ map (λ w. w.now) (take l.word-index l.words)
