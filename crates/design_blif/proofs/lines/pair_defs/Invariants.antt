use Rattle.design_blif.proofs.Vocabulary.{◌≡◌, ◌++◌, map, drop, pairs_of}
use Rattle.design_blif.proofs.lines.pair_defs.Given as goal

abbrev pub invariant-formals : goal.invariant-formals
invariant-formals l = l.pairs.items ++ pairs_of (map (λ w. w.now) (drop l.k l.formals)) (drop l.k l.actuals) ≡ pairs_of (map (λ w. w.now) l.formals) l.actuals
