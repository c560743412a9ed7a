use Rattle.machine_shape.proofs.Vocabulary.{◌<◌, ◌∙◌, sym, ap, subst, arith, levels_of, wires_in, part_name}
use Rattle.machine_shape.proofs.{Running.own_small, Totals.wires_are, Called.root_named, Called.root_unnamed}
use Rattle.machine_shape.proofs.reads.root_wire.Goals as goal

pub read_part-requires-clause-small : goal.read_part-requires-clause-small
read_part-requires-clause-small c = let o = own_small wires_in (levels_of c.args.shape) in let w = wires_are c.args.shape in let e = ap wires_in c.levels_of-levels.ensures.levels in omega (arith, o, w, e)

pub returns-in-Some-clause-some : goal.returns-in-Some-clause-some
returns-in-Some-clause-some c = root_named c.args.shape c.in-Some.k c.args.word.now (subst (λ ls. c.in-Some.k < wires_in ls) c.levels_of-levels.ensures.levels c.in-Some.ensures.some.0)
    (c.in-Some.ensures.some.1 ∙ ap (λ ls. part_name 112 ls c.in-Some.k) c.levels_of-levels.ensures.levels)

pub returns-in-None-clause-none : goal.returns-in-None-clause-none
returns-in-None-clause-none c = root_unnamed c.args.shape c.args.word.now
    (λ k h e. c.in-None.ensures.none k (subst (λ ls. k < wires_in ls) (sym c.levels_of-levels.ensures.levels) h) (e ∙ ap (λ ls. part_name 112 ls k) (sym c.levels_of-levels.ensures.levels)))
