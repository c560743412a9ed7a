use Rattle.std.proofs.Common.{◌<◌, All, refl, sym, ◌∙◌, subst, arith}
use Rattle.place_repair.proofs.Numbering.{numbers_none, numbers_more}
use Rattle.place_repair.proofs.nets.number.Goals as goal

pub loop-k-init : goal.loop-k-init
loop-k-init c = record { sized = refl; so_far = numbers_none c.args.wires.now c.args.numbers.now }

pub loop-k-preserved : goal.loop-k-preserved
loop-k-preserved c =
    let r = numbers_more c.args.wires.now c.loop-k.numbers c.loop-k.k c.loop-k-test.true c.requires.ascending (subst (λ n. All (λ w. w < n) c.args.wires.now) (sym c.loop-k.invariant.sized) c.requires.within) c.loop-k.invariant.so_far in
    record { sized = r.0 ∙ c.loop-k.invariant.sized; so_far = r.1 }

pub returns-clause-sized : goal.returns-clause-sized
returns-clause-sized c = c.loop-k.invariant.sized

pub returns-clause-numbers : goal.returns-clause-numbers
returns-clause-numbers c = λ k l. c.loop-k.invariant.so_far.each k (omega (arith, l))
