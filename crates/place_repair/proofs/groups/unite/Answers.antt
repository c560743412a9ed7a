use Rattle.std.proofs.Common.{◌<◌, sym, subst}
use Rattle.place_repair.proofs.Grouping.{united_low, united_high}
use Rattle.place_repair.proofs.groups.unite.Goals as goal

pub root_of-two-requires-clause-within : goal.root_of-two-requires-clause-within
root_of-two-requires-clause-within c = subst (λ n. c.args.b < n) (sym c.root_of-one.ensures.found.sized) c.requires.b

pub root_of-two-requires-clause-low : goal.root_of-two-requires-clause-low
root_of-two-requires-clause-low c = c.root_of-one.ensures.found.low

pub returns-then-one-two : goal.returns-then-one-two
returns-then-one-two c =
    united_low c.args.parents.now c.root_of-one.new.parents c.root_of-two.new.parents c.args.a c.args.b c.root_of-one.result c.root_of-two.result
    c.root_of-one.ensures.found c.root_of-two.ensures.found c.root_of-one.ensures.top c.root_of-two.ensures.top c.if-one-two.true

pub returns-else-one-two : goal.returns-else-one-two
returns-else-one-two c =
    united_high c.args.parents.now c.root_of-one.new.parents c.root_of-two.new.parents c.args.a c.args.b c.root_of-one.result c.root_of-two.result
    c.root_of-one.ensures.found c.root_of-two.ensures.found c.root_of-one.ensures.top c.root_of-two.ensures.top c.if-one-two.false
