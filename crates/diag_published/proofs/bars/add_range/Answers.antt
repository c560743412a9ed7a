use Rattle.std.proofs.Common.{◌<◌, length, arith}
use Rattle.diag_published.proofs.Fielding.{range_none, range_next, range_end}
use Rattle.diag_published.proofs.bars.add_range.Goals as goal

pub numbers-init : goal.numbers-init
numbers-init c = record { gets = range_none c.args.first; low = omega arith; high = c.requires.ordered }

pub insert-requires : goal.insert-requires
insert-requires c = let len = c.numbers.invariant.gets.len in let within = c.requires.within in let below = c.numbers-test.true in omega (arith, len, within, below)

pub numbers-preserved : goal.numbers-preserved
numbers-preserved c =
    let old = c.numbers.invariant in
    let len = old.gets.len in
    let within = c.requires.within in
    let below = c.numbers-test.true in
    let low = old.low in
    record {
      gets = rw c.insert.ensures (range_next c.args.first c.numbers.x old.low (let h : c.numbers.x < length c.numbers.marks = omega (arith, len, within, below) in h) old.gets);
      low = omega (arith, low);
      high = omega (arith, below);
    }

pub returns : goal.returns
returns c = range_end c.args.first c.args.end c.numbers.x c.numbers.invariant.high c.numbers-test.false c.numbers.invariant.gets
