use Rattle.design_netlist.proofs.Vocabulary.{◌<◌, length, arith, refl, not, line_at, signal_at, IsDoubledIn}
use Rattle.design_netlist.proofs.{OrderLemmas.first_more, OrderLemmas.first_all, WordLemmas.doubled_when, WordLemmas.when_doubled}
use Rattle.design_netlist.proofs.drives.first_doubled.Goals as goal

pub returns : goal.returns
returns c = first_all (line_at c.args.words.now) (IsDoubledIn c.args.words.now) (length c.args.words.now) c.words.i c.words.found (omega arith) c.words.invariant

pub words-preserved : goal.words-preserved
words-preserved c =
    let below : signal_at c.args.words.now c.words.i < length c.args.firsts.now = c.requires.within c.words.i c.words-test.true in
    rw c.chosen-found.ensures
    (first_more (line_at c.args.words.now) (IsDoubledIn c.args.words.now) c.words.i c.words.found (not c.is_first-doubled.result) c.is_sooner-sooner.result c.words.invariant
    (doubled_when c.args.words.now (length c.args.words.now) refl c.words.i c.args.firsts.now (length c.args.firsts.now) c.requires.firsts below c.words-test.true c.is_first-doubled.result c.is_first-doubled.ensures.1)
    (when_doubled c.args.words.now (length c.args.words.now) refl c.words.i c.args.firsts.now (length c.args.firsts.now) c.requires.firsts below c.is_first-doubled.result c.is_first-doubled.ensures.0)
    c.is_sooner-sooner.ensures)
