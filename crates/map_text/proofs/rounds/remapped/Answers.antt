use Rattle.map_text.proofs.RemapLemmas.{round-kept}
use Rattle.map_text.proofs.rounds.remapped.Goals as goal

pub rounds-preserved : goal.rounds-preserved
rounds-preserved c =
    let found = c.in_ok-found.ensures in
    round-kept c.args.netlist.now c.args.text.now c.rounds.best c.in_ok-best-2.best c.in_ok-found.found.text c.rounds.invariant
    found.another found.narrow c.in_ok-best-2.ensures
