use Rattle.machine_config.proofs.Vocabulary.{rules, ◌≡◌, [], subst, ◌∙◌, ap, replicate, None, AreListed}
use Rattle.machine_config.proofs.Members.{listed_below, all_off}
use Rattle.machine_config.proofs.lists.switch_all_off.Goals as goal

pub bounds-tables-t : goal.bounds-tables-t
bounds-tables-t c = listed_below c.loop-t.tables c.loop-t.on.items c.pop.new.self.items c.in-Some.t c.loop-t.invariant.0 c.in-Some.ensures.items

pub returns-clause-off : goal.returns-clause-off
returns-clause-off c =
    let empty : c.loop-t.on.items ≡ [] = search rules in
    all_off c.loop-t.tables (subst (AreListed c.loop-t.tables) empty c.loop-t.invariant.0) ∙ ap (λ n. replicate n None) c.loop-t.auto.tables
