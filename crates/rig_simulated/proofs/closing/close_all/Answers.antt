use Rattle.rig_simulated.proofs.Vocabulary.{◌≡◌, ◌∙◌, List, map, take, ap, sym, subst, Cross, cross_of}
use Rattle.std.proofs.lemmas.List.{take-map}
use Rattle.rig_simulated.proofs.closing.close_all.Goals as goal

pub crosses-init : goal.crosses-init
crosses-init c = record {
  closed = c.open_behind.ensures.stays c.args.faults.now.shape c.args.faults.now.faults c.requires.closed;
  same = ap (map cross_of) c.open_behind.ensures.closed ∙ sym (take-map cross_of c.count_alike-count.result c.args.classes.now.closed.items) ∙ ap (take c.count_alike-count.result) c.requires.same ∙ sym c.truncate.ensures.items;
  crosses = c.truncate.ensures.items ∙ subst (λ (l : List Cross). take c.count_alike-count.result l ≡ take c.count_alike-count.result c.args.crosses.now) c.deref.ensures.value c.count_alike-count.ensures.alike;
}
