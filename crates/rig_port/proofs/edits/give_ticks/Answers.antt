use Rattle.rig_port.proofs.Vocabulary.{◌∙◌, ◌≤◌, ◌++◌, ◌∷◌, [], ap, sym, subst, decimal, Shape, most_ticks, with_ticks, Tick}
use Rattle.rig_port.proofs.Edited.{one_edit}
use Rattle.rig_port.proofs.edits.give_ticks.Goals as goal

pub set_ticks-requires-clause-few : goal.set_ticks-requires-clause-few
set_ticks-requires-clause-few c =
    subst (λ (m : Shape). c.ticks-ticks.result ≤ most_ticks m) (sym c.requires)
    (subst (λ n. n ≤ most_ticks c.args.config.now.config.shape) (sym c.ticks-ticks.ensures) c.shape-shape.ensures.right.few_ticks)

pub returns-in_ok-put_word-clause-made : goal.returns-in_ok-put_word-clause-made
returns-in_ok-put_word-clause-made c =
    one_edit (Tick c.args.config.now.config.ticks) c.args.set.now.config c.set_ticks.new.self.config c.args.line.now.items c.put_word.new.line.items
    (c.shape-shape.ensures.right.some_ticks, subst (λ (m : Shape). c.args.config.now.config.ticks ≤ most_ticks m) (sym c.requires) c.shape-shape.ensures.right.few_ticks)
    (c.in_ok-put_word.ensures ∙ ap (λ n. c.args.line.now.items ++ (107 ∷ [] ++ decimal n ++ 32 ∷ [])) (c.from.ensures ∙ c.ticks-ticks.ensures))
    (ap (λ r. r.config) c.set_ticks.ensures ∙ ap (λ n. with_ticks c.args.set.now.config n) c.ticks-ticks.ensures)
