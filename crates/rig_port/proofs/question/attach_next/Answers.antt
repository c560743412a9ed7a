use Rattle.rig_port.proofs.Vocabulary.{◌∙◌, ap, subst, Shape, fresh_check, after, counts_body, counts_line, AreCounts, attach_body}
use Rattle.rig_port.proofs.{Behind.nothing_said, Resumed.told_counts}
use Rattle.rig_port.proofs.question.attach_next.Goals as goal

pub attach-requires-clause-expected : goal.attach-requires-clause-expected
attach-requires-clause-expected g c =
    c.in-Ok.ensures.expected ∙ ap (λ (m : Shape). counts_line (after fresh_check (attach_body c.saturating_add.result)) c.saturating_add.result m.counts) c.shape-shape.ensures.shape

pub attach-requires-clause-check : goal.attach-requires-clause-check
attach-requires-clause-check g c =
    c.in-Ok.ensures.behind ∙ ap (λ (m : Shape). after (after fresh_check (attach_body c.saturating_add.result)) (counts_body c.saturating_add.result m.counts)) c.shape-shape.ensures.shape

pub attach-requires-clause-counts : goal.attach-requires-clause-counts
attach-requires-clause-counts g c = subst (λ (m : Shape). AreCounts m.counts) c.shape-shape.ensures.shape c.in-Ok.ensures.right

pub attach-requires-clause-told : goal.attach-requires-clause-told
attach-requires-clause-told g c =
    told_counts c.args.link.now.set.config.shape (g.P.Port.port_state c.args.port.now).device (subst (λ (m : Shape). AreCounts m.counts) c.shape-shape.ensures.shape c.in-Ok.ensures.right) c.requires.told

pub returns-in_default-clause-talks : goal.returns-in_default-clause-talks
returns-in_default-clause-talks g c = nothing_said c.args.link.now.set.config.shape c.args.link.now.talk (g.P.Port.port_state c.args.port.now).talk
