use Rattle.diag_check.proofs.Vocabulary.{false, replicate, ap, ◌∙◌, nodes_of, Configuration}
use Rattle.diag_check.proofs.Involving.{involved_of}
use Rattle.diag_check.proofs.marks.involved_nodes.Goals as goal

pub returns : goal.returns
returns c =
    let e = c.shape-shape.ensures.shape ∙ ap (λ (g : Configuration). g.shape) c.config.ensures.config in
    involved_of c.args.image.now c.shape-shape.result e c.args.used.now c.in_ok-nodes.nodes c.mark_nodes.new.nodes c.mark_above.new.nodes c.config.ensures.right c.requires
    (c.in_ok-nodes.ensures ∙ ap (λ n. replicate n false) (c.nodes.ensures.nodes ∙ ap nodes_of e)) c.mark_nodes.ensures c.mark_above.ensures
    (c.the_numbering_is_sound.ensures.tree c.args.image.now.config.shape) (c.the_crosspoints_are_sound.ensures.meetings c.args.image.now.config.shape)
