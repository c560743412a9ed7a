use Rattle.diag_check.proofs.Vocabulary.{false, length, replicate, ap, ◌∙◌, length-replicate, crosses_of, Configuration}
use Rattle.diag_check.proofs.Surrounding.{surroundings_over}
use Rattle.diag_check.proofs.near.surroundings_of.Goals as goal

pub returns-clause-field : goal.returns-clause-field
returns-clause-field c =
    let e = c.shape-shape.ensures.shape ∙ ap (λ (g : Configuration). g.shape) c.config.ensures.config in
    record {
      wires = c.mark_sides.ensures.len ∙ c.in_ok-wires.ensures.used.len;
      crosses = c.mark_between.ensures.len ∙ ap length (c.in_ok-crosses.ensures ∙ ap (λ n. replicate n false) (c.crosses.ensures.crosses ∙ ap crosses_of e)) ∙ length-replicate (crosses_of c.args.image.now.config.shape) false;
    }

pub returns-clause-whole : goal.returns-clause-whole
returns-clause-whole c =
    let e = c.shape-shape.ensures.shape ∙ ap (λ (g : Configuration). g.shape) c.config.ensures.config in
    let m = c.args.image.now.config.shape in
    surroundings_over c.args.image.now c.shape-shape.result e c.args.nodes.now c.in_ok-wires.wires c.mark_sides.new.wires c.in_ok-crosses.crosses c.mark_between.new.crosses
    c.in_ok-wires.ensures.used c.requires (c.ports_and_lines_ascend.ensures m) (c.the_crosspoints_are_sound.ensures.meetings m) c.mark_sides.ensures
    (c.in_ok-crosses.ensures ∙ ap (λ n. replicate n false) (c.crosses.ensures.crosses ∙ ap crosses_of e)) c.mark_between.ensures
