use Rattle.diag_check.proofs.Vocabulary.{◌<◌, All, sym, ap, ◌∙◌, subst, Cross, Configuration, Field}
use Rattle.diag_check.proofs.Building.{picks_few, picked_over, built_of, built_few, built_skeleton}
use Rattle.diag_check.proofs.Using.{closed_counts, closed_within}
use Rattle.diag_check.proofs.fields.field_of.Goals as goal

pub join_nodes-requires-clause-frame : goal.join_nodes-requires-clause-frame
join_nodes-requires-clause-frame c = picks_few c.shape-shape.result c.args.parts.now.nodes c.in_ok-frame.frame c.args.most c.in_ok-frame.ensures.most c.in_ok-frame.ensures.picks

pub hang_used-requires-clause-frame : goal.hang_used-requires-clause-frame
hang_used-requires-clause-frame c = picks_few c.shape-shape.result c.args.parts.now.nodes c.in_ok-frame.frame c.args.most c.in_ok-frame.ensures.most c.in_ok-frame.ensures.picks

pub add_crosses-requires : goal.add_crosses-requires
add_crosses-requires c =
    let e = c.shape-shape.ensures.shape ∙ ap (λ (g : Configuration). g.shape) c.config-config.ensures.config in
    let len = c.hang_used.ensures.crosses.len ∙ c.join_nodes.ensures.crosses.len ∙ c.in_ok-field.ensures.field.crosses in
    subst (λ n. All (λ (x : Cross). x.0 < n) c.closed.result.now) (sym len)
    (closed_within c.args.image.now c.config-config.result.now.config c.config-config.ensures.config c.closed.result.now c.closed.ensures c.config-config.ensures.right c.shape-shape.result e)

pub returns-clause-whole : goal.returns-clause-whole
returns-clause-whole c =
    let m = c.args.image.now.config.shape in
    let field : Field = record { wires = c.hang_used.new.field.wires; crosses = c.add_crosses.new.marks } in
    let e = c.shape-shape.ensures.shape ∙ ap (λ (g : Configuration). g.shape) c.config-config.ensures.config in
    λ wide. built_skeleton c.args.image.now c.args.parts.now.used c.args.parts.now.nodes c.in_ok-frame.frame c.closed.result.now c.in_ok-field.field c.join_nodes.new.field field c.hang_used.new.field.crosses
    (built_of c.args.image.now c.shape-shape.result e c.args.parts.now.used c.args.parts.now.nodes c.in_ok-frame.frame c.closed.result.now c.in_ok-field.field c.join_nodes.new.field field c.hang_used.new.field.crosses
    c.join_nodes.ensures.wires c.join_nodes.ensures.crosses c.hang_used.ensures.wires c.hang_used.ensures.crosses c.add_crosses.ensures)
    (closed_counts c.args.image.now c.config-config.result.now.config c.config-config.ensures.config c.closed.result.now c.closed.ensures) c.args.most c.in_ok-frame.ensures.most
    (c.the_numbering_is_sound.ensures.tree m) (c.the_numbering_is_sound.ensures.parents m) (c.the_crosspoints_are_sound.ensures.meetings m) (c.ports_and_lines_ascend.ensures m) c.requires.used c.requires.nodes c.requires.most
    (picked_over c.shape-shape.result m c.args.parts.now.nodes c.args.most c.in_ok-frame.frame.picks.items e c.in_ok-frame.ensures.picks) wide

pub returns-clause-few : goal.returns-clause-few
returns-clause-few c =
    let field : Field = record { wires = c.hang_used.new.field.wires; crosses = c.add_crosses.new.marks } in
    let e = c.shape-shape.ensures.shape ∙ ap (λ (g : Configuration). g.shape) c.config-config.ensures.config in
    built_few c.args.image.now c.args.parts.now.used c.args.parts.now.nodes c.in_ok-frame.frame c.closed.result.now c.in_ok-field.field c.join_nodes.new.field field c.hang_used.new.field.crosses
    (built_of c.args.image.now c.shape-shape.result e c.args.parts.now.used c.args.parts.now.nodes c.in_ok-frame.frame c.closed.result.now c.in_ok-field.field c.join_nodes.new.field field c.hang_used.new.field.crosses
    c.join_nodes.ensures.wires c.join_nodes.ensures.crosses c.hang_used.ensures.wires c.hang_used.ensures.crosses c.add_crosses.ensures)
    (closed_counts c.args.image.now c.config-config.result.now.config c.config-config.ensures.config c.closed.result.now c.closed.ensures) c.args.most c.in_ok-frame.ensures.most c.in_ok-field.ensures.wires c.in_ok-field.ensures.crosses
