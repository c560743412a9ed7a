use Rattle.diag_check.proofs.Vocabulary.{refl, sym, ◌∙◌, subst, Shape, IsFieldOf, held}
use Rattle.diag_known.proofs.Taking.{takes_wide}
use Rattle.diag_check.proofs.Checking.{routes_if}
use Rattle.diag_sweep.proofs.Cohering.{coherent_grown}
use Rattle.diag_check.proofs.check.grow_over.Goals as goal

pub returns-in-Ok-clause-coherent : goal.returns-in-Ok-clause-coherent
returns-in-Ok-clause-coherent g c = coherent_grown c.requires.coherent c.grow.ensures.advances.more.shape c.grow.ensures.known c.grow.ensures.all refl

pub returns-in-Err-clause-coherent : goal.returns-in-Err-clause-coherent
returns-in-Err-clause-coherent g c = coherent_grown c.requires.coherent c.grow.ensures.advances.more.shape c.grow.ensures.known c.grow.ensures.all refl

pub keeps_routes-requires-clause-shape : goal.keeps_routes-requires-clause-shape
keeps_routes-requires-clause-shape g c = c.requires.image ∙ sym c.grow.ensures.advances.more.shape

pub returns-in-Ok-clause-keeps : goal.returns-in-Ok-clause-keeps
returns-in-Ok-clause-keeps g c = c.keeps_routes.ensures.keeps

pub returns-in-Ok-clause-whole_each : goal.returns-in-Ok-clause-whole_each
returns-in-Ok-clause-whole_each g c =
    let m = c.args.image.now.config.shape in
    λ f e. routes_if _ c.args.knowledge.now.facts c.grow.new.facts c.grow.new.known.steps c.args.image.now c.args.used.now c.args.field.now c.keeps_routes.result
    (record {
      numbered = c.the_numbering_is_sound.ensures.numbered m;
      tree = c.the_numbering_is_sound.ensures.tree m;
      parents = c.the_numbering_is_sound.ensures.parents m;
      meetings = c.the_crosspoints_are_sound.ensures.meetings m;
      homes = c.each_wire_has_a_home.ensures m;
      wires = c.without_faults_all_is_sound.ensures.wires m;
      tables = c.without_faults_all_is_sound.ensures.tables m;
      standing = c.parts_of_served_nodes_stand.ensures m;
    })
    c.keeps_routes.ensures.right c.requires.used (subst (λ (s : Shape). IsFieldOf s c.args.field.now) (sym c.requires.image) c.requires.field) (c.grow.ensures.advances.more.shape ∙ sym c.requires.image)
    (c.in-Ok.ensures.closed_each f e) (held c.grow.ensures.advances e) c.keeps_routes.ensures.all

pub returns-in-Ok-clause-loads : goal.returns-in-Ok-clause-loads
returns-in-Ok-clause-loads g c = takes_wide c.args.knowledge.now.facts c.args.field.now _ c.grow.ensures.loads

pub returns-in-Err-clause-loads : goal.returns-in-Err-clause-loads
returns-in-Err-clause-loads g c = takes_wide c.args.knowledge.now.facts c.args.field.now _ c.grow.ensures.loads
