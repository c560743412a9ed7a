use Rattle.rig_port.proofs.Vocabulary.{◌≡◌, ◌∙◌, sym, subst, AreFaultsOf}
use Rattle.rig_port.proofs.{Behind.stands_faults, Standing.explained_as, Standing.may_be, Standing.told_faults}
use Rattle.rig_port.proofs.exact.port_exact.Goals as goal

pub returns : goal.returns
returns g c = λ m f at e.
    let b = c.args.rig.now.board in
    let d = may_be b m f e.last e.check (c.log_explained.ensures.found m at) e.stands in
    let same = told_faults b.waits e.last ∙ stands_faults m f b.talk e.last e.check e.stands in
    explained_as _ _ _ same (c.log_explained.ensures.each _ d m at (subst (AreFaultsOf m) (sym same) e.faults))
