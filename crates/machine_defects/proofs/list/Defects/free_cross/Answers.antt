use Rattle.machine_defects.proofs.Vocabulary.{◌<◌, sym, subst, crosses_of, DefectList}
use Rattle.machine_defects.proofs.Queries.{free_cross_is}
use Rattle.machine_defects.proofs.list.Defects.free_cross.Goals as goal

pub returns : goal.returns
returns c =
    let lt : c.args.c.0 < crosses_of c.self.inside.kept.shape = subst (λ (v : DefectList). c.args.c.0 < crosses_of v.shape) (sym c.self.view_is) c.requires in
    rw (← c.self.view_is) (free_cross_is c.self.inside.kept c.self.invariant c.args.c.0 c.has.result lt c.has.ensures)
