use Rattle.machine_defects.proofs.Vocabulary.{◌<◌, sym, subst, tables_of, DefectList}
use Rattle.machine_defects.proofs.Queries.{free_table_is}
use Rattle.machine_defects.proofs.list.Defects.free_table.Goals as goal

pub returns : goal.returns
returns c =
    let lt : c.args.t.0 < tables_of c.self.inside.kept.shape = subst (λ (v : DefectList). c.args.t.0 < tables_of v.shape) (sym c.self.view_is) c.requires in
    rw (← c.self.view_is) (free_table_is c.self.inside.kept c.self.invariant c.args.t.0 c.has.result lt c.has.ensures)
