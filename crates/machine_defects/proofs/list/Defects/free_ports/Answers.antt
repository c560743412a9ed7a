use Rattle.machine_defects.proofs.Vocabulary.{◌<◌, ◌∙◌, sym, subst, get_or_default_zero, nodes_of, DefectList}
use Rattle.machine_defects.proofs.Queries.{free_ports_are}
use Rattle.machine_defects.proofs.list.Defects.free_ports.Goals as goal

pub returns : goal.returns
returns c =
    let k = c.self.inside.kept in
    let lt : c.args.n.0 < nodes_of k.shape = subst (λ (v : DefectList). c.args.n.0 < nodes_of v.shape) (sym c.self.view_is) c.requires in
    rw (← c.self.view_is) (c.index.ensures ∙ get_or_default_zero k.free_ports.items c.args.n.0 _ (subst (λ n. c.args.n.0 < n) (sym c.self.invariant.wide.free_ports) lt) ∙ free_ports_are k c.self.invariant c.args.n.0 lt)
