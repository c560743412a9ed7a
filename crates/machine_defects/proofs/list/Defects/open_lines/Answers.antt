use Rattle.machine_defects.proofs.Vocabulary.{◌<◌, ◌∙◌, sym, subst, refl, get_or_default_zero, nodes_of, Line, is_line, DefectList}
use Rattle.machine_defects.proofs.Queries.{open_lines_are}
use Rattle.machine_defects.proofs.list.Defects.open_lines.Goals as goal

pub returns : goal.returns
returns c =
    let k = c.self.inside.kept in
    let lt : c.args.n.0 < nodes_of k.shape = subst (λ (v : DefectList). c.args.n.0 < nodes_of v.shape) (sym c.self.view_is) c.requires in
    rw (← c.self.view_is) (c.index.ensures ∙ get_or_default_zero k.open_lines.items c.args.n.0 _ (subst (λ n. c.args.n.0 < n) (sym c.self.invariant.wide.open_lines) lt)
    ∙ open_lines_are k c.self.invariant c.args.n.0 lt (λ i li. (c.the_numbering_is_sound.ensures.meanings k.shape).within _ (Line c.args.n.0 i) (is_line c.args.n.0 i lt li refl)))
