use Rattle.std.proofs.Common.{◌≡◌, ◌<◌, ◌∙◌, sym, subst, ap, not, true, false, ◌&&◌, ◌==◌}
use Rattle.machine_defects.proofs.Vocabulary.{get_or_default_zero, has_number, wires_of, count_at, DefectList}
use Rattle.machine_defects.proofs.Queries.{open_line_is}
use Rattle.machine_defects.proofs.list.Defects.open_line.Goals as goal

pub returns-then-not-has : goal.returns-then-not-has
returns-then-not-has c =
    let k = c.self.inside.kept in
    let lt : c.args.line.0 < wires_of k.shape = subst (λ (v : DefectList). c.args.line.0 < wires_of v.shape) (sym c.self.view_is) c.requires in
    let shut = c.index.ensures ∙ get_or_default_zero k.shut.items c.args.line.0 _ (subst (λ n. c.args.line.0 < n) (sym c.self.invariant.wide.shut) lt) in
    let free : not (has_number k.wires c.args.line.0) ≡ true = ap not (sym c.has.ensures ∙ c.if-not-has.true) in
    rw (← c.self.view_is) (open_line_is k c.self.invariant c.args.line.0 _ lt (λ i. sym free i && (shut i == 0)))

pub returns-else-not-has : goal.returns-else-not-has
returns-else-not-has c =
    let k = c.self.inside.kept in
    let lt : c.args.line.0 < wires_of k.shape = subst (λ (v : DefectList). c.args.line.0 < wires_of v.shape) (sym c.self.view_is) c.requires in
    let bound : not (has_number k.wires c.args.line.0) ≡ false = ap not (sym c.has.ensures ∙ c.if-not-has.false) in
    rw (← c.self.view_is) (open_line_is k c.self.invariant c.args.line.0 _ lt (ap not c.if-not-has.false ∙ (λ i. sym bound i && (count_at k.shut.items c.args.line.0 == 0))))
