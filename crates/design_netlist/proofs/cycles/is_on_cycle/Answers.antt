use Rattle.std.proofs.Common.{◌≡◌, ◌∙◌, ap, sym, subst, refl, length, Some, arith}
use Rattle.design_netlist.proofs.Vocabulary.{false≢true, get_or_default, Cover, driver_at, no_cover, number_at}
use Rattle.design_netlist.proofs.CycleLemmas.{one_of_all, none_of_all}
use Rattle.design_netlist.proofs.cycles.is_on_cycle.Goals as goal

pub returns-then-number_of-number : goal.returns-then-number_of-number
returns-then-number_of-number c =
    let e = c.as_slice-ins.ensures ∙ ap (λ (x : Cover). x.ins) (get_or_default c.args.covers.now c.args.cover c.index-covers-cover.result no_cover c.requires.within) in (
      λ h. one_of_all c.args.covers.now c.args.states.now.items c.requires.numbered c.args.drivers.now c.requires.drivers c.args.cover c.ins.k c.in-Some.driver c.requires.within
          (omega (arith, ap length e))
          (subst (λ xs. driver_at c.args.drivers.now (number_at xs c.ins.k) ≡ Some c.in-Some.driver) e c.in-Some.is)
          (sym c.number_of.ensures ∙ c.if-number_of-number.true ∙ c.number_of-number.ensures),
      λ h. refl,
    )

pub returns : goal.returns
returns c =
    let e = c.as_slice-ins.ensures ∙ ap (λ (x : Cover). x.ins) (get_or_default c.args.covers.now c.args.cover c.index-covers-cover.result no_cover c.requires.within) in
    (λ h. absurd (false≢true h), λ h. absurd (none_of_all c.args.covers.now c.args.states.now.items c.requires.numbered c.args.drivers.now c.requires.drivers c.args.cover c.ins.k (omega (arith, ap length e)) c.ins.invariant h))
