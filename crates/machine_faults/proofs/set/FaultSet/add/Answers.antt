use Rattle.machine_faults.proofs.Vocabulary.{◌≡◌, ◌+◌, None, subst, sym, ap, ◌∙◌, arith, Faults, faults_in}
use Rattle.machine_shape.proofs.HighLimits.{high_limits}
use Rattle.machine_faults.specs.Adding.{Faulty, IsFaultSet, CanHave, refusal_of, count_of}
use Rattle.machine_faults.proofs.Adding.{set_kept, count_more, free_from}
use Rattle.machine_faults.proofs.set.FaultSet.add.Goals as goal

pub overflow_add-self : goal.overflow_add-self
overflow_add-self c =
    let few = c.self.invariant.0.few in
    let most = (high_limits c.self.inside.shape).faults.1 in
    omega (arith, few, most, c.self.invariant.2)

pub invariant_of-self-2 : goal.invariant_of-self-2
invariant_of-self-2 c =
    let old : Faults = faults_in c.self.inside.entries in
    let none : refusal_of c.self.inside.shape old c.args.f ≡ None = cc in
    let of_shape : CanHave c.self.inside.shape c.args.f = subst (λ (s : Faulty). CanHave s.shape c.args.f) (sym c.self.view_is) c.requires in
    let e = c.in_ok-put.ensures.ok in (
      subst (λ (f : Faults). IsFaultSet (record { shape = c.self.inside.shape; faults = f })) (sym e) (set_kept (record { shape = c.self.inside.shape; faults = old }) c.args.f c.self.invariant.0 of_shape none),
      c.in_ok-put.ensures.listed,
      ap (λ n. n + 1) c.self.invariant.2 ∙ sym (ap count_of e ∙ count_more old c.args.f (free_from c.self.inside.shape old c.args.f none).free),
    )
