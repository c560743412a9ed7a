use Rattle.machine_faults.proofs.Vocabulary.{subst, sym, ap, ◌∙◌, Faults, IsFaultSet, count_of}
use Rattle.machine_faults.proofs.Adding.{none_kept, count_none}
use Rattle.machine_faults.proofs.set.FaultSet.none.Goals as goal

pub invariant_of-result : goal.invariant_of-result
invariant_of-result c =
    let e = c.no_entries-entries.ensures.faults in (
      subst (λ (f : Faults). IsFaultSet (record { shape = c.args.shape; faults = f })) (sym e) (none_kept c.args.shape),
      c.no_entries-entries.ensures.listed,
      sym (ap count_of e ∙ count_none),
    )
