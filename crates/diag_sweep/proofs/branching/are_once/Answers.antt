use Rattle.diag_sweep.proofs.Vocabulary.{◌==◌, List, ℕ, subst, IsDistinct}
use Rattle.diag_sweep.proofs.branching.are_once.Goals as goal

pub returns : goal.returns
returns c = λ yes. subst (λ (ns : List ℕ). IsDistinct (λ a b. a == b) ns) c.in_ok-wires.ensures
    (subst (λ (ns : List ℕ). IsDistinct (λ a b. a == b) ns) c.deref.ensures.value (c.see_all.ensures.seen yes).once)
