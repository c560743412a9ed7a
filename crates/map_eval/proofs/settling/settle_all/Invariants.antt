use Rattle.map_eval.proofs.Vocabulary.{◌≡◌, ◌<◌, ℕ, false, IsCombinational, differs_in, AreGivenBefore, IsKept}
use Rattle.map_eval.proofs.settling.settle_all.Given as goal

abbrev pub invariant-tables : goal.invariant-tables
invariant-tables l = record {
  kept : IsKept l.plan l.state;
  before : AreGivenBefore l.plan.network l.fn.state l.state;
  settled : (t : ℕ) → t < l.table → IsCombinational l.plan.network t → differs_in l.state t ≡ false;
}
