use Rattle.diag_evidence.proofs.Vocabulary.{◌≡◌, ◌&&◌, ◌||◌, ℕ, length, take, ◌==◌, list_any, has_number, shows_unfit, shows_unclear}
use Rattle.diag_evidence.proofs.feet.mark_unfit.Given as goal

abbrev pub invariant-feet : goal.invariant-feet
invariant-feet l = record {
  unfit : (w : ℕ) → has_number l.unfit w ≡ (list_any (λ foot. (foot.0.0 == w) && shows_unfit l.forest l.feet l.reads.rows foot) (take l.k l.feet) || has_number l.fn.unfit w);
  unclear : (w : ℕ) → has_number l.unclear w ≡ (list_any (λ foot. (foot.0.0 == w) && shows_unclear l.forest l.feet l.reads.rows foot) (take l.k l.feet) || has_number l.fn.unclear w);
  len : length l.unfit ≡ length l.fn.unfit;
  len_too : length l.unclear ≡ length l.fn.unclear;
}
