use Rattle.std.proofs.Common.{inl, inr, refl}
use Rattle.run_image.proofs.CycleLemmas.{unsent}
use Rattle.run_image.proofs.image.end_rows.Goals as goal

pub returns-then-not-none-clause-sent : goal.returns-then-not-none-clause-sent
returns-then-not-none-clause-sent g c = inl refl

pub returns-in-Ok-clause-sent : goal.returns-in-Ok-clause-sent
returns-in-Ok-clause-sent g c = inr c.in-Ok.ensures.rows

pub returns-in-Err-clause-refused : goal.returns-in-Err-clause-refused
returns-in-Err-clause-refused g c = rw c.from.ensures (unsent c.in-Err.fail _ _ c.in-Err.ensures.refused)
