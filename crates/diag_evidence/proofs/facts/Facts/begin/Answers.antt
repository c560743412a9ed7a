use Rattle.std.proofs.Common.{◌≡◌, refl}
use Rattle.diag_evidence.proofs.Keeping.{more_begun, holds_begun}
use Rattle.diag_evidence.proofs.facts.Facts.begin.Goals as goal

pub returns-clause-begun : goal.returns-clause-begun
returns-clause-begun c = rw (← c.self.view_is, c.clear.ensures) refl

pub returns-clause-more : goal.returns-clause-more
returns-clause-more c = rw (← c.self.view_is) (more_begun _ c.args.w.0 (rw c.clear.ensures refl))

pub returns-clause-explained : goal.returns-clause-explained
returns-clause-explained c = rw (← c.self.view_is) (holds_begun _ c.args.w.0 (rw c.clear.ensures refl))
