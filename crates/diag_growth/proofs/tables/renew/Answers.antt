use Rattle.std.proofs.Common.{sym}
use Rattle.diag_growth.proofs.Testing.{without_at}
use Rattle.diag_growth.proofs.tables.renew.Goals as goal

pub returns-clause-stands : goal.returns-clause-stands
returns-clause-stands c = without_at (sym c.in_ok-without.ensures.hextant) c.in_ok-without.ensures.stands
