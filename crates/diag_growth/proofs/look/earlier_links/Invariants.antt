use Rattle.diag_growth.specs.Looks.{AreEarlierUpTo}
use Rattle.diag_growth.proofs.look.earlier_links.Given as goal

abbrev pub invariant-links : goal.invariant-links
invariant-links l = AreEarlierUpTo l.links.items l.known.steps l.look.place l.others.items l.j
