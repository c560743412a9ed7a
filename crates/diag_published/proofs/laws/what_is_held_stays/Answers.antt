use Rattle.diag_published.proofs.Staying.{trunk_later, held_later, full_later}
use Rattle.diag_published.proofs.laws.what_is_held_stays.Goals as goal

pub returns-clause-trunk : goal.returns-clause-trunk
returns-clause-trunk c = λ k l old new n left right later held. trunk_later later held

pub returns-clause-tested : goal.returns-clause-tested
returns-clause-tested c = λ k l old new t later held. held_later later t held

pub returns-clause-full : goal.returns-clause-full
returns-clause-full c = λ k l old new f t later full. full_later later.kept full
