use Rattle.diag_sweep.proofs.branching.course_of.Goals as goal

pub returns-then-branch : goal.returns-then-branch
returns-then-branch c = rw c.deref.ensures.value at (c.in_ok-may_lead.ensures c.if-branch.true)
