use Rattle.std.proofs.Common.{inl, inr, refl}
use Rattle.rig_doubled.proofs.twin_rig.TwinRigRig.attach.Goals as goal

pub returns-in_default-clause-texts : goal.returns-in_default-clause-texts
returns-in_default-clause-texts g c = refl

pub returns-in_default-clause-loads : goal.returns-in_default-clause-loads
returns-in_default-clause-loads g c = rw (← c.self.view_is) refl

pub returns-in_default-clause-second_name : goal.returns-in_default-clause-second_name
returns-in_default-clause-second_name g c = rw (← c.self.view_is) refl

pub returns-in_default-clause-handed : goal.returns-in_default-clause-handed
returns-in_default-clause-handed g c = rw (← c.self.view_is) (inl (record { wanting = refl; first = refl; second = refl }))

pub returns-in_default-clause-refused : goal.returns-in_default-clause-refused
returns-in_default-clause-refused g c = rw (← c.self.view_is) (refl, refl)

pub returns-then-is_err-clause-texts : goal.returns-then-is_err-clause-texts
returns-then-is_err-clause-texts g c = refl

pub returns-then-is_err-clause-loads : goal.returns-then-is_err-clause-loads
returns-then-is_err-clause-loads g c = rw (← c.self.view_is) refl

pub returns-then-is_err-clause-second_name : goal.returns-then-is_err-clause-second_name
returns-then-is_err-clause-second_name g c = rw (← c.self.view_is) refl

pub returns-then-is_err-clause-handed : goal.returns-then-is_err-clause-handed
returns-then-is_err-clause-handed g c = rw (← c.self.view_is) (inl (record { wanting = refl; first = refl; second = refl }))

pub returns-in-Ok-attach_both-clause-texts : goal.returns-in-Ok-attach_both-clause-texts
returns-in-Ok-attach_both-clause-texts g c = refl

pub returns-in-Ok-attach_both-clause-loads : goal.returns-in-Ok-attach_both-clause-loads
returns-in-Ok-attach_both-clause-loads g c = rw (← c.self.view_is) refl

pub returns-in-Ok-attach_both-clause-second_name : goal.returns-in-Ok-attach_both-clause-second_name
returns-in-Ok-attach_both-clause-second_name g c = rw (← c.self.view_is) refl

pub returns-in-Ok-attach_both-clause-both : goal.returns-in-Ok-attach_both-clause-both
returns-in-Ok-attach_both-clause-both g c = rw (← c.self.view_is) (rw c.deref.ensures at c.in-Ok-attach_both.ensures.both)

pub returns-in-Err-Failed-clause-texts : goal.returns-in-Err-Failed-clause-texts
returns-in-Err-Failed-clause-texts g c = refl

pub returns-in-Err-Failed-clause-loads : goal.returns-in-Err-Failed-clause-loads
returns-in-Err-Failed-clause-loads g c = rw (← c.self.view_is) refl

pub returns-in-Err-Failed-clause-second_name : goal.returns-in-Err-Failed-clause-second_name
returns-in-Err-Failed-clause-second_name g c = rw (← c.self.view_is) refl

pub returns-in-Err-Failed-clause-handed : goal.returns-in-Err-Failed-clause-handed
returns-in-Err-Failed-clause-handed g c = rw (← c.self.view_is) (inr (rw (c.deref.ensures, c.in-Err-Failed.field-0-is) at c.in-Err-Failed.ensures.refused))

pub returns-in-Err-Memory-clause-texts : goal.returns-in-Err-Memory-clause-texts
returns-in-Err-Memory-clause-texts g c = refl

pub returns-in-Err-Memory-clause-loads : goal.returns-in-Err-Memory-clause-loads
returns-in-Err-Memory-clause-loads g c = rw (← c.self.view_is) refl

pub returns-in-Err-Memory-clause-second_name : goal.returns-in-Err-Memory-clause-second_name
returns-in-Err-Memory-clause-second_name g c = rw (← c.self.view_is) refl

pub returns-clause-texts : goal.returns-clause-texts
returns-clause-texts g c = refl

pub returns-clause-loads : goal.returns-clause-loads
returns-clause-loads g c = rw (← c.self.view_is) refl

pub returns-clause-second_name : goal.returns-clause-second_name
returns-clause-second_name g c = rw (← c.self.view_is) refl
