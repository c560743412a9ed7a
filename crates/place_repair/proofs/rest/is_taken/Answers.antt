use Rattle.std.proofs.Common.{inl, inr, refl}
use Rattle.place_repair.proofs.Taking.{unfree_listed, listed_unfree}
use Rattle.place_repair.proofs.rest.is_taken.Goals as goal

pub returns-then-not-free : goal.returns-then-not-free
returns-then-not-free c = (λ t. inl (unfree_listed c.args.defects.now.list c.args.wire.0 c.free_wire-free.result c.free_wire-free.ensures c.if-not-free.true), λ taken. refl)

pub returns : goal.returns
returns c = (λ t. inr (c.stays.ensures.0 t), λ taken. elim taken [ inl has ↦ absurd (listed_unfree c.args.defects.now.list c.args.wire.0 has (c.free_wire-free.ensures.0 c.if-not-free.false)) | inr stays ↦ c.stays.ensures.1 stays ])
