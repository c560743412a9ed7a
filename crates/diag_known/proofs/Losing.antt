-- What is lost, tried or kept unless it is stuck stays so, as further wires are known.
use Rattle.diag_known.proofs.Vocabulary.{◌≡◌, ℕ, Option, List, ◌++◌, subst, inl, inr, Shape, Faults, Kept, IsMore, holds_earlier}
use Rattle.diag_known.proofs.Vocabulary.{AreLost, IsFit, IsLost, IsKeptUnlessStuck, IsTried, VerifiedWire}
use Rattle.diag_known.proofs.Places.{has_later}

pub kept_later : {told : Option Faults} {k l : Kept} {x : ℕ} → IsMore k l → IsKeptUnlessStuck told k x → IsKeptUnlessStuck told l x
kept_later {x = x} more p = record { at = λ f told holds free. more.crosses x (p.at f told (holds_earlier more holds) free) }

fit_before : {m n : Shape} {f : Faults} {ss : List VerifiedWire} {w : ℕ} (ts : List VerifiedWire) → n ≡ m → IsFit n f (ss ++ ts) w → IsFit m f ss w
fit_before {m} {n} {f} {ss} {w} ts same fit = subst (λ s. IsFit s f ss w) same (record { clear = fit.clear; alone = λ u h. fit.alone u (has_later ts h) })

pub lost_later : {told : Option Faults} {k l : Kept} {ss : List VerifiedWire} {w x y : ℕ} (ts : List VerifiedWire) → IsMore k l → AreLost told k ss w x y → AreLost told l (ss ++ ts) w x y
lost_later ts more p = record { at = λ f told holds fit one other. p.at f told (holds_earlier more holds) (fit_before ts more.shape fit) one other }

pub lost_one_later : {told : Option Faults} {k l : Kept} {ss : List VerifiedWire} {w x : ℕ} (ts : List VerifiedWire) → IsMore k l → IsLost told k ss w x → IsLost told l (ss ++ ts) w x
lost_one_later ts more p = record { at = λ f told holds fit free. p.at f told (holds_earlier more holds) (fit_before ts more.shape fit) free }

pub lost_turned : {told : Option Faults} {k : Kept} {ss : List VerifiedWire} {w x y : ℕ} → AreLost told k ss w x y → AreLost told k ss w y x
lost_turned p = record { at = λ f told holds fit one other. p.at f told holds fit other one }

pub tried_later : {told : Option Faults} {k l : Kept} {ss : List VerifiedWire} {w : ℕ} (ts : List VerifiedWire) → IsMore k l → IsTried told k ss w → IsTried told l (ss ++ ts) w
tried_later ts more (inl h) = inl (has_later ts h)
tried_later ts more (inr b) = inr (record { at = λ f told holds fit. b.at f told (holds_earlier more holds) (fit_before ts more.shape fit) })
