-- What a body returns at a `?`.
use Rattle.std.proofs.Common.{◌≡◌, Result, Ok, Err, IsErrAnd, ap}

pub err-is : {T E : Type 0} {e : E} (r : Result T E) → IsErrAnd r (λ y. y ≡ e) → r ≡ Err e
err-is (Ok x) h = absurd h
err-is (Err y) h = ap (λ x. Err x) h
