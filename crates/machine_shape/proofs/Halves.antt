-- What holds of all of two lists holds of all of each.
use Rattle.machine_shape.proofs.Vocabulary.{ℕ, ◌+◌, List, ◌++◌, length, length-append, subst, arith, get_or_append_left, get_or-append-add}
use Rattle.std.specs.List.{All}

pub All-left : (P : ℕ → Type 0) (xs ys : List ℕ) → All P (xs ++ ys) → All P xs
All-left P xs ys all i d l = subst P (get_or_append_left xs ys d i l) (all i d (omega (arith, length-append xs ys)))

pub All-right : (P : ℕ → Type 0) (xs ys : List ℕ) → All P (xs ++ ys) → All P ys
All-right P xs ys all i d l = subst P (get_or-append-add xs ys i d) (all (length xs + i) d (omega (arith, length-append xs ys)))
