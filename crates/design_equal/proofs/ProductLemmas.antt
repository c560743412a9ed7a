-- Products of literals and sums of them.
use Rattle.std.proofs.Common.{◌≡◌, ℕ, ◌+◌, ◌<◌, ◌&&◌, ◌||◌, Bool, true, false, List, [], ◌∷◌, ◌++◌, length, take, drop, get_or, refl, sym, ap, ◌∙◌, not}
use Rattle.std.specs.List.{list_all, list_any, Sorted.IsPermutation}
use Rattle.design_equal.proofs.Vocabulary.{take-append-drop, literal_in, holds, some_holds}
use Rattle.design_equal.specs.{declared.expand.Pending.Pending, Products.pending_holds}
use Rattle.std.proofs.lemmas.List.{Folds.list_all-append, Folds.list_all_more, Folds.list_any-append, Sorted.list_any-IsPermutation}

all_is : {X : Type 0} (p : X → Bool) (xs : List X) → list_all p xs ≡ not (list_any (λ x. not (p x)) xs)
all_is p [] = refl
all_is p (x ∷ xs) = by (p x) (list_all p xs) (list_any (λ x. not (p x)) xs) (all_is p xs)
  where
    by : (b rest other : Bool) → rest ≡ not other → (b && rest) ≡ not (not b || other)
    by true rest other e = e
    by false rest other e = refl

-- the order of literals doesn't matter
pub any_order : (bits : ℕ → Bool) (xs ys : List ℕ) → IsPermutation xs ys → holds bits ys ≡ holds bits xs
any_order bits xs ys perm =
    all_is (literal_in bits) ys ∙ ap not (sym (list_any-IsPermutation (λ x. not (literal_in bits x)) xs ys perm)) ∙ sym (all_is (literal_in bits) xs)

-- where a product fails with a literal, it fails
pub never : (bits : ℕ → Bool) (xs : List ℕ) (k d : ℕ) → k < length xs → (holds bits (take k xs) && literal_in bits (get_or xs k d)) ≡ false → holds bits xs ≡ false
never bits xs k d lk e =
    ap (holds bits) (sym (take-append-drop (k + 1) xs))
    ∙ list_all-append (literal_in bits) (take (k + 1) xs) (drop (k + 1) xs)
    ∙ ap (λ b. b && holds bits (drop (k + 1) xs)) (list_all_more (literal_in bits) xs k d lk ∙ e)

pub either_not : (a b : Bool) → (not a || not b) ≡ not (a && b)
either_not true b = refl
either_not false b = refl

-- the last of what waits, with the last literal that is to be looked at, and with none
or_last : (a b c : Bool) → (a || (b || (c || false))) ≡ ((a || b) || c)
or_last true b c = refl
or_last false true c = refl
or_last false false true = refl
or_last false false false = refl

waits_last : (bits : ℕ → Bool) (sum : List (List ℕ)) (waiting rest : List Pending) (p : Pending) → waiting ≡ rest ++ p ∷ []
    → (some_holds bits sum || list_any (pending_holds bits) waiting) ≡ ((some_holds bits sum || list_any (pending_holds bits) rest) || pending_holds bits p)
waits_last bits sum waiting rest p is =
    ap (λ b. some_holds bits sum || b) (ap (list_any (pending_holds bits)) is ∙ list_any-append (pending_holds bits) rest (p ∷ []))
    ∙ or_last (some_holds bits sum) (list_any (pending_holds bits) rest) (pending_holds bits p)

and_last : (a b : Bool) → (a && (b && true)) ≡ (a && b)
and_last true true = refl
and_last true false = refl
and_last false b = refl

pub opened : (bits : ℕ → Bool) (sum : List (List ℕ)) (waiting rest : List Pending) (p : Pending) (todo : List ℕ) (x : ℕ) → waiting ≡ rest ++ p ∷ [] → p.todo.items ≡ todo ++ x ∷ []
    → (some_holds bits sum || list_any (pending_holds bits) waiting)
    ≡ ((some_holds bits sum || list_any (pending_holds bits) rest) || (holds bits p.done.items && (holds bits todo && literal_in bits x)))
opened bits sum waiting rest p todo x is last = waits_last bits sum waiting rest p is
    ∙ ap (λ b. (some_holds bits sum || list_any (pending_holds bits) rest) || (holds bits p.done.items && b))
    (ap (holds bits) last ∙ list_all-append (literal_in bits) todo (x ∷ []) ∙ and_last (holds bits todo) (literal_in bits x))

and_true : (a : Bool) → (a && true) ≡ a
and_true true = refl
and_true false = refl

pub finished : (bits : ℕ → Bool) (sum : List (List ℕ)) (waiting rest : List Pending) (p : Pending) → waiting ≡ rest ++ p ∷ [] → p.todo.items ≡ []
    → (some_holds bits sum || list_any (pending_holds bits) waiting) ≡ ((some_holds bits sum || list_any (pending_holds bits) rest) || holds bits p.done.items)
finished bits sum waiting rest p is none = waits_last bits sum waiting rest p is
    ∙ ap (λ b. (some_holds bits sum || list_any (pending_holds bits) rest) || b) (ap (λ xs. holds bits p.done.items && holds bits xs) none ∙ and_true (holds bits p.done.items))
