-- Marks set one after the other.
use Rattle.std.proofs.Common.{◌≡◌, ℕ, ◌<◌, ◌+◌, Bool, true, false, ◌&&◌, ◌||◌, List, length, get_or, set, take, refl, sym, ap, ◌∙◌, ◌==◌}
use Rattle.diag_evidence.proofs.Vocabulary.{list_any, range_with_len, list_any_more, has_number, among}
use Rattle.diag_evidence.proofs.KeptLemmas.{mark_set}
use Rattle.diag_evidence.proofs.Rows.{any_number}

moved : (a b c : Bool) → (a || (b || c)) ≡ ((b || a) || c)
moved true true c = refl
moved true false c = refl
moved false true c = refl
moved false false c = refl

and_true : (a b : Bool) → b ≡ true → (a && b) ≡ a
and_true true b e = e
and_true false b e = refl

and_false : (a b : Bool) → b ≡ false → (a && b) ≡ false
and_false true b e = e
and_false false b e = refl

or_false : (a b : Bool) → b ≡ false → (a || b) ≡ a
or_false true b e = refl
or_false false b e = e

-- of the elements of a list those that pass a test are marked
module _ {A : Type 0} (xs : List A) (k : ℕ) (x : A) (below : k < length xs) (at : x ≡ get_or xs k x) (num : A → ℕ) (p : A → Bool) where
  one_more : (w : ℕ) → list_any (λ y. (num y == w) && p y) (take (k + 1) xs) ≡ (list_any (λ y. (num y == w) && p y) (take k xs) || ((num x == w) && p x))
  one_more w = list_any_more (λ y. (num y == w) && p y) xs k x below ∙ ap (λ (y : A). list_any (λ y. (num y == w) && p y) (take k xs) || ((num y == w) && p y)) (sym at)

  module _ (now : List Bool) (rest : ℕ → Bool) (marks : (w : ℕ) → has_number now w ≡ (list_any (λ y. (num y == w) && p y) (take k xs) || rest w)) where
    pub marked_on : p x ≡ true → num x < length now → (w : ℕ) → has_number (set now (num x) true) w ≡ (list_any (λ y. (num y == w) && p y) (take (k + 1) xs) || rest w)
    marked_on is within w =
        mark_set now (num x) w within ∙ ap (λ t. (num x == w) || t) (marks w) ∙ moved (num x == w) (list_any (λ y. (num y == w) && p y) (take k xs)) (rest w)
        ∙ ap (λ t. t || rest w) (ap (λ t. list_any (λ y. (num y == w) && p y) (take k xs) || t) (sym (and_true (num x == w) (p x) is)) ∙ sym (one_more w))

    pub marked_not : p x ≡ false → (w : ℕ) → has_number now w ≡ (list_any (λ y. (num y == w) && p y) (take (k + 1) xs) || rest w)
    marked_not is w = marks w ∙ ap (λ t. t || rest w) (sym (one_more w ∙ or_false (list_any (λ y. (num y == w) && p y) (take k xs)) _ (and_false (num x == w) (p x) is)))

-- of numbers one after the other those that pass a test are marked, each at its place
module _ (num : ℕ → ℕ) (p : ℕ → Bool) (k : ℕ) (now : List Bool) (rest : ℕ → Bool)
    (marks : (w : ℕ) → has_number now w ≡ (list_any (λ y. (num y == w) && p y) (range_with_len 0 k) || rest w)) where
  pub counted_on : p k ≡ true → num k < length now → (w : ℕ) → has_number (set now (num k) true) w ≡ (list_any (λ y. (num y == w) && p y) (range_with_len 0 (k + 1)) || rest w)
  counted_on is within w =
      mark_set now (num k) w within ∙ ap (λ t. (num k == w) || t) (marks w) ∙ moved (num k == w) (list_any (λ y. (num y == w) && p y) (range_with_len 0 k)) (rest w)
      ∙ ap (λ t. t || rest w) (ap (λ t. list_any (λ y. (num y == w) && p y) (range_with_len 0 k) || t) (sym (and_true (num k == w) (p k) is)) ∙ sym (any_number (λ y. (num y == w) && p y) k))

  pub counted_not : p k ≡ false → (w : ℕ) → has_number now w ≡ (list_any (λ y. (num y == w) && p y) (range_with_len 0 (k + 1)) || rest w)
  counted_not is w =
      marks w
      ∙ ap (λ t. t || rest w) (sym (any_number (λ y. (num y == w) && p y) k ∙ or_false (list_any (λ y. (num y == w) && p y) (range_with_len 0 k)) _ (and_false (num k == w) (p k) is)))

-- one number more of a list is marked
pub next_marked : (ws : List ℕ) (k x : ℕ) (now : List Bool) (rest : ℕ → Bool) → k < length ws → get_or ws k 0 ≡ x → x < length now →
    ((w : ℕ) → has_number now w ≡ (among (take k ws) w || rest w)) → (w : ℕ) → has_number (set now x true) w ≡ (among (take (k + 1) ws) w || rest w)
next_marked ws k x now rest below value within marks w =
    mark_set now x w within ∙ ap (λ t. (x == w) || t) (marks w) ∙ moved (x == w) (among (take k ws) w) (rest w)
    ∙ ap (λ t. t || rest w) (sym (list_any_more (λ y. y == w) ws k 0 below ∙ ap (λ y. among (take k ws) w || (y == w)) value))
