-- Marks of which each is told.
use Rattle.std.proofs.Common.{◌≡◌, ◌⊎◌, ℕ, ◌<◌, Bool, true, List, length, refl, sym, ap, ◌∙◌, subst, inl, inr}
use Rattle.diag_check.proofs.Vocabulary.{set, length-set, has_number, Adds, marked_here, marked_still, marked_from}

pub adds_none : {P : ℕ → Type 0} {marks : List Bool} → ((x : ℕ) → P x → ⊥) → Adds P marks marks
adds_none never = record { len = refl; stays = λ x h. h; all = λ x p. absurd (never x p); only = λ x h. inl h }

pub adds_one : {P Q : ℕ → Type 0} {old mid : List Bool} (x : ℕ) → Adds P old mid → x < length mid → ((y : ℕ) → P y → Q y) → Q x → ((y : ℕ) → Q y → P y ⊎ (y ≡ x)) → Adds Q old (set mid x true)
adds_one {P} {Q} {old} {mid} x a within more here from = record {
  len = length-set mid x true ∙ a.len;
  stays = λ y h. marked_still mid x within y (a.stays y h);
  all = λ y q. by_all y (from y q);
  only = λ y h. by_only y (marked_from mid x y h);
}
  where
    by_all : (y : ℕ) → P y ⊎ (y ≡ x) → has_number (set mid x true) y ≡ true
    by_all y (inl p) = marked_still mid x within y (a.all y p)
    by_all y (inr e) = ap (has_number (set mid x true)) e ∙ marked_here mid x within

    by_more : (y : ℕ) → (has_number old y ≡ true) ⊎ P y → (has_number old y ≡ true) ⊎ Q y
    by_more y (inl h) = inl h
    by_more y (inr p) = inr (more y p)

    by_only : (y : ℕ) → (has_number mid y ≡ true) ⊎ (y ≡ x) → (has_number old y ≡ true) ⊎ Q y
    by_only y (inl h) = by_more y (a.only y h)
    by_only y (inr e) = inr (subst Q (sym e) here)

pub adds_more : {P R Q : ℕ → Type 0} {old mid new : List Bool} → Adds P old mid → Adds R mid new → ((y : ℕ) → P y → Q y) → ((y : ℕ) → R y → Q y) → ((y : ℕ) → Q y → P y ⊎ R y) → Adds Q old new
adds_more {P} {R} {Q} {old} {mid} {new} a b left right from = record {
  len = b.len ∙ a.len;
  stays = λ y h. b.stays y (a.stays y h);
  all = λ y q. by_all y (from y q);
  only = λ y h. by_only y (b.only y h);
}
  where
    by_all : (y : ℕ) → P y ⊎ R y → has_number new y ≡ true
    by_all y (inl p) = b.stays y (a.all y p)
    by_all y (inr r) = b.all y r

    by_left : (y : ℕ) → (has_number old y ≡ true) ⊎ P y → (has_number old y ≡ true) ⊎ Q y
    by_left y (inl h) = inl h
    by_left y (inr p) = inr (left y p)

    by_only : (y : ℕ) → (has_number mid y ≡ true) ⊎ R y → (has_number old y ≡ true) ⊎ Q y
    by_only y (inl h) = by_left y (a.only y h)
    by_only y (inr r) = inr (right y r)

pub adds_same : {P Q : ℕ → Type 0} {old new : List Bool} → Adds P old new → ((y : ℕ) → P y → Q y) → ((y : ℕ) → Q y → P y) → Adds Q old new
adds_same {P} {Q} {old} {new} a to from = record { len = a.len; stays = a.stays; all = λ y q. a.all y (from y q); only = λ y h. by y (a.only y h) }
  where
    by : (y : ℕ) → (has_number old y ≡ true) ⊎ P y → (has_number old y ≡ true) ⊎ Q y
    by y (inl h) = inl h
    by y (inr p) = inr (to y p)
