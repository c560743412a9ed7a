-- Words between dots.
use Rattle.std.proofs.Common.{◌≡◌, ◌≢◌, ℕ, ◌+◌, ◌%◌, ◌^◌, ◌<◌, ◌≤◌, Bool, true, false, Some, None, ltb, List, [], ◌∷◌, ◌++◌, length, take, drop, refl, sym, ap, ◌∙◌, subst, arith, append_assoc, length-append, ◌==◌}
use Rattle.machine_shape.proofs.Vocabulary.{position, position_or_len, decimal, nat_tests, ⊎_elim, take-append_seam, drop-append_seam}
use Rattle.machine_shape.proofs.Vocabulary.{cases_lt, lt-ltb, le-ltb, cond-true, cond-false, decimal_by_steps, numbered, NoDot}
use Rattle.std.proofs.lemmas.List.Sums.{split_at_first, passes_at_first}

abbrev pub is_dot : ℕ → Bool
is_dot b = b == 46

pub no_dot-append : (a b : List ℕ) → NoDot a → NoDot b → NoDot (a ++ b)
no_dot-append [] b h g = g
no_dot-append (x ∷ a) b h g = (h.0, no_dot-append a b h.1 g)

pub no_dot-decimal : (n : ℕ) → n < 2 ^ 64 → NoDot (decimal n)
no_dot-decimal n h = decimal_by_steps (λ k ds. NoDot ds)
    (λ k lt. ((λ e. omega arith), tt))
    (λ k ds lt p. no_dot-append ds ((48 + k % 10) ∷ []) p ((λ e. omega arith), tt)) n h

pub no_dot-numbered : (c n : ℕ) → c ≢ 46 → n < 2 ^ 64 → NoDot (numbered c n)
no_dot-numbered c n h b = (h, no_dot-decimal n b)

not_dot : (x : ℕ) → x ≢ 46 → is_dot x ≡ false
not_dot x h = grind (arith, nat_tests)

pub first_dot : (w more : List ℕ) → NoDot w → position_or_len is_dot (w ++ 46 ∷ more) ≡ length w
first_dot [] more h = refl
first_dot (x ∷ w) more h = rw (not_dot x h.0) (let e = first_dot w more h.1 in omega arith)

pub none_dot : (w : List ℕ) → NoDot w → position_or_len is_dot w ≡ length w
none_dot [] h = refl
none_dot (x ∷ w) h = rw (not_dot x h.0) (let e = none_dot w h.1 in omega arith)

dot_only : (x : ℕ) → is_dot x ≡ true → x ≡ 46
dot_only x h = grind (arith, nat_tests)

other_only : (x : ℕ) → is_dot x ≡ false → x ≢ 46
other_only x h = grind (arith, nat_tests)

undotted-cons : (x : ℕ) (xs : List ℕ) (b : Bool) → is_dot x ≡ b → (length xs ≤ position_or_len is_dot xs → NoDot xs) → length (x ∷ xs) ≤ position_or_len is_dot (x ∷ xs) → NoDot (x ∷ xs)
undotted-cons x xs true e more h = absurd (let z : position_or_len is_dot (x ∷ xs) ≡ 0 = rw e refl in omega arith)
undotted-cons x xs false e more h = let z : position_or_len is_dot (x ∷ xs) ≡ 1 + position_or_len is_dot xs = rw e refl in (other_only x e, more (omega arith))

undotted : (text : List ℕ) → length text ≤ position_or_len is_dot text → NoDot text
undotted [] h = tt
undotted (x ∷ xs) h = undotted-cons x xs (is_dot x) refl (λ g. undotted xs g) h

dot_at : (text : List ℕ) → position_or_len is_dot text < length text → text ≡ take (position_or_len is_dot text) text ++ 46 ∷ drop (position_or_len is_dot text + 1) text
dot_at text h = split_at_first is_dot text 0 h ∙ ap (λ b. take (position_or_len is_dot text) text ++ b ∷ drop (position_or_len is_dot text + 1) text) (dot_only _ (passes_at_first is_dot text 0 h))

-- what stands round the first dot at i
pub record IsDotAt (text : List ℕ) (i : ℕ) : Type 0 where
  pub within : i < length text
  pub first : position_or_len is_dot text ≡ i
  pub round : text ≡ take i text ++ 46 ∷ drop (i + 1) text

pub dot_found : (text : List ℕ) (i : ℕ) → Some i ≡ position is_dot text → IsDotAt text i
dot_found text i e = ⊎_elim
    (λ h. let same : position_or_len is_dot text ≡ i = cc (e, cond-true (ltb (position_or_len is_dot text) (length text)) (Some (position_or_len is_dot text)) None (lt-ltb _ _ h)) in
    subst (IsDotAt text) same (record { within = h; first = refl; round = dot_at text h }))
    (λ h. absurd (cc (e, cond-false (ltb (position_or_len is_dot text) (length text)) (Some (position_or_len is_dot text)) None (le-ltb _ _ h))))
    (cases_lt (position_or_len is_dot text) (length text))

pub dot_missing : (text : List ℕ) → None ≡ position is_dot text → NoDot text
dot_missing text e = ⊎_elim
    (λ h. absurd (cc (e, cond-true (ltb (position_or_len is_dot text) (length text)) (Some (position_or_len is_dot text)) None (lt-ltb _ _ h))))
    (λ h. undotted text h)
    (cases_lt (position_or_len is_dot text) (length text))

-- a text has no dot, and one
pub not_both : (text : List ℕ) (i : ℕ) → IsDotAt text i → NoDot text → ⊥
not_both text i at none = let e = none_dot text none in let f = at.first in let w = at.within in omega arith

-- the word before the first dot, and the text after it
pub dot_after : (text w more : List ℕ) (i : ℕ) → IsDotAt text i → text ≡ w ++ 46 ∷ more → NoDot w → (take i text ≡ w) × (drop (i + 1) text ≡ more)
dot_after text w more i at e h =
    let k : i ≡ length w = sym at.first ∙ ap (position_or_len is_dot) e ∙ first_dot w more h in
    let whole : text ≡ (w ++ 46 ∷ []) ++ more = e ∙ sym (append_assoc w (46 ∷ []) more) in
    let n : i + 1 ≡ length (w ++ 46 ∷ []) = (let l = length-append w (46 ∷ []) in omega arith) in (
      ap (λ j. take j text) k ∙ ap (take (length w)) e ∙ take-append_seam w (46 ∷ more),
      ap (λ j. drop j text) n ∙ ap (drop (length (w ++ 46 ∷ []))) whole ∙ drop-append_seam (w ++ 46 ∷ []) more,
    )
