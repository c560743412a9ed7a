-- What writes to the owners of lines keep true.
use Rattle.std.proofs.Common.{◌≡◌, ◌≢◌, ℕ, ◌<◌, Bool, true, List, [], ◌∷◌, ◌++◌, length, set, Option, Some, None, ◌⊎◌, inl, inr, refl, sym, ap, ◌∙◌, subst, arith}
use Rattle.place_plan.proofs.Vocabulary.{Contains, cases_eq, cases_lt, Step, owner_at, line_at, step_at, IsPartial, IsShifting}
use Rattle.std.proofs.lemmas.List.{length-set, get_or-set_same, get_or-set_other, get_or_past}
use Rattle.std.proofs.lemmas.List.Elements.{All-push, All-weaker, Contains-push, Contains-append_left}

pub owner-here : (os : List (Option ℕ)) (b : ℕ) (v : Option ℕ) → b < length os → owner_at (set os b v) b ≡ v
owner-here os b v lt = get_or-set_same os b v None lt

pub owner-other : (os : List (Option ℕ)) (b j : ℕ) (v : Option ℕ) → j ≢ b → owner_at (set os b v) j ≡ owner_at os j
owner-other os b j v ne = get_or-set_other os b j v None ne

-- two lines of which only one has a net
pub owners_differ : (os : List (Option ℕ)) (i j n : ℕ) → owner_at os i ≡ Some n → owner_at os j ≡ None → i ≢ j
owners_differ os i j n e f q = let g : owner_at os i ≡ owner_at os j = ap (owner_at os) q in cc

pub owned_within : (os : List (Option ℕ)) (j n : ℕ) → owner_at os j ≡ Some n → j < length os
owned_within os j n e = elim (cases_lt j (length os)) [ inl lt ↦ lt | inr le ↦ (let p : owner_at os j ≡ None = get_or_past os j None le in absurd (none_some n (sym p ∙ e))) ]
  where
    none_some : (n : ℕ) → None ≡ Some n → ⊥
    none_some n q = cc

pub none_of : (o : Option ℕ) → ((x : ℕ) → o ≡ Some x → ⊥) → o ≡ None
none_of None no_x = refl
none_of (Some x) no_x = absurd (no_x x refl)

pub placed_cases : (os : List (Option ℕ)) (b n j k : ℕ) → b < length os → owner_at (set os b (Some n)) j ≡ Some k → ((j ≡ b) × (n ≡ k)) ⊎ ((j ≢ b) × (owner_at os j ≡ Some k))
placed_cases os b n j k lt e = elim (cases_eq j b) [
  | inl q ↦ (let h : owner_at (set os b (Some n)) b ≡ Some n = owner-here os b (Some n) lt in let g : owner_at (set os b (Some n)) j ≡ owner_at (set os b (Some n)) b = ap (owner_at (set os b (Some n))) q in inl (q, (cc)))
  | inr ne ↦ inr (ne, sym (owner-other os b j (Some n) ne) ∙ e)
]

-- A net without a line gets one.
pub place : (serves : ℕ → ℕ → Bool) (lines done : List ℕ) (os : List (Option ℕ)) (b n : ℕ) → IsPartial serves lines done os → owner_at os b ≡ None → b < length lines → serves n (line_at lines b) ≡ true → ¬ Contains done n → IsPartial serves lines (done ++ n ∷ []) (set os b (Some n))
place serves lines done os b n is free lt s new = record {
  sized = length-set os b (Some n) ∙ is.sized;
  serving = λ j k e. elim (placed_cases os b n j k within e) [
    | inl p ↦ (subst (λ m. serves m (line_at lines j) ≡ true) p.1 (subst (λ i. serves n (line_at lines i) ≡ true) (sym p.0) s), subst (Contains (done ++ n ∷ [])) p.1 (Contains-push done n))
    | inr p ↦ ((is.serving j k p.1).0, Contains-append_left done (n ∷ []) k (is.serving j k p.1).1)
  ];
  apart = λ i j k e f. elim (placed_cases os b n i k within e) [
    | inl p ↦ elim (placed_cases os b n j k within f) [ inl q ↦ p.0 ∙ sym q.0 | inr q ↦ absurd (new (subst (Contains done) (sym p.1) (is.serving j k q.1).1)) ]
    | inr p ↦ elim (placed_cases os b n j k within f) [ inl q ↦ absurd (new (subst (Contains done) (sym q.1) (is.serving i k p.1).1)) | inr q ↦ is.apart i j k p.1 q.1 ]
  ];
  has = All-push (λ m. (j : ℕ) × (owner_at (set os b (Some n)) j ≡ Some m)) done n
      (All-weaker (λ m. (j : ℕ) × (owner_at os j ≡ Some m)) (λ m. (j : ℕ) × (owner_at (set os b (Some n)) j ≡ Some m)) (λ m p. (p.0, owner-other os b p.0 (Some n) (owners_differ os p.0 b m p.1 free) ∙ p.1)) done is.has)
      (b, owner-here os b (Some n) within);
}
  where
    within : b < length os
    within = subst (λ z. b < z) (sym is.sized) lt

-- what the owners are once a net goes from line a to line b
pub moved_cases : (os : List (Option ℕ)) (a b n j k : ℕ) → a < length os → b < length os → owner_at (set (set os b (Some n)) a None) j ≡ Some k → ((j ≡ b) × (n ≡ k)) ⊎ ((j ≢ a) × (j ≢ b) × (owner_at os j ≡ Some k))
moved_cases os a b n j k la lb e = elim (cases_eq j a) [
  | inl q ↦ (let l : a < length (set os b (Some n)) = subst (λ z. a < z) (sym (length-set os b (Some n))) la in let h : owner_at (set (set os b (Some n)) a None) a ≡ None = owner-here (set os b (Some n)) a None l in let g : owner_at (set (set os b (Some n)) a None) j ≡ owner_at (set (set os b (Some n)) a None) a = ap (owner_at (set (set os b (Some n)) a None)) q in cc)
  | inr na ↦ elim (placed_cases os b n j k lb (sym (owner-other (set os b (Some n)) a j None na) ∙ e)) [ inl p ↦ inl p | inr p ↦ inr (na, p.0, p.1) ]
]

pub moved_other : (os : List (Option ℕ)) (a b n j : ℕ) → j ≢ a → j ≢ b → owner_at (set (set os b (Some n)) a None) j ≡ owner_at os j
moved_other os a b n j na nb = owner-other (set os b (Some n)) a j None na ∙ owner-other os b j (Some n) nb

pub moved_to : (os : List (Option ℕ)) (a b n : ℕ) → b < length os → b ≢ a → owner_at (set (set os b (Some n)) a None) b ≡ Some n
moved_to os a b n lt ne = owner-other (set os b (Some n)) a b None ne ∙ owner-here os b (Some n) lt

pub moved_from : (os : List (Option ℕ)) (a b n : ℕ) → a < length os → owner_at (set (set os b (Some n)) a None) a ≡ None
moved_from os a b n lt = owner-here (set os b (Some n)) a None (subst (λ z. a < z) (sym (length-set os b (Some n))) lt)

-- A net goes from its line a to the free line b.
pub move : (serves : ℕ → ℕ → Bool) (lines done : List ℕ) (os : List (Option ℕ)) (a b n : ℕ) → IsPartial serves lines done os → owner_at os a ≡ Some n → owner_at os b ≡ None → b < length lines → serves n (line_at lines b) ≡ true → IsPartial serves lines done (set (set os b (Some n)) a None)
move serves lines done os a b n is had free lt s = record {
  sized = length-set (set os b (Some n)) a None ∙ length-set os b (Some n) ∙ is.sized;
  serving = λ j k e. elim (moved_cases os a b n j k la lb e) [
    | inl p ↦ (subst (λ m. serves m (line_at lines j) ≡ true) p.1 (subst (λ i. serves n (line_at lines i) ≡ true) (sym p.0) s), subst (Contains done) p.1 (is.serving a n had).1)
    | inr p ↦ is.serving j k p.2
  ];
  apart = λ i j k e f. elim (moved_cases os a b n i k la lb e) [
    | inl p ↦ elim (moved_cases os a b n j k la lb f) [ inl q ↦ p.0 ∙ sym q.0 | inr q ↦ absurd (q.0 (is.apart j a k q.2 (had ∙ ap Some p.1))) ]
    | inr p ↦ elim (moved_cases os a b n j k la lb f) [ inl q ↦ absurd (p.0 (is.apart i a k p.2 (had ∙ ap Some q.1))) | inr q ↦ is.apart i j k p.2 q.2 ]
  ];
  has = All-weaker (λ m. (j : ℕ) × (owner_at os j ≡ Some m)) (λ m. (j : ℕ) × (owner_at (set (set os b (Some n)) a None) j ≡ Some m)) (λ m p. elim (cases_eq p.0 a) [
    | inl q ↦ (b, moved_to os a b n lb ne ∙ (let g : owner_at os p.0 ≡ owner_at os a = ap (owner_at os) q in let o : owner_at os p.0 ≡ Some m = p.1 in cc))
    | inr na ↦ (p.0, moved_other os a b n p.0 na (owners_differ os p.0 b m p.1 free) ∙ p.1)
  ]) done is.has;
}
  where
    lb : b < length os
    lb = subst (λ z. b < z) (sym is.sized) lt

    la : a < length os
    la = owned_within os a n had

    ne : b ≢ a
    ne = λ q. owners_differ os a b n had free (sym q)

pub shift_step : (serves : ℕ → ℕ → Bool) (lines : List ℕ) (steps : List Step) (old os : List (Option ℕ)) (h free : ℕ) → ((i : ℕ) → 0 < i → i < length steps → (step_at steps i).from < i) → ((i : ℕ) → 0 < i → i < length steps → serves (step_at steps (step_at steps i).from).ask (line_at lines (step_at steps i).line) ≡ true) → ((i k : ℕ) → 0 < i → i < k → k < length steps → (step_at steps i).line ≢ (step_at steps k).line) → 0 < h → IsShifting serves lines steps old os h free → IsShifting serves lines steps old (set (set os free (Some (step_at steps h).ask)) (step_at steps h).line None) (step_at steps h).from (step_at steps h).line
shift_step serves lines steps old os h free back served apart pos is = record {
  sized = length-set (set os free (Some (step_at steps h).ask)) (step_at steps h).line None ∙ length-set os free (Some (step_at steps h).ask) ∙ is.sized;
  step = omega (arith, is.step);
  owned = λ i p lt. let lh : i < h = omega arith in moved_other os (step_at steps h).line free (step_at steps h).ask (step_at steps i).line (apart i h p lh is.step) (owners_differ os (step_at steps i).line free (step_at steps i).ask (is.owned i p (omega arith)) is.empty) ∙ is.owned i p (omega arith);
  within = subst (λ z. (step_at steps h).line < z) is.sized la;
  empty = moved_from os (step_at steps h).line free (step_at steps h).ask la;
  served = served h pos is.step;
  kept = λ done p. move serves lines done os (step_at steps h).line free (step_at steps h).ask (is.kept done p) had is.empty is.within is.served;
}
  where
    had : owner_at os (step_at steps h).line ≡ Some (step_at steps h).ask
    had = is.owned h pos (omega arith)

    la : (step_at steps h).line < length os
    la = owned_within os (step_at steps h).line (step_at steps h).ask had

    low : (step_at steps h).from < h
    low = back h pos is.step
