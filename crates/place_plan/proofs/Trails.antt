-- What a search's next step keeps true.
use Rattle.std.proofs.Common.{◌≡◌, ◌≢◌, ℕ, zero, suc, ◌+◌, ◌<◌, Bool, true, false, cond, not, List, [], ◌∷◌, ◌++◌, length, set, count_by, Option, Some, inl, inr, refl, sym, ap, ◌∙◌, subst, arith}
use Rattle.std.proofs.lemmas.List.{length-set, length_push, get_or-set_same, get_or-set_other, get_or_append_left, get_or_push}
use Rattle.place_plan.proofs.Vocabulary.{sum_by-cons, cases_eq, Step}
use Rattle.place_plan.specs.Search.{owner_at, line_at, step_at, no_step, is_seen, IsTrail, AreSeen, GoesOn, AreScanned, IsScanning}

pub at_old : (steps : List Step) (x : Step) (h : ℕ) → h < length steps → step_at (steps ++ x ∷ []) h ≡ step_at steps h
at_old steps x h lt = get_or_append_left steps (x ∷ []) no_step h lt

pub at_new : (steps : List Step) (x : Step) → step_at (steps ++ x ∷ []) (length steps) ≡ x
at_new steps x = get_or_push steps x no_step (length steps) refl

pub push_each : (P : ℕ → Step → Type 0) (steps : List Step) (x : Step) → ((h : ℕ) → 0 < h → h < length steps → P h (step_at steps h)) → P (length steps) x → (h : ℕ) → 0 < h → h < length (steps ++ x ∷ []) → P h (step_at (steps ++ x ∷ []) h)
push_each P steps x old new h pos lt = elim (cases_eq h (length steps)) [
  | inl q ↦ subst (λ k. P k (step_at (steps ++ x ∷ []) k)) (sym q) (subst (P (length steps)) (sym (at_new steps x)) new)
  | inr ne ↦ (let l : h < length steps = omega (arith, length_push steps x) in subst (P h) (sym (at_old steps x h l)) (old h pos l))
]

pub count_set : (seen : List Bool) (j : ℕ) → is_seen seen j ≡ false → j < length seen → suc (count_by not (set seen j true)) ≡ count_by not seen
count_set [] j e lt = absurd (none lt)
  where
    none : j < 0 → ⊥
    none h = omega arith
count_set (true ∷ bs) zero e lt = cc
count_set (false ∷ bs) zero e lt =
    let a : count_by not (true ∷ bs) ≡ count_by not bs = refl in
    let b : count_by not (false ∷ bs) ≡ 1 + count_by not bs = sum_by-cons (λ x. cond (not x) 1 0) false bs in
    let c : count_by not (set (false ∷ bs) 0 true) ≡ count_by not (true ∷ bs) = refl in
    omega arith
count_set (true ∷ bs) (suc j) e lt = count_set bs j e (omega arith)
count_set (false ∷ bs) (suc j) e lt =
    let h : suc (count_by not (set bs j true)) ≡ count_by not bs = count_set bs j e (omega arith) in
    let b : count_by not (false ∷ bs) ≡ 1 + count_by not bs = sum_by-cons (λ x. cond (not x) 1 0) false bs in
    let c : count_by not (set (false ∷ bs) (suc j) true) ≡ 1 + count_by not (set bs j true) = sum_by-cons (λ x. cond (not x) 1 0) false (set bs j true) in
    omega arith

pub seen_within : (seen : List Bool) (j : ℕ) → is_seen seen j ≡ true → j < length seen
seen_within [] j e = cc
seen_within (b ∷ bs) zero e = omega arith
seen_within (b ∷ bs) (suc j) e = let h : j < length bs = seen_within bs j e in omega arith

pub push_trail : (serves : ℕ → ℕ → Bool) (lines : List ℕ) (os : List (Option ℕ)) (steps : List Step) (seen : List Bool) (h j n : ℕ) → IsTrail serves lines os steps → AreSeen lines steps seen → h < length steps → owner_at os j ≡ Some n → serves (step_at steps h).ask (line_at lines j) ≡ true → is_seen seen j ≡ false → IsTrail serves lines os (steps ++ record { ask = n; line = j; from = h } ∷ [])
push_trail serves lines os steps seen h j n is marks lt had s unseen = record {
  some = omega (arith, length_push steps x);
  owned = push_each (λ i t. owner_at os t.line ≡ Some t.ask) steps x is.owned had;
  back = push_each (λ i t. t.from < i) steps x is.back lt;
  served = push_each (λ i t. serves (step_at (steps ++ x ∷ []) t.from).ask (line_at lines t.line) ≡ true) steps x
      (λ i pos l. let b : (step_at steps i).from < i = is.back i pos l in let b2 : (step_at steps i).from < length steps = omega arith in subst (λ t. serves t.ask (line_at lines (step_at steps i).line) ≡ true) (sym (at_old steps x (step_at steps i).from b2)) (is.served i pos l))
      (subst (λ t. serves t.ask (line_at lines j) ≡ true) (sym (at_old steps x h lt)) s);
  apart = λ i k pos l m. let li : i < length steps = omega (arith, length_push steps x) in subst (λ t. t.line ≢ (step_at (steps ++ x ∷ []) k).line) (sym (at_old steps x i li))
      (push_each (λ k t. i < k → (step_at steps i).line ≢ t.line) steps x (λ k pk lk lik. is.apart i k pos lik lk)
      (λ l2 q. let a : is_seen seen (step_at steps i).line ≡ true = marks.each i pos l2 in let g : is_seen seen (step_at steps i).line ≡ is_seen seen j = ap (is_seen seen) q in cc) k (omega arith) m l);
}
  where
    x : Step
    x = record { ask = n; line = j; from = h }

pub push_seen : (lines : List ℕ) (steps : List Step) (seen : List Bool) (h j n : ℕ) → AreSeen lines steps seen → j < length lines → 0 < length steps → is_seen seen j ≡ false → AreSeen lines (steps ++ record { ask = n; line = j; from = h } ∷ []) (set seen j true)
push_seen lines steps seen h j n marks lt some unseen = record {
  sized = length-set seen j true ∙ marks.sized;
  only = λ i e. elim (cases_eq i j) [
    | inl q ↦ (length steps, some, omega (arith, length_push steps x), ap (λ t. t.line) (at_new steps x) ∙ sym q)
    | inr ne ↦ (let old = marks.only i (sym (get_or-set_other seen j i true false ne) ∙ e) in let lo : old.0 < length steps = old.2 in (old.0, old.1, omega (arith, length_push steps x), ap (λ t. t.line) (at_old steps x old.0 lo) ∙ old.3))
  ];
  each = push_each (λ i t. is_seen (set seen j true) t.line ≡ true) steps x (λ i pos l. marked (step_at steps i).line (marks.each i pos l)) (get_or-set_same seen j true false within);
  few = omega (arith, length_push steps x, count_set seen j unseen within, marks.few);
}
  where
    x : Step
    x = record { ask = n; line = j; from = h }

    within : j < length seen
    within = subst (λ z. j < z) (sym marks.sized) lt

    marked : (i : ℕ) → is_seen seen i ≡ true → is_seen (set seen j true) i ≡ true
    marked i e = elim (cases_eq i j) [ inl q ↦ subst (λ k. is_seen (set seen j true) k ≡ true) (sym q) (get_or-set_same seen j true false within) | inr ne ↦ get_or-set_other seen j i true false ne ∙ e ]

-- marks stay
pub stays_seen : (seen : List Bool) (j i : ℕ) → is_seen seen i ≡ true → is_seen (set seen j true) i ≡ true
stays_seen seen j i e = elim (cases_eq i j) [
  | inl q ↦ (let l : i < length seen = seen_within seen i e in let m : is_seen (set seen i true) i ≡ true = get_or-set_same seen i true false l in subst (λ k. is_seen (set seen k true) i ≡ true) q m)
  | inr ne ↦ get_or-set_other seen j i true false ne ∙ e
]

pub push_on : (old new : List Step) (x : Step) → GoesOn old new → GoesOn old (new ++ x ∷ [])
push_on old new x on = record {
  longer = omega (arith, length_push new x, on.longer);
  same = λ h l. let lo : length old < suc (length new) = on.longer in let ln : h < length new = omega arith in at_old new x h ln ∙ on.same h l;
}

pub push_scanned : (serves : ℕ → ℕ → Bool) (lines : List ℕ) (steps : List Step) (seen : List Bool) (h j : ℕ) (x : Step) → h < length steps → AreScanned serves lines steps seen h → AreScanned serves lines (steps ++ x ∷ []) (set seen j true) h
push_scanned serves lines steps seen h j x lt are i k li lk s =
    let l : i < length steps = omega arith in
    stays_seen seen j k (are i k li lk (subst (λ t. serves t.ask (line_at lines k) ≡ true) (at_old steps x i l) s))

pub scan_push : (serves : ℕ → ℕ → Bool) (lines : List ℕ) (os : List (Option ℕ)) (old steps : List Step) (seen : List Bool) (h net j n : ℕ) → IsScanning serves lines os old steps seen h net j → h < length old → j < length lines → owner_at os j ≡ Some n → serves net (line_at lines j) ≡ true → is_seen seen j ≡ false → IsScanning serves lines os old (steps ++ record { ask = n; line = j; from = h } ∷ []) (set seen j true) h net (j + 1)
scan_push serves lines os old steps seen h net j n is lh lj had s unseen = record {
  trail = push_trail serves lines os steps seen h j n is.trail is.marks l had (subst (λ z. serves z (line_at lines j) ≡ true) (sym is.net_is) s) unseen;
  marks = push_seen lines steps seen h j n is.marks lj is.trail.some unseen;
  on = push_on old steps x is.on;
  scanned = push_scanned serves lines steps seen h j x l is.scanned;
  net_is = ap (λ t. t.ask) (at_old steps x h l) ∙ is.net_is;
  upto = λ i lt e. elim (cases_eq i j) [
    | inl q ↦ subst (λ k. is_seen (set seen j true) k ≡ true) (sym q) (get_or-set_same seen j true false within)
    | inr ne ↦ stays_seen seen j i (is.upto i (omega arith) e)
  ];
}
  where
    x : Step
    x = record { ask = n; line = j; from = h }

    l : h < length steps
    l = omega (arith, is.on.longer)

    within : j < length seen
    within = subst (λ z. j < z) (sym is.marks.sized) lj

pub scan_skip : (serves : ℕ → ℕ → Bool) (lines : List ℕ) (os : List (Option ℕ)) (old steps : List Step) (seen : List Bool) (h net j : ℕ) → IsScanning serves lines os old steps seen h net j → (serves net (line_at lines j) ≡ true → is_seen seen j ≡ true) → IsScanning serves lines os old steps seen h net (j + 1)
scan_skip serves lines os old steps seen h net j is here_ = record {
  trail = is.trail;
  marks = is.marks;
  on = is.on;
  scanned = is.scanned;
  net_is = is.net_is;
  upto = λ i lt e. elim (cases_eq i j) [
    | inl q ↦ subst (λ k. is_seen seen k ≡ true) (sym q) (here_ (subst (λ k. serves net (line_at lines k) ≡ true) q e))
    | inr ne ↦ is.upto i (omega arith) e
  ];
}
