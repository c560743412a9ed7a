-- That a search that comes to no free line shows a short set.
use Rattle.std.proofs.Common.{◌≡◌, ◌≢◌, ℕ, zero, suc, ◌<◌, ◌≤◌, Bool, true, false, ◌==◌, List, [], ◌∷◌, ◌++◌, length, map, get_or, count_by, Option, Some, refl, sym, ap, ◌∙◌, subst, arith, eq-eqb, eqb→eq, cond}
use Rattle.place_plan.proofs.Vocabulary.{T, All, AllPairs, Contains, filter, list_any, length-map, get_or-map, get_or_default}
use Rattle.place_plan.proofs.Vocabulary.{AllPairs-filter, length-filter, Any-from_list_any, list_any-from_Any, Step}
use Rattle.std.proofs.lemmas.List.Elements.{Contains-get_or, All-filter, filter_passes, All-contains, All-contains_itself, Contains-push, Contains-append_left}
use Rattle.place_plan.specs.Vocabulary.{serves_any, IsShort, line_at, step_at, no_step, IsPartial, IsTrail, AreSeen, AreScanned, IsStuck, IsDeadEnd}
use Rattle.place_plan.proofs.Counting.{pigeon}

pub stuck : (serves : ℕ → ℕ → Bool) (lines : List ℕ) (os : List (Option ℕ)) (steps : List Step) (seen : List Bool) (h : ℕ) → IsTrail serves lines os steps → AreSeen lines steps seen → length steps ≤ h → AreScanned serves lines steps seen h → IsStuck serves lines steps
stuck serves lines os [] seen h is marks le are = let s : 0 < length is_nil = is.some in absurd (none s)
  where
    is_nil : List Step
    is_nil = []

    none : 0 < 0 → ⊥
    none q = omega arith
stuck serves lines os (x ∷ rest) seen h is marks le are = record {
  held = map (λ s. line_at lines s.line) rest;
  fewer = ap suc (sym (length-map rest (λ s. line_at lines s.line)));
  all = λ i w lt has s.
      let w_is : line_at lines has.0 ≡ w = get_or_default lines has.0 0 w has.1 ∙ has.2 in
      let lh : i < h = omega arith in
      subst (Contains (map (λ s. line_at lines s.line) rest)) w_is
      (found (line_at lines has.0) has.0 refl (marks.only has.0 (are i has.0 lh has.1 (subst (λ z. serves (step_at (x ∷ rest) i).ask z ≡ true) (sym w_is) s))));
}
  where
    found : (w k : ℕ) → line_at lines k ≡ w → (g : ℕ) × (0 < g) × (g < length (x ∷ rest)) × ((step_at (x ∷ rest) g).line ≡ k) → Contains (map (λ s. line_at lines s.line) rest) w
    found w k e (zero, pos, lt, q) = absurd (none pos)
      where
        none : 0 < 0 → ⊥
        none p = omega arith
    found w k e (suc g, pos, lt, q) =
        let l : g < length rest = omega arith in
        let m : g < length (map (λ s. line_at lines s.line) rest) = omega (arith, length-map rest (λ s. line_at lines s.line)) in
        subst (Contains (map (λ s. line_at lines s.line) rest)) (get_or-map (λ s. line_at lines s.line) rest g no_step 0 l ∙ ap (line_at lines) q ∙ e) (Contains-get_or (map (λ s. line_at lines s.line) rest) g 0 m)

pub kept : {X : Type 0} → (p : X → Bool) (xs : List X) (x : X) → Contains xs x → p x ≡ true → Contains (filter p xs) x
kept p [] x has e = absurd (none has.1)
  where
    none : has.0 < 0 → ⊥
    none q = omega arith
kept p (y ∷ ys) x (zero, lt, q) e = subst (λ b. Contains (cond b (y ∷ filter p ys) (filter p ys)) x) (sym (ap p q ∙ e)) (0, omega arith, q)
kept p (y ∷ ys) x (suc k, lt, q) e = more (p y) (kept p ys x (k, omega arith, q) e)
  where
    more : (b : Bool) → Contains (filter p ys) x → Contains (cond b (y ∷ filter p ys) (filter p ys)) x
    more true has = (suc has.0, omega (arith, has.1), has.2)
    more false has = has

-- the nets that were reached are different
pub reached_apart : (serves : ℕ → ℕ → Bool) (lines done : List ℕ) (os : List (Option ℕ)) (net : ℕ) (steps : List Step) → IsPartial serves lines done os → IsTrail serves lines os steps → (step_at steps 0).ask ≡ net → ¬ Contains done net → (i k : ℕ) → i < k → k < length steps → (step_at steps i).ask ≢ (step_at steps k).ask
reached_apart serves lines done os net steps is trail first new zero k lt l e = new (subst (Contains done) (sym e ∙ first) (is.serving (step_at steps k).line (step_at steps k).ask (trail.owned k lt l)).1)
reached_apart serves lines done os net steps is trail first new (suc i) k lt l e =
    let li : suc i < length steps = omega arith in
    let pk : 0 < k = omega arith in
    trail.apart (suc i) k (omega arith) lt l (is.apart (step_at steps (suc i)).line (step_at steps k).line (step_at steps k).ask (trail.owned (suc i) (omega arith) li ∙ ap Some e) (trail.owned k pk l))

pub reached_within : (serves : ℕ → ℕ → Bool) (lines done nets : List ℕ) (os : List (Option ℕ)) (net : ℕ) (steps : List Step) → IsPartial serves lines done os → IsTrail serves lines os steps → (step_at steps 0).ask ≡ net → All (Contains nets) (done ++ net ∷ []) → (i : ℕ) → i < length steps → Contains nets (step_at steps i).ask
reached_within serves lines done nets os net steps is trail first all zero l = All-contains (Contains nets) (done ++ net ∷ []) (step_at steps 0).ask all (subst (Contains (done ++ net ∷ [])) (sym first) (Contains-push done net))
reached_within serves lines done nets os net steps is trail first all (suc i) l = All-contains (Contains nets) (done ++ net ∷ []) (step_at steps (suc i)).ask all (Contains-append_left done (net ∷ []) (step_at steps (suc i)).ask (is.serving (step_at steps (suc i)).line (step_at steps (suc i)).ask (trail.owned (suc i) (omega arith) l)).1)

abbrev reached_by : List Step → ℕ → Bool
reached_by steps n = list_any (λ s. s.ask == n) steps

is_reached_by : (steps : List Step) (i : ℕ) → i < length steps → reached_by steps (step_at steps i).ask ≡ true
is_reached_by steps i l = list_any-from_Any (λ s. s.ask == (step_at steps i).ask) steps (i, step_at steps i, l, get_or_default steps i (step_at steps i) no_step l, eq-eqb (step_at steps i).ask (step_at steps i).ask refl)

step_of : (steps : List Step) (n : ℕ) → reached_by steps n ≡ true → (i : ℕ) × (i < length steps) × ((step_at steps i).ask ≡ n)
step_of steps n e = let a = Any-from_list_any (λ s. s.ask == n) steps e in (a.0, a.2, ap (λ s. s.ask) (get_or_default steps a.0 no_step a.1 a.2 ∙ a.3) ∙ eqb→eq a.1.ask n (subst T (sym a.4) tt))

pub short_set : (serves : ℕ → ℕ → Bool) (lines done nets : List ℕ) (os : List (Option ℕ)) (net : ℕ) (steps : List Step) → IsPartial serves lines done os → IsDeadEnd serves lines os net steps → ¬ Contains done net → All (Contains nets) (done ++ net ∷ []) → AllPairs (λ n m. n < m) nets → AllPairs (λ w v. w ≢ v) lines → (set : List ℕ) → set ≡ filter (λ n. list_any (λ s. s.ask == n) steps) nets → (need have : ℕ) → need ≡ length set → have ≡ count_by (serves_any serves set) lines → IsShort serves nets lines set need have
short_set serves lines done nets os net steps is dead new all up apart set set_is need have need_is have_is = record {
  within = subst (All (Contains nets)) (sym set_is) (All-filter (reached_by steps) (Contains nets) nets (All-contains_itself nets));
  ascending = subst (AllPairs (λ n m. n < m)) (sym set_is) (AllPairs-filter (λ n m. n < m) (reached_by steps) nets up);
  need_is = need_is;
  have_is = have_is;
  fewer = omega (arith, few, many, dead.stuck.fewer, need_is, have_is, length-filter (serves_any serves set) lines);
}
  where
    in_set : (n : ℕ) → Contains set n → reached_by steps n ≡ true
    in_set n has = All-contains (λ n. reached_by steps n ≡ true) (filter (reached_by steps) nets) n (filter_passes (reached_by steps) nets) (subst (λ z. Contains z n) set_is has)

    held_by : (w : ℕ) → Contains lines w → serves_any serves set w ≡ true → Contains dead.stuck.held w
    held_by w has e =
        let a = Any-from_list_any (λ n. serves n w) set e in
        let s = step_of steps a.1 (in_set a.1 (a.0, a.2, a.3)) in
        dead.stuck.all s.0 w s.1 has (subst (λ n. serves n w ≡ true) (sym s.2) a.4)

    few : length (filter (serves_any serves set) lines) ≤ length dead.stuck.held
    few = pigeon (filter (serves_any serves set) lines) dead.stuck.held (AllPairs-filter (λ w v. w ≢ v) (serves_any serves set) lines apart)
        (λ k d l. held_by (get_or (filter (serves_any serves set) lines) k d) (All-filter (serves_any serves set) (Contains lines) lines (All-contains_itself lines) k d l) (filter_passes (serves_any serves set) lines k d l))

    nets_of : List ℕ
    nets_of = map (λ s. s.ask) steps

    at : (k d : ℕ) → k < length (map (λ s. s.ask) steps) → get_or (map (λ s. s.ask) steps) k d ≡ (step_at steps k).ask
    at k d l = let m : k < length steps = omega (arith, length-map steps (λ s. s.ask)) in get_or-map (λ s. s.ask) steps k no_step d m

    many : length steps ≤ length set
    many = subst (λ z. z ≤ length set) (length-map steps (λ s. s.ask)) (pigeon (map (λ s. s.ask) steps) set
        (λ i k d lt l e. let m : k < length steps = omega (arith, length-map steps (λ s. s.ask)) in reached_apart serves lines done os net steps is dead.trail dead.first new i k lt m (sym (at i d (omega arith)) ∙ e ∙ at k d l))
        (λ k d l. let m : k < length steps = omega (arith, length-map steps (λ s. s.ask)) in subst (λ z. Contains z (get_or (map (λ s. s.ask) steps) k d)) (sym set_is) (subst (Contains (filter (reached_by steps) nets)) (sym (at k d l)) (kept (reached_by steps) nets (step_at steps k).ask (reached_within serves lines done nets os net steps is dead.trail dead.first all k m) (is_reached_by steps k m)))))
