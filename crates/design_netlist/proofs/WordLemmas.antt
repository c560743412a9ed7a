-- Words that drive, words that read, and the table of the first word of each signal.
use Rattle.std.proofs.Common.{◌≡◌, ℕ, zero, suc, ◌+◌, ◌<◌, ◌≤◌, ◌&&◌, Bool, true, false, not, cond, List, [], ◌∷◌, ◌++◌, Option, None, Some, refl, sym, ap, subst, ◌∙◌, arith, inl, inr, length, get_or, map, take, fold, is_some, nat_lt, if◌then◌else◌}
use Rattle.design_netlist.proofs.Vocabulary.{flat_map, get_or-map, get_or-append-add, length-map, length-append, LatchDef, PortDef}
use Rattle.std.proofs.lemmas.List.Sums.{fold-append, fold_more}
use Rattle.design_netlist.specs.Vocabulary.{IsBefore, IsFirst, is_sooner, word, word_at, signal_at, line_at, latch_read, IsDoubledIn, place_at, AreFirstWords, AreWithin, nearer, sooner}
use Rattle.design_netlist.proofs.OrderLemmas.{not_both, not_itself, first_more}

-- the first word of a signal isn't doubled, and any other is
module _ (words : List PortDef) (n : ℕ) (len : n ≡ length words) (i : ℕ) where
  first_is_not : (first : Option ℕ) → first ≡ Some i → IsFirst (line_at words) n (λ k. signal_at words k ≡ signal_at words i) first → IsDoubledIn words i → ⊥
  first_is_not None e h d = absurd cc
  first_is_not (Some j) e h d =
      let same : j ≡ i = cc in
      elim (h.2 d.0 (omega (arith, d.1)) d.3) [
        | inl k ↦ not_itself (line_at words) i (subst (λ x. IsBefore (line_at words) x i) (k ∙ same) d.2)
        | inr k ↦ not_both (line_at words) i d.0 (subst (λ x. IsBefore (line_at words) x d.0) same k) d.2
      ]

  other_is : (first : Option ℕ) → (first ≡ Some i → ⊥) → i < n → IsFirst (line_at words) n (λ k. signal_at words k ≡ signal_at words i) first → IsDoubledIn words i
  other_is None e lt h = absurd (h i lt refl)
  other_is (Some j) e lt h =
      elim (h.2 i lt refl) [ inl k ↦ absurd (e (ap (λ x. Some x) (sym k))) | inr k ↦ (j, omega (arith, h.0), k, h.1) ]

  pub doubled_when : (firsts : List (Option ℕ)) (count : ℕ) → AreFirstWords words n count firsts → signal_at words i < count → i < n → (first : Bool) → (place_at firsts (signal_at words i) ≡ Some i → first ≡ true) → not first ≡ true → IsDoubledIn words i
  doubled_when firsts count are ls li true h e = absurd cc
  doubled_when firsts count are ls li false h e = other_is (place_at firsts (signal_at words i)) (λ f. let g : false ≡ true = h f in cc) li (are (signal_at words i) ls)

  pub when_doubled : (firsts : List (Option ℕ)) (count : ℕ) → AreFirstWords words n count firsts → signal_at words i < count → (first : Bool) → (first ≡ true → place_at firsts (signal_at words i) ≡ Some i) → IsDoubledIn words i → not first ≡ true
  when_doubled firsts count are ls true h d = absurd (first_is_not (place_at firsts (signal_at words i)) (h refl) (are (signal_at words i) ls) d)
  when_doubled firsts count are ls false h d = refl

pub fold-flat_map : {X A B : Type 0} (f : B → A → B) (h : X → List A) (b : B) (xs : List X) → fold f b (flat_map h xs) ≡ fold (λ c x. fold f c (h x)) b xs
fold-flat_map f h b [] = refl
fold-flat_map f h b (x ∷ xs) = fold-append f b (h x) (flat_map h xs) ∙ fold-flat_map f h (fold f b (h x)) xs

pub latch_within : (latches : List LatchDef) (k count : ℕ) (d : LatchDef) → k < length latches → AreWithin count (map latch_read latches) → (get_or latches k d).from < count
latch_within latches k count d lk h =
    let l : k < length (map latch_read latches) = omega (arith, length-map latches latch_read) in
    subst (λ (w : PortDef). w.signal < count) (get_or-map latch_read latches k d (word 0 0) lk) (h k l)

pub within_right : (count : ℕ) (xs ys : List PortDef) → AreWithin count (xs ++ ys) → AreWithin count ys
within_right count xs ys h k lk =
    subst (λ (w : PortDef). w.signal < count) (get_or-append-add xs ys k (word 0 0)) (h (length xs + k) (omega (arith, length-append xs ys)))

-- the words that the table leaves free, looked through in order
module _ (firsts : List (Option ℕ)) (words : List PortDef) where
  abbrev pub free : ℕ → Bool
  free k = not (is_some (place_at firsts (signal_at words k)))

  abbrev pub IsFree : ℕ → Type 0
  IsFree k = free k ≡ true

  pub place : ℕ → Option ℕ
  place zero = None
  place (suc i) = cond (free i && is_sooner (line_at words) i (place i)) (Some i) (place i)

  pub place_first : (i : ℕ) → IsFirst (line_at words) i IsFree (place i)
  unfolding place
  place_first zero = λ k lt d. omega arith
  place_first (suc i) = subst (λ m. IsFirst (line_at words) m IsFree (place (suc i))) (let e : i + 1 ≡ suc i = omega arith in e) (first_more (line_at words) IsFree i (place i) (free i) (is_sooner (line_at words) i (place i)) (place_first i) (λ e. e) (λ e. e) refl)

  abbrev pub at_place : Option ℕ → Option PortDef
  at_place None = None
  at_place (Some k) = Some (word_at words k)

  step : (i : ℕ) (p : Option ℕ) (taken : Bool) → is_some (place_at firsts (signal_at words i)) ≡ taken → (if taken then at_place p else nearer (at_place p) (word_at words i)) ≡ at_place (cond (not taken && is_sooner (line_at words) i p) (Some i) p)
  step i p true e = refl
  step i None false e = refl
  step i (Some j) false e = by (nat_lt (line_at words i) (line_at words j))
    where
      by : (b : Bool) → (if b then Some (word_at words i) else Some (word_at words j)) ≡ at_place (cond b (Some i) (Some j))
      by true = refl
      by false = refl

  pub fold_place : (i : ℕ) → i ≤ length words → fold (sooner firsts) None (take i words) ≡ at_place (place i)
  unfolding place
  fold_place zero le = refl
  fold_place (suc i) le =
      let e : i + 1 ≡ suc i = omega arith in
      subst (λ m. fold (sooner firsts) None (take m words) ≡ at_place (place (suc i))) e
      (fold_more (sooner firsts) None words i (word 0 0) (omega arith) ∙ ap (λ f. sooner firsts f (word_at words i)) (fold_place i (omega arith)) ∙ step i (place i) (is_some (place_at firsts (signal_at words i))) refl)
