-- The pins that signals lead to.
use Rattle.std.proofs.Common.{◌≡◌, ◌⊎◌, Bool, ℕ, zero, suc, ◌+◌, ◌*◌, ◌%◌, ◌^◌, ◌<◌, ◌≤◌, List, [], ◌∷◌, ◌++◌, true, false, length, get_or, set, refl, sym, ap, subst, ◌∙◌, inl, inr, arith}
use Rattle.map_eval.proofs.Vocabulary.{Contains, cases_eq, cases_lt, pow_below, Source, Input, Table, Network, Pin, ArePinsIn}
use Rattle.std.proofs.lemmas.List.{get_or-set_same, get_or-set_other, length-set, get_or_append_left, get_or_push, length_push, get_or_default}
use Rattle.map_network.specs.Vocabulary.{table_at, IsSourceOf, Reads}
use Rattle.map_eval.specs.Pins.{signal_of, source_at, signal_at, AreInRange, pin_of, no_pin, pin_at, pins_at, IsAmong, AreApart, IsBefore, ReadsSignal, ArePinsTo, ArePins}
use Rattle.map_eval.proofs.WordLemmas.{pow_same}

pub same_table : (t p u q : ℕ) → pin_of t p ≡ pin_of u q → t ≡ u
same_table t p u q e = ap (λ (x : Pin). x.table) e

pub same_place : (t p u q : ℕ) → pin_of t p ≡ pin_of u q → p ≡ q
same_place t p u q e = pow_same p q (ap (λ (x : Pin). x.bit) e)

-- nothing stands in the lists at first
pub pins_none : (n : Network) (lists : List (List Pin)) → length lists ≡ length n.tables + n.inputs → ((s : ℕ) → pins_at lists s ≡ []) → ArePinsTo n 0 0 lists
pins_none n lists len none = record {
  len = len;
  listed = λ u p b. absurd (not_before u p b);
  right = λ s k lk. absurd (let e = ap length (none s) in let no : ⊥ = omega arith in no);
  apart = λ s i k l lk e. (let f = ap length (none s) in let no : ⊥ = omega arith in no);
}
  where
    not_before : (u p : ℕ) → IsBefore 0 0 u p → ⊥
    not_before u p (inl l) = let no : ⊥ = omega arith in no
    not_before u p (inr b) = let l = b.1 in let no : ⊥ = omega arith in no

-- the signal of a source is in range
pub signal_low : (n : Network) (x : Source) → IsSourceOf n x → signal_of (length n.tables) x < length n.tables + n.inputs
signal_low n (Input k) of = omega arith
signal_low n (Table j) of = omega arith

-- one more pin of a table
module _ (n : Network) (t q : ℕ) (lists : List (List Pin)) (range : AreInRange n) (lt : t < length n.tables) (lq : q < length (table_at n t).ins) (are : ArePinsTo n t q lists) where
  abbrev s : ℕ
  s = signal_at n t q

  abbrev old : List Pin
  old = pins_at lists s

  abbrev new : List (List Pin)
  new = set lists s (old ++ pin_of t q ∷ [])

  low : s < length lists
  low = let l = signal_low n (source_at n t q) (range.sources t q lt lq) in let e = are.len in omega arith

  here : pins_at new s ≡ old ++ pin_of t q ∷ []
  here = get_or-set_same lists s (old ++ pin_of t q ∷ []) [] low

  there : (x : ℕ) → (x ≡ s → ⊥) → pins_at new x ≡ pins_at lists x
  there x d = get_or-set_other lists s x (old ++ pin_of t q ∷ []) [] d

  before_more : (u p : ℕ) → IsBefore t q u p → IsBefore t (q + 1) u p
  before_more u p (inl l) = inl l
  before_more u p (inr b) = inr (b.0, (let l = b.1 in omega arith))

  reads_more : (x : ℕ) (pin : Pin) → ReadsSignal n t q x pin → ReadsSignal n t (q + 1) x pin
  reads_more x pin r = record { table = r.table; place = r.place; before = before_more r.table r.place r.before; within = r.within; pins = r.pins; reads = r.reads; is = r.is }

  this : ReadsSignal n t (q + 1) s (pin_of t q)
  this = record { table = t; place = q; before = inr (refl, omega arith); within = lt; pins = lq; reads = refl; is = refl }

  old_pin : (k : ℕ) → k < length old → pin_at (old ++ pin_of t q ∷ []) k ≡ pin_at old k
  old_pin k lk = get_or_append_left old (pin_of t q ∷ []) no_pin k lk

  new_pin : (k : ℕ) → k ≡ length old → pin_at (old ++ pin_of t q ∷ []) k ≡ pin_of t q
  new_pin k e = get_or_push old (pin_of t q) no_pin k (sym e)

  kept : (u p x : ℕ) → IsAmong (pins_at lists x) (length (pins_at lists x)) u p → (x ≡ s) ⊎ (x ≡ s → ⊥) → IsAmong (pins_at new x) (length (pins_at new x)) u p
  kept u p x a (inr d) = subst (λ ps. IsAmong ps (length ps) u p) (sym (there x d)) a
  kept u p x a (inl e) = subst (λ y. IsAmong (pins_at new y) (length (pins_at new y)) u p) (sym e) (subst (λ ps. IsAmong ps (length ps) u p) (sym here) (grown (subst (λ y. IsAmong (pins_at lists y) (length (pins_at lists y)) u p) e a)))
    where
      grown : IsAmong old (length old) u p → IsAmong (old ++ pin_of t q ∷ []) (length (old ++ pin_of t q ∷ [])) u p
      grown b = (b.0, (let l = b.1 in let e = length_push old (pin_of t q) in omega arith), old_pin b.0 b.1 ∙ b.2)

  added : IsAmong (pins_at new s) (length (pins_at new s)) t q
  added = subst (λ ps. IsAmong ps (length ps) t q) (sym here) (length old, (let e = length_push old (pin_of t q) in omega arith), new_pin (length old) refl)

  split : (u p : ℕ) → IsBefore t (q + 1) u p → IsBefore t q u p ⊎ ((u ≡ t) × (p ≡ q))
  split u p (inl l) = inl (inl l)
  split u p (inr b) = elim (cases_eq p q) [
    | inl e ↦ inr (b.0, e)
    | inr d ↦ inl (inr (b.0, (let l = b.1 in omega (arith, d))))
  ]

  listed_by : (u p : ℕ) → u < length n.tables → p < length (table_at n u).ins → IsBefore t q u p ⊎ ((u ≡ t) × (p ≡ q)) → IsAmong (pins_at new (signal_at n u p)) (length (pins_at new (signal_at n u p))) u p
  listed_by u p lu lp (inl b) = kept u p (signal_at n u p) (are.listed u p b lu lp) (cases_eq (signal_at n u p) s)
  listed_by u p lu lp (inr e) = subst (λ x. IsAmong (pins_at new (signal_at n x p)) (length (pins_at new (signal_at n x p))) x p) (sym e.0) (subst (λ x. IsAmong (pins_at new (signal_at n t x)) (length (pins_at new (signal_at n t x))) t x) (sym e.1) added)

  right_here : (k : ℕ) → k < length (old ++ pin_of t q ∷ []) → (k < length old) ⊎ (length old ≤ k) → ReadsSignal n t (q + 1) s (pin_at (old ++ pin_of t q ∷ []) k)
  right_here k lk (inl l) = subst (ReadsSignal n t (q + 1) s) (sym (old_pin k l)) (reads_more s (pin_at old k) (are.right s k l))
  right_here k lk (inr g) = subst (ReadsSignal n t (q + 1) s) (sym (new_pin k (let e = length_push old (pin_of t q) in omega arith))) this

  right_by : (x k : ℕ) → k < length (pins_at new x) → (x ≡ s) ⊎ (x ≡ s → ⊥) → ReadsSignal n t (q + 1) x (pin_at (pins_at new x) k)
  right_by x k lk (inr d) = subst (λ ps. ReadsSignal n t (q + 1) x (pin_at ps k)) (sym (there x d)) (reads_more x (pin_at (pins_at lists x) k) (are.right x k (let e = ap length (there x d) in omega arith)))
  right_by x k lk (inl e) =
      let f : pins_at new x ≡ old ++ pin_of t q ∷ [] = ap (pins_at new) e ∙ here in
      let l : k < length (old ++ pin_of t q ∷ []) = (let g = ap length f in omega arith) in
      subst (λ ps. ReadsSignal n t (q + 1) x (pin_at ps k)) (sym f) (subst (λ y. ReadsSignal n t (q + 1) y (pin_at (old ++ pin_of t q ∷ []) k)) (sym e) (right_here k l (cases_lt k (length old))))

  -- the new pin stood nowhere before
  not_yet : (k : ℕ) → k < length old → pin_at old k ≡ pin_of t q → ⊥
  not_yet k lk e =
      let r = are.right s k lk in
      let f : pin_of r.table r.place ≡ pin_of t q = sym r.is ∙ e in
      by (same_table r.table r.place t q f) (same_place r.table r.place t q f) r.before
    where
      by : {u p : ℕ} → u ≡ t → p ≡ q → IsBefore t q u p → ⊥
      by a b (inl l) = let no : ⊥ = omega arith in no
      by a b (inr c) = let l = c.1 in let no : ⊥ = omega arith in no

  apart_here : AreApart (old ++ pin_of t q ∷ [])
  apart_here i k lik lk e =
      let len = length_push old (pin_of t q) in
      let li : i < length old = omega arith in
      elim (cases_lt k (length old)) [
        | inl l ↦ are.apart s i k lik l (sym (old_pin i li) ∙ e ∙ old_pin k l)
        | inr g ↦ not_yet i li (sym (old_pin i li) ∙ e ∙ new_pin k (omega arith))
      ]

  apart_by : (x : ℕ) → (x ≡ s) ⊎ (x ≡ s → ⊥) → AreApart (pins_at new x)
  apart_by x (inr d) = subst AreApart (sym (there x d)) (are.apart x)
  apart_by x (inl e) = subst AreApart (sym (ap (pins_at new) e ∙ here)) apart_here

  pub pins_more : ArePinsTo n t (q + 1) new
  pins_more = record {
    len = length-set lists s (old ++ pin_of t q ∷ []) ∙ are.len;
    listed = λ u p b lu lp. listed_by u p lu lp (split u p b);
    right = λ x k lk. right_by x k lk (cases_eq x s);
    apart = λ x. apart_by x (cases_eq x s);
  }

pub pins_added : (n : Network) (t q : ℕ) (lists new : List (List Pin)) (signal : ℕ) (pin : Pin) → AreInRange n → t < length n.tables → q < length (table_at n t).ins → ArePinsTo n t q lists → signal ≡ signal_at n t q → pin ≡ pin_of t q → new ≡ set lists signal (pins_at lists signal ++ pin ∷ []) → ArePinsTo n t (q + 1) new
pins_added n t q lists new signal pin range lt lq are e f g =
    subst (ArePinsTo n t (q + 1)) (sym (g ∙ ap (λ x. set lists x (pins_at lists x ++ pin ∷ [])) e ∙ ap (λ x. set lists (signal_at n t q) (pins_at lists (signal_at n t q) ++ x ∷ [])) f)) (pins_more n t q lists range lt lq are)

abbrev pub pin_with : ℕ → ℕ → Pin
pin_with t b = record { table = t; bit = b }

-- a bit that is shifted to its place
pub pin_bit : (t p : ℕ) → p < 6 → pin_with t (1 * 2 ^ p % 256) ≡ pin_of t p
pin_bit t p lp = ap (pin_with t) (let f = pow_below p 8 (omega arith) in omega arith)

-- all pins of a table, so the next one comes
pub pins_next : (n : Network) (t q : ℕ) (lists : List (List Pin)) → length (table_at n t).ins ≤ q → ArePinsTo n t q lists → ArePinsTo n (t + 1) 0 lists
pins_next n t q lists all are = record {
  len = are.len;
  listed = λ u p b lu lp. are.listed u p (back u p lp b) lu lp;
  right = λ s k lk. (let r = are.right s k lk in record { table = r.table; place = r.place; before = forth r.table r.place r.before; within = r.within; pins = r.pins; reads = r.reads; is = r.is });
  apart = are.apart;
}
  where
    at : (u p : ℕ) → p < length (table_at n u).ins → (u ≡ t) ⊎ (u ≡ t → ⊥) → u < t + 1 → IsBefore t q u p
    at u p lp (inl e) l = inr (e, (let f = ap (λ x. length (table_at n x).ins) e in omega arith))
    at u p lp (inr d) l = inl (omega (arith, d))

    back : (u p : ℕ) → p < length (table_at n u).ins → IsBefore (t + 1) 0 u p → IsBefore t q u p
    back u p lp (inl l) = at u p lp (cases_eq u t) l
    back u p lp (inr b) = absurd (let l = b.1 in let no : ⊥ = omega arith in no)

    forth : (u p : ℕ) → IsBefore t q u p → IsBefore (t + 1) 0 u p
    forth u p (inl l) = inl (omega arith)
    forth u p (inr b) = inl (let e = b.0 in omega arith)

-- what the list of a signal says
module _ (n : Network) (lists : List (List Pin)) (range : AreInRange n) (are : ArePins n lists) (s : ℕ) where
  pub pins_in : ArePinsIn (length n.tables) (pins_at lists s)
  pins_in k lk = let r = are.right s k lk in (r.table, r.place, r.within, (let l = range.few r.table r.within in let p = r.pins in omega arith), r.is)

  pub is_listed : (t p : ℕ) → t < length n.tables → p < length (table_at n t).ins → signal_at n t p ≡ s → IsAmong (pins_at lists s) (length (pins_at lists s)) t p
  is_listed t p lt lp e = subst (λ x. IsAmong (pins_at lists x) (length (pins_at lists x)) t p) e (are.listed t p (inl lt) lt lp)

  pub is_read : (t p : ℕ) → IsAmong (pins_at lists s) (length (pins_at lists s)) t p → (p < length (table_at n t).ins) × (signal_at n t p ≡ s)
  is_read t p a =
      let r = are.right s a.0 a.1 in
      let f : pin_of r.table r.place ≡ pin_of t p = sym r.is ∙ a.2 in
      let et = same_table r.table r.place t p f in
      let ep = same_place r.table r.place t p f in (
        subst (λ x. p < length (table_at n x).ins) et (subst (λ x. x < length (table_at n r.table).ins) ep r.pins),
        ap (λ x. signal_at n x p) (sym et) ∙ ap (signal_at n r.table) (sym ep) ∙ r.reads,
      )

-- a signal that is a table's is read by that name
pub table_signal : (n : Network) (x : Source) (j : ℕ) → j < length n.tables → signal_of (length n.tables) x ≡ j → x ≡ Table j
table_signal n (Input k) j lj e = absurd (let no : ⊥ = omega arith in no)
table_signal n (Table i) j lj e = ap Table e

pub reads_of : (n : Network) (t p j : ℕ) → t < length n.tables → j < length n.tables → p < length (table_at n t).ins → signal_at n t p ≡ j → Reads n t j
reads_of n t p j lt lj lp e = record { within = lt; at = (p, lp, get_or_default (table_at n t).ins p (Table j) (Input 0) lp ∙ table_signal n (source_at n t p) j lj e) }
