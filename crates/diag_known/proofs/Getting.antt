-- Marks that are put in one by one, and how many they are.
use Rattle.std.proofs.Common.{◌≡◌, ◌⊎◌, ℕ, ◌+◌, ◌<◌, ◌≤◌, Bool, true, false, Some, cond, List, length, get_or, refl, sym, ap, ◌∙◌, inl, inr, arith, replicate, slice_get}
use Rattle.std.proofs.Math.ListN.{set}
use Rattle.diag_known.proofs.Vocabulary.{cases_eq, cases_lt, false≢true, sum_by-set, slice_get-get_or, has_number, size_of, Wire}
use Rattle.std.proofs.lemmas.List.{get_or-set_same, get_or-set_other, get_or-replicate, get_or_past, length-replicate, length-set}
use Rattle.diag_known.specs.Gains.{Gets, IsWireBefore}
use Rattle.diag_known.proofs.Places.{some_same}

-- a number that is marked is below the length
pub marked_within : (marks : List Bool) (x : ℕ) → has_number marks x ≡ true → x < length marks
marked_within marks x h = by (cases_lt x (length marks))
  where
    by : (x < length marks) ⊎ (length marks ≤ x) → x < length marks
    by (inl l) = l
    by (inr l) = absurd (false≢true (sym (get_or_past marks x false l) ∙ h))

module _ (marks : List Bool) (x : ℕ) where
  pub marked_here : x < length marks → has_number (set marks x true) x ≡ true
  marked_here within = get_or-set_same marks x true false within

  pub marked_still : x < length marks → (y : ℕ) → has_number marks y ≡ true → has_number (set marks x true) y ≡ true
  marked_still within y h = by (cases_eq y x)
    where
      by : (y ≡ x) ⊎ (y ≡ x → ⊥) → has_number (set marks x true) y ≡ true
      by (inl e) = ap (has_number (set marks x true)) e ∙ marked_here within
      by (inr other) = get_or-set_other marks x y true false other ∙ h

  pub marked_from : (y : ℕ) → has_number (set marks x true) y ≡ true → (has_number marks y ≡ true) ⊎ (y ≡ x)
  marked_from y h = by (cases_eq y x)
    where
      by : (y ≡ x) ⊎ (y ≡ x → ⊥) → (has_number marks y ≡ true) ⊎ (y ≡ x)
      by (inl e) = inr e
      by (inr other) = inl (sym (get_or-set_other marks x y true false other) ∙ h)

  pub one_more : x < length marks → size_of (set marks x true) ≤ size_of marks + 1
  one_more within = omega (arith, sum_by-set (λ b. cond b 1 0) marks x true false within)

-- nothing is marked at first
pub none_marked : (len x : ℕ) → has_number (replicate len false) x ≡ true → ⊥
none_marked len x h =
    let within : x < len = omega (arith, marked_within (replicate len false) x h, length-replicate {A = Bool} len false) in
    false≢true (sym (get_or-replicate len x false false within) ∙ h)

-- a number below n + 1 is below n, or n
pub below_or : (n k : ℕ) → k < n + 1 → (k < n) ⊎ (k ≡ n)
below_or n k l = by (cases_eq k n)
  where
    by : (k ≡ n) ⊎ (k ≡ n → ⊥) → (k < n) ⊎ (k ≡ n)
    by (inl e) = inr e
    by (inr other) = inl (omega arith)

-- what is read at a place stands there
pub at_index : {A : Type 0} (xs : List A) (i : ℕ) (x : A) → i < length xs → x ≡ get_or xs i x → slice_get xs i ≡ Some x
at_index xs i x l e = slice_get-get_or xs i x l ∙ ap Some (sym e)

-- ---- marks that are counted

pub gets_none : {P : ℕ → Type 0} {marks : List Bool} → ((x : ℕ) → P x → ⊥) → Gets P 0 marks marks
gets_none never = record { len = refl; stays = λ x h. h; all = λ x p. absurd (never x p); few = omega arith }

pub gets_one : {P Q : ℕ → Type 0} {n m : ℕ} {old mid : List Bool} (x : ℕ) → Gets P n old mid → x < length mid → ((y : ℕ) → Q y → P y ⊎ (y ≡ x)) → n + 1 ≤ m → Gets Q m old (set mid x true)
gets_one {P} {Q} {n} {m} {old} {mid} x a within from fits = record {
  len = length-set mid x true ∙ a.len;
  stays = λ y h. marked_still mid x within y (a.stays y h);
  all = λ y q. by_all y (from y q);
  few = let more = one_more mid x within in let few = a.few in omega (arith, more, few, fits);
}
  where
    by_all : (y : ℕ) → P y ⊎ (y ≡ x) → has_number (set mid x true) y ≡ true
    by_all y (inl p) = marked_still mid x within y (a.all y p)
    by_all y (inr e) = ap (has_number (set mid x true)) e ∙ marked_here mid x within

pub gets_more : {P R Q : ℕ → Type 0} {n k m : ℕ} {old mid new : List Bool} → Gets P n old mid → Gets R k mid new → ((y : ℕ) → Q y → P y ⊎ R y) → n + k ≤ m → Gets Q m old new
gets_more {P} {R} {Q} {n} {k} {m} {old} {mid} {new} a b from fits = record {
  len = b.len ∙ a.len;
  stays = λ y h. b.stays y (a.stays y h);
  all = λ y q. by_all y (from y q);
  few = let one = a.few in let two = b.few in omega (arith, one, two, fits);
}
  where
    by_all : (y : ℕ) → P y ⊎ R y → has_number new y ≡ true
    by_all y (inl p) = b.stays y (a.all y p)
    by_all y (inr r) = b.all y r

pub gets_fewer : {P Q : ℕ → Type 0} {n m : ℕ} {old new : List Bool} → Gets P n old new → ((y : ℕ) → Q y → P y) → n ≤ m → Gets Q m old new
gets_fewer {P} {Q} {n} {m} a from fits = record { len = a.len; stays = a.stays; all = λ y q. a.all y (from y q); few = let few = a.few in omega (arith, few, fits) }

-- ---- wires of a list

module _ (ws : List Wire) where
  pub wires_next : (n : ℕ) (w : Wire) {old mid : List Bool} → Gets (IsWireBefore ws n) n old mid → slice_get ws n ≡ Some w → w.0 < length mid → Gets (IsWireBefore ws (n + 1)) (n + 1) old (set mid w.0 true)
  wires_next n w g here within = gets_one w.0 g within from (omega arith)
    where
      from : (y : ℕ) → IsWireBefore ws (n + 1) y → IsWireBefore ws n y ⊎ (y ≡ w.0)
      from y p = by (below_or n p.place p.early)
        where
          by : (p.place < n) ⊎ (p.place ≡ n) → IsWireBefore ws n y ⊎ (y ≡ w.0)
          by (inl l) = inl (record { place = p.place; wire = p.wire; early = l; here = p.here; is = p.is })
          by (inr e) = inr (sym p.is ∙ ap (λ (z : Wire). z.0) (some_same (sym p.here ∙ ap (slice_get ws) e ∙ here)))
