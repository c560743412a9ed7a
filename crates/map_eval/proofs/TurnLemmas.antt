-- Pins that are turned, one after the other.
use Rattle.std.proofs.Common.{◌≡◌, ◌⊎◌, Bool, ℕ, zero, suc, ◌+◌, ◌^◌, ◌<◌, ◌≤◌, ◌==◌, List, true, false, length, get_or, set, refl, sym, ap, subst, ◌∙◌, inl, inr, arith, not}
use Rattle.map_eval.proofs.Vocabulary.{bit_at, cases_eq, get_or-set_same, get_or-set_other, length-set, cell_at, flip, Pin, pin_at, pin_of}
use Rattle.map_eval.proofs.Vocabulary.{IsAmong, AreApart, number_at, is_marked, differs, AreMarked, AreLow, ArePinsIn, AreTurned}
use Rattle.map_eval.proofs.WordLemmas.{pow_same}

pub turn_none : (pins : List Pin) (old : List ℕ) → AreLow old → AreTurned pins 0 old old
turn_none pins old low = record {
  len = refl;
  low = low;
  turned = λ t p lt lp a. absurd (let l = a.1 in let no : ⊥ = omega arith in no);
  same = λ t p lt lp a. refl;
  others = λ t h. refl;
}

same_table : (t p u q : ℕ) → pin_of t p ≡ pin_of u q → t ≡ u
same_table t p u q e = ap (λ (x : Pin). x.table) e

same_place : (t p u q : ℕ) → pin_of t p ≡ pin_of u q → p ≡ q
same_place t p u q e = pow_same p q (ap (λ (x : Pin). x.bit) e)

pub among_more : (pins : List Pin) (m t p : ℕ) → IsAmong pins m t p → IsAmong pins (m + 1) t p
among_more pins m t p a = (a.0, (let l = a.1 in omega arith), a.2)

-- one more pin of the list, which is pin q of table u, and the address with that bit turned
module _ (pins : List Pin) (k : ℕ) (old cur : List ℕ) (address u q : ℕ) (apart : AreApart pins) (lk : k < length pins) (is : AreTurned pins k old cur) (lu : u < length old) (lq : q < 6) (at : pin_at pins k ≡ pin_of u q) (low : address < 64) (this : cell_at address q ≡ not (cell_at (number_at cur u) q)) (rest : (p : ℕ) → (p ≡ q → ⊥) → cell_at address p ≡ cell_at (number_at cur u) p) where
  within : u < length cur
  within = let l = is.len in omega arith

  here : number_at (set cur u address) u ≡ address
  here = get_or-set_same cur u address 0 within

  there : (t : ℕ) → (t ≡ u → ⊥) → number_at (set cur u address) t ≡ number_at cur t
  there t d = get_or-set_other cur u t address 0 d

  -- another pin stood before
  stood : (t p : ℕ) → (pin_of u q ≡ pin_of t p → ⊥) → IsAmong pins (k + 1) t p → IsAmong pins k t p
  stood t p d a = elim (cases_eq a.0 k) [
    | inl e ↦ absurd (d (sym at ∙ ap (pin_at pins) (sym e) ∙ a.2))
    | inr f ↦ (a.0, (let l = a.1 in omega (arith, f)), a.2)
  ]

  -- this one didn't
  not_yet : IsAmong pins k u q → ⊥
  not_yet a = apart a.0 k a.1 lk (a.2 ∙ sym at)

  now : (t p : ℕ) → t ≡ u → p ≡ q → IsAmong pins (k + 1) t p
  now t p e f = (k, omega arith, at ∙ ap (λ x. pin_of x q) (sym e) ∙ ap (pin_of t) (sym f))

  turned_by : (t p : ℕ) → t < length old → p < 6 → IsAmong pins (k + 1) t p → (t ≡ u) ⊎ (t ≡ u → ⊥) → (p ≡ q) ⊎ (p ≡ q → ⊥) → cell_at (number_at (set cur u address) t) p ≡ not (cell_at (number_at old t) p)
  turned_by t p lt lp a (inr d) f = ap (λ m. cell_at m p) (there t d) ∙ is.turned t p lt lp (stood t p (λ e. d (sym (same_table u q t p e))) a)
  turned_by t p lt lp a (inl e) (inr d) =
      ap (λ x. cell_at (number_at (set cur u address) x) p) e ∙ ap (λ m. cell_at m p) here ∙ rest p d ∙ ap (λ x. cell_at (number_at cur x) p) (sym e) ∙ is.turned t p lt lp (stood t p (λ g. d (sym (same_place u q t p g))) a)
  turned_by t p lt lp a (inl e) (inl f) =
      ap (λ x. cell_at (number_at (set cur u address) x) p) e ∙ ap (λ m. cell_at m p) here ∙ ap (cell_at address) f ∙ this ∙ ap not (is.same u q lu lq not_yet) ∙ ap (λ x. not (cell_at (number_at old u) x)) (sym f) ∙ ap (λ x. not (cell_at (number_at old x) p)) (sym e)

  same_by : (t p : ℕ) → t < length old → p < 6 → (IsAmong pins (k + 1) t p → ⊥) → (t ≡ u) ⊎ (t ≡ u → ⊥) → (p ≡ q) ⊎ (p ≡ q → ⊥) → cell_at (number_at (set cur u address) t) p ≡ cell_at (number_at old t) p
  same_by t p lt lp out (inr d) f = ap (λ m. cell_at m p) (there t d) ∙ is.same t p lt lp (λ a. out (among_more pins k t p a))
  same_by t p lt lp out (inl e) (inl f) = absurd (out (now t p e f))
  same_by t p lt lp out (inl e) (inr d) =
      ap (λ x. cell_at (number_at (set cur u address) x) p) e ∙ ap (λ m. cell_at m p) here ∙ rest p d ∙ ap (λ x. cell_at (number_at cur x) p) (sym e) ∙ is.same t p lt lp (λ a. out (among_more pins k t p a))

  low_by : (t : ℕ) → t < length (set cur u address) → (t ≡ u) ⊎ (t ≡ u → ⊥) → number_at (set cur u address) t < 64
  low_by t lt (inl e) = subst (λ x. number_at (set cur u address) x < 64) (sym e) (subst (λ m. m < 64) (sym here) low)
  low_by t lt (inr d) = subst (λ m. m < 64) (sym (there t d)) (is.low t (let l = length-set cur u address in omega arith))

  others_by : (t : ℕ) → ((p : ℕ) → p < 6 → IsAmong pins (k + 1) t p → ⊥) → (t ≡ u) ⊎ (t ≡ u → ⊥) → number_at (set cur u address) t ≡ number_at old t
  others_by t h (inl e) = absurd (h q lq (now t q e refl))
  others_by t h (inr d) = there t d ∙ is.others t (λ p lp a. h p lp (among_more pins k t p a))

  pub turn_more : AreTurned pins (k + 1) old (set cur u address)
  turn_more = record {
    len = length-set cur u address ∙ is.len;
    low = λ t lt. low_by t lt (cases_eq t u);
    turned = λ t p lt lp a. turned_by t p lt lp a (cases_eq t u) (cases_eq p q);
    same = λ t p lt lp out. same_by t p lt lp out (cases_eq t u) (cases_eq p q);
    others = λ t h. others_by t h (cases_eq t u);
  }

-- a pin is one of a table that has an address
pub table_low : (pins : List Pin) (k count : ℕ) → ArePinsIn count pins → k < length pins → (pin_at pins k).table < count
table_low pins k count are lk = let h = are k lk in let e : (pin_at pins k).table ≡ h.0 = ap (λ (x : Pin). x.table) h.4 in omega (arith, e, h.2)

-- the next pin, with its bit turned in the address
module _ (pins : List Pin) (k : ℕ) (old cur : List ℕ) (address : ℕ) (are : ArePinsIn (length old) pins) (apart : AreApart pins) (lk : k < length pins) (is : AreTurned pins k old cur) (low : (p : ℕ) → p < 6 → (pin_at pins k).bit ≡ 2 ^ p → address < 64) (this : (p : ℕ) → p < 6 → (pin_at pins k).bit ≡ 2 ^ p → cell_at address p ≡ not (cell_at (number_at cur (pin_at pins k).table) p)) (others : (p q : ℕ) → (pin_at pins k).bit ≡ 2 ^ p → (q ≡ p → ⊥) → cell_at address q ≡ cell_at (number_at cur (pin_at pins k).table) q) where
  at_table : (pin_at pins k).table ≡ (are k lk).0
  at_table = ap (λ (x : Pin). x.table) (are k lk).4

  at_bit : (pin_at pins k).bit ≡ 2 ^ (are k lk).1
  at_bit = ap (λ (x : Pin). x.bit) (are k lk).4

  pub low_next : address < 64
  low_next = low (are k lk).1 (are k lk).3 at_bit

  pub turn_next : AreTurned pins (k + 1) old (set cur (pin_at pins k).table address)
  turn_next =
      let h = are k lk in
      subst (λ x. AreTurned pins (k + 1) old (set cur x address)) (sym at_table)
      (turn_more pins k old cur address h.0 h.1 apart lk is h.2 h.3 h.4 low_next
      (this h.1 h.3 at_bit ∙ ap (λ x. not (cell_at (number_at cur x) h.1)) at_table)
      (λ q d. others h.1 q at_bit d ∙ ap (λ x. cell_at (number_at cur x) q) at_table))

-- the mark of a table whose address changed is turned where its cell did
pub mark_more : (masks cur marks marks' : List ℕ) (u address bit : ℕ) → u < length cur → AreMarked masks cur marks → flip (bit == 1) (cell_at (number_at masks u) (number_at cur u)) ≡ cell_at (number_at masks u) address → is_marked marks' u ≡ flip (bit == 1) (is_marked marks u) → ((t : ℕ) → (t ≡ u → ⊥) → is_marked marks' t ≡ is_marked marks t) → AreMarked masks (set cur u address) marks'
mark_more masks cur marks marks' u address bit lu are cell this others t = by (cases_eq t u)
  where
    by : (t ≡ u) ⊎ (t ≡ u → ⊥) → is_marked marks' t ≡ differs masks (set cur u address) t
    by (inl e) =
        ap (is_marked marks') e ∙ this ∙ ap (flip (bit == 1)) (are u) ∙ cell
        ∙ sym (ap (cell_at (number_at masks u)) (get_or-set_same cur u address 0 lu))
        ∙ sym (ap (λ x. differs masks (set cur u address) x) e)
    by (inr d) = others t d ∙ are t ∙ sym (ap (cell_at (number_at masks t)) (get_or-set_other cur u t address 0 d))
