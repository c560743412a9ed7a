-- Whether a crosspoint of a tap and a line isn't free.
use Rattle.std.proofs.Common.{◌≡◌, ◌≢◌, ℕ, ◌+◌, ◌<◌, get_or, Bool, true, false, ◌==◌, ◌&&◌, not, sym, ap, ◌∙◌, subst, arith, eq-eqb, eqb→eq, ◌↔◌}
use Rattle.place_plan.proofs.Vocabulary.{T, range_with_len, Any-from_list_any, list_any-from_Any, and_parts, not-true, not_from_false}
use Rattle.place_plan.proofs.Vocabulary.{false_from_ne_true, Shape, crosses_of, ends_of, HasCrosses, Defects, IsFreeCross, DefectList}
use Rattle.place_plan.proofs.Vocabulary.{is_free_cross, is_free_wire, has_free_ends, is_shut, is_shut_cross}
use Rattle.std.proofs.lemmas.List.FromFn.{get_or-range_with_len, length-range_with_len}
use Rattle.std.specs.FinSet as set
use Rattle.std.specs.Cmp.{both_ways}

pub eq_from : (a b : ℕ) → (a == b) ≡ true → a ≡ b
eq_from a b e = eqb→eq a b (subst T (sym e) tt)

pub and : (a b : Bool) → a ≡ true → b ≡ true → (a && b) ≡ true
and a b e f = subst (λ z. (z && b) ≡ true) (sym e) f

clash : (b : Bool) → b ≡ false → b ≡ true → ⊥
clash b e f = cc

in_range : (n i : ℕ) → i < n → get_or (range_with_len 0 n) i i ≡ i
in_range n i h = get_or-range_with_len 0 n i i h ∙ (let e : 0 + i ≡ i = omega arith in e)

module _ (m : Shape) (d : Defects) where
  -- the test for free crosspoints is right
  pub free_cross_to : (x : ℕ) → is_free_cross m d x ≡ true → IsFreeCross m d x
  free_cross_to x e =
      let p = and_parts (not (set.contains d.crosses x)) (has_free_ends m d x) e in
      let q = and_parts (is_free_wire d (ends_of m x).0) (is_free_wire d (ends_of m x).1) p.1 in
      record { itself = not-true _ p.0; tap = not-true _ q.0; line = not-true _ q.1 }

  pub free_cross_from : (x : ℕ) → IsFreeCross m d x → is_free_cross m d x ≡ true
  free_cross_from x is = and (not (set.contains d.crosses x)) (has_free_ends m d x) (not_from_false _ is.itself) (and (is_free_wire d (ends_of m x).0) (is_free_wire d (ends_of m x).1) (not_from_false _ is.tap) (not_from_false _ is.line))

module _ (d : DefectList) (t w : ℕ) where
  -- there is a crosspoint of the two that isn't free
  pub shut_by : (x : ℕ) → x < crosses_of d.shape → ends_of d.shape x ≡ (t, w) → (IsFreeCross d.shape d.list x → ⊥) → is_shut d t w ≡ true
  shut_by x lt e far = list_any-from_Any (is_shut_cross d.shape d.list t w) (range_with_len 0 (crosses_of d.shape)) (
    x,
    x,
    subst (λ z. x < z) (sym (length-range_with_len 0 (crosses_of d.shape))) lt,
    in_range (crosses_of d.shape) x lt,
    and ((ends_of d.shape x).0 == t) (((ends_of d.shape x).1 == w) && not (is_free_cross d.shape d.list x)) (eq-eqb (ends_of d.shape x).0 t (ap (λ p. p.0) e))
        (and ((ends_of d.shape x).1 == w) (not (is_free_cross d.shape d.list x)) (eq-eqb (ends_of d.shape x).1 w (ap (λ p. p.1) e))
        (not_from_false (is_free_cross d.shape d.list x) (false_from_ne_true (is_free_cross d.shape d.list x) (λ f. far (free_cross_to d.shape d.list x f))))),
  )

  pub shut_has : is_shut d t w ≡ true → (x : ℕ) × (x < crosses_of d.shape) × (ends_of d.shape x ≡ (t, w)) × (IsFreeCross d.shape d.list x → ⊥)
  shut_has e =
      let a = Any-from_list_any (is_shut_cross d.shape d.list t w) (range_with_len 0 (crosses_of d.shape)) e in
      let l : a.0 < crosses_of d.shape = subst (λ z. a.0 < z) (length-range_with_len 0 (crosses_of d.shape)) a.2 in
      let s : a.0 ≡ a.1 = (let z : 0 + a.0 ≡ a.0 = omega arith in sym z ∙ sym (get_or-range_with_len 0 (crosses_of d.shape) a.0 a.1 l) ∙ a.3) in
      let p = and_parts ((ends_of d.shape a.1).0 == t) (((ends_of d.shape a.1).1 == w) && not (is_free_cross d.shape d.list a.1)) a.4 in
      let q = and_parts ((ends_of d.shape a.1).1 == w) (not (is_free_cross d.shape d.list a.1)) p.1 in
      (a.1, subst (λ z. z < crosses_of d.shape) s l, pair (ends_of d.shape a.1) (eq_from (ends_of d.shape a.1).0 t p.0) (eq_from (ends_of d.shape a.1).1 w q.0), λ f. clash (is_free_cross d.shape d.list a.1) (not-true (is_free_cross d.shape d.list a.1) q.1) (free_cross_from d.shape d.list a.1 f))
    where
      pair : (p : ℕ × ℕ) → p.0 ≡ t → p.1 ≡ w → p ≡ (t, w)
      pair p e f = λ i. (e i, f i)

  pub shut_some : HasCrosses d.shape → (x : ℕ) (b : Bool) → x < crosses_of d.shape → ends_of d.shape x ≡ (t, w) → ((b ≡ true) ↔ IsFreeCross d.shape d.list x) → not b ≡ is_shut d t w
  shut_some has x b lt e is = both_ways (not b) (is_shut d t w)
      (λ n. shut_by x lt e (λ f. clash b (not-true b n) (is.1 f)))
      (λ s. let h = shut_has s in not_from_false b (false_from_ne_true b (λ q. h.3 (subst (IsFreeCross d.shape d.list) (has.one x h.0 lt h.1 (e ∙ sym h.2)) (is.0 q)))))

  pub shut_none : ((x : ℕ) → x < crosses_of d.shape → ends_of d.shape x ≢ (t, w)) → false ≡ is_shut d t w
  shut_none none = sym (false_from_ne_true (is_shut d t w) (λ s. let h = shut_has s in none h.0 h.1 h.2))
