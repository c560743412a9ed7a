-- What closing crosspoints one after another comes to.
use Rattle.std.proofs.Common.{◌≡◌, ◌≢◌, ◌⊎◌, ℕ, ◌+◌, ◌*◌, ◌<◌, ◌≤◌, Bool, true, false, cond, Some, None, Option, List, refl, sym, ap, ◌∙◌, subst, inl, inr, arith}
use Rattle.place_route.proofs.Vocabulary.{BTreeMap, contains, contains-insert, len-insert, nat_cmp-IsAntisymmetric, nat_cmp_total, Equal-is}
use Rattle.place_route.proofs.Vocabulary.{unsigned_tied, nat_cmp, eq_by_cmp, or_cases, eq-eqb, cases_eq, Shape, crosses_of, ends_of}
use Rattle.place_route.proofs.Vocabulary.{node_of, parent_of, HasCrosses, Configuration, is_closed, with_closed}
use Rattle.std.specs.FinSet as set
use Rattle.std.proofs.Math.Bool.{or-true}
use Rattle.place_route.specs.Vocabulary.{owner_at, line_in, Closes, IsJoint, IsNear, IsWireJoint, IsJointAt, IsOwnedJoint}

module _ (g : Configuration) (x : ℕ) where
  closed_which : (y : ℕ) → is_closed (with_closed g x) y ≡ true → (is_closed g y ≡ true) ⊎ (y ≡ x)
  closed_which y on = by (or_cases (eq_by_cmp nat_cmp y x) (contains g.closed y) (sym (contains-insert nat_cmp_total g.closed x y) ∙ on))
    where
      by : (eq_by_cmp nat_cmp y x ≡ true) ⊎ (contains g.closed y ≡ true) → (is_closed g y ≡ true) ⊎ (y ≡ x)
      by (inl e) = inr (nat_cmp-IsAntisymmetric y x ((Equal-is _).0 e))
      by (inr e) = inl e

  closed_then : (y : ℕ) → is_closed g y ≡ true → is_closed (with_closed g x) y ≡ true
  closed_then y on = contains-insert nat_cmp_total g.closed x y ∙ rw on (or-true (eq_by_cmp nat_cmp y x))

  closed_now : is_closed (with_closed g x) x ≡ true
  closed_now = contains-insert nat_cmp_total g.closed x x ∙ rw (unsigned_tied x x ∙ eq-eqb x x refl) refl

  one_more : set.len (with_closed g x).closed ≤ set.len g.closed + 1
  one_more = by (contains g.closed x) (len-insert nat_cmp_total g.closed x)
    where
      by : (b : Bool) → set.len (with_closed g x).closed ≡ cond b (set.len g.closed) (set.len g.closed + 1) → set.len (with_closed g x).closed ≤ set.len g.closed + 1
      by true e = omega arith
      by false e = omega arith

pub closes_none : (joint : ℕ → Type 0) (most : ℕ) (g : Configuration) → ((x : ℕ) → joint x → ⊥) → Closes joint most g g
closes_none joint most g never = record { only = λ x on. inl on; each = λ x j. absurd (never x j); kept = λ x on. on; few = omega arith; rest = refl }

pub closes_then : (A B C : ℕ → Type 0) (a b c : ℕ) (old mid new : Configuration) → Closes A a old mid → Closes B b mid new → a + b ≡ c → ((x : ℕ) → A x → C x) → ((x : ℕ) → B x → C x) → ((x : ℕ) → C x → A x ⊎ B x) → Closes C c old new
closes_then A B C a b c old mid new p q sum from_a from_b to = record {
  only = λ x on. by x (q.only x on);
  each = λ x j. all x (to x j);
  kept = λ x on. q.kept x (p.kept x on);
  few = (let l = p.few in let r = q.few in omega arith);
  rest = q.rest ∙ ap (λ (g : Configuration). record g { closed = new.closed }) p.rest;
}
  where
    before : (x : ℕ) → (is_closed old x ≡ true) ⊎ A x → (is_closed old x ≡ true) ⊎ C x
    before x (inl on) = inl on
    before x (inr j) = inr (from_a x j)

    by : (x : ℕ) → (is_closed mid x ≡ true) ⊎ B x → (is_closed old x ≡ true) ⊎ C x
    by x (inl on) = before x (p.only x on)
    by x (inr j) = inr (from_b x j)

    all : (x : ℕ) → A x ⊎ B x → is_closed new x ≡ true
    all x (inl j) = q.kept x (p.each x j)
    all x (inr j) = q.each x j

pub closes_same : (A B : ℕ → Type 0) (a b : ℕ) (old new : Configuration) → Closes A a old new → a ≤ b → ((x : ℕ) → A x → B x) → ((x : ℕ) → B x → A x) → Closes B b old new
closes_same A B a b old new p le to from = record {
  only = λ x on. by x (p.only x on);
  each = λ x j. p.each x (from x j);
  kept = p.kept;
  few = (let l = p.few in omega arith);
  rest = p.rest;
}
  where
    by : (x : ℕ) → (is_closed old x ≡ true) ⊎ A x → (is_closed old x ≡ true) ⊎ B x
    by x (inl on) = inl on
    by x (inr j) = inr (to x j)

pub closes_one : (joint : ℕ → Type 0) (x : ℕ) (old new : Configuration) → new ≡ with_closed old x → joint x → ((y : ℕ) → joint y → y ≡ x) → Closes joint 1 old new
closes_one joint x old new e is one = record {
  only = λ y on. by y (closed_which old x y (subst (λ g. is_closed g y ≡ true) e on));
  each = λ y j. subst (λ g. is_closed g y ≡ true) (sym e) (subst (λ z. is_closed (with_closed old x) z ≡ true) (sym (one y j)) (closed_now old x));
  kept = λ y on. subst (λ g. is_closed g y ≡ true) (sym e) (closed_then old x y on);
  few = subst (λ (g : Configuration). set.len g.closed ≤ set.len old.closed + 1) (sym e) (one_more old x);
  rest = e ∙ ap (λ (g : Configuration). record old { closed = g.closed }) (sym e);
}
  where
    by : (y : ℕ) → (is_closed old y ≡ true) ⊎ (y ≡ x) → (is_closed old y ≡ true) ⊎ joint y
    by y (inl on) = inl on
    by y (inr same) = inr (subst joint (sym same) is)

module _ (m : Shape) (lines : BTreeMap (ℕ × ℕ) ℕ) where
  no_line : (n k t x : ℕ) → line_in lines n k ≡ None → IsJoint m lines n k t x → ⊥
  no_line n k t x none j = never none j.1
    where
      never : {o : Option ℕ} {w : ℕ} → o ≡ None → o ≡ Some w → ⊥
      never e f = cc

  some_same : {w u : ℕ} → Some w ≡ Some u → w ≡ u
  some_same e = cc

  pub join_no_line : (n k t : ℕ) (g : Configuration) → line_in lines n k ≡ None → Closes (IsJoint m lines n k t) 1 g g
  join_no_line n k t g none = closes_none (IsJoint m lines n k t) 1 g (λ x j. no_line n k t x none j)

  pub join_no_cross : (n k t w : ℕ) (g : Configuration) → line_in lines n k ≡ Some w → ((x : ℕ) → x < crosses_of m → ends_of m x ≡ (t, w) → ⊥) → Closes (IsJoint m lines n k t) 1 g g
  join_no_cross n k t w g line never = closes_none (IsJoint m lines n k t) 1 g (λ x j. never x j.2 (j.3 ∙ ap (λ u. (t, u)) (some_same (sym j.1 ∙ line))))

  pub join_one : (crosses : HasCrosses m) (n k t w x : ℕ) (old new : Configuration) → line_in lines n k ≡ Some w → x < crosses_of m → ends_of m x ≡ (t, w) → new ≡ with_closed old x → Closes (IsJoint m lines n k t) 1 old new
  join_one crosses n k t w x old new line within ends made = closes_one (IsJoint m lines n k t) x old new made (w, line, within, ends)
      (λ y j. crosses.one y x j.2 within (j.3 ∙ ap (λ u. (t, u)) (some_same (sym j.1 ∙ line)) ∙ sym ends))

  pub join_at_root : (k t n : ℕ) (old new : Configuration) → n ≡ node_of m t → parent_of m n ≡ None → Closes (IsJoint m lines n k t) 1 old new → Closes (IsWireJoint m lines k t) 2 old new
  join_at_root k t n old new at root p = closes_same (IsJoint m lines n k t) (IsWireJoint m lines k t) 1 2 old new p (omega arith)
      (λ x j. (n, inl (sym at), j)) (λ x j. by x j.0 j.1 j.2)
    where
      never : {o : Option ℕ} {b : ℕ} → o ≡ None → o ≡ Some b → ⊥
      never e f = cc

      by : (x b : ℕ) → IsNear m t b → IsJoint m lines b k t x → IsJoint m lines n k t x
      by x b (inl e) j = subst (λ a. IsJoint m lines a k t x) (sym e ∙ sym at) j
      by x b (inr e) j = absurd (never (ap (parent_of m) (sym at) ∙ root) e)

  pub join_both : (k t n b : ℕ) (old mid new : Configuration) → n ≡ node_of m t → parent_of m n ≡ Some b → Closes (IsJoint m lines n k t) 1 old mid → Closes (IsJoint m lines b k t) 1 mid new → Closes (IsWireJoint m lines k t) 2 old new
  join_both k t n b old mid new at above p q = closes_then (IsJoint m lines n k t) (IsJoint m lines b k t) (IsWireJoint m lines k t) 1 1 2 old mid new p q (omega arith)
      (λ x j. (n, inl (sym at), j)) (λ x j. (b, inr (ap (parent_of m) (sym at) ∙ above), j)) (λ x j. by x j.0 j.1 j.2)
    where
      by : (x a : ℕ) → IsNear m t a → IsJoint m lines a k t x → IsJoint m lines n k t x ⊎ IsJoint m lines b k t x
      by x a (inl e) j = inl (subst (λ a. IsJoint m lines a k t x) (sym e ∙ sym at) j)
      by x a (inr e) j = inr (subst (λ a. IsJoint m lines a k t x) (some_same (sym e ∙ ap (parent_of m) (sym at) ∙ above)) j)

  module _ (owners : List (Option ℕ)) where
    pub join_unowned : (t : ℕ) (g : Configuration) → owner_at owners t ≡ None → Closes (IsJointAt m lines owners t) 2 g g
    join_unowned t g none = closes_none (IsJointAt m lines owners t) 2 g (λ x j. never none j.1)
      where
        never : {o : Option ℕ} {w : ℕ} → o ≡ None → o ≡ Some w → ⊥
        never e f = cc

    pub join_owner : (t k : ℕ) (old new : Configuration) → owner_at owners t ≡ Some k → Closes (IsWireJoint m lines k t) 2 old new → Closes (IsJointAt m lines owners t) 2 old new
    join_owner t k old new at p = closes_same (IsWireJoint m lines k t) (IsJointAt m lines owners t) 2 2 old new p (omega arith)
        (λ x j. (k, at, j)) (λ x j. subst (λ l. IsWireJoint m lines l t x) (some_same (sym j.1 ∙ at)) j.2)

    pub owned_none : (g : Configuration) → Closes (IsOwnedJoint m lines owners 0) 0 g g
    owned_none g = closes_none (IsOwnedJoint m lines owners 0) 0 g (λ x j. absurd (omega (arith, j.1)))

    pub owned_more : (i : ℕ) (old mid new : Configuration) → Closes (IsOwnedJoint m lines owners i) (2 * i) old mid → Closes (IsJointAt m lines owners i) 2 mid new → Closes (IsOwnedJoint m lines owners (i + 1)) (2 * (i + 1)) old new
    owned_more i old mid new p q = closes_then (IsOwnedJoint m lines owners i) (IsJointAt m lines owners i) (IsOwnedJoint m lines owners (i + 1)) (2 * i) 2 (2 * (i + 1)) old mid new p q (omega arith)
        (λ x j. (j.0, let l = j.1 in omega arith, j.2)) (λ x j. (i, omega arith, j)) (λ x j. by x j.0 j.1 j.2 (cases_eq j.0 i))
      where
        by : (x t : ℕ) → t < i + 1 → IsJointAt m lines owners t x → (t ≡ i) ⊎ (t ≢ i) → IsOwnedJoint m lines owners i x ⊎ IsJointAt m lines owners i x
        by x t l j (inl e) = inr (subst (λ s. IsJointAt m lines owners s x) e j)
        by x t l j (inr n) = inl (t, omega arith, j)
