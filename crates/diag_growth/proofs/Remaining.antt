-- What is left of a field once the crosspoints are taken out that growth needs no more.
use Rattle.std.proofs.Common.{◌≡◌, ◌⊎◌, ℕ, zero, suc, ◌+◌, ◌*◌, ◌<◌, ◌≤◌, Bool, true, false, Option, List, [], ◌∷◌, length, replicate, slice_set, refl, sym, ap, ◌∙◌, subst, inl, inr, arith, not, ◌&&◌}
use Rattle.diag_growth.proofs.Vocabulary.{false≢true, has_number, size_of, Shape, ends_of, pin_wire, pins_of, Ends, in_order, turned, Faults, Kept, IsMore, keeps_cross}
use Rattle.diag_growth.proofs.Vocabulary.{Field, HasWire, VerifiedWire, how_many, many_more, none_has, number_within, set_has, set_only, set_stays, length-replicate}
use Rattle.std.proofs.lemmas.List.{length-set}
use native.Mathlib.Decide.{ℕ_discrete}
use Rattle.machine_meaning.specs.Vocabulary.{HasFeet, two}
use Rattle.diag_known.specs.Vocabulary.{IsFieldOf, IsClosed, ClosedIf, GrowsIn, TakesFew, fresh, pins_in}
use Rattle.diag_growth.specs.Rest.{IsDone, IsRest}

-- marks of one length that agree at each number are equal
pub same_marks : (a b : List Bool) → length a ≡ length b → ((i : ℕ) → i < length a → has_number a i ≡ has_number b i) → a ≡ b
same_marks [] [] e h = refl
same_marks [] (y ∷ b) e h = absurd (let no : ⊥ = omega (arith, e) in no)
same_marks (x ∷ a) [] e h = absurd (let no : ⊥ = omega (arith, e) in no)
same_marks (x ∷ a) (y ∷ b) e h =
    let first : x ≡ y = h zero (omega arith) in
    ap (λ (z : Bool). z ∷ a) first ∙ ap (λ (l : List Bool). y ∷ l) (same_marks a b (omega (arith, e)) (λ i less. h (suc i) (omega (arith, less))))

-- a crosspoint that is so, by its two ends
pub done_by : {k : Kept} {ss : List VerifiedWire} {m : Shape} {x tap line : ℕ} → m ≡ k.shape → (tap, line) ≡ ends_of m x → keeps_cross k x ≡ true → HasWire ss tap → HasWire ss line → IsDone k ss x
done_by {k} {ss} {m} {x} {tap} {line} same ends kept one other = record { kept = kept; tap = subst (HasWire ss) (ap (λ (p : ℕ × ℕ). p.0) both) one; line = subst (HasWire ss) (ap (λ (p : ℕ × ℕ). p.1) both) other }
  where
    both : (tap, line) ≡ ends_of k.shape x
    both = ends ∙ ap (λ (n : Shape). ends_of n x) same

-- of the crosspoints below this one those are left that aren't so
pub record AreLeftBelow (k : Kept) (ss : List VerifiedWire) (these set : List Bool) (n : ℕ) : Type 0 where
  pub len : length set ≡ length these
  pub only : (x : ℕ) → has_number set x ≡ true → has_number these x ≡ true
  pub whole : (x : ℕ) → x < n → has_number these x ≡ true → (has_number set x ≡ true) ⊎ IsDone k ss x

pub left_first : {k : Kept} {ss : List VerifiedWire} (these set : List Bool) (n : ℕ) → n ≡ length these → set ≡ replicate n false → AreLeftBelow k ss these set 0
left_first these set n e is = record {
  len = ap length is ∙ length-replicate n false ∙ e;
  only = λ x on. absurd (none_has n x (ap (λ (l : List Bool). has_number l x) (sym is) ∙ on));
  whole = λ x less on. absurd (let no : ⊥ = omega (arith, less) in no);
}

module _ {k : Kept} {ss : List VerifiedWire} {these old : List Bool} {n : ℕ} (was : AreLeftBelow k ss these old n) where
  pub left_pass : (has_number these n ≡ true → IsDone k ss n) → AreLeftBelow k ss these old (n + 1)
  left_pass done = record { len = was.len; only = was.only; whole = λ x less on. by x less on (ℕ_discrete x n) }
    where
      by : (x : ℕ) → x < n + 1 → has_number these x ≡ true → Dec (x ≡ n) → (has_number old x ≡ true) ⊎ IsDone k ss x
      by x less on (yes e) = inr (subst (IsDone k ss) (sym e) (done (ap (has_number these) (sym e) ∙ on)))
      by x less on (no other) = was.whole x (omega (arith, less, other)) on

  pub left_put : {new : List Bool} → has_number these n ≡ true → n < length these → new ≡ slice_set old n true → AreLeftBelow k ss these new (n + 1)
  left_put {new} here within put = record {
    len = ap length put ∙ length-set old n true ∙ was.len;
    only = λ x on. only x (set_only old n x (ap (λ (l : List Bool). has_number l x) (sym put) ∙ on));
    whole = λ x less on. by x less on (ℕ_discrete x n);
  }
    where
      only : (x : ℕ) → (has_number old x ≡ true) ⊎ (n ≡ x) → has_number these x ≡ true
      only x (inl on) = was.only x on
      only x (inr e) = ap (has_number these) (sym e) ∙ here

      later : (x : ℕ) → (has_number old x ≡ true) ⊎ IsDone k ss x → (has_number new x ≡ true) ⊎ IsDone k ss x
      later x (inl on) = inl (ap (λ (l : List Bool). has_number l x) put ∙ set_stays old n x on)
      later x (inr done) = inr done

      by : (x : ℕ) → x < n + 1 → has_number these x ≡ true → Dec (x ≡ n) → (has_number new x ≡ true) ⊎ IsDone k ss x
      by x less on (yes e) = inl (ap (λ (l : List Bool). has_number l x) put ∙ ap (has_number (slice_set old n true)) e ∙ set_has old n (rw was.len within))
      by x less on (no other) = later x (was.whole x (omega (arith, less, other)) on)

pub left_all : {k : Kept} {ss : List VerifiedWire} {these set : List Bool} {n : ℕ} → AreLeftBelow k ss these set n → length these ≤ n → (x : ℕ) → has_number these x ≡ true → (has_number set x ≡ true) ⊎ IsDone k ss x
left_all {these = these} are all x on = are.whole x (let within = number_within these x on in omega (arith, within, all)) on

module _ {k : Kept} {ss : List VerifiedWire} {a rest : Field} (r : IsRest k ss a rest) where
  -- what isn't kept of it is no more
  less_fresh : fresh k rest ≤ fresh k a
  less_fresh = subst (λ (n : ℕ). how_many (λ x. has_number rest.crosses x && not (keeps_cross k x)) (length rest.crosses) ≤ how_many (λ x. has_number a.crosses x && not (keeps_cross k x)) n) r.len
      (many_more (λ x. has_number rest.crosses x && not (keeps_cross k x)) (λ x. has_number a.crosses x && not (keeps_cross k x)) (length rest.crosses) (λ x less on. both (has_number rest.crosses x) (has_number a.crosses x) (not (keeps_cross k x)) (r.only x) on))
    where
      both : (p q b : Bool) → (p ≡ true → q ≡ true) → (p && b) ≡ true → (q && b) ≡ true
      both true q b so on = rw (so refl) on
      both false q b so on = absurd (false≢true on)

  same_pins : pins_in k.shape rest ≡ pins_in k.shape a
  same_pins = ap (λ (l : List Bool). how_many (λ i. has_number l (pin_wire k.shape i)) (pins_of k.shape)) r.wires

  same_size : size_of rest.wires ≡ size_of a.wires
  same_size = ap size_of r.wires

  pub rest_most : (before after : ℕ) → after + pins_in k.shape rest ≤ before + (8 * fresh k rest + 3 * size_of rest.wires) → after + pins_in k.shape a ≤ before + (8 * fresh k a + 3 * size_of a.wires)
  rest_most before after most = sums _ _ _ _ _ _ most same_pins less_fresh same_size
    where
      sums : (p q x y v w : ℕ) → after + p ≤ before + (8 * x + 3 * v) → p ≡ q → x ≤ y → v ≡ w → after + q ≤ before + (8 * y + 3 * w)
      sums p q x y v w m i1 i2 i3 = omega (arith, m, i1, i2, i3)

  pub rest_few : {told : Option Faults} {before after : ℕ} → TakesFew told k rest before after → TakesFew told k a before after
  rest_few {before = before} {after = after} few = record { at = λ f is none holds. sums _ _ _ _ _ _ (few.at f is none holds) same_pins less_fresh same_size }
    where
      sums : (p q x y v w : ℕ) → after + p ≤ before + (2 * x + 3 * v) → p ≡ q → x ≤ y → v ≡ w → after + q ≤ before + (2 * y + 3 * w)
      sums p q x y v w m i1 i2 i3 = omega (arith, m, i1, i2, i3)

  pub rest_field : IsFieldOf k.shape a → IsFieldOf k.shape rest
  rest_field field = record { wires = ap length r.wires ∙ field.wires; crosses = r.len ∙ field.crosses }

  pub rest_grows : {old new : List VerifiedWire} → GrowsIn rest old new → GrowsIn a old new
  rest_grows {old} {new} g = record { stays = g.stays; within = λ w has. by w (g.within w has) }
    where
      by : (w : ℕ) → HasWire old w ⊎ (has_number rest.wires w ≡ true) → HasWire old w ⊎ (has_number a.wires w ≡ true)
      by w (inl was) = inl was
      by w (inr on) = inr (ap (λ (l : List Bool). has_number l w) (sym r.wires) ∙ on)

  -- What is closed in it is closed in the field: what was taken out is kept, and none of its ends can be one that isn't known.
  module _ {l : Kept} {ts : List VerifiedWire} (more : IsMore k l) (stays : (w : ℕ) → HasWire ss w → HasWire ts w) where
    in_rest : (w : ℕ) → has_number a.wires w ≡ true → has_number rest.wires w ≡ true
    in_rest w on = ap (λ (l : List Bool). has_number l w) r.wires ∙ on

    end_known : (x u w : ℕ) → IsDone k ss x → Ends (ends_of k.shape x) u w → HasWire ts w
    end_known x u w done (in_order e h) = stays w (subst (HasWire ss) h done.line)
    end_known x u w done (turned e h) = stays w (subst (HasWire ss) e done.tap)

    pub rest_closed : {told : Option Faults} → ClosedIf told l rest ts → ClosedIf told l a ts
    rest_closed closed = record { at = λ f is holds. whole f (closed.at f is holds) }
      where
        whole : (f : Faults) → IsClosed l f rest (HasWire ts) → IsClosed l f a (HasWire ts)
        whole f c = record {
          pins = λ i less on. c.pins i less (in_rest (pin_wire l.shape i) on);
          wires = λ w on clear alone feet. wire w feet (c.wires w (in_rest w on) clear alone);
          crosses = λ x on one other free. cross x (r.whole x on) (λ left. c.crosses x left one other free);
        }
          where
            known_end : (x u w : ℕ) → IsDone k ss x → Ends (ends_of l.shape x) u w → HasWire ts w
            known_end x u w done ends = end_known x u w done (subst (λ (m : Shape). Ends (ends_of m x) u w) more.shape ends)

            wire : (w : ℕ) → HasFeet l.shape f (λ x. has_number a.crosses x ≡ true) (HasWire ts) w → (HasFeet l.shape f (λ x. has_number rest.crosses x ≡ true) (HasWire ts) w → HasWire ts w) → HasWire ts w
            wire w (two x y u v hx hy ex ey differ hu hv sx sy) so = by (r.whole x hx) (r.whole y hy)
              where
                by : (has_number rest.crosses x ≡ true) ⊎ IsDone k ss x → (has_number rest.crosses y ≡ true) ⊎ IsDone k ss y → HasWire ts w
                by (inl lx) (inl ly) = so (two x y u v lx ly ex ey differ hu hv sx sy)
                by (inl lx) (inr done) = known_end y v w done ey
                by (inr done) other = known_end x u w done ex

            cross : (x : ℕ) → (has_number rest.crosses x ≡ true) ⊎ IsDone k ss x → (has_number rest.crosses x ≡ true → keeps_cross l x ≡ true) → keeps_cross l x ≡ true
            cross x (inl left) so = so left
            cross x (inr done) so = more.crosses x done.kept
