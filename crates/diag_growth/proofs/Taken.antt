-- The loads of growth in a field.
use Rattle.std.proofs.Common.{◌≡◌, ◌⊎◌, ℕ, ◌+◌, ◌*◌, ◌-◌, ◌<◌, ◌≤◌, Bool, true, false, Option, List, refl, sym, ap, ◌∙◌, subst, inl, inr, arith, not, ◌&&◌}
use Rattle.diag_growth.proofs.Vocabulary.{false≢true, has_number, size_of, Shape, pin_wire, pins_of, wires_of, crosses_of, Faults, Kept}
use Rattle.diag_growth.proofs.Vocabulary.{keeps_cross, IsOfField, Field, Marks, first_of, second_of, third_of}
use Rattle.machine_shape.proofs.Totals.{pins_are}
use Rattle.diag_known.specs.Vocabulary.{IsFieldOf, TakesFew, fresh, how_many, pins_in, AreOutside, barred_pins, is_spent, Spends, SpendsFew}
use Rattle.diag_known.proofs.Counting.{many_all, many_both, many_either, many_long, many_more, many_size, many_up}

-- the pins of the machine are wires
wires_rest : (m : Shape) → pins_of m + (wires_of m - pins_of m) ≡ wires_of m
wires_rest m = let few = (pins_are m).2 in omega (arith, few)

-- of wires that are no pins each is marked at most
pins_up : (m : Shape) (bits : List Bool) → how_many (has_number bits) (wires_of m) + pins_of m ≤ how_many (λ i. has_number bits (pin_wire m i)) (pins_of m) + wires_of m
unfolding pin_wire
pins_up m bits =
    let e = wires_rest m in
    let up = subst (λ n. how_many (has_number bits) n ≤ how_many (has_number bits) (pins_of m) + (wires_of m - pins_of m)) e (many_up (has_number bits) (pins_of m) (wires_of m - pins_of m)) in
    omega (arith, e, up)

pins_long : (m : Shape) (bits : List Bool) → how_many (λ i. has_number bits (pin_wire m i)) (pins_of m) ≤ how_many (has_number bits) (wires_of m)
unfolding pin_wire
pins_long m bits = subst (λ n. how_many (has_number bits) (pins_of m) ≤ how_many (has_number bits) n) (wires_rest m) (many_long (has_number bits) (pins_of m) (wires_of m - pins_of m))

both_so : (a b : Bool) → a ≡ true → b ≡ false → (a && not b) ≡ true
both_so a b e f = rw (e, f) refl

module _ {k : Kept} {a : Field} {s t : Marks} {before after : ℕ} (field : IsFieldOf k.shape a) (outside : AreOutside a.wires s.barred)
    (unspent : (x : ℕ) → is_spent s x ≡ true → ⊥) (spends : Spends k (IsOfField a) s t before after) where
  abbrev c : ℕ
  c = crosses_of k.shape

  abbrev w : ℕ
  w = wires_of k.shape

  spent_few : how_many (is_spent t) c ≤ fresh k a
  spent_few = subst (λ n. how_many (is_spent t) c ≤ how_many (λ x. has_number a.crosses x && not (keeps_cross k x)) n) (sym field.crosses)
      (many_more (is_spent t) (λ x. has_number a.crosses x && not (keeps_cross k x)) c (λ x less on. both_so (has_number a.crosses x) (keeps_cross k x) (by_old x (spends.only x on)) (by_fresh x (spends.fresh x on))))
    where
      by_old : (x : ℕ) → (is_spent s x ≡ true) ⊎ IsOfField a x → has_number a.crosses x ≡ true
      by_old x (inl e) = absurd (unspent x e)
      by_old x (inr h) = h

      by_fresh : (x : ℕ) → (is_spent s x ≡ true) ⊎ (keeps_cross k x ≡ false) → keeps_cross k x ≡ false
      by_fresh x (inl e) = absurd (unspent x e)
      by_fresh x (inr off) = off

  offered_few : how_many (has_number t.offered) c ≤ how_many (is_spent t) c
  offered_few = many_more (has_number t.offered) (is_spent t) c (λ x less on. first_of (has_number t.offered x) (has_number t.second x) (has_number t.between x) on)

  second_few : how_many (has_number t.second) c ≤ how_many (is_spent t) c
  second_few = many_more (has_number t.second) (is_spent t) c (λ x less on. second_of (has_number t.offered x) (has_number t.second x) (has_number t.between x) on)

  between_few : how_many (has_number t.between) c ≤ how_many (is_spent t) c
  between_few = many_more (has_number t.between) (is_spent t) c (λ x less on. third_of (has_number t.offered x) (has_number t.second x) (has_number t.between x) on)

  barred_all : how_many (has_number t.barred) w ≤ w
  barred_all = many_all (has_number t.barred) w

  wires_either : w ≤ how_many (has_number s.barred) w + size_of a.wires
  wires_either = subst (λ n. w ≤ how_many (has_number s.barred) w + n) (ap (how_many (has_number a.wires)) (sym field.wires) ∙ many_size a.wires)
      (many_either (has_number s.barred) (has_number a.wires) w (λ x less off. outside.field x (subst (λ n. x < n) (sym field.wires) less) off))

  pins_both : barred_pins k.shape s + pins_in k.shape a ≤ pins_of k.shape
  pins_both = many_both (λ i. has_number s.barred (pin_wire k.shape i)) (λ i. has_number a.wires (pin_wire k.shape i)) (pins_of k.shape) (λ i less bar on. false≢true (sym (outside.free (pin_wire k.shape i) on) ∙ bar))

  pins_left : how_many (has_number t.barred) w + pins_of k.shape ≤ barred_pins k.shape t + w
  pins_left = pins_up k.shape t.barred

  pub takes_most : after + pins_in k.shape a ≤ before + (8 * fresh k a + 3 * size_of a.wires)
  takes_most = sums _ _ _ _ _ _ _ _ _ _ _ _ _ _ _ _ spends.most spent_few offered_few second_few between_few barred_all wires_either pins_both pins_left
    where
      sums : (u v z m n o p q d e f g h i x y : ℕ) → after + v + (4 * o + 2 * p + 2 * q + 3 * d) ≤ before + u + (4 * e + 2 * f + 2 * g + 3 * h) → i ≤ x → e ≤ i → f ≤ i → g ≤ i →
          h ≤ n → n ≤ d + y → u + z ≤ m → h + m ≤ v + n → after + z ≤ before + (8 * x + 3 * y)
      sums u v z m n o p q d e f g h i x y most i1 i2 i3 i4 i5 i6 i7 i8 = omega (arith, most, i1, i2, i3, i4, i5, i6, i7, i8)

  pub takes_few : {told : Option Faults} → SpendsFew told k s t before after → TakesFew told k a before after
  takes_few loads = record { at = λ f is none holds. sums _ _ _ _ _ _ _ _ _ _ _ (loads.few f is none holds) spent_few barred_all wires_either pins_both pins_left }
    where
      sums : (u v z m n p d i h x y : ℕ) → after + v + (2 * p + 3 * d) ≤ before + u + (2 * i + 3 * h) → i ≤ x → h ≤ n → n ≤ d + y → u + z ≤ m → h + m ≤ v + n → after + z ≤ before + (2 * x + 3 * y)
      sums u v z m n p d i h x y few i1 i2 i3 i4 i5 = omega (arith, few, i1, i2, i3, i4, i5)

-- no loads at all
pins_few : (k : Kept) (a : Field) → IsFieldOf k.shape a → pins_in k.shape a ≤ size_of a.wires
pins_few k a field = subst (λ n. pins_in k.shape a ≤ n) (ap (how_many (has_number a.wires)) (sym field.wires) ∙ many_size a.wires) (pins_long k.shape a.wires)

pub no_loads : (k : Kept) (a : Field) (before : ℕ) → IsFieldOf k.shape a → before + pins_in k.shape a ≤ before + (8 * fresh k a + 3 * size_of a.wires)
no_loads k a before field = sums _ _ _ (pins_few k a field)
  where
    sums : (p x y : ℕ) → p ≤ y → before + p ≤ before + (8 * x + 3 * y)
    sums p x y few = omega (arith, few)

pub takes_none : {told : Option Faults} {k : Kept} {a : Field} {before after : ℕ} → IsFieldOf k.shape a → after ≡ before → TakesFew told k a before after
takes_none {k = k} {a = a} {before = before} {after = after} field same = record { at = λ f is none holds. sums _ _ _ (pins_few k a field) }
  where
    sums : (p x y : ℕ) → p ≤ y → after + p ≤ before + (2 * x + 3 * y)
    sums p x y few = omega (arith, few, same)
