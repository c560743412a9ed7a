-- Fields without what is marked bad: what is closed there, and what a sweep and a growth take together.
use Rattle.std.proofs.Common.{◌≡◌, ◌≢◌, ◌⊎◌, ℕ, zero, suc, ◌+◌, ◌*◌, ◌<◌, ◌≤◌, Bool, true, false, None, Option, List, length, replicate, set, refl, sym, ap, ◌∙◌, subst, inl, inr, arith, not, ◌&&◌, if◌then◌else◌}
use Rattle.diag_sweep.proofs.Vocabulary.{false≢true, has_number, size_of, Shape, Faults, stuck_cross, IsClear, IsAlone, HasFeet, two, Table}
use Rattle.diag_sweep.proofs.Vocabulary.{Kept, IsMore, keeps_cross, Field, VerifiedWire, many_all, many_more, many_size, DefectMarks}
use Rattle.std.proofs.lemmas.List.{get_or-set_same, get_or-set_other, get_or-replicate, get_or_past, length-replicate, length-set}
use native.Mathlib.Decide.{dec_lt, ℕ_discrete}
use Rattle.machine_shape.specs.Vocabulary.{IsNumbered, crosses_of, pin_wire, pins_of, wires_of}
use Rattle.diag_known.specs.Vocabulary.{ClosedIf, IsClosed, IsFieldOf, fresh, how_many, pins_in, HasWire}
use Rattle.diag_sweep.specs.Marks.{AreTrueMarks, MarksIn, Pays, TrueIf, is_undecided, undecided}
use Rattle.diag_sweep.specs.Without.{AreWithout, IsWithout}
use Rattle.diag_sweep.proofs.Paying.{neither}

none_on : (n i : ℕ) → has_number (replicate n false) i ≡ false
none_on n i = by (dec_lt i n)
  where
    by : Dec (i < n) → has_number (replicate n false) i ≡ false
    by (yes h) = get_or-replicate n i false false h
    by (no h) = get_or_past (replicate n false) i false (rw length-replicate (omega arith))

-- the numbers below this one were looked at
pub record AreWithoutBelow (out these rest : List Bool) (n : ℕ) : Type 0 where
  pub len : length rest ≡ length these
  pub below : (i : ℕ) → i < n → has_number rest i ≡ (has_number these i && not (has_number out i))
  pub above : (i : ℕ) → n ≤ i → has_number rest i ≡ false

pub without_first : (out these rest : List Bool) (n : ℕ) → n ≡ length these → rest ≡ replicate n false → AreWithoutBelow out these rest 0
without_first out these rest n e is = record {
  len = ap length is ∙ length-replicate n false ∙ e;
  below = λ i h. absurd (let no : ⊥ = omega (arith, h) in no);
  above = λ i h. ap (λ (l : List Bool). has_number l i) is ∙ none_on n i;
}

module _ (out these old new : List Bool) (n : ℕ) (before : AreWithoutBelow out these old n) (less : n < length these) where
  pub without_put : has_number these n ≡ true → has_number out n ≡ false → new ≡ set old n true → AreWithoutBelow out these new (n + 1)
  without_put on off is = record {
    len = ap length is ∙ length-set old n true ∙ before.len;
    below = λ i h. by i h (ℕ_discrete i n);
    above = λ i h. ap (λ (l : List Bool). has_number l i) is ∙ get_or-set_other old n i true false (λ (e : i ≡ n). let no : ⊥ = omega (arith, h, e) in no) ∙ before.above i (omega (arith, h));
  }
    where
      at : has_number (set old n true) n ≡ true
      at = get_or-set_same old n true false (rw before.len less)

      by : (i : ℕ) → i < n + 1 → Dec (i ≡ n) → has_number new i ≡ (has_number these i && not (has_number out i))
      by i h (yes e) = ap (has_number new) e ∙ ap (λ (l : List Bool). has_number l n) is ∙ at ∙ sym (ap (λ (j : ℕ). has_number these j && not (has_number out j)) e ∙ ap (λ (b : Bool). b && not (has_number out n)) on ∙ ap not off)
      by i h (no other) = ap (λ (l : List Bool). has_number l i) is ∙ get_or-set_other old n i true false other ∙ before.below i (omega (arith, h, other))

  pub without_pass : (has_number these n && not (has_number out n)) ≡ false → new ≡ old → AreWithoutBelow out these new (n + 1)
  without_pass off is = record {
    len = ap length is ∙ before.len;
    below = λ i h. ap (λ (l : List Bool). has_number l i) is ∙ by i h (ℕ_discrete i n);
    above = λ i h. ap (λ (l : List Bool). has_number l i) is ∙ before.above i (omega (arith, h));
  }
    where
      by : (i : ℕ) → i < n + 1 → Dec (i ≡ n) → has_number old i ≡ (has_number these i && not (has_number out i))
      by i h (yes e) = ap (has_number old) e ∙ before.above n (omega arith) ∙ sym (ap (λ (j : ℕ). has_number these j && not (has_number out j)) e ∙ off)
      by i h (no other) = before.below i (omega (arith, h, other))

pub without_all : (out these rest : List Bool) (n : ℕ) → length these ≤ n → AreWithoutBelow out these rest n → AreWithout out these rest
without_all out these rest n all w = record { len = w.len; each = λ i. by i (dec_lt i n) }
  where
    by : (i : ℕ) → Dec (i < n) → has_number rest i ≡ (has_number these i && not (has_number out i))
    by i (yes h) = w.below i h
    by i (no h) = w.above i (omega (arith, h)) ∙ sym (ap (λ (b : Bool). b && not (has_number out i)) (get_or_past these i false (omega (arith, h, all))))

and_and : (a b c : Bool) → ((a && b) && c) ≡ (a && (b && c))
and_and true b c = refl
and_and false b c = refl

pub without_both : {b : DefectMarks} {a : Field} {crosses fit wires : List Bool} → AreWithout b.stuck a.crosses crosses → AreWithout b.unfit a.wires fit → AreWithout b.unclear fit wires →
    IsWithout b a (record { wires = wires; crosses = crosses })
without_both {b} {a} xs fit ws = record {
  crosses = xs;
  len = ws.len ∙ fit.len;
  wires = λ w. ws.each w ∙ ap (λ (x : Bool). x && not (has_number b.unclear w)) (fit.each w) ∙ and_and (has_number a.wires w) (not (has_number b.unfit w)) (not (has_number b.unclear w));
}

either : (x : Bool) → (x ≡ true) ⊎ (x ≡ false)
either true = inl refl
either false = inr refl

left_on : (a b : Bool) → (a && b) ≡ true → a ≡ true
left_on true b e = refl
left_on false b e = e

both_on : (a b : Bool) → a ≡ true → b ≡ false → (a && not b) ≡ true
both_on a b e f = rw (e, f) refl

three_on : (a b c : Bool) → a ≡ true → b ≡ false → c ≡ false → (a && (not b && not c)) ≡ true
three_on a b c e f g = rw (e, f, g) refl

none_some : {A : Type 0} (o : Option A) → o ≡ None → o ≢ None → ⊥
none_some o e n = n e

-- what is closed without what is marked is closed with it
pub closed_with : (told : Option Faults) (k : Kept) (ss : List VerifiedWire) (b : DefectMarks) (a rest : Field) → IsWithout b a rest → TrueIf told k ss b → ClosedIf told k rest ss → ClosedIf told k a ss
closed_with told k ss b a rest without true_ closed = record { at = λ f e h. whole f (true_.at f e).1 (closed.at f e h) }
  where
    whole : (f : Faults) → AreTrueMarks k.shape f (HasWire ss) b → IsClosed k f rest (HasWire ss) → IsClosed k f a (HasWire ss)
    whole f marks c = record {
      pins = λ i h on clear alone. c.pins i h (wire (pin_wire k.shape i) on clear alone) clear alone;
      wires = λ w on clear alone feet. c.wires w (wire w on clear alone) clear alone (by w feet);
      crosses = λ x on left right sound. c.crosses x (cross x on sound) left right sound;
    }
      where
        wire : (w : ℕ) → has_number a.wires w ≡ true → IsClear k.shape f w → IsAlone k.shape f (HasWire ss) w → has_number rest.wires w ≡ true
        wire w on clear alone = without.wires w ∙ three_on (has_number a.wires w) (has_number b.unfit w) (has_number b.unclear w) on (fit (either (has_number b.unfit w))) (seen (either (has_number b.unclear w)))
          where
            fit : (has_number b.unfit w ≡ true) ⊎ (has_number b.unfit w ≡ false) → has_number b.unfit w ≡ false
            fit (inl yes_) = absurd (marks.unfit w yes_ clear alone)
            fit (inr no_) = no_

            seen : (has_number b.unclear w ≡ true) ⊎ (has_number b.unclear w ≡ false) → has_number b.unclear w ≡ false
            seen (inl yes_) = absurd (marks.unclear w yes_ clear)
            seen (inr no_) = no_

        cross : (x : ℕ) → has_number a.crosses x ≡ true → stuck_cross f x ≡ None → has_number rest.crosses x ≡ true
        cross x on sound = without.crosses.each x ∙ both_on (has_number a.crosses x) (has_number b.stuck x) on (free (either (has_number b.stuck x)))
          where
            free : (has_number b.stuck x ≡ true) ⊎ (has_number b.stuck x ≡ false) → has_number b.stuck x ≡ false
            free (inl yes_) = absurd (none_some (stuck_cross f x) sound (marks.stuck x yes_))
            free (inr no_) = no_

        by : (w : ℕ) → HasFeet k.shape f (λ x. has_number a.crosses x ≡ true) (HasWire ss) w → HasFeet k.shape f (λ x. has_number rest.crosses x ≡ true) (HasWire ss) w
        by w (two x y u v cx cy ex ey differ hu hv sx sy) = two x y u v (cross x cx sx) (cross y cy sy) ex ey differ hu hv sx sy

bit_more : (a b : Bool) → (a ≡ true → b ≡ true) → (if a then 1 else 0) ≤ (if b then 1 else 0)
bit_more true true h = omega arith
bit_more true false h = absurd (false≢true (h refl))
bit_more false true h = omega arith
bit_more false false h = omega arith

-- what a part lacks, the whole lacks
pub lacks : (p q : ℕ → Bool) (m n : ℕ) → m ≤ n → ((x : ℕ) → q x ≡ true → p x ≡ true) → how_many p m + how_many q n ≤ how_many q m + how_many p n
lacks p q m zero less h = let e : m ≡ zero = omega (arith, less) in rw e (omega arith)
lacks p q m (suc n) less h = by (ℕ_discrete m (suc n)) (λ low. lacks p q m n low h)
  where
    by : Dec (m ≡ suc n) → (m ≤ n → how_many p m + how_many q n ≤ how_many q m + how_many p n) → how_many p m + how_many q (suc n) ≤ how_many q m + how_many p (suc n)
    by (yes e) below = rw e (omega arith)
    by (no other) below =
        let rest = below (omega (arith, less, other)) in
        let one = bit_more (q n) (p n) (h n) in omega (arith, rest, one)

pub pins_few : (m : Shape) → IsNumbered m → pins_of m ≤ wires_of m
unfolding pin_wire wires_of
pins_few m numbered = by (dec_lt (wires_of m) (pins_of m))
  where
    by : Dec (wires_of m < pins_of m) → pins_of m ≤ wires_of m
    by (yes h) = absurd (let in_ : wires_of m < wires_of m = numbered.pins (wires_of m) h in let no : ⊥ = omega (arith, in_) in no)
    by (no h) = omega (arith, h)

module _ (a rest : Field) (k l : Kept) (b c : DefectMarks) (same : l.shape ≡ k.shape) (field : IsFieldOf k.shape a) (without : IsWithout c a rest) where
  fresh_undecided : fresh l rest ≤ undecided l c a
  fresh_undecided = subst (λ (n : ℕ). how_many (λ x. has_number rest.crosses x && not (keeps_cross l x)) n ≤ undecided l c a) (sym without.crosses.len)
      (many_more _ _ (length a.crosses) (λ x less on. by (has_number rest.crosses x) (has_number a.crosses x) (has_number c.stuck x) (keeps_cross l x) (without.crosses.each x) on))
    where
      by : (r h s q : Bool) → r ≡ (h && not s) → (r && not q) ≡ true → (h && (not q && not s)) ≡ true
      by true true false false e on = refl
      by true true false true e on = absurd (false≢true on)
      by true true true q e on = absurd (false≢true (sym e))
      by true false s q e on = absurd (false≢true (sym e))
      by false h s q e on = absurd (false≢true on)

  pins_lack : IsNumbered k.shape → pins_in k.shape a + size_of rest.wires ≤ pins_in l.shape rest + size_of a.wires
  unfolding pin_wire
  pins_lack numbered = subst (λ (m : Shape). pins_in k.shape a + size_of rest.wires ≤ pins_in m rest + size_of a.wires) (sym same) sums
    where
      all : how_many (has_number a.wires) (pins_of k.shape) + how_many (has_number rest.wires) (length a.wires) ≤ how_many (has_number rest.wires) (pins_of k.shape) + how_many (has_number a.wires) (length a.wires)
      all = lacks (has_number a.wires) (has_number rest.wires) (pins_of k.shape) (length a.wires) (rw field.wires (pins_few k.shape numbered)) (λ w on. left_on (has_number a.wires w) _ (sym (without.wires w) ∙ on))

      size_a : how_many (has_number a.wires) (length a.wires) ≡ size_of a.wires
      size_a = many_size a.wires

      size_rest : how_many (has_number rest.wires) (length a.wires) ≡ size_of rest.wires
      size_rest = subst (λ (n : ℕ). how_many (has_number rest.wires) n ≡ size_of rest.wires) without.len (many_size rest.wires)

      sums : pins_in k.shape a + size_of rest.wires ≤ pins_in k.shape rest + size_of a.wires
      sums = subst (λ (n : ℕ). pins_in k.shape a + n ≤ pins_in k.shape rest + size_of a.wires) size_rest
          (subst (λ (n : ℕ). pins_in k.shape a + how_many (has_number rest.wires) (length a.wires) ≤ pins_in k.shape rest + n) size_a all)

  size_less : size_of rest.wires ≤ size_of a.wires
  size_less = subst (λ (n : ℕ). n ≤ size_of a.wires) size_rest (subst (λ (n : ℕ). how_many (has_number rest.wires) (length a.wires) ≤ n) (many_size a.wires)
      (many_more (has_number rest.wires) (has_number a.wires) (length a.wires) (λ w less on. left_on (has_number a.wires w) _ (sym (without.wires w) ∙ on))))
    where
      size_rest : how_many (has_number rest.wires) (length a.wires) ≡ size_of rest.wires
      size_rest = subst (λ (n : ℕ). how_many (has_number rest.wires) n ≡ size_of rest.wires) without.len (many_size rest.wires)

  -- loads for what is fresh, and three for each wire
  grown_by : IsNumbered k.shape → (few most before after : ℕ) → few ≤ most → after + pins_in l.shape rest ≤ before + (few + 3 * size_of rest.wires) → after + pins_in k.shape a ≤ before + (most + 3 * size_of a.wires)
  grown_by numbered few most before after less took = sums (pins_in k.shape a) (pins_in l.shape rest) (size_of rest.wires) (size_of a.wires) (pins_lack numbered) size_less took
    where
      sums : (p q w x : ℕ) → p + w ≤ q + x → w ≤ x → after + q ≤ before + (few + 3 * w) → after + p ≤ before + (most + 3 * x)
      sums p q w x lack fewer grow = omega (arith, less, lack, fewer, grow)

  pub grown_most : IsNumbered k.shape → (before after : ℕ) → after + pins_in l.shape rest ≤ before + (8 * fresh l rest + 3 * size_of rest.wires) →
      after + pins_in k.shape a ≤ before + (8 * undecided l c a + 3 * size_of a.wires)
  grown_most numbered before after took = grown_by numbered (8 * fresh l rest) (8 * undecided l c a) before after (let less = fresh_undecided in omega (arith, less)) took

  pub grown_few : IsNumbered k.shape → (before after : ℕ) → after + pins_in l.shape rest ≤ before + (2 * fresh l rest + 3 * size_of rest.wires) →
      after + pins_in k.shape a ≤ before + (2 * undecided l c a + 3 * size_of a.wires)
  grown_few numbered before after took = grown_by numbered (2 * fresh l rest) (2 * undecided l c a) before after (let less = fresh_undecided in omega (arith, less)) took

  module _ {tables : List Table} (more : IsMore k l) (marks : MarksIn a tables b c) where
    undecided_less : undecided l c a ≤ undecided k b a
    undecided_less = many_more _ _ (length a.crosses) (λ x less on. by x (has_number a.crosses x) on)
      where
        by : (x : ℕ) (h : Bool) → (h && is_undecided l c x) ≡ true → (h && is_undecided k b x) ≡ true
        by x true on = neither (keeps_cross k x) (has_number b.stuck x) (keeps_cross l x) (has_number c.stuck x) (more.crosses x) (marks.stuck.stays x) on
        by x false on = on

    -- what was paid for before goes into the sum
    paid_by : (few most before mid after : ℕ) → few + 2 * undecided k b a ≤ most + 2 * undecided l c a → Pays a k b before l c mid → after + pins_in k.shape a ≤ mid + (few + 3 * size_of a.wires) → after ≤ before + (most + 3 * size_of a.wires)
    paid_by few most before mid after fits pays grown = sums (undecided l c a) (undecided k b a) (pins_in k.shape a) (size_of a.wires) fits pays grown
      where
        sums : (v u p x : ℕ) → few + 2 * u ≤ most + 2 * v → mid + 2 * v ≤ before + (p + 2 * u) → after + p ≤ mid + (few + 3 * x) → after ≤ before + (most + 3 * x)
        sums v u p x fit pay grow = omega (arith, fit, pay, grow)

    pub paid_most : IsNumbered k.shape → (before mid after : ℕ) → Pays a k b before l c mid → after + pins_in l.shape rest ≤ mid + (8 * fresh l rest + 3 * size_of rest.wires) →
        after ≤ before + (8 * undecided k b a + 3 * size_of a.wires)
    paid_most numbered before mid after pays took = paid_by (8 * undecided l c a) (8 * undecided k b a) before mid after (let less = undecided_less in omega (arith, less)) pays (grown_most numbered mid after took)

    pub paid_few : IsNumbered k.shape → (before mid after : ℕ) → Pays a k b before l c mid → after + pins_in l.shape rest ≤ mid + (2 * fresh l rest + 3 * size_of rest.wires) →
        after ≤ before + (2 * undecided k b a + 3 * size_of a.wires)
    paid_few numbered before mid after pays took = paid_by (2 * undecided l c a) (2 * undecided k b a) before mid after (let less = undecided_less in omega (arith, less)) pays (grown_few numbered mid after took)

more_below : (p : ℕ → Bool) (m n : ℕ) → m ≤ n → how_many p m ≤ how_many p n
more_below p m zero less = let e : m ≡ zero = omega (arith, less) in rw e (omega arith)
more_below p m (suc n) less = by (ℕ_discrete m (suc n)) (λ low. more_below p m n low)
  where
    by : Dec (m ≡ suc n) → (m ≤ n → how_many p m ≤ how_many p n) → how_many p m ≤ how_many p (suc n)
    by (yes e) below = rw e (omega arith)
    by (no other) below = let rest = below (omega (arith, less, other)) in omega (arith, rest)

pub pins_size : (a : Field) (k : Kept) → IsNumbered k.shape → IsFieldOf k.shape a → pins_in k.shape a ≤ size_of a.wires
unfolding pin_wire
pins_size a k numbered field = subst (λ (n : ℕ). pins_in k.shape a ≤ n) (many_size a.wires) (more_below (has_number a.wires) (pins_of k.shape) (length a.wires) (rw field.wires (pins_few k.shape numbered)))

pub undecided_all : (a : Field) (k : Kept) (b : DefectMarks) → IsFieldOf k.shape a → undecided k b a ≤ crosses_of k.shape
undecided_all a k b field = subst (λ (n : ℕ). undecided k b a ≤ n) field.crosses (many_all _ (length a.crosses))

pub paid_alone : (a : Field) (k l : Kept) (b c : DefectMarks) (before after : ℕ) → IsNumbered k.shape → IsFieldOf k.shape a → Pays a k b before l c after → after ≤ before + (2 * undecided k b a + size_of a.wires)
unfolding pin_wire
paid_alone a k l b c before after numbered field pays = sums (undecided l c a) (undecided k b a) (pins_in k.shape a) (size_of a.wires) (pins_size a k numbered field) pays
  where
    sums : (v u p x : ℕ) → p ≤ x → after + 2 * v ≤ before + (p + 2 * u) → after ≤ before + (2 * u + x)
    sums v u p x few pay = omega (arith, few, pay)
