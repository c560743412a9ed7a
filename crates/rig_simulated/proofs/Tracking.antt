-- What is kept of the pins once one is driven anew, and what they read.
use Rattle.std.proofs.Common.{◌≡◌, ◌≢◌, ◌⊎◌, inl, inr, ⊎_elim, ℕ, ◌+◌, ◌<◌, ◌≤◌, Bool, true, false, ◌||◌, List, length, get_or, set, map, replicate, sym, ap, ◌∙◌, subst, arith, slice_index}
use Rattle.rig_simulated.proofs.Vocabulary.{or-false, Shape, wires_of, pins_of, Pins, ClassNode, Gate, knot_at, AreDriven, HasPins}
use Rattle.rig_simulated.proofs.Vocabulary.{AreWithin, level_by, AreShown, AreAlikeBelow, IsTracked}
use Rattle.std.proofs.lemmas.Bool.{false≢true, cases_eq, cases_lt, cases_Bool, false_from_ne_true}
use Rattle.std.proofs.lemmas.List.{get_or-set_other, get_or_default, get_or_past, get_or-replicate, length-replicate, get_or-map, length-map, same_lists}
use Rattle.rig_simulated.specs.declared.driving.KeptPins.{KeptPins}
use Rattle.rig_simulated.specs.Gates.{is_low, IsClear, level_of, level_at, IsDrivenBy, IsPinOf, IsOutputOf}

-- nothing is driven
pub driven_none : (pins : List ℕ) (drive : Pins) (low : List Bool) (n : ℕ) → IsClear low → drive ≡ replicate n true → AreDriven pins drive low
driven_none pins drive low n clear e = record { to = λ r is. absurd (false≢true (sym (clear r) ∙ is)); from = λ r d. absurd (false≢true (sym d.low ∙ high d.place)) }
  where
    high : (k : ℕ) → get_or drive k true ≡ true
    high k = ap (λ l. get_or l k true) e ∙ ⊎_elim
        (λ h. get_or-replicate n k true true h)
        (λ h. get_or_past (replicate n true) k true (let l = length-replicate n true in omega (arith, h, l)))
        (cases_lt k n)

-- all marks are taken away
pub clear_all : (low : List Bool) (n : ℕ) → low ≡ replicate n false → IsClear low
clear_all low n e r = ap (λ l. get_or l r false) e ∙ ⊎_elim
    (λ h. get_or-replicate n r false false h)
    (λ h. get_or_past (replicate n false) r false (let l = length-replicate n false in omega (arith, h, l)))
    (cases_lt r n)

-- marks of driven pins are marks of pins
pub marks_of_pins : (pins : List ℕ) (drive : Pins) (low : List Bool) → AreDriven pins drive low → (r : ℕ) → is_low low r ≡ true → IsPinOf pins 0 r
marks_of_pins pins drive low driven r e = let d = driven.to r e in record { place = d.place; from = omega arith; within = d.below; root = d.root }

module _ (pins : List ℕ) (drive : Pins) (pin : ℕ) (bit : Bool) where
  -- other pins are driven as they were
  still_driven : (r : ℕ) → r ≢ slice_index pins pin → IsDrivenBy pins drive (length pins) r → IsDrivenBy pins (set drive pin bit) (length pins) r
  still_driven r n d = record {
    place = d.place;
    below = d.below;
    root = d.root;
    low = get_or-set_other drive pin d.place bit true (λ e. n (sym d.root ∙ ap (slice_index pins) e)) ∙ d.low;
  }

  was_driven : (r : ℕ) → r ≢ slice_index pins pin → IsDrivenBy pins (set drive pin bit) (length pins) r → IsDrivenBy pins drive (length pins) r
  was_driven r n d = record {
    place = d.place;
    below = d.below;
    root = d.root;
    low = sym (get_or-set_other drive pin d.place bit true (λ e. n (sym d.root ∙ ap (slice_index pins) e))) ∙ d.low;
  }

  -- the marks once a pin is driven anew
  pub driven_anew : (low new : List Bool) (pulled : Bool) → AreDriven pins drive low → ((r : ℕ) → r ≢ slice_index pins pin → is_low new r ≡ is_low low r) → is_low new (slice_index pins pin) ≡ pulled →
      (pulled ≡ true → IsDrivenBy pins (set drive pin bit) (length pins) (slice_index pins pin)) →
      (pulled ≡ false → (k : ℕ) → k < length pins → slice_index pins k ≡ slice_index pins pin → get_or (set drive pin bit) k true ≡ true) → AreDriven pins (set drive pin bit) new
  driven_anew low new pulled driven others here pulls frees = record { to = λ r e. to r e (cases_eq r class); from = λ r d. from r d (cases_eq r class) (cases_Bool pulled) }
    where
      class : ℕ
      class = slice_index pins pin

      to : (r : ℕ) → is_low new r ≡ true → (r ≡ class) ⊎ (r ≢ class) → IsDrivenBy pins (set drive pin bit) (length pins) r
      to r e (inl q) = subst (IsDrivenBy pins (set drive pin bit) (length pins)) (sym q) (pulls (sym here ∙ ap (is_low new) (sym q) ∙ e))
      to r e (inr n) = still_driven r n (driven.to r (sym (others r n) ∙ e))

      from : (r : ℕ) → IsDrivenBy pins (set drive pin bit) (length pins) r → (r ≡ class) ⊎ (r ≢ class) → (pulled ≡ true) ⊎ (pulled ≡ false) → is_low new r ≡ true
      from r d (inl q) (inl p) = ap (is_low new) q ∙ here ∙ p
      from r d (inl q) (inr p) = absurd (false≢true (sym d.low ∙ frees p d.place d.below (d.root ∙ q)))
      from r d (inr n) o = others r n ∙ driven.from r (was_driven r n d)

pub level_alike : (knots : List ClassNode) (low new : List Bool) (r : ℕ) → is_low new r ≡ is_low low r → level_by knots new r ≡ level_by knots low r
level_alike knots low new r e = ap (level_of (knot_at knots r).held) e

-- the levels once those of a class were put anew
pub shown_anew : (knots : List ClassNode) (pins : List ℕ) (low after : List Bool) (levels new : Pins) (class : ℕ) (level : Bool) → AreShown knots pins low levels → length new ≡ length levels →
    ((k : ℕ) → k < length pins → slice_index pins k ≡ class → get_or new k true ≡ level) → ((k : ℕ) → slice_index pins k ≢ class → get_or new k true ≡ get_or levels k true) →
    level ≡ level_by knots after class → ((r : ℕ) → r ≢ class → is_low after r ≡ is_low low r) → AreShown knots pins after new
shown_anew knots pins low after levels new class level shown len these others is same = record { len = len ∙ shown.len; each = λ k h. by k h (cases_eq (slice_index pins k) class) }
  where
    by : (k : ℕ) → k < length pins → (slice_index pins k ≡ class) ⊎ (slice_index pins k ≢ class) → get_or new k true ≡ level_by knots after (slice_index pins k)
    by k h (inl e) = these k h e ∙ is ∙ ap (level_by knots after) (sym e)
    by k h (inr n) = others k n ∙ shown.each k h ∙ sym (level_alike knots low after (slice_index pins k) (same (slice_index pins k) n))

-- a pin more is driven as it is to be
pub alike_more : (a b : Pins) (n : ℕ) → AreAlikeBelow n a b → get_or a n true ≡ get_or b n true → AreAlikeBelow (n + 1) a b
alike_more a b n are here k h = ⊎_elim (λ l. are k l) (λ l. let e : k ≡ n = omega (arith, h, l) in ap (λ j. get_or a j true) e ∙ here ∙ ap (λ j. get_or b j true) (sym e)) (cases_lt k n)

pub alike_whole : (a b : Pins) (n : ℕ) → AreAlikeBelow n a b → length a ≡ length b → length b ≤ n → a ≡ b
alike_whole a b n are len all = same_lists a b len (λ k d h. get_or_default a k d true h ∙ are k (omega (arith, h, len, all)) ∙ sym (get_or_default b k d true (omega (arith, h, len))))

-- each pin reads what it is, or else what it is while no table pulls it, and is of no class that one of the first n tables gives to
pub record AreRead (knots : List ClassNode) (low_pins low_tables : List Bool) (gates : List Gate) (pins : List ℕ) (n : ℕ) (read : Pins) : Type 0 where
  pub len : length read ≡ length pins
  pub each : (k : ℕ) → k < length pins → (get_or read k true ≡ level_at knots low_pins low_tables (slice_index pins k)) ⊎
      ((get_or read k true ≡ level_by knots low_pins (slice_index pins k)) × (IsOutputOf gates 0 (slice_index pins k) → IsOutputOf gates n (slice_index pins k)))

module _ (knots : List ClassNode) (low_pins low_tables : List Bool) (gates : List Gate) (pins : List ℕ) where
  pub read_begins : (read : Pins) → AreShown knots pins low_pins read → AreRead knots low_pins low_tables gates pins 0 read
  read_begins read shown = record { len = shown.len; each = λ k h. inr (shown.each k h, λ o. o) }

  pub read_more : (n : ℕ) (d : Gate) (read new : Pins) → AreRead knots low_pins low_tables gates pins n read → length new ≡ length read →
      ((k : ℕ) → k < length pins → slice_index pins k ≡ (get_or gates n d).out → get_or new k true ≡ level_at knots low_pins low_tables (get_or gates n d).out) →
      ((k : ℕ) → slice_index pins k ≢ (get_or gates n d).out → get_or new k true ≡ get_or read k true) → AreRead knots low_pins low_tables gates pins (n + 1) new
  read_more n d read new are len these others = record { len = len ∙ are.len; each = λ k h. by k h (cases_eq (slice_index pins k) (get_or gates n d).out) }
    where
      later : (r : ℕ) → r ≢ (get_or gates n d).out → IsOutputOf gates n r → IsOutputOf gates (n + 1) r
      later r m o =
          let from : n + 1 ≤ o.place = ⊎_elim (λ q. absurd (m (sym (o.out d) ∙ ap (λ k. (get_or gates k d).out) q))) (λ q. let h = o.from in omega (arith, h, q)) (cases_eq o.place n) in
          record { place = o.place; from = from; within = o.within; out = o.out }

      by : (k : ℕ) → k < length pins → (slice_index pins k ≡ (get_or gates n d).out) ⊎ (slice_index pins k ≢ (get_or gates n d).out) →
          (get_or new k true ≡ level_at knots low_pins low_tables (slice_index pins k)) ⊎
          ((get_or new k true ≡ level_by knots low_pins (slice_index pins k)) × (IsOutputOf gates 0 (slice_index pins k) → IsOutputOf gates (n + 1) (slice_index pins k)))
      by k h (inl e) = inl (these k h e ∙ ap (level_at knots low_pins low_tables) (sym e))
      by k h (inr m) = ⊎_elim (λ e. inl (others k m ∙ e)) (λ p. inr (others k m ∙ p.0, λ o. later (slice_index pins k) m (p.1 o))) (are.each k h)

  pub read_whole : (n : ℕ) (read : Pins) → AreRead knots low_pins low_tables gates pins n read → length gates ≤ n → ((r : ℕ) → is_low low_tables r ≡ true → IsOutputOf gates 0 r) → read ≡ map (level_at knots low_pins low_tables) pins
  read_whole n read are all only = same_lists read (map (level_at knots low_pins low_tables) pins) (are.len ∙ sym (length-map pins (level_at knots low_pins low_tables)))
      (λ k d h. let l : k < length pins = (let e = are.len in omega (arith, h, e)) in
      get_or_default read k d true h ∙ right k l ∙ sym (get_or-map (level_at knots low_pins low_tables) pins k 0 d l))
    where
      none : (r : ℕ) → (IsOutputOf gates 0 r → IsOutputOf gates n r) → is_low low_tables r ≡ false
      none r f = false_from_ne_true (is_low low_tables r) (λ e. let o = f (only r e) in let w = o.within in let m = o.from in omega (arith, w, m, all))

      right : (k : ℕ) → k < length pins → get_or read k true ≡ level_at knots low_pins low_tables (slice_index pins k)
      right k l = ⊎_elim (λ e. e) (λ p. p.0 ∙ sym (ap (λ b. level_of (knot_at knots (slice_index pins k)).held (is_low low_pins (slice_index pins k) || b)) (none (slice_index pins k) p.1)
          ∙ ap (level_of (knot_at knots (slice_index pins k)).held) (or-false (is_low low_pins (slice_index pins k))))) (are.each k l)

-- what is kept of pins that are driven anew is kept of the machine's pins
pub has_still : (m : Shape) (knots : List ClassNode) (pins : List ℕ) (low new : List Bool) (kept after : KeptPins) → HasPins m pins low kept → IsTracked knots pins low kept → length knots ≡ wires_of m → IsTracked knots pins new after → HasPins m pins new after
has_still m knots pins low new kept after has was len now = record {
  within = has.within;
  marks = now.marks ∙ len;
  last = now.last ∙ len;
  few = subst (AreWithin after.chains.last.items) count now.few;
  before = now.before ∙ count;
  drive = now.drive ∙ count;
  levels = now.shown.len ∙ count;
  driven = now.driven;
}
  where
    count : length pins ≡ pins_of m
    count = sym was.drive ∙ has.drive
