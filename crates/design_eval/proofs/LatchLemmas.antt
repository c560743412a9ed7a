-- Latches that give what has changed.
use Rattle.std.proofs.Common.{◌≡◌, ◌⊎◌, ℕ, ◌+◌, ◌*◌, ◌<◌, ◌≤◌, Bool, false, List, length, map, refl, sym, ap, subst, ◌∙◌, inl, inr, arith, get_or-set_same, get_or-set_other, slice_set}
use Rattle.design_eval.proofs.Vocabulary.{cases_eq, cases_lt, length-set, length-map, get_or-map, ext_get_or, number_at, bit_at, Readers}
use Rattle.design_eval.proofs.Vocabulary.{bits_put, AreApart, AreBelow, HaveBits, HavePut, HasGiven, AreTaken}
use Rattle.design_eval.proofs.BitLemmas.{put-over, put-same, put-has}
use Rattle.design_eval.proofs.MarkLemmas.{keeps-give, given-taken, taken-none, taken-both, clear-kept}

pub put-nothing : (r : Readers) (drives : List ℕ) (state last marks values : List Bool) → HavePut r drives state last marks values last marks values
put-nothing r drives state last marks values = record {
  len = refl;
  marks_len = refl;
  last_len = refl;
  given = λ h. h;
  whole = refl;
  stays = λ k e. e;
  kept = λ covers order count are free h. h;
  taken = taken-none 0 r marks values;
}

pub put-both : (r : Readers) (drives : List ℕ) (state last0 marks0 values0 last marks values last' marks' values' : List Bool) → HavePut r drives state last0 marks0 values0 last marks values → HavePut r drives state last marks values last' marks' values' → HavePut r drives state last0 marks0 values0 last' marks' values'
put-both r drives state last0 marks0 values0 last marks values last' marks' values' a b = record {
  len = b.len ∙ a.len;
  marks_len = b.marks_len ∙ a.marks_len;
  last_len = b.last_len ∙ a.last_len;
  given = λ h. b.given (a.given h);
  whole = b.whole ∙ a.whole;
  stays = λ k e. b.stays k (a.stays k e);
  kept = λ covers order count are free h. b.kept covers order count are free (a.kept covers order count are free h);
  taken = taken-both 0 r marks0 values0 marks values marks' values' a.taken b.taken;
}

module _ (r : Readers) (drives : List ℕ) (state last marks values marks' values' : List Bool) (k : ℕ) (g : HasGiven r (number_at drives k) (bit_at state k) marks values marks' values') (lk : k < length drives) (size : length state ≡ length drives) (len : length last ≡ length drives) (below : AreBelow (length values) drives) (apart : AreApart drives) where
  others-apart : (j : ℕ) → j < length drives → (j ≡ k → ⊥) → number_at drives j ≡ number_at drives k → ⊥
  others-apart j lj other e = by (cases_lt j k)
    where
      by : (j < k) ⊎ (k ≤ j) → ⊥
      by (inl lt) = apart j k lt lk e
      by (inr ge) = apart k j (elim (cases_lt k j) [ inl l ↦ l | inr l ↦ absurd (other (omega arith)) ]) lj (sym e)

  last-done : bit_at (slice_set last k (bit_at state k)) k ≡ bit_at state k
  last-done = get_or-set_same last k (bit_at state k) false (omega arith)

  given-on : HaveBits drives last values → HaveBits drives (slice_set last k (bit_at state k)) values'
  given-on h j lj = by (cases_eq j k)
    where
      by : (j ≡ k) ⊎ (j ≡ k → ⊥) → bit_at values' (number_at drives j) ≡ bit_at (slice_set last k (bit_at state k)) j
      by (inl same) =
          subst (λ (x : ℕ). bit_at values' (number_at drives x) ≡ bit_at (slice_set last k (bit_at state k)) x) (sym same)
          (ap (λ (vs : List Bool). bit_at vs (number_at drives k)) g.is ∙ get_or-set_same values (number_at drives k) (bit_at state k) false (below k lk) ∙ sym last-done)
      by (inr other) =
          ap (λ (vs : List Bool). bit_at vs (number_at drives j)) g.is ∙
          get_or-set_other values (number_at drives k) (number_at drives j) (bit_at state k) false (others-apart j lj other) ∙
          h j lj ∙ sym (get_or-set_other last k j (bit_at state k) false other)

  stays-on : (j : ℕ) → bit_at last j ≡ bit_at state j → bit_at (slice_set last k (bit_at state k)) j ≡ bit_at state j
  stays-on j e = by (cases_eq j k)
    where
      by : (j ≡ k) ⊎ (j ≡ k → ⊥) → bit_at (slice_set last k (bit_at state k)) j ≡ bit_at state j
      by (inl same) = subst (λ (x : ℕ). bit_at (slice_set last k (bit_at state k)) x ≡ bit_at state x) (sym same) last-done
      by (inr other) = get_or-set_other last k j (bit_at state k) false other ∙ e

  pub put-one : HavePut r drives state last marks values (slice_set last k (bit_at state k)) marks' values'
  put-one = record {
    len = ap (λ (vs : List Bool). length vs) g.is ∙ length-set values (number_at drives k) (bit_at state k);
    marks_len = g.len;
    last_len = length-set last k (bit_at state k);
    given = given-on;
    whole = ap (λ (vs : List Bool). bits_put vs drives state) g.is ∙ put-over values drives state k apart lk (omega arith);
    stays = stays-on;
    kept = λ covers order count are free h. keeps-give covers order count r are 0 (number_at drives k) (bit_at state k) marks values marks' values' g (below k lk) (λ j mj lj e. free j k lj lk e) h;
    taken = given-taken r (number_at drives k) (bit_at state k) marks values marks' values' g (below k lk);
  }

-- all were given their bits
pub put-all : (r : Readers) (drives : List ℕ) (state last marks values last' marks' values' : List Bool) → HavePut r drives state last marks values last' marks' values' → HaveBits drives last values → ((k : ℕ) → k < length drives → bit_at last' k ≡ bit_at state k) → values' ≡ bits_put values drives state
put-all r drives state last marks values last' marks' values' h given done =
    sym (put-same values' drives state (λ k lk. h.given given k lk ∙ done k lk)) ∙ h.whole

-- what was put is there
pub bits-put : (drives : List ℕ) (state values : List Bool) → AreApart drives → AreBelow (length values) drives → length state ≡ length drives → HaveBits drives state (bits_put values drives state)
bits-put drives state values apart below e k lk = put-has values drives state k apart below e lk

-- one more latch gave its bit
pub done-more : (state last last' : List Bool) (from k : ℕ) → ((j : ℕ) → from ≤ j → j < k → bit_at last j ≡ bit_at state j) → ((j : ℕ) → bit_at last j ≡ bit_at state j → bit_at last' j ≡ bit_at state j) → bit_at last' k ≡ bit_at state k → (j : ℕ) → from ≤ j → j < k + 1 → bit_at last' j ≡ bit_at state j
done-more state last last' from k h stays e j fj jk = by (cases_lt j k)
  where
    by : (j < k) ⊎ (k ≤ j) → bit_at last' j ≡ bit_at state j
    by (inl lt) = stays j (h j fj lt)
    by (inr ge) = subst (λ (x : ℕ). bit_at last' x ≡ bit_at state x) (let f : k ≡ j = omega arith in f) e

-- those of one more chunk
pub chunk-more : (state last last' : List Bool) (i count to : ℕ) → ((j : ℕ) → j < 64 * i → j < count → bit_at last j ≡ bit_at state j) → ((j : ℕ) → bit_at last j ≡ bit_at state j → bit_at last' j ≡ bit_at state j) → ((j : ℕ) → i * 64 ≤ j → j < to → bit_at last' j ≡ bit_at state j) → ((j : ℕ) → j < count → j < i * 64 + 64 → j < to) → (j : ℕ) → j < 64 * (i + 1) → j < count → bit_at last' j ≡ bit_at state j
chunk-more state last last' i count to h stays e reach j ji jc = by (cases_lt j (64 * i))
  where
    by : (j < 64 * i) ⊎ (64 * i ≤ j) → bit_at last' j ≡ bit_at state j
    by (inl lt) = stays j (h j lt jc)
    by (inr ge) = e j (omega (arith, ge)) (reach j jc (omega (arith, ji)))

-- a latch takes what it reads
pub take-one : (first : ℕ) (reads : List ℕ) (k : ℕ) (state marks values : List Bool) → k < length reads → length state ≡ length reads → AreTaken first reads state marks values → AreTaken first reads (slice_set state k (bit_at values (number_at reads k))) (slice_set marks (first + k) false) values
take-one first reads k state marks values lk size h j lj f = by (cases_eq j k)
  where
    bit : Bool
    bit = bit_at values (number_at reads k)

    by : (j ≡ k) ⊎ (j ≡ k → ⊥) → bit_at values (number_at reads j) ≡ bit_at (slice_set state k bit) j
    by (inl same) =
        subst (λ (x : ℕ). bit_at values (number_at reads x) ≡ bit_at (slice_set state k bit) x) (sym same)
        (sym (get_or-set_same state k bit false (omega (arith, lk, size))))
    by (inr other) = h j lj (clear-kept marks (first + k) (first + j) (λ e. other (omega (arith, e))) f) ∙ sym (get_or-set_other state k j bit false other)

-- all have taken what they read
pub take-all : (first : ℕ) (reads : List ℕ) (state marks values : List Bool) → length state ≡ length reads → AreTaken first reads state marks values → ((k : ℕ) → first ≤ k → k < first + length reads → bit_at marks k ≡ false) → state ≡ map (bit_at values) reads
take-all first reads state marks values size h none =
    ext_get_or false state (map (bit_at values) reads) (size ∙ sym (length-map reads (bit_at values)))
    (λ i li. (let lt : i < length reads = omega (arith, li, size) in sym (h i lt (none (first + i) (omega arith) (omega (arith, lt)))) ∙ sym (get_or-map (bit_at values) reads i 0 false lt)))

pub take-map : (first : ℕ) (reads : List ℕ) (state marks values : List Bool) → state ≡ map (bit_at values) reads → AreTaken first reads state marks values
take-map first reads state marks values e k lk f = sym (ap (λ (xs : List Bool). bit_at xs k) e ∙ get_or-map (bit_at values) reads k 0 false lk)
