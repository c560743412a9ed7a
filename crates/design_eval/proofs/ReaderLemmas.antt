-- The readers of signals, found by sorted keys.
use Rattle.std.proofs.Common.{◌≡◌, ◌⊎◌, ℕ, ◌+◌, ◌*◌, ◌%◌, ◌<◌, ◌≤◌, List, [], ◌∷◌, ◌++◌, length, take, map, refl, sym, ap, subst, ◌∙◌, inl, inr, arith}
use Rattle.design_eval.proofs.Vocabulary.{Contains, cases_lt, cases_eq, get_or_default_zero, get_or-append_seam, Cover, number_at, Readers}
use Rattle.std.specs.{List.Sorted.IsPermutation, List.Sorted.IsSorted, Ordering.nat_cmp}
use Rattle.std.proofs.lemmas.List.{get_or-map, get_or-take, length-map, length-take, length-take-le, get_or_append_left}
use Rattle.std.proofs.lemmas.List.Elements.{Contains-append_left, Contains-append_right}
use Rattle.std.proofs.lemmas.List.Sorted.{Contains-permutation, IsNonDecreasingBy-from_sort}
use Rattle.design_eval.specs.Readers.{reader_key, HaveKeys, AreListed, ins_at, AreKeys, AreInOrder, IsFrom, Splits, AreStarts, AreReaders}

pub keys-none : (covers : List Cover) (order keys : List ℕ) → AreKeys covers order 0 keys
keys-none covers order keys k i lk li = absurd (omega arith)

-- the keys of one more cover
pub keys-more : (covers : List Cover) (order : List ℕ) (k : ℕ) (keys keys' ins : List ℕ) → AreKeys covers order k keys → ins ≡ ins_at covers order k → keys' ≡ keys ++ map (reader_key k) ins → AreKeys covers order (k + 1) keys'
keys-more covers order k keys keys' ins h e n j i lj li = by (cases_eq j k)
  where
    by : (j ≡ k) ⊎ (j ≡ k → ⊥) → Contains keys' (reader_key j (number_at (ins_at covers order j) i))
    by (inl same) =
        let s : ℕ = number_at ins i in
        let lt : i < length ins = omega (arith, li, ap (λ (xs : List ℕ). length xs) e, ap (λ (x : ℕ). length (ins_at covers order x)) same) in
        let is : s ≡ number_at (ins_at covers order j) i = ap (λ (xs : List ℕ). number_at xs i) (e ∙ ap (ins_at covers order) (sym same)) in
        subst (λ (x : ℕ). Contains keys' (reader_key j x)) is (subst (λ (x : ℕ). Contains keys' (reader_key x s)) (sym same)
        (subst (λ (xs : List ℕ). Contains xs (reader_key k s)) (sym n)
        (Contains-append_right keys (map (reader_key k) ins) (reader_key k s)
        (i, omega (arith, lt, length-map ins (reader_key k)), get_or-map (reader_key k) ins i 0 (reader_key k s) lt))))
    by (inr other) =
        subst (λ (xs : List ℕ). Contains xs (reader_key j (number_at (ins_at covers order j) i))) (sym n)
        (Contains-append_left keys (map (reader_key k) ins) (reader_key j (number_at (ins_at covers order j) i)) (h j i (omega arith) li))

pub keys-sorted : (covers : List Cover) (order : List ℕ) (count : ℕ) (keys keys' : List ℕ) → AreKeys covers order count keys → IsPermutation keys keys' → AreKeys covers order count keys'
keys-sorted covers order count keys keys' h p k i lk li = Contains-permutation keys keys' (reader_key k (number_at (ins_at covers order k) i)) p (h k i lk li)

-- the key of one more latch
pub latches-more : (first : ℕ) (reads : List ℕ) (k : ℕ) (keys : List ℕ) (key : ℕ) → k < length reads → HaveKeys first (take k reads) keys → key ≡ reader_key (first + k) (number_at reads k) → HaveKeys first (take (k + 1) reads) (keys ++ key ∷ [])
latches-more first reads k keys key lk h e j lj = by (cases_lt j k)
  where
    one : j < k + 1
    one = omega (arith, lj, length-take (k + 1) reads)

    at : number_at (take (k + 1) reads) j ≡ number_at reads j
    at = get_or-take (k + 1) reads j 0 one

    by : (j < k) ⊎ (k ≤ j) → Contains (keys ++ key ∷ []) (reader_key (first + j) (number_at (take (k + 1) reads) j))
    by (inl lt) =
        subst (λ (s : ℕ). Contains (keys ++ key ∷ []) (reader_key (first + j) s)) (get_or-take k reads j 0 lt ∙ sym at)
        (Contains-append_left keys (key ∷ []) (reader_key (first + j) (number_at (take k reads) j)) (h j (omega (arith, lt, length-take-le k reads (omega (arith, lk))))))
    by (inr ge) =
        let same : j ≡ k = omega (arith, ge, one) in
        subst (λ (x : ℕ). Contains (keys ++ key ∷ []) x) (e ∙ ap (λ (x : ℕ). reader_key (first + x) (number_at reads x)) (sym same) ∙ ap (reader_key (first + j)) (sym at))
        (Contains-append_right keys (key ∷ []) key (0, omega arith, refl))

pub latches-sorted : (first : ℕ) (reads keys keys' : List ℕ) → HaveKeys first reads keys → IsPermutation keys keys' → HaveKeys first reads keys'
latches-sorted first reads keys keys' h p k lk = Contains-permutation keys keys' (reader_key (first + k) (number_at reads k)) p (h k lk)

pub in-order : (keys : List ℕ) → IsSorted nat_cmp keys → AreInOrder keys
in-order keys h i j le lj = IsNonDecreasingBy-from_sort (λ (x : ℕ). x) keys h i j 0 le lj

-- the start of one more signal
pub starts-more : (keys starts : List ℕ) (signal p : ℕ) → length starts ≡ signal → ((s : ℕ) → s < signal → Splits keys s (number_at starts s)) → Splits keys signal p → (s : ℕ) → s < signal + 1 → Splits keys s (number_at (starts ++ p ∷ []) s)
starts-more keys starts signal p size each h s ls = by (cases_lt s signal)
  where
    by : (s < signal) ⊎ (signal ≤ s) → Splits keys s (number_at (starts ++ p ∷ []) s)
    by (inl lt) = subst (Splits keys s) (sym (get_or_append_left starts (p ∷ []) 0 s (omega arith))) (each s lt)
    by (inr ge) =
        let e : length starts ≡ s = omega arith in
        let f : signal ≡ s = omega arith in
        subst (λ (x : ℕ). Splits keys s (number_at (starts ++ p ∷ []) x)) e
        (subst (Splits keys s) (sym (get_or-append_seam starts p [] 0)) (subst (λ (x : ℕ). Splits keys x p) f h))

pub from-next : (keys : List ℕ) (signal place : ℕ) → Splits keys signal place → IsFrom keys (signal + 1) place
from-next keys signal place h = record {
  within = h.from.within;
  sooner = λ i li. omega (arith, h.from.sooner i li);
}

key-turn : (s k n : ℕ) → k < 65536 → n ≡ s * 65536 + k → n % 65536 ≡ k
key-turn s k n lk e = omega (arith, lk, e)

module _ (covers : List Cover) (order keys starts : List ℕ) (signals : ℕ) (are : AreKeys covers order (length order) keys) (sorted : AreInOrder keys) (begin : AreStarts keys (signals + 1) starts) where
  -- between two starts stand all keys of a signal
  begins-before : (s k q : ℕ) → s ≤ signals → q < length keys → number_at keys q ≡ reader_key k s → number_at starts s ≤ q
  begins-before s k q ls lq e = by (cases_lt q (number_at starts s))
    where
      by : (q < number_at starts s) ⊎ (number_at starts s ≤ q) → number_at starts s ≤ q
      by (inl lt) = absurd (omega (arith, (begin.each s (omega arith)).from.sooner q lt, e))
      by (inr ge) = ge

  ends-behind : (s k q : ℕ) → s < signals → k < 65536 → q < length keys → number_at keys q ≡ reader_key k s → q < number_at starts (s + 1)
  ends-behind s k q ls lk lq e = by (cases_lt q (number_at starts (s + 1)))
    where
      by : (q < number_at starts (s + 1)) ⊎ (number_at starts (s + 1) ≤ q) → q < number_at starts (s + 1)
      by (inl lt) = lt
      by (inr ge) =
          absurd (omega (arith, (begin.each (s + 1) (omega arith)).later (omega (arith, ge, lq)), sorted (number_at starts (s + 1)) q ge lq, e, lk))

  pub readers-are : length order ≤ 65535 → ((k i : ℕ) → k < length order → i < length (ins_at covers order k) → number_at (ins_at covers order k) i < signals) → (r : Readers) → r.keys.items ≡ keys → r.starts.items ≡ starts → AreReaders covers order signals r
  readers-are few below r ek es = record {
    len = ap (λ (xs : List ℕ). length xs) es ∙ begin.len;
    ends = λ s ls. rw (ek, es) ((begin.each s (omega arith)).from.within);
    listed = λ k i lk li. (
        let s : ℕ = number_at (ins_at covers order k) i in
        let c = are k i lk li in
        let at : number_at keys c.0 ≡ reader_key k s = sym (get_or_default_zero keys c.0 (reader_key k s) c.1) ∙ c.2 in
        record {
          place = c.0;
          from = rw es (begins-before s k c.0 (omega (arith, below k i lk li)) c.1 at);
          to = rw es (ends-behind s k c.0 (below k i lk li) (omega arith) c.1 at);
          is = rw ek (key-turn s k (number_at keys c.0) (omega arith) at);
        });
  }

  pub latches-are : (first : ℕ) (reads : List ℕ) → HaveKeys first reads keys → first + length reads ≤ 65535 → ((k : ℕ) → k < length reads → number_at reads k < signals) → (r : Readers) → r.keys.items ≡ keys → r.starts.items ≡ starts → AreListed r first reads
  latches-are first reads have few below r ek es k lk =
      let s : ℕ = number_at reads k in
      let c = have k lk in
      let at : number_at keys c.0 ≡ reader_key (first + k) s = sym (get_or_default_zero keys c.0 (reader_key (first + k) s) c.1) ∙ c.2 in
      record {
        place = c.0;
        from = rw es (begins-before s (first + k) c.0 (omega (arith, below k lk)) c.1 at);
        to = rw es (ends-behind s (first + k) c.0 (below k lk) (omega (arith, lk, few)) c.1 at);
        is = rw ek (key-turn s (first + k) (number_at keys c.0) (omega (arith, lk, few)) at);
      }
