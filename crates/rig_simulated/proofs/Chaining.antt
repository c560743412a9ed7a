-- The pins of a class are found one after the other.
use Rattle.std.proofs.Common.{◌≡◌, ◌≢◌, ◌⊎◌, inl, inr, ⊎_elim, ℕ, ◌+◌, ◌-◌, ◌<◌, ◌≤◌, Bool, true, List, length, get_or, set, sym, ap, ◌∙◌, subst, arith, slice_index}
use Rattle.rig_simulated.proofs.Vocabulary.{cases_eq, cases_lt, IsLast, AreChained, AreWithin}
use Rattle.std.proofs.lemmas.List.{get_or-set_same, get_or-set_other, get_or_past}

-- what was found so far: the pins from a place on, and the one before them
pub record IsOnWay (pins : List ℕ) (class at : ℕ) (Done : ℕ → Type 0) : Type 0 where
  pub within : at ≤ length pins
  pub top : ℕ
  pub done : (k : ℕ) → k < length pins → slice_index pins k ≡ class → top ≤ k → Done k
  pub next : (k : ℕ) → k < length pins → slice_index pins k ≡ class → IsLast pins top class at

module _ (pins last before : List ℕ) (chained : AreChained pins last before) (class : ℕ) where
  pub way_begins : (Done : ℕ → Type 0) → AreWithin last (length pins) → IsOnWay pins class (slice_index last class) Done
  way_begins Done few = record {
    within = few class;
    top = length pins;
    done = λ k h e t. absurd (omega (arith, h, t));
    next = λ k h e. subst (λ r. IsLast pins (length pins) r (slice_index last r)) e (chained.last_is k h);
  }

  module _ (at : ℕ) (Done More : ℕ → Type 0) (way : IsOnWay pins class at Done) (some : 0 < at) where
    pub way_on : slice_index pins (at - 1) ≡ class → ((k : ℕ) → Done k → More k) → More (at - 1) → IsOnWay pins class (slice_index before (at - 1)) More
    way_on is more here_ = record {
      within = (let l = (chained.before_is (at - 1) inside).within in let w = way.within in omega (arith, l, w));
      top = at - 1;
      done = λ k h e t. by k h e t (cases_eq k (at - 1)) (cases_lt k way.top);
      next = λ k h e. subst (λ r. IsLast pins (at - 1) r (slice_index before (at - 1))) is (chained.before_is (at - 1) inside);
    }
      where
        inside : at - 1 < length pins
        inside = let w = way.within in omega (arith, w, some)

        by : (k : ℕ) → k < length pins → slice_index pins k ≡ class → at - 1 ≤ k → (k ≡ at - 1) ⊎ (k ≢ at - 1) → (k < way.top) ⊎ (way.top ≤ k) → More k
        by k h e t (inl same) o = subst More (sym same) here_
        by k h e t (inr other) (inl below) = absurd (let b = (way.next k h e).behind k below e in omega (arith, b, t, other, some))
        by k h e t (inr other) (inr above) = more k (way.done k h e above)

    -- one that isn't of the class ends a way that has no pin of it
    pub way_stops : slice_index pins (at - 1) ≢ class → (k : ℕ) → k < length pins → slice_index pins k ≡ class → Done k
    way_stops n k h e = absurd (n ((way.next k h e).here some))

  pub way_ends : (at : ℕ) (Done : ℕ → Type 0) → IsOnWay pins class at Done → at ≤ 0 → (k : ℕ) → k < length pins → slice_index pins k ≡ class → Done k
  way_ends at Done way none k h e = ⊎_elim
      (λ below. absurd (let b = (way.next k h e).behind k below e in omega (arith, b, none)))
      (λ above. way.done k h e above)
      (cases_lt k way.top)

-- what stands at a place that was written, and at others
pub written : (xs : List ℕ) (i : ℕ) (x : ℕ) → i < length xs → slice_index (set xs i x) i ≡ x
written xs i x h = get_or-set_same xs i x 0 h

pub unwritten : (xs : List ℕ) (i k : ℕ) (x : ℕ) → k ≢ i → slice_index (set xs i x) k ≡ slice_index xs k
unwritten xs i k x n = get_or-set_other xs i k x 0 n

pub set_within : (last : List ℕ) (class x n : ℕ) → AreWithin last n → x ≤ n → class < length last → AreWithin (set last class x) n
set_within last class x n are le h r = ⊎_elim
    (λ e. let is : slice_index (set last class x) r ≡ x = ap (slice_index (set last class x)) e ∙ written last class x h in omega (arith, is, le))
    (λ m. let is = unwritten last class r x m in let a = are r in omega (arith, is, a))
    (cases_eq r class)

-- none is known of the classes of the first pins
abbrev pub AreForgotten : List ℕ → List ℕ → ℕ → Type 0
AreForgotten last pins n = (k : ℕ) → k < n → slice_index last (slice_index pins k) ≡ 0

pub forgotten_more : (last pins : List ℕ) (n : ℕ) → AreForgotten last pins n → slice_index pins n < length last → AreForgotten (set last (slice_index pins n) 0) pins (n + 1)
forgotten_more last pins n are h k l = ⊎_elim
    (λ e. ap (slice_index (set last (slice_index pins n) 0)) e ∙ written last (slice_index pins n) 0 h)
    (λ m. unwritten last (slice_index pins n) (slice_index pins k) 0 m ∙ are k (⊎_elim (λ b. b) (λ b. absurd (m (ap (slice_index pins) (let e : k ≡ n = omega (arith, l, b) in e)))) (cases_lt k n)))
    (cases_eq (slice_index pins k) (slice_index pins n))

-- the first n pins are linked
pub record AreLinked (pins last before : List ℕ) (n : ℕ) : Type 0 where
  pub last_is : (k : ℕ) → k < length pins → IsLast pins n (slice_index pins k) (slice_index last (slice_index pins k))
  pub before_is : (k : ℕ) → k < n → IsLast pins k (slice_index pins k) (slice_index before k)

pub none_linked : (pins last before : List ℕ) → AreForgotten last pins (length pins) → AreLinked pins last before 0
none_linked pins last before none = record {
  last_is = λ k h. let e = none k h in record { within = omega (arith, e); here = λ p. absurd (omega (arith, p, e)); behind = λ j l q. absurd (omega (arith, l)) };
  before_is = λ k h. absurd (omega (arith, h));
}

pub linked_more : (pins last before : List ℕ) (n class x next : ℕ) → AreLinked pins last before n → n < length pins → class ≡ slice_index pins n → class < length last → n < length before → x ≡ slice_index last class → next ≡ n + 1 →
    AreLinked pins (set last class next) (set before n x) (n + 1)
linked_more pins last before n class x next are h is class_in n_in old new = record { last_is = λ k l. by_class k l (cases_eq (slice_index pins k) class); before_is = λ k l. by_place k (cases_eq k n) l }
  where
    by_class : (k : ℕ) → k < length pins → (slice_index pins k ≡ class) ⊎ (slice_index pins k ≢ class) → IsLast pins (n + 1) (slice_index pins k) (slice_index (set last class next) (slice_index pins k))
    by_class k l (inl e) =
        let at : slice_index (set last class next) (slice_index pins k) ≡ n + 1 = ap (slice_index (set last class next)) e ∙ written last class next class_in ∙ new in
        record {
          within = omega (arith, at);
          here = λ p. ap (slice_index pins) (let q : slice_index (set last class next) (slice_index pins k) - 1 ≡ n = omega (arith, at) in q) ∙ sym is ∙ sym e;
          behind = λ j b q. omega (arith, at, b);
        }
    by_class k l (inr m) =
        let at : slice_index (set last class next) (slice_index pins k) ≡ slice_index last (slice_index pins k) = unwritten last class (slice_index pins k) next m in
        let was = are.last_is k l in
        subst (IsLast pins (n + 1) (slice_index pins k)) (sym at)
        (record {
          within = (let w = was.within in omega (arith, w));
          here = was.here;
          behind = λ j b q. was.behind j (⊎_elim (λ o. o) (λ o. absurd (m (sym q ∙ ap (slice_index pins) (let s : j ≡ n = omega (arith, b, o) in s) ∙ sym is))) (cases_lt j n)) q;
        })

    by_place : (k : ℕ) → (k ≡ n) ⊎ (k ≢ n) → k < n + 1 → IsLast pins k (slice_index pins k) (slice_index (set before n x) k)
    by_place k (inl e) l =
        let at : slice_index (set before n x) k ≡ slice_index last (slice_index pins n) = ap (slice_index (set before n x)) e ∙ written before n x n_in ∙ old ∙ ap (slice_index last) is in
        subst (IsLast pins k (slice_index pins k)) (sym at)
        (subst (λ j. IsLast pins j (slice_index pins j) (slice_index last (slice_index pins n))) (sym e) (are.last_is n h))
    by_place k (inr m) l = subst (IsLast pins k (slice_index pins k)) (sym (unwritten before n k x m)) (are.before_is k (omega (arith, l, m)))

pub all_linked : (pins last before : List ℕ) (n : ℕ) → AreLinked pins last before n → length pins ≤ n → n ≤ length pins → AreChained pins last before
all_linked pins last before n are h l = record {
  last_is = λ k b. subst (λ m. IsLast pins m (slice_index pins k) (slice_index last (slice_index pins k))) (let e : n ≡ length pins = omega (arith, h, l) in e) (are.last_is k b);
  before_is = λ k b. are.before_is k (omega (arith, b, h));
}

-- a level that is put
pub put_here : (read : List Bool) (i : ℕ) (b : Bool) → i < length read → get_or (set read i b) i true ≡ b
put_here read i b h = get_or-set_same read i b true h

pub put_keeps : (read : List Bool) (i : ℕ) (b : Bool) → i < length read → (k : ℕ) → get_or read k true ≡ b → get_or (set read i b) k true ≡ b
put_keeps read i b h k e = ⊎_elim (λ q. ap (λ j. get_or (set read i b) j true) q ∙ put_here read i b h) (λ n. get_or-set_other read i k b true n ∙ e) (cases_eq k i)
