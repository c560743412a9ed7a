-- Covers that are marked where an input changes.
use Rattle.std.proofs.Common.{◌≡◌, ◌⊎◌, ℕ, ◌+◌, ◌<◌, ◌≤◌, Bool, true, false, List, [], length, take, refl, sym, ap, subst, ◌∙◌, inl, inr, arith, get_or-set_same, get_or-set_other, slice_set, replicate}
use Rattle.design_eval.proofs.Vocabulary.{cases_eq, cases_lt, Cover, cover_at, truth, number_at, bit_at, IsOrder, IsSettled, same_truth}
use Rattle.design_eval.proofs.Vocabulary.{Readers, IsListed, AreReaders, ins_at, Turn, turn_at, places, AreTurns}
use Rattle.std.proofs.lemmas.List.{set-get_or, get_or-take, length-take, length-take-le, take_all, get_or-replicate}
use Rattle.design_eval.proofs.TurnLemmas.{turns-size, out-is, truth-is, place-within}
use Rattle.design_eval.specs.Marks.{HoldsAt, AreKept, AreOthersSame, HaveMarked, HasGiven, StillKept, StillTaken}

-- one more mark
pub mark-kept : (marks : List Bool) (q : ℕ) → q < length marks → (k : ℕ) → bit_at (slice_set marks q true) k ≡ false → bit_at marks k ≡ false
mark-kept marks q lq k e = by (cases_eq k q)
  where
    by : (k ≡ q) ⊎ (k ≡ q → ⊥) → bit_at marks k ≡ false
    by (inl same) = absurd (let t : bit_at (slice_set marks q true) k ≡ true = subst (λ (x : ℕ). bit_at (slice_set marks q true) x ≡ true) (sym same) (get_or-set_same marks q true false lq) in let no : true ≡ false = sym t ∙ e in cc)
    by (inr other) = sym (get_or-set_other marks q k true false other) ∙ e

pub mark-stays : (marks : List Bool) (q : ℕ) → q < length marks → (k : ℕ) → bit_at marks k ≡ true → bit_at (slice_set marks q true) k ≡ true
mark-stays marks q lq k e = by (cases_eq k q)
  where
    by : (k ≡ q) ⊎ (k ≡ q → ⊥) → bit_at (slice_set marks q true) k ≡ true
    by (inl same) = subst (λ (x : ℕ). bit_at (slice_set marks q true) x ≡ true) (sym same) (get_or-set_same marks q true false lq)
    by (inr other) = get_or-set_other marks q k true false other ∙ e

-- a mark that is taken away
pub clear-kept : (marks : List Bool) (q k : ℕ) → (k ≡ q → ⊥) → bit_at (slice_set marks q false) k ≡ false → bit_at marks k ≡ false
clear-kept marks q k other e = sym (get_or-set_other marks q k false false other) ∙ e

pub given-same : (r : Readers) (signal : ℕ) (bit : Bool) (marks values : List Bool) → bit_at values signal ≡ bit → HasGiven r signal bit marks values marks values
given-same r signal bit marks values e = record {
  len = refl;
  is = sym (ap (slice_set values signal) (sym e) ∙ set-get_or values signal false);
  kept = λ k f. f;
  listed = λ k l f. e;
}

pub given-marked : (r : Readers) (signal : ℕ) (bit : Bool) (marks values marks' values' : List Bool) → values' ≡ slice_set values signal bit → HaveMarked r signal marks marks' → HasGiven r signal bit marks values marks' values'
given-marked r signal bit marks values marks' values' e h = record {
  len = h.len;
  is = e;
  kept = h.kept;
  listed = λ k l f. absurd (let no : true ≡ false = sym (h.listed k l) ∙ f in cc);
}

module _ (covers : List Cover) (order : List ℕ) (count : ℕ) (r : Readers) (are : AreReaders covers order count r) where
  -- the truth of a cover that isn't marked stays
  truth-stays : (signal : ℕ) (bit : Bool) (marks values marks' values' : List Bool) → HasGiven r signal bit marks values marks' values' → signal < length values → (k : ℕ) → k < length order → bit_at marks' k ≡ false → truth (bit_at (slice_set values signal bit)) (cover_at covers (number_at order k)) ≡ truth (bit_at values) (cover_at covers (number_at order k))
  truth-stays signal bit marks values marks' values' g ls k lk f =
      same_truth (bit_at (slice_set values signal bit)) (bit_at values) (cover_at covers (number_at order k)) (λ i li. by i li (cases_eq (number_at (ins_at covers order k) i) signal))
    where
      by : (i : ℕ) → i < length (ins_at covers order k) → (number_at (ins_at covers order k) i ≡ signal) ⊎ (number_at (ins_at covers order k) i ≡ signal → ⊥) → bit_at (slice_set values signal bit) (number_at (ins_at covers order k) i) ≡ bit_at values (number_at (ins_at covers order k) i)
      by i li (inl same) =
          subst (λ (x : ℕ). bit_at (slice_set values signal bit) x ≡ bit_at values x) (sym same)
          (get_or-set_same values signal bit false ls ∙ sym (g.listed k (subst (λ (x : ℕ). IsListed r x k) same (are.listed k i lk li)) f))
      by i li (inr other) = get_or-set_other values signal (number_at (ins_at covers order k) i) bit false other

  -- a cover that holds and isn't marked still holds, where the signal isn't its output
  holds-still : (signal : ℕ) (bit : Bool) (marks values marks' values' : List Bool) → HasGiven r signal bit marks values marks' values' → signal < length values → (k : ℕ) → k < length order → (signal ≡ (cover_at covers (number_at order k)).out → ⊥) → bit_at marks' k ≡ false → HoldsAt covers order (bit_at values) k → HoldsAt covers order (bit_at values') k
  holds-still signal bit marks values marks' values' g ls k lk free f h =
      subst (λ (vs : List Bool). HoldsAt covers order (bit_at vs) k) (sym g.is)
      (get_or-set_other values signal (cover_at covers (number_at order k)).out bit false (λ e. free (sym e)) ∙ h ∙
      sym (truth-stays signal bit marks values marks' values' g ls k lk f))

  pub keeps-give : (m signal : ℕ) (bit : Bool) (marks values marks' values' : List Bool) → HasGiven r signal bit marks values marks' values' → signal < length values → ((k : ℕ) → m ≤ k → k < length order → signal ≡ (cover_at covers (number_at order k)).out → ⊥) → AreKept covers order m marks values → AreKept covers order m marks' values'
  keeps-give m signal bit marks values marks' values' g ls free h k mk lk f =
      holds-still signal bit marks values marks' values' g ls k lk (free k mk lk) f (h k mk lk (g.kept k f))

  -- the mark of a turn is taken away, and its output has its truth
  pub keeps-turn : (m : ℕ) (bit : Bool) (marks values marks' values' : List Bool) → IsOrder covers order → m < length order → (cover_at covers (number_at order m)).out < length values → bit ≡ truth (bit_at values) (cover_at covers (number_at order m)) → HasGiven r (cover_at covers (number_at order m)).out bit (slice_set marks m false) values marks' values' → AreKept covers order 0 marks values → AreKept covers order 0 marks' values'
  keeps-turn m bit marks values marks' values' is lm lo e g h k mk lk f = by (cases_eq k m)
    where
      out : ℕ
      out = (cover_at covers (number_at order m)).out

      apart : (k < m) ⊎ (m ≤ k) → (k ≡ m → ⊥) → out ≡ (cover_at covers (number_at order k)).out → ⊥
      apart (inl lt) other same = is.once k m lt lm (sym same)
      apart (inr ge) other same = is.once m k (elim (cases_lt m k) [ inl l ↦ l | inr l ↦ absurd (other (omega arith)) ]) lk same

      by : (k ≡ m) ⊎ (k ≡ m → ⊥) → HoldsAt covers order (bit_at values') k
      by (inl same) =
          subst (λ (x : ℕ). HoldsAt covers order (bit_at values') x) (sym same)
          (subst (λ (vs : List Bool). HoldsAt covers order (bit_at vs) m) (sym g.is)
          (get_or-set_same values out bit false lo ∙ e ∙
          sym (truth-stays out bit (slice_set marks m false) values marks' values' g lo m lm (subst (λ (x : ℕ). bit_at marks' x ≡ false) same f))))
      by (inr other) = holds-still out bit (slice_set marks m false) values marks' values' g lo k lk (apart (cases_lt k m) other) f (h k mk lk (clear-kept marks m k other (g.kept k f)))

-- a signal that is given a bit has it already, or its readers are marked
pub given-taken : (r : Readers) (signal : ℕ) (bit : Bool) (marks values marks' values' : List Bool) → HasGiven r signal bit marks values marks' values' → signal < length values → StillTaken 0 r marks values marks' values'
given-taken r signal bit marks values marks' values' g ls first signals bits lo hi listed h k lk f =
    ap (λ (vs : List Bool). bit_at vs (number_at signals k)) g.is ∙ by (cases_eq (number_at signals k) signal) ∙ h k lk (g.kept (first + k) f)
  where
    by : (number_at signals k ≡ signal) ⊎ (number_at signals k ≡ signal → ⊥) → bit_at (slice_set values signal bit) (number_at signals k) ≡ bit_at values (number_at signals k)
    by (inl same) =
        subst (λ (x : ℕ). bit_at (slice_set values signal bit) x ≡ bit_at values x) (sym same)
        (get_or-set_same values signal bit false ls ∙ sym (g.listed (first + k) (subst (λ (x : ℕ). IsListed r x (first + k)) same (listed k lk)) f))
    by (inr other) = get_or-set_other values signal (number_at signals k) bit false other

pub taken-none : (least : ℕ) (r : Readers) (marks values : List Bool) → StillTaken least r marks values marks values
taken-none least r marks values first signals bits lo hi listed h = h

pub taken-both : (least : ℕ) (r : Readers) (marks0 values0 marks values marks' values' : List Bool) → StillTaken least r marks0 values0 marks values → StillTaken least r marks values marks' values' → StillTaken least r marks0 values0 marks' values'
taken-both least r marks0 values0 marks values marks' values' a b first signals bits lo hi listed h = b first signals bits lo hi listed (a first signals bits lo hi listed h)

-- where all turns are marked nothing is said
pub taken-any : (least : ℕ) (r : Readers) (marks0 values0 marks values : List Bool) → ((k : ℕ) → k < 65536 → bit_at marks k ≡ true) → StillTaken least r marks0 values0 marks values
taken-any least r marks0 values0 marks values all first signals bits lo hi listed h k lk f =
    absurd (let t : bit_at marks (first + k) ≡ true = all (first + k) (omega (arith, hi, lk)) in let no : true ≡ false = sym t ∙ f in cc)

pub still-none : (r : Readers) (marks values : List Bool) → StillKept r [] marks values marks values
still-none r marks values covers order count are free h = h

pub still-more : (r : Readers) (signals : List ℕ) (k : ℕ) (bit : Bool) (marks0 values0 marks values marks' values' : List Bool) → k < length signals → HasGiven r (number_at signals k) bit marks values marks' values' → number_at signals k < length values → StillKept r (take k signals) marks0 values0 marks values → StillKept r (take (k + 1) signals) marks0 values0 marks' values'
still-more r signals k bit marks0 values0 marks values marks' values' lk g ls h covers order count are free kept =
    keeps-give covers order count r are 0 (number_at signals k) bit marks values marks' values' g ls
    (λ j mj lj e. free j k lj (omega (arith, size)) (get_or-take (k + 1) signals k 0 (omega arith) ∙ e))
    (h covers order count are (λ j i lj li e. (let lt : i < k = omega (arith, li, length-take k signals) in
    free j i lj (omega (arith, size, lt)) (get_or-take (k + 1) signals i 0 (omega arith) ∙ sym (get_or-take k signals i 0 lt) ∙ e))) kept)
  where
    size : length (take (k + 1) signals) ≡ k + 1
    size = length-take-le (k + 1) signals (omega arith)

pub still-all : (r : Readers) (signals : List ℕ) (k : ℕ) (marks values marks' values' : List Bool) → length signals ≤ k → StillKept r (take k signals) marks values marks' values' → StillKept r signals marks values marks' values'
still-all r signals k marks values marks' values' all h = subst (λ (xs : List ℕ). StillKept r xs marks values marks' values') (take_all k signals all) h

-- where no cover is marked, all have their truths
pub settled-of : (covers : List Cover) (order : List ℕ) (marks old new : List Bool) → IsOrder covers order → AreKept covers order 0 marks new → ((k : ℕ) → k < length order → bit_at marks k ≡ false) → AreOthersSame covers old new → IsSettled covers (bit_at old) (bit_at new)
settled-of covers order marks old new is kept none same = record {
  truths =
      λ i li. (let found = is.all i li in
      subst (λ (x : ℕ). bit_at new (cover_at covers x).out ≡ truth (bit_at new) (cover_at covers x)) found.2 (kept found.0 (omega arith) found.1 (none found.0 found.1)));
  others = same;
}

-- covers that are settled over bits of which only what covers drive has changed
pub settled-over : (covers : List Cover) (old mid new : List Bool) → AreOthersSame covers old mid → IsSettled covers (bit_at mid) (bit_at new) → IsSettled covers (bit_at old) (bit_at new)
settled-over covers old mid new same is = record { truths = is.truths; others = λ s none. is.others s none ∙ same s none }

pub others-none : (covers : List Cover) (values : List Bool) → AreOthersSame covers values values
others-none covers values s none = refl

pub others-more : (covers : List Cover) (old mid new : List Bool) → AreOthersSame covers old mid → AreOthersSame covers mid new → AreOthersSame covers old new
others-more covers old mid new a b s none = b s none ∙ a s none

-- where all covers have their truths, those that aren't marked have
pub settled-kept : (covers : List Cover) (order : List ℕ) (marks values : List Bool) → IsOrder covers order → ((i : ℕ) → i < length covers → bit_at values (cover_at covers i).out ≡ truth (bit_at values) (cover_at covers i)) → AreKept covers order 0 marks values
settled-kept covers order marks values is h k mk lk f = h (number_at order k) (is.within k lk)

module _ (covers : List Cover) (turns : List Turn) (are : AreTurns covers turns) where
  pub marked-keeps : (r : Readers) (signals k : ℕ) (bit : Bool) (marks values marks' values' : List Bool) → AreReaders covers (places turns) signals r → k < length turns → (turn_at turns k).out < length values → bit ≡ truth (bit_at values) (cover_at covers (turn_at turns k).place) → HasGiven r (turn_at turns k).out bit (slice_set marks k false) values marks' values' → AreKept covers (places turns) 0 marks values → AreKept covers (places turns) 0 marks' values'
  marked-keeps r signals k bit marks values marks' values' readers lk lo t g h =
      let e = out-is covers turns are k lk in
      keeps-turn covers (places turns) signals r readers k bit marks values marks' values' are.order (omega (arith, turns-size turns)) (subst (λ (x : ℕ). x < length values) e lo)
      (t ∙ truth-is covers turns are (bit_at values) k lk)
      (subst (λ (x : ℕ). HasGiven r x bit (slice_set marks k false) values marks' values') e g) h

  pub marked-taken : (r : Readers) (k : ℕ) (bit : Bool) (marks values marks' values' : List Bool) → k < length turns → (turn_at turns k).out < length values → HasGiven r (turn_at turns k).out bit (slice_set marks k false) values marks' values' → StillTaken (length turns) r marks values marks' values'
  marked-taken r k bit marks values marks' values' lk lo g first signals bits least hi listed h =
      given-taken r (turn_at turns k).out bit (slice_set marks k false) values marks' values' g lo first signals bits (omega arith) hi listed
      (λ j lj f. h j lj (clear-kept marks k (first + j) (λ e. absurd (omega (arith, e, least, lk))) f))

  pub marked-others : (r : Readers) (k : ℕ) (bit : Bool) (marks values marks' values' : List Bool) → k < length turns → HasGiven r (turn_at turns k).out bit marks values marks' values' → AreOthersSame covers values values'
  marked-others r k bit marks values marks' values' lk g s none =
      ap (λ (vs : List Bool). bit_at vs s) g.is ∙
      get_or-set_other values (turn_at turns k).out s bit false (λ e. none (turn_at turns k).place (place-within covers turns are k lk) (sym (are.each k lk).out ∙ sym e))

-- at first all are marked
pub fresh-kept : (covers : List Cover) (order : List ℕ) (marks values : List Bool) (n : ℕ) → length order < n → marks ≡ replicate n true → AreKept covers order 0 marks values
fresh-kept covers order marks values n few e k mk lk f =
    absurd (let t : bit_at marks k ≡ true = ap (λ (xs : List Bool). bit_at xs k) e ∙ get_or-replicate n k true false (omega arith) in let no : true ≡ false = sym t ∙ f in cc)
