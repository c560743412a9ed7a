-- Covers of at most four inputs as tables.
use Rattle.std.proofs.Common.{◌≡◌, ◌⊎◌, ℕ, zero, suc, ◌+◌, ◌-◌, ◌/◌, ◌%◌, ◌==◌, ◌<◌, ◌≤◌, Bool, false, List, [], ◌∷◌, length, take, get_or, map, refl, sym, ap, subst, ◌∙◌, inl, inr, arith, get_or-set_same, get_or-set_other, slice_set}
use Rattle.design_eval.proofs.Vocabulary.{cases_eq, take-map, get_or-take, length-take-le, Cover, truth_at, address, six_bits, AreCells}
use Rattle.design_eval.proofs.Vocabulary.{AreWires, Readers, Turn, turn_at, AreTurns, HasGiven, quick_at, IsSmall, AreQuick}
use Rattle.design_eval.specs.declared.smalls.Quick.{Quick}
use Rattle.design_eval.proofs.TableLemmas.{address-half, address-low, address-sixteen, wires-below}

four-of : (given : ℕ → Bool) (a b c d : ℕ) → six_bits (address given (a ∷ b ∷ c ∷ d ∷ [])) ≡ given a ∷ given b ∷ given c ∷ given d ∷ (address given [] % 2 == 1) ∷ (address given [] / 2 % 2 == 1) ∷ []
four-of given a b c d =
    rw (address-half given a (b ∷ c ∷ d ∷ []), address-half given b (c ∷ d ∷ []), address-half given c (d ∷ []), address-half given d [], address-low given a (b ∷ c ∷ d ∷ []), address-low given b (c ∷ d ∷ []), address-low given c (d ∷ []), address-low given d []) refl

first-of : (a b c d e f : Bool) (n : ℕ) → n ≤ 4 → take n (a ∷ b ∷ c ∷ d ∷ e ∷ f ∷ []) ≡ take n (a ∷ b ∷ c ∷ d ∷ [])
first-of a b c d e f zero h = refl
first-of a b c d e f (suc zero) h = refl
first-of a b c d e f (suc (suc zero)) h = refl
first-of a b c d e f (suc (suc (suc zero))) h = refl
first-of a b c d e f (suc (suc (suc (suc zero)))) h = refl
first-of a b c d e f (suc (suc (suc (suc (suc n))))) h = absurd (omega arith)

-- an address of four signals has their bits
four-bits : (given : ℕ → Bool) (wires : List ℕ) (n : ℕ) → length wires ≡ 4 → n ≤ 4 → take n (six_bits (address given wires)) ≡ take n (map given wires)
four-bits given [] n size h = absurd (omega arith)
four-bits given (a ∷ []) n size h = absurd (omega arith)
four-bits given (a ∷ b ∷ []) n size h = absurd (omega arith)
four-bits given (a ∷ b ∷ c ∷ []) n size h = absurd (omega arith)
four-bits given (a ∷ b ∷ c ∷ d ∷ []) n size h = ap (take n) (four-of given a b c d) ∙ first-of (given a) (given b) (given c) (given d) _ _ n h
four-bits given (a ∷ b ∷ c ∷ d ∷ e ∷ es) n size h = absurd (omega arith)

take-fewer : (ws : List ℕ) (n m : ℕ) → n ≤ m → take n (take m ws) ≡ take n ws
take-fewer ws zero m h = refl
take-fewer [] (suc n) zero h = absurd (omega arith)
take-fewer (w ∷ ws) (suc n) zero h = absurd (omega arith)
take-fewer [] (suc n) (suc m) h = refl
take-fewer (w ∷ ws) (suc n) (suc m) h = ap (λ (xs : List ℕ). w ∷ xs) (take-fewer ws n m (omega arith))

pub is-small : (c : Cover) (wires first : List ℕ) (cells some : List Bool) → length c.ins ≤ 4 → AreWires c wires → AreCells c cells → first ≡ take 4 wires → length some ≡ 16 → ((n : ℕ) → n < 16 → get_or some n false ≡ get_or cells n false) → IsSmall (record { wires = first; cells = some }) c
is-small c wires first cells some few w h e size same = record {
  wires = four;
  size = size;
  below = λ n made k lk. omega (arith, wires-below c wires n w made k (omega (arith, lk, four, w.len)), ap (λ (xs : List ℕ). get_or xs k 0) e, get_or-take 4 wires k 0 (omega (arith, lk, four)));
  cells = λ given.
      (let lt : address given first < 16 = address-sixteen given first four in
      same (address given first) lt ∙ h.each (address given first) (omega (arith, lt)) ∙
      ap (truth_at c) (four-bits given first (length c.ins) four few ∙ take-map given (length c.ins) first ∙ ap (map given) (ap (take (length c.ins)) e ∙ take-fewer wires (length c.ins) 4 few ∙ w.ins)));
}
  where
    four : length first ≡ 4
    four = ap (λ (xs : List ℕ). length xs) e ∙ length-take-le 4 wires (omega (arith, w.len))

pub first-wires : (ws : List ℕ) → length ws ≡ 6 → (get_or ws 0 0 ∷ get_or ws 1 0 ∷ get_or ws 2 0 ∷ get_or ws 3 0 ∷ []) ≡ take 4 ws
first-wires [] size = absurd (omega arith)
first-wires (a ∷ []) size = absurd (omega arith)
first-wires (a ∷ b ∷ []) size = absurd (omega arith)
first-wires (a ∷ b ∷ c ∷ []) size = absurd (omega arith)
first-wires (a ∷ b ∷ c ∷ d ∷ ws) size = refl

pub cells-copied : (some cells : List Bool) (a : ℕ) → length some ≡ 16 → a < 16 → ((j : ℕ) → j < a → get_or some j false ≡ get_or cells j false) → (j : ℕ) → j < a + 1 → get_or (slice_set some a (get_or cells a false)) j false ≡ get_or cells j false
cells-copied some cells a size lt h j lj = by (cases_eq j a)
  where
    by : (j ≡ a) ⊎ (j ≡ a → ⊥) → get_or (slice_set some a (get_or cells a false)) j false ≡ get_or cells j false
    by (inl same) = subst (λ (i : ℕ). get_or (slice_set some a (get_or cells a false)) i false ≡ get_or cells i false) (sym same) (get_or-set_same some a (get_or cells a false) false (omega arith))
    by (inr other) = get_or-set_other some a j (get_or cells a false) false other ∙ h j (omega arith)

pub quick-out : (covers : List Cover) (turns : List Turn) (quicks : List Quick) → AreTurns covers turns → AreQuick covers turns quicks → (k : ℕ) → k < length turns → (quick_at quicks k).out ≡ (turn_at turns k).out
quick-out covers turns quicks are quick k lk = (quick.each k lk).out ∙ sym (are.each k lk).out

pub given-out : (r : Readers) (bit : Bool) (marks values marks' values' : List Bool) (s t : ℕ) → s ≡ t → HasGiven r s bit marks values marks' values' → HasGiven r t bit marks values marks' values'
given-out r bit marks values marks' values' s t e g = subst (λ (x : ℕ). HasGiven r x bit marks values marks' values') e g

pub quick-covers : (covers covers' : List Cover) (turns turns' : List Turn) (quicks quicks' : List Quick) → covers ≡ covers' → turns ≡ turns' → quicks ≡ quicks' → AreQuick covers turns quicks → AreQuick covers' turns' quicks'
quick-covers covers covers' turns turns' quicks quicks' e f g h = subst (λ (qs : List Quick). AreQuick covers' turns' qs) g (subst (λ (ts : List Turn). AreQuick covers' ts quicks) f (subst (λ (cs : List Cover). AreQuick cs turns quicks) e h))
