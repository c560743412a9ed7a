-- Tables in all lanes at once.
use Rattle.std.proofs.Common.{◌≡◌, ℕ, zero, suc, ◌+◌, ◌-◌, ◌*◌, ◌<◌, ◌≤◌, ◌&&◌, ◌||◌, Bool, true, false, List, [], ◌∷◌, length, take, drop, get_or, refl, sym, ap, subst, ◌∙◌, arith, not, if◌then◌else◌}
use Rattle.std.proofs.Math.Dec.{eqb}
use Rattle.design_eval.proofs.Vocabulary.{eqb-true, eq-eqb, drop_more, get_or_default_zero, Cover, cover_at, truth, number_at, same_truth}
use Rattle.design_eval.proofs.Vocabulary.{Turn, addresses, address, IsTable, turn_at, places, AreTurns}
use Rattle.design_eval.specs.declared.tables.Table.{Table}
use Rattle.design_eval.proofs.TableLemmas.{address-nil, address-more}
use Rattle.design_eval.proofs.TurnLemmas.{turns-size, turn-place}

pub sizes-are : (n d : ℕ) → n ≤ 6 → get_or (1 ∷ 2 ∷ 4 ∷ 8 ∷ 16 ∷ 32 ∷ 64 ∷ []) n d ≡ addresses n
unfolding addresses
sizes-are zero d h = refl
sizes-are (suc zero) d h = refl
sizes-are (suc (suc zero)) d h = refl
sizes-are (suc (suc (suc zero))) d h = refl
sizes-are (suc (suc (suc (suc zero)))) d h = refl
sizes-are (suc (suc (suc (suc (suc zero))))) d h = refl
sizes-are (suc (suc (suc (suc (suc (suc zero)))))) d h = refl
sizes-are (suc (suc (suc (suc (suc (suc (suc n))))))) d h = absurd (omega arith)

pub few-addresses : (n : ℕ) → n ≤ 6 → addresses n ≤ 64
few-addresses n h = by n h (sizes-are n 0 h)
  where
    by : (n : ℕ) → n ≤ 6 → get_or (1 ∷ 2 ∷ 4 ∷ 8 ∷ 16 ∷ 32 ∷ 64 ∷ []) n 0 ≡ addresses n → addresses n ≤ 64
    by zero h e = omega (arith, e)
    by (suc zero) h e = omega (arith, e)
    by (suc (suc zero)) h e = omega (arith, e)
    by (suc (suc (suc zero))) h e = omega (arith, e)
    by (suc (suc (suc (suc zero)))) h e = omega (arith, e)
    by (suc (suc (suc (suc (suc zero))))) h e = omega (arith, e)
    by (suc (suc (suc (suc (suc (suc zero)))))) h e = omega (arith, e)
    by (suc (suc (suc (suc (suc (suc (suc n))))))) h e = absurd (omega arith)

addresses-more : (n : ℕ) → addresses (suc n) ≡ 2 * addresses n
unfolding addresses
addresses-more n = refl

-- one input fewer has half the addresses
pub half-addresses : (count k size : ℕ) → k < count → size ≡ addresses (count - k) → size ≡ 2 * addresses (count - (k + 1))
half-addresses count k size lk e = let at : count - k ≡ suc (count - (k + 1)) = omega arith in e ∙ ap addresses at ∙ addresses-more (count - (k + 1))

pub choice-is : (a b c : Bool) → ((b && not a) || (c && a)) ≡ (if a then c else b)
choice-is true true true = refl
choice-is true true false = refl
choice-is true false true = refl
choice-is true false false = refl
choice-is false true true = refl
choice-is false true false = refl
choice-is false false true = refl
choice-is false false false = refl

-- the part at an address, after its lowest input is chosen
pub part-kept : (given : ℕ → Bool) (ss : List ℕ) (k : ℕ) (part : ℕ → Bool) (b cell : Bool) → k < length ss → b ≡ given (get_or ss k 0) → part (address given (drop k ss)) ≡ cell → (if b then part (2 * address given (drop (k + 1) ss) + 1) else part (2 * address given (drop (k + 1) ss))) ≡ cell
part-kept given ss k part b cell lk e h =
    ap (λ (x : Bool). if x then part (2 * address given (drop (k + 1) ss) + 1) else part (2 * address given (drop (k + 1) ss))) e ∙
    by (given (get_or ss k 0)) ∙
    ap part (sym (address-more given (get_or ss k 0) (drop (k + 1) ss))) ∙
    ap (λ (xs : List ℕ). part (address given xs)) (sym (drop_more ss k 0 lk)) ∙ h
  where
    by : (x : Bool) → (if x then part (2 * address given (drop (k + 1) ss) + 1) else part (2 * address given (drop (k + 1) ss))) ≡ part ((if x then 1 else 0) + 2 * address given (drop (k + 1) ss))
    by true = ap part (omega arith)
    by false = ap part (omega arith)

-- the valuation in which a signal is 0
without : (ℕ → Bool) → ℕ → ℕ → Bool
without given out s = if eqb s out then false else given s

without-out : (given : ℕ → Bool) (out s : ℕ) → s ≡ out → without given out s ≡ false
unfolding without
without-out given out s e = ap (λ (b : Bool). if b then false else given s) (eq-eqb s out e)

without-other : (given : ℕ → Bool) (out s : ℕ) → (s ≡ out → ⊥) → without given out s ≡ given s
unfolding without
without-other given out s h = by (eqb s out) refl
  where
    by : (b : Bool) → eqb s out ≡ b → (if b then false else given s) ≡ given s
    by true e = absurd (h (eqb-true s out e))
    by false e = refl

address-padded : (given : ℕ → Bool) (out : ℕ) (ws : List ℕ) (count : ℕ) → ((k : ℕ) → k < count → number_at ws k ≡ out → ⊥) → ((k : ℕ) → count ≤ k → k < length ws → number_at ws k ≡ out) → address (without given out) ws ≡ address given (take count ws)
address-padded given out [] count front rest = none count
  where
    none : (count : ℕ) → address (without given out) [] ≡ address given (take count [])
    none zero = address-nil (without given out) ∙ sym (address-nil given)
    none (suc n) = address-nil (without given out) ∙ sym (address-nil given)
address-padded given out (w ∷ ws) zero front rest =
    address-more (without given out) w ws ∙
    ap (λ (b : Bool). (if b then 1 else 0) + 2 * address (without given out) ws) (without-out given out w (rest 0 (omega arith) (omega arith))) ∙
    ap (λ (n : ℕ). 0 + 2 * n) (address-padded given out ws 0 (λ k lk. absurd (omega arith)) (λ k ge lk. rest (suc k) (omega arith) (omega arith)) ∙ address-nil given) ∙
    sym (address-nil given)
address-padded given out (w ∷ ws) (suc count) front rest =
    address-more (without given out) w ws ∙
    ap (λ (b : Bool). (if b then 1 else 0) + 2 * address (without given out) ws) (without-other given out w (front 0 (omega arith))) ∙
    ap (λ (n : ℕ). (if given w then 1 else 0) + 2 * n) (address-padded given out ws count (λ k lk. front (suc k) (omega arith)) (λ k ge lk. rest (suc k) (omega arith) (omega arith))) ∙
    sym (address-more given w (take count ws))

-- of a cover that doesn't read its output, the cell at the address of the inputs alone
pub table-truth : (t : Table) (c : Cover) (count : ℕ) (given : ℕ → Bool) → IsTable t c → ((k : ℕ) → k < length c.ins → number_at c.ins k ≡ c.out → ⊥) → ((k : ℕ) → k < count → number_at t.wires k ≡ c.out → ⊥) → ((k : ℕ) → count ≤ k → k < 6 → number_at t.wires k ≡ c.out) → get_or t.cells (address given (take count t.wires)) false ≡ truth given c
table-truth t c count given is apart front rest =
    ap (λ (n : ℕ). get_or t.cells n false) (sym (address-padded given c.out t.wires count front (λ k ge lk. rest k ge (omega (arith, is.wires))))) ∙
    is.cells (without given c.out) ∙
    same_truth (without given c.out) given c (λ k lk. without-other given c.out (number_at c.ins k) (apart k lk))

-- no cover of an order reads its output
pub not-own : (covers : List Cover) (turns : List Turn) → AreTurns covers turns → (k i : ℕ) → k < length turns → i < length (cover_at covers (turn_at turns k).place).ins → number_at (cover_at covers (turn_at turns k).place).ins i ≡ (cover_at covers (turn_at turns k).place).out → ⊥
not-own covers turns are k i lk =
    subst (λ (p : ℕ). i < length (cover_at covers p).ins → number_at (cover_at covers p).ins i ≡ (cover_at covers p).out → ⊥) (turn-place turns k lk)
    (λ li e.
    let lo : k < length (places turns) = omega (arith, turns-size turns) in
    let within = are.order.within k lo in
    let r = are.order.earlier k (number_at (places turns) k) lo (record { reader = within; driver = within; input = (i, li, get_or_default_zero _ i _ li ∙ e) }) in
    are.order.once r.0 k r.1 lo (ap (λ x. (cover_at covers x).out) r.2))
