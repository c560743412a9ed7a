-- Covers in their turns.
use Rattle.std.proofs.Common.{◌≡◌, ℕ, ◌+◌, ◌<◌, ◌≤◌, Bool, List, [], ◌∷◌, ◌++◌, None, length, take, map, sym, ap, subst, ◌∙◌, arith, slice_set}
use Rattle.std.proofs.lemmas.List.{length-map, map-append, get_or-map, take_more, take_all}
use Rattle.design_eval.proofs.Vocabulary.{Cover, few_covers, Turn, turn_at, places, IsTurn, AreTurns}
use Rattle.design_netlist.specs.Vocabulary.{no_cover, cover_at, truth, IsCoverOver, number_at, bit_at, IsOrder, IsSettled, IsSettledTo}
use Rattle.design_netlist.proofs.EvalLemmas.{settle_more, settle_all}

pub places-more : (turns : List Turn) (t : Turn) (order : List ℕ) (k : ℕ) → places turns ≡ take k order → t.place ≡ number_at order k → k < length order → places (turns ++ t ∷ []) ≡ take (k + 1) order
places-more turns t order k e i lk =
    map-append (λ (x : Turn). x.place) turns (t ∷ []) ∙
    ap (λ (xs : List ℕ). xs ++ t.place ∷ []) e ∙
    ap (λ (x : ℕ). take k order ++ x ∷ []) i ∙
    sym (take_more order k 0 lk)

pub turns-are : (covers : List Cover) (turns : List Turn) (order : List ℕ) (k : ℕ) → IsOrder covers order → length order ≤ k → places turns ≡ take k order → ((j : ℕ) → j < length turns → IsTurn covers (turn_at turns j)) → AreTurns covers turns
turns-are covers turns order k is all e each = record {
  order = subst (IsOrder covers) (sym (e ∙ take_all k order all)) is;
  each = each;
}

pub turns-size : (turns : List Turn) → length (places turns) ≡ length turns
turns-size turns = length-map turns (λ (x : Turn). x.place)

pub turn-place : (turns : List Turn) (k : ℕ) → k < length turns → number_at (places turns) k ≡ (turn_at turns k).place
turn-place turns k lk = get_or-map (λ (x : Turn). x.place) turns k (record { out = 0; place = 0; table = None }) 0 lk

module _ (covers : List Cover) (turns : List Turn) (are : AreTurns covers turns) where
  pub place-within : (k : ℕ) → k < length turns → (turn_at turns k).place < length covers
  place-within k lk = omega (arith, turn-place turns k lk, are.order.within k (omega (arith, turns-size turns)))

  -- the cover in a turn
  abbrev pub cover_in : ℕ → Cover
  cover_in k = cover_at covers (number_at (places turns) k)

  pub cover-is : (k : ℕ) → k < length turns → cover_at covers (turn_at turns k).place ≡ cover_in k
  cover-is k lk = ap (cover_at covers) (sym (turn-place turns k lk))

  pub out-is : (k : ℕ) → k < length turns → (turn_at turns k).out ≡ (cover_in k).out
  out-is k lk = (are.each k lk).out ∙ ap (λ (c : Cover). c.out) (cover-is k lk)

  pub out-below : (k n : ℕ) → k < length turns → ((i : ℕ) → i < length covers → IsCoverOver (cover_at covers i) n) → (turn_at turns k).out < n
  out-below k n lk made = subst (λ (x : ℕ). x < n) (sym (are.each k lk).out) (made (turn_at turns k).place (place-within k lk)).out

  pub truth-is : (given : ℕ → Bool) (k : ℕ) → k < length turns → truth given (cover_at covers (turn_at turns k).place) ≡ truth given (cover_in k)
  truth-is given k lk = ap (truth given) (cover-is k lk)

  pub turn-settles : (k : ℕ) (old cur : List Bool) (b : Bool) → k < length turns → ((i : ℕ) → i < length covers → IsCoverOver (cover_at covers i) (length old)) → IsSettledTo covers (places turns) k old cur → b ≡ truth (bit_at cur) (cover_at covers (turn_at turns k).place) → IsSettledTo covers (places turns) (k + 1) old (slice_set cur (turn_at turns k).out b)
  turn-settles k old cur b lk made h e =
      let lo : k < length (places turns) = omega (arith, turns-size turns) in
      let o = (made (number_at (places turns) k) (are.order.within k lo)).out in
      subst (λ (x : ℕ). IsSettledTo covers (places turns) (k + 1) old (slice_set cur x b)) (sym (out-is k lk))
      (settle_more covers (places turns) are.order k old cur b lo (omega (arith, o, h.len)) h (e ∙ truth-is (bit_at cur) k lk))

  pub turns-settle : (k : ℕ) (old new : List Bool) → length turns ≤ k → k ≤ length turns → IsSettledTo covers (places turns) k old new → IsSettled covers (bit_at old) (bit_at new)
  turns-settle k old new lo hi h = settle_all covers (places turns) are.order k old new (omega (arith, turns-size turns)) h

-- covers of an order drive different signals, so they are no more than the signals
pub few-turns : (covers : List Cover) (order : List ℕ) (signals : ℕ) → IsOrder covers order → ((i : ℕ) → i < length covers → IsCoverOver (cover_at covers i) signals) → length order ≤ signals
few-turns covers order signals is made =
    omega (
      arith,
      length-map order (cover_at covers),
      few_covers (map (cover_at covers) order) signals
          (λ i li. (let lt : i < length order = omega (arith, li, length-map order (cover_at covers)) in subst (λ (c : Cover). c.out < signals) (sym (at i lt)) (made (number_at order i) (is.within i lt)).out))
          (λ i j lt lj e. (let lo : j < length order = omega (arith, lj, length-map order (cover_at covers)) in
          is.once i j lt lo (sym (ap (λ (c : Cover). c.out) (at i (omega arith))) ∙ e ∙ ap (λ (c : Cover). c.out) (at j lo)))),
    )
  where
    at : (i : ℕ) → i < length order → cover_at (map (cover_at covers) order) i ≡ cover_at covers (number_at order i)
    at i li = get_or-map (cover_at covers) order i 0 no_cover li
