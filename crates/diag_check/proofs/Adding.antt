-- The wires that an image uses, as they are marked.
use Rattle.std.proofs.Common.{◌≡◌, ◌⊎◌, ℕ, ◌+◌, ◌<◌, Bool, true, Some, List, length, refl, sym, ap, ◌∙◌, subst, inl, inr, arith, slice_get}
use Rattle.diag_check.proofs.Vocabulary.{set, length-set, Shape, Cross, Table, ends_of, below_or, some_same}
use Rattle.diag_check.specs.Marks.{Adds, IsAmongFirst, IsEndAmong, tap_among, line_among, IsPinOfTable, IsTablePinAmong}
use Rattle.diag_check.proofs.Marking.{adds_none, adds_one, adds_more}

-- wires by a numbering, one after the other
module _ (wire_at : ℕ → ℕ) where
  pub first_none : {marks : List Bool} → Adds (IsAmongFirst wire_at 0) marks marks
  first_none = adds_none (λ x p. let early = p.early in let no : ⊥ = omega (arith, early) in no)

  pub first_next : (n w : ℕ) {old mid : List Bool} → Adds (IsAmongFirst wire_at n) old mid → w ≡ wire_at n → w < length mid → Adds (IsAmongFirst wire_at (n + 1)) old (set mid w true)
  first_next n w a e within = adds_one w a within more (record { place = n; early = omega arith; wire = e }) from
    where
      more : (y : ℕ) → IsAmongFirst wire_at n y → IsAmongFirst wire_at (n + 1) y
      more y p = record { place = p.place; early = (let early = p.early in omega (arith, early)); wire = p.wire }

      from : (y : ℕ) → IsAmongFirst wire_at (n + 1) y → IsAmongFirst wire_at n y ⊎ (y ≡ w)
      from y p = by (below_or n p.place p.early)
        where
          by : (p.place < n) ⊎ (p.place ≡ n) → IsAmongFirst wire_at n y ⊎ (y ≡ w)
          by (inl l) = inl (record { place = p.place; early = l; wire = p.wire })
          by (inr s) = inr (p.wire ∙ ap wire_at s ∙ sym e)

module _ (m : Shape) where
  module _ (crosses : List Cross) where
    pub ends_none : {marks : List Bool} → Adds (IsEndAmong m crosses 0) marks marks
    ends_none = adds_none no
      where
        no : (x : ℕ) → IsEndAmong m crosses 0 x → ⊥
        no x (tap_among j c l here e) = let no_ : ⊥ = omega (arith, l) in no_
        no x (line_among j c l here e) = let no_ : ⊥ = omega (arith, l) in no_

    -- the tap of the next crosspoint is put in, and its line after it
    data WithTap (n : ℕ) (t : ℕ) (w : ℕ) : Type 0 where
      earlier : IsEndAmong m crosses n w → WithTap n t w
      is_tap : w ≡ t → WithTap n t w

    pub ends_next : (n t l : ℕ) (c : Cross) {old mid : List Bool} → Adds (IsEndAmong m crosses n) old mid → slice_get crosses n ≡ Some c → (t, l) ≡ ends_of m c.0 → t < length mid → l < length mid →
        Adds (IsEndAmong m crosses (n + 1)) old (set (set mid t true) l true)
    ends_next n t l c {old} {mid} a here e tw lw =
        adds_one l (adds_one {Q = WithTap n t} t a tw (λ y p. earlier p) (is_tap refl) one) (subst (λ k. l < k) (sym (length-set mid t true)) lw) more
        (line_among n c (omega arith) here (ap (λ p. p.1) e)) from
      where
        one : (y : ℕ) → WithTap n t y → IsEndAmong m crosses n y ⊎ (y ≡ t)
        one y (earlier p) = inl p
        one y (is_tap s) = inr s

        later : (y : ℕ) → IsEndAmong m crosses n y → IsEndAmong m crosses (n + 1) y
        later y (tap_among j x b at s) = tap_among j x (omega (arith, b)) at s
        later y (line_among j x b at s) = line_among j x (omega (arith, b)) at s

        more : (y : ℕ) → WithTap n t y → IsEndAmong m crosses (n + 1) y
        more y (earlier p) = later y p
        more y (is_tap s) = tap_among n c (omega arith) here (s ∙ ap (λ p. p.0) e)

        same : (j : ℕ) (x : Cross) → j ≡ n → slice_get crosses j ≡ Some x → x ≡ c
        same j x s at = some_same (sym at ∙ ap (slice_get crosses) s ∙ here)

        from : (y : ℕ) → IsEndAmong m crosses (n + 1) y → WithTap n t y ⊎ (y ≡ l)
        from y (tap_among j x b at s) = by (below_or n j b)
          where
            by : (j < n) ⊎ (j ≡ n) → WithTap n t y ⊎ (y ≡ l)
            by (inl k) = inl (earlier (tap_among j x k at s))
            by (inr k) = inl (is_tap (s ∙ ap (λ (z : Cross). (ends_of m z.0).0) (same j x k at) ∙ sym (ap (λ p. p.0) e)))
        from y (line_among j x b at s) = by (below_or n j b)
          where
            by : (j < n) ⊎ (j ≡ n) → WithTap n t y ⊎ (y ≡ l)
            by (inl k) = inl (earlier (line_among j x k at s))
            by (inr k) = inr (s ∙ ap (λ (z : Cross). (ends_of m z.0).1) (same j x k at) ∙ sym (ap (λ p. p.1) e))

  module _ (tables : List Table) where
    pub tables_none : {marks : List Bool} → Adds (IsTablePinAmong m tables 0) marks marks
    tables_none = adds_none (λ x p. let early = p.early in let no : ⊥ = omega (arith, early) in no)

    pub tables_next : (n : ℕ) (t : Table) {old mid new : List Bool} → Adds (IsTablePinAmong m tables n) old mid → slice_get tables n ≡ Some t → Adds (IsPinOfTable m t.0 7) mid new → Adds (IsTablePinAmong m tables (n + 1)) old new
    tables_next n t a here b = adds_more a b more (λ y p. record { place = n; table = t; early = omega arith; here = here; pin = p }) from
      where
        more : (y : ℕ) → IsTablePinAmong m tables n y → IsTablePinAmong m tables (n + 1) y
        more y p = record { place = p.place; table = p.table; early = (let early = p.early in omega (arith, early)); here = p.here; pin = p.pin }

        from : (y : ℕ) → IsTablePinAmong m tables (n + 1) y → IsTablePinAmong m tables n y ⊎ IsPinOfTable m t.0 7 y
        from y p = by (below_or n p.place p.early)
          where
            by : (p.place < n) ⊎ (p.place ≡ n) → IsTablePinAmong m tables n y ⊎ IsPinOfTable m t.0 7 y
            by (inl l) = inl (record { place = p.place; table = p.table; early = l; here = p.here; pin = p.pin })
            by (inr s) = inr (subst (λ (z : Table). IsPinOfTable m z.0 7 y) (some_same (sym p.here ∙ ap (slice_get tables) s ∙ here)) p.pin)
