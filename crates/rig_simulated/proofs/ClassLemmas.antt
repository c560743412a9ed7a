-- Classes: what one more link makes of them.
use Rattle.std.proofs.Common.{◌≡◌, ◌≢◌, ◌⊎◌, inl, inr, ℕ, ◌+◌, ◌<◌, ◌≤◌, None, List, length, get_or, refl, sym, ap, ◌∙◌, subst, arith, cond, eqb}
use Rattle.std.proofs.lemmas.Bool.{cases_eq, eq-eqb, ne_eqb, cond-true, cond-false}
use Rattle.rig_simulated.proofs.Vocabulary.{get_or_default, ClassNode, knot_at, HasRoots, IsHung}

-- within the list the default has no say
pub knot_is : (knots : List ClassNode) (w : ℕ) (d : ClassNode) → w < length knots → get_or knots w d ≡ knot_at knots w
knot_is knots w d h = get_or_default knots w d (record { parent = w; rank = 0; held = None }) h

-- the roots once one is below another
abbrev pub merged : (ℕ → ℕ) → ℕ → ℕ → ℕ → ℕ
merged root low high w = cond (eqb (root w) low) high (root w)

module _ (root : ℕ → ℕ) (low high : ℕ) where
  pub merged-low : (w : ℕ) → root w ≡ low → merged root low high w ≡ high
  merged-low w e = cond-true (eqb (root w) low) high (root w) (eq-eqb (root w) low e)

  pub merged-other : (w : ℕ) → root w ≢ low → merged root low high w ≡ root w
  merged-other w n = cond-false (eqb (root w) low) high (root w) (ne_eqb (root w) low n)

  pub merged-same : (w u : ℕ) → root w ≡ root u → merged root low high w ≡ merged root low high u
  merged-same w u e = ap (λ r. cond (eqb r low) high r) e

module _ {knots new : List ClassNode} {most : ℕ} {root : ℕ → ℕ} (roots : HasRoots knots most root) (low high : ℕ)
    (hung : IsHung knots new low high) (low_in : low < length knots) (high_in : high < length knots)
    (low_top : (knot_at knots low).parent ≡ low) (high_top : (knot_at knots high).parent ≡ high) (apart : low ≢ high) where
  low_root : root low ≡ low
  low_root = roots.top low low_top

  high_root : root high ≡ high
  high_root = roots.top high high_top

  at_high : merged root low high high ≡ high
  at_high = merged-other root low high high (λ e. apart (sym (sym high_root ∙ e))) ∙ high_root

  within : (w : ℕ) → w < length new → (knot_at new w).parent < length new
  within w h = by_low (cases_eq w low)
    where
      by_high : w ≢ low → (w ≡ high) ⊎ (w ≢ high) → (knot_at new w).parent < length new
      by_high n (inl e) = rw (e, hung.top, hung.len) high_in
      by_high n (inr m) = rw (hung.others w n m, hung.len) (roots.within w (subst (λ k. w < k) hung.len h))

      by_low : (w ≡ low) ⊎ (w ≢ low) → (knot_at new w).parent < length new
      by_low (inl e) = rw (e, hung.parent, hung.len) high_in
      by_low (inr n) = by_high n (cases_eq w high)

  up : (w : ℕ) → merged root low high (knot_at new w).parent ≡ merged root low high w
  up w = by_low (cases_eq w low)
    where
      by_high : w ≢ low → (w ≡ high) ⊎ (w ≢ high) → merged root low high (knot_at new w).parent ≡ merged root low high w
      by_high n (inl e) = rw (e, hung.top) refl
      by_high n (inr m) = ap (λ k. merged root low high k.parent) (hung.others w n m) ∙ merged-same root low high _ w (roots.up w)

      by_low : (w ≡ low) ⊎ (w ≢ low) → merged root low high (knot_at new w).parent ≡ merged root low high w
      by_low (inl e) = ap (λ v. merged root low high (knot_at new v).parent) e ∙ ap (merged root low high) hung.parent ∙ at_high ∙ sym (merged-low root low high w (ap root e ∙ low_root))
      by_low (inr n) = by_high n (cases_eq w high)

  top : (w : ℕ) → (knot_at new w).parent ≡ w → merged root low high w ≡ w
  top w p = by_low (cases_eq w low)
    where
      by_high : w ≢ low → (w ≡ high) ⊎ (w ≢ high) → merged root low high w ≡ w
      by_high n (inl e) = ap (merged root low high) e ∙ at_high ∙ sym e
      by_high n (inr m) =
          let own : root w ≡ w = roots.top w (sym (ap (λ k. k.parent) (hung.others w n m)) ∙ p) in
          merged-other root low high w (λ e. n (sym own ∙ e)) ∙ own

      by_low : (w ≡ low) ⊎ (w ≢ low) → merged root low high w ≡ w
      by_low (inl e) = absurd (apart (sym (sym hung.parent ∙ ap (λ v. (knot_at new v).parent) (sym e) ∙ p ∙ e)))
      by_low (inr n) = by_high n (cases_eq w high)

  itself : (w : ℕ) → merged root low high (merged root low high w) ≡ merged root low high w
  itself w = by_low (cases_eq (root w) low)
    where
      by_low : (root w ≡ low) ⊎ (root w ≢ low) → merged root low high (merged root low high w) ≡ merged root low high w
      by_low (inl e) = rw (merged-low root low high w e) at_high
      by_low (inr n) = rw (merged-other root low high w n) (merged-other root low high (root w) (λ e. n (sym (roots.itself w) ∙ e)) ∙ roots.itself w)

  -- a rank grows at the higher root alone
  grows : (w : ℕ) → (knot_at knots w).rank ≤ (knot_at new w).rank
  grows w = by_low (cases_eq w low)
    where
      by_high : w ≢ low → (w ≡ high) ⊎ (w ≢ high) → (knot_at knots w).rank ≤ (knot_at new w).rank
      by_high n (inl e) = rw e hung.no_lower
      by_high n (inr m) = rw (hung.others w n m) (omega arith)

      by_low : (w ≡ low) ⊎ (w ≢ low) → (knot_at knots w).rank ≤ (knot_at new w).rank
      by_low (inl e) = rw (e, hung.rank) (omega arith)
      by_low (inr n) = by_high n (cases_eq w high)

  rises : (w : ℕ) → (knot_at new w).parent ≢ w → (knot_at new w).rank < (knot_at new (knot_at new w).parent).rank
  rises w p = by_low (cases_eq w low)
    where
      by_high : w ≢ low → (w ≡ high) ⊎ (w ≢ high) → (knot_at new w).rank < (knot_at new (knot_at new w).parent).rank
      by_high n (inl e) = absurd (p (ap (λ v. (knot_at new v).parent) e ∙ hung.top ∙ sym e))
      by_high n (inr m) =
          let same = hung.others w n m in
          let was : (knot_at knots w).parent ≢ w = λ q. p (ap (λ k. k.parent) same ∙ q) in
          let more = grows (knot_at knots w).parent in
          rw same (let old = roots.rises w was in omega (arith, old, more))

      by_low : (w ≡ low) ⊎ (w ≢ low) → (knot_at new w).rank < (knot_at new (knot_at new w).parent).rank
      by_low (inl e) = rw (e, hung.parent, hung.rank) hung.higher
      by_low (inr n) = by_high n (cases_eq w high)

  few : (w : ℕ) → (knot_at new w).rank ≤ most + 1
  few w = by_low (cases_eq w low)
    where
      by_high : w ≢ low → (w ≡ high) ⊎ (w ≢ high) → (knot_at new w).rank ≤ most + 1
      by_high n (inl e) = rw e (let h = roots.few high in omega (arith, h, hung.one_more))
      by_high n (inr m) = rw (hung.others w n m) (let h = roots.few w in omega (arith, h))

      by_low : (w ≡ low) ⊎ (w ≢ low) → (knot_at new w).rank ≤ most + 1
      by_low (inl e) = rw (e, hung.rank) (let h = roots.few low in omega (arith, h))
      by_low (inr n) = by_high n (cases_eq w high)

  pub hung_roots : HasRoots new (most + 1) (merged root low high)
  hung_roots = record { within = within; up = up; top = top; itself = itself; rises = rises; few = few }
