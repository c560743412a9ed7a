-- The map of lines, one visit after another.
use Rattle.std.proofs.Common.{◌≡◌, ◌⊎◌, ℕ, Bool, true, false, cond, Some, None, Option, IsSome, List, [], ◌∷◌, ◌++◌, refl, sym, ap, ◌∙◌, subst, inl, inr, arith}
use Rattle.place_route.proofs.Vocabulary.{Contains, BTreeMap, is_at, eq_by_cmp_equiv, Visit, visit_for, line_in, HasLine, AreLines, IsPut}
use Rattle.std.specs.Map.{lookup}
use Rattle.std.specs.BTreeMap as tree
use Rattle.std.proofs.lemmas.List.Elements.{Contains-append_left, Contains-push, Contains-push_cases}
use Rattle.std.proofs.lemmas.Map.Views.{tells_apart}
use Rattle.machine_meaning.specs.Faults.{pair_cmp}
use Rattle.machine_meaning.proofs.Pairs.{pairs_total, pairs_exact}

abbrev Lines : Type 0
Lines = BTreeMap (ℕ × ℕ) ℕ

pub is_put : (v : Visit) (old new : Lines) → ((q : ℕ × ℕ) → tree.get pair_cmp new q ≡ cond (is_at (pair_cmp (v.node.0, v.net.0)) q) (Some v.line.0) (tree.get pair_cmp old q)) → IsPut v old new
is_put v old new h = record { here = h (v.node.0, v.net.0) ∙ ap (λ b. cond b (Some v.line.0) (tree.get pair_cmp old (v.node.0, v.net.0))) ((eq_by_cmp_equiv pairs_total).refl (v.node.0, v.net.0)); others = λ n k. by n k (is_at (pair_cmp (v.node.0, v.net.0)) (n, k)) refl }
  where
    by : (n k : ℕ) (b : Bool) → is_at (pair_cmp (v.node.0, v.net.0)) (n, k) ≡ b → ((n ≡ v.node.0) × (k ≡ v.net.0)) ⊎ (line_in new n k ≡ line_in old n k)
    by n k true e = let same = tells_apart pairs_exact (v.node.0, v.net.0) (n, k) e in inl (sym (ap (λ (p : ℕ × ℕ). p.0) same), sym (ap (λ (p : ℕ × ℕ). p.1) same))
    by n k false e = inr (h (n, k) ∙ ap (λ b. cond b (Some v.line.0) (tree.get pair_cmp old (n, k))) e)

some_same : {w u : ℕ} → Some w ≡ Some u → w ≡ u
some_same e = cc

pub no_lines : (lines : Lines) → lines.entries ≡ [] → AreLines [] lines
no_lines lines empty = record { only = λ n k w e. absurd (never (ap (lookup (is_at (pair_cmp (n, k)))) empty) e); each = λ n k w has. absurd (nothing has) }
  where
    never : {o : Option ℕ} {w : ℕ} → o ≡ None → o ≡ Some w → ⊥
    never e f = cc

    nothing : {v : Visit} → Contains [] v → ⊥
    nothing h = absurd (omega (arith, h.1))

pub lines_more : (vs : List Visit) (v : Visit) (old new : Lines) → AreLines vs old → IsPut v old new → AreLines (vs ++ v ∷ []) new
lines_more vs v old new so_far put = record {
  only = λ n k w e. only n k w e (put.others n k);
  each = λ n k w has. each n k w (Contains-push_cases vs v (visit_for n k w) has) (put.others n k);
}
  where
    only : (n k w : ℕ) → line_in new n k ≡ Some w → ((n ≡ v.node.0) × (k ≡ v.net.0)) ⊎ (line_in new n k ≡ line_in old n k) → HasLine (vs ++ v ∷ []) n k w
    only n k w e (inl at) =
        let same : v.line.0 ≡ w = some_same (sym put.here ∙ (λ i. line_in new (sym at.0 i) (sym at.1 i)) ∙ e) in
        subst (Contains (vs ++ v ∷ [])) (λ i. visit_for (sym at.0 i) (sym at.1 i) (same i)) (Contains-push vs v)
    only n k w e (inr s) = Contains-append_left vs (v ∷ []) _ (so_far.only n k w (sym s ∙ e))

    here : (n k : ℕ) → n ≡ v.node.0 → k ≡ v.net.0 → IsSome (line_in new n k)
    here n k e f = subst IsSome (sym put.here ∙ (λ i. line_in new (sym e i) (sym f i))) refl

    each : (n k w : ℕ) → Contains vs (visit_for n k w) ⊎ (v ≡ visit_for n k w) → ((n ≡ v.node.0) × (k ≡ v.net.0)) ⊎ (line_in new n k ≡ line_in old n k) → IsSome (line_in new n k)
    each n k w h (inl at) = here n k at.0 at.1
    each n k w (inl h) (inr s) = subst IsSome (sym s) (so_far.each n k w h)
    each n k w (inr e) (inr s) = here n k (sym (ap (λ (u : Visit). u.node.0) e)) (sym (ap (λ (u : Visit). u.net.0) e))
