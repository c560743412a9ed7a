-- How many wires are marked that are all parts in a list.
use Rattle.std.proofs.Common.{◌≡◌, ◌∙◌, ◌⊎◌, ℕ, zero, suc, ◌+◌, ◌<◌, ◌≤◌, Bool, true, false, cond, List, [], ◌∷◌, length, refl, sym, ap, inl, inr, arith, Contains}
use Rattle.std.proofs.{Math.ListN.set, lemmas.List.get_or-set_same, lemmas.List.get_or-set_other, lemmas.List.Sums.sum_by-cons}
use Rattle.cmd_check.proofs.Vocabulary.{cases_eq, false≢true, has_number, size_of, Part, WirePart, CrossPart, TablePart}
use Rattle.base_bits.proofs.NumbersLemmas.{size_of-taken}
use Rattle.diag_known.proofs.Getting.{marked_within}

none-marked : (marks : List Bool) → ((n : ℕ) → has_number marks n ≡ true → ⊥) → size_of marks ≡ 0
none-marked [] none = refl
none-marked (b ∷ marks) none =
    let rest = none-marked marks (λ n h. none (suc n) h) in
    let split = sum_by-cons (λ c. cond c 1 0) b marks in
    let first : ◌≡◌ {A = ℕ} (cond b 1 0) 0 = by b (none 0) in omega (arith, rest, split, first)
  where
    by : (c : Bool) → (c ≡ true → ⊥) → ◌≡◌ {A = ℕ} (cond c 1 0) 0
    by true never = absurd (never refl)
    by false never = refl

behind : (p : Part) (ps : List Part) (n : ℕ) → (p ≡ WirePart n → ⊥) → Contains (p ∷ ps) (WirePart n) → Contains ps (WirePart n)
behind p ps n other (zero, lt, e) = absurd (other e)
behind p ps n other (suc k, lt, e) = (k, omega arith, e)

same-wire : (v n : ℕ) → WirePart v ≡ WirePart n → n ≡ v
same-wire v n e = cc

no-cross : (x n : ℕ) → CrossPart x ≡ WirePart n → ⊥
no-cross x n e = cc

no-table : (t n : ℕ) → TablePart t ≡ WirePart n → ⊥
no-table t n e = cc

-- the list is as long at least
pub wires-fit : (ps : List Part) (marks : List Bool) → ((n : ℕ) → has_number marks n ≡ true → Contains ps (WirePart n)) → size_of marks ≤ length ps
wires-fit [] marks each = omega (arith, none-marked marks (λ n h. let c = each n h in let l = c.1 in let no : ⊥ = omega (arith, l) in no))
wires-fit (CrossPart x ∷ ps) marks each = let rest = wires-fit ps marks (λ n h. behind (CrossPart x) ps n (no-cross x n) (each n h)) in omega (arith, rest)
wires-fit (TablePart t ∷ ps) marks each = let rest = wires-fit ps marks (λ n h. behind (TablePart t) ps n (no-table t n) (each n h)) in omega (arith, rest)
wires-fit (WirePart v ∷ ps) marks each = by (λ ms h. wires-fit ps ms h) (has_number marks v) refl
  where
    by-number : v < length marks → (n : ℕ) → has_number (set marks v false) n ≡ true → (n ≡ v) ⊎ (n ≡ v → ⊥) → Contains ps (WirePart n)
    by-number within n h (inl same) = absurd (false≢true (sym (ap (has_number (set marks v false)) same ∙ get_or-set_same marks v false false within) ∙ h))
    by-number within n h (inr other) = behind (WirePart v) ps n (λ e. other (same-wire v n e)) (each n (sym (get_or-set_other marks v n false false other) ∙ h))

    by : ((ms : List Bool) → ((n : ℕ) → has_number ms n ≡ true → Contains ps (WirePart n)) → size_of ms ≤ length ps) → (b : Bool) → has_number marks v ≡ b → size_of marks ≤ length (WirePart v ∷ ps)
    by again true e =
        let within = marked_within marks v e in
        let rest = again (set marks v false) (λ n h. by-number within n h (cases_eq n v)) in
        omega (arith, rest, size_of-taken marks v within e)
    by again false e =
        let rest = again marks (λ n h. behind (WirePart v) ps n (λ same. false≢true (sym e ∙ ap (has_number marks) (sym (same-wire v n same)) ∙ h)) (each n h)) in
        omega (arith, rest)
