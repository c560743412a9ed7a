-- Tests are paid for.
use Rattle.std.proofs.Common.{◌≡◌, ℕ, ◌+◌, ◌*◌, ◌≤◌, Bool, true, false, not, ◌&&◌, List, refl, sym, ap, ◌∙◌, subst, arith}
use Rattle.diag_sweep.proofs.Vocabulary.{false≢true, has_number, Kept, IsMore, keeps_cross, KnownWires, Field, is_undecided, IsFunded}
use Rattle.diag_sweep.proofs.Vocabulary.{in_hand, DefectMarks, LoadBudget}

-- if neither of two is so, neither is what they follow from
pub neither : (a b c d : Bool) → (a ≡ true → c ≡ true) → (b ≡ true → d ≡ true) → (not c && not d) ≡ true → (not a && not b) ≡ true
neither false false c d p q e = refl
neither true b c d p q e = absurd (false≢true (ap (λ (x : Bool). not x && not d) (sym (p refl)) ∙ e))
neither false true c d p q e = absurd (false≢true (sym (none c) ∙ ap (λ (x : Bool). not c && not x) (sym (q refl)) ∙ e))
  where
    none : (x : Bool) → (not x && not true) ≡ false
    none true = refl
    none false = refl

-- what is undecided was
pub undecided_before : {k l : Kept} (b c : DefectMarks) → IsMore k l → ((x : ℕ) → has_number b.stuck x ≡ true → has_number c.stuck x ≡ true) → (x : ℕ) → is_undecided l c x ≡ true → is_undecided k b x ≡ true
undecided_before {k} {l} b c more stays x is = neither (keeps_cross k x) (has_number b.stuck x) (keeps_cross l x) (has_number c.stuck x) (more.crosses x) (stays x) is

-- a test that the purse can pay for
pub funded_test : {a : Field} {k l : Kept} {known new : KnownWires} {b c : DefectMarks} {budget : LoadBudget} {before after : ℕ} (n : ℕ) → before + n ≤ budget.most → after ≤ before + n → IsMore k l → ((x : ℕ) → has_number b.stuck x ≡ true → has_number c.stuck x ≡ true) →
    (limit : ℕ) → IsFunded limit a (in_hand k known b budget before) → IsFunded limit a (in_hand l new c budget after)
funded_test {b = b} {c = c} n can took more stays limit f = record {
  paid = omega (arith, can, took);
  within = f.within;
  whole = λ x on is. f.whole x on (undecided_before b c more stays x is);
}

-- where the same crosspoints are kept
pub funded_back : {a : Field} {k l : Kept} {known : KnownWires} {b : DefectMarks} {budget : LoadBudget} {loads limit : ℕ} → ((x : ℕ) → keeps_cross l x ≡ keeps_cross k x) → IsFunded limit a (in_hand k known b budget loads) → IsFunded limit a (in_hand l known b budget loads)
funded_back {b = b} same f = record {
  paid = f.paid;
  within = f.within;
  whole = λ x on is. f.whole x on (ap (λ t. not t && not (has_number b.stuck x)) (sym (same x)) ∙ is);
}
