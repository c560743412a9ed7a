-- A list that has each closed crosspoint once is as long as they are many.
use Rattle.std.proofs.Common.{◌≡◌, ℕ, ◌+◌, ◌≤◌, Bool, true, false, List, [], ◌∷◌, length, sym, ap, ◌∙◌, arith, ◌==◌, if◌then◌else◌}
use Rattle.std.specs.Ordering.{nat_cmp}
use Rattle.std.specs.{Cmp.nat_cmp_total, FinSet.len-empty, FinSet.len-insert, FinSet.same_set, FinSet.nat_cmp-IsAntisymmetric}
use Rattle.std.specs.FinSet as set_
use Rattle.std.proofs.lemmas.{Bool.Decides.nat_tests, List.Sums.sum_by-cons}
use Rattle.machine_shape.specs.declared.Cross.{Cross}
use Rattle.machine_config.specs.Vocabulary.{Configuration, is_closed, set_of, times, once_if}
use Rattle.machine_config.proofs.Members.{contains_times}

as-many : (xs : List Cross) → ((x : ℕ) → times x xs ≤ 1) → set_.len (set_of xs) ≡ length xs
as-many [] once = len-empty nat_cmp
as-many (c ∷ cs) once =
    let more : (x : ℕ) → times x (c ∷ cs) ≡ once_if (c.0 == x) + times x cs = λ x. sum_by-cons (λ y. if y.0 == x then 1 else 0) c cs in
    let itself : (c.0 == c.0) ≡ true = grind (arith, nat_tests) in
    let first : times c.0 (c ∷ cs) ≡ 1 + times c.0 cs = more c.0 ∙ ap (λ b. once_if b + times c.0 cs) itself in
    let others = contains_times cs c.0 false (let at = once c.0 in omega (arith, first, at)) in
    let longer = len-insert nat_cmp_total (set_of cs) c.0 ∙ ap (λ b. if b then set_.len (set_of cs) else set_.len (set_of cs) + 1) others in
    let rest = as-many cs (λ x. let at = once x in let e = more x in omega (arith, at, e)) in
    omega (arith, longer, rest)

pub counted : {g h : Configuration} (xs : List Cross) → g ≡ h → ((x : ℕ) → times x xs ≡ once_if (is_closed g x)) →
    set_.len h.closed ≡ length xs
counted {g} xs same each =
    ap (λ (k : Configuration). set_.len k.closed) (sym same)
    ∙ ap set_.len (same_set nat_cmp_total nat_cmp-IsAntisymmetric _ _ (λ x. sym (contains_times xs x (is_closed g x) (each x))))
    ∙ as-many xs (λ x. at-most (is_closed g x) (times x xs) (each x))
  where
    at-most : (b : Bool) (n : ℕ) → n ≡ once_if b → n ≤ 1
    at-most true n e = omega (arith, e)
    at-most false n e = omega (arith, e)
