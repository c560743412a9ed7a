-- Those who are reached are among those who ask.
use Rattle.std.proofs.Common.{ℕ, ◌<◌, List, [], ◌∷◌, ◌++◌, length, inl, inr, sym, subst, arith}
use Rattle.place_plan.proofs.Vocabulary.{length_push, cases_eq, Step, step_at, AskWithin}
use Rattle.place_plan.proofs.Trails.{at_old, at_new}

pub push_asks : (count : ℕ) (steps : List Step) (x : Step) → AskWithin count steps → x.ask < count → AskWithin count (steps ++ x ∷ [])
push_asks count steps x old new h lt = elim (cases_eq h (length steps)) [
  | inl e ↦ subst (λ z. (step_at (steps ++ x ∷ []) z).ask < count) (sym e) (subst (λ s. s.ask < count) (sym (at_new steps x)) new)
  | inr ne ↦ (let l : h < length steps = omega (arith, length_push steps x) in subst (λ s. s.ask < count) (sym (at_old steps x h l)) (old h l))
]
