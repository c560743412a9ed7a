-- Courses of which nothing is refused but what is excused.
use Rattle.cmd_steps.proofs.Vocabulary.{ℕ, List, sym, subst, inl, inr, Refusal}
use Rattle.cmd_steps.specs.Vocabulary.{Around, Course, Next, Step, after, write, done, IsExcused, EndsWell}
use Rattle.cmd_steps.proofs.Leading.{step-leads}

pub record IsWell (old new : Around) (course : Course) : Type 0 where
  pub well : (text : List ℕ) (next : Next) → course text next → EndsWell old new next

module _ (old new : Around) where
  -- a step, and what follows on what it gives
  well-step : {T : Type 0} (step : Step T) (here : Type 0) (rest : T → Course) → ((refusal : Refusal) → step.stops refusal → IsExcused refusal old new) → ((x : T) → step.gives x → IsWell old new (rest x)) → (text : List ℕ) (next : Next) → after step here rest text next → EndsWell old new next
  well-step step here rest excused then_well text next (inl h) = step-leads step (EndsWell old new) excused next h.1
  well-step step here rest excused then_well text next (inr h) = (then_well h.0 h.1).well text next h.2

  pub well-after : {T : Type 0} (step : Step T) (here : Type 0) (rest : T → Course) → ((refusal : Refusal) → step.stops refusal → IsExcused refusal old new) → ((x : T) → step.gives x → IsWell old new (rest x)) → IsWell old new (after step here rest)
  well-after step here rest excused then_well = record { well = well-step step here rest excused then_well }

  -- a line, and what follows
  well-line : (line : List ℕ) (here : Type 0) (rest : Course) → IsWell old new rest → (text : List ℕ) (next : Next) → write line here rest text next → EndsWell old new next
  well-line line here rest then_well text next (inl h) = subst (EndsWell old new) (sym h.1) tt
  well-line line here rest then_well text next (inr h) = then_well.well h.0 next h.2

  pub well-write : (line : List ℕ) (here : Type 0) (rest : Course) → IsWell old new rest → IsWell old new (write line here rest)
  well-write line here rest then_well = record { well = well-line line here rest then_well }

  pub well-done : (here : Type 0) → IsWell old new (done here)
  well-done here = record { well = λ text next h. subst (EndsWell old new) (sym h.1) tt }
