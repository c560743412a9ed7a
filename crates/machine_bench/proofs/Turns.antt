-- One more turn.
use Rattle.machine_bench.proofs.Vocabulary.{◌≡◌, ℕ, suc, ◌+◌, refl, sym, ap, ◌∙◌, subst, arith, none-some, Shape, Fault}
use Rattle.machine_meaning.specs.Faults.{Faults}
use Rattle.machine_bench.specs.Faults.{IsOneMore, added, refused, Takes, allowed, not_allowed, fault_of_turn, state_of_turn, turn_state, AfterTurns, none, turn}

module _ (m : Shape) (n turns s : ℕ) (is : s ≡ turn_state n turns) where
  one_more : suc turns ≡ turns + 1
  one_more = omega arith

  pub state_more : state_of_turn s ≡ turn_state n (turns + 1)
  state_more = ap state_of_turn is ∙ ap (turn_state n) one_more

  pub turn_more : (f g : Faults) → AfterTurns m n turns f → Takes m f (fault_of_turn m s) g → AfterTurns m n (turns + 1) g
  turn_more f g a t = subst (λ k. AfterTurns m n k g) one_more (turn a (subst (λ k. Takes m f (fault_of_turn m k) g) is t))

-- ---- a number makes one set of faults

one_more_one : {m : Shape} {f : Faults} {x : Fault} {g h : Faults} → IsOneMore m f x g → IsOneMore m f x h → g ≡ h
one_more_one (added e) (added k) = refl
one_more_one (added e) (refused why k) = absurd (none-some why (sym e ∙ k))
one_more_one (refused why k) (added e) = absurd (none-some why (sym e ∙ k))
one_more_one (refused why k) (refused other j) = refl

takes_one : {m : Shape} {f : Faults} {x : Fault} {g h : Faults} → Takes m f x g → Takes m f x h → g ≡ h
takes_one (allowed a o) (allowed b p) = one_more_one o p
takes_one (allowed a o) (not_allowed n e) = absurd (n a)
takes_one (not_allowed n e) (allowed a o) = absurd (n a)
takes_one (not_allowed n e) (not_allowed k j) = e ∙ sym j

pub turns_one : {m : Shape} {n turns : ℕ} {f g : Faults} → AfterTurns m n turns f → AfterTurns m n turns g → f ≡ g
turns_one none none = refl
turns_one {m = m} {n = n} {g = g} (turn {turns = t} x y) (turn z u) =
    takes_one y (subst (λ q. Takes m q (fault_of_turn m (turn_state n t)) g) (sym (turns_one x z)) u)
