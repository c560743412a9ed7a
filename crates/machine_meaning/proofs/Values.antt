-- Laws of the value of a wire.
use Rattle.machine_meaning.proofs.Vocabulary.{◌≡◌, ℕ, Bool, true, false, refl, false≢true}
use Rattle.std.proofs.Math.Path.{fun_ext}
use Rattle.machine_meaning.specs.Vocabulary.{Joined, Circuit, Outputs, Pins, IsHeld, IsPulled, IsValue, held_0, held_1, pulled, released, AreValues}
use Rattle.machine_meaning.proofs.JoinedLemmas.{Joined-trans, Joined-sym}

pub IsHeld-along : {c : Circuit} {v w : ℕ} {b : Bool} → Joined c.net w v → IsHeld c v b → IsHeld c w b
IsHeld-along j h = record { place = h.place; joined = Joined-trans j h.joined; stuck = h.stuck }

module _ {c : Circuit} {drive : Pins} {outputs : Outputs} where
  pub IsPulled-along : {v w : ℕ} → Joined c.net w v → IsPulled c drive outputs v → IsPulled c drive outputs w
  IsPulled-along j h = record { place = h.place; joined = Joined-trans j h.joined; pulls = h.pulls }

  -- what is joined has one value
  pub IsValue-along : {v w : ℕ} {b : Bool} → Joined c.net w v → IsValue c drive outputs v b → IsValue c drive outputs w b
  IsValue-along j (held_0 h) = held_0 (IsHeld-along j h)
  IsValue-along j (held_1 n h) = held_1 (λ x. n (IsHeld-along (Joined-sym j) x)) (IsHeld-along j h)
  IsValue-along j (pulled n m h) = pulled (λ x. n (IsHeld-along (Joined-sym j) x)) (λ x. m (IsHeld-along (Joined-sym j) x)) (IsPulled-along j h)
  IsValue-along j (released n m k) = released (λ x. n (IsHeld-along (Joined-sym j) x)) (λ x. m (IsHeld-along (Joined-sym j) x)) (λ x. k (IsPulled-along (Joined-sym j) x))

  -- a wire has one value at most
  pub IsValue-unique : {w : ℕ} {a b : Bool} → IsValue c drive outputs w a → IsValue c drive outputs w b → a ≡ b
  IsValue-unique (held_0 h) (held_1 n _) = absurd (n h)
  IsValue-unique (held_0 h) (released n _ _) = absurd (n h)
  IsValue-unique (held_1 n _) (held_0 h) = absurd (n h)
  IsValue-unique (held_1 _ h) (pulled _ n _) = absurd (n h)
  IsValue-unique (pulled _ n _) (held_1 _ h) = absurd (n h)
  IsValue-unique (pulled _ _ h) (released _ _ n) = absurd (n h)
  IsValue-unique (released n _ _) (held_0 h) = absurd (n h)
  IsValue-unique (released _ _ n) (pulled _ _ h) = absurd (n h)
  IsValue-unique _ _ = refl

  pub AreValues-unique : {x y : ℕ → Bool} → AreValues c drive outputs x → AreValues c drive outputs y → x ≡ y
  AreValues-unique p q = fun_ext (λ w. IsValue-unique (p w) (q w))

  -- wires that are read differently at one time aren't joined
  pub apart : {v w : ℕ} → IsValue c drive outputs v false → IsValue c drive outputs w true → ¬ Joined c.net v w
  apart p q j = false≢true (IsValue-unique p (IsValue-along j q))

  not_held_0 : {w : ℕ} → IsValue c drive outputs w true → ¬ IsHeld c w false
  not_held_0 (held_1 n _) = n
  not_held_0 (released n _ _) = n

  not_held_1 : {w : ℕ} → ¬ IsHeld c w false → IsValue c drive outputs w false → ¬ IsHeld c w true
  not_held_1 m (held_0 h) = absurd (m h)
  not_held_1 m (pulled _ n _) = n

-- a wire that is read 0 at one time and 1 at another is joined to no stuck wire
pub swings : {c : Circuit} {low high : Pins} {before after : Outputs} {w : ℕ} → IsValue c low before w false → IsValue c high after w true → (b : Bool) → ¬ IsHeld c w b
swings p q false = not_held_0 q
swings p q true = not_held_1 (not_held_0 q) p
