-- Free wires, and walks over closed crosspoints.
use Rattle.std.proofs.Common.{◌≡◌, ℕ, ◌<◌, Bool, true, None, Option, unwrap_or}
use Rattle.machine_image.proofs.Vocabulary.{false≢true, Shape, Ends, ends_of, wires_of, crosses_of, Configuration, setting_of}
use Rattle.machine_meaning.specs.Vocabulary.{Faults, stuck_cross, crossed, bridged, Joined, here, then, net_of, plain_net, Outputs, Defects, IsFreeWire, IsFreeCross, Covers}

conducting : (o : Option Bool) (b : Bool) → b ≡ true → o ≡ None → unwrap_or o b ≡ true
conducting o b is free = rw free is

-- free crosspoints join as without faults
pub joined_too : (m : Shape) (closed : ℕ → Bool) (d : Defects) (f : Faults) → Covers m d f → ((x : ℕ) → closed x ≡ true → (x < crosses_of m) × IsFreeCross m d x) → {a b : ℕ} → Joined (plain_net m closed) a b → Joined (net_of m f closed) a b
joined_too m closed d f covers free here = here
joined_too m closed d f covers free (then j (crossed x on at)) = then (joined_too m closed d f covers free j) (crossed x (conducting (stuck_cross f x) (closed x) on (covers.crosses x (free x on).0 (free x on).1)) at)
joined_too m closed d f covers free (then j (bridged p is at)) = absurd (false≢true is)

-- a free wire of the machine
pub record IsGood (m : Shape) (d : Defects) (w : ℕ) : Type 0 where
  pub within : w < wires_of m
  pub free : IsFreeWire d w

-- each table that is off gives 1
abbrev pub IsOff : Configuration → Outputs → Type 0
IsOff g o = (t : ℕ) → setting_of g t ≡ None → o t ≡ true

-- what each closed crosspoint keeps, a walk keeps
pub keeps : (m : Shape) (closed : ℕ → Bool) (P : ℕ → Type 0) → ((x a b : ℕ) → closed x ≡ true → Ends (ends_of m x) a b → P a → P b) → {a b : ℕ} → Joined (plain_net m closed) a b → P a → P b
keeps m closed P stay here p = p
keeps m closed P stay (then j (crossed x on at)) p = stay x _ _ on at (keeps m closed P stay j p)
keeps m closed P stay (then j (bridged q is at)) p = absurd (false≢true is)
