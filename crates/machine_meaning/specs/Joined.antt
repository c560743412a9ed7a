-- Which wires are joined, and which are shorted.
use Rattle.std.specs.Prelude.{◌≡◌, ℕ, Bool, true, false, List, [], ◌∷◌, unwrap_or}
use Rattle.machine_shape.specs.{declared.Shape.Shape, Shape.Ends, Shape.ends_of}
use Rattle.machine_meaning.specs.Faults.{Faults, stuck_cross, is_bridge}

-- how the wires hang together: which crosspoints conduct, and which pairs of wires are bridges
pub record Net : Type 0 where
  pub shape : Shape
  pub conducts : ℕ → Bool
  pub is_bridge : ℕ × ℕ → Bool

-- two wires are the ends of a crosspoint that conducts, or of a bridge
pub data Linked (net : Net) (a b : ℕ) : Type 0 where
  crossed : (x : ℕ) → net.conducts x ≡ true → Ends (ends_of net.shape x) a b → Linked net a b
  bridged : (p : ℕ × ℕ) → net.is_bridge p ≡ true → Ends p a b → Linked net a b

-- a walk leads from one wire to the other
pub data Joined (net : Net) (a : ℕ) : ℕ → Type 0 where
  here : Joined net a a
  then : {b c : ℕ} → Joined net a b → Linked net b c → Joined net a c

-- where these crosspoints are closed: one conducts if it is stuck closed, or closed and not stuck open
abbrev pub net_of : Shape → Faults → (ℕ → Bool) → Net
net_of m f closed = record { shape = m; conducts = λ x. unwrap_or (stuck_cross f x) (closed x); is_bridge = is_bridge f }

-- a walk over crosspoints that are stuck closed and bridges alone leads from one to the other
abbrev pub Shorted : Shape → Faults → ℕ → ℕ → Type 0
Shorted m f a b = Joined (net_of m f (λ _. false)) a b

-- the net of the closed crosspoints alone, as where there are no faults
abbrev pub plain_net : Shape → (ℕ → Bool) → Net
plain_net m closed = record { shape = m; conducts = closed; is_bridge = λ _. false }

-- each two neighbours of a, these wires and b are linked
abbrev pub IsWalk : Net → ℕ → List ℕ → ℕ → Type 0
IsWalk net a [] b = a ≡ b
IsWalk net a (w ∷ ws) b = Linked net a w × IsWalk net w ws b

-- a finite list of wires leads from one to the other
abbrev pub JoinedByList : Net → ℕ → ℕ → Type 0
JoinedByList net a b = (ws : List ℕ) × IsWalk net a ws b
