-- Configurations that differ at a distance from a wire.
use Rattle.std.specs.Prelude.{◌≡◌, ◌≢◌, ℕ, true}
use Rattle.machine_shape.specs.Shape.{Ends, ends_of}
use Rattle.machine_meaning.specs.Vocabulary.{Faults, Joined, net_of}
use Rattle.machine_config.specs.Configuration.{Configuration, is_closed}

-- h closes no more than g. Each crosspoint that it opens, but for x, has an end that isn't joined to the wire q in g.
pub record OpensFarFrom (f : Faults) (g h : Configuration) (x q : ℕ) : Type 0 where
  pub shape : h.shape ≡ g.shape
  pub fewer : (y : ℕ) → is_closed h y ≡ true → is_closed g y ≡ true
  pub far : (y a b : ℕ) → is_closed g y ≢ is_closed h y → y ≢ x → Ends (ends_of g.shape y) a b →
      Joined (net_of g.shape f (is_closed g)) q a → Joined (net_of g.shape f (is_closed g)) q b → ⊥
