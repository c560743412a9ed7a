-- What sound wires are joined to.
use Rattle.machine_meaning.proofs.Vocabulary.{◌≡◌, ℕ, Bool, true, Some, None, Option, refl, Shape}
use Rattle.machine_shape.specs.Shape.{Ends, ends_of}
use Rattle.machine_meaning.specs.Vocabulary.{Faults, stuck_cross, Linked, crossed, bridged, Joined, here, then, net_of, IsSoundWire}

module _ (m : Shape) (f : Faults) (closed within : ℕ → Bool) (sound : (w : ℕ) → within w ≡ true → IsSoundWire m f w) (stay : (x a b : ℕ) → closed x ≡ true → Ends (ends_of m x) a b → within a ≡ true → within b ≡ true) where
  stays_within : {a b : ℕ} → within a ≡ true → Linked (net_of m f closed) a b → within b ≡ true
  stays_within {a} {b} is (bridged p on at) = rw ((sound a is).alone b (then here (bridged p on at))) is
  stays_within {a} {b} is (crossed x on at) = by_stuck (stuck_cross f x) refl
    where
      by_stuck : (o : Option Bool) → stuck_cross f x ≡ o → within b ≡ true
      by_stuck None e = stay x a b (rw e at on) at is
      by_stuck (Some v) e = rw ((sound a is).alone b (then here (crossed x (rw e (rw e at on)) at))) is

  pub joined_within : {a b : ℕ} → within a ≡ true → Joined (net_of m f closed) a b → within b ≡ true
  joined_within is here = is
  joined_within is (then j l) = stays_within (joined_within is j) l
