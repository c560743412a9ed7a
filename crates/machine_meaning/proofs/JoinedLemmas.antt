-- Laws of joined wires.
use Rattle.machine_meaning.proofs.Vocabulary.{◌≡◌, ℕ, Bool, true, false, Some, None, Option, unwrap_or, false≢true, Shape}
use Rattle.machine_shape.specs.Shape.{Ends, in_order, turned}
use Rattle.machine_meaning.specs.Vocabulary.{Faults, stuck_cross, Net, Linked, crossed, bridged, Joined, here, then, net_of, Shorted}

pub Ends-swap : {p : ℕ × ℕ} {a b : ℕ} → Ends p a b → Ends p b a
Ends-swap (in_order s t) = turned s t
Ends-swap (turned s t) = in_order s t

pub Linked-sym : {net : Net} {a b : ℕ} → Linked net a b → Linked net b a
Linked-sym (crossed x on at) = crossed x on (Ends-swap at)
Linked-sym (bridged p is at) = bridged p is (Ends-swap at)

pub Joined-trans : {net : Net} {a b c : ℕ} → Joined net a b → Joined net b c → Joined net a c
Joined-trans p here = p
Joined-trans p (then q l) = then (Joined-trans p q) l

pub Joined-sym : {net : Net} {a b : ℕ} → Joined net a b → Joined net b a
Joined-sym here = here
Joined-sym (then q l) = Joined-trans (then here (Linked-sym l)) (Joined-sym q)

conducts_also : (o : Option Bool) (a b : Bool) → (a ≡ true → b ≡ true) → unwrap_or o a ≡ true → unwrap_or o b ≡ true
conducts_also None a b h = h
conducts_also (Some v) a b h = λ e. e

module _ (m : Shape) (f : Faults) (closed more : ℕ → Bool) (h : (x : ℕ) → closed x ≡ true → more x ≡ true) where
  pub Joined-mono : {a b : ℕ} → Joined (net_of m f closed) a b → Joined (net_of m f more) a b
  Joined-mono here = here
  Joined-mono (then q (crossed x on at)) = then (Joined-mono q) (crossed x (conducts_also (stuck_cross f x) (closed x) (more x) (h x) on) at)
  Joined-mono (then q (bridged p is at)) = then (Joined-mono q) (bridged p is at)

module _ (m : Shape) (f : Faults) (closed : ℕ → Bool) where
  pub Joined-Shorted : {a b : ℕ} → Shorted m f a b → Joined (net_of m f closed) a b
  Joined-Shorted s = Joined-mono m f (λ _. false) closed (λ x e. absurd (false≢true e)) s
