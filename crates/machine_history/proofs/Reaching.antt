-- What is used of a whole by a tenant that faults leave alone.
use Rattle.std.proofs.Common.{◌≡◌, ℕ, Bool, true, Some, None, Option, refl, sym, subst}
use Rattle.machine_history.proofs.Vocabulary.{Shape, Ends, ends_of}
use Rattle.machine_meaning.specs.Vocabulary.{Faults, stuck_cross, stuck_wire, Linked, crossed, bridged, Joined, here, then, Shorted, net_of, plain_net, IsClear, Circuit, Table, Outputs, Pins, Pulls, IsHeld, IsValue, held_0, held_1, pulled, released}

-- v is shorted to a wire of the tenant that its own crosspoints join to w
pub record IsReached (m : Shape) (f : Faults) (mine : ℕ → Bool) (used : ℕ → Type 0) (w v : ℕ) : Type 0 where
  pub wire : ℕ
  pub is_used : used wire
  pub plain : Joined (plain_net m mine) w wire
  pub shorted : Shorted m f wire v

module _ (m : Shape) (f : Faults) (closed mine : ℕ → Bool) (used whole : ℕ → Type 0)
    (ends : (x a b : ℕ) → closed x ≡ true → Ends (ends_of m x) a b → whole a)
    (only : (x a b : ℕ) → closed x ≡ true → Ends (ends_of m x) a b → used a → mine x ≡ true)
    (mine_ends : (x a b : ℕ) → mine x ≡ true → Ends (ends_of m x) a b → used b)
    (alone : (w u : ℕ) → used w → whole u → Shorted m f w u → w ≡ u) where
  over : {w v u : ℕ} (x : ℕ) → closed x ≡ true → Ends (ends_of m x) v u → IsReached m f mine used w v → IsReached m f mine used w u
  over {w} {v} {u} x on at r =
      let same : r.wire ≡ v = alone r.wire v r.is_used (ends x v u on at) r.shorted in
      let own : mine x ≡ true = only x v u on at (subst used same r.is_used) in
      record {
        wire = u;
        is_used = mine_ends x v u own at;
        plain = then (subst (Joined (plain_net m mine) w) same r.plain) (crossed x own at);
        shorted = here;
      }

  further : {w v u : ℕ} → Linked (net_of m f closed) v u → IsReached m f mine used w v → IsReached m f mine used w u
  further (bridged p is at) r = record { wire = r.wire; is_used = r.is_used; plain = r.plain; shorted = then r.shorted (bridged p is at) }
  further {w} {v} {u} (crossed x on at) r = by_stuck (stuck_cross f x) refl
    where
      by_stuck : (o : Option Bool) → stuck_cross f x ≡ o → IsReached m f mine used w u
      by_stuck None e = over x (rw e at on) at r
      by_stuck (Some b) e = record { wire = r.wire; is_used = r.is_used; plain = r.plain; shorted = then r.shorted (crossed x (rw e (rw e at on)) at) }

  pub reached : {w v : ℕ} → used w → Joined (net_of m f closed) w v → IsReached m f mine used w v
  reached {w} is here = record { wire = w; is_used = is; plain = here; shorted = here }
  reached is (then j l) = further l (reached is j)

  pub joined_plainly : {w v : ℕ} → used w → whole v → Joined (net_of m f closed) w v → Joined (plain_net m mine) w v
  joined_plainly {w} {v} is of j =
      let r = reached is j in
      subst (Joined (plain_net m mine) w) (alone r.wire v r.is_used of r.shorted) r.plain

  pub used_still : {w v : ℕ} → used w → whole v → Joined (net_of m f closed) w v → used v
  used_still {w} {v} is of j =
      let r = reached is j in
      subst used (alone r.wire v r.is_used of r.shorted) r.is_used

  -- nothing of the tenant is stuck open, and no wire of it hangs on a stuck one
  module _ (within : (x : ℕ) → mine x ≡ true → closed x ≡ true) (conducts : (x : ℕ) → mine x ≡ true → (net_of m f closed).conducts x ≡ true) (clear : (w : ℕ) → used w → IsClear m f w) where
    pub none_stuck : {w v : ℕ} → used w → Joined (net_of m f closed) w v → stuck_wire f v ≡ None
    none_stuck {w} {v} is j = let r = reached is j in clear r.wire r.is_used v r.shorted

    pub joined_still : {w v : ℕ} → Joined (plain_net m mine) w v → Joined (net_of m f closed) w v
    joined_still here = here
    joined_still (then j (crossed x on at)) = then (joined_still j) (crossed x (conducts x on) at)
    joined_still (then j (bridged p is at)) = cc

    -- at one instant: where the drivers of both are the same, so are the values of the tenant's wires
    module _ (table other : ℕ → Option Table) (ticks more : ℕ) (drive lone : Pins) (outputs own : Outputs) where
      abbrev pub among_all : Circuit
      among_all = record { net = net_of m f closed; stuck = stuck_wire f; table = table; ticks = ticks }

      abbrev pub by_itself : Circuit
      by_itself = record { net = plain_net m mine; stuck = λ _. None; table = other; ticks = more }

      pub value_alone : (of_whole : (v : ℕ) → Pulls among_all drive outputs v → whole v) → (fewer : (v : ℕ) → used v → Pulls among_all drive outputs v → Pulls by_itself lone own v) →
          (all : (v : ℕ) → Pulls by_itself lone own v → Pulls among_all drive outputs v) → {w : ℕ} {b : Bool} → used w → IsValue among_all drive outputs w b → IsValue by_itself lone own w b
      value_alone of_whole fewer all is (held_0 h) = absurd (no_stuck (sym (none_stuck is h.joined)) h.stuck)
        where
          no_stuck : {o : Option Bool} {b : Bool} → None ≡ o → o ≡ Some b → ⊥
          no_stuck e d = cc
      value_alone of_whole fewer all is (held_1 n h) = absurd (no_stuck (sym (none_stuck is h.joined)) h.stuck)
        where
          no_stuck : {o : Option Bool} {b : Bool} → None ≡ o → o ≡ Some b → ⊥
          no_stuck e d = cc
      value_alone of_whole fewer all is (pulled n k p) =
          let of = of_whole p.place p.pulls in
          pulled (λ h. no_held h) (λ h. no_held h) (record { place = p.place; joined = joined_plainly is of p.joined; pulls = fewer p.place (used_still is of p.joined) p.pulls })
        where
          no_held : {w : ℕ} {b : Bool} → IsHeld by_itself w b → ⊥
          no_held h = let e = h.stuck in cc
      value_alone of_whole fewer all is (released n k p) =
          released (λ h. no_held h) (λ h. no_held h) (λ q. p (record { place = q.place; joined = joined_still q.joined; pulls = all q.place q.pulls }))
        where
          no_held : {w : ℕ} {b : Bool} → IsHeld by_itself w b → ⊥
          no_held h = let e = h.stuck in cc
