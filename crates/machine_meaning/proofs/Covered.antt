-- What free wires are joined to, over free crosspoints, where a list covers the faults.
use Rattle.machine_meaning.proofs.Vocabulary.{◌≡◌, ℕ, ◌<◌, Bool, true, Some, None, Option, refl, subst, Shape}
use Rattle.machine_shape.specs.Shape.{Ends, in_order, turned, ends_of, wires_of, crosses_of}
use Rattle.machine_meaning.specs.Vocabulary.{Faults, stuck_cross, stuck_wire, Linked, crossed, bridged, Joined, here, then, Shorted, net_of, plain_net, Defects, IsFreeWire, IsFreeCross, Covers}
use Rattle.machine_meaning.proofs.JoinedLemmas.{Ends-swap}

-- v is shorted to a free wire that the closed crosspoints alone join to w
pub record IsReached (m : Shape) (d : Defects) (f : Faults) (closed : ℕ → Bool) (w v : ℕ) : Type 0 where
  pub wire : ℕ
  pub within : wire < wires_of m
  pub free : IsFreeWire d wire
  pub plain : Joined (plain_net m closed) w wire
  pub shorted : Shorted m f wire v

module _ (m : Shape) (d : Defects) (f : Faults) (closed : ℕ → Bool) (covers : Covers m d f) (ranges : (x a b : ℕ) → x < crosses_of m → Ends (ends_of m x) a b → a < wires_of m) (free : (x : ℕ) → closed x ≡ true → (x < crosses_of m) × IsFreeCross m d x) where
  free_end : {x a b : ℕ} → closed x ≡ true → Ends (ends_of m x) a b → IsFreeWire d a
  free_end {x} on (in_order s t) = subst (IsFreeWire d) s (free x on).1.tap
  free_end {x} on (turned s t) = subst (IsFreeWire d) t (free x on).1.line

  -- over a closed crosspoint, the wire is itself the free one
  over : {w v u : ℕ} (x : ℕ) → closed x ≡ true → Ends (ends_of m x) v u → IsReached m d f closed w v → IsReached m d f closed w u
  over {w} {v} {u} x on at r =
      let same : r.wire ≡ v = covers.pairs r.wire v r.within (ranges x v u (free x on).0 at) r.free (free_end on at) r.shorted in
      record {
        wire = u;
        within = ranges x u v (free x on).0 (Ends-swap at);
        free = free_end on (Ends-swap at);
        plain = then (subst (Joined (plain_net m closed) w) same r.plain) (crossed x on at);
        shorted = here;
      }

  further : {w v u : ℕ} → Linked (net_of m f closed) v u → IsReached m d f closed w v → IsReached m d f closed w u
  further (bridged p is at) r = record { wire = r.wire; within = r.within; free = r.free; plain = r.plain; shorted = then r.shorted (bridged p is at) }
  further {w} {v} {u} (crossed x on at) r = by_stuck (stuck_cross f x) refl
    where
      by_stuck : (o : Option Bool) → stuck_cross f x ≡ o → IsReached m d f closed w u
      by_stuck None e = over x (rw e at on) at r
      by_stuck (Some b) e = record { wire = r.wire; within = r.within; free = r.free; plain = r.plain; shorted = then r.shorted (crossed x (rw e (rw e at on)) at) }

  pub reached : {w v : ℕ} → w < wires_of m → IsFreeWire d w → Joined (net_of m f closed) w v → IsReached m d f closed w v
  reached {w} h is here = record { wire = w; within = h; free = is; plain = here; shorted = here }
  reached h is (then j l) = further l (reached h is j)

  -- so a free wire is joined to no stuck wire
  pub none_stuck : {w v : ℕ} → w < wires_of m → IsFreeWire d w → Joined (net_of m f closed) w v → stuck_wire f v ≡ None
  none_stuck {w} {v} h is j = let r = reached h is j in covers.wires r.wire r.within r.free v r.shorted

  -- and to another free wire only over closed crosspoints
  pub joined_plainly : {w v : ℕ} → w < wires_of m → v < wires_of m → IsFreeWire d w → IsFreeWire d v → Joined (net_of m f closed) w v → Joined (plain_net m closed) w v
  joined_plainly {w} {v} h k is on j =
      let r = reached h is j in
      subst (Joined (plain_net m closed) w) (covers.pairs r.wire v r.within k r.free on r.shorted) r.plain
