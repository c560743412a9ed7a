-- What wires of two groups are joined to, and walks within a group.
use Rattle.std.proofs.Common.{◌≡◌, ◌⊎◌, ◌<◌, ℕ, Bool, true, false, Some, None, Option, List, [], ◌∷◌, ◌++◌, refl, sym, subst, inl, inr, arith, ◌==◌}
use Rattle.machine_config.proofs.Vocabulary.{AllByRecursion, nat_tests, Shape, Ends, in_order, turned, ends_of, crosses_of, among, IsWithin}
use Rattle.machine_config.proofs.Vocabulary.{AreGroups, LeadsTo, ends, goes, Ends-swap, Joined-sym, Joined-trans}
use Rattle.machine_meaning.specs.Vocabulary.{Faults, stuck_cross, stuck_wire, Net, Linked, crossed, bridged, Joined, here, then, Shorted, net_of}

-- the two ends of a crosspoint within a group
within_near : {m : Shape} {group : ℕ → Bool} {x a b : ℕ} → IsWithin m group x → Ends (ends_of m x) a b → group a ≡ true
within_near {group = group} h (in_order s t) = subst (λ w. group w ≡ true) s h.tap
within_near {group = group} h (turned s t) = subst (λ w. group w ≡ true) t h.line

within_far : {m : Shape} {group : ℕ → Bool} {x a b : ℕ} → IsWithin m group x → Ends (ends_of m x) a b → group b ≡ true
within_far h at = within_near h (Ends-swap at)

-- v is shorted to a wire of the group
pub record IsHangingOn (m : Shape) (f : Faults) (group : ℕ → Bool) (v : ℕ) : Type 0 where
  pub wire : ℕ
  pub inside : group wire ≡ true
  pub shorted : Shorted m f wire v

pub groups_turned : {m : Shape} {f : Faults} {closed left right : ℕ → Bool} → AreGroups m f closed left right → AreGroups m f closed right left
groups_turned {m} {left = left} {right = right} g = record {
  within = λ x on. either x (g.within x on);
  left_clear = g.right_clear;
  right_clear = g.left_clear;
  apart = λ w u i o s. g.apart u w o i (Joined-sym s);
}
  where
    either : (x : ℕ) → IsWithin m left x ⊎ IsWithin m right x → IsWithin m right x ⊎ IsWithin m left x
    either x (inl h) = inr h
    either x (inr h) = inl h

module _ {m : Shape} {f : Faults} {closed left right : ℕ → Bool} (g : AreGroups m f closed left right) where
  across : {v u : ℕ} (x : ℕ) → IsWithin m left x ⊎ IsWithin m right x → Ends (ends_of m x) v u → IsHangingOn m f left v → IsHangingOn m f left u
  across {u = u} x (inl h) at r = record { wire = u; inside = within_far h at; shorted = here }
  across {v = v} x (inr h) at r = absurd (g.apart r.wire v r.inside (within_near h at) r.shorted)

  further : {v u : ℕ} → Linked (net_of m f closed) v u → IsHangingOn m f left v → IsHangingOn m f left u
  further (bridged p is at) r = record { wire = r.wire; inside = r.inside; shorted = then r.shorted (bridged p is at) }
  further {v} {u} (crossed x on at) r = by_stuck (stuck_cross f x) refl
    where
      by_stuck : (o : Option Bool) → stuck_cross f x ≡ o → IsHangingOn m f left u
      by_stuck None e = across x (g.within x (rw e at on)) at r
      by_stuck (Some b) e = record { wire = r.wire; inside = r.inside; shorted = then r.shorted (crossed x (rw e (rw e at on)) at) }

  hangs : {w v : ℕ} → left w ≡ true → Joined (net_of m f closed) w v → IsHangingOn m f left v
  hangs {w} is here = record { wire = w; inside = is; shorted = here }
  hangs is (then j l) = further l (hangs is j)

  -- a wire of the left group is joined to no stuck wire
  pub left_unstuck : {w v : ℕ} → left w ≡ true → Joined (net_of m f closed) w v → stuck_wire f v ≡ None
  left_unstuck {w} {v} is j = let r = hangs is j in g.left_clear r.wire r.inside v r.shorted

  -- nor to a wire of the right group
  pub left_apart : {w v : ℕ} → left w ≡ true → right v ≡ true → ¬ Joined (net_of m f closed) w v
  left_apart {w} {v} is on j = let r = hangs is j in g.apart r.wire v r.inside on r.shorted

-- Where the wires of two groups aren't shorted, a wire that is shorted to one of the left is shorted to none of
-- the right. So one that isn't apart from the left is apart from the right.
pub apart_from_one : (m : Shape) (f : Faults) (left right : ℕ → Bool) (t : ℕ) → ((w u : ℕ) → left w ≡ true → right u ≡ true → ¬ Shorted m f w u) →
    ¬ ((u : ℕ) → right u ≡ true → ¬ Shorted m f t u) → (w : ℕ) → left w ≡ true → ¬ Shorted m f w t
apart_from_one m f left right t apart n w is s = n (λ u on r. apart w u is on (Joined-trans s r))

-- walks
pub LeadsTo-push : {m : Shape} {a e b : ℕ} {xs ws : List ℕ} (x : ℕ) → x < crosses_of m → LeadsTo m a xs ws e → Ends (ends_of m x) e b → LeadsTo m a (xs ++ x ∷ []) (ws ++ b ∷ []) b
LeadsTo-push x h ends at = goes h at ends
LeadsTo-push x h (goes below s more) at = goes below s (LeadsTo-push x h more at)

-- one walk after another
pub LeadsTo-then : {m : Shape} {a e d : ℕ} {xs ws ys vs : List ℕ} → LeadsTo m a xs ws e → LeadsTo m e ys vs d → (us : List ℕ) × LeadsTo m a (xs ++ ys) us d
LeadsTo-then {vs = vs} ends q = (vs, q)
LeadsTo-then {a = a} (goes below at p) q = let r = LeadsTo-then p q in (a ∷ r.0, goes below at r.1)

-- a walk over crosspoints that conduct joins its start to its end
pub LeadsTo-joined : {net : Net} {a e : ℕ} {xs ws : List ℕ} → LeadsTo net.shape a xs ws e → AllByRecursion (λ x. net.conducts x ≡ true) xs → Joined net a e
LeadsTo-joined ends on = here
LeadsTo-joined (goes {x = x} below at more) on = Joined-trans (then here (crossed x on.0 at)) (LeadsTo-joined more on.1)

among_head : (a w : ℕ) (ws : List ℕ) → a ≡ w → among (a ∷ ws) w ≡ true
among_head a w ws e = grind (arith, nat_tests)

among_tail : (a w : ℕ) (ws : List ℕ) → among ws w ≡ true → among (a ∷ ws) w ≡ true
among_tail a w ws e = grind (arith, nat_tests)

pub LeadsTo-start : {m : Shape} {a e : ℕ} {xs ws : List ℕ} → LeadsTo m a xs ws e → among ws a ≡ true
LeadsTo-start {a = a} ends = among_head a a [] refl
LeadsTo-start {a = a} (goes {ws = ws} below at more) = among_head a a ws refl

pub LeadsTo-end : {m : Shape} {a e : ℕ} {xs ws : List ℕ} → LeadsTo m a xs ws e → among ws e ≡ true
LeadsTo-end {e = e} ends = among_head e e [] refl
LeadsTo-end {a = a} {e = e} (goes {ws = ws} below at more) = among_tail a e ws (LeadsTo-end more)

ends_among : {m : Shape} (ws : List ℕ) {x a b : ℕ} → Ends (ends_of m x) a b → among ws a ≡ true → among ws b ≡ true → IsWithin m (among ws) x
ends_among ws (in_order s t) p q = record { tap = subst (λ w. among ws w ≡ true) (sym s) p; line = subst (λ w. among ws w ≡ true) (sym t) q }
ends_among ws (turned s t) p q = record { tap = subst (λ w. among ws w ≡ true) (sym s) q; line = subst (λ w. among ws w ≡ true) (sym t) p }

within_more : {m : Shape} (ws : List ℕ) {x : ℕ} (a : ℕ) → IsWithin m (among ws) x → IsWithin m (among (a ∷ ws)) x
within_more {m} ws {x} a h = record { tap = among_tail a (ends_of m x).0 ws h.tap; line = among_tail a (ends_of m x).1 ws h.line }

first_or_later : (y x : ℕ) (xs : List ℕ) → among (y ∷ xs) x ≡ true → (y ≡ x) ⊎ (among xs x ≡ true)
first_or_later y x xs is = by_test (y == x) refl
  where
    by_test : (t : Bool) → (y == x) ≡ t → (y ≡ x) ⊎ (among xs x ≡ true)
    by_test true e = inl (grind (arith, nat_tests))
    by_test false e = inr (grind (arith, nat_tests))

-- each crosspoint of a walk is one of the machine
pub LeadsTo-below : {m : Shape} {a e : ℕ} {xs ws : List ℕ} → LeadsTo m a xs ws e → (x : ℕ) → among xs x ≡ true → x < crosses_of m
LeadsTo-below ends x is = cc
LeadsTo-below {m} (goes {x = y} {xs = ys} below at more) x is = step (LeadsTo-below more x) (first_or_later y x ys is)
  where
    step : (among ys x ≡ true → x < crosses_of m) → (y ≡ x) ⊎ (among ys x ≡ true) → x < crosses_of m
    step later (inl e) = subst (λ k. k < crosses_of m) e below
    step later (inr h) = later h

-- and within its wires
pub LeadsTo-within : {m : Shape} {a e : ℕ} {xs ws : List ℕ} → LeadsTo m a xs ws e → (x : ℕ) → among xs x ≡ true → IsWithin m (among ws) x
LeadsTo-within ends x is = cc
LeadsTo-within {m} {a} (goes {b = b} {x = y} {xs = ys} {ws = ws} below at more) x is = step (LeadsTo-within more x) (first_or_later y x ys is)
  where
    step : (among ys x ≡ true → IsWithin m (among ws) x) → (y ≡ x) ⊎ (among ys x ≡ true) → IsWithin m (among (a ∷ ws)) x
    step later (inl e) = subst (IsWithin m (among (a ∷ ws))) e (ends_among (a ∷ ws) at (among_head a a ws refl) (among_tail a b ws (LeadsTo-start more)))
    step later (inr h) = within_more ws a (later h)
