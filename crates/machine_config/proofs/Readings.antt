-- What readings show of the wires that a pin is joined to.
use Rattle.std.proofs.Common.{◌≡◌, ◌≢◌, ℕ, ◌<◌, Bool, true, false, Some, None, Option, List, [], ◌∷◌, get_or, refl, sym, ap, ◌∙◌, subst, arith, unwrap_or}
use Rattle.machine_config.proofs.Vocabulary.{AllByRecursion, pin_wire, pins_of, Joined-trans, Joined-sym, Joined-Shorted, swings, apart}
use Rattle.std.proofs.lemmas.List.FromFn.{get_or-map-range_with_len}
use Rattle.machine_meaning.specs.Vocabulary.{Faults, stuck_cross, Net, Joined, here, then, crossed, Shorted, net_of, Circuit, Outputs, Pins, IsValue, IsHeld, IsClear}
use Rattle.machine_config.specs.Vocabulary.{Cycle, Cycles, none, cycle, LeadsTo, ends, goes, Configuration, is_closed, IsRun}

module _ {c : Circuit} {before after : Outputs} {drive read : Pins} where
  -- what a pin reads is its wire's value
  pub pin_value : (s : Cycle c before drive read after) (k : ℕ) {b : Bool} → k < pins_of c.net.shape → get_or read k true ≡ b → IsValue c drive s.outputs (pin_wire c.net.shape k) b
  pin_value s k h e =
      let is : s.value (pin_wire c.net.shape k) ≡ get_or read k true = sym (ap (λ r. get_or r k true) s.reads ∙ get_or-map-range_with_len (λ j. s.value (pin_wire c.net.shape j)) 0 (pins_of c.net.shape) k k true h (omega arith)) in
      subst (IsValue c drive s.outputs (pin_wire c.net.shape k)) (is ∙ e) (s.values _)

-- a route's wires are joined to where it starts
pub LeadsTo-all : {net : Net} {start a e : ℕ} {xs ws : List ℕ} → Joined net start a → LeadsTo net.shape a xs ws e → AllByRecursion (λ x. net.conducts x ≡ true) xs → AllByRecursion (λ w. Joined net start w) ws
LeadsTo-all j ends on = (j, tt)
LeadsTo-all j (goes {x = x} below at more) on = (j, LeadsTo-all (then j (crossed x on.0 at)) more on.1)

clear_of : (o : Option Bool) → ((b : Bool) → o ≡ Some b → ⊥) → o ≡ None
clear_of None n = refl
clear_of (Some b) n = absurd (n b refl)

-- a pin that is read differently at two times is joined to no stuck wire
by_values : {c : Circuit} {first later : Pins} {x y : Outputs} {w : ℕ} (a b : Bool) → IsValue c first x w a → IsValue c later y w b → a ≢ b → (v : Bool) → ¬ IsHeld c w v
by_values false true p q n = swings p q
by_values true false p q n = swings q p
by_values true true p q n = absurd (n refl)
by_values false false p q n = absurd (n refl)

pub swings_free : {c : Circuit} {first later r q : Pins} {x y : Outputs} (k : ℕ) → Cycles c x (first ∷ later ∷ []) (r ∷ q ∷ []) y → k < pins_of c.net.shape → get_or r k true ≢ get_or q k true → (b : Bool) → ¬ IsHeld c (pin_wire c.net.shape k) b
swings_free k (cycle s (cycle t none)) h n = by_values _ _ (pin_value s k h refl) (pin_value t k h refl) n

-- pins that are read differently at one time aren't joined
by_two_values : {c : Circuit} {drive : Pins} {x : Outputs} {v w : ℕ} (a b : Bool) → IsValue c drive x v a → IsValue c drive x w b → a ≢ b → ¬ Joined c.net v w
by_two_values false true p q n = apart p q
by_two_values true false p q n = λ j. apart q p (Joined-sym j)
by_two_values true true p q n = absurd (n refl)
by_two_values false false p q n = absurd (n refl)

pub reads_apart : {c : Circuit} {drive r : Pins} {x y : Outputs} (k l : ℕ) → Cycles c x (drive ∷ []) (r ∷ []) y → k < pins_of c.net.shape → l < pins_of c.net.shape → get_or r k true ≢ get_or r l true → ¬ Joined c.net (pin_wire c.net.shape k) (pin_wire c.net.shape l)
reads_apart k l (cycle s none) hk hl n = by_two_values _ _ (pin_value s k hk refl) (pin_value s l hl refl) n

module _ (f : Faults) (g : Configuration) where
  pub swing_clears : {first later r q : Pins} (k w : ℕ) → IsRun f g (first ∷ later ∷ []) (r ∷ q ∷ []) → k < pins_of g.shape → get_or r k true ≢ get_or q k true → Joined (net_of g.shape f (is_closed g)) (pin_wire g.shape k) w → IsClear g.shape f w
  swing_clears k w run h n j u s = clear_of _ (λ b e. swings_free k run.cycles h n b (record { place = u; joined = Joined-trans j (Joined-Shorted g.shape f (is_closed g) s); stuck = e }))

  pub apart_separates : {drive r : Pins} (k l w u : ℕ) → IsRun f g (drive ∷ []) (r ∷ []) → k < pins_of g.shape → l < pins_of g.shape → get_or r k true ≢ get_or r l true → Joined (net_of g.shape f (is_closed g)) (pin_wire g.shape k) w → Joined (net_of g.shape f (is_closed g)) (pin_wire g.shape l) u → ¬ Shorted g.shape f w u
  apart_separates k l w u run hk hl n jk jl s = reads_apart k l run.cycles hk hl n (Joined-trans jk (Joined-trans (Joined-Shorted g.shape f (is_closed g) s) (Joined-sym jl)))

  pub conducting : (o : Option Bool) (b : Bool) → b ≡ true → o ≡ None → unwrap_or o b ≡ true
  conducting o b is free = rw free is

  pub all_conduct : (xs : List ℕ) → AllByRecursion (λ x. is_closed g x ≡ true) xs → AllByRecursion (λ x. stuck_cross f x ≡ None) xs → AllByRecursion (λ x. (net_of g.shape f (is_closed g)).conducts x ≡ true) xs
  all_conduct [] p q = tt
  all_conduct (x ∷ xs) p q = (conducting (stuck_cross f x) (is_closed g x) p.0 q.0, all_conduct xs p.1 q.1)

  pub route_joined : {a e : ℕ} {xs ws : List ℕ} → LeadsTo g.shape a xs ws e → AllByRecursion (λ x. is_closed g x ≡ true) xs → AllByRecursion (λ x. stuck_cross f x ≡ None) xs → AllByRecursion (λ w. Joined (net_of g.shape f (is_closed g)) a w) ws
  route_joined {xs = xs} l p q = LeadsTo-all here l (all_conduct xs p q)
