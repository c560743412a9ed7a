-- What an image does that is made of a plan.
use Rattle.std.proofs.Common.{◌≡◌, ◌⊎◌, ℕ, ◌<◌, ◌≤◌, Bool, true, false, map, if◌then◌else◌, nat_lt, refl, sym, ◌∙◌, subst, inl, inr, arith}
use Rattle.place_route.proofs.Vocabulary.{cases_lt, false≢true, lt-ltb, Shape, IsNumbered, IsTree, Faults, Defects, Covers, is_closed}
use Rattle.place_route.proofs.Vocabulary.{Network, IsNetwork, IsDeepest, AreRows, HasRowsOf, Plan, IsPlan, IsTerminal}
use Rattle.design_netlist.specs.declared.netlist_data.NetlistData.{NetlistData}
use Rattle.machine_image.specs.Vocabulary.{ImageValue, image_row, IsFreeImage}
use Rattle.place_route.specs.Vocabulary.{IsRightImage, ReadsRows, image_at, HasLine, IsLaidOnTree, AreTicks, HasPortIn, IsRouteOf}
use Rattle.place_route.proofs.Routed.{set_is_free, tree_reads_rows}

pub ticks_enough : (n : Network) (ticks : ℕ) → AreTicks n ticks → IsDeepest n ticks
ticks_enough n ticks r j k path = by (nat_lt 0 r.0) refl (r.1.longest j k path) r.2
  where
    by : (b : Bool) → nat_lt 0 r.0 ≡ b → k ≤ r.0 → ticks ≡ (if b then r.0 else 1) → k ≤ ticks
    by true e l t = omega (arith, t)
    by false e l t = low (cases_lt 0 r.0)
      where
        low : (0 < r.0) ⊎ (r.0 ≤ 0) → k ≤ ticks
        low (inl h) = absurd (false≢true (sym e ∙ lt-ltb 0 r.0 h))
        low (inr h) = omega (arith, t, l, h)

module _ (numbered : (m : Shape) → IsNumbered m) (tree : (m : Shape) → IsTree m) (m : Shape) (d : Defects) (n : Network) (p : Plan) (i : ImageValue) (plan : IsPlan m d n p) (is : IsRouteOf m d n p i) where
  its : i ≡ image_at p i.config
  its = λ k. record { config = i.config; inputs = is.inputs k; outputs = is.outputs k }

  back : m ≡ i.config.shape
  back = sym is.routed.shape

  its_plan : IsPlan i.config.shape d n p
  its_plan = subst (λ s. IsPlan s d n p) back plan

  pub route_is_free : IsFreeImage d i
  route_is_free = subst (IsFreeImage d) (sym its) (set_is_free d n p i.config its_plan is.routed.sets)

  module _ (network : IsNetwork n) where
    pub route_reads : (f : Faults) → Covers m d f → ReadsRows f i (AreRows n)
    route_reads f covers = subst (λ j. ReadsRows f j (AreRows n)) (sym its)
        (tree_reads_rows d n p i.config its_plan (HasLine is.visits) (HasPortIn is.ports) (numbered i.config.shape) (tree i.config.shape) network
        (subst (λ s. IsLaidOnTree s (IsTerminal s n p) (is_closed i.config) (HasLine is.visits) (HasPortIn is.ports)) back is.routed.laid) f is.routed.sets
        (ticks_enough n i.config.ticks is.ticks) (subst (λ s. Covers s d f) back covers))

pub right_image : (n : Network) (netlist : NetlistData) (f : Faults) (i : ImageValue) → HasRowsOf n netlist → ReadsRows f i (AreRows n) → IsRightImage f i netlist
right_image n netlist f i has reads vectors got long run = (has vectors (map (image_row i) got)).1 (reads vectors got long run)
