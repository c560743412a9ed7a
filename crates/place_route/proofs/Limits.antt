-- The image of a route is within the limits of its machine.
use Rattle.std.proofs.Common.{◌≡◌, ◌⊎◌, ℕ, ◌*◌, ◌<◌, ◌≤◌, Bool, true, false, if◌then◌else◌, IsSome, length, sym, ◌∙◌, subst, inl, inr, arith, List}
use Rattle.place_route.proofs.Vocabulary.{Contains, false≢true, cases_Bool, get_or_default, length-map, Shape, is_small, levels_of}
use Rattle.place_route.proofs.Vocabulary.{most_closed, most_ticks, wires_of, small_is, Defects, Configuration, setting_of, tables_on}
use Rattle.place_route.proofs.Vocabulary.{Network, Plan, Port, Visit, IsPlan, places, place_of, number_of, IsRouted}
use Rattle.std.specs.FinSet as set
use Rattle.machine_shape.proofs.Totals.{wires_are}
use Rattle.machine_image.proofs.Counted.{on_few}

small_wires : (m : Shape) → is_small m.counts ≡ true → wires_of m ≤ 16384
unfolding wires_of levels_of
small_wires m s = (small_is m.counts s).1

-- a machine closes two crosspoints for each wire
pub wires_twice : (m : Shape) → 2 * wires_of m ≤ most_closed m
unfolding most_closed
wires_twice m = by (cases_Bool (is_small m.counts))
  where
    chosen : (b : Bool) → b ≡ true → wires_of m ≤ 16384 → 2 * wires_of m ≤ (if b then 1048576 else 3670016)
    chosen true e le = omega (arith, le)
    chosen false e le = absurd (false≢true e)

    other : (b : Bool) → b ≡ false → 2 * wires_of m ≤ (if b then 1048576 else 3670016)
    other true e = absurd (false≢true (sym e))
    other false e = let few = (wires_are m).1 in omega (arith, few)

    by : (is_small m.counts ≡ true) ⊎ (is_small m.counts ≡ false) → 2 * wires_of m ≤ (if is_small m.counts then 1048576 else 3670016)
    by (inl s) = chosen (is_small m.counts) s (small_wires m s)
    by (inr s) = other (is_small m.counts) s

module _ (m : Shape) (d : Defects) (n : Network) (p : Plan) (ports : List Port) (visits : List Visit) (plan : IsPlan m d n p) (g : Configuration) (routed : IsRouted m d n p ports visits g) where
  pub closed_fit : set.len g.closed ≤ most_closed g.shape
  closed_fit = subst (λ s. set.len g.closed ≤ most_closed s) (sym routed.shape) (let few = routed.few in let most = wires_twice m in omega (arith, few, most))

  -- a table that is on is one of the plan's
  on_place : (t : ℕ) → IsSome (setting_of g t) → Contains (places p) t
  on_place t on = let r = routed.sets.no_others t on in at r.0 r.1 r.2
    where
      at : (j : ℕ) → j < length n.tables → place_of p j ≡ t → Contains (places p) t
      at j l e = let within : j < length (places p) = (let a = length-map p.tables number_of in let b = plan.tables in omega (arith, l, a, b)) in (j, within, get_or_default (places p) j t 0 within ∙ e)

  pub on_fit : length n.tables ≤ most_ticks m → length (tables_on g) ≤ most_ticks g.shape
  on_fit few =
      let on = on_few g (places p) on_place in
      let a = length-map p.tables number_of in
      let b = plan.tables in
      subst (λ s. length (tables_on g) ≤ most_ticks s) (sym routed.shape) (omega (arith, on, a, b, few))
