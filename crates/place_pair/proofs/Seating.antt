-- What a plan of a joint network gives to each of the two.
use Rattle.std.proofs.Common.{◌≡◌, ◌≢◌, ℕ, ◌+◌, ◌<◌, ◌≤◌, List, Option, length, get_or, sym, ap, ◌∙◌, subst, arith}
use Rattle.place_pair.proofs.Vocabulary.{All, AllPairs, get_or-map, length-map, Shape, Defects, ImageValue, Network, IsNetwork, Layout}
use Rattle.place_pair.proofs.Vocabulary.{Plan, Port, AreOwners, AreWiresOf, IsRouteOf, numbering, laid_by, wires_are, Site, StandsIn}
use Rattle.machine_shape.specs.declared.Table.{Table}
use Rattle.machine_shape.specs.Vocabulary.{tables_of, wires_of, IsNumbered, IsTree, HasParents, HasTaps, HasCrosses, HasMeanings, HasSites}
use Rattle.place_plan.specs.Vocabulary.{IsLayout, number_of, places, IsPlan}

module _ (m : Shape) (d : Defects) (joint : Network) (p : Plan) (plan : IsPlan m d joint p) where
  seat_is : (j : ℕ) (t : Table) → j < length p.tables → get_or (places p) j 0 ≡ (get_or p.tables j t).0
  seat_is j t l = get_or-map number_of p.tables j t 0 l

  placed : (j : ℕ) → j < length p.tables → j < length (places p)
  placed j l = let e = length-map p.tables number_of in omega (arith, l, e)

  pub seats_within : All (λ t. t.0 < tables_of m) p.tables
  seats_within j t l = subst (λ z. z < tables_of m) (seat_is j t l) (plan.tables_within j 0 (placed j l))

  pub seats_apart : AllPairs (λ t u. t.0 ≢ u.0) p.tables
  seats_apart i j t l h e = plan.tables_different i j 0 l (placed j h) (seat_is i t (omega (arith, l, h)) ∙ e ∙ sym (seat_is j t h))

  module _ (s : Site) (n : Network) (stands : StandsIn s n joint) where
    pub seats_for : s.table + length n.tables ≤ length p.tables
    seats_for = let e = plan.tables in let f = stands.tables_within in omega (arith, e, f)

    module _ (whole : ImageValue) (route : IsRouteOf m d joint p whole) where
      pub inputs_for : s.input + n.inputs ≤ length whole.inputs
      inputs_for = let e = ap length route.inputs in let f = plan.inputs in let g = stands.inputs in omega (arith, e, f, g)

      pub outputs_for : s.output + length n.outputs ≤ length whole.outputs
      outputs_for = let e = ap length route.outputs in let f = plan.outputs in let g = stands.outputs_within in omega (arith, e, f, g)

-- the terminals, ports and lines of a layout are wires
pub layout_wires : ((m : Shape) → IsNumbered m) → ((m : Shape) → IsTree m) → ((m : Shape) → HasParents m) → ((m : Shape) → HasMeanings m) → ((m : Shape) → HasTaps m) → ((m : Shape) → HasCrosses m) → ((m : Shape) → HasSites m) →
    (m : Shape) (d : Defects) (joint : Network) (p : Plan) (l : Layout) → IsNetwork joint → IsPlan m d joint p → IsLayout m d joint p l → AreWiresOf m l.nets.items l.ports.items l.visits.items
layout_wires numbered tree parents meanings taps crosses sites m d joint p l network plan layout =
    wires_are m d joint p l.nets.items l.ports.items l.visits.items (numbering numbered tree parents meanings taps crosses sites m) network plan (laid_by m d joint p l layout)

-- so many owners as the whole's machine has wires
pub owners_for : (m : Shape) (d : Defects) (joint : Network) (p : Plan) (nets : List (List ℕ)) (ports : List Port) (owners : List (Option ℕ)) (whole : ImageValue) → AreOwners m nets ports owners → IsRouteOf m d joint p whole → length owners ≡ wires_of whole.config.shape
owners_for m d joint p nets ports owners whole are route = are.sized ∙ ap wires_of (sym route.routed.shape)
