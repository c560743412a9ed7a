-- The in-order plan, once there are tables and pins for it.
use Rattle.place_plan.proofs.Vocabulary.{◌≡◌, ◌≤◌, ◌+◌, ℕ, List, length, min, ap, ◌∙◌, subst, arith, Shape, most_ticks, Defects, Network}
use Rattle.place_plan.proofs.Vocabulary.{Plan, Need, AreThose, AreNeeds, IsFreeTableOf, IsFreePinOf, IsInOrder, IsInOrderOf, IsPlan}
use Rattle.place_plan.proofs.Fitting.{needs_are, have_is, in_order_is, plan_is}

-- what is known once tables and pins suffice
pub record Known (m : Shape) (d : Defects) (n : Network) (p : Plan) (tables pins : Need) : Type 0 where
  pub needs : AreNeeds m d n tables pins
  pub plan : IsPlan m d n p
  pub in_order : IsInOrder m d n p

pub known : (m : Shape) (d : Defects) (n : Network) (p : Plan) (free_tables free_pins ts ps us vs : List ℕ) (tables pins : Need) (s : Shape) (most : ℕ) → AreThose (IsFreeTableOf m d) free_tables → AreThose (IsFreePinOf m d) free_pins → ts ≡ free_tables → ps ≡ free_pins → us ≡ free_tables → vs ≡ free_pins →
    s ≡ m → most ≡ most_ticks s → tables.need ≡ length n.tables → tables.have ≡ min (length ts) most → pins.need ≡ n.inputs + length n.outputs → pins.have ≡ length ps → tables.need ≤ tables.have → pins.need ≤ pins.have → IsInOrderOf n us vs p → Known m d n p tables pins
known m d n p free_tables free_pins ts ps us vs tables pins s most a b e f g h same mt tn th pn ph tm pm sits = record {
  needs = needs_are m d n free_tables free_pins tables pins a b tn th' pn ph';
  plan = plan_is m d n p free_tables free_pins a b t q on;
  in_order = in_order_is m d n p free_tables free_pins a b t q on;
}
  where
    th' : tables.have ≡ min (length free_tables) (most_ticks m)
    th' = have_is m d n tables.have most ts free_tables s th e mt same

    ph' : pins.have ≡ length free_pins
    ph' = ph ∙ ap length f

    t : length n.tables ≤ length free_tables
    t = omega (arith, tn, th', tm)

    q : n.inputs + length n.outputs ≤ length free_pins
    q = subst (λ z. z ≤ length free_pins) pn (subst (λ z. pins.need ≤ z) ph' pm)

    on : IsInOrderOf n free_tables free_pins p
    on = subst (λ z. IsInOrderOf n free_tables z p) h (subst (λ z. IsInOrderOf n z vs p) g sits)
