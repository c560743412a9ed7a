use Rattle.place_plan.proofs.Vocabulary.{◌≡◌, ◌<◌, ◌≤◌, ◌+◌, ◌^◌, List, length, sym, ap, ◌∙◌, subst, arith, All, Shape, tables_of, pins_of}
use Rattle.place_plan.proofs.Vocabulary.{DefectList, Network, NetTable, IsNetwork, Plan, Terminal, IsPlan, nets_in, IsSized, all_terminals}
use Rattle.place_plan.proofs.PlanNets.{sized_is, nets_small, plan_nets}
use Rattle.place_plan.proofs.terminals.nets_of_plan.Goals as goal

-- what is few on an equal machine is few here, so the plan has its sizes
sized_on : (D : DefectList) (n : Network) (p : Plan) (s : Shape) → IsNetwork n → IsPlan D.shape D.list n p → s ≡ D.shape → tables_of s ≤ 65536 → pins_of s ≤ 16384 → IsSized D.shape n p
sized_on D n p s network plan e tables pins = sized_is D.shape D.list n p network plan (subst (λ (z : Shape). tables_of z ≤ 65536) e tables) (subst (λ (z : Shape). pins_of z ≤ 16384) e pins)

-- these are the terminals on an equal machine
all_on : (m : Shape) (n : Network) (p : Plan) (s : Shape) (given made : List Terminal) → s ≡ m → given ≡ made → made ≡ all_terminals s n p → given ≡ all_terminals m n p
all_on m n p s given made e f is = f ∙ is ∙ ap (λ (z : Shape). all_terminals z n p) e

pub terminals_of-requires : goal.terminals_of-requires
terminals_of-requires c =
    let n = c.args.network.now in
    let p = c.args.plan.now in
    subst (λ (z : Shape). IsSized z n p) (sym c.shape-shape.ensures.shape) (sized_on c.args.defects.now n p c.shape-shape.result c.requires.network c.requires.plan c.shape-shape.ensures.shape c.places_are_few.ensures.tables c.places_are_few.ensures.pins)

pub overflow_add-count : goal.overflow_add-count
overflow_add-count c =
    let n = c.args.network.now in
    let s : IsSized c.args.defects.now.shape n c.args.plan.now = sized_on c.args.defects.now n c.args.plan.now c.shape-shape.result c.requires.network c.requires.plan c.shape-shape.ensures.shape c.places_are_few.ensures.tables c.places_are_few.ensures.pins in
    let l : length c.as_slice.result.now ≡ length n.tables = ap (λ (z : List NetTable). length z) c.as_slice.ensures in
    let a : n.inputs + length c.args.plan.now.tables < 2 ^ 32 = s.numbers in
    let b : length n.tables ≡ length c.args.plan.now.tables = s.tables in
    omega arith

pub grouped-requires : goal.grouped-requires
grouped-requires c =
    let D = c.args.defects.now in
    let n = c.args.network.now in
    let p = c.args.plan.now in
    let l : n.inputs + length c.as_slice.result.now ≡ nets_in n = ap (λ (z : List NetTable). n.inputs + length z) c.as_slice.ensures in
    let e : c.deref.result.now ≡ all_terminals D.shape n p = all_on D.shape n p c.shape-shape.result _ _ c.shape-shape.ensures.shape c.deref.ensures.value c.in_ok-terminals.ensures in
    subst (λ z. All (λ (t : Terminal). t.net.0 < z) c.deref.result.now) (sym l) (nets_small D.shape D.list n p c.requires.network c.requires.plan (c.the_numbering_is_sound.ensures.numbered D.shape) c.deref.result.now e)

pub returns : goal.returns
returns c =
    let D = c.args.defects.now in
    let n = c.args.network.now in
    let p = c.args.plan.now in
    let count = n.inputs + length c.as_slice.result.now in
    let s : IsSized D.shape n p = sized_on D n p c.shape-shape.result c.requires.network c.requires.plan c.shape-shape.ensures.shape c.places_are_few.ensures.tables c.places_are_few.ensures.pins in
    let l : count ≡ nets_in n = ap (λ (z : List NetTable). n.inputs + length z) c.as_slice.ensures in
    let few : count < 2 ^ 32 = let b : length n.tables ≡ length p.tables = s.tables in let a : n.inputs + length p.tables < 2 ^ 32 = s.numbers in omega arith in
    let e : c.deref.result.now ≡ all_terminals D.shape n p = all_on D.shape n p c.shape-shape.result _ _ c.shape-shape.ensures.shape c.deref.ensures.value c.in_ok-terminals.ensures in
    plan_nets D.shape D.list n p c.requires.network c.requires.plan (c.the_numbering_is_sound.ensures.numbered D.shape) c.deref.result.now c.in_ok-nets.nets.items count e l few c.in_ok-nets.ensures
