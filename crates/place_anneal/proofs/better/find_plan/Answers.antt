use Rattle.place_anneal.proofs.Vocabulary.{◌≡◌, ◌≤◌, ◌∙◌, ℕ, List, ap, length, length-take, take, arith, length_permutation, Seat}
use Rattle.place_anneal.proofs.Seating.{found_is}
use Rattle.place_anneal.proofs.better.find_plan.Goals as goal

pub slice_bounds-first-end : goal.slice_bounds-first-end
slice_bounds-first-end c =
    let seats : List Seat = c.in_ok-seats.seats.items in
    let moved : List Seat = c.in_ok-moved.moved.items in
    let same : length moved ≡ length seats = length_permutation seats moved c.in_ok-moved.ensures in
    let here : length c.deref.result.now ≡ length moved = ap length c.deref.ensures.value in
    omega (arith, length-take (length c.as_slice-tables.result.now) c.deref.result.now, same, here, c.in_ok-seats.ensures.enough)

pub returns-clause-plan : goal.returns-clause-plan
returns-clause-plan c =
    let D = c.args.defects.now in
    let p = c.args.plan.now in
    let seats : List Seat = c.in_ok-seats.seats.items in
    let moved : List Seat = c.in_ok-moved.moved.items in
    let k : ℕ = length c.as_slice-tables.result.now in
    let same : length moved ≡ length seats = length_permutation seats moved c.in_ok-moved.ensures in
    let enough : k ≤ length moved = omega (arith, same, c.in_ok-seats.ensures.enough) in
    found_is D.shape D.list c.args.network.now p _ seats moved (take k c.deref.result.now) k
    c.requires c.in_ok-seats.ensures.free c.in_ok-moved.ensures
    (ap length c.as_slice-tables.ensures) enough (ap (take k) c.deref.ensures.value) c.in_ok-tables.ensures
    (c.in_ok-inputs.ensures ∙ c.as_slice.ensures) (c.in_ok-outputs.ensures ∙ c.as_slice-2.ensures)

pub returns-clause-pins : goal.returns-clause-pins
returns-clause-pins c = record {
  inputs = c.in_ok-inputs.ensures ∙ c.as_slice.ensures;
  outputs = c.in_ok-outputs.ensures ∙ c.as_slice-2.ensures;
}
