use Rattle.std.proofs.Common.{◌≡◌, ◌∙◌, refl, sym, ap, subst, arith}
use Rattle.diag_growth.proofs.Vocabulary.{Shape, pins_of, advances_then, IsFieldOf}
use Rattle.diag_growth.proofs.Circling.{first_marks, first_over, first_unspent, grows_nothing, growing_next, growing_closed, growing_few, growing_start, spread_first, spread_in, spread_most, spread_next}
use Rattle.diag_growth.proofs.{Ending.grows_in, Taken.no_loads, Taken.takes_none, Taken.takes_most, Taken.takes_few, Explained.held}
use Rattle.diag_growth.proofs.rounds.grow_tried.Goals as goal

pub returns-in_default-clause-loads : goal.returns-in_default-clause-loads
returns-in_default-clause-loads g c = no_loads c.args.facts.now c.args.field.now _ c.requires.field

pub returns-in_default-clause-grows : goal.returns-in_default-clause-grows
returns-in_default-clause-grows g c = grows_nothing c.args.known.now.steps

pub returns-in_default-clause-few_each : goal.returns-in_default-clause-few_each
returns-in_default-clause-few_each g c = λ f e. takes_none c.requires.field refl

pub look_on-requires-clause-marks : goal.look_on-requires-clause-marks
look_on-requires-clause-marks g c = first_over c.requires.field (record { len = c.in-Ok.ensures.len; offered = c.in-Ok.ensures.offered; second = c.in-Ok.ensures.second; between = c.in-Ok.ensures.between })

pub returns-in_err-look_on-clause-known : goal.returns-in_err-look_on-clause-known
returns-in_err-look_on-clause-known g c = c.look_on.ensures.grows.known

pub returns-in_err-look_on-clause-all : goal.returns-in_err-look_on-clause-all
returns-in_err-look_on-clause-all g c = c.look_on.ensures.grows.all

pub returns-in_err-look_on-clause-grows : goal.returns-in_err-look_on-clause-grows
returns-in_err-look_on-clause-grows g c = grows_in c.in-Ok.ensures.barred c.in-Ok.ensures.len c.look_on.ensures.grows

pub returns-in_err-look_on-clause-loads : goal.returns-in_err-look_on-clause-loads
returns-in_err-look_on-clause-loads g c = takes_most c.requires.field c.in-Ok.ensures.barred (first_unspent (record { len = c.in-Ok.ensures.len; offered = c.in-Ok.ensures.offered; second = c.in-Ok.ensures.second; between = c.in-Ok.ensures.between })) c.look_on.ensures.spends

pub returns-in_err-look_on-clause-few_each : goal.returns-in_err-look_on-clause-few_each
returns-in_err-look_on-clause-few_each g c = λ f e. takes_few c.requires.field c.in-Ok.ensures.barred (first_unspent (record { len = c.in-Ok.ensures.len; offered = c.in-Ok.ensures.offered; second = c.in-Ok.ensures.second; between = c.in-Ok.ensures.between })) c.look_on.ensures.spends (c.look_on.ensures.spends_each f e (first_marks c.requires.field (record { len = c.in-Ok.ensures.len; offered = c.in-Ok.ensures.offered; second = c.in-Ok.ensures.second; between = c.in-Ok.ensures.between })))

pub pins-init : goal.pins-init
pins-init g c = record {
  advances = c.look_on.ensures.advances;
  start = c.in-Ok.marks;
  spread = spread_first c.in-Ok.ensures.barred (record { len = c.in-Ok.ensures.len; offered = c.in-Ok.ensures.offered; second = c.in-Ok.ensures.second; between = c.in-Ok.ensures.between }) c.look_on.ensures.grows c.look_on.ensures.marks c.look_on.ensures.spends;
  growing_each = λ f e. growing_start c.requires.field (record { len = c.in-Ok.ensures.len; offered = c.in-Ok.ensures.offered; second = c.in-Ok.ensures.second; between = c.in-Ok.ensures.between }) (c.in_ok-look_on.ensures.tried_each f e) (c.in_ok-look_on.ensures.grown_each f e)
      (c.in_ok-look_on.ensures.marks_each f e) (c.look_on.ensures.spends_each f e);
}

pub grow_pin-requires-clause-known : goal.grow_pin-requires-clause-known
grow_pin-requires-clause-known g c = c.pins.invariant.spread.grows.known

pub grow_pin-requires-clause-all : goal.grow_pin-requires-clause-all
grow_pin-requires-clause-all g c = c.pins.invariant.spread.grows.all

pub grow_pin-requires-clause-marks : goal.grow_pin-requires-clause-marks
grow_pin-requires-clause-marks g c = c.pins.invariant.spread.over

pub grow_pin-requires-clause-field : goal.grow_pin-requires-clause-field
grow_pin-requires-clause-field g c = subst (λ (m : Shape). IsFieldOf m c.args.field.now) (sym c.pins.invariant.advances.more.shape) c.requires.field

pub grow_pin-requires-clause-pin : goal.grow_pin-requires-clause-pin
grow_pin-requires-clause-pin g c =
    let end : c.pins-pin-end.result ≡ pins_of c.pins.facts.shape = c.pins-pin-end.ensures.pins ∙ ap pins_of (c.shape-shape.ensures ∙ sym c.pins.invariant.advances.more.shape) in
    omega (arith, end)

pub returns-in_err-grow_pin-clause-known : goal.returns-in_err-grow_pin-clause-known
returns-in_err-grow_pin-clause-known g c = c.grow_pin.ensures.grows.known

pub returns-in_err-grow_pin-clause-all : goal.returns-in_err-grow_pin-clause-all
returns-in_err-grow_pin-clause-all g c = c.grow_pin.ensures.grows.all

pub returns-in_err-grow_pin-clause-grows : goal.returns-in_err-grow_pin-clause-grows
returns-in_err-grow_pin-clause-grows g c = spread_in c.pins.invariant.spread c.grow_pin.ensures.grows

pub returns-in_err-grow_pin-clause-loads : goal.returns-in_err-grow_pin-clause-loads
returns-in_err-grow_pin-clause-loads g c = spread_most c.pins.invariant.spread c.requires.field c.pins.invariant.advances.more c.grow_pin.ensures.spends

pub returns-in_err-grow_pin-clause-few_each : goal.returns-in_err-grow_pin-clause-few_each
returns-in_err-grow_pin-clause-few_each g c = λ f e. let before = c.grow_pin.ensures.advances.narrows f e in let old = c.pins.invariant.growing_each f before in
    growing_few c.pins.invariant.spread c.requires.field c.pins.invariant.advances.more c.grow_pin.ensures.spends
    (held c.pins.invariant.advances before) old (c.grow_pin.ensures.spends_each f e old.marks)

pub pins-preserved : goal.pins-preserved
pins-preserved g c =
    let old = c.pins.invariant in
    record {
      advances = advances_then old.advances c.grow_pin.ensures.advances;
      start = old.start;
      spread = spread_next old.advances.more c.grow_pin.ensures.advances.more old.spread c.grow_pin.ensures.grows c.in_ok-grow_pin.ensures.pin c.grow_pin.ensures.marks c.grow_pin.ensures.spends;
      growing_each = λ f e. let before = c.grow_pin.ensures.advances.narrows f e in let each = old.growing_each f before in
          growing_next old.advances.more (held old.advances before) c.grow_pin.ensures.advances.more each c.grow_pin.ensures.grows (c.in_ok-grow_pin.ensures.tried_each f e each.marks)
          (c.in_ok-grow_pin.ensures.grown_each f e each.marks each.grown) (c.in_ok-grow_pin.ensures.marks_each f e each.marks) (c.grow_pin.ensures.spends_each f e each.marks);
    }

pub returns-clause-known : goal.returns-clause-known
returns-clause-known g c = c.pins.invariant.spread.grows.known

pub returns-clause-all : goal.returns-clause-all
returns-clause-all g c = c.pins.invariant.spread.grows.all

pub returns-clause-grows : goal.returns-clause-grows
returns-clause-grows g c = grows_in c.pins.invariant.spread.outside c.pins.invariant.spread.len c.pins.invariant.spread.grows

pub returns-clause-closed_each : goal.returns-clause-closed_each
returns-clause-closed_each g c =
    let shape = c.pins.invariant.advances.more.shape in
    let end : c.pins-pin-end.result ≡ pins_of c.pins.facts.shape = c.pins-pin-end.ensures.pins ∙ ap pins_of (c.shape-shape.ensures ∙ sym shape) in
    λ f e. growing_closed (subst (λ (m : Shape). IsFieldOf m c.args.field.now) (sym shape) c.requires.field) (c.the_numbering_is_sound.ensures.tree c.pins.facts.shape) (c.the_crosspoints_are_sound.ensures.meetings c.pins.facts.shape)
    (omega (arith, end)) c.pins.invariant.spread (c.pins.invariant.growing_each f e)

pub returns-clause-loads : goal.returns-clause-loads
returns-clause-loads g c = takes_most c.requires.field c.pins.invariant.spread.outside c.pins.invariant.spread.unspent c.pins.invariant.spread.spends

pub returns-clause-few_each : goal.returns-clause-few_each
returns-clause-few_each g c = λ f e. takes_few c.requires.field c.pins.invariant.spread.outside c.pins.invariant.spread.unspent c.pins.invariant.spread.spends (c.pins.invariant.growing_each f e).few
