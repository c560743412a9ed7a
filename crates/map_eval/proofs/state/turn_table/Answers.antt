use Rattle.std.proofs.Common.{◌≡◌, ◌<◌, ◌∙◌, ℕ, [], length, refl, sym, ap, subst, arith, false, not}
use Rattle.map_eval.proofs.Vocabulary.{with_items, get_or_default, number_at, is_marked, AreMarked, pins_at, value_in}
use Rattle.map_eval.proofs.StateLemmas.{pins_ready, pins_apart, whole_items, table_kept, table_turned_at}
use Rattle.map_eval.proofs.state.turn_table.Goals as goal

pub turn_pins-requires-clause-pins : goal.turn_pins-requires-clause-pins
turn_pins-requires-clause-pins c =
    let l = c.requires.plan.pins.len in
    let w = c.requires.within in
    pins_ready c.args.plan.now c.args.table c.as_slice.result.now c.deref_mut-2.result.now c.requires.plan (c.as_slice.ensures ∙ c.index-3.ensures ∙ get_or_default c.args.plan.now.pins.items c.args.table c.index-3.result.now [] (omega arith)) (ap length c.deref_mut-2.ensures.value ∙ c.requires.kept.sized.pins.len)

pub turn_pins-requires-clause-apart : goal.turn_pins-requires-clause-apart
turn_pins-requires-clause-apart c =
    let l = c.requires.plan.pins.len in
    let w = c.requires.within in
    pins_apart c.args.plan.now c.args.table c.as_slice.result.now c.requires.plan (c.as_slice.ensures ∙ c.index-3.ensures ∙ get_or_default c.args.plan.now.pins.items c.args.table c.index-3.result.now [] (omega arith))

-- what is known once the pins are turned
module _ (c : goal.After-state-5-1) where
  value_is : c.index.result.now ≡ value_in c.args.state.now.values.items c.args.table
  value_is =
      let v = c.requires.kept.sized.values in
      let w = c.requires.within in
      c.index.ensures ∙ get_or_default c.args.state.now.values.items c.args.table c.index.result.now false (omega arith)

  mask_is : c.index-2.result.now ≡ number_at c.args.state.now.masks.items c.args.table
  mask_is =
      let m = c.requires.kept.sized.masks.len in
      let w = c.requires.within in
      c.index-2.ensures ∙ get_or_default c.args.state.now.masks.items c.args.table c.index-2.result.now 0 (omega arith)

  mask_fits : c.index-2.result.now < 18446744073709551616
  mask_fits = omega arith

  pins_are : c.as_slice.result.now ≡ pins_at c.args.plan.now.pins.items c.args.table
  pins_are =
      let l = c.requires.plan.pins.len in
      let w = c.requires.within in
      c.as_slice.ensures ∙ c.index-3.ensures ∙ get_or_default c.args.plan.now.pins.items c.args.table c.index-3.result.now [] (omega arith)

  addresses_are : (with_items c.args.state.now.addresses c.turn_pins.new.addresses).items ≡ c.turn_pins.new.addresses
  addresses_are = whole_items c.args.state.now.addresses c.turn_pins.new.addresses (c.turn_pins.ensures.turned.len ∙ ap length c.deref_mut-2.ensures.value)

  marks_are : (with_items (with_items c.args.state.now.marks c.turn_mark.new.marks) c.turn_pins.new.marks).items ≡ c.turn_pins.new.marks
  marks_are = whole_items (with_items c.args.state.now.marks c.turn_mark.new.marks) c.turn_pins.new.marks (c.turn_pins.ensures.len ∙ ap length c.deref_mut-3.ensures.value)

  this_mark : is_marked c.turn_mark.new.marks c.args.table ≡ not (is_marked c.args.state.now.marks.items c.args.table)
  this_mark = c.turn_mark.ensures.this ∙ ap (λ ms. not (is_marked ms c.args.table)) c.deref_mut.ensures.value

  other_marks : (t : ℕ) → (t ≡ c.args.table → ⊥) → is_marked c.turn_mark.new.marks t ≡ is_marked c.args.state.now.marks.items t
  other_marks t d = c.turn_mark.ensures.others t d ∙ ap (λ ms. is_marked ms t) c.deref_mut.ensures.value

  as_many : length c.turn_mark.new.marks ≡ length c.args.state.now.marks.items
  as_many = c.turn_mark.ensures.len ∙ ap length c.deref_mut.ensures.value

  marks_before : c.deref_mut-3.result.now ≡ c.turn_mark.new.marks
  marks_before = c.deref_mut-3.ensures.value ∙ whole_items c.args.state.now.marks c.turn_mark.new.marks as_many

  len_is : length c.turn_pins.new.marks ≡ length c.args.state.now.marks.items
  len_is = c.turn_pins.ensures.len ∙ (ap length marks_before ∙ as_many)

  still_marked : AreMarked c.deref.result.now c.deref_mut-2.result.now c.turn_mark.new.marks → AreMarked c.deref.result.now c.turn_pins.new.addresses c.turn_pins.new.marks
  still_marked h = c.turn_pins.ensures.marked (subst (AreMarked c.deref.result.now c.deref_mut-2.result.now) (sym marks_before) h)

pub returns-clause-kept : goal.returns-clause-kept
returns-clause-kept c =
    table_kept c.args.plan.now c.args.state.now _ c.args.table c.index.result.now c.index-2.result.now c.as_slice.result.now c.deref_mut-2.result.now c.deref.result.now c.turn_mark.new.marks c.requires.plan c.requires.within c.requires.kept
    (value_is c) (mask_is c) (mask_fits c) refl refl refl (pins_are c) c.deref_mut-2.ensures.value c.deref.ensures.value c.turn_pins.new.addresses c.turn_pins.new.marks (addresses_are c) (marks_are c) c.turn_pins.ensures.turned (this_mark c) (other_marks c) (len_is c) (still_marked c)

pub returns-clause-turned : goal.returns-clause-turned
returns-clause-turned c =
    table_turned_at c.args.plan.now c.args.state.now _ c.args.table c.index.result.now c.index-2.result.now c.as_slice.result.now c.deref_mut-2.result.now c.deref.result.now c.turn_mark.new.marks c.requires.plan c.requires.within c.requires.kept
    (value_is c) (mask_is c) (mask_fits c) refl refl refl (pins_are c) c.deref_mut-2.ensures.value c.deref.ensures.value c.turn_pins.new.addresses c.turn_pins.new.marks (addresses_are c) (marks_are c) c.turn_pins.ensures.turned (this_mark c) (other_marks c) (len_is c) (still_marked c)
