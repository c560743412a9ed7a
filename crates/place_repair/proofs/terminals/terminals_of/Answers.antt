use Rattle.std.proofs.Common.{◌≡◌, ℕ, [], List, length, replicate, sym, ap, ◌∙◌, subst}
use Rattle.place_repair.proofs.Vocabulary.{take_at, length-replicate, Configuration, inputs_within, outputs_within}
use Rattle.place_repair.specs.Making.{AreSizedFor, AreTerminalsOf, IsAdded, IsPinTerminal, IsTableTerminal}
use Rattle.place_repair.proofs.Adding.{terminals_made}
use Rattle.place_repair.proofs.terminals.terminals_of.Goals as goal

pub add_pins-requires-clause-plan : goal.add_pins-requires-clause-plan
add_pins-requires-clause-plan c = subst (λ (g : Configuration). AreSizedFor g c.args.plan.now) (sym c.config-config.ensures.config) c.requires

pub add_pins-requires-clause-sized : goal.add_pins-requires-clause-sized
add_pins-requires-clause-sized c = ap length (c.deref_mut.ensures.value ∙ c.in_ok-lists.ensures) ∙ length-replicate (length c.as_slice.result.now) [] ∙ ap length c.as_slice.ensures

pub add_pins-requires-clause-within : goal.add_pins-requires-clause-within
add_pins-requires-clause-within c = inputs_within c.args.image.now c.config-config.ensures.right c.config-config.result.now.config.shape (ap (λ (g : Configuration). g.shape) c.config-config.ensures.config) c.inputs.result.now c.inputs.ensures.pins

pub add_pins-requires-2-clause-plan : goal.add_pins-requires-2-clause-plan
add_pins-requires-2-clause-plan c = subst (λ (g : Configuration). AreSizedFor g c.args.plan.now) (sym c.config-config.ensures.config) c.requires

pub add_pins-requires-2-clause-sized : goal.add_pins-requires-2-clause-sized
add_pins-requires-2-clause-sized c =
    let begun : length c.deref_mut.result.now ≡ length c.args.plan.now.nets.lowest = ap length (c.deref_mut.ensures.value ∙ c.in_ok-lists.ensures) ∙ length-replicate (length c.as_slice.result.now) [] ∙ ap length c.as_slice.ensures in
    let first : length c.add_pins.new.lists ≡ c.in_ok-lists.lists.len = c.in_ok-add_pins.ensures.sized ∙ c.deref_mut.ensures.len in
    ap length (c.deref_mut-2.ensures.value ∙ take_at _ _ _ first) ∙ c.in_ok-add_pins.ensures.sized ∙ begun

pub add_pins-requires-2-clause-within : goal.add_pins-requires-2-clause-within
add_pins-requires-2-clause-within c = outputs_within c.args.image.now c.config-config.ensures.right c.config-config.result.now.config.shape (ap (λ (g : Configuration). g.shape) c.config-config.ensures.config) c.outputs.result.now c.outputs.ensures.pins

pub add_tables-requires-clause-plan : goal.add_tables-requires-clause-plan
add_tables-requires-clause-plan c = subst (λ (g : Configuration). AreSizedFor g c.args.plan.now) (sym c.config-config.ensures.config) c.requires

pub add_tables-requires-clause-sized : goal.add_tables-requires-clause-sized
add_tables-requires-clause-sized c =
    let begun : length c.deref_mut.result.now ≡ length c.args.plan.now.nets.lowest = ap length (c.deref_mut.ensures.value ∙ c.in_ok-lists.ensures) ∙ length-replicate (length c.as_slice.result.now) [] ∙ ap length c.as_slice.ensures in
    let first : length c.add_pins.new.lists ≡ c.in_ok-lists.lists.len = c.in_ok-add_pins.ensures.sized ∙ c.deref_mut.ensures.len in
    let second : length c.add_pins-2.new.lists ≡ c.in_ok-lists.lists.len = c.in_ok-add_pins-2.ensures.sized ∙ c.deref_mut-2.ensures.len in
    ap length (c.deref_mut-3.ensures.value ∙ take_at _ _ _ second) ∙ c.in_ok-add_pins-2.ensures.sized ∙ ap length (c.deref_mut-2.ensures.value ∙ take_at _ _ _ first) ∙ c.in_ok-add_pins.ensures.sized ∙ begun

pub returns : goal.returns
returns c =
    let i = c.args.image.now in
    let p = c.args.plan.now in
    let first : length c.add_pins.new.lists ≡ c.in_ok-lists.lists.len = c.in_ok-add_pins.ensures.sized ∙ c.deref_mut.ensures.len in
    let second : length c.add_pins-2.new.lists ≡ c.in_ok-lists.lists.len = c.in_ok-add_pins-2.ensures.sized ∙ c.deref_mut-2.ensures.len in
    let third : length c.add_tables.new.lists ≡ c.in_ok-lists.lists.len = c.in_ok-add_tables.ensures.sized ∙ c.deref_mut-3.ensures.len in
    let none : c.deref_mut.result.now ≡ replicate (length p.nets.lowest) [] = c.deref_mut.ensures.value ∙ c.in_ok-lists.ensures ∙ ap (λ (xs : List ℕ). replicate (length xs) []) c.as_slice.ensures in
    let ins : IsAdded (IsPinTerminal i.config p i.inputs) (replicate (length p.nets.lowest) []) c.add_pins.new.lists =
    subst (λ (g : Configuration). IsAdded (IsPinTerminal g p i.inputs) (replicate (length p.nets.lowest) []) c.add_pins.new.lists) c.config-config.ensures.config
    (subst (λ (xs : List ℕ). IsAdded (IsPinTerminal c.config-config.result.now.config p xs) (replicate (length p.nets.lowest) []) c.add_pins.new.lists) c.inputs.ensures.pins
    (subst (λ (old : List (List ℕ)). IsAdded (IsPinTerminal c.config-config.result.now.config p c.inputs.result.now) old c.add_pins.new.lists) none c.in_ok-add_pins.ensures)) in
    let outs : IsAdded (IsPinTerminal i.config p i.outputs) c.add_pins.new.lists c.add_pins-2.new.lists =
    subst (λ (g : Configuration). IsAdded (IsPinTerminal g p i.outputs) c.add_pins.new.lists c.add_pins-2.new.lists) c.config-config.ensures.config
    (subst (λ (xs : List ℕ). IsAdded (IsPinTerminal c.config-config.result.now.config p xs) c.add_pins.new.lists c.add_pins-2.new.lists) c.outputs.ensures.pins
    (subst (λ (old : List (List ℕ)). IsAdded (IsPinTerminal c.config-config.result.now.config p c.outputs.result.now) old c.add_pins-2.new.lists) (c.deref_mut-2.ensures.value ∙ take_at _ _ _ first) c.in_ok-add_pins-2.ensures)) in
    let tables : IsAdded (IsTableTerminal i.config p) c.add_pins-2.new.lists c.add_tables.new.lists =
    subst (λ (g : Configuration). IsAdded (IsTableTerminal g p) c.add_pins-2.new.lists c.add_tables.new.lists) c.config-config.ensures.config
    (subst (λ (old : List (List ℕ)). IsAdded (IsTableTerminal c.config-config.result.now.config p) old c.add_tables.new.lists) (c.deref_mut-3.ensures.value ∙ take_at _ _ _ second) c.in_ok-add_tables.ensures) in
    subst (AreTerminalsOf i p) (sym (take_at _ _ _ third)) (terminals_made i p c.add_pins.new.lists c.add_pins-2.new.lists c.add_tables.new.lists ins outs tables)
