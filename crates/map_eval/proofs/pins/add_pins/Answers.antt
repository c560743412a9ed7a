use Rattle.std.proofs.Common.{◌≡◌, ◌∙◌, ◌<◌, ℕ, List, length, get_or, sym, ap, subst, arith}
use Rattle.map_eval.proofs.Vocabulary.{get_or_default, Source, Input, NetTable, no_table, table_at, signal_of}
use Rattle.map_eval.proofs.PinLemmas.{pins_added, pin_bit}
use Rattle.map_eval.proofs.pins.add_pins.Goals as goal

pub pins-preserved : goal.pins-preserved
pins-preserved c =
    let w = c.requires.within in
    let l = c.pins-test.true in
    let e = ap length c.as_slice-tables.ensures in
    let at = get_or_default c.as_slice-tables.result.now c.args.table c.index-tables-table.result no_table (omega arith) ∙ ap (λ ts. get_or ts c.args.table no_table) c.as_slice-tables.ensures in
    let ins = c.as_slice-ins.ensures.sources ∙ ap (λ (t : NetTable). t.ins) at in
    let lq : c.pins.pin < length (table_at c.args.network.now c.args.table).ins = subst (λ (xs : List Source). c.pins.pin < length xs) ins l in
    pins_added c.args.network.now c.args.table c.pins.pin c.pins.lists.items c.add_pin.new.lists.items _ _ c.requires.range w lq c.pins.invariant
    (c.signal_of.ensures ∙ ap (λ (n : ℕ). signal_of n (get_or c.as_slice-ins.result.now c.pins.pin (Input 0))) e ∙ ap (λ (xs : List Source). signal_of (length c.args.network.now.tables) (get_or xs c.pins.pin (Input 0))) ins)
    (pin_bit c.args.table c.pins.pin (let f = c.requires.range.few c.args.table w in omega (arith, lq)))
    (c.in_ok-add_pin.ensures {u = tt})
