use Rattle.std.proofs.Common.{rules, ◌≡◌, ◌<◌, true, false, None, Some, ap, ◌∙◌, sym, subst, length, get_or, set, arith, is_some}
use Rattle.machine_config.proofs.Vocabulary.{with_item, length-set, All-set, tables_of, CellsFit, IsKept, AreListed, once_if}
use Rattle.machine_config.proofs.Members.{AreListed-push, AreListed-same, counted_after, some_off, some_read}
use Rattle.machine_config.proofs.Config.switch_on.Goals as goal
use Rattle.machine_config.proofs.Config.switch_on.Goals.{then-is_none, else-is_none}

pub push_reserved-requires : goal.push_reserved-requires
push_reserved-requires c =
    let low : c.args.t.0 < length c.self.inside.tables.items = let h = subst (λ r. c.args.t.0 < tables_of r.config.shape) (sym c.self.view_is) c.requires in omega (arith, h, c.self.invariant.right.tables) in
    let off : is_some (get_or c.self.inside.tables.items c.args.t.0 None) ≡ false = some_read c.self.inside.tables.items c.args.t.0 c.index.result.now false low c.index.ensures c.if-is_none.ensures in
    let few = some_off c.self.inside.tables.items c.args.t.0 c.args.s low off in
    omega (arith, few, c.self.invariant.counted, c.self.invariant.right.tables, c.self.invariant.room)

pub invariant_of-self : goal.invariant_of-self
invariant_of-self c =
    let low : c.args.t.0 < length c.self.inside.tables.items = let h = subst (λ r. c.args.t.0 < tables_of r.config.shape) (sym c.self.view_is) c.requires in omega (arith, h, c.self.invariant.right.tables) in
    elim c.if-is_none.branch [
      | then-is_none w ↦
          let off : is_some (get_or c.self.inside.tables.items c.args.t.0 None) ≡ false = some_read c.self.inside.tables.items c.args.t.0 c.index.result.now false low c.index.ensures w.if-is_none.ensures in
          let count = counted_after c.self.inside.tables.items c.args.t.0 (Some c.args.s) low in
          let none : once_if (is_some (get_or c.self.inside.tables.items c.args.t.0 None)) ≡ 0 = ap once_if off in
          let kept : IsKept record { shape = c.self.inside.shape; marks = c.self.inside.marks; closed = c.self.inside.closed; tables = with_item c.self.inside.tables c.args.t.0 (Some c.args.s); on = w.push_reserved.new.self; ticks = c.self.inside.ticks } = record {
            right = record { crosses = c.self.invariant.right.crosses; tables = length-set c.self.inside.tables.items c.args.t.0 (Some c.args.s) ∙ c.self.invariant.right.tables; cells = All-set CellsFit c.self.inside.tables.items c.args.t.0 (Some c.args.s) (search rules) c.self.invariant.right.cells; some_ticks = c.self.invariant.right.some_ticks; few_ticks = c.self.invariant.right.few_ticks };
            marked = c.self.invariant.marked;
            wide = c.self.invariant.wide;
            listed = subst (AreListed (set c.self.inside.tables.items c.args.t.0 (Some c.args.s))) (sym w.push_reserved.ensures.items) (AreListed-push c.self.inside.tables.items c.self.inside.on.items c.args.t c.args.s c.self.invariant.listed low off);
            counted = omega (arith, count, none, c.self.invariant.counted, w.push_reserved.ensures.len);
            room = omega (arith, c.self.invariant.room, w.push_reserved.ensures.capacity);
          } in
          subst (λ a. IsKept (record a { tables = with_item a.tables c.args.t.0 (Some c.args.s) })) (sym w.self-inside-is) kept
      | else-is_none w ↦
          let is : is_some (get_or c.self.inside.tables.items c.args.t.0 None) ≡ true = some_read c.self.inside.tables.items c.args.t.0 c.index.result.now true low c.index.ensures w.if-is_none.ensures in
          let count = counted_after c.self.inside.tables.items c.args.t.0 (Some c.args.s) low in
          let one : once_if (is_some (get_or c.self.inside.tables.items c.args.t.0 None)) ≡ 1 = ap once_if is in
          let kept : IsKept (record c.self.inside { tables = with_item c.self.inside.tables c.args.t.0 (Some c.args.s) }) = record {
            right = record { crosses = c.self.invariant.right.crosses; tables = length-set c.self.inside.tables.items c.args.t.0 (Some c.args.s) ∙ c.self.invariant.right.tables; cells = All-set CellsFit c.self.inside.tables.items c.args.t.0 (Some c.args.s) (search rules) c.self.invariant.right.cells; some_ticks = c.self.invariant.right.some_ticks; few_ticks = c.self.invariant.right.few_ticks };
            marked = c.self.invariant.marked;
            wide = c.self.invariant.wide;
            listed = AreListed-same c.self.inside.tables.items c.self.inside.on.items c.args.t.0 c.args.s c.self.invariant.listed low is;
            counted = omega (arith, count, one, c.self.invariant.counted);
            room = c.self.invariant.room;
          } in
          subst (λ a. IsKept (record a { tables = with_item a.tables c.args.t.0 (Some c.args.s) })) (sym w.self-inside-is) kept
    ]
