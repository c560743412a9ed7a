use Rattle.std.proofs.Common.{◌≡◌, ◌<◌, ◌+◌, ℕ, true, false, None, ap, ◌∙◌, sym, subst, length, get_or, eqb-true, arith, ◌==◌, is_some}
use Rattle.machine_config.proofs.Vocabulary.{length-set, All-set, tables_of, CellsFit, times_on, once_if}
use Rattle.machine_config.proofs.Members.{AreListed-less, counted_after, some_read, times_on-swap_remove, unlisted_on}
use Rattle.machine_config.proofs.Config.switch_off.Goals as goal

pub invariant_of-self : goal.invariant_of-self
invariant_of-self c =
    let low : c.args.t.0 < length c.self.inside.tables.items = let h = subst (λ r. c.args.t.0 < tables_of r.config.shape) (sym c.self.view_is) c.requires in omega (arith, h, c.self.invariant.right.tables) in
    let is : is_some (get_or c.self.inside.tables.items c.args.t.0 None) ≡ true = some_read c.self.inside.tables.items c.args.t.0 c.index.result.now true low c.index.ensures (sym c.if-is_some.ensures) in
    let place : c.in-Some.i < length c.self.inside.on.items = subst (λ xs. c.in-Some.i < length xs) c.deref.ensures.value c.in-Some.ensures.found.0 in
    let here : (get_or c.self.inside.on.items c.in-Some.i c.swap_remove.result).0 ≡ c.args.t.0 = eqb-true _ _ (subst (λ xs. ((get_or xs c.in-Some.i c.swap_remove.result).0 == c.args.t.0) ≡ true) c.deref.ensures.value (c.in-Some.ensures.found.1 c.swap_remove.result)) in
    let counts : (q : ℕ) → times_on q c.swap_remove.new.self.items + once_if (c.args.t.0 == q) ≡ times_on q c.self.inside.on.items = λ q. ap (λ ys. times_on q ys + once_if (c.args.t.0 == q)) c.swap_remove.ensures.items ∙ times_on-swap_remove c.self.inside.on.items c.in-Some.i c.swap_remove.result c.args.t.0 place here q in
    let count = counted_after c.self.inside.tables.items c.args.t.0 None low in
    let one : once_if (is_some (get_or c.self.inside.tables.items c.args.t.0 None)) ≡ 1 = ap once_if is in
    record {
      right = record { crosses = c.self.invariant.right.crosses; tables = length-set c.self.inside.tables.items c.args.t.0 None ∙ c.self.invariant.right.tables; cells = All-set CellsFit c.self.inside.tables.items c.args.t.0 None tt c.self.invariant.right.cells; some_ticks = c.self.invariant.right.some_ticks; few_ticks = c.self.invariant.right.few_ticks };
      marked = c.self.invariant.marked;
      wide = c.self.invariant.wide;
      listed = AreListed-less c.self.inside.tables.items c.self.inside.on.items c.swap_remove.new.self.items c.args.t.0 c.self.invariant.listed low counts;
      counted = omega (arith, count, one, c.self.invariant.counted, c.swap_remove.ensures.len);
      room = omega (arith, c.self.invariant.room, c.swap_remove.ensures.capacity);
    }

-- a table that is on stands in the list
pub returns-in_default : goal.returns-in_default
returns-in_default c =
    let low : c.args.t.0 < length c.self.inside.tables.items = let h = subst (λ r. c.args.t.0 < tables_of r.config.shape) (sym c.self.view_is) c.requires in omega (arith, h, c.self.invariant.right.tables) in
    let is : is_some (get_or c.self.inside.tables.items c.args.t.0 None) ≡ true = some_read c.self.inside.tables.items c.args.t.0 c.index.result.now true low c.index.ensures (sym c.if-is_some.ensures) in
    absurd (unlisted_on c.self.inside.tables.items c.self.inside.on.items c.args.t c.self.invariant.listed is
    (λ k d h. subst (λ xs. ((get_or xs k d).0 == c.args.t.0) ≡ false) c.deref.ensures.value (c.in_default.ensures.none k d (subst (λ xs. k < length xs) (sym c.deref.ensures.value) h))))
