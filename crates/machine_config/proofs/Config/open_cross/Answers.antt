use Rattle.std.proofs.Common.{◌≡◌, ◌<◌, true, false, ap, ◌∙◌, sym, subst, length, get_or, arith, ◌==◌}
use Rattle.machine_config.proofs.Vocabulary.{false≢true, length-set, crosses_of, is_closed, with_open, set_of}
use Rattle.std.specs.FinSet as set
use Rattle.machine_config.proofs.{Members.contains_marked, Members.opening, Members.unlisted, Changes.remove_within, Changes.open_already}
use Rattle.machine_config.proofs.Config.open_cross.Goals as goal

pub invariant_of-self : goal.invariant_of-self
invariant_of-self c =
    let within : c.args.c.0 < crosses_of c.self.inside.shape = subst (λ r. c.args.c.0 < crosses_of r.config.shape) (sym c.self.view_is) c.requires in
    let low : c.args.c.0 < length c.self.inside.marks = omega (arith, within, c.self.invariant.wide) in
    let place = subst (λ xs. (c.in-Some.i < length xs) × (((get_or xs c.in-Some.i c.swap_remove.result).0 == c.args.c.0) ≡ true)) c.deref.ensures.value (c.in-Some.ensures.found.0, c.in-Some.ensures.found.1 c.swap_remove.result) in
    let both = opening c.self.inside.marks c.remove.new.self c.self.inside.closed.items c.swap_remove.new.self.items c.in-Some.i c.swap_remove.result c.args.c.0 c.self.invariant.marked low c.remove.ensures place.0 place.1 c.swap_remove.ensures.items in
    record {
      right = record {
        crosses = λ x is. remove_within (set_of c.self.inside.closed.items) c.args.c.0 (crosses_of c.self.inside.shape) c.self.invariant.right.crosses x (ap (λ s. set.contains s x) (sym both.1) ∙ is);
        tables = c.self.invariant.right.tables;
        cells = c.self.invariant.right.cells;
        some_ticks = c.self.invariant.right.some_ticks;
        few_ticks = c.self.invariant.right.few_ticks;
      };
      marked = both.0;
      wide = let long = ap length c.remove.ensures ∙ length-set c.self.inside.marks c.args.c.0 false in omega (arith, c.self.invariant.wide, long);
      listed = c.self.invariant.listed;
      counted = c.self.invariant.counted;
      room = c.self.invariant.room;
    }

pub returns-in-Some-clause-open : goal.returns-in-Some-clause-open
returns-in-Some-clause-open c =
    let within : c.args.c.0 < crosses_of c.self.inside.shape = subst (λ r. c.args.c.0 < crosses_of r.config.shape) (sym c.self.view_is) c.requires in
    let low : c.args.c.0 < length c.self.inside.marks = omega (arith, within, c.self.invariant.wide) in
    let place = subst (λ xs. (c.in-Some.i < length xs) × (((get_or xs c.in-Some.i c.swap_remove.result).0 == c.args.c.0) ≡ true)) c.deref.ensures.value (c.in-Some.ensures.found.0, c.in-Some.ensures.found.1 c.swap_remove.result) in
    let both = opening c.self.inside.marks c.remove.new.self c.self.inside.closed.items c.swap_remove.new.self.items c.in-Some.i c.swap_remove.result c.args.c.0 c.self.invariant.marked low c.remove.ensures place.0 place.1 c.swap_remove.ensures.items in
    ap (λ s. record { shape = c.self.inside.shape; closed = s; tables = c.self.inside.tables.items; ticks = c.self.inside.ticks }) both.1
    ∙ ap (λ r. with_open r.config c.args.c.0) c.self.view_is

-- a crosspoint with a mark stands in the list
pub returns-in_default-clause-open : goal.returns-in_default-clause-open
returns-in_default-clause-open c = absurd (unlisted c.self.inside.marks c.self.inside.closed.items c.args.c c.self.invariant.marked (sym c.has.ensures ∙ c.if-has.true)
    (λ k d h. subst (λ xs. ((get_or xs k d).0 == c.args.c.0) ≡ false) c.deref.ensures.value (c.in_default.ensures.none k d (subst (λ xs. k < length xs) (sym c.deref.ensures.value) h))))

pub returns-in_default-clause-back : goal.returns-in_default-clause-back
returns-in_default-clause-back c = absurd (unlisted c.self.inside.marks c.self.inside.closed.items c.args.c c.self.invariant.marked (sym c.has.ensures ∙ c.if-has.true)
    (λ k d h. subst (λ xs. ((get_or xs k d).0 == c.args.c.0) ≡ false) c.deref.ensures.value (c.in_default.ensures.none k d (subst (λ xs. k < length xs) (sym c.deref.ensures.value) h))))

-- and one with no mark isn't closed
pub returns-else-has-clause-open : goal.returns-else-has-clause-open
returns-else-has-clause-open c =
    let is : is_closed c.args.self.now.config c.args.c.0 ≡ false =
    sym (ap (λ r. is_closed r.config c.args.c.0) c.self.view_is) ∙ contains_marked c.self.inside.marks c.self.inside.closed.items c.self.invariant.marked c.args.c.0
    ∙ sym c.has.ensures ∙ c.if-has.false in
    sym (open_already c.args.self.now.config c.args.c.0 is)

pub returns-else-has-clause-back : goal.returns-else-has-clause-back
returns-else-has-clause-back c = λ on.
    absurd (false≢true (sym c.if-has.false ∙ c.has.ensures ∙ sym (contains_marked c.self.inside.marks c.self.inside.closed.items c.self.invariant.marked c.args.c.0) ∙ ap (λ r. is_closed r.config c.args.c.0) c.self.view_is ∙ on))
