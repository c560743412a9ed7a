use Rattle.std.proofs.Common.{◌≡◌, ◌<◌, true, ap, ◌∙◌, sym, subst, length, arith}
use Rattle.machine_config.proofs.Vocabulary.{false≢true, length-set, crosses_of, is_closed, with_closed, set_of}
use Rattle.std.specs.FinSet as set
use Rattle.machine_config.proofs.{Members.contains_marked, Members.closing, Changes.insert_within, Changes.closed_already}
use Rattle.machine_config.proofs.Config.close_cross.Goals as goal

-- a crosspoint with no mark isn't closed
pub returns-in_err-push-clause-already : goal.returns-in_err-push-clause-already
returns-in_err-push-clause-already c = λ is.
    absurd (false≢true (sym c.if-not-has.true ∙ c.has.ensures ∙ sym (contains_marked c.self.inside.marks c.self.inside.closed.items c.self.invariant.marked c.args.c.0) ∙ ap (λ r. is_closed r.config c.args.c.0) c.self.view_is ∙ is))

pub returns-in_ok-push-clause-already : goal.returns-in_ok-push-clause-already
returns-in_ok-push-clause-already c = λ is.
    absurd (false≢true (sym c.if-not-has.true ∙ c.has.ensures ∙ sym (contains_marked c.self.inside.marks c.self.inside.closed.items c.self.invariant.marked c.args.c.0) ∙ ap (λ r. is_closed r.config c.args.c.0) c.self.view_is ∙ is))

pub invariant_of-self-then-not-has : goal.invariant_of-self-then-not-has
invariant_of-self-then-not-has c =
    let within : c.args.c.0 < crosses_of c.self.inside.shape = subst (λ r. c.args.c.0 < crosses_of r.config.shape) (sym c.self.view_is) c.requires in
    let low : c.args.c.0 < length c.self.inside.marks = omega (arith, within, c.self.invariant.wide) in
    let both = closing c.self.inside.marks c.insert.new.self c.self.inside.closed.items c.push.new.self.items c.args.c c.self.invariant.marked low (sym c.has.ensures ∙ c.if-not-has.true) c.insert.ensures c.in_ok-push.ensures.items in
    record {
      right = record {
        crosses = λ x is. insert_within (set_of c.self.inside.closed.items) c.args.c.0 (crosses_of c.self.inside.shape) c.self.invariant.right.crosses within x (ap (λ s. set.contains s x) (sym both.1) ∙ is);
        tables = c.self.invariant.right.tables;
        cells = c.self.invariant.right.cells;
        some_ticks = c.self.invariant.right.some_ticks;
        few_ticks = c.self.invariant.right.few_ticks;
      };
      marked = both.0;
      wide = let long = ap length c.insert.ensures ∙ length-set c.self.inside.marks c.args.c.0 true in omega (arith, c.self.invariant.wide, long);
      listed = c.self.invariant.listed;
      counted = c.self.invariant.counted;
      room = c.self.invariant.room;
    }

pub returns-in_ok-push-clause-closed : goal.returns-in_ok-push-clause-closed
returns-in_ok-push-clause-closed c =
    let within : c.args.c.0 < crosses_of c.self.inside.shape = subst (λ r. c.args.c.0 < crosses_of r.config.shape) (sym c.self.view_is) c.requires in
    let low : c.args.c.0 < length c.self.inside.marks = omega (arith, within, c.self.invariant.wide) in
    let both = closing c.self.inside.marks c.insert.new.self c.self.inside.closed.items c.push.new.self.items c.args.c c.self.invariant.marked low (sym c.has.ensures ∙ c.if-not-has.true) c.insert.ensures c.in_ok-push.ensures.items in
    ap (λ s. record { shape = c.self.inside.shape; closed = s; tables = c.self.inside.tables.items; ticks = c.self.inside.ticks }) both.1
    ∙ ap (λ r. with_closed r.config c.args.c.0) c.self.view_is

pub returns-else-not-has-clause-closed : goal.returns-else-not-has-clause-closed
returns-else-not-has-clause-closed c =
    let is : is_closed c.args.self.now.config c.args.c.0 ≡ true =
    sym (ap (λ r. is_closed r.config c.args.c.0) c.self.view_is) ∙ contains_marked c.self.inside.marks c.self.inside.closed.items c.self.invariant.marked c.args.c.0
    ∙ sym c.has.ensures ∙ c.if-not-has.false in
    sym (closed_already c.args.self.now.config c.args.c.0 is)
