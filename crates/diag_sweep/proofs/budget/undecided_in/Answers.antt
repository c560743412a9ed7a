use Rattle.std.proofs.Common.{◌≡◌, ◌≤◌, ◌∙◌, ◌&&◌, length, sym, arith}
use Rattle.diag_sweep.proofs.Vocabulary.{get_or-replicate, length-replicate, has_number, is_undecided}
use Rattle.diag_sweep.proofs.Budgets.{made_next, rest_next, made_all}
use Rattle.diag_sweep.proofs.budget.undecided_in.Goals as goal

pub crosses-preserved : goal.crosses-preserved
crosses-preserved c = record {
  len = c.add_open.ensures.len ∙ c.crosses.invariant.len;
  has = made_next c.crosses.set c.add_open.new.set c.crosses.x (λ y. has_number c.args.field.now.crosses y && is_undecided c.args.facts.now c.args.bad.now y) c.crosses.invariant.has c.add_open.ensures.this c.add_open.ensures.others;
  rest = rest_next c.crosses.set c.add_open.new.set c.crosses.x c.crosses.invariant.rest c.add_open.ensures.others;
}
