use Rattle.std.proofs.Common.{rules, ◌≡◌, [], false, None, ap, ◌∙◌, sym, subst, length, replicate, arith, count_by, is_some}
use Rattle.machine_config.proofs.Vocabulary.{length-replicate, tables_of, IsConfiguration, set_of, AreMarked, AreListed}
use Rattle.machine_config.proofs.Members.{AreMarked-none, AreListed-none, none_on, unmarked}
use Rattle.machine_config.proofs.Changes.{IsConfiguration-cleared}
use Rattle.machine_config.proofs.Config.with_room.Goals as goal

pub invariant_of-result : goal.invariant_of-result
invariant_of-result c =
    let closed : c.in_ok-with_capacity.field-0.items ≡ [] = c.in_ok-with_capacity.ensures.items in
    let on : c.in_ok-with_capacity-2.field-0.items ≡ [] = c.in_ok-with_capacity-2.ensures.items in
    let tables : c.in_ok-vec.field-0.items ≡ replicate (tables_of c.args.shape) None = search rules in
    let marks : c.in_ok-new.field-0 ≡ replicate c.crosses.result false = c.in_ok-new.ensures in
    record {
      right = subst (λ ts. IsConfiguration record { shape = c.args.shape; closed = set_of c.in_ok-with_capacity.field-0.items; tables = ts; ticks = 1 }) (sym tables) (subst (λ xs. IsConfiguration record { shape = c.args.shape; closed = set_of xs; tables = replicate (tables_of c.args.shape) None; ticks = 1 }) (sym closed) (IsConfiguration-cleared c.args.shape));
      marked = subst (AreMarked c.in_ok-new.field-0) (sym closed) (subst (λ ms. AreMarked ms []) (sym marks) (AreMarked-none _ (λ q. unmarked c.crosses.result q)));
      wide = let long = ap length marks ∙ length-replicate c.crosses.result false in omega (arith, long, c.crosses.ensures.crosses);
      listed = subst (AreListed c.in_ok-vec.field-0.items) (sym on) (subst (λ ts. AreListed ts []) (sym tables) (AreListed-none (tables_of c.args.shape)));
      counted = let none = ap (count_by is_some) tables ∙ none_on (tables_of c.args.shape) in omega (arith, none, c.in_ok-with_capacity-2.ensures.len);
      room = omega (arith, c.in_ok-with_capacity-2.ensures.exact, c.tables-tables.ensures.tables);
    }
