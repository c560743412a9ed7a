use Rattle.std.proofs.Common.{rules, ◌≡◌, ◌+◌, ◌-◌, ◌≤◌, None, ap, ◌∙◌, sym, subst, length, replicate, vec_len, arith, count_by, is_some}
use Rattle.std.specs.FinSet as set
use Rattle.machine_config.proofs.Vocabulary.{vec_capacity, items_after, crosses_of, tables_of}
use Rattle.machine_config.specs.Vocabulary.{IsConfiguration, set_of, AreMarked, AreListed}
use Rattle.machine_config.proofs.Members.{AreMarked-none, AreListed-none, none_on, all_within, len-set_of}
use Rattle.machine_config.proofs.Changes.{IsConfiguration-cleared}
use Rattle.machine_config.proofs.Config.clear.Goals as goal

pub open_all-requires-clause-within : goal.open_all-requires-clause-within
open_all-requires-clause-within c = all_within c.self.inside.marks c.self.inside.closed.items (crosses_of c.self.inside.shape) (length c.self.inside.marks) c.self.invariant.marked c.self.invariant.right.crosses c.self.invariant.wide

pub invariant_of-self : goal.invariant_of-self
invariant_of-self c =
    let long_too : length c.switch_all_off.new.tables ≡ length c.self.inside.tables.items = c.switch_all_off.auto.tables ∙ ap length c.deref_mut.ensures.value in
    let places = items_after c.self.inside.tables c.switch_all_off.new.tables long_too in
    let off : c.switch_all_off.new.tables ≡ replicate (tables_of c.self.inside.shape) None = c.switch_all_off.ensures.off ∙ ap (λ n. replicate n None) (ap length c.deref_mut.ensures.value ∙ c.self.invariant.right.tables) in
    let tables = places ∙ off in
    record {
      right = subst (λ ts. IsConfiguration record { shape = c.self.inside.shape; closed = set_of c.open_all.new.closed.items; tables = ts; ticks = 1 }) (sym tables) (subst (λ xs. IsConfiguration record { shape = c.self.inside.shape; closed = set_of xs; tables = replicate (tables_of c.self.inside.shape) None; ticks = 1 }) (sym c.open_all.ensures.empty) (IsConfiguration-cleared c.self.inside.shape));
      marked = subst (AreMarked c.open_all.new.marks) (sym c.open_all.ensures.empty) (AreMarked-none _ c.open_all.ensures.clear);
      wide = omega (arith, c.self.invariant.wide, c.open_all.ensures.len);
      listed = subst (λ ts. AreListed ts c.switch_all_off.new.on.items) (sym tables) (subst (AreListed (replicate (tables_of c.self.inside.shape) None)) (sym c.switch_all_off.ensures.empty) (AreListed-none (tables_of c.self.inside.shape)));
      counted = let none = ap (count_by is_some) tables ∙ none_on (tables_of c.self.inside.shape) in let empty : vec_len c.switch_all_off.new.on ≡ 0 = search rules in omega (arith, none, empty);
      room = omega (arith, c.self.invariant.room, c.switch_all_off.ensures.room);
    }

pub returns-clause-room : goal.returns-clause-room
returns-clause-room c =
    let few = len-set_of c.self.inside.closed.items in
    let empty : vec_len c.open_all.new.closed ≡ 0 = search rules in
    let held : vec_len c.self.inside.closed ≡ length c.self.inside.closed.items = search rules in
    let within : vec_len c.self.inside.closed ≤ vec_capacity c.self.inside.closed = search rules in
    subst (λ r. r.spare + set.len r.config.closed ≤ vec_capacity c.open_all.new.closed - vec_len c.open_all.new.closed) c.self.view_is (omega (arith, few, empty, held, within, c.open_all.ensures.room))
