use Rattle.design_netlist.proofs.Vocabulary.{◌≤◌, ◌-◌, ap, length, arith, subst, refl, waits_at, IsClosed, IsJoinedOn}
use Rattle.design_netlist.proofs.StepLemmas.{close_keeps, close_handled, close_listed, close_less, close_seen}
use Rattle.design_netlist.proofs.search.close.Goals as goal

pub returns-clause-searching : goal.returns-clause-searching
returns-clause-searching c =
    let visited : length c.args.search.now.waiting.items ≤ waits_at c.args.search.now.groups.items (length c.args.search.now.groups.items - 1) = omega (arith, c.requires.visited, c.requires.last.waits) in
    record {
      keeps = close_keeps c.args.covers.now c.args.search.now.states.items c.args.search.now.path.items c.args.search.now.groups.items c.args.search.now.waiting.items (length c.args.search.now.order.items) c.requires.searching.keeps c.requires.searching.handled c.number_all.new.states.items c.truncate.new.self.items c.drop_last.new.groups.items c.args.group.start (length c.number_all.new.order.items) c.requires.last.some c.requires.last.start visited (subst (λ xs. IsClosed c.args.group.start (length xs) (length c.args.search.now.order.items) c.args.search.now.states.items c.number_all.new.states.items xs) c.deref.ensures.value c.in_ok-number_all.ensures.closed) c.truncate.ensures.items c.drop_last.ensures (omega (arith, c.in_ok-number_all.ensures.listed.len, ap length c.deref.ensures.value));
      handled = close_handled c.args.covers.now c.args.search.now.states.items c.args.search.now.path.items c.args.search.now.groups.items c.args.search.now.waiting.items (length c.args.search.now.order.items) c.requires.searching.keeps c.requires.searching.handled c.number_all.new.states.items c.truncate.new.self.items c.drop_last.new.groups.items c.args.group.start (length c.number_all.new.order.items) c.requires.last.some c.requires.last.start visited (subst (λ xs. IsClosed c.args.group.start (length xs) (length c.args.search.now.order.items) c.args.search.now.states.items c.number_all.new.states.items xs) c.deref.ensures.value c.in_ok-number_all.ensures.closed) c.truncate.ensures.items c.drop_last.ensures (omega (arith, c.in_ok-number_all.ensures.listed.len, ap length c.deref.ensures.value));
      listed = close_listed c.args.covers.now c.args.search.now.states.items c.args.search.now.path.items c.args.search.now.groups.items c.args.search.now.waiting.items (length c.args.search.now.order.items) c.requires.searching.keeps c.requires.searching.handled c.number_all.new.states.items c.truncate.new.self.items c.drop_last.new.groups.items c.args.group.start (length c.number_all.new.order.items) c.requires.last.some c.requires.last.start visited (subst (λ xs. IsClosed c.args.group.start (length xs) (length c.args.search.now.order.items) c.args.search.now.states.items c.number_all.new.states.items xs) c.deref.ensures.value c.in_ok-number_all.ensures.closed) c.truncate.ensures.items c.drop_last.ensures (omega (arith, c.in_ok-number_all.ensures.listed.len, ap length c.deref.ensures.value)) c.args.search.now.order.items c.number_all.new.order.items refl c.requires.searching.listed (subst (λ xs. IsJoinedOn xs c.args.search.now.order.items c.number_all.new.order.items c.args.group.start (length xs)) c.deref.ensures.value c.in_ok-number_all.ensures.listed);
    }

pub returns-clause-less : goal.returns-clause-less
returns-clause-less c =
    let visited : length c.args.search.now.waiting.items ≤ waits_at c.args.search.now.groups.items (length c.args.search.now.groups.items - 1) = omega (arith, c.requires.visited, c.requires.last.waits) in
    close_less c.args.covers.now c.args.search.now.states.items c.args.search.now.path.items c.args.search.now.groups.items c.args.search.now.waiting.items (length c.args.search.now.order.items) c.requires.searching.keeps c.requires.searching.handled c.number_all.new.states.items c.truncate.new.self.items c.drop_last.new.groups.items c.args.group.start (length c.number_all.new.order.items) c.requires.last.some c.requires.last.start visited (subst (λ xs. IsClosed c.args.group.start (length xs) (length c.args.search.now.order.items) c.args.search.now.states.items c.number_all.new.states.items xs) c.deref.ensures.value c.in_ok-number_all.ensures.closed) c.truncate.ensures.items c.drop_last.ensures (omega (arith, c.in_ok-number_all.ensures.listed.len, ap length c.deref.ensures.value))

pub returns-clause-seen : goal.returns-clause-seen
returns-clause-seen c =
    let visited : length c.args.search.now.waiting.items ≤ waits_at c.args.search.now.groups.items (length c.args.search.now.groups.items - 1) = omega (arith, c.requires.visited, c.requires.last.waits) in
    close_seen c.args.covers.now c.args.search.now.states.items c.args.search.now.path.items c.args.search.now.groups.items c.args.search.now.waiting.items (length c.args.search.now.order.items) c.requires.searching.keeps c.requires.searching.handled c.number_all.new.states.items c.truncate.new.self.items c.drop_last.new.groups.items c.args.group.start (length c.number_all.new.order.items) c.requires.last.some c.requires.last.start visited (subst (λ xs. IsClosed c.args.group.start (length xs) (length c.args.search.now.order.items) c.args.search.now.states.items c.number_all.new.states.items xs) c.deref.ensures.value c.in_ok-number_all.ensures.closed) c.truncate.ensures.items c.drop_last.ensures (omega (arith, c.in_ok-number_all.ensures.listed.len, ap length c.deref.ensures.value))
