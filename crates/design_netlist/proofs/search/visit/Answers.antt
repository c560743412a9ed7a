use Rattle.design_netlist.proofs.Vocabulary.{sym, subst, length, IsKept, IsFront}
use Rattle.design_netlist.proofs.SearchLemmas.{to_read, joined, joined_handled, skip}
use Rattle.design_netlist.proofs.StepLemmas.{front_take}
use Rattle.design_netlist.proofs.search.visit.Goals as goal

pub open-requires-clause-led : goal.open-requires-clause-led
open-requires-clause-led c = let r = c.requires.read in to_read c.args.covers.now c.args.search.now.states.items c.args.search.now.path.items c.args.search.now.groups.items c.args.search.now.waiting.items (length c.args.search.now.order.items) c.requires.searching.keeps c.args.cover r.0 r.1 r.2 r.3

pub returns-in-Open-clause-searching : goal.returns-in-Open-clause-searching
returns-in-Open-clause-searching c =
    let kept : IsKept c.args.search.now.groups.items c.in-Open.place c.kept-kept.result = subst (λ xs. IsKept xs c.in-Open.place c.kept-kept.result) c.deref.ensures.value c.kept-kept.ensures in
    let front : IsFront (record { start = 0; waits = 0 }) c.args.search.now.groups.items c.truncate.new.self.items c.kept-kept.result = subst (λ xs. IsFront (record { start = 0; waits = 0 }) c.args.search.now.groups.items xs c.kept-kept.result) (sym c.truncate.ensures.items) (front_take (record { start = 0; waits = 0 }) c.args.search.now.groups.items c.kept-kept.result kept.within) in
    record {
      listed = c.requires.searching.listed;
      keeps = joined c.args.covers.now c.args.search.now.states.items c.args.search.now.path.items c.args.search.now.groups.items c.args.search.now.waiting.items (length c.args.search.now.order.items) c.requires.searching.keeps c.args.cover c.in-Open.place c.kept-kept.result c.truncate.new.self.items (sym c.in-Open.ensures) kept front c.requires.read;
      handled = joined_handled c.args.covers.now c.args.search.now.states.items c.args.search.now.path.items c.args.search.now.groups.items c.args.search.now.waiting.items (length c.args.search.now.order.items) c.requires.searching.keeps c.args.cover c.in-Open.place c.kept-kept.result c.truncate.new.self.items (sym c.in-Open.ensures) kept front c.requires.read c.requires.searching.handled;
    }

pub returns-in-Done-clause-searching : goal.returns-in-Done-clause-searching
returns-in-Done-clause-searching c = record { listed = c.requires.searching.listed; keeps = c.requires.searching.keeps; handled = skip c.args.covers.now c.args.search.now.states.items c.args.search.now.path.items c.args.search.now.groups.items c.args.search.now.waiting.items (length c.args.search.now.order.items) c.requires.searching.keeps c.args.cover c.in-Done.field-0 (sym c.in-Done.ensures) c.requires.searching.handled }
