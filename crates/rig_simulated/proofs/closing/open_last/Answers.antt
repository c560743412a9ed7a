use Rattle.std.proofs.Common.{rules, ◌≡◌, ◌∷◌, ◌++◌, [], List, sym, subst}
use Rattle.rig_simulated.proofs.Vocabulary.{with_items_is, with_items, ClassNode, Closed, IsOpenedBy, AreOpenable, AreClosedBy}
use Rattle.rig_simulated.proofs.Undoing.{last_back, opened, opened_is, opened_closed}
use Rattle.rig_simulated.proofs.closing.open_last.Goals as goal

pub returns-in-Some-clause-openable : goal.returns-in-Some-clause-openable
returns-in-Some-clause-openable c =
    let rest = c.pop.new.self.items in
    let last = c.in-Some.last in
    let knots = c.args.classes.now.knots.items in
    let same : (with_items c.args.classes.now.knots c.part.new.knots).items ≡ c.part.new.knots = with_items_is c.args.classes.now.knots c.part.new.knots (search rules) in
    let o = subst (λ (l : List Closed). AreOpenable l knots) c.in-Some.ensures.items c.requires in
    let back : IsOpenedBy last.tie knots c.part.new.knots = subst (λ (k : List ClassNode). IsOpenedBy last.tie k c.part.new.knots) c.deref_mut.ensures.value c.part.ensures in
    subst (λ (k : List ClassNode). AreOpenable rest k) (sym same) (opened rest last knots o c.part.new.knots (opened_is last.tie knots c.part.new.knots _ back (last_back rest last knots o)))

pub returns-in-Some-clause-stays : goal.returns-in-Some-clause-stays
returns-in-Some-clause-stays c = λ m f h.
    let rest = c.pop.new.self.items in
    let last = c.in-Some.last in
    let knots = c.args.classes.now.knots.items in
    let same : (with_items c.args.classes.now.knots c.part.new.knots).items ≡ c.part.new.knots = with_items_is c.args.classes.now.knots c.part.new.knots (search rules) in
    let back : IsOpenedBy last.tie knots c.part.new.knots = subst (λ (k : List ClassNode). IsOpenedBy last.tie k c.part.new.knots) c.deref_mut.ensures.value c.part.ensures in
    subst (λ (k : List ClassNode). AreClosedBy m f rest k) (sym same) (opened_closed m f rest last knots c.part.new.knots (subst (λ (l : List Closed). AreClosedBy m f l knots) c.in-Some.ensures.items h) back)
