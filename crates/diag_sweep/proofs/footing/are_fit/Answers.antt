use Rattle.diag_sweep.proofs.Vocabulary.{◌≡◌, ℕ, List, refl, subst, ◌==◌, All, map, IsDistinct, IsFoot, pin_at}
use Rattle.diag_sweep.proofs.Footed.{fits, of_some}
use Rattle.diag_sweep.proofs.footing.are_fit.Goals as goal

pub returns : goal.returns
returns c = λ yes.
    let each = of_some (λ _. All (IsFoot c.args.forest.now) c.in_ok-feet.feet.items) c.in_ok-pins.field-0 c.in-Some.pins c.in-Some.is c.in_ok-pins.ensures.each in
    let pins = of_some (λ ps. ps.items ≡ map (pin_at c.args.forest.now) c.in_ok-feet.feet.items) c.in_ok-pins.field-0 c.in-Some.pins c.in-Some.is c.in_ok-pins.ensures.pins in
    fits c.args.hangs.now c.in_ok-feet.ensures each pins
    (subst (λ (ns : List ℕ). IsDistinct (λ a b. a == b) ns) c.deref-2.ensures.value (c.see_all-2.ensures.seen yes).once)
    c.in_ok-wires.ensures
    (subst (λ (ns : List ℕ). IsDistinct (λ a b. a == b) ns) c.deref.ensures.value (c.if-not-see_all.ensures.seen refl).once)
