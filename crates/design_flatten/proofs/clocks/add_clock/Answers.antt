use Rattle.design_flatten.proofs.Vocabulary.{◌++◌, ◌∷◌, [], Some, subst, sym, clocked_in, AreFirstClocks, other_with}
use Rattle.design_flatten.proofs.ClockLemmas.{clock_more}
use Rattle.design_flatten.proofs.clocks.add_clock.Goals as goal

pub returns-in-Some : goal.returns-in-Some
returns-in-Some c controls h =
    let f = c.in-Some.known in
    let d = c.args.clock in
    let other = c.args.other.now in
    let more = controls ++ clocked_in d ∷ [] in
    let old = subst (λ o. AreFirstClocks controls o other) c.in-Some.is h in
    subst (λ o. AreFirstClocks more (Some c.earlier_clock.result) o) (sym c.other_with.ensures)
    (subst (λ e. AreFirstClocks more (Some e) (other_with (clocked_in f) other (clocked_in d))) (sym c.earlier_clock.ensures) (clock_more controls d f other old))
