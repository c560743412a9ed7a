use Rattle.diag_growth.proofs.Vocabulary.{◌≡◌, ◌<◌, ◌∙◌, true, All, List, sym, subst, IfOk-weaker, Cross, crosses_of, among, IsDrivenAlone}
use Rattle.diag_growth.proofs.Vocabulary.{IsLoopConfig, Walk, cross_numbers, all_numbers, if_ok_so}
use Rattle.diag_evidence.specs.Vocabulary.{Kept, IsMore, KeepsTrial, Gains, row_over, IsReady, wires_over}
use Rattle.diag_growth.proofs.Listing.{parting_within}
use Rattle.diag_growth.proofs.Parting.{walk_off, walks_ready, way_ready, parted, part_bad}
use Rattle.diag_growth.proofs.parts.part_from.Goals as goal

pub laid-requires-clause-ties : goal.laid-requires-clause-ties
laid-requires-clause-ties g c = all_numbers (λ x. x < crosses_of c.args.facts.now.shape) c.deref.result.now
    (λ x is. parting_within c.requires.beside x (subst (λ (xs : List Cross). among (cross_numbers xs) x ≡ true) c.deref.ensures.value is))

pub all_apart-answer-requires-clause-left : goal.all_apart-answer-requires-clause-left
all_apart-answer-requires-clause-left g c =
    let q = c.args.way.now in
    let config = c.in_ok-config.config.config in
    let laid : IsLoopConfig c.args.facts.now.shape q q (cross_numbers c.args.beside.now.ties.items) config = subst (λ (xs : List Cross). IsLoopConfig c.args.facts.now.shape q q (cross_numbers xs) config) c.deref.ensures.value c.in_ok-config.ensures.laid in
    subst (λ (k : Kept). IsReady k config q) (sym (c.in_ok-drive.ensures.same ∙ c.in_ok-config.ensures.same)) (way_ready c.args.known.now c.requires.way c.requires.beside laid)

pub all_apart-answer-requires-clause-rights : goal.all_apart-answer-requires-clause-rights
all_apart-answer-requires-clause-rights g c =
    let q = c.args.way.now in
    let config = c.in_ok-config.config.config in
    let laid : IsLoopConfig c.args.facts.now.shape q q (cross_numbers c.args.beside.now.ties.items) config = subst (λ (xs : List Cross). IsLoopConfig c.args.facts.now.shape q q (cross_numbers xs) config) c.deref.ensures.value c.in_ok-config.ensures.laid in
    subst (λ (k : Kept). All (IsReady k config) c.deref-2.result.now) (sym (c.in_ok-drive.ensures.same ∙ c.in_ok-config.ensures.same))
    (subst (λ (rs : List Walk). All (IsReady c.args.facts.now config) rs) (sym c.deref-2.ensures.value) (walks_ready c.args.known.now c.requires.way c.requires.beside laid))

pub all_apart-answer-requires-clause-disjoint : goal.all_apart-answer-requires-clause-disjoint
all_apart-answer-requires-clause-disjoint g c = λ u on. rw c.deref-2.ensures.value (walk_off c.args.known.now c.requires.way c.requires.beside u on)

pub returns-clause-apart : goal.returns-clause-apart
returns-clause-apart g c = IfOk-weaker c.all_apart-answer.result _ _ (λ yes gains. λ is_yes.
    rw (c.give_back_drive.ensures, c.give_back.ensures) (parted c.args.known.now c.requires.way c.requires.beside c.requires.tried c.requires.new
    (subst (λ (k : Kept). Gains (row_over k.trial c.args.way.now.wires (wires_over c.args.beside.now.walks.items)) k c.all_apart-answer.new.self) (c.in_ok-drive.ensures.same ∙ c.in_ok-config.ensures.same) (rw c.deref-2.ensures.value at (gains is_yes)))))
    c.all_apart-answer.ensures.gains

pub returns-clause-bad_each : goal.returns-clause-bad_each
returns-clause-bad_each g c =
    let q = c.args.way.now in
    let config = c.in_ok-config.config.config in
    let laid : IsLoopConfig c.args.facts.now.shape q q (cross_numbers c.args.beside.now.ties.items) config = subst (λ (xs : List Cross). IsLoopConfig c.args.facts.now.shape q q (cross_numbers xs) config) c.deref.ensures.value c.in_ok-config.ensures.laid in
    if_ok_so c.all_apart-answer.result c.all_apart-answer.ensures.passes_each (λ yes passes f e is_no.
    rw (c.give_back_drive.ensures, c.give_back.ensures)
    (part_bad c.requires.known c.requires.way c.requires.beside laid (subst (IsDrivenAlone c.in_ok-drive.drive) c.pin.ensures c.in_ok-drive.ensures.alone) (rw c.deref-2.ensures.value at (passes f e))
    (subst (λ (k : Kept). IsMore k c.all_apart-answer.new.self) (c.in_ok-drive.ensures.same ∙ c.in_ok-config.ensures.same) c.all_apart-answer.ensures.advances.more) is_no))

pub returns-clause-trial : goal.returns-clause-trial
returns-clause-trial g c = rw (c.give_back_drive.ensures, c.give_back.ensures) (subst (λ (k : Kept). KeepsTrial k c.all_apart-answer.new.self) (c.in_ok-drive.ensures.same ∙ c.in_ok-config.ensures.same) c.all_apart-answer.ensures.trial)
