use Rattle.example_parts.proofs.Vocabulary.{◌≡◌, ◌<◌, ◌∙◌, All, [], length, refl, sym, ap, subst, arith, append-nil, Shape, among, Walk}
use Rattle.example_parts.proofs.Vocabulary.{IsRoute, among_at, IsReady, advances_still, advances_then, begun_apart}
use Rattle.std.proofs.lemmas.List.Elements.{All-push}
use Rattle.example_parts.proofs.crossbars.answers.part_laid.Goals as goal

pub begin-requires : goal.begin-requires
begin-requires g c =
    let left = c.args.laid.now.left in
    let below : c.len.result < length left.wires = omega arith in
    c.requires.laid.left_route.wires _ (among_at left.wires c.len.result _ below c.wire_at.ensures)

pub all_apart-requires-clause-left : goal.all_apart-requires-clause-left
all_apart-requires-clause-left g c =
    let more = c.begin.ensures.more in
    record {
      route = subst (λ (m : Shape). IsRoute m c.args.laid.now.left) (sym more.shape) c.requires.laid.left_route;
      closed = c.requires.laid.left_closed;
      kept = λ x on. more.crosses x (c.if-not-keeps_route.ensures refl x on);
    }

pub all_apart-requires-clause-rights : goal.all_apart-requires-clause-rights
all_apart-requires-clause-rights g c =
    let more = c.begin.ensures.more in
    let ready : IsReady c.begin.new.self c.args.laid.now.config.config c.args.laid.now.right = record {
      route = subst (λ (m : Shape). IsRoute m c.args.laid.now.right) (sym more.shape) c.requires.laid.right_route;
      closed = c.requires.laid.right_closed;
      kept = λ x on. more.crosses x (c.if-not-keeps_route-2.ensures refl x on);
    } in
    rw c.from_ref-rights.ensures.value (All-push (λ (r : Walk). IsReady c.begin.new.self c.args.laid.now.config.config r) [] c.args.laid.now.right (λ k d below. absurd (let no : ⊥ = omega (arith, below) in no)) ready)

pub all_apart-requires-clause-disjoint : goal.all_apart-requires-clause-disjoint
all_apart-requires-clause-disjoint g c = λ w on. rw c.from_ref-rights.ensures.value (ap (λ ws. among ws w) (append-nil c.args.laid.now.right.wires) ∙ c.meets.ensures.apart c.if-meets.false w on)

pub returns-in_err-yes-clause-advances : goal.returns-in_err-yes-clause-advances
returns-in_err-yes-clause-advances g c = advances_then (advances_still _ _ _ c.begin.ensures.more (λ f h. c.begin.ensures.explained f h)) c.all_apart.ensures.advances

pub returns-clause-advances : goal.returns-clause-advances
returns-clause-advances g c = advances_then (advances_still _ _ _ c.begin.ensures.more (λ f h. c.begin.ensures.explained f h)) c.all_apart.ensures.advances

pub returns-in_err-yes-clause-set : goal.returns-in_err-yes-clause-set
returns-in_err-yes-clause-set g c = λ w. c.all_apart.ensures.trial.apart w ∙ begun_apart _ c.begin.ensures.begun w

pub returns-clause-set : goal.returns-clause-set
returns-clause-set g c = λ w. c.all_apart.ensures.trial.apart w ∙ begun_apart _ c.begin.ensures.begun w
