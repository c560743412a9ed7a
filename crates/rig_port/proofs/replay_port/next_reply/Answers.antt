use Rattle.rig_port.proofs.Vocabulary.{◌≡◌, ◌∙◌, ◌++◌, take, drop, length, ap, sym, subst, arith, IsDue}
use Rattle.rig_port.proofs.Replayed.{not_next, no_reply, replayed}
use Rattle.rig_port.proofs.replay_port.next_reply.Goals as goal

pub returns-then-not-is_next-clause-none : goal.returns-then-not-is_next-clause-none
returns-then-not-is_next-clause-none c = λ d.
    not_next c.behind.result.now c.args.request.now (length c.args.reply.now) (c.is_next.ensures.wrong c.if-not-is_next.true) (subst (λ b. IsDue b c.args.request.now (length c.args.reply.now)) (sym c.behind.ensures) d)

pub returns-in_default-clause-none : goal.returns-in_default-clause-none
returns-in_default-clause-none c = λ d.
    let right = c.is_next.ensures.right c.if-not-is_next.false in
    no_reply c.args.at c.saturating_add-next.result c.args.recorded.now c.args.request.now (length c.args.reply.now) right.0
    (subst (λ b. b ≡ c.args.request.now ++ drop (length c.args.request.now) b) c.behind.ensures right.1) (omega (arith, c.saturating_add-next.ensures)) (omega arith)
    (λ line rest is few at. c.in_default.ensures.none line rest is few (c.behind-2.ensures ∙ at)) d

pub returns-clause-replied : goal.returns-clause-replied
returns-clause-replied c =
    let right = c.is_next.ensures.right c.if-not-is_next.false in
    replayed c.args.at c.saturating_add-next.result c.saturating_add.result c.in-Some.count c.args.recorded.now c.args.request.now (take c.in-Some.count c.give_line.new.reply) right.0
    (subst (λ b. b ≡ c.args.request.now ++ drop (length c.args.request.now) b) c.behind.ensures right.1) (omega (arith, c.saturating_add-next.ensures)) c.saturating_add.ensures (omega arith)
    (c.in-Some.ensures.line.0 ∙ ap (λ b. take c.in-Some.count b) c.behind-2.ensures) (let long = ap length c.behind-2.ensures in omega (arith, c.in-Some.ensures.within, long)) c.in-Some.ensures.line.1
