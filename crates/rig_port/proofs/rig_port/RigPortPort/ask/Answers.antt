use Rattle.rig_port.proofs.Vocabulary.{◌≡◌, ◌∙◌, length, IfSome, sym, ap, subst, IsReady, IsShort}
use Rattle.rig_port.proofs.rig_port.RigPortPort.ask.Goals as goal

pub returns-in-Some-reply_to-clause-short : goal.returns-in-Some-reply_to-clause-short
returns-in-Some-reply_to-clause-short g c = λ short.
    let ready = subst (λ (o : _). IfSome o (λ s. IsReady c.self.inside.shape s.config c.self.inside.running (g.R.Rig.rig_state c.self.inside.inner))) (sym c.in-Some.ensures.value) c.self.invariant in
    let same : c.args.self.now.shape ≡ c.in-Some.set.config.shape = sym (ready.shape ∙ ap (λ p. p.shape) c.self.view_is) in
    c.reply_to.ensures.short (subst (λ k. IsShort c.in-Some.set.config.shape k c.args.request.now (length c.args.reply.now)) (sym (ap (λ p. p.check) c.self.view_is))
    (subst (λ m. IsShort m c.args.self.now.check c.args.request.now (length c.args.reply.now)) same short)) ∙ ap (λ p. g.R.Rig.rig_state p.inner) c.self.view_is

pub returns-in-Some-reply_to-clause-fits : goal.returns-in-Some-reply_to-clause-fits
returns-in-Some-reply_to-clause-fits g c = λ short.
    let ready = subst (λ (o : _). IfSome o (λ s. IsReady c.self.inside.shape s.config c.self.inside.running (g.R.Rig.rig_state c.self.inside.inner))) (sym c.in-Some.ensures.value) c.self.invariant in
    let same : c.args.self.now.shape ≡ c.in-Some.set.config.shape = sym (ready.shape ∙ ap (λ p. p.shape) c.self.view_is) in
    c.in-Some-reply_to.ensures.fits (subst (λ k. IsShort c.in-Some.set.config.shape k c.args.request.now (length c.args.reply.now)) (sym (ap (λ p. p.check) c.self.view_is))
    (subst (λ m. IsShort m c.args.self.now.check c.args.request.now (length c.args.reply.now)) same short))

pub returns-in-None-clause-short : goal.returns-in-None-clause-short
returns-in-None-clause-short g c = λ short.
    let ready = subst (λ (o : _). IfSome o (λ s. IsReady c.self.inside.shape s.config c.self.inside.running (g.R.Rig.rig_state c.self.inside.inner))) (sym c.in-Some.ensures.value) c.self.invariant in
    let same : c.args.self.now.shape ≡ c.in-Some.set.config.shape = sym (ready.shape ∙ ap (λ p. p.shape) c.self.view_is) in
    c.reply_to.ensures.short (subst (λ k. IsShort c.in-Some.set.config.shape k c.args.request.now (length c.args.reply.now)) (sym (ap (λ p. p.check) c.self.view_is))
    (subst (λ m. IsShort m c.args.self.now.check c.args.request.now (length c.args.reply.now)) same short)) ∙ ap (λ p. g.R.Rig.rig_state p.inner) c.self.view_is
