use Rattle.rig_port.proofs.Vocabulary.{ℕ, List, take, drop, subst, HasReplayed}
use Rattle.rig_port.proofs.Replayed.{begun_more, begun_still}
use Rattle.rig_port.proofs.replay_port.ReplayPortPort.ask.Goals as goal

pub returns-in-Some-clause-begun : goal.returns-in-Some-clause-begun
returns-in-Some-clause-begun c = λ begun.
    let line = take c.in-Some.replied.count c.next_reply.new.reply in
    begun_more c.args.self.now.recorded.items c.args.self.now.at c.in-Some.replied.next c.args.self.now.talk c.and-self.result c.args.request.now line
    (subst (λ (xs : List ℕ). HasReplayed (drop c.args.self.now.at xs) (drop c.in-Some.replied.next xs) c.args.request.now line) c.deref.ensures.value c.in-Some.ensures.replied) c.and-self.ensures begun

pub returns-in-None-clause-begun : goal.returns-in-None-clause-begun
returns-in-None-clause-begun c = λ begun.
    begun_still c.args.self.now.recorded.items c.args.self.now.at c.args.self.now.talk c.and_unanswered-self.result c.args.request.now c.and_unanswered-self.ensures begun
