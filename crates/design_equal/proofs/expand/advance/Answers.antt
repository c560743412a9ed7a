use Rattle.std.proofs.Common.{[], rules}
use Rattle.std.proofs.lemmas.Result.{IfOk-weaker}
use Rattle.design_equal.proofs.Vocabulary.{◌≡◌, ◌∙◌, sym}
use Rattle.design_equal.proofs.ProductLemmas.{finished, opened}
use Rattle.design_equal.proofs.expand.advance.Goals as goal

pub returns-in-Some-pop : goal.returns-in-Some-pop
returns-in-Some-pop c = IfOk-weaker c.open.result _ _ (λ on so is bits valued.
    so is bits valued ∙ sym (opened bits c.args.work.now.sum.items c.args.work.now.waiting.items c.pop.new.self.items c.in-Some.pending c.pop-2.new.self.items c.in-Some-pop.literal c.in-Some.ensures.items c.in-Some-pop.ensures.items)) c.open.ensures

pub returns-in_ok-finish-in-None : goal.returns-in_ok-finish-in-None
returns-in_ok-finish-in-None c = λ is bits valued.
    let none : c.in-Some.pending.todo.items ≡ [] = search (rules, c.in-None.ensures) in
    c.in_ok-finish-in-None.ensures bits valued.zero ∙ sym (finished bits c.args.work.now.sum.items c.args.work.now.waiting.items c.pop.new.self.items c.in-Some.pending c.in-Some.ensures.items none)
