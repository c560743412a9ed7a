use Rattle.design_equal.proofs.Vocabulary.{◌&&◌, ◌||◌, Bool, ap, sym, ◌∙◌, not, if◌then◌else◌, literal_in, holds, work_holds}
use Rattle.design_equal.proofs.ProductLemmas.{either_not}
use Rattle.design_equal.proofs.expand.open_gate.Goals as goal

pub returns-then-negated : goal.returns-then-negated
returns-then-negated c = λ bits.
    let left : Bool = literal_in bits c.args.gate.left in
    let right : Bool = literal_in bits c.args.gate.right in
    c.in_ok-fork.ensures bits
    ∙ ap (λ (b : Bool). work_holds bits c.args.work.now || (holds bits c.args.pending.done.items && (holds bits c.args.pending.todo.items && b)))
    (ap (λ (b : Bool). b || literal_in bits c.flipped-right.result) (c.flipped-left.ensures bits)
    ∙ ap (λ (b : Bool). not (literal_in bits c.args.gate.left) || b) (c.flipped-right.ensures bits)
    ∙ either_not (literal_in bits c.args.gate.left) (literal_in bits c.args.gate.right)
    ∙ ap (λ (n : Bool). if n then not (literal_in bits c.args.gate.left && literal_in bits c.args.gate.right) else (literal_in bits c.args.gate.left && literal_in bits c.args.gate.right)) (sym c.if-negated.true))
