use Rattle.machine_faults.proofs.Vocabulary.{◌∙◌, List, ℕ, Bor, arith, length-map}
use Rattle.machine_faults.proofs.Reading.{headless, too_short, read_form}
use Rattle.machine_faults.proofs.line.entry_of.Goals as goal

pub returns-in_default : goal.returns-in_default
returns-in_default c = headless c.args.shape.now _ _ _ c.parted.ensures c.in_default.ensures.none

pub returns-then-rest-follow : goal.returns-then-rest-follow
returns-then-rest-follow c = too_short c.args.shape.now _ _ _ c.parted.ensures c.in-Some.head c.in-Some.ensures.some
    (λ e. let n = length-map c.parted.result.1.now (λ (w : Bor (List ℕ)). w.now) in absurd (omega arith))

pub returns : goal.returns
returns c = read_form c.args.shape.now _ _ _ c.parted.ensures c.in-Some.head c.in-Some.ensures.some
    (length-map c.parted.result.1.now (λ (w : Bor (List ℕ)). w.now) ∙ c.if-rest-follow.false ∙ c.follow.ensures) c.fault_of.result c.fault_of.ensures
