use Rattle.machine_bench.proofs.Vocabulary.{◌∙◌, sym, ap, subst, AfterTurns, none}
use Rattle.machine_bench.proofs.Turns.{state_more, turn_more}
use Rattle.machine_bench.proofs.faults.bench_faults.Goals as goal

pub turns-init : goal.turns-init
turns-init c = let e = c.in_ok-set.ensures in (ap (λ s. s.shape) e, c.new-draws.ensures, subst (λ f. AfterTurns c.args.shape.now c.args.n 0 f) (sym (ap (λ s. s.faults) e)) none)

pub turns-preserved : goal.turns-preserved
turns-preserved c =
    let i = c.turns.invariant in (
      c.take_turn.ensures.shape ∙ i.0,
      c.take_turn.ensures.state ∙ state_more c.args.shape.now c.args.n c.turns.turn c.turns.draws i.1,
      turn_more c.args.shape.now c.args.n c.turns.turn c.turns.draws i.1 _ _ i.2 c.in_ok-take_turn.ensures.taken,
    )
