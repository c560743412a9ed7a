use Rattle.std.proofs.Common.{◌∙◌, ap, arith}
use Rattle.diag_evidence.proofs.{Sessions.cycled_twice, Sessions.twice_run, Sessions.got, Fewer.few_load, Fewer.most_two}
use Rattle.diag_evidence.proofs.Logging.{logs_twice}
use Rattle.diag_evidence.proofs.readings.read_twice.Goals as goal

pub returns-in_err-cycle-clause-few : goal.returns-in_err-cycle-clause-few
returns-in_err-cycle-clause-few g c =
    few_load _ _ 1 (c.cycle.ensures.machine ∙ c.in_ok-begin.ensures.loads.machine) (c.cycle.ensures.loads ∙ c.in_ok-begin.ensures.counted) (omega (arith, c.cycle.ensures.made, c.begin.ensures.made)) (most_two _ c.args.config.now.config.shape c.requires.attached 1 (omega arith))

pub returns-in_err-cycle-2-clause-few : goal.returns-in_err-cycle-2-clause-few
returns-in_err-cycle-2-clause-few g c =
    few_load _ _ 2 (c.cycle-2.ensures.machine ∙ c.in_ok-cycle.ensures.machine ∙ c.in_ok-begin.ensures.loads.machine) (c.cycle-2.ensures.loads ∙ c.in_ok-cycle.ensures.loads ∙ c.in_ok-begin.ensures.counted) (omega (arith, c.cycle-2.ensures.made, c.cycle.ensures.made, c.begin.ensures.made)) (most_two _ c.args.config.now.config.shape c.requires.attached 2 (omega arith))

pub returns-clause-few : goal.returns-clause-few
returns-clause-few g c =
    few_load _ _ 2 (c.in_ok-cycle-2.ensures.machine ∙ c.in_ok-cycle.ensures.machine ∙ c.in_ok-begin.ensures.loads.machine) (c.in_ok-cycle-2.ensures.loads ∙ c.in_ok-cycle.ensures.loads ∙ c.in_ok-begin.ensures.counted) (omega (arith, c.cycle-2.ensures.made, c.cycle.ensures.made, c.begin.ensures.made)) (most_two _ c.args.config.now.config.shape c.requires.attached 2 (omega arith))

pub returns-clause-reads_each : goal.returns-clause-reads_each
returns-clause-reads_each g c = λ f e. record {
  reading = c.cycle.new.read;
  later = c.cycle-2.new.read;
  run = twice_run _ _ _ c.args.config.now.config _ c.args.low.now c.args.high.now _ _ c.in_ok-begin.ensures.begins c.in_ok-cycle.ensures.cycles c.in_ok-cycle-2.ensures.cycles f e;
  first_is = got c.cycle.new.read c.args.at _ c.get-first.ensures;
  second_is = got c.cycle-2.new.read c.args.at _ c.get-second.ensures;
}

pub returns-clause-session : goal.returns-clause-session
returns-clause-session g c = cycled_twice _ _ _ c.args.config.now.config _ c.args.low.now c.args.high.now _ _ c.in_ok-begin.ensures.begins c.in_ok-cycle.ensures.cycles c.in_ok-cycle-2.ensures.cycles

pub returns-clause-logged : goal.returns-clause-logged
returns-clause-logged g c = record {
  reading = c.cycle.new.read;
  later = c.cycle-2.new.read;
  logged = logs_twice _ _ _ _ c.args.config.now.config _ c.args.low.now c.args.high.now _ _ c.begin.ensures.logged c.in_ok-begin.ensures.begins c.in_ok-cycle.ensures.cycles c.in_ok-cycle-2.ensures.cycles;
  first_is = got c.cycle.new.read c.args.at _ c.get-first.ensures;
  second_is = got c.cycle-2.new.read c.args.at _ c.get-second.ensures;
}
