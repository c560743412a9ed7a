use Rattle.cmd_top.proofs.Vocabulary.{map, string_bytes, refl, sym, ap, arith, decimal, outside, around, bench_job, of_number}
use Rattle.cmd_eval.proofs.Promising.{eval-promises}
use Rattle.cmd_compile.proofs.Promising.{compile-promises}
use Rattle.cmd_run.proofs.Promising.{run-promises}
use Rattle.cmd_diagnose.proofs.Promising.{diagnose-promises}
use Rattle.cmd_go.proofs.Promising.{go-promises}
use Rattle.cmd_bench.proofs.Promising.{bench-promises}
use Rattle.cmd_check.proofs.Promising.{check-promises}
use Rattle.cmd_repair.proofs.Promising.{repair-promises}
use Rattle.cmd_pair.proofs.Promising.{pair-promises}
use Rattle.cmd_twice.proofs.Promising.{twice-promises}
use Rattle.cmd_top.proofs.{WordLemmas.some_number, DoneLemmas.ended-as, Alike.only-twice}
use Rattle.cmd_top.proofs.program.teramac.Goals as goal

pub returns-clause-statuses : goal.returns-clause-statuses
returns-clause-statuses g c = c.end.ensures.statuses

pub returns-clause-promises : goal.returns-clause-promises
returns-clause-promises g c =
    let box0 = c.args.rig.now in
    let rig0 = (goal.Rig-dyn g (box0.vtable, box0.value)).rig_state box0.value in
    let box = c.end.new.rig in
    let rig = (goal.Rig-dyn g (box.vtable, box.value)).rig_state box.value in
    let old = outside (g.S.Store.store_state c.args.store.now) rig0 (g.K.Sink.sink_state c.args.sink.now) in
    let new = outside (g.S.Store.store_state c.end.new.store) rig (g.K.Sink.sink_state c.end.new.sink) in
    let words = map string_bytes c.args.words.now in
    let e = c.end.ensures in
    let laws = c.generated_faults_leave_room.ensures in
    let only = c.the_bench_design_is_a_design.ensures.only in
    record {
      ends = e;
      of_eval = eval-promises words _ old new (λ design vectors is. ended-as words old new e is refl);
      of_compile = compile-promises words _ old new (λ machine defects design is. ended-as words old new e is refl);
      of_run = run-promises words _ old new (λ machine name image vectors is. ended-as words old new e is refl);
      of_diagnose = diagnose-promises words _ old new (λ machine name is. ended-as words old new e is refl);
      of_go = go-promises words _ old new (λ machine name design vectors is. ended-as words old new e is refl);
      of_bench = bench-promises laws.tables laws.nets only words _ old new (λ n less is.
          ended-as words old new e is (ap (of_number bench_job) (sym (some_number (decimal n) n refl (omega (arith, less))))));
      of_check = check-promises words _ old new (λ machine name image is. ended-as words old new e is refl);
      of_repair = repair-promises words _ old new (λ machine defects image is. ended-as words old new e is refl);
      of_pair = pair-promises words _ old new (λ machine name first second vectors is. ended-as words old new e is refl);
      of_twice = twice-promises words _ old new (λ machine name design vectors is. ended-as words old new e is refl);
      only_twice = λ seven. let d = e.differ seven in only-twice words (around old) (around new) d.0 d.1;
    }
