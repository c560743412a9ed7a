use Rattle.cmd_bench.proofs.Vocabulary.{sym, subst, Counts}
use Rattle.machine_shape.specs.Counts.{IsAmple}
use Rattle.cmd_bench.proofs.Parts.{tables_are, nets_are, sound_parts}
use Rattle.cmd_bench.proofs.room.generated_faults_leave_room.Goals as goal

pub returns-clause-tables : goal.returns-clause-tables
returns-clause-tables c = tables_are

pub returns-clause-nets : goal.returns-clause-nets
returns-clause-nets c = nets_are

pub returns-clause-sound : goal.returns-clause-sound
returns-clause-sound c = λ m n f is made.
    let e = c.bench_faults_leave_sound_parts.ensures in
    let ample : IsAmple m.counts = subst (λ (x : Counts). IsAmple x) (sym is) e.ample in
    sound_parts m is f (e.sound m n f made) (c.ports_and_lines_ascend.ensures m) (e.served m n f made ample)
