use Rattle.cmd_bench.proofs.{BenchLaws.bench-lawful, Headlines.benched-done}
use Rattle.cmd_bench.proofs.command.bench.Goals as goal

pub returns-clause-lawful : goal.returns-clause-lawful
returns-clause-lawful g c = bench-lawful c.sound_parts_are_room.ensures.room c.plain_networks_have_the_rows.ensures.network c.the_bench_design_is_a_design.ensures.only c.generated_faults_leave_room.ensures.sound c.args.n

pub returns-clause-done : goal.returns-clause-done
returns-clause-done g c = λ store.
    let laws = c.generated_faults_leave_room.ensures in
    benched-done laws.tables laws.nets c.args.n c.the_bench_design_is_a_design.ensures.only _ _ c.work.result (c.work.ensures store).written

pub returns-clause-does : goal.returns-clause-does
returns-clause-does g c = c.work.ensures
