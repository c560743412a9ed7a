use Rattle.std.proofs.Common.{zero, suc, arith}
use Rattle.machine_shape.specs.Counts.{levels_from, IsAmple}
use Rattle.machine_meaning.proofs.Serving.{served_by_first}
use Rattle.machine_bench.specs.Work.{bench_counts}
use Rattle.machine_bench.proofs.Left.{left_sound}
use Rattle.machine_bench.proofs.bench_faults_leave_sound_parts.Goals as goal

pub returns-clause-sound : goal.returns-clause-sound
returns-clause-sound c = λ m n f a. left_sound m n f 400 (c.the_numbering_is_sound.ensures.meanings m) a

pub returns-clause-served : goal.returns-clause-served
returns-clause-served c = λ m n f a ample.
    let left = left_sound m n f 400 (c.the_numbering_is_sound.ensures.meanings m) a in
    served_by_first m (c.the_numbering_is_sound.ensures.numbered m) (c.the_numbering_is_sound.ensures.tree m)
    (c.the_numbering_is_sound.ensures.meanings m) (c.the_numbering_is_sound.ensures.parents m)
    (c.the_crosspoints_are_sound.ensures.crosses m) (c.the_crosspoints_are_sound.ensures.meetings m) (c.ports_and_lines_ascend.ensures m)
    ample f (λ k b h. left.pins k (omega arith) h) (λ i k h b l. left.lines i k h (omega arith) l)
    (λ i k h b l. left.ports i k h (omega arith) l)

ample : IsAmple bench_counts
unfolding levels_from
ample zero d h = (omega arith, omega arith)
ample (suc zero) d h = (omega arith, omega arith)
ample (suc (suc zero)) d h = (omega arith, omega arith)
ample (suc (suc (suc zero))) d h = (omega arith, omega arith)
ample (suc (suc (suc (suc k)))) d h = absurd (omega arith)

pub returns-clause-ample : goal.returns-clause-ample
returns-clause-ample c = ample
