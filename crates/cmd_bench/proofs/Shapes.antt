-- The generator's counts make a shape.
use Rattle.cmd_bench.proofs.Vocabulary.{◌≡◌, ℕ, zero, suc, ◌<◌, slice_index_or, arith, Counts, bench_counts}
use Rattle.machine_shape.specs.declared.{Field.Field, LimitedCount.LimitedCount, ShapeFault.TheVariants.Zero, ShapeFault.TheVariants.Limit}
use Rattle.machine_shape.specs.declared.Field.TheVariants.{Modules, Chips, Hextants, Tables, Ports, Lines, Pins}
use Rattle.machine_shape.specs.declared.LimitedCount.TheVariants as which
use Rattle.machine_shape.specs.declared.ShapeFault.{ShapeFault}
use Rattle.machine_shape.specs.Vocabulary.{levels_from, HasZero, IsSmallFault, amount_of, most_of_small}

no_port : (k : ℕ) → k < 3 → slice_index_or bench_counts.ports k 0 ≡ 0 → ⊥
no_port zero less e = omega (arith, e)
no_port (suc zero) less e = omega (arith, e)
no_port (suc (suc zero)) less e = omega (arith, e)
no_port (suc (suc (suc k))) less e = omega (arith, less)

no_line : (k : ℕ) → k < 4 → slice_index_or bench_counts.lines k 0 ≡ 0 → ⊥
no_line zero less e = omega (arith, e)
no_line (suc zero) less e = omega (arith, e)
no_line (suc (suc zero)) less e = omega (arith, e)
no_line (suc (suc (suc zero))) less e = omega (arith, e)
no_line (suc (suc (suc (suc k)))) less e = omega (arith, less)

no_zero : (field : Field) → HasZero bench_counts field → ⊥
no_zero Modules e = omega (arith, e)
no_zero Chips e = omega (arith, e)
no_zero Hextants e = omega (arith, e)
no_zero Tables e = omega (arith, e)
no_zero Ports has = no_port has.0 has.1 has.2
no_zero Lines has = no_line has.0 has.1 has.2
no_zero Pins e = omega (arith, e)

within : (which : LimitedCount) → most_of_small which < amount_of bench_counts which → ⊥
unfolding levels_from
within which.Tables e = omega (arith, e)
within which.Wires e = omega (arith, e)
within which.Crosspoints e = omega (arith, e)
within which.Pins e = omega (arith, e)

no_fault : (fault : ShapeFault) → IsSmallFault bench_counts fault → ⊥
no_fault (Zero field) is = no_zero field is.zero
no_fault (Limit which value) is = within which is.1.passed

pub makes_shape : (c : Counts) (fault : ShapeFault) → c ≡ bench_counts → IsSmallFault c fault → ⊥
makes_shape c fault same is = no_fault fault (rw same at is)
