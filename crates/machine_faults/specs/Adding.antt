-- A fault set of a machine, and what a further fault makes of it.
use Rattle.std.specs.Prelude.{◌≡◌, ℕ, ◌+◌, ◌<◌, ◌≤◌, ◌==◌, Bool, true, false, nat_lt, Option, Some, None, if◌then◌else◌, refl}
use Rattle.std.specs.FinMap as map
use Rattle.std.specs.FinSet as set
use Rattle.std.specs.Coded.{Coded, code_by, coded×, coded_ℕ, coded_bool}
use Rattle.std.specs.Ordering.{nat_cmp}
use Rattle.machine_shape.specs.contracts.Shape as shape
use Rattle.machine_shape.specs.declared.Shape.{Shape}
use Rattle.machine_shape.specs.Vocabulary.{wires_of, crosses_of, tables_of, most_faults}
use Rattle.machine_meaning.specs.Faults.{Faults, pair_cmp, stuck_wire, stuck_cross, wrong_cell, stuck_register, is_bridge, AreFaultsOf}
use Rattle.machine_faults.specs.declared.fault.{Fault.Fault, AddFault.AddFault}
use Rattle.machine_faults.specs.declared.fault.Fault.TheVariants.{Stuck, CrossStuck, Cell, Register, Bridge}
use Rattle.machine_faults.specs.declared.fault.AddFault.TheVariants.{Same, Doubled, Against, Limit, Memory}

-- the faults of a machine of this shape
pub record Faulty : Type 0 where
  pub shape : Shape
  pub faults : Faults

-- codes, by which a proof tells these values apart
abbrev pub coded_pair : Coded (ℕ × ℕ)
coded_pair = coded× coded_ℕ coded_ℕ

abbrev pub coded_faults : Coded Faults
coded_faults = code_by ((map.FinMap nat_cmp Bool × map.FinMap nat_cmp Bool)
    × (map.FinMap nat_cmp Bool × (map.FinMap pair_cmp Bool × set.FinSet pair_cmp)))
    (coded× (coded× (map.code coded_ℕ coded_bool) (map.code coded_ℕ coded_bool))
    (coded× (map.code coded_ℕ coded_bool) (coded× (map.code coded_pair coded_bool) (set.code coded_pair))))
    (λ f. ((f.wires, f.crosses), (f.registers, (f.cells, f.bridges))))
    (λ p. record { wires = p.0.0; crosses = p.0.1; registers = p.1.0; cells = p.1.1.0; bridges = p.1.1.1 }) (λ _. refl)

abbrev pub coded_faulty : Coded Faulty
coded_faulty = code_by (Shape × Faults) (coded× shape.the_row.coded coded_faults) (λ s. (s.shape, s.faults))
    (λ p. record { shape = p.0; faults = p.1 }) (λ _. refl)

-- how many faults there are
abbrev pub count_of : Faults → ℕ
count_of f = map.len f.wires + map.len f.crosses + map.len f.cells + map.len f.registers + set.len f.bridges

abbrev pub no_faults : Faults
no_faults = record { wires = map.empty; crosses = map.empty; cells = map.empty; registers = map.empty; bridges = set.empty }

-- a machine of this shape can have the fault: its numbers are within the machine
abbrev pub CanHave : Shape → Fault → Type 0
CanHave m (Stuck wire value) = wire.0 < wires_of m
CanHave m (CrossStuck cross closed) = cross.0 < crosses_of m
CanHave m (Cell table address value) = (table.0 < tables_of m) × (address < 64)
CanHave m (Register table value) = table.0 < tables_of m
CanHave m (Bridge a b) = (a.0 < wires_of m) × (b.0 < wires_of m)

-- two wires, the lower one first
abbrev pub lower_first : ℕ → ℕ → ℕ × ℕ
lower_first a b = if nat_lt b a then (b, a) else (a, b)

-- the set with one more entry
abbrev pub with_fault : Faults → Fault → Faults
with_fault f (Stuck wire value) = record f { wires = map.insert f.wires wire.0 value }
with_fault f (CrossStuck cross closed) = record f { crosses = map.insert f.crosses cross.0 closed }
with_fault f (Cell table address value) = record f { cells = map.insert f.cells (table.0, address) value }
with_fault f (Register table value) = record f { registers = map.insert f.registers table.0 value }
with_fault f (Bridge a b) = record f { bridges = set.insert f.bridges (lower_first a.0 b.0) }

-- a bridge of a wire with itself
abbrev pub is_loop : Fault → Bool
is_loop (Bridge a b) = a.0 == b.0
is_loop _ = false

-- the value of a fault, and the one that the set has at its place; a bridge that is there has the value true
abbrev pub value_of : Fault → Bool
value_of (Stuck wire value) = value
value_of (CrossStuck cross closed) = closed
value_of (Cell table address value) = value
value_of (Register table value) = value
value_of (Bridge a b) = true

abbrev pub value_at : Faults → Fault → Option Bool
value_at f (Stuck wire value) = stuck_wire f wire.0
value_at f (CrossStuck cross closed) = stuck_cross f cross.0
value_at f (Cell table address value) = wrong_cell f table.0 address
value_at f (Register table value) = stuck_register f table.0
value_at f (Bridge a b) = if is_bridge f (lower_first a.0 b.0) then Some true else None

-- what there is against one more value where this stands at its place, in a set of this many faults that may have so many
abbrev pub refusal_at : (most : ℕ) → Option Bool → Bool → ℕ → Option AddFault
refusal_at most None value n = if nat_lt n most then None else Some Limit
refusal_at most (Some true) true n = Some Doubled
refusal_at most (Some true) false n = Some Against
refusal_at most (Some false) true n = Some Against
refusal_at most (Some false) false n = Some Doubled

-- what comes first against adding a fault of a machine
abbrev pub refusal_of : Shape → Faults → Fault → Option AddFault
refusal_of m f x = if is_loop x then Some Same else refusal_at (most_faults m) (value_at f x) (value_of x) (count_of f)

-- a refusal is that one; of a lack of memory nothing is said
abbrev pub IsRefusal : Option AddFault → AddFault → Type 0
IsRefusal why Memory = Unit {0}
IsRefusal why given = why ≡ Some given

-- what holds of every set: it is of its machine, has a bridge's lower wire first, and keeps its machine's limit
pub record IsFaultSet (s : Faulty) : Type 0 where
  pub faults : AreFaultsOf s.shape s.faults
  pub lower_first : (a b : ℕ) → is_bridge s.faults (a, b) ≡ true → a < b
  pub few : count_of s.faults ≤ most_faults s.shape
