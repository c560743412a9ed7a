-- A rig that fails at chosen calls.
use Rattle.std.specs.Prelude.{ℕ, ◌+◌, ◌-◌, ◌^◌, min, Bool, List, [], None, if◌then◌else◌, Contains}
use Rattle.base_io.specs.Counts.{next_count}
use Rattle.rig.specs.Rig.{Asked, RigState, log_of, IsDetached, AttachFails}
use Rattle.rig.specs.declared.rig.AttachFail.TheVariants as attach

-- two counts of failures as one, which stops at the last value of u64
abbrev pub both_counts : ℕ → ℕ → ℕ
both_counts n m = min (n + m) (2 ^ 64 - 1)

-- what it means as a rig: it tells what its inner rig tells, and has what it asked of it, but only while a machine
-- is attached to it and a session stands
abbrev pub flaky_state : RigState → List Asked → Bool → Bool → ℕ → RigState
flaky_state inner asked is_attached in_session failures = record {
  machine = record inner.machine {
    asked = asked;
    attached = if is_attached then inner.machine.attached else None;
  };
  session = if is_attached then (if in_session then inner.session else None) else None;
  past = if is_attached then (if in_session then inner.past else log_of inner) else [];
  loads = inner.loads;
  failures = both_counts failures inner.failures;
}

-- the call after so many calls is one of those that are to fail
abbrev pub IsChosen : List ℕ → ℕ → Type 0
IsChosen fails calls = Contains fails (next_count calls)

-- the inner rig was reached, and answered `Memory` itself
abbrev pub WantsMemory : Asked → RigState → RigState → Type 0
WantsMemory machine old new = IsDetached new × AttachFails attach.Memory machine old new
