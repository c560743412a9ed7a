-- How `bench` begins: a machine is made, and attached under the name of the number.
use Rattle.cmd_bench.proofs.Vocabulary.{◌≡◌, ℕ, List, [], refl, subst, inl, Result, Ok, Err, Shape, Stop}
use Rattle.machine_bench.specs.Work as work
use Rattle.cmd_steps.specs.Vocabulary.{Outside, around, Does, Took, Follows, attaches, MayAsk}
use Rattle.cmd_steps.specs.declared.refusal.{Refusal.TheVariants.Memory, Stop.TheVariants.Refused}
use Rattle.cmd_steps.proofs.Machines.{named}
use Rattle.cmd_steps.proofs.Taking.{took-nothing, took-value, step-stops, step-gives, attach-gives, asks-machine}
use Rattle.cmd_bench.specs.Bench.{makes_shape, generated_name, bench_machine, machine_attached, design_made, bench_job}

abbrev IsAsked : Outside → Outside → Shape → List ℕ → Type 0
IsAsked old mid m name = MayAsk (named name m) old.rig.machine.asked mid.rig.machine.asked

abbrev IsTried : Outside → Outside → Shape → Result (Unit {0}) Stop → List ℕ → Type 0
IsTried old mid m tried name = Took [] (attaches (named name m) old.rig mid.rig) tried old mid

module _ {U : Type 0} (n : ℕ) (result : Result U Stop) (old : Outside) where
  -- memory was lacking for the name
  pub unnamed : result ≡ Err (Refused Memory) → Does ⊥ (bench_job n) result old old
  unnamed is =
      step-stops _ _ _ makes_shape [] [] _ _ result old old is (took-nothing makes_shape _ old refl tt) tt (refl, refl) (inl refl)

  module _ (m : Shape) (counts : m.counts ≡ work.bench_counts) where
    -- the machine was made
    shape-gives : (new : Outside) → Follows ⊥ [] (MayAsk (bench_machine n m) old.rig.machine.asked new.rig.machine.asked)
        (machine_attached n (around old) (around new) m) result old new → Does ⊥ (bench_job n) result old new
    shape-gives new is =
        step-gives _ _ _ makes_shape [] [] _ _ m m result old old new (took-value makes_shape m old counts) counts is
        (asks-machine _ _ m _ _ counts is.machines)

    module _ (name : List ℕ) (is_name : name ≡ generated_name n) (mid : Outside) where
      -- it isn't attached
      pub unattached : (stop : Stop) → result ≡ Err stop → IsAsked old mid m name → IsTried old mid m (Err stop) name
          → (mid.store ≡ old.store) × (mid.rig.loads ≡ old.rig.loads) → Does ⊥ (bench_job n) result old mid
      unattached stop is asked tried at =
          let took = subst (IsTried old mid m (Err stop)) is_name tried in
          shape-gives mid (step-stops _ _ _ _ [] [] _ stop result old mid is took took.stops at (subst (IsAsked old mid m) is_name asked))

      -- or it is, and so it stays
      pub attached : (new : Outside) → IsAsked old mid m name → IsTried old mid m (Ok tt) name
          → Follows ⊥ [] (new.rig.machine ≡ mid.rig.machine) (design_made n (around old) (around new) m) result mid new
          → Does ⊥ (bench_job n) result old new
      attached new asked tried is =
          shape-gives new (attach-gives _ _ (λ _. design_made n (around old) (around new) m) [] old.rig result old mid new
          (subst (IsTried old mid m (Ok tt)) is_name tried) (subst (IsAsked old mid m) is_name asked) is)
