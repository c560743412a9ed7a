-- Commands that begin with a machine: it is read, and attached under a name.
use Rattle.cmd_steps.proofs.Vocabulary.{◌≡◌, ℕ, List, [], ◌∷◌, refl, inl, Result, Ok, Err, StoreState, SinkState, Shape, RigState, Asked}
use Rattle.cmd_steps.proofs.Vocabulary.{Outside, outside, Course, after, Took, Follows, reads_machine, attaches, MayAsk, AsksMachine, Stop}
use Rattle.cmd_steps.proofs.Taking.{step-stops, step-gives, attach-gives, asks-machine}

abbrev pub named : List ℕ → Shape → Asked
named name m = record { shape = m; name = name }

-- what is asked of the rig
abbrev pub AsksNamed : (machine name : List ℕ) → (old new : Outside) → Type 0
AsksNamed machine name old new = AsksMachine (reads_machine (old.store.contents machine)).gives name old.rig.machine.asked new.rig.machine.asked

-- the course: this holds while the machine is read and attached, and the rest is of its shape
abbrev pub attached_course : (machine name : List ℕ) → (near : Type 0) → (rest : Shape → Course) → (old new : Outside) → Course
attached_course machine name near rest old new =
    after (reads_machine (old.store.contents machine)) near (λ m. after (attaches (named name m) old.rig new.rig) near (λ _. rest m))

module _ {U : Type 0} (machine name : List ℕ) (near : Type 0) (rest : Shape → Course) (more : List (List ℕ)) where
  -- the machine isn't read
  pub machine-stops : (s0 s1 : StoreState) (r : RigState) (a : SinkState) (stop : Stop) (result : Result U Stop) → result ≡ Err stop → Took (machine ∷ []) (reads_machine (s0.contents machine)) (Err stop) (outside s0 r a) (outside s1 r a) → near → Follows ⊥ (machine ∷ more) (AsksNamed machine name (outside s0 r a) (outside s1 r a)) (attached_course machine name near rest (outside s0 r a) (outside s1 r a)) result (outside s0 r a) (outside s1 r a)
  machine-stops s0 s1 r a stop result is took at =
      let step = reads_machine (s0.contents machine) in
      step-stops step near (λ m. after (attaches (named name m) r r) near (λ _. rest m)) step (machine ∷ []) more _ stop result (outside s0 r a) (outside s1 r a) is took took.stops at (inl refl)

  module _ (s0 s1 : StoreState) (r0 r1 : RigState) (a : SinkState) (m : Shape) (read : Took (machine ∷ []) (reads_machine (s0.contents machine)) (Ok m) (outside s0 r0 a) (outside s1 r0 a)) (may : MayAsk (named name m) r0.machine.asked r1.machine.asked) where
    -- the machine was read
    read-then : (result : Result U Stop) (new : Outside) → Follows ⊥ more (MayAsk (named name m) r0.machine.asked new.rig.machine.asked) (after (attaches (named name m) r0 new.rig) near (λ _. rest m)) result (outside s1 r0 a) new → Follows ⊥ (machine ∷ more) (AsksNamed machine name (outside s0 r0 a) new) (attached_course machine name near rest (outside s0 r0 a) new) result (outside s0 r0 a) new
    read-then result new is =
        let step = reads_machine (s0.contents machine) in
        step-gives step near (λ m. after (attaches (named name m) r0 new.rig) near (λ _. rest m)) step (machine ∷ []) more _ _ m m result (outside s0 r0 a) (outside s1 r0 a) new read read.gives is
        (asks-machine step.gives name m r0.machine.asked new.rig.machine.asked read.gives is.machines)

    -- it isn't attached
    pub attach-stops : (stop : Stop) (result : Result U Stop) → result ≡ Err stop → Took [] (attaches (named name m) r0 r1) (Err stop) (outside s1 r0 a) (outside s1 r1 a) → near → Follows ⊥ (machine ∷ more) (AsksNamed machine name (outside s0 r0 a) (outside s1 r1 a)) (attached_course machine name near rest (outside s0 r0 a) (outside s1 r1 a)) result (outside s0 r0 a) (outside s1 r1 a)
    attach-stops stop result is took at =
        let step = attaches (named name m) r0 r1 in
        read-then result (outside s1 r1 a) (step-stops step near (λ _. rest m) step [] more _ stop result (outside s1 r0 a) (outside s1 r1 a) is took took.stops at may)

    -- it is, and stays so in the rest
    pub attached-gives : (result : Result U Stop) (new : Outside) → Took [] (attaches (named name m) r0 r1) (Ok tt) (outside s1 r0 a) (outside s1 r1 a) → Follows ⊥ more (new.rig.machine ≡ r1.machine) (rest m) result (outside s1 r1 a) new → Follows ⊥ (machine ∷ more) (AsksNamed machine name (outside s0 r0 a) new) (attached_course machine name near rest (outside s0 r0 a) new) result (outside s0 r0 a) new
    attached-gives result new took is =
        read-then result new (attach-gives (named name m) near (λ _. rest m) more r0 result (outside s1 r0 a) (outside s1 r1 a) new took may is)
