-- Commands that attach a machine and read a file behind it.
use Rattle.cmd_steps.proofs.Vocabulary.{◌≡◌, ℕ, List, [], ◌∷◌, refl, Result, Ok, Err, Told, StoreState, SinkState, Shape, RigState, Stop}
use Rattle.cmd_steps.specs.Vocabulary.{Outside, StandsIn, outside, Course, Step, after, Took, Follows, reads_machine, attaches, MayAsk}
use Rattle.cmd_steps.proofs.Machines.{named, AsksNamed, attached_course, attached-gives}
use Rattle.cmd_steps.proofs.Reading.{HasRead, more-read, read-stops, read-gives}

-- `near` holds while the machine is read and attached, and `here` while the file is read
abbrev pub read_course : {T : Type 0} → (machine name : List ℕ) → (near : Type 0) → (step : Shape → Told → Step T) → (file : List ℕ) →
    (here : Type 0) → (rest : Shape → T → Course) → (old new : Outside) → Course
read_course machine name near step file here rest old new =
    attached_course machine name near (λ m. after (step m (old.store.contents file)) here (rest m)) old new

-- the machine was read and attached
module _ {T U : Type 0} (machine name : List ℕ) (near : Type 0) (step : Shape → Told → Step T) (file : List ℕ) (here : Type 0)
    (rest : Shape → T → Course) (more : List (List ℕ)) (s0 s1 s2 : StoreState) (r0 r1 : RigState) (a : SinkState) (m : Shape)
    (read : Took (machine ∷ []) (reads_machine (s0.contents machine)) (Ok m) (outside s0 r0 a) (outside s1 r0 a))
    (may : MayAsk (named name m) r0.machine.asked r1.machine.asked)
    (attached : Took [] (attaches (named name m) r0 r1) (Ok tt) (outside s1 r0 a) (outside s1 r1 a)) where
  -- the file isn't right
  pub file-unread : (stop : Stop) (result : Result U Stop) → result ≡ Err stop →
      Took {T = T} (file ∷ []) (step m (s1.contents file)) (Err stop) (outside s1 r1 a) (outside s2 r1 a) →
      (StandsIn (file ∷ machine ∷ []) s0 s2 → here) →
      Follows ⊥ (machine ∷ file ∷ more) (AsksNamed machine name (outside s0 r0 a) (outside s2 r1 a))
      (read_course machine name near step file here rest (outside s0 r0 a) (outside s2 r1 a)) result (outside s0 r0 a) (outside s2 r1 a)
  file-unread stop result is took holds =
      let has : HasRead (machine ∷ []) s0 s1 = record { contents = read.later.contents; place = read.place } in
      attached-gives machine name near (λ m. after (step m (s0.contents file)) here (rest m)) (file ∷ more) s0 s1 r0 r1 a m read may result
      (outside s2 r1 a) attached
      (read-stops (step m) file (machine ∷ []) s0 here (rest m) more (r1.machine ≡ r1.machine) stop result
      (outside s1 r1 a) (outside s2 r1 a) is has took holds refl)

  -- or it is, and the rest follows
  pub file-read : (x : T) (result : Result U Stop) (new : Outside) →
      Took (file ∷ []) (step m (s1.contents file)) (Ok x) (outside s1 r1 a) (outside s2 r1 a) →
      (HasRead (file ∷ machine ∷ []) s0 s2 → Follows ⊥ more (new.rig.machine ≡ r1.machine) (rest m x) result (outside s2 r1 a) new) →
      Follows ⊥ (machine ∷ file ∷ more) (AsksNamed machine name (outside s0 r0 a) new)
      (read_course machine name near step file here rest (outside s0 r0 a) new) result (outside s0 r0 a) new
  file-read x result new took follows =
      let has : HasRead (machine ∷ []) s0 s1 = record { contents = read.later.contents; place = read.place } in
      let is = follows (more-read (step m) file (machine ∷ []) s0 x (outside s1 r1 a) (outside s2 r1 a) has took) in
      attached-gives machine name near (λ m. after (step m (s0.contents file)) here (rest m)) (file ∷ more) s0 s1 r0 r1 a m read may result
      new attached
      (read-gives (step m) file (machine ∷ []) s0 here (rest m) more (new.rig.machine ≡ r1.machine) (new.rig.machine ≡ r1.machine) x result
      (outside s1 r1 a) (outside s2 r1 a) new has took is is.machines)
