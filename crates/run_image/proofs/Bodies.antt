-- The bodies of the commands, up to the list: a machine is read and attached, and designs are read. A lemma for each place where one
-- ends, and for each where it goes on.
use Rattle.std.proofs.Common.{◌≡◌, ◌≤◌, ℕ, List, [], ◌∷◌, refl, Result, Ok, Err}
use Rattle.run_image.proofs.Vocabulary.{StoreState, SinkState, Shape, NetlistData, RigState, DesignFile, Stop}
use Rattle.cmd_steps.specs.Vocabulary.{Around, Outside, outside, around, Course, after, Unloaded, machine_attached, Took, Follows, reads_machine, reads_design, attaches, MayAsk}
use Rattle.cmd_steps.proofs.Machines.{named, AsksNamed, machine-stops, attach-stops, attached-gives}
use Rattle.cmd_steps.proofs.Reading.{HasRead, none-read, more-read, read-stops, read-gives}

-- these files were read, and no load was made. The rig's count of failures didn't fall
pub record HasOnlyRead (files : List (List ℕ)) (old : Around) (now : Outside) : Type 0 where
  pub read : HasRead files old.store now.store
  pub loads : now.rig.loads ≡ old.rig.loads
  pub failures : old.rig.failures ≤ now.rig.failures

-- ---- the machine

module _ (machine name : List ℕ) (rest : Shape → Course) (more : List (List ℕ)) where
  abbrev FollowsTo : {U : Type 0} → Result U Stop → Outside → Outside → Type 0
  FollowsTo result old new =
      Follows ⊥ (machine ∷ more) (AsksNamed machine name old new) (machine_attached machine name (around old) (around new) rest)
      result old new

  abbrev ReadsTo : Result Shape Stop → Outside → Outside → Type 0
  ReadsTo result old new = Took (machine ∷ []) (reads_machine (old.store.contents machine)) result old new

  -- it isn't read
  pub unread : {U : Type 0} (s0 s1 : StoreState) (r : RigState) (a : SinkState) (stop : Stop) (result : Result U Stop) → result ≡ Err stop
      → ReadsTo (Err stop) (outside s0 r a) (outside s1 r a) → FollowsTo result (outside s0 r a) (outside s1 r a)
  unread s0 s1 r a stop result is took =
      let unloaded = Unloaded (machine ∷ []) (around (outside s0 r a)) (around (outside s1 r a)) in
      machine-stops machine name unloaded rest more s0 s1 r a stop result is took (took.place, refl)

  -- it is
  module _ (s0 s1 : StoreState) (r0 r1 : RigState) (a : SinkState) (m : Shape) (read : ReadsTo (Ok m) (outside s0 r0 a) (outside s1 r0 a))
      (may : MayAsk (named name m) r0.machine.asked r1.machine.asked) (loads : r1.loads ≡ r0.loads) where
    abbrev old : Outside
    old = outside s0 r0 a

    abbrev Attaches : Result (Unit {0}) Stop → Type 0
    Attaches result = Took [] (attaches (named name m) r0 r1) result (outside s1 r0 a) (outside s1 r1 a)

    -- and it isn't attached
    pub unattached : {U : Type 0} (stop : Stop) (result : Result U Stop) → result ≡ Err stop → Attaches (Err stop)
        → FollowsTo result old (outside s1 r1 a)
    unattached stop result is took =
        let unloaded = Unloaded (machine ∷ []) (around old) (around (outside s1 r1 a)) in
        attach-stops machine name unloaded rest more s0 s1 r0 r1 a m read may stop result is took (read.place, loads)

    -- or it is, and the rest is of its shape
    pub attached-then : {U : Type 0} (result : Result U Stop) (new : Outside) → Attaches (Ok tt)
        → (HasOnlyRead (machine ∷ []) (around old) (outside s1 r1 a)
        → Follows ⊥ more (new.rig.machine ≡ r1.machine) (rest m) result (outside s1 r1 a) new)
        → FollowsTo result old new
    attached-then result new took goes =
        let unloaded = Unloaded (machine ∷ []) (around old) (around new) in
        let has = more-read reads_machine machine [] s0 m old (outside s1 r0 a) (none-read s0) read in
        let is = goes (record { read = has; loads = loads; failures = took.later.rig }) in
        attached-gives machine name unloaded rest more s0 s1 r0 r1 a m read may result new took is

-- ---- the designs

module _ {files : List (List ℕ)} {old : Around} {now : Outside} (come : HasOnlyRead files old now) (file : DesignFile) (name : List ℕ)
    (rest : NetlistData → Course) (more : List (List ℕ)) (s : StoreState) where
  abbrev mid : Outside
  mid = outside s now.rig now.sink

  abbrev Draws : Result NetlistData Stop → Type 0
  Draws result = Took (name ∷ []) (reads_design file (now.store.contents name)) result now mid

  abbrev GoesTo : {U : Type 0} → Result U Stop → Outside → Type 0
  GoesTo result new =
      Follows ⊥ (name ∷ more) (new.rig.machine ≡ now.rig.machine)
      (after (reads_design file (old.store.contents name)) (Unloaded (name ∷ files) old (around new)) rest) result now new

  -- one isn't read
  pub undrawn : {U : Type 0} (stop : Stop) (result : Result U Stop) → result ≡ Err stop → Draws (Err stop) → GoesTo result mid
  undrawn stop result is took =
      let unloaded = Unloaded (name ∷ files) old (around mid) in
      let reads = reads_design file in
      read-stops reads name files old.store unloaded rest more _ stop result now mid is come.read took (λ at. (at, come.loads)) refl

  -- or it is, and the rest is of what it says
  pub drawn-then : {U : Type 0} (x : NetlistData) (result : Result U Stop) (new : Outside) → Draws (Ok x)
      → (HasOnlyRead (name ∷ files) old mid → Follows ⊥ more (new.rig.machine ≡ now.rig.machine) (rest x) result mid new)
      → GoesTo result new
  drawn-then x result new took goes =
      let has = more-read (reads_design file) name files old.store x now mid come.read took in
      let is = goes (record { read = has; loads = come.loads; failures = come.failures }) in
      let unloaded = Unloaded (name ∷ files) old (around new) in
      let reads = reads_design file in
      read-gives reads name files old.store unloaded rest more _ _ x result now mid new come.read took is is.machines
