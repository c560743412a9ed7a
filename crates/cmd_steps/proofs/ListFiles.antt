-- A machine, a list of its defects and one more file are read, and the rest is of what they gave: a lemma for each place where
-- the reading ends.
use Rattle.cmd_steps.proofs.Vocabulary.{◌≡◌, ℕ, List, [], ◌∷◌, refl, Result, Ok, Err, Told, StoreState, SinkState, Shape, RigState, Stop}
use Rattle.machine_defects.specs.Lists.{DefectList}
use Rattle.cmd_steps.specs.Vocabulary.{ReadFile, StandsAmong, list_file, plain_file, outside, Course, Step, TookAmong, Follows, reads_machine, reads_defects, behind_list, behind_machine, list_files, listed_course, third_files}
use Rattle.cmd_steps.proofs.Reading.{HasReadAmong, none-read, more-among, stops-among, gives-among}

-- a file was read, or it wasn't
abbrev Reads : {T : Type 0} → RigState → SinkState → (Told → Step T) → ReadFile → (old new : StoreState) → Result T Stop → Type 0
Reads rig a step file old new result = TookAmong (file.name ∷ []) (file ∷ []) (step (old.contents file.name)) result (outside old rig a) (outside new rig a)

module _ {T : Type 0} (third : Told → Shape → Step T)
    (rest : (files : List ReadFile) → (begun ended : StoreState) → DefectList → T → Course) (machine defects file : List ℕ) where
  abbrev after_list : (begun ended : StoreState) → Shape → DefectList → Course
  after_list = behind_list third rest machine defects file

  abbrev after_machine : (begun ended : StoreState) → Shape → Course
  after_machine = behind_machine third rest machine defects file

  -- the files that were read
  abbrev one_file : List ReadFile
  one_file = plain_file machine ∷ []

  abbrev two_files : Shape → List ReadFile
  two_files = list_files machine defects

  abbrev three_files : Shape → List ReadFile
  three_files = third_files machine defects file

  abbrev EndsAt : {U : Type 0} → StoreState → RigState → SinkState → Result U Stop → StoreState → SinkState → Type 0
  EndsAt s0 rig a result s b =
      Follows ⊥ (machine ∷ defects ∷ file ∷ []) (rig ≡ rig) (listed_course third rest machine defects file s0 s) result (outside s0 rig a) (outside s rig b)

  module _ {s0 : StoreState} {rig : RigState} {a : SinkState} where
    pub no-machine : {U : Type 0} {s1 : StoreState} {stop : Stop} → Reads rig a reads_machine (plain_file machine) s0 s1 (Err stop) →
        EndsAt {U = U} s0 rig a (Err stop) s1 a
    no-machine {s1 = s1} took =
        stops-among reads_machine (plain_file machine) [] s0 (StandsAmong one_file s0 s1) (after_machine s0 s1) _ _ _ _ _ _ refl (none-read s0) took (λ at. at) refl

    module _ {s1 : StoreState} {m : Shape} (took1 : Reads rig a reads_machine (plain_file machine) s0 s1 (Ok m)) where
      read1 : HasReadAmong one_file s0 s1
      read1 = more-among reads_machine (plain_file machine) [] s0 m _ _ (none-read s0) took1

      machine-read : {U : Type 0} {result : Result U Stop} {s : StoreState} {b : SinkState} →
          Follows ⊥ (defects ∷ file ∷ []) (Unit {0}) (after_machine s0 s m) result (outside s1 rig a) (outside s rig b) →
          EndsAt s0 rig a result s b
      machine-read {s = s} is =
          gives-among reads_machine (plain_file machine) [] s0 (StandsAmong one_file s0 s) (after_machine s0 s) _ _ _ m _ _ _ _ (none-read s0) took1 is refl

      pub no-list : {U : Type 0} {s2 : StoreState} {stop : Stop} →
          Reads rig a (λ told. reads_defects told m) (list_file m defects) s1 s2 (Err stop) → EndsAt {U = U} s0 rig a (Err stop) s2 a
      no-list {s2 = s2} took =
          machine-read (stops-among (λ told. reads_defects told m) (list_file m defects) one_file s0 (StandsAmong (two_files m) s0 s2) (after_list s0 s2 m) _ _ _ _ _ _
          refl read1 took (λ at. at) tt)

      module _ {s2 : StoreState} {d : DefectList} (took2 : Reads rig a (λ told. reads_defects told m) (list_file m defects) s1 s2 (Ok d)) where
        read2 : HasReadAmong (two_files m) s0 s2
        read2 = more-among (λ told. reads_defects told m) (list_file m defects) one_file s0 d _ _ read1 took2

        list-read : {U : Type 0} {result : Result U Stop} {s : StoreState} {b : SinkState} →
            Follows ⊥ (file ∷ []) (Unit {0}) (after_list s0 s m d) result (outside s2 rig a) (outside s rig b) → EndsAt s0 rig a result s b
        list-read {s = s} is =
            machine-read (gives-among (λ told. reads_defects told m) (list_file m defects) one_file s0 (StandsAmong (two_files m) s0 s) (after_list s0 s m) _ _ _ d _ _ _ _
            read1 took2 is tt)

        pub no-third : {U : Type 0} {s3 : StoreState} {stop : Stop} → Reads rig a (λ told. third told m) (plain_file file) s2 s3 (Err stop) →
            EndsAt {U = U} s0 rig a (Err stop) s3 a
        no-third {s3 = s3} took =
            list-read (stops-among (λ told. third told m) (plain_file file) (two_files m) s0 (StandsAmong (three_files m) s0 s3) _ _ _ _ _ _ _ refl read2 took (λ at. at) tt)

        -- all were read, and the rest is followed from where the store stands
        pub all-read : {U : Type 0} {s3 : StoreState} {x : T} {result : Result U Stop} {b : SinkState} →
            Reads rig a (λ told. third told m) (plain_file file) s2 s3 (Ok x) →
            (StandsAmong (three_files m) s0 s3 →
            Follows ⊥ [] (Unit {0}) (rest (three_files m) s0 s3 d x) result (outside s3 rig a) (outside s3 rig b)) →
            EndsAt s0 rig a result s3 b
        all-read {s3 = s3} {x = x} took is =
            let read3 = more-among (λ told. third told m) (plain_file file) (two_files m) s0 x _ _ read2 took in
            list-read (gives-among (λ told. third told m) (plain_file file) (two_files m) s0 (StandsAmong (three_files m) s0 s3) _ _ _ _ x _ _ _ _
            read2 took (is read3.place) tt)
