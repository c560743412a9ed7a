-- Files that are read one after another, and the line that is written last.
use Rattle.std.proofs.Common.{◌≡◌, ◌∙◌, ℕ, List, [], ◌∷◌, map, refl, subst, Result, Ok, Err}
use Rattle.cmd_steps.proofs.Vocabulary.{Told, StoreState, SinkState, RigState, Stop}
use Rattle.cmd_steps.specs.Vocabulary.{Outside, outside, ReadFile, StandsAmong, StandsIn, plain_file, Course, Step, after, write, done, Took, TookAmong, Puts, Follows}
use Rattle.cmd_steps.proofs.Taking.{stands-more, step-stops, step-gives, line-stops, line-gives, all-done}

-- these files were read since the command began, the last first
pub record HasReadAmong (files : List ReadFile) (begun now : StoreState) : Type 0 where
  pub contents : now.contents ≡ begun.contents
  pub place : StandsAmong files begun now

-- their limits go by no machine
abbrev pub HasRead : (files : List (List ℕ)) → (begun now : StoreState) → Type 0
HasRead files begun now = HasReadAmong (map plain_file files) begun now

pub none-read : (begun : StoreState) → HasRead [] begun begun
none-read begun = record { contents = refl; place = refl }

module _ {T : Type 0} (step : Told → Step T) (file : ReadFile) (files : List ReadFile) (begun : StoreState) where
  abbrev TookIt : Result T Stop → (old new : Outside) → Type 0
  TookIt result old new = TookAmong (file.name ∷ []) (file ∷ []) (step (old.store.contents file.name)) result old new

  -- the file has what it had as the command began
  same-told : (result : Result T Stop) (old new : Outside) → HasReadAmong files begun old.store → TookIt result old new → TookAmong (file.name ∷ []) (file ∷ []) (step (begun.contents file.name)) result old new
  same-told result old new read took = subst (λ (contents : List ℕ → Told). TookAmong (file.name ∷ []) (file ∷ []) (step (contents file.name)) result old new) read.contents took

  stands-read : (result : Result T Stop) (old new : Outside) → HasReadAmong files begun old.store → TookIt result old new → StandsAmong (file ∷ files) begun new.store
  stands-read result old new read took = stands-more files (file ∷ []) begun old.store new.store read.place took.place

  -- one more was read
  pub more-among : (x : T) (old new : Outside) → HasReadAmong files begun old.store → TookIt (Ok x) old new → HasReadAmong (file ∷ files) begun new.store
  more-among x old new read took = record { contents = took.later.contents ∙ read.contents; place = stands-read (Ok x) old new read took }

  -- it isn't right; `near` holds then
  pub stops-among : {U : Type 0} (near : Type 0) (rest : T → Course) (more : List (List ℕ)) (asks : Type 0) (stop : Stop) (result : Result U Stop) (old new : Outside) → result ≡ Err stop → HasReadAmong files begun old.store → TookIt (Err stop) old new → (StandsAmong (file ∷ files) begun new.store → near) → asks → Follows ⊥ (file.name ∷ more) asks (after (step (begun.contents file.name)) near rest) result old new
  stops-among near rest more asks stop result old new is read took holds asked =
      let same = same-told (Err stop) old new read took in
      step-stops (step (begun.contents file.name)) near rest (step (begun.contents file.name)) (file.name ∷ []) more asks stop result old new is same same.stops (holds (stands-read (Err stop) old new read took)) asked

  -- or it is, and the rest is followed
  pub gives-among : {U : Type 0} (near : Type 0) (rest : T → Course) (more : List (List ℕ)) (asks then_asks : Type 0) (x : T) (result : Result U Stop) (old mid new : Outside) → HasReadAmong files begun old.store → TookIt (Ok x) old mid → Follows ⊥ more then_asks (rest x) result mid new → asks → Follows ⊥ (file.name ∷ more) asks (after (step (begun.contents file.name)) near rest) result old new
  gives-among near rest more asks then_asks x result old mid new read took rest_is asked =
      let same = same-told (Ok x) old mid read took in
      step-gives (step (begun.contents file.name)) near rest (step (begun.contents file.name)) (file.name ∷ []) more asks then_asks x x result old mid new same same.gives rest_is asked

module _ {T : Type 0} (step : Told → Step T) (name : List ℕ) (files : List (List ℕ)) (begun : StoreState) where
  pub more-read : (x : T) (old new : Outside) → HasRead files begun old.store → Took (name ∷ []) (step (old.store.contents name)) (Ok x) old new → HasRead (name ∷ files) begun new.store
  more-read x old new read took = more-among step (plain_file name) (map plain_file files) begun x old new read took

  pub read-stops : {U : Type 0} (near : Type 0) (rest : T → Course) (more : List (List ℕ)) (asks : Type 0) (stop : Stop) (result : Result U Stop) (old new : Outside) → result ≡ Err stop → HasRead files begun old.store → Took (name ∷ []) (step (old.store.contents name)) (Err stop) old new → (StandsIn (name ∷ files) begun new.store → near) → asks → Follows ⊥ (name ∷ more) asks (after (step (begun.contents name)) near rest) result old new
  read-stops near rest more asks stop result old new is read took holds asked =
      stops-among step (plain_file name) (map plain_file files) begun near rest more asks stop result old new is read took holds asked

  pub read-gives : {U : Type 0} (near : Type 0) (rest : T → Course) (more : List (List ℕ)) (asks then_asks : Type 0) (x : T) (result : Result U Stop) (old mid new : Outside) → HasRead files begun old.store → Took (name ∷ []) (step (old.store.contents name)) (Ok x) old mid → Follows ⊥ more then_asks (rest x) result mid new → asks → Follows ⊥ (name ∷ more) asks (after (step (begun.contents name)) near rest) result old new
  read-gives near rest more asks then_asks x result old mid new read took rest_is asked =
      gives-among step (plain_file name) (map plain_file files) begun near rest more asks then_asks x result old mid new read took rest_is asked

  -- both where no more is said than where the store stands
  pub file-stops : {U : Type 0} (rest : T → Course) (more : List (List ℕ)) (asks : Type 0) (stop : Stop) (result : Result U Stop) (old new : Outside) → result ≡ Err stop → HasRead files begun old.store → Took (name ∷ []) (step (old.store.contents name)) (Err stop) old new → asks → Follows ⊥ (name ∷ more) asks (after (step (begun.contents name)) (StandsIn (name ∷ files) begun new.store) rest) result old new
  file-stops rest more asks stop result old new is read took asked =
      read-stops (StandsIn (name ∷ files) begun new.store) rest more asks stop result old new is read took (λ at. at) asked

  pub file-gives : {U : Type 0} (rest : T → Course) (ended : StoreState) (more : List (List ℕ)) (asks then_asks : Type 0) (x : T) (result : Result U Stop) (old mid new : Outside) → HasRead files begun old.store → Took (name ∷ []) (step (old.store.contents name)) (Ok x) old mid → Follows ⊥ more then_asks (rest x) result mid new → asks → Follows ⊥ (name ∷ more) asks (after (step (begun.contents name)) (StandsIn (name ∷ files) begun ended) rest) result old new
  file-gives rest ended more asks then_asks x result old mid new read took rest_is asked =
      read-gives (StandsIn (name ∷ files) begun ended) rest more asks then_asks x result old mid new read took rest_is asked

-- the last line was written, or wasn't
pub line-last : (line : List ℕ) (here : Type 0) (store : StoreState) (rig : RigState) (a b : SinkState) (result : Result (Unit {0}) Stop) → Puts line result a b → here → Follows ⊥ [] (Unit {0}) (write line here (done here)) result (outside store rig a) (outside store rig b)
line-last line here store rig a b (Ok x) puts at =
    line-gives line here (done here) store rig a b [] (Unit {0}) (Unit {0}) x (Ok x) (outside store rig b) puts (all-done here x (outside store rig b) at) tt
line-last line here store rig a b (Err stop) puts at = line-stops line here (done here) store rig a b [] (Unit {0}) stop (Err stop) refl puts at tt
