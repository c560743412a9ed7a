-- A course in which a list is made and written: it ends there, or the rest follows.
use Rattle.diag_list.proofs.Vocabulary.{◌≡◌, ◌∙◌, ℕ, List, [], refl, inl, inr, Result, Ok, Err, StoreState, SinkState, Shape, RigState}
use Rattle.diag_list.proofs.Vocabulary.{Outside, outside, Course, after, write, Follows, Stop, step-stops, step-gives, line-stops}
use Rattle.diag_list.proofs.Vocabulary.{line-gives, narrows_by, Listed, IsListed, lists, lists_now, Makes, WritesList}
use Rattle.machine_defects.specs.Vocabulary.{DefectList, text_of}
use Rattle.diag_list.proofs.ListedLemmas.{listed-on, few-stops}

-- `near` holds while the list is made, and `here` while it is written. So many loads were made before it, and `names` are asked for behind it
module _ (m : Shape) (before : ℕ) (near : Type 0) (here : Listed → Type 0) (rest : Listed → Course) (names : List (List ℕ)) (s : StoreState) (r0 r1 : RigState) (a k : SinkState) (loads : r0.loads ≡ before) (machine : r1.machine ≡ r0.machine) where
  abbrev after-list : Listed → Course
  after-list l = write (text_of l.list) (here l) (rest l)

  abbrev made : DefectList → Listed
  made d = record { list = d; loads = r1.loads }

  -- it was made
  list-gives : {U : Type 0} (d : DefectList) (result : Result U Stop) (new : Outside) → Makes m d (outside s r0 a) (outside s r1 k) → Follows ⊥ names (new.rig.machine ≡ r1.machine) (after-list (made d)) result (outside s r1 a) new → Follows ⊥ names (new.rig.machine ≡ r0.machine) (after (lists m before new.rig) near after-list) result (outside s r0 a) new
  list-gives d result new took is =
      let listed : IsListed m before r1 (made d) = rw loads at took.gives in
      step-gives (lists m before new.rig) near after-list (lists_now m r0 r1) [] names _ _ d (made d) result (outside s r0 a) (outside s r1 a) new took (listed-on m before r1 new.rig (made d) listed (narrows_by is.later.log is.machines)) is (is.machines ∙ machine)

  pub list-ends : {U : Type 0} (stop : Stop) (result : Result U Stop) → result ≡ Err stop → WritesList m (Err stop) (outside s r0 a) (outside s r1 k) → near → ((l : Listed) → l.loads ≡ r1.loads → here l) → Follows ⊥ names (r1.machine ≡ r0.machine) (after (lists m before r1) near after-list) result (outside s r0 a) (outside s r1 k)
  list-ends stop result is (inl took) at stays =
      step-stops (lists m before r1) near after-list (lists_now m r0 r1) [] names _ stop result (outside s r0 a) (outside s r1 k) is took (few-stops m before r0 r1 stop loads took.stops) at machine
  list-ends stop result is (inr (d, took, puts)) at stays =
      list-gives d result (outside s r1 k) took (line-stops (text_of d) (here (made d)) (rest (made d)) s r1 a k names _ stop result is puts (stays (made d) refl) refl)

  pub list-goes : {U : Type 0} (d : DefectList) (result : Result U Stop) (new : Outside) → WritesList m (Ok d) (outside s r0 a) (outside s r1 k) → Follows ⊥ names (new.rig.machine ≡ r1.machine) (rest (made d)) result (outside s r1 k) new → Follows ⊥ names (new.rig.machine ≡ r0.machine) (after (lists m before new.rig) near after-list) result (outside s r0 a) new
  list-goes d result new written is =
      list-gives d result new written.0 (line-gives (text_of d) (here (made d)) (rest (made d)) s r1 a k names _ _ tt result new written.1 is is.machines)
