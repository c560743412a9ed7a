-- A course in which a list is made and not written: it ends there, or the rest follows.
use Rattle.diag_list.proofs.Vocabulary.{◌≡◌, ℕ, List, [], Some, Result, Ok, Err, Shape, DefectList, RigState, shape_of, Outside, Course}
use Rattle.diag_list.proofs.Vocabulary.{after, attaches, Took, Follows, Stop, narrows_by, Listed, lists, lists_now}
use Rattle.cmd_steps.proofs.Keeping.{kept-stops, kept-gives}
use Rattle.diag_list.proofs.ListedLemmas.{attached-shape, list-shape, listed-on, few-stops}

abbrev made : DefectList → RigState → Listed
made d rig = record { list = d; loads = rig.loads }

-- so many loads were made before it, and `near` holds while it is made
module _ {U : Type 0} (m : Shape) (before : ℕ) (near : Type 0) (rest : Listed → Course) (result : Result U Stop) (old mid : Outside) where
  pub list-stops : (stop : Stop) → result ≡ Err stop → Took [] (lists_now m old.rig mid.rig) (Err stop) old mid
      → old.rig.loads ≡ before → mid.rig.machine ≡ old.rig.machine → near
      → Follows ⊥ [] (mid.rig.machine ≡ old.rig.machine) (after (lists m before mid.rig) near rest) result old mid
  list-stops stop is took loads machine at =
      kept-stops (lists m before mid.rig) near rest (lists_now m old.rig mid.rig) stop result old mid is took
      (few-stops m before old.rig mid.rig stop loads) at machine

  pub list-gives : (d : DefectList) (new : Outside) → Took [] (lists_now m old.rig mid.rig) (Ok d) old mid
      → old.rig.loads ≡ before → mid.rig.machine ≡ old.rig.machine
      → Follows ⊥ [] (new.rig.machine ≡ mid.rig.machine) (rest (made d mid.rig)) result mid new
      → Follows ⊥ [] (new.rig.machine ≡ old.rig.machine) (after (lists m before new.rig) near rest) result old new
  list-gives d new took loads machine rest_is =
      kept-gives (lists m before new.rig) near rest (lists_now m old.rig mid.rig) d (made d mid.rig) result old mid new took
      (λ is. listed-on m before mid.rig new.rig (made d mid.rig) (rw loads at is) (narrows_by rest_is.later.log rest_is.machines)) machine rest_is

-- ---- the shape that is attached

pub shape-attached : (m : Shape) (name : List ℕ) (old new : Outside)
    → Took [] (attaches (record { shape = m; name = name }) old.rig new.rig) (Ok tt) old new → shape_of new.rig ≡ Some m
shape-attached m name old new took = attached-shape new.rig m name took.gives

-- and that of a list of it that was made
pub shape-listed : (m : Shape) (d : DefectList) (old new : Outside) → Took [] (lists_now m old.rig new.rig) (Ok d) old new
    → new.rig.machine ≡ old.rig.machine → shape_of old.rig ≡ Some m → shape_of new.rig ≡ Some d.shape
shape-listed m d old new took machine is = list-shape old.rig new.rig m d machine took.gives.shape is
