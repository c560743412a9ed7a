-- Faults that a machine bears for certain.
use Rattle.std.specs.Prelude.{◌≡◌, ◌⊎◌, ℕ, ◌≤◌, List, false}
use Rattle.std.specs.List.{list_any}
use Rattle.machine_shape.specs.declared.Shape.{Shape}
use Rattle.machine_meaning.specs.Faults.{Faults}
use Rattle.machine_faults.specs.Adding.{count_of}
use Rattle.map_network.specs.{declared.network.Network.Network, Plain.plain_network}
use Rattle.place_spare.specs.Spare.{HasToSpare}
use Rattle.rig.specs.Rig.{RigState, Explains}
use Rattle.cmd_steps.specs.Vocabulary.{Outside, around, Unless, is_dashed}
use Rattle.place_both.specs.Both.{joint_of}
use Rattle.cmd_go.specs.{Go.go_files, Go.AreGoTexts, Promises.go_words}
use Rattle.cmd_pair.specs.{Pair.pair_files, Pair.ArePairTexts, Promises.pair_words}
use Rattle.cmd_twice.specs.{Twice.twice_files, Twice.AreTwiceTexts, Promises.twice_words}
use Rattle.cmd_top.specs.Promises.{Promises}

-- Some set of at most k faults explains all that was read of the machine, which has 2 k of each resource to spare for the network
pub record BearsFaults (rig : RigState) (m : Shape) (n : Network) (k : ℕ) : Type 0 where
  pub faults : Faults
  pub few : count_of faults ≤ k
  pub explained : Explains faults rig
  pub spare : HasToSpare m n k

-- none of the words begins with `-`
abbrev pub HaveNoDash : List (List ℕ) → Type 0
HaveNoDash words = list_any is_dashed words ≡ false

-- all is done or memory was lacking, or a count rose
abbrev pub IsBorne : ℕ → Outside → Outside → Type 0
IsBorne status old new = Unless ((status ≡ 0) ⊎ (status ≡ 6)) old new

-- the same of a call of the program whose words and files are right
abbrev pub GoIsBorne : (machine name design vectors : List ℕ) → (k status : ℕ) → (old new : Outside) → Type 0
GoIsBorne machine name design vectors k status old new =
    Promises (go_words machine name design vectors) status old new → HaveNoDash (go_words machine name design vectors) →
    (t : AreGoTexts (go_files (around old) machine design vectors)) →
    BearsFaults new.rig t.shape (plain_network t.draft) k → IsBorne status old new

abbrev pub PairIsBorne : (machine name first second vectors : List ℕ) → (k status : ℕ) → (old new : Outside) → Type 0
PairIsBorne machine name first second vectors k status old new =
    Promises (pair_words machine name first second vectors) status old new → HaveNoDash (pair_words machine name first second vectors) →
    (t : ArePairTexts (pair_files (around old) machine first second vectors)) →
    BearsFaults new.rig t.shape (joint_of t.first_draft t.second_draft) k → IsBorne status old new

abbrev pub TwiceIsBorne : (machine name design vectors : List ℕ) → (k status : ℕ) → (old new : Outside) → Type 0
TwiceIsBorne machine name design vectors k status old new =
    Promises (twice_words machine name design vectors) status old new → HaveNoDash (twice_words machine name design vectors) →
    (t : AreTwiceTexts (twice_files (around old) machine design vectors)) →
    BearsFaults new.rig t.shape (joint_of t.draft t.draft) k → IsBorne status old new
