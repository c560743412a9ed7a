-- Parts that are room enough for two designs, whatever else is wrong with a machine.
use Rattle.place_both.proofs.Vocabulary.{◌≡◌, ℕ, ◌+◌, ◌<◌, ◌≤◌, length, arith, subst, Faults, Defects, IsTight, DefectList, NetlistData}
use Rattle.place_both.proofs.Vocabulary.{IsChecked, Network, joint_network, IsNoRoomForBoth, joint_of}
use Rattle.machine_shape.specs.{declared.Shape.Shape, Vocabulary.tables_of}
use Rattle.machine_shape.proofs.Totals.{tables_are}
use Rattle.design_netlist.proofs.ListLemmas.{few_numbers}
use Rattle.map_network.specs.Vocabulary.{IsNetwork, plain_network}
use Rattle.place_plan.specs.declared.short.Short.{Short}
use Rattle.place_plan.specs.Vocabulary.{AtLeast, HasStandingRoom, IsShortInOrder, IsStandingTableOf}
use Rattle.place_pair.proofs.Sounding.{joint_sound, long_tables}
use Rattle.cmd_steps.specs.Vocabulary.{ShortPlace}

-- standing parts enough and a want of room on a tight list exclude each other
abbrev pub AreSure : Type 0
AreSure = (m : Shape) (d : Defects) (f : Faults) (n : Network) (s : Short) → IsNetwork n → IsTight m d f → HasStandingRoom m f n → ¬ IsShortInOrder m d n s

abbrev pub AreNetworks : Type 0
AreNetworks = (d : NetlistData) → IsChecked d → IsNetwork (plain_network d)

-- so many tables there are, and a machine has few
few-tables : (m : Shape) (f : Faults) (count : ℕ) → AtLeast (IsStandingTableOf m f) count → count < 4294967296
few-tables m f count some =
    let few : length some.each ≤ tables_of m = few_numbers (tables_of m) some.each (λ k lt. (some.have k 0 lt).0) (λ i j less lt same. some.different i j 0 less lt same) in
    let many = some.many in
    let most = (tables_are m).1 in
    omega (arith, few, many, most)

-- the joint network of the plain networks, for which there are so many
joint-is : AreNetworks → (m : Shape) (f : Faults) (first second : NetlistData) → IsChecked first → IsChecked second → HasStandingRoom m f (joint_of first second) → IsNetwork (joint_of first second)
joint-is networks m f first second one other room =
    let n = plain_network first in
    let o = plain_network second in
    let all = few-tables m f (length (joint_of first second).tables) room.tables in
    let both = long_tables n o in
    joint_sound n o (networks first one) (networks second other) (omega (arith, all, both))

pub both-certain : AreSure → AreNetworks → (first second : NetlistData) → IsChecked first → IsChecked second → (m : Shape) (d : DefectList) (f : Faults) → d.shape ≡ m → IsTight m d.list f → HasStandingRoom m f (joint_of first second) → (place : ShortPlace) → IsNoRoomForBoth d first second place → ⊥
both-certain sure networks first second one other m d f shape tight room place none =
    sure m d.list f (joint_of first second) place.short (joint-is networks m f first second one other room) tight room
    (subst (λ (s : Shape). IsShortInOrder s d.list (joint_of first second) place.short) shape none.short)
