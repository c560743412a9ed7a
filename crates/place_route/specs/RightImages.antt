-- When an image does what a network or a netlist says.
use Rattle.std.specs.Prelude.{◌≡◌, List, Bool, map, length}
use Rattle.std.specs.List.{All}
use Rattle.machine_meaning.specs.Vocabulary.{Faults, Pins}
use Rattle.machine_config.specs.Faulty.{IsRun}
use Rattle.machine_image.specs.Images.{ImageValue, drive_of, image_row}
use Rattle.design_netlist.specs.declared.netlist_data.NetlistData.{NetlistData}
use Rattle.design_netlist.specs.Rows as netlist
use Rattle.map_network.specs.{declared.network.Network.Network, Rows.AreRows}

-- Under the faults, the run with each vector on the input pins, and 1 on all others, reads at the output pins rows that
-- the relation allows for the vectors.
abbrev pub ReadsRows : Faults → ImageValue → (List (List Bool) → List (List Bool) → Type 0) → Type 0
ReadsRows f i Rows = (vectors : List (List Bool)) (reads : List Pins) → All (λ v. length v ≡ length i.inputs) vectors →
    IsRun f i.config (map (drive_of i) vectors) reads → Rows vectors (map (image_row i) reads)

-- it reads the network's rows
abbrev pub IsRightForNetwork : Faults → ImageValue → Network → Type 0
IsRightForNetwork f i n = ReadsRows f i (AreRows n)

-- it reads the netlist's rows
abbrev pub IsRightImage : Faults → ImageValue → NetlistData → Type 0
IsRightImage f i d = ReadsRows f i (netlist.AreRows d)
