-- What each of two designs reads as long as its own part of the image is left alone.
use Rattle.std.specs.Prelude.{◌≡◌, ℕ, Bool, List, take}
use Rattle.design_netlist.specs.{declared.netlist_data.NetlistData.NetlistData, Rows.AreRows}
use Rattle.machine_image.specs.Images.{ImageValue}
use Rattle.machine_history.specs.Vocabulary.{History, IsRunOver, LeavesAloneFor}
use Rattle.rig.specs.Rig.{RigState, cycles_of, drives_of, readings_of}

-- Where the session's readings are a run over a history that leaves a tenant of the image alone for n cycles, the first n of these
-- rows are the first of the design's rows for these vectors, whatever is done to all else, at any time
abbrev pub AreRightWhileAlone : RigState → (image tenant : ImageValue) → NetlistData → (vectors rows : List (List Bool)) → Type 0
AreRightWhileAlone rig image tenant draft vectors rows = (h : History) (n : ℕ) → LeavesAloneFor n h image tenant →
    IsRunOver h image.config (drives_of (cycles_of rig)) (readings_of (cycles_of rig)) →
    (right : List (List Bool)) × AreRows draft vectors right × (take n rows ≡ take n right)
