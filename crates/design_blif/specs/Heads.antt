-- What a line begins with.
use Rattle.std.specs.Prelude.{ℕ, ◌==◌, ◌||◌, if◌then◌else◌, List, codes, slice_index, [], ◌∷◌}
use Rattle.std.specs.{List.list_any, Str.bytes_eq}
use Rattle.design_blif.specs.declared.head.Head.{Head}
use Rattle.design_blif.specs.declared.head.Head.TheVariants as head

-- the words that are left out
abbrev pub left_out : List (List ℕ)
left_out =
    codes ".exdc"
    ∷ codes ".gate"
    ∷ codes ".mlatch"
    ∷ codes ".search"
    ∷ codes ".start_kiss"
    ∷ codes ".end_kiss"
    ∷ codes ".latch_order"
    ∷ codes ".code"
    ∷ codes ".cycle"
    ∷ codes ".clock_event"
    ∷ codes ".area"
    ∷ codes ".delay"
    ∷ codes ".wire"
    ∷ codes ".wire_load_slope"
    ∷ codes ".input_arrival"
    ∷ codes ".default_input_arrival"
    ∷ codes ".output_required"
    ∷ codes ".default_output_required"
    ∷ codes ".input_drive"
    ∷ codes ".default_input_drive"
    ∷ codes ".output_load"
    ∷ codes ".default_output_load"
    ∷ codes ".max_input_load"
    ∷ codes ".default_max_input_load"
    ∷ codes ".blackbox"
    ∷ codes ".conn"
    ∷ []

unfoldable pub head_of : List ℕ → Head
head_of w =
    if bytes_eq w (codes ".model") then head.Model
    else if bytes_eq w (codes ".inputs") then head.Inputs
    else if bytes_eq w (codes ".outputs") then head.Outputs
    else if bytes_eq w (codes ".names") then head.Names
    else if bytes_eq w (codes ".latch") then head.Latch
    else if bytes_eq w (codes ".end") then head.End
    else if bytes_eq w (codes ".param") || bytes_eq w (codes ".attr") || bytes_eq w (codes ".cname") then head.Passed
    else if bytes_eq w (codes ".clock") then head.Clock
    else if bytes_eq w (codes ".subckt") then head.Subckt
    else if list_any (bytes_eq w) left_out then head.LeftOut
    else if slice_index w 0 == 46 then head.Unknown
    else head.Row
