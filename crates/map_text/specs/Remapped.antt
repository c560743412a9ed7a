-- Another text of a design: the same rows, and no more tables.
use Rattle.std.specs.Prelude.{ℕ, ◌≡◌, ◌≤◌, ◌⊎◌, ◌↔◌, List, Bool, IsTrue, map, length}
use Rattle.std.specs.List.{All}
use Rattle.base_text.specs.Size.{most_bytes}
use Rattle.machine_defects.specs.Lists.{DefectList}
use Rattle.design_netlist.specs.{declared.netlist_data.NetlistData.NetlistData, Vocabulary.name_at, Vocabulary.AreRows}
use Rattle.design_netlist.specs.declared.netlist_data.PortDef.{PortDef}
use Rattle.design_blif.specs.Designs.{IsDesign}
use Rattle.map_network.specs.Plain.{is_narrow, plain_network}
use Rattle.place_plan.specs.{declared.plan.Plan.Plan, Plans.FitsInOrder}
use Rattle.map_text.specs.declared.text.Remapped.{Remapped}

-- the names of these words of a design, in their order
abbrev pub names_of : NetlistData → List PortDef → List (List ℕ)
names_of d words = map (λ p. name_at d p.signal) words

-- for every list of vectors the one has the rows of the other
pub record HaveSameRows (d e : NetlistData) : Type 0 where
  pub rows : (vectors rows : List (List Bool)) → AreRows d vectors rows ↔ AreRows e vectors rows

-- how many tables the design's plain network has
abbrev pub tables_in : NetlistData → ℕ
tables_in d = length (plain_network d).tables

-- the names of its inputs, and of its outputs, are the same in the same order
pub record HaveSamePorts (d e : NetlistData) : Type 0 where
  pub inputs : names_of e e.inputs ≡ names_of d d.inputs
  pub outputs : names_of e e.outputs ≡ names_of d d.outputs

-- The text is that of a design `e` with the names of inputs and outputs of `d`, and with its rows
pub record IsAnotherText (d : NetlistData) (text : List ℕ) (e : NetlistData) : Type 0 where
  pub design : IsDesign text e
  pub short : length text ≤ most_bytes
  pub ports : HaveSamePorts d e
  pub same : HaveSameRows d e

-- and its plain network has no more tables: the text is `d` remapped
pub record IsRemapped (d : NetlistData) (text : List ℕ) (e : NetlistData) : Type 0 where
  pub another : IsAnotherText d text e
  pub fewer : tables_in e ≤ tables_in d

-- each cover has at most six different inputs
abbrev pub HasNarrowCovers : NetlistData → Type 0
HasNarrowCovers d = All (λ c. IsTrue (is_narrow c)) d.covers

-- it has, or the text is the given one
abbrev pub IsNarrowOr : List ℕ → Remapped → Type 0
IsNarrowOr given r = HasNarrowCovers r.netlist ⊎ (r.text ≡ given)

-- the text may be answered for the design `d` with the given text
pub record MayStandFor (d : NetlistData) (given : List ℕ) (r : Remapped) : Type 0 where
  pub remapped : IsRemapped d r.text r.netlist
  pub narrow : IsNarrowOr given r

-- the in-order plan of the design's plain network fits the list
pub record HasPlan (d : DefectList) (draft : NetlistData) : Type 0 where
  pub plan : Plan
  pub fits : FitsInOrder d.shape d.list (plain_network draft) plan

-- The text of an order that was found for the design `e` may be answered for `d`, and there is room for it: `e` is another text of `d`
pub record IsFitting (d e : NetlistData) (list : DefectList) (r : Remapped) : Type 0 where
  pub another : IsAnotherText e r.text r.netlist
  pub narrow : HasNarrowCovers r.netlist
  pub fewer : tables_in r.netlist ≤ tables_in d
  pub room : HasPlan list r.netlist
