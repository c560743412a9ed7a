-- A design that is run by its covers, or by a network.
use Rattle.std.specs.Prelude.{◌≡◌, ◌∷◌, List, Bool, length}
use Rattle.design_netlist.specs.{declared.netlist_data.NetlistData.NetlistData, Rows.RowsFrom, Rows.AreRows}
use Rattle.map_eval.specs.Evals.{NetworkState, RowsOn}
use Rattle.cmd_eval.specs.declared.engine.Run.{Run, TheVariants.Netlist, TheVariants.Network}

-- a design, and what it is run by
pub record DesignState : Type 0 where
  pub netlist : NetlistData
  pub run : Run

-- rows for these vectors, from here on
abbrev pub RowsLeft : Run → (vectors rows : List (List Bool)) → Type 0
RowsLeft (Netlist e) vectors rows = RowsFrom e.netlist e.state vectors rows
RowsLeft (Network e) vectors rows = RowsOn e vectors rows

-- it has the design's inputs and outputs
pub record HasWidths (draft : NetlistData) (e : NetworkState) : Type 0 where
  pub inputs : e.network.inputs ≡ length draft.inputs
  pub outputs : length e.network.outputs ≡ length draft.outputs

abbrev pub IsRunOf : NetlistData → Run → Type 0
IsRunOf draft (Netlist e) = e.netlist ≡ draft
IsRunOf draft (Network e) = HasWidths draft e

-- a network at its first cycle, whose rows are the design's
pub record IsNetworkOf (draft : NetlistData) (e : NetworkState) : Type 0 where
  pub widths : HasWidths draft e
  pub rows : (vectors rows : List (List Bool)) → RowsOn e vectors rows → AreRows draft vectors rows

-- rows from here on are the design's
pub record IsFirstOf (draft : NetlistData) (e : DesignState) : Type 0 where
  pub netlist : e.netlist ≡ draft
  pub rows : (vectors rows : List (List Bool)) → RowsLeft e.run vectors rows → AreRows draft vectors rows

-- rows that go on from the new state are rows from the old one, behind this one
pub record IsRowStep (old : DesignState) (vector row : List Bool) (new : DesignState) : Type 0 where
  pub netlist : new.netlist ≡ old.netlist
  pub rows : (vectors rows : List (List Bool)) → RowsLeft new.run vectors rows → RowsLeft old.run (vector ∷ vectors) (row ∷ rows)
