-- What the steps of an evaluation say.
use Rattle.std.specs.Prelude.{◌≡◌, Bool, true, false, [], length}
use Rattle.base_io.specs.Vocabulary.{StoreState, SinkState}
use Rattle.design_netlist.specs.declared.netlist_data.NetlistData.{NetlistData}
use Rattle.cmd_eval.specs.{Runs.IsFirstOf, Runs.IsRowStep, declared.evaluation.Evaluation.Evaluation}
use Rattle.design_vectors.specs.Readings.{new_reading}
use Rattle.cmd_steps.specs.Vocabulary.{most_vector_bytes, RowsAt, rows_at, NextOf}

-- the buffers have the lengths that the netlist asks for
pub record IsSized (rows : Evaluation) : Type 0 where
  pub width : rows.vectors.width ≡ length rows.eval.netlist.inputs
  pub limit : rows.vectors.limit ≡ most_vector_bytes
  pub vector : length rows.vector.items ≡ length rows.eval.netlist.inputs
  pub row : length rows.row.items ≡ length rows.eval.netlist.outputs
  pub block : rows.block.width ≡ length rows.eval.netlist.outputs

-- nothing was read yet
pub record IsReady (draft : NetlistData) (rows : Evaluation) : Type 0 where
  pub eval : IsFirstOf draft rows.eval
  pub vectors : rows.vectors ≡ new_reading (length draft.inputs) most_vector_bytes
  pub none : rows.block.text ≡ []
  pub sized : IsSized rows

-- where the reading stands: with the lines of the rows that wait
abbrev pub at_rows : Evaluation → StoreState → SinkState → RowsAt
at_rows rows store sink = rows_at rows.vectors rows.block store sink

-- a vector was read, and its row made
pub record TakesRow (old new : Evaluation) (from to : RowsAt) : Type 0 where
  pub next : NextOf true new.vector.items from to
  pub step : IsRowStep old.eval new.vector.items new.row.items new.eval

abbrev pub RowGives : Bool → Evaluation → Evaluation → RowsAt → RowsAt → Type 0
RowGives true old new from to = TakesRow old new from to
RowGives false old new from to = NextOf false new.vector.items from to
