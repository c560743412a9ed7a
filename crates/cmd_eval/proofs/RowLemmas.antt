-- A file of vectors that is read, row by row, and how that goes on and stops.
use Rattle.std.proofs.Common.{◌≡◌, ◌≤◌, ◌<◌, ℕ, Bool, false, List, [], ◌∷◌, ◌++◌, length, arith, refl, sym, ap, subst, inl, ◌∙◌, append-nil, append_assoc, length-append, Result, Ok, Err}
use Rattle.base_io.specs.Vocabulary.{StoreState, SinkState}
use Rattle.cmd_eval.proofs.Vocabulary.{NetlistData, eval_rows}
use Rattle.design_netlist.specs.Rows.{AreRows}
use Rattle.rig.specs.Rig.{RigState}
use Rattle.design_vectors.specs.declared.vectors.VectorsFail.{VectorsFail, TheVariants.Text, TheVariants.Failed}
use Rattle.design_vectors.specs.Rows.{row_line}
use Rattle.cmd_steps.specs.Vocabulary.{file_of, AreFirst, IsBegun, StaysOpen, EndsFile, IsNotRead, IsPutOut, WaitsOrPuts, NextStops, outside, IsLater, RowWork, all_rows, stop_of_vectors, Follows}
use Rattle.cmd_steps.specs.declared.refusal.Refusal.TheVariants as refused
use Rattle.cmd_steps.specs.declared.refusal.Stop.{Stop, TheVariants.Refused, TheVariants.Sink}
use Rattle.cmd_steps.proofs.WrittenRows.{AreWritten, none-written, put-out, after-put, read-after, was-read, added, not-added, some-lines, stays-same, row-later, takes-more, waits-more, vectors-follow, end-follows, held-follows}
use Rattle.cmd_steps.proofs.VectorLemmas.{taken-first}
use Rattle.cmd_eval.specs.{declared.engine.Run.Run, Runs.DesignState, Runs.RowsLeft, Runs.IsRowStep}
use Rattle.cmd_eval.specs.declared.{engine.Run.TheVariants.Netlist, engine.Run.TheVariants.Network, evaluation.Evaluation.Evaluation}
use Rattle.cmd_eval.specs.Evaluations.{IsSized, IsReady, TakesRow, RowGives, at_rows}

-- rows that go on from here follow on those that were made
abbrev RowsGoOn : NetlistData → (taken made : List (List Bool)) → Run → Type 0
RowsGoOn draft taken made run = (vs rs : List (List Bool)) → RowsLeft run vs rs → AreRows draft (taken ++ vs) (made ++ rs)

-- no row is left for no vectors
none-left : (run : Run) → RowsLeft run [] []
none-left (Netlist e) = tt
none-left (Network e) = tt

-- vectors were taken and their rows made, whatever the rig is: some were written, and the rest wait
pub record IsRunning (draft : NetlistData) (before : StoreState) (old : SinkState) (rows : Evaluation) (store : StoreState) (sink : SinkState) : Type 0 where
  pub netlist : rows.eval.netlist ≡ draft
  pub sized : IsSized rows
  pub taken : List (List Bool)
  pub made : List (List Bool)
  pub count : length made ≡ length taken
  pub written : (rig : RigState) → AreWritten (length draft.inputs) (outside before rig old) rows.vectors rows.block.text (outside store rig sink) taken made
  pub go_on : RowsGoOn draft taken made rows.eval.run

pub running-start : (draft : NetlistData) (rows : Evaluation) (store : StoreState) (sink : SinkState) → IsReady draft rows → IsBegun store → IsRunning draft store sink rows store sink
running-start draft rows store sink ready begun = record {
  netlist = ready.eval.netlist;
  sized = ready.sized;
  taken = [];
  made = [];
  count = refl;
  written = λ rig. rw (ready.vectors, ready.none) (none-written (length draft.inputs) (outside store rig sink) begun);
  go_on = ready.eval.rows;
}

-- the rows so far are those of the vectors so far
rows-of : (draft : NetlistData) (taken made : List (List Bool)) (run : Run) → RowsGoOn draft taken made run → AreRows draft taken made
rows-of draft taken made run go_on = rw (append-nil taken, append-nil made) at (go_on [] [] (none-left run))

-- one more vector and its row
go-on-more : (draft : NetlistData) (taken made : List (List Bool)) (eval eval' : DesignState) (vector row : List Bool) → IsRowStep eval vector row eval' → RowsGoOn draft taken made eval.run → RowsGoOn draft (taken ++ vector ∷ []) (made ++ row ∷ []) eval'.run
go-on-more draft taken made eval eval' vector row step go_on vs rs h =
    rw (append_assoc taken, append_assoc made) (go_on (vector ∷ vs) (row ∷ rs) (step.rows vs rs h))

module _ (draft : NetlistData) (before : StoreState) (old : SinkState) (rows rows' : Evaluation) (store store' : StoreState) (sink sink' : SinkState) (so_far : IsRunning draft before old rows store sink) (stays : StaysOpen store store') where
  abbrev work : RowWork
  work = eval_rows draft (file_of before) store'

  abbrev Ends : Result (Unit {0}) Stop → RigState → SinkState → Type 0
  Ends result rig last = Follows ⊥ [] (Unit {0}) (all_rows work) result (outside before rig old) (outside store' rig last)

  are-rows : AreRows draft so_far.taken so_far.made
  are-rows = rows-of draft so_far.taken so_far.made rows.eval.run so_far.go_on

  are-all : length so_far.taken ≤ length so_far.made
  are-all = omega (arith, so_far.count)

  onward : (rig : RigState) (from to : SinkState) → to.can_lack ≡ from.can_lack → from.failures ≤ to.failures → IsLater (outside store rig from) (outside store' rig to)
  onward rig from to kind later = row-later store store' rig rig from to stays refl (λ f e. e) (λ t. t) (omega arith) kind later

  -- all rows were put out before the store was read
  module _ (rig : RigState) (left : List ℕ) (out : IsPutOut rows.block.text left sink sink') where
    now : AreWritten (length draft.inputs) (outside before rig old) rows.vectors left (outside store rig sink') so_far.taken so_far.made
    now = put-out _ _ _ _ (outside store rig sink) _ _ (so_far.written rig) left sink' out

    put-fails : (fail : VectorsFail) → IsNotRead fail rows.vectors store store' → Ends (Err (stop_of_vectors fail)) rig sink'
    put-fails fail not =
        vectors-follow work _ (outside store rig sink') (outside store' rig sink') _ _ _ _ now (onward rig sink' sink' refl (omega arith)) stays.asked refl refl (Unit {0}) tt are-rows tt are-all out.empty refl not.asked fail not.fails

    put-ends : EndsFile rows.vectors rows'.vectors store store' → Ends (Ok tt) rig sink'
    put-ends ends =
        end-follows work _ (outside store rig sink') (outside store' rig sink') _ _ _ _ now (onward rig sink' sink' refl (omega arith)) stays.asked refl refl (Unit {0}) tt are-rows tt are-all out.empty refl ends.asked tt rows'.vectors [] ends.next

  -- none of the rows is still to be written
  all-of : (vs rs : List (List Bool)) → AreRows draft vs rs → AreRows draft vs (rs ++ [])
  all-of vs rs are = subst (λ (r : List (List Bool)). AreRows draft vs r) (sym (append-nil rs)) are

  first-of-file : RigState → AreFirst (length draft.inputs) (file_of before) so_far.taken
  first-of-file rig = taken-first _ before store rows.vectors so_far.taken (so_far.written rig).taking

  -- no further vector is read
  pub read-stops : (rig : RigState) (stop : Stop) → NextStops stop (at_rows rows store sink) (at_rows rows' store' sink') → Ends (Err stop) rig sink'
  read-stops rig (Sink fail) held =
      held-follows work _ (outside store rig sink) (outside store' rig sink') _ _ _ _ (so_far.written rig) (onward rig sink sink' held.kind held.later) stays.asked refl refl (Unit {0}) tt so_far.taken [] (first-of-file rig) (all-of so_far.taken so_far.made are-rows) (inl tt) held.still (Sink fail) held
  read-stops rig (Refused (refused.Vectors line kind)) stops = put-fails rig _ stops.1 (Text line kind) stops.0
  read-stops rig (Refused refused.Store) stops = put-fails rig _ stops.1 Failed stops.0
  read-stops rig (Refused refusal) stops = absurd stops

  -- the file has ended
  pub file-ends : (rig : RigState) → RowGives false rows rows' (at_rows rows store sink) (at_rows rows' store' sink') → Ends (Ok tt) rig sink'
  file-ends rig gives = put-ends rig _ gives.1 gives.0

  -- ---- one more vector and its row

  module _ (takes : TakesRow rows rows' (at_rows rows store sink) (at_rows rows' store' sink')) where
    more-on : RowsGoOn draft (so_far.taken ++ rows'.vector.items ∷ []) (so_far.made ++ rows'.row.items ∷ []) rows'.eval.run
    more-on = go-on-more draft so_far.taken so_far.made rows.eval rows'.eval rows'.vector.items rows'.row.items takes.step so_far.go_on

    -- the rows before it, and whether the store was read for it
    before-it : (rig : RigState) → AreWritten (length draft.inputs) (outside before rig old) rows.vectors rows'.block.text (outside store rig sink') so_far.taken so_far.made
    before-it rig = read-after _ _ _ _ (outside store rig sink) _ _ (so_far.written rig) _ store' sink' takes.next.1

    took-it : (rig : RigState) → AreWritten (length draft.inputs) (outside before rig old) rows'.vectors rows'.block.text (outside store' rig sink') (so_far.taken ++ rows'.vector.items ∷ []) so_far.made
    took-it rig =
        takes-more _ _ (outside store rig sink') (outside store' rig sink') _ _ _ _ _ _ (before-it rig) (onward rig sink' sink' refl (omega arith)) stays.asked takes.next.0 (was-read _ _ _ _ _ _ so_far.taken so_far.made are-all takes.next.1) refl

    more-taken : length so_far.made < length (so_far.taken ++ rows'.vector.items ∷ [])
    more-taken = rw (length-append so_far.taken, so_far.count) (omega arith)

    with-it : (rig : RigState) → AreWritten (length draft.inputs) (outside before rig old) rows'.vectors (rows'.block.text ++ row_line rows'.row.items) (outside store' rig sink') (so_far.taken ++ rows'.vector.items ∷ []) (so_far.made ++ rows'.row.items ∷ [])
    with-it rig = waits-more _ _ (outside store' rig sink') _ _ _ _ rows'.row.items (took-it rig) more-taken

    count-more : length (so_far.made ++ rows'.row.items ∷ []) ≡ length (so_far.taken ++ rows'.vector.items ∷ [])
    count-more = rw (length-append so_far.made, length-append so_far.taken, so_far.count) refl

    -- the rows aren't written
    pub row-stops : (rig : RigState) (stop : Stop) (left : List ℕ) (last : SinkState) → WaitsOrPuts (rows'.block.text ++ row_line rows'.row.items) left (Err stop) sink' last → Ends (Err stop) rig last
    row-stops rig stop left last waits =
        let held = not-added _ left stop store' sink' last (some-lines rows'.block.text rows'.row.items) waits in
        held-follows work _ (outside store' rig sink') (outside store' rig last) _ _ _ _ (with-it rig)
        (row-later store' store' rig rig sink' last (stays-same store') refl (λ f e. e) (λ t. t) (omega arith) held.kind held.later) refl refl refl (Unit {0}) tt (so_far.taken ++ rows'.vector.items ∷ []) [] (taken-first _ before store' rows'.vectors _ (with-it rig).taking) (all-of _ _ (rows-of draft _ _ rows'.eval.run more-on)) (inl tt) refl stop held

    -- or they are, or wait
    pub running-more : (last_rows : Evaluation) (last : SinkState) → last_rows.eval ≡ rows'.eval → last_rows.vectors ≡ rows'.vectors → IsSized last_rows → WaitsOrPuts (rows'.block.text ++ row_line rows'.row.items) last_rows.block.text (Ok tt) sink' last → IsRunning draft before old last_rows store' last
    running-more last_rows last eval vectors sized waits = record {
      netlist = ap (λ (e : DesignState). e.netlist) eval ∙ takes.step.netlist ∙ so_far.netlist;
      sized = sized;
      taken = so_far.taken ++ rows'.vector.items ∷ [];
      made = so_far.made ++ rows'.row.items ∷ [];
      count = count-more;
      written = λ rig. rw vectors (after-put _ _ _ _ (outside store' rig sink') _ _ (with-it rig) _ last (added _ _ _ _ waits));
      go_on = rw eval more-on;
    }
