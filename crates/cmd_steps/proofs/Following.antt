-- A course goes on: what a step or a line is followed by.
use Rattle.std.proofs.Common.{ℕ, List, [], ◌++◌, take, refl, sym, subst, inl, inr, append_assoc, Result, Ok, Err}
use Rattle.cmd_steps.proofs.Vocabulary.{SinkState, Wrote, Stop, Refused, Sink}
use Rattle.base_io.specs.declared.sink.SinkFail.TheVariants.{Failed, Memory}
use Rattle.cmd_steps.specs.Vocabulary.{Course, Next, Step, after, write, done, ends, refuses, writes, IsWritten, StopWrote, StepStops, WriteStops}
use Rattle.cmd_steps.proofs.WriteLemmas.{Wrote-none, Wrote-then}

module _ {T : Type 0} (step : Step T) (here : Type 0) (rest : T → Course) where
  -- the step stops, with nothing written
  pub after-stops : (stop : Stop) (a : SinkState) → StepStops step stop → here → StopWrote (after step here rest) stop a a
  after-stops (Refused refusal) a stops near = ([], inl (refl, stops, near), Wrote-none a.written)
  after-stops (Sink fail) a stops near = absurd stops

  -- or it gives something, on which the rest follows
  after-stop : (x : T) (stop : Stop) (a b : SinkState) → step.gives x → StopWrote (rest x) stop a b → StopWrote (after step here rest) stop a b
  after-stop x (Refused refusal) a b gives w = (w.0, inr (x, gives, w.1), w.2)
  after-stop x (Sink Failed) a b gives w = (w.0, w.1, w.2, inr (x, gives, w.3), w.4)
  after-stop x (Sink Memory) a b gives w = (w.0, w.1, inr (x, gives, w.2), w.3)

  pub after-gives : {U : Type 0} (x : T) (result : Result U Stop) (a b : SinkState) → step.gives x → IsWritten (rest x) result a b → IsWritten (after step here rest) result a b
  after-gives x (Ok u) a b gives w = (w.0, inr (x, gives, w.1), w.2)
  after-gives x (Err stop) a b gives w = after-stop x stop a b gives w

module _ (line : List ℕ) (here : Type 0) (rest : Course) where
  -- the line isn't written whole
  pub write-stops : (stop : Stop) (a b : SinkState) → WriteStops line stop a b → here → StopWrote (write line here rest) stop a b
  write-stops (Refused refusal) a b stops at = absurd stops
  write-stops (Sink Failed) a b stops at = ([], line, stops.1.0, inl (refl, refl, at), stops.1.1)
  write-stops (Sink Memory) a b stops at = ([], line, inl (refl, refl, at), rw stops.1 (Wrote-none a.written))

  -- or it is, and the rest follows
  write-stop : (stop : Stop) (a b c : SinkState) → Wrote a.written b.written line → StopWrote rest stop b c → StopWrote (write line here rest) stop a c
  write-stop (Refused refusal) a b c first w = (line ++ w.0, inr (w.0, refl, w.1), Wrote-then _ _ _ _ _ first w.2)
  write-stop (Sink Failed) a b c first w = (
    line ++ w.0,
    w.1,
    w.2,
    inr (w.0, refl, w.3),
    subst (λ t. Wrote a.written c.written t) (sym (append_assoc line w.0 (take w.2 w.1))) (Wrote-then _ _ _ _ _ first w.4),
  )
  write-stop (Sink Memory) a b c first w = (line ++ w.0, w.1, inr (w.0, refl, w.2), Wrote-then _ _ _ _ _ first w.3)

  pub write-then : {U : Type 0} (result : Result U Stop) (a b c : SinkState) → Wrote a.written b.written line → IsWritten rest result b c → IsWritten (write line here rest) result a c
  write-then (Ok u) a b c first w = (line ++ w.0, inr (w.0, refl, w.1), Wrote-then _ _ _ _ _ first w.2)
  write-then (Err stop) a b c first w = write-stop stop a b c first w

pub done-now : (here : Type 0) (a : SinkState) → here → (text : List ℕ) × done here text ends × Wrote a.written a.written text
done-now here a at = ([], (refl, refl, at), Wrote-none a.written)

-- a course that says less
stop-map : (c c' : Course) → ((text : List ℕ) (next : Next) → c text next → c' text next) → (stop : Stop) (a b : SinkState) → StopWrote c stop a b → StopWrote c' stop a b
stop-map c c' f (Refused refusal) a b w = (w.0, f w.0 (refuses refusal) w.1, w.2)
stop-map c c' f (Sink Failed) a b w = (w.0, w.1, w.2, f w.0 (writes w.1) w.3, w.4)
stop-map c c' f (Sink Memory) a b w = (w.0, w.1, f w.0 (writes w.1) w.2, w.3)

pub course-map : {U : Type 0} (c c' : Course) → ((text : List ℕ) (next : Next) → c text next → c' text next) → (result : Result U Stop) (a b : SinkState) → IsWritten c result a b → IsWritten c' result a b
course-map c c' f (Ok u) a b w = (w.0, f w.0 ends w.1, w.2)
course-map c c' f (Err stop) a b w = stop-map c c' f stop a b w
