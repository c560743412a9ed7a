-- What stands written wherever a command ends: a text of its course, and a front of what comes next.
use Rattle.std.proofs.Common.{◌≡◌, ◌⊎◌, ℕ, List, [], ◌++◌, length, take, refl, sym, subst, inl, inr, append-nil, take_all, le_refl, Result, Ok, Err}
use Rattle.cmd_steps.proofs.Vocabulary.{SinkState, Wrote, Refusal, Stop, Refused, Sink}
use Rattle.base_io.specs.declared.sink.SinkFail.TheVariants.{Failed, Memory}
use Rattle.cmd_steps.specs.Vocabulary.{Outside, Course, Next, ends, refuses, writes, EndWrote, Stands, whole, refused, cut_line, no_line, cut, IsWritten, refusal_text}

-- what may stand behind the text, by what comes next. Where the sink lacks memory for a line, a refusal comes in its place
abbrev pub Adds : Next → List ℕ → Type 0
Adds ends more = more ≡ []
Adds (refuses refusal) more = (n : ℕ) × (more ≡ take n (refusal_text refusal))
Adds (writes line) more = ((n : ℕ) × (more ≡ take n line)) ⊎ ((refusal : Refusal) × (n : ℕ) × (more ≡ take n (refusal_text refusal)))

pub record Standing (course : List ℕ → Next → Type 0) (old new : SinkState) : Type 0 where
  pub text : List ℕ
  pub more : List ℕ
  pub next : Next
  pub at : course text next
  pub adds : Adds next more
  pub wrote : Wrote old.written new.written (text ++ more)

module _ (course : Course) (old new : SinkState) where
  behind : (text more : List ℕ) (next : Next) → course text next → Adds next more → Wrote old.written new.written (text ++ more) → Standing course old new
  behind text more next at adds wrote = record { text = text; more = more; next = next; at = at; adds = adds; wrote = wrote }

  alone : (text : List ℕ) (next : Next) → course text next → Adds next [] → Wrote old.written new.written text → Standing course old new
  alone text next at adds wrote = behind text [] next at adds (subst (λ t. Wrote old.written new.written t) (sym (append-nil text)) wrote)

  -- at the end of a body
  pub stands-done : {U : Type 0} (result : Result U Stop) → IsWritten course result old new → Standing course old new
  stands-done (Ok u) w = alone w.0 ends w.1 refl w.2
  stands-done (Err (Refused refusal)) w = alone w.0 (refuses refusal) w.1 (0, refl) w.2
  stands-done (Err (Sink Failed)) w = behind w.0 (take w.2 w.1) (writes w.1) w.3 (inl (w.2, refl)) w.4
  stands-done (Err (Sink Memory)) w = alone w.0 (writes w.1) w.2 (inl (0, refl)) w.3

module _ (words : Type 0) (course : Course) (old new : Outside) where
  -- before the line of a refusal, or behind a front of it
  before-line : (refusal : Refusal) (text : List ℕ) (n : ℕ) → Stands words course old new refusal text → Wrote old.sink.written new.sink.written (text ++ take n (refusal_text refusal)) → Standing course old.sink new.sink
  before-line refusal text n (inl (counted, at)) wrote = behind course old.sink new.sink text (take n (refusal_text refusal)) (refuses refusal) at (n, refl) wrote
  before-line refusal text n (inr (is, lack, (line, at))) wrote = behind course old.sink new.sink text (take n (refusal_text refusal)) (writes line) at (inr (refusal, n, refl)) wrote

  -- at the end of the program
  pub stands-end : (status : ℕ) → EndWrote words course old new status → Standing course old.sink new.sink
  stands-end _ (whole text at wrote) = alone course old.sink new.sink text ends at refl wrote
  stands-end _ (refused refusal text stands wrote) =
      let line = refusal_text refusal in
      before-line refusal text (length line) stands (subst (λ t. Wrote old.sink.written new.sink.written (text ++ t)) (sym (take_all (length line) line (le_refl (length line)))) wrote)
  stands-end _ (cut_line refusal text n stands rose wrote) = before-line refusal text n stands wrote
  stands-end _ (no_line refusal text stands lack wrote) =
      before-line refusal text 0 stands (subst (λ t. Wrote old.sink.written new.sink.written t) (sym (append-nil text)) wrote)
  stands-end _ (cut text line n at rose wrote) = behind course old.sink new.sink text (take n line) (writes line) at (inl (n, refl)) wrote
