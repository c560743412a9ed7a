use Rattle.design_flatten.proofs.Vocabulary.{◌≡◌, ◌++◌, ℕ, List, Signal, Line, left_from, left_in, IsSink}
use Rattle.design_flatten.proofs.frames.place_lines.Given as goal

abbrev pub invariant-lines : goal.invariant-lines
invariant-lines l =
    (way : List ℕ) (names : List (List ℕ)) (before : List (Line Signal)) → IsSink names before l.fn.sink
    → (now : List (Line Signal)) × IsSink names now l.sink × (now ++ left_from way l.frame l.k l.frame.uses ≡ before ++ left_in way l.frame)
