-- The words of the command line, and what they ask for.
use Rattle.std.specs.Prelude.{ℕ, Bool, List, [], ◌∷◌, length, Option, None, Some, if◌then◌else◌, ◌==◌, ◌&&◌, codes, bytes_eq, nat_le}
use Rattle.std.specs.{List.list_any, Fmt.decimal}
use Rattle.base_text.specs.Number.{read_on}
use Rattle.cmd_steps.specs.Vocabulary.{Job, Asked, no_job, a_job, asked_if, is_dashed, word_at}
use Rattle.cmd_eval.specs.Eval.{eval_job}
use Rattle.cmd_compile.specs.Compile.{compile_job}
use Rattle.cmd_run.specs.Run.{run_job}
use Rattle.cmd_diagnose.specs.Diagnose.{diagnose_job}
use Rattle.cmd_go.specs.Go.{go_job}
use Rattle.cmd_bench.specs.Bench.{bench_job}
use Rattle.cmd_check.specs.Check.{check_job}
use Rattle.cmd_repair.specs.Repair.{repair_job}
use Rattle.cmd_pair.specs.Pair.{pair_job}
use Rattle.cmd_twice.specs.Twice.{twice_job}

-- the number of at most 4,294,967,295 whose numeral the word is
abbrev pub number_of : List ℕ → Option ℕ
number_of word = if bytes_eq (decimal (read_on 0 word)) word && nat_le (read_on 0 word) 4294967295 then Some (read_on 0 word) else None

-- ---- the commands

-- how many words a command takes, the first of them, and what the words at their places ask for then
pub record Command : Type 1 where
  pub count : ℕ
  pub first : List ℕ
  pub asks : (words : ℕ → List ℕ) → Asked

-- the words name files and machines
abbrev pub named : ℕ → List ℕ → ((words : ℕ → List ℕ) → Job) → Command
named count first job = record { count = count; first = first; asks = λ w. a_job (job w) }

-- the job of a number, if there is one
abbrev pub of_number : (ℕ → Job) → Option ℕ → Asked
of_number job None = no_job
of_number job (Some n) = a_job (job n)

-- the one word is a number
abbrev pub numbered : List ℕ → (ℕ → Job) → Command
numbered first job = record { count = 2; first = first; asks = λ w. of_number job (number_of (w 1)) }

-- the table of commands
abbrev pub commands : List Command
commands =
    named 3 (codes "eval") (λ w. eval_job (w 1) (w 2))
    ∷ named 4 (codes "compile") (λ w. compile_job (w 1) (w 2) (w 3))
    ∷ named 5 (codes "run") (λ w. run_job (w 1) (w 2) (w 3) (w 4))
    ∷ named 3 (codes "diagnose") (λ w. diagnose_job (w 1) (w 2))
    ∷ named 5 (codes "go") (λ w. go_job (w 1) (w 2) (w 3) (w 4))
    ∷ numbered (codes "bench") (λ n. bench_job n)
    ∷ named 4 (codes "check") (λ w. check_job (w 1) (w 2) (w 3))
    ∷ named 4 (codes "repair") (λ w. repair_job (w 1) (w 2) (w 3))
    ∷ named 6 (codes "pair") (λ w. pair_job (w 1) (w 2) (w 3) (w 4) (w 5))
    ∷ named 5 (codes "twice") (λ w. twice_job (w 1) (w 2) (w 3) (w 4))
    ∷ []

-- ---- what words ask for

-- there are so many words, and this is the first
abbrev pub begins_with : List (List ℕ) → ℕ → List ℕ → Bool
begins_with words count first = (length words == count) && bytes_eq (word_at words 0) first

-- what the words ask for by a table
abbrev pub asked_in : List Command → List (List ℕ) → Asked
asked_in [] words = no_job
asked_in (c ∷ cs) words = asked_if (begins_with words c.count c.first) (c.asks (word_at words)) (asked_in cs words)

-- words of which one begins with `-` are wrong
abbrev pub asked_by : List (List ℕ) → Asked
asked_by words = asked_if (list_any is_dashed words) no_job (asked_in commands words)
