-- Of all commands one alone compares what copies have read.
use Rattle.std.proofs.Common.{◌≡◌, ℕ, List, [], ◌∷◌, Bool, true, false, Option, None, Some, length, refl, ap, subst, inl, inr, arith, codes}
use Rattle.cmd_top.proofs.Vocabulary.{list_any, bench_job, commands, asked_in, asked_by, begins_with, number_of, of_number}
use Rattle.cmd_steps.specs.Vocabulary.{Around, Course, Next, Step, RowWork, all_rows, after, write, done, refuses, Job, Asked, no_job, a_job, job_of, asked_if, is_dashed, word_at}
use Rattle.cmd_steps.specs.declared.refusal.Refusal.TheVariants.{Differ}
use Rattle.cmd_eval.specs.Eval.{eval_job}
use Rattle.cmd_compile.specs.Compile.{compile_job}
use Rattle.cmd_run.specs.Run.{run_job}
use Rattle.cmd_diagnose.specs.Diagnose.{diagnose_job}
use Rattle.cmd_go.specs.Go.{go_job}
use Rattle.cmd_check.specs.Check.{check_job, by_test}
use Rattle.cmd_repair.specs.Repair.{repair_job}
use Rattle.cmd_pair.specs.Pair.{pair_job}
use Rattle.cmd_twice.specs.Promises.{twice_words}
use Rattle.cmd_top.proofs.WordLemmas.{begun}

-- ---- courses that don't come to that refusal

record IsAlike (course : Course) : Type 0 where
  never : (text : List ℕ) → course text (refuses Differ) → ⊥

abbrev IsDiffer : Next → Type 0
IsDiffer (refuses Differ) = Unit {0}
IsDiffer next = ⊥

after-never : {T : Type 0} (step : Step T) (here : Type 0) (rest : T → Course) → (step.stops Differ → ⊥) → ((x : T) → step.gives x → IsAlike (rest x)) → (text : List ℕ) → after step here rest text (refuses Differ) → ⊥
after-never step here rest never more text (inl h) = never h.1
after-never step here rest never more text (inr h) = (more h.0 h.1).never text h.2

after-alike : {T : Type 0} (step : Step T) (here : Type 0) (rest : T → Course) → (step.stops Differ → ⊥) → ((x : T) → step.gives x → IsAlike (rest x)) → IsAlike (after step here rest)
after-alike step here rest never more = record { never = after-never step here rest never more }

write-never : (line : List ℕ) (here : Type 0) (rest : Course) → IsAlike rest → (text : List ℕ) → write line here rest text (refuses Differ) → ⊥
write-never line here rest more text (inl h) = subst (λ (x : Next). IsDiffer x) h.1 tt
write-never line here rest more text (inr h) = more.never h.0 h.2

write-alike : (line : List ℕ) (here : Type 0) (rest : Course) → IsAlike rest → IsAlike (write line here rest)
write-alike line here rest more = record { never = write-never line here rest more }

done-alike : (here : Type 0) → IsAlike (done here)
done-alike here = record { never = λ text h. subst (λ (x : Next). IsDiffer x) h.1 tt }

rows-alike : (w : RowWork) → ((vectors rows : List (List Bool)) → w.differs vectors rows → ⊥) → IsAlike (all_rows w)
rows-alike w alike = record { never = λ text h. alike h.0.vectors h.0.rows h.1 }

test-alike : (b : Bool) (this that : Course) → IsAlike this → IsAlike that → IsAlike (by_test b this that)
test-alike true this that one other = one
test-alike false this that one other = other

-- ---- the commands

module _ (old new : Around) where
  eval-alike : (design vectors : List ℕ) → IsAlike ((eval_job design vectors).course old new)
  eval-alike design vectors =
      after-alike _ _ _ (λ h. h) (λ draft gives. after-alike _ _ _ (λ h. h) (λ _ opened. write-alike _ _ _ (rows-alike _ (λ vs rs differs. differs))))

  compile-alike : (machine defects design : List ℕ) → IsAlike ((compile_job machine defects design).course old new)
  compile-alike machine defects design =
      after-alike _ _ _ (λ h. h) (λ m read. after-alike _ _ _ (λ h. h) (λ d list. after-alike _ _ _ (λ h. h) (λ draft gives.
      after-alike _ _ _ (λ h. h) (λ i laid. write-alike _ _ _ (done-alike _)))))

  run-alike : (machine name image vectors : List ℕ) → IsAlike ((run_job machine name image vectors).course old new)
  run-alike machine name image vectors =
      after-alike _ _ _ (λ h. h) (λ m read. after-alike _ _ _ (λ h. h) (λ _ attached. after-alike _ _ _ (λ h. h) (λ i gives.
      after-alike _ _ _ (λ h. h.0) (λ _ once. after-alike _ _ _ (λ h. h) (λ _ opened. write-alike _ _ _ (rows-alike _ (λ vs rs differs. differs)))))))

  diagnose-alike : (machine name : List ℕ) → IsAlike ((diagnose_job machine name).course old new)
  diagnose-alike machine name =
      after-alike _ _ _ (λ h. h) (λ m read. after-alike _ _ _ (λ h. h) (λ _ attached. after-alike _ _ _ (λ h. h.0) (λ l list. write-alike _ _ _ (done-alike _))))

  go-alike : (machine name design vectors : List ℕ) → IsAlike ((go_job machine name design vectors).course old new)
  go-alike machine name design vectors =
      after-alike _ _ _ (λ h. h) (λ m read. after-alike _ _ _ (λ h. h) (λ _ attached. after-alike _ _ _ (λ h. h) (λ draft gives.
      after-alike _ _ _ (λ h. h.0) (λ l list. write-alike _ _ _ (after-alike _ _ _ (λ h. h) (λ i laid.
      after-alike _ _ _ (λ h. h.0) (λ _ once. after-alike _ _ _ (λ h. h) (λ _ opened. write-alike _ _ _ (rows-alike _ (λ vs rs differs. differs))))))))))

  pair-alike : (machine name first second vectors : List ℕ) → IsAlike ((pair_job machine name first second vectors).course old new)
  pair-alike machine name first second vectors =
      after-alike _ _ _ (λ h. h) (λ m read. after-alike _ _ _ (λ h. h) (λ _ attached. after-alike _ _ _ (λ h. h) (λ one gives. after-alike _ _ _ (λ h. h) (λ other more.
      after-alike _ _ _ (λ h. h.0) (λ l list. write-alike _ _ _ (after-alike _ _ _ (λ h. h) (λ i laid.
      after-alike _ _ _ (λ h. h.0) (λ _ once. after-alike _ _ _ (λ h. h) (λ _ opened. write-alike _ _ _ (rows-alike _ (λ vs rs differs. differs)))))))))))

  bench-alike : (n : ℕ) → IsAlike ((bench_job n).course old new)
  bench-alike n =
      after-alike _ _ _ (λ h. h) (λ m made. after-alike _ _ _ (λ h. h) (λ _ attached. after-alike _ _ _ (λ h. h) (λ draft gives.
      after-alike _ _ _ (λ h. h.0) (λ l list. after-alike _ _ _ (λ h. h) (λ i laid. after-alike _ _ _ (λ h. h) (λ ones ran. write-alike _ _ _ (done-alike _)))))))

  check-alike : (machine name image : List ℕ) → IsAlike ((check_job machine name image).course old new)
  check-alike machine name image =
      after-alike _ _ _ (λ h. h) (λ m read. after-alike _ _ _ (λ h. h) (λ _ attached. after-alike _ _ _ (λ h. h) (λ i gives.
      after-alike _ _ _ (λ h. h.0) (λ t tried. test-alike t.sound _ _ (write-alike _ _ _ (done-alike _))
      (after-alike _ _ _ (λ h. h.0) (λ l list. after-alike _ _ _ (λ h. h) (λ a answer. write-alike _ _ _ (done-alike _))))))))

  repair-alike : (machine defects image : List ℕ) → IsAlike ((repair_job machine defects image).course old new)
  repair-alike machine defects image =
      after-alike _ _ _ (λ h. h) (λ m read. after-alike _ _ _ (λ h. h) (λ d list. after-alike _ _ _ (λ h. h) (λ i gives.
      after-alike _ _ _ (λ h. h) (λ _ few. after-alike _ _ _ (λ h. h) (λ j repaired. write-alike _ _ _ (done-alike _))))))

-- ---- the words

-- with this refusal something is so, where such a job was asked for
record OnlyWhere (P : Type 0) (old new : Around) (asked : Asked) : Type 0 where
  so : (text : List ℕ) → (job_of asked).course old new text (refuses Differ) → P

module _ (P : Type 0) (old new : Around) where
  of-if : (b : Bool) (this that : Asked) → (b ≡ true → OnlyWhere P old new this) → OnlyWhere P old new that → OnlyWhere P old new (asked_if b this that)
  of-if true this that one other = one refl
  of-if false this that one other = other

  of-none : OnlyWhere P old new no_job
  of-none = record { so = λ text h. absurd (subst (λ (x : Next). IsDiffer x) h.1 tt) }

  of-job : (job : Job) → IsAlike (job.course old new) → OnlyWhere P old new (a_job job)
  of-job job alike = record { so = λ text h. absurd (alike.never text h) }

  of-bench : (n : Option ℕ) → OnlyWhere P old new (of_number bench_job n)
  of-bench None = of-none
  of-bench (Some n) = of-job (bench_job n) (bench-alike old new n)

-- the words are those of a `twice`
abbrev pub AreTwice : List (List ℕ) → Type 0
AreTwice words = (machine : List ℕ) × (name : List ℕ) × (design : List ℕ) × (vectors : List ℕ) × (words ≡ twice_words machine name design vectors)

five-words : (words : List (List ℕ)) → word_at words 0 ≡ codes "twice" → length words ≡ 5 → AreTwice words
five-words [] is count = absurd (let no : ⊥ = omega (arith, count) in no)
five-words (a ∷ []) is count = absurd (let no : ⊥ = omega (arith, count) in no)
five-words (a ∷ b ∷ []) is count = absurd (let no : ⊥ = omega (arith, count) in no)
five-words (a ∷ b ∷ c ∷ []) is count = absurd (let no : ⊥ = omega (arith, count) in no)
five-words (a ∷ b ∷ c ∷ d ∷ []) is count = absurd (let no : ⊥ = omega (arith, count) in no)
five-words (a ∷ b ∷ c ∷ d ∷ e ∷ []) is count = (b, c, d, e, ap (λ (w : List ℕ). w ∷ b ∷ c ∷ d ∷ e ∷ []) is)
five-words (a ∷ b ∷ c ∷ d ∷ e ∷ f ∷ words) is count = absurd (let no : ⊥ = omega (arith, count) in no)

module _ (words : List (List ℕ)) (old new : Around) where
  abbrev Only : Asked → Type 0
  Only asked = OnlyWhere (AreTwice words) old new asked

  -- a line of the table, and those behind it
  line : (count : ℕ) (first : List ℕ) (job : Job) (rest : Asked) → IsAlike (job.course old new) → Only rest → Only (asked_if (begins_with words count first) (a_job job) rest)
  line count first job rest alike more =
      of-if (AreTwice words) old new (begins_with words count first) (a_job job) rest (λ _. of-job (AreTwice words) old new job alike) more

  twice-line : (job : Job) → Only (asked_if (begins_with words 5 (codes "twice")) (a_job job) no_job)
  twice-line job =
      of-if (AreTwice words) old new (begins_with words 5 (codes "twice")) (a_job job) no_job
      (λ is. let p = begun words 5 (codes "twice") is in record { so = λ text h. five-words words p.0 p.1 }) (of-none (AreTwice words) old new)

  in-table : Only (asked_in commands words)
  in-table =
      line 3 (codes "eval") _ _ (eval-alike old new _ _) (line 4 (codes "compile") _ _ (compile-alike old new _ _ _)
      (line 5 (codes "run") _ _ (run-alike old new _ _ _ _) (line 3 (codes "diagnose") _ _ (diagnose-alike old new _ _)
      (line 5 (codes "go") _ _ (go-alike old new _ _ _ _)
      (of-if (AreTwice words) old new (begins_with words 2 (codes "bench")) _ _ (λ _. of-bench (AreTwice words) old new (number_of (word_at words 1)))
      (line 4 (codes "check") _ _ (check-alike old new _ _ _) (line 4 (codes "repair") _ _ (repair-alike old new _ _ _)
      (line 6 (codes "pair") _ _ (pair-alike old new _ _ _ _ _) (twice-line _)))))))))

  pub only-twice : (text : List ℕ) → (job_of (asked_by words)).course old new text (refuses Differ) → AreTwice words
  only-twice =
      (of-if (AreTwice words) old new (list_any is_dashed words) no_job (asked_in commands words) (λ _. of-none (AreTwice words) old new) in-table).so
