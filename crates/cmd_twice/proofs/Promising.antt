-- The promises of a `twice`, from how it ended.
use Rattle.std.proofs.Common.{◌≡◌, ◌∙◌, ℕ, List, [], ◌++◌, length, take, refl, sym, ap, subst, inl, inr, take_all, le_refl, append-nil}
use Rattle.cmd_twice.proofs.Vocabulary.{Wrote, Refusal, Refused, Adds, stands-end, twice_job, twice_course}
use Rattle.cmd_steps.specs.Vocabulary.{Outside, around, Next, refuses, writes, ends, wrong_words, Ended, EndWrote, Stands, whole, refused, cut_line, no_line, cut, IsCounted, refusal_text}
use Rattle.cmd_steps.specs.declared.refusal.Refusal.TheVariants.{Words, Differ}
use Rattle.cmd_steps.proofs.Done.{EndedAs, whatever, done-as}
use Rattle.diag_list.proofs.WrongWords.{wrong-loads}
use Rattle.run_image.proofs.WrongWords.{wrong-begins}
use Rattle.cmd_twice.specs.{Headline.StandsTwice, Headline.nothing, Headline.ReadDifferently, Promises.twice_words, Promises.TwicePromises}
use Rattle.cmd_twice.proofs.Headlines.{begins, compared, few-loads}
use Rattle.cmd_twice.proofs.Ending.{stands-twice, differ-twice}

module _ (machine name design vectors : List ℕ) (old new : Outside) where
  abbrev course : List ℕ → Next → Type 0
  course = twice_course machine name design vectors (around old) (around new)

  abbrev HasWritten : List ℕ → Type 0
  HasWritten text = Wrote old.sink.written new.sink.written text

  abbrev HasEnded : Type 0
  HasEnded = StandsTwice machine name design vectors old new

  -- what a refusal needs
  abbrev CountedAt : Next → Type 0
  CountedAt (refuses refusal) = IsCounted ⊥ (Refused refusal) old new
  CountedAt next = Unit {0}

  -- what stands before a refusal, and a front of its line
  before-line : (refusal : Refusal) (text : List ℕ) (n : ℕ) → Stands ⊥ course old new refusal text → HasWritten (text ++ take n (refusal_text refusal)) → HasEnded
  before-line refusal text n (inl (counted, at)) wrote =
      stands-twice machine name design vectors old new text (take n (refusal_text refusal)) (refuses refusal) (n, refl) wrote (λ same. subst (λ (x : Next). CountedAt x) same counted) at
  before-line refusal text n (inr (is, lack, (line, at))) wrote =
      stands-twice machine name design vectors old new text (take n (refusal_text refusal)) (writes line) (inr (refusal, n, refl)) wrote (λ same. absurd (cc)) at

  stands-at : (status : ℕ) → EndWrote ⊥ course old new status → HasEnded
  stands-at _ (whole text at wrote) =
      stands-twice machine name design vectors old new text [] ends refl (subst (λ (t : List ℕ). HasWritten t) (sym (append-nil text)) wrote) (λ same. absurd (cc)) at
  stands-at _ (refused refusal text stands wrote) =
      let line = refusal_text refusal in
      before-line refusal text (length line) stands (subst (λ (t : List ℕ). HasWritten (text ++ t)) (sym (take_all (length line) line (le_refl (length line)))) wrote)
  stands-at _ (cut_line refusal text n stands rose wrote) = before-line refusal text n stands wrote
  stands-at _ (no_line refusal text stands lack wrote) = before-line refusal text 0 stands (subst (λ (t : List ℕ). HasWritten t) (sym (append-nil text)) wrote)
  stands-at _ (cut text line n at rose wrote) =
      stands-twice machine name design vectors old new text (take n line) (writes line) (inl (n, refl)) wrote (λ same. absurd (cc)) at

  wrong-stands : (status : ℕ) → Ended (Unit {0}) wrong_words old new status → HasEnded
  wrong-stands status e =
      let s = stands-end (Unit {0}) (wrong_words.course (around old) (around new)) old new status e.written in
      let adds : Adds (refuses Words) s.more = subst (λ (x : Next). Adds x s.more) s.at.1 s.adds in
      let line = ap (λ (t : List ℕ). t ++ s.more) s.at.0 ∙ adds.1 in
      nothing Words adds.0 (subst (λ (t : List ℕ). HasWritten t) line s.wrote)

  pub stands-ended : (status : ℕ) → EndedAs (twice_job machine name design vectors) old new status → HasEnded
  stands-ended status (inl e) = wrong-stands status e
  stands-ended status (inr e) = stands-at status e.written

  abbrev IsDiffer : Next → Type 0
  IsDiffer (refuses Differ) = Unit {0}
  IsDiffer next = ⊥

  pub differ-ended : (status : ℕ) → EndedAs (twice_job machine name design vectors) old new status → status ≡ 7 → ReadDifferently machine name design vectors old new
  differ-ended status (inl e) seven = absurd (subst (λ (x : Next). IsDiffer x) (e.differ seven).1.1 tt)
  differ-ended status (inr e) seven = let d = e.differ seven in differ-twice machine name design vectors old new d.0 d.2 d.1

pub twice-promises : (words : List (List ℕ)) (status : ℕ) (old new : Outside)
    → ((machine name design vectors : List ℕ) → words ≡ twice_words machine name design vectors → EndedAs (twice_job machine name design vectors) old new status)
    → TwicePromises words status old new
twice-promises words status old new ended = record {
  listed = λ machine name design vectors is. whatever old new (ended machine name design vectors is) (wrong-begins machine name old new) (begins machine name design vectors old new);
  stands = λ machine name design vectors is. stands-ended machine name design vectors old new status (ended machine name design vectors is);
  compared = λ machine name design vectors is zero. (done-as old new (ended machine name design vectors is) zero (compared machine name design vectors old new)).0;
  room = λ machine name design vectors is zero. (done-as old new (ended machine name design vectors is) zero (compared machine name design vectors old new)).1;
  differ = λ machine name design vectors is seven. differ-ended machine name design vectors old new status (ended machine name design vectors is) seven;
  loads = λ machine name design vectors is. whatever old new (ended machine name design vectors is) (wrong-loads machine name _ old new) (few-loads machine name design vectors old new);
}
