-- What all is right asks, and the statuses.
use Rattle.std.proofs.Common.{◌≡◌, ◌∙◌, ◌⊎◌, ◌≤◌, ℕ, zero, suc, List, [], ◌∷◌, length, Bool, true, false, ap, sym, subst, inl, inr, refl, arith}
use Rattle.cmd_map.proofs.Vocabulary.{list_any, Rose, StoreState, EndedAs, ended-asked, map_job, fit_job, map_course, fit_course}
use Rattle.rig.specs.Rig.{RigState}
use Rattle.cmd_steps.specs.Vocabulary.{Around, Outside, outside, around, Next, refuses, status_of, wrong_words, Job, Ended, Unless, Asked, no_job, a_job, HasNoJob, job_of, asked_if, is_dashed, word_at}
use Rattle.cmd_steps.specs.declared.refusal.Refusal.TheVariants.{Words, Differ}
use Rattle.cmd_map.specs.{Words.asked_in, Words.asked_by, Promises.IsStatus}

-- what all is right asks speaks of the files alone
right-in : (words : List (List ℕ)) (store : StoreState) (rig other : RigState) (new new' : Around) (front : List ℕ) →
    (job_of (asked_in words)).right (record { store = store; rig = rig }) new [] → (job_of (asked_in words)).right (record { store = store; rig = other }) new' front
right-in [] store rig other new new' front h = absurd h
right-in (design ∷ []) store rig other new new' front h = h
right-in (machine ∷ defects ∷ []) store rig other new new' front h = absurd h
right-in (machine ∷ defects ∷ design ∷ []) store rig other new new' front h = h
right-in (machine ∷ defects ∷ design ∷ more ∷ words) store rig other new new' front h = absurd h

right-if : (b : Bool) (words : List (List ℕ)) (store : StoreState) (rig other : RigState) (new new' : Around) (front : List ℕ) →
    (job_of (asked_if b no_job (asked_in words))).right (record { store = store; rig = rig }) new [] →
    (job_of (asked_if b no_job (asked_in words))).right (record { store = store; rig = other }) new' front
right-if true words store rig other new new' front h = absurd h
right-if false words store rig other new new' front h = right-in words store rig other new new' front h

pub right-files : (words : List (List ℕ)) (store : StoreState) (rig other : RigState) (new new' : Around) (front : List ℕ) →
    (job_of (asked_by words)).right (record { store = store; rig = rig }) new [] → (job_of (asked_by words)).right (record { store = store; rig = other }) new' front
right-files words = right-if (list_any is_dashed words) words

-- a job that is asked for by a line of words
abbrev EndedSo : (old new : Outside) → (status : ℕ) → Asked → Type 0
EndedSo old new status asked = Ended (HasNoJob asked) (job_of asked) old new status

pub ended-as : {line : List (List ℕ)} {job : Job} (words : List (List ℕ)) {status : ℕ} (old new : Outside)
    → Ended (HasNoJob (asked_by words)) (job_of (asked_by words)) old new status
    → words ≡ line → asked_in line ≡ a_job job → EndedAs job old new status
ended-as {line} {job} words {status} old new ended is asks = ended-asked (list_any is_dashed line) old new (subst (EndedSo old new status) same ended)
  where
    same : asked_by words ≡ asked_if (list_any is_dashed line) no_job (a_job job)
    same = ap asked_by is ∙ ap (asked_if (list_any is_dashed line) no_job) asks

-- a status other than 4 and 7
pub is-status : (status : ℕ) → status ≤ 7 → (status ≡ 4 → ⊥) → (status ≡ 7 → ⊥) → IsStatus status
is-status zero le four seven = inl (omega arith)
is-status (suc zero) le four seven = inl (omega arith)
is-status (suc (suc zero)) le four seven = inl (omega arith)
is-status (suc (suc (suc zero))) le four seven = inl (omega arith)
is-status (suc (suc (suc (suc zero)))) le four seven = absurd (four refl)
is-status (suc (suc (suc (suc (suc zero))))) le four seven = inr (inl refl)
is-status (suc (suc (suc (suc (suc (suc zero)))))) le four seven = inr (inr refl)
is-status (suc (suc (suc (suc (suc (suc (suc zero))))))) le four seven = absurd (seven refl)
is-status (suc (suc (suc (suc (suc (suc (suc (suc n)))))))) le four seven = absurd (let no : ⊥ = omega (arith, le) in no)

-- the status that a refusal is followed by
abbrev status_at : Next → ℕ
status_at (refuses refusal) = status_of refusal
status_at next = 0

-- nothing is compared, so no copies differ
map-alike : (design : List ℕ) (old new : StoreState) (text : List ℕ) → map_course design old new text (refuses Differ) → ⊥
map-alike design old new text (inl h) = h.1
map-alike design old new text (inr (read, gives, inl h)) = h.1
map-alike design old new text (inr (read, gives, inr (r, is, inl h))) = let line = h.1 in absurd (cc)
map-alike design old new text (inr (read, gives, inr (r, is, inr (more, eq, h)))) = let end = h.1 in absurd (cc)

fit-alike : (machine defects design : List ℕ) (old new : StoreState) (text : List ℕ) → fit_course machine defects design old new text (refuses Differ) → ⊥
fit-alike machine defects design old new text (inl h) = h.1
fit-alike machine defects design old new text (inr (m, given, inl h)) = h.1
fit-alike machine defects design old new text (inr (m, given, inr (d, list, inl h))) = h.1
fit-alike machine defects design old new text (inr (m, given, inr (d, list, inr (read, gives, inl h)))) = h.1
fit-alike machine defects design old new text (inr (m, given, inr (d, list, inr (read, gives, inr (r, is, inl h))))) = let line = h.1 in absurd (cc)
fit-alike machine defects design old new text (inr (m, given, inr (d, list, inr (read, gives, inr (r, is, inr (more, eq, h)))))) = let end = h.1 in absurd (cc)

wrong-alike : (old new : Around) (text : List ℕ) → wrong_words.course old new text (refuses Differ) → ⊥
wrong-alike old new text h = let line : status_of Differ ≡ status_of Words = ap status_at h.1 in absurd (cc)

alike-in : (words : List (List ℕ)) (old new : Around) (text : List ℕ) → (job_of (asked_in words)).course old new text (refuses Differ) → ⊥
alike-in [] old new text h = wrong-alike old new text h
alike-in (design ∷ []) old new text h = map-alike design old.store new.store text h
alike-in (machine ∷ defects ∷ []) old new text h = wrong-alike old new text h
alike-in (machine ∷ defects ∷ design ∷ []) old new text h = fit-alike machine defects design old.store new.store text h
alike-in (machine ∷ defects ∷ design ∷ more ∷ words) old new text h = wrong-alike old new text h

alike-if : (b : Bool) (words : List (List ℕ)) (old new : Around) (text : List ℕ) → (job_of (asked_if b no_job (asked_in words))).course old new text (refuses Differ) → ⊥
alike-if true words old new text h = wrong-alike old new text h
alike-if false words old new text h = alike-in words old new text h

pub never-differs : (words : List (List ℕ)) (old new : Around) (text : List ℕ) → (job_of (asked_by words)).course old new text (refuses Differ) → ⊥
never-differs words = alike-if (list_any is_dashed words) words

-- no rig is asked, so its count doesn't rise
pub rig-rests : Rose 0 0 → ⊥
rig-rests rose = omega (arith, rose)

pub complete-so : {end : Type 0} (old new : Outside) → old.rig.failures ≡ 0 → new.rig.failures ≡ 0 → old.rig.machine.refused.times ≡ 0
    → new.rig.machine.refused.times ≡ 0 → Unless end old new
    → end ⊎ (Rose old.store.failures new.store.failures ⊎ Rose old.sink.failures new.sink.failures)
complete-so old new f0 f1 t0 t1 (inl h) = inl h
complete-so old new f0 f1 t0 t1 (inr (inl h)) = inr h
complete-so old new f0 f1 t0 t1 (inr (inr (inl rose))) = absurd (let no : ⊥ = omega (arith, f0, f1, rose) in no)
complete-so old new f0 f1 t0 t1 (inr (inr (inr rose))) = absurd (let no : ⊥ = omega (arith, t0, t1, rose) in no)

-- ---- how many words there are

one-word : (words : List (List ℕ)) → length words ≡ 1 → a_job (map_job (word_at words 0)) ≡ asked_in words
one-word [] is = absurd (let no : ⊥ = omega (arith, is) in no)
one-word (design ∷ []) is = refl
one-word (a ∷ b ∷ words) is = absurd (let no : ⊥ = omega (arith, is) in no)

three-words : (words : List (List ℕ)) → length words ≡ 3 → a_job (fit_job (word_at words 0) (word_at words 1) (word_at words 2)) ≡ asked_in words
three-words [] is = absurd (let no : ⊥ = omega (arith, is) in no)
three-words (a ∷ []) is = absurd (let no : ⊥ = omega (arith, is) in no)
three-words (a ∷ b ∷ []) is = absurd (let no : ⊥ = omega (arith, is) in no)
three-words (machine ∷ defects ∷ design ∷ []) is = refl
three-words (a ∷ b ∷ c ∷ d ∷ words) is = absurd (let no : ⊥ = omega (arith, is) in no)

other-words : (words : List (List ℕ)) → (length words ≡ 1 → ⊥) → (length words ≡ 3 → ⊥) → no_job ≡ asked_in words
other-words [] one three = refl
other-words (a ∷ []) one three = absurd (one refl)
other-words (a ∷ b ∷ []) one three = refl
other-words (a ∷ b ∷ c ∷ []) one three = absurd (three refl)
other-words (a ∷ b ∷ c ∷ d ∷ words) one three = refl

module _ (words : List (List ℕ)) (dashed : list_any is_dashed words ≡ false) where
  asked-so : (asked : Asked) → asked ≡ asked_in words → asked ≡ asked_by words
  asked-so asked is = is ∙ ap (λ b. asked_if b no_job (asked_in words)) (sym dashed)

  pub one-asked : (design : List ℕ) → length words ≡ 1 → design ≡ word_at words 0 → a_job (map_job design) ≡ asked_by words
  one-asked design count is = asked-so (a_job (map_job design)) (ap (λ d. a_job (map_job d)) is ∙ one-word words count)

  pub three-asked : (machine defects design : List ℕ) → length words ≡ 3 → machine ≡ word_at words 0 → defects ≡ word_at words 1 → design ≡ word_at words 2 → a_job (fit_job machine defects design) ≡ asked_by words
  three-asked machine defects design count m d n = rw (m, d, n) (asked-so _ (three-words words count))

  pub none-asked : (length words ≡ 1 → ⊥) → (length words ≡ 3 → ⊥) → no_job ≡ asked_by words
  none-asked one three = asked-so no_job (other-words words one three)
