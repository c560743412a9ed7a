-- How a job ends the program.
use Rattle.std.proofs.Common.{◌≡◌, ◌⊎◌, ℕ, ◌<◌, ◌≤◌, List, [], ◌++◌, Bool, false, IsTrue, refl, sym, subst, inl, inr, ◌∙◌, arith, ap, append_assoc, append-nil}
use Rattle.cmd_steps.proofs.Vocabulary.{Rose, SinkState, Wrote, Stop, Refused, Sink, Refusal}
use Rattle.base_io.specs.declared.sink.SinkFail.TheVariants.{Failed, Memory}
use Rattle.cmd_steps.specs.Vocabulary.{Outside, IsLater, SomethingRose, around, Course, ends, refuses, AsksSome, IsCounted, StopWrote, status_of, refusal_text, Job, IsLawful, IsExcused, Fronts, ShortPlace, Ended, IsRefused, IsOfFronts, LacksBefore, EndWrote, Stands, Finishes, Refuses, whole, refused, cut_line, no_line, cut}
use Rattle.cmd_steps.specs.declared.refusal.Refusal.TheVariants.{Words, Machine, Faults, Defects, Image, Design, Vectors, Room, Rig, Store, Memory as NoMemory, Differ}
use Rattle.cmd_steps.proofs.WriteLemmas.{Wrote-then}

-- what a stop needs is still so, whatever is written then
counted-on : (words : Type 0) (refusal : Refusal) (old mid new : Outside) → new.store ≡ mid.store → new.rig ≡ mid.rig → IsCounted words (Refused refusal) old mid → IsCounted words (Refused refusal) old new
counted-on words Words old mid new store rig why = why
counted-on words Rig old mid new store rig why = rw rig why
counted-on words Store old mid new store rig why = rw store why
counted-on words (Machine line kind) old mid new store rig why = tt
counted-on words (Faults line kind) old mid new store rig why = tt
counted-on words (Defects line kind) old mid new store rig why = tt
counted-on words (Image line kind) old mid new store rig why = tt
counted-on words (Design place) old mid new store rig why = tt
counted-on words (Vectors line kind) old mid new store rig why = tt
counted-on words (Room place) old mid new store rig why = tt
counted-on words NoMemory old mid new store rig why = tt
counted-on words Differ old mid new store rig why = tt

module _ (words : Type 0) (course : Course) where
  -- the line of a refusal after what stands before it
  end-refusal : (refusal : Refusal) (text : List ℕ) (old new : Outside) (b : SinkState) (status : ℕ) → Stands words course old new refusal text → Wrote old.sink.written b.written text → old.sink.failures ≤ b.failures → b.can_lack ≡ old.sink.can_lack → Refuses refusal b new.sink status → EndWrote words course old new status
  end-refusal refusal text old new b status stands wrote later kind (inl fin) =
      subst (λ s. EndWrote words course old new s) (sym fin.0) (refused refusal text stands (Wrote-then _ _ _ _ _ wrote fin.1))
  end-refusal refusal text old new b status stands wrote later kind (inr (inl fin)) =
      subst (λ s. EndWrote words course old new s) (sym fin.0) (cut_line refusal text fin.2.0 stands (omega (arith, fin.1, later)) (Wrote-then _ _ _ _ _ wrote fin.2.1))
  end-refusal refusal text old new b status stands wrote later kind (inr (inr fin)) =
      subst (λ s. EndWrote words course old new s) (sym fin.0) (no_line refusal text stands (subst (λ k. IsTrue k) kind fin.1) (rw fin.2 wrote))

  -- a stop, and what follows it: the store and the rig stay
  pub end-stop : (stop : Stop) (old mid new : Outside) (status : ℕ) → old.sink.failures ≤ mid.sink.failures → mid.sink.can_lack ≡ old.sink.can_lack → new.store ≡ mid.store → new.rig ≡ mid.rig → IsCounted words stop old mid → StopWrote course stop old.sink mid.sink → Finishes stop mid.sink new.sink status → EndWrote words course old new status
  end-stop (Refused refusal) old mid new status later kind store rig why wrote fin =
      end-refusal refusal wrote.0 old new mid.sink status (inl (counted-on words refusal old mid new store rig why, wrote.1)) wrote.2 later kind fin
  end-stop (Sink Failed) old mid new status later kind store rig why wrote fin =
      subst (λ s. EndWrote words course old new s) (sym fin.0) (cut wrote.0 wrote.1 wrote.2 wrote.3 (rw fin.1 why) (rw fin.1 wrote.4))
  end-stop (Sink Memory) old mid new status later kind store rig why wrote fin =
      end-refusal NoMemory wrote.0 old new mid.sink status (inr (refl, why, (wrote.1, wrote.2))) wrote.3 later kind fin

no-lack : (can_lack : Bool) → can_lack ≡ false → IsTrue can_lack → ⊥
no-lack can_lack is lacks =
    let no : IsTrue false = subst (λ b. IsTrue b) is lacks in
    absurd (cc)

-- ---- each status has its cause

module _ (words : Type 0) (course : Course) (old new : Outside) where
  -- a status from 1 to 4 is that of a refusal, whose line was written
  by-refusal : (status : ℕ) → EndWrote words course old new status → 0 < status → status < 5 → (refusal : Refusal) × (status_of refusal ≡ status) × IsCounted words (Refused refusal) old new × IsRefused course old new refusal
  by-refusal _ (whole text f w) some few = absurd (let no : ⊥ = omega (arith, some) in no)
  by-refusal _ (refused refusal text (inl s) w) some few = (refusal, refl, s.0, (text, s.1, w))
  by-refusal _ (refused refusal text (inr s) w) some few = absurd (let less : status_of NoMemory < 5 = subst (λ r. status_of r < 5) s.0 few in let no : ⊥ = omega (arith, less) in no)
  by-refusal _ (cut_line refusal text n s r w) some few = absurd (let no : ⊥ = omega (arith, few) in no)
  by-refusal _ (no_line refusal text s l w) some few = absurd (let no : ⊥ = omega (arith, few) in no)
  by-refusal _ (cut text line n p r w) some few = absurd (let no : ⊥ = omega (arith, few) in no)

  pub end-text : (status : ℕ) → EndWrote words course old new status → status ≡ 1 → (refusal : Refusal) × (status_of refusal ≡ 1) × IsRefused course old new refusal
  end-text status e h = let r = by-refusal status e (omega (arith, h)) (omega (arith, h)) in (r.0, r.1 ∙ h, r.3)

  room-refused : (refusal : Refusal) → status_of refusal ≡ 3 → IsRefused course old new refusal → (place : ShortPlace) × IsRefused course old new (Room place)
  room-refused (Room place) h is = (place, is)
  room-refused refusal h is = absurd cc

  pub end-room : (status : ℕ) → EndWrote words course old new status → status ≡ 3 → (place : ShortPlace) × IsRefused course old new (Room place)
  end-room status e h = let r = by-refusal status e (omega (arith, h)) (omega (arith, h)) in room-refused r.0 (r.1 ∙ h) r.3

  words-counted : (refusal : Refusal) → status_of refusal ≡ 2 → IsCounted words (Refused refusal) old new → words
  words-counted Words h why = why
  words-counted refusal h why = absurd cc

  pub end-words : (status : ℕ) → EndWrote words course old new status → status ≡ 2 → words
  end-words status e h = let r = by-refusal status e (omega (arith, h)) (omega (arith, h)) in words-counted r.0 (r.1 ∙ h) r.2

  rig-counted : (refusal : Refusal) → status_of refusal ≡ 4 → IsCounted words (Refused refusal) old new → Rose old.rig.failures new.rig.failures
  rig-counted Rig h why = why
  rig-counted refusal h why = absurd cc

  pub end-rig : (status : ℕ) → EndWrote words course old new status → status ≡ 4 → Rose old.rig.failures new.rig.failures
  end-rig status e h = let r = by-refusal status e (omega (arith, h)) (omega (arith, h)) in rig-counted r.0 (r.1 ∙ h) r.2

  store-refused : (refusal : Refusal) (text : List ℕ) → status_of refusal ≡ 5 → Stands words course old new refusal text → Rose old.store.failures new.store.failures
  store-refused Store text h (inl s) = s.0
  store-refused refusal text h (inl s) = absurd cc
  store-refused refusal text h (inr s) = let no : status_of NoMemory ≡ 5 = subst (λ r. status_of r ≡ 5) s.0 h in absurd cc

  pub end-outside : (status : ℕ) → EndWrote words course old new status → status ≡ 5 → Rose old.store.failures new.store.failures ⊎ Rose old.sink.failures new.sink.failures
  end-outside _ (whole text f w) h = absurd cc
  end-outside _ (refused refusal text s w) h = inl (store-refused refusal text h s)
  end-outside _ (cut_line refusal text n s r w) h = inr r
  end-outside _ (no_line refusal text s l w) h = absurd cc
  end-outside _ (cut text line n p r w) h = inr r

  -- lack of memory, over a sink that can't answer so
  memory-refused : (refusal : Refusal) (text : List ℕ) → status_of refusal ≡ 6 → old.sink.can_lack ≡ false → Stands words course old new refusal text → Wrote old.sink.written new.sink.written (text ++ refusal_text refusal) → IsRefused course old new NoMemory
  memory-refused NoMemory text h none (inl s) w = (text, s.1, w)
  memory-refused refusal text h none (inl s) w = absurd cc
  memory-refused refusal text h none (inr s) w = absurd (no-lack old.sink.can_lack none s.1)

  pub end-memory : (status : ℕ) → EndWrote words course old new status → status ≡ 6 → old.sink.can_lack ≡ false → IsRefused course old new NoMemory
  end-memory _ (whole text f w) h none = absurd cc
  end-memory _ (refused refusal text s w) h none = memory-refused refusal text h none s w
  end-memory _ (cut_line refusal text n s r w) h none = absurd cc
  end-memory _ (no_line refusal text s l w) h none = absurd (no-lack old.sink.can_lack none l)
  end-memory _ (cut text line n p r w) h none = absurd cc

  -- copies that read differently
  differ-refused : (refusal : Refusal) (text : List ℕ) → status_of refusal ≡ 7 → Stands words course old new refusal text → Wrote old.sink.written new.sink.written (text ++ refusal_text refusal) → IsRefused course old new Differ
  differ-refused Differ text h (inl s) w = (text, s.1, w)
  differ-refused refusal text h (inl s) w = absurd cc
  differ-refused refusal text h (inr s) w = let no : status_of NoMemory ≡ 7 = subst (λ r. status_of r ≡ 7) s.0 h in absurd cc

  pub end-differ : (status : ℕ) → EndWrote words course old new status → status ≡ 7 → IsRefused course old new Differ
  end-differ _ (whole text f w) h = absurd cc
  end-differ _ (refused refusal text s w) h = differ-refused refusal text h s w
  end-differ _ (cut_line refusal text n s r w) h = absurd cc
  end-differ _ (no_line refusal text s l w) h = absurd cc
  end-differ _ (cut text line n p r w) h = absurd cc

  status-most : (refusal : Refusal) → status_of refusal ≤ 7
  status-most Words = omega arith
  status-most Rig = omega arith
  status-most Store = omega arith
  status-most NoMemory = omega arith
  status-most Differ = omega arith
  status-most (Machine line kind) = omega arith
  status-most (Faults line kind) = omega arith
  status-most (Defects line kind) = omega arith
  status-most (Image line kind) = omega arith
  status-most (Design place) = omega arith
  status-most (Vectors line kind) = omega arith
  status-most (Room place) = omega arith

  pub end-status : (status : ℕ) → EndWrote words course old new status → status ≤ 7
  end-status _ (whole text f w) = omega arith
  end-status _ (refused refusal text s w) = status-most refusal
  end-status _ (cut_line refusal text n s r w) = omega arith
  end-status _ (no_line refusal text s l w) = omega arith
  end-status _ (cut text line n p r w) = omega arith

-- ---- what a lawful job comes to

-- so is each front of what stands before something else
fronts-of : (P : List ℕ → Type 0) (old new : SinkState) (text more : List ℕ) → IsOfFronts P old new → Wrote old.written new.written (text ++ more) → Fronts P text
fronts-of P old new text more all wrote front rest is =
    let longer : text ++ more ≡ front ++ (rest ++ more) = ap (λ t. t ++ more) is ∙ append_assoc front rest more in
    all front (rest ++ more) (subst (λ t. Wrote old.written new.written t) longer wrote)

module _ (words : Type 0) (old new : Outside) where
  -- what isn't refused for its text is refused for a count that rose, or for lack of memory
  excused-rose : (refusal : Refusal) → IsCounted words (Refused refusal) old new → IsExcused refusal (around old) (around new) → (refusal ≡ NoMemory) ⊎ SomethingRose old new
  excused-rose Rig why is = inr (inr (inl why))
  excused-rose Store why is = inr (inl (inl why))
  excused-rose NoMemory why is = inl refl
  excused-rose (Faults line kind) why is = inr (inr (inr is))
  excused-rose refusal why is = absurd is

  memory-status : (refusal : Refusal) → ((refusal ≡ NoMemory) ⊎ SomethingRose old new) → (status_of refusal ≡ 6) ⊎ SomethingRose old new
  memory-status refusal (inl is) = inl (rw is refl)
  memory-status refusal (inr rose) = inr rose

module _ (words : Type 0) (job : Job) (lawful : IsLawful job) (old new : Outside) where
  -- ---- all is right, and there is room

  stands-right : (refusal : Refusal) (text : List ℕ) → Fronts (job.right (around old) (around new)) text → Stands words (job.course (around old) (around new)) old new refusal text → (refusal ≡ NoMemory) ⊎ SomethingRose old new
  stands-right refusal text right (inl s) = excused-rose words old new refusal s.0 (lawful.right (around old) (around new) text (refuses refusal) right s.1)
  stands-right refusal text right (inr s) = inl s.0

  pub end-complete : (status : ℕ) → EndWrote words (job.course (around old) (around new)) old new status → IsOfFronts (job.right (around old) (around new)) old.sink new.sink → ((status ≡ 0) ⊎ (status ≡ 6)) ⊎ SomethingRose old new
  end-complete _ (whole text f w) right = inl (inl refl)
  end-complete _ (refused refusal text s w) right =
      let fronts = fronts-of (job.right (around old) (around new)) old.sink new.sink text (refusal_text refusal) right w in
      elim (memory-status words old new refusal (stands-right refusal text fronts s)) as (λ _. ((status_of refusal ≡ 0) ⊎ (status_of refusal ≡ 6)) ⊎ SomethingRose old new) [ inl h ↦ inl (inr h) | inr rose ↦ inr rose ]
  end-complete _ (cut_line refusal text n s r w) right = inr (inl (inr r))
  end-complete _ (no_line refusal text s l w) right = inl (inr refl)
  end-complete _ (cut text line n p r w) right = inr (inl (inr r))

  -- ---- all is right, but there is no room

  room-or : (refusal : Refusal) → IsCounted words (Refused refusal) old new → ((status_of refusal ≡ 3) ⊎ IsExcused refusal (around old) (around new)) → ((status_of refusal ≡ 3) ⊎ (status_of refusal ≡ 6)) ⊎ SomethingRose old new
  room-or refusal why (inl h) = inl (inl h)
  room-or refusal why (inr is) =
      elim (memory-status words old new refusal (excused-rose words old new refusal why is)) as (λ _. ((status_of refusal ≡ 3) ⊎ (status_of refusal ≡ 6)) ⊎ SomethingRose old new) [ inl h ↦ inl (inr h) | inr rose ↦ inr rose ]

  stands-short : (refusal : Refusal) (text : List ℕ) → Fronts (job.short (around old) (around new)) text → Stands words (job.course (around old) (around new)) old new refusal text → ((status_of refusal ≡ 3) ⊎ (status_of refusal ≡ 6)) ⊎ SomethingRose old new
  stands-short refusal text short (inl s) = room-or refusal s.0 (lawful.short (around old) (around new) text (refuses refusal) short s.1)
  stands-short refusal text short (inr s) = inl (inr (rw s.0 refl))

  pub end-no-room : (status : ℕ) → EndWrote words (job.course (around old) (around new)) old new status → IsOfFronts (job.short (around old) (around new)) old.sink new.sink → ((status ≡ 3) ⊎ (status ≡ 6)) ⊎ SomethingRose old new
  end-no-room _ (whole text f w) short =
      let all = subst (λ t. Wrote old.sink.written new.sink.written t) (sym (append-nil text)) w in
      absurd (lawful.short (around old) (around new) text ends (fronts-of (job.short (around old) (around new)) old.sink new.sink text [] short all) f)
  end-no-room _ (refused refusal text s w) short = stands-short refusal text (fronts-of (job.short (around old) (around new)) old.sink new.sink text (refusal_text refusal) short w) s
  end-no-room _ (cut_line refusal text n s r w) short = inr (inl (inr r))
  end-no-room _ (no_line refusal text s l w) short = inl (inr refl)
  end-no-room _ (cut text line n p r w) short = inr (inl (inr r))

  -- ---- all is right, there is room, and the vectors are few

  lacks-before : (refusal : Refusal) (text : List ℕ) → job.few (around old) (around new) → job.course (around old) (around new) text (refuses refusal) → Wrote old.sink.written new.sink.written (text ++ refusal_text refusal) → refusal ≡ NoMemory → LacksBefore job old new
  lacks-before refusal text few at wrote is =
      let at' = subst (λ r. job.course (around old) (around new) text (refuses r)) is at in
      (text, (λ begun. lawful.few (around old) (around new) few text begun at'), subst (λ r. Wrote old.sink.written new.sink.written (text ++ refusal_text r)) is wrote)

  few-refused : (refusal : Refusal) (text : List ℕ) → job.few (around old) (around new) → Fronts (job.right (around old) (around new)) text → IsCounted words (Refused refusal) old new → job.course (around old) (around new) text (refuses refusal) → Wrote old.sink.written new.sink.written (text ++ refusal_text refusal) → ((status_of refusal ≡ 0) ⊎ ((status_of refusal ≡ 6) × LacksBefore job old new)) ⊎ SomethingRose old new
  few-refused refusal text few right why at wrote =
      elim (excused-rose words old new refusal why (lawful.right (around old) (around new) text (refuses refusal) right at)) as (λ _. ((status_of refusal ≡ 0) ⊎ ((status_of refusal ≡ 6) × LacksBefore job old new)) ⊎ SomethingRose old new) [ inl is ↦ inl (inr (rw is refl, lacks-before refusal text few at wrote is)) | inr rose ↦ inr rose ]

  few-stands : (refusal : Refusal) (text : List ℕ) → job.few (around old) (around new) → old.sink.can_lack ≡ false → Fronts (job.right (around old) (around new)) text → Stands words (job.course (around old) (around new)) old new refusal text → Wrote old.sink.written new.sink.written (text ++ refusal_text refusal) → ((status_of refusal ≡ 0) ⊎ ((status_of refusal ≡ 6) × LacksBefore job old new)) ⊎ SomethingRose old new
  few-stands refusal text few none right (inl s) wrote = few-refused refusal text few right s.0 s.1 wrote
  few-stands refusal text few none right (inr s) wrote = absurd (no-lack old.sink.can_lack none s.1)

  pub end-few : (status : ℕ) → EndWrote words (job.course (around old) (around new)) old new status → IsOfFronts (job.right (around old) (around new)) old.sink new.sink → job.few (around old) (around new) → old.sink.can_lack ≡ false → ((status ≡ 0) ⊎ ((status ≡ 6) × LacksBefore job old new)) ⊎ SomethingRose old new
  end-few _ (whole text f w) right few none = inl (inl refl)
  end-few _ (refused refusal text s w) right few none = few-stands refusal text few none (fronts-of (job.right (around old) (around new)) old.sink new.sink text (refusal_text refusal) right w) s w
  end-few _ (cut_line refusal text n s r w) right few none = inr (inl (inr r))
  end-few _ (no_line refusal text s l w) right few none = absurd (no-lack old.sink.can_lack none l)
  end-few _ (cut text line n p r w) right few none = inr (inl (inr r))

  -- ---- all of it

  pub ended : (status : ℕ) → IsLater old new → AsksSome job.files old.store.asked new.store.asked → (status ≡ 0 → new.store.asked ≡ old.store.asked ++ job.files) → job.asks (around old) (around new) → EndWrote words (job.course (around old) (around new)) old new status → (words → (status ≡ 2) ⊎ (((status ≡ 5) × Rose old.sink.failures new.sink.failures) ⊎ ((status ≡ 6) × IsTrue old.sink.can_lack))) → Ended words job old new status
  ended status later asked all machines written wrong = record {
    later = later;
    asked = asked;
    asked_all = all;
    machines = machines;
    written = written;
    text = end-text words (job.course (around old) (around new)) old new status written;
    wrong = end-words words (job.course (around old) (around new)) old new status written;
    wrong_only = wrong;
    no_room = end-room words (job.course (around old) (around new)) old new status written;
    rig = end-rig words (job.course (around old) (around new)) old new status written;
    streams = end-outside words (job.course (around old) (around new)) old new status written;
    differ = end-differ words (job.course (around old) (around new)) old new status written;
    statuses = end-status words (job.course (around old) (around new)) old new status written;
    complete = end-complete status written;
    no_room_only = end-no-room status written;
    memory = end-memory words (job.course (around old) (around new)) old new status written;
    memory_before = end-few status written;
  }
