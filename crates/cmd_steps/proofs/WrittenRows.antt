-- The rows of a file of vectors that is read row by row: those so far, how they go on, and how they end.
use Rattle.std.proofs.Common.{◌≡◌, ◌⊎◌, ℕ, ◌+◌, ◌-◌, ◌<◌, ◌≤◌, Bool, false, List, [], ◌∷◌, ◌++◌, length, take, flat_map, refl, sym, ap, subst, ◌∙◌, arith, inl, inr, append-nil, append_assoc, length-append, Result, Ok, Err, IfErr}
use Rattle.cmd_steps.proofs.Vocabulary.{flat_map-append, take-take, take-append_seam, Told, StoreState, SinkState, Wrote, PutFails}
use Rattle.cmd_steps.proofs.Vocabulary.{RigState, Machine, Narrows, Tells, row_line, Stop, Refused, Sink}
use native.Mathlib.Decide.{dec_lt}
use Rattle.base_io.specs.declared.sink.SinkFail.{SinkFail, TheVariants.Failed, TheVariants.Memory}
use Rattle.design_vectors.specs.declared.vectors.VectorsFail.{VectorsFail}
use Rattle.design_vectors.specs.declared.vectors.VectorsFail.TheVariants.{Text, Failed as VectorsFailed}
use Rattle.design_vectors.specs.Readings.{VectorReading, new_reading, NextGives, NextFails, HasAsked}
use Rattle.cmd_steps.specs.Vocabulary.{most_vector_bytes, file_of, vectors_at, AreFirst, AreAll, AreBeforeFault, IsBegun, IsNearNext, NoRowWaits, StaysOpen, IsRead, IsPutOut, IsHeldUp, WaitsOrPuts, Outside, outside, IsLater, RowWork, all_rows, HasRows, HasReadRows, IsBeforeRow, Asks, IsCounted, IsWritten, StopWrote, stop_of_vectors, Puts, Follows}
use Rattle.cmd_steps.proofs.Counting.{counted-after}
use Rattle.cmd_steps.proofs.CutRows.{IsCutAt, some-line, cut-of, first-of, none-waits}
use Rattle.cmd_steps.proofs.Prompt.{none-asked, waits-fewer, prompt-now}
use Rattle.cmd_steps.proofs.Taking.{later-same, later-later}
use Rattle.cmd_steps.proofs.TextLemmas.{IfTold-with}
use Rattle.cmd_steps.proofs.VectorLemmas.{IsTaking, IsTaking-start, IsTaking-more, file-is, taken-first, taken-next, taken-all, taken-fault}
use Rattle.cmd_steps.proofs.WriteLemmas.{Wrote-then, Wrote-none, row_lines-more}
use Rattle.cmd_steps.proofs.Logs.{log_kept, log_same}

-- Since the store stood at the first byte of the file these vectors were taken, and these rows made, of the first of them: some were
-- written, and the lines of the rest wait. Of each vector whose row isn't written the store isn't far beyond the line, and it was asked
-- for bytes only while none of these lines had ended
pub record AreWritten (width : ℕ) (begun : Outside) (reading : VectorReading) (waiting : List ℕ) (now : Outside) (vectors rows : List (List Bool)) : Type 0 where
  pub later : IsLater begun now
  pub taking : IsTaking width begun.store now.store reading vectors
  pub few : length rows ≤ length vectors
  pub put : List (List Bool)
  pub rest : List (List Bool)
  pub split : rows ≡ put ++ rest
  pub wrote : Wrote begun.sink.written now.sink.written (flat_map row_line put)
  pub waits : waiting ≡ flat_map row_line rest
  pub near : (k : ℕ) → length put ≤ k → k < length vectors → IsNearNext width (file_of begun.store) now.store.current k
  pub prompt : NoRowWaits width (file_of begun.store) now.store.read_at (length put)

begun-prompt : (width : ℕ) (store : StoreState) → IsBegun store → NoRowWaits width (file_of store) store.read_at 0
begun-prompt width store begun =
    rw (file-is store begun.0 begun.1, begun.3) (none-asked width (store.contents begun.0) 0 begun.2)

pub none-written : (width : ℕ) (o : Outside) → IsBegun o.store → AreWritten width o (new_reading width most_vector_bytes) [] o [] []
none-written width o begun = record {
  later = later-same o;
  taking = IsTaking-start width o.store begun;
  few = omega arith;
  put = [];
  rest = [];
  split = refl;
  wrote = Wrote-none o.sink.written;
  waits = refl;
  near = λ k from to. absurd (let none : ⊥ = omega (arith, to) in none);
  prompt = begun-prompt width o.store begun;
}

-- what a row leaves as it was, and counts that never fall
pub row-later : (store store' : StoreState) (rig rig' : RigState) (sink sink' : SinkState) → StaysOpen store store' → rig'.machine ≡ rig.machine → Narrows rig rig' → Tells rig rig' → rig.failures ≤ rig'.failures → sink'.can_lack ≡ sink.can_lack → sink.failures ≤ sink'.failures → IsLater (outside store rig sink) (outside store' rig' sink')
row-later store store' rig rig' sink sink' stays machine narrows tells rig_later kind sink_later = record {
  contents = stays.contents;
  texts = ap (λ (m : Machine). m.texts) machine;
  kind = kind;
  store = stays.later;
  rig = rig_later;
  sink = sink_later;
  log = log_kept machine narrows tells;
}

asks-none : {T : Type 0} (result : Result T Stop) (old new : StoreState) → new.asked ≡ old.asked → Asks [] result old new
asks-none (Ok x) old new same = record { all = same ∙ sym (append-nil old.asked); some = tt }
asks-none (Err stop) old new same = record { all = tt; some = same }

-- ---- rows that wait are put out

module _ (width : ℕ) (begun : Outside) (reading : VectorReading) (waiting : List ℕ) (now : Outside) (vectors rows : List (List Bool)) (so_far : AreWritten width begun reading waiting now vectors rows) where
  -- the lines of all rows
  lines-are : flat_map row_line so_far.put ++ waiting ≡ flat_map row_line rows
  lines-are =
      ap (λ t. flat_map row_line so_far.put ++ t) so_far.waits ∙ sym (ap (flat_map row_line) so_far.split ∙ flat_map-append row_line so_far.put so_far.rest)

  -- where nothing waits all were written
  pub all-written : waiting ≡ [] → Wrote begun.sink.written now.sink.written (flat_map row_line rows)
  all-written none =
      let same : flat_map row_line so_far.put ≡ flat_map row_line rows =
      sym (append-nil (flat_map row_line so_far.put)) ∙ (ap (λ t. flat_map row_line so_far.put ++ t) (sym none) ∙ lines-are) in
      subst (λ t. Wrote begun.sink.written now.sink.written t) same so_far.wrote

  pub none-left : waiting ≡ [] → length rows ≤ length so_far.put
  none-left none =
      let empty = none-waits so_far.rest (sym none ∙ so_far.waits) in
      rw (so_far.split, length-append so_far.put, empty) (omega arith)

  -- those that were written are some of them
  pub put-few : length so_far.put ≤ length rows
  put-few = rw (so_far.split, length-append so_far.put) (omega arith)

  pub put-out : (left : List ℕ) (sink : SinkState) → IsPutOut waiting left now.sink sink → AreWritten width begun reading left (outside now.store now.rig sink) vectors rows
  put-out left sink is = record {
    later = later-later begun now (outside now.store now.rig sink) so_far.later (record {
      contents = refl;
      texts = refl;
      kind = is.kind;
      store = omega arith;
      rig = omega arith;
      sink = is.later;
      log = log_same now.rig;
    });
    taking = so_far.taking;
    few = so_far.few;
    put = rows;
    rest = [];
    split = sym (append-nil rows);
    wrote = subst (λ t. Wrote begun.sink.written sink.written t) lines-are (Wrote-then _ _ _ _ _ so_far.wrote is.wrote);
    waits = is.empty;
    near = λ k from to. so_far.near k (omega (arith, put-few, from)) to;
    prompt = waits-fewer width (file_of begun.store) now.store.read_at (length so_far.put) (length rows) put-few so_far.prompt;
  }

  -- they wait on, or are put out
  pub after-put : (left : List ℕ) (sink : SinkState) → ((left ≡ waiting) × (sink ≡ now.sink)) ⊎ IsPutOut waiting left now.sink sink → AreWritten width begun reading left (outside now.store now.rig sink) vectors rows
  after-put left sink (inl same) = rw (same.0, same.1) so_far
  after-put left sink (inr is) = put-out left sink is

  -- the same as the next vector is read
  pub read-after : (left : List ℕ) (store : StoreState) (sink : SinkState) → ((left ≡ waiting) × (sink ≡ now.sink) × (store ≡ now.store)) ⊎ IsPutOut waiting left now.sink sink → AreWritten width begun reading left (outside now.store now.rig sink) vectors rows
  read-after left store sink (inl same) = after-put left sink (inl (same.0, same.1))
  read-after left store sink (inr is) = after-put left sink (inr is)

-- the store was read only where nothing waits
pub was-read : (waiting left : List ℕ) (store store' : StoreState) (old new : SinkState) (vectors rows : List (List Bool)) → length vectors ≤ length rows → ((left ≡ waiting) × (new ≡ old) × (store' ≡ store)) ⊎ IsPutOut waiting left old new → (store' ≡ store) ⊎ ((left ≡ []) × (length vectors ≤ length rows))
was-read waiting left store store' old new vectors rows all (inl same) = inl same.2
was-read waiting left store store' old new vectors rows all (inr is) = inr (is.empty, all)

pub some-lines : (lines : List ℕ) (row : List Bool) → 0 < length (lines ++ row_line row)
some-lines lines row = rw (length-append lines) (omega (arith, some-line row))

pub stays-same : (store : StoreState) → StaysOpen store store
stays-same store = record { contents = refl; later = omega arith; asked = refl }

-- lines that were added, as above
pub added : (lines left : List ℕ) (old new : SinkState) → WaitsOrPuts lines left (Ok tt) old new → ((left ≡ lines) × (new ≡ old)) ⊎ IsPutOut lines left old new
added lines left old new (inl h) = inl (h.0, h.1)
added lines left old new (inr h) = inr (record { empty = h.0; kind = h.1.kind; later = h.1.later; wrote = h.1.wrote })

-- or why they aren't put out
pub held-up : (lines : List ℕ) (stop : Stop) (store : StoreState) (old new : SinkState) → 0 < length lines → Puts {T = Unit {0}} lines (Err stop) old new → IsHeldUp stop lines store store old new
held-up lines stop store old new some puts =
    record { some = some; still = refl; kind = puts.kind; later = puts.later; stops = puts.stops }

pub not-added : (lines left : List ℕ) (stop : Stop) (store : StoreState) (old new : SinkState) → 0 < length lines → WaitsOrPuts lines left (Err stop) old new → IsHeldUp stop lines store store old new
not-added lines left stop store old new some (inl h) = absurd (let ok = h.2 in cc)
not-added lines left stop store old new some (inr h) = held-up lines stop store old new some h.1

-- rows wait on, or were put out as a vector was read, and then they are put out
pub put-after : (waiting mid left : List ℕ) (store store' : StoreState) (s0 s1 s2 : SinkState) → ((mid ≡ waiting) × (s1 ≡ s0) × (store' ≡ store)) ⊎ IsPutOut waiting mid s0 s1 → IsPutOut mid left s1 s2 → IsPutOut waiting left s0 s2
put-after waiting mid left store store' s0 s1 s2 (inl same) out = rw (same.0, same.1) at out
put-after waiting mid left store store' s0 s1 s2 (inr first) out =
    let all : waiting ++ mid ≡ waiting = ap (λ t. waiting ++ t) first.empty ∙ append-nil waiting in
    record {
      empty = out.empty;
      kind = out.kind ∙ first.kind;
      later = omega (arith, first.later, out.later);
      wrote = subst (λ t. Wrote s0.written s2.written t) all (Wrote-then _ _ _ _ _ first.wrote out.wrote);
    }

-- or they aren't
pub held-after : (waiting mid : List ℕ) (stop : Stop) (store store' : StoreState) (s0 s1 s2 : SinkState) → ((mid ≡ waiting) × (s1 ≡ s0) × (store' ≡ store)) ⊎ IsPutOut waiting mid s0 s1 → IsHeldUp stop mid store' store' s1 s2 → IsHeldUp stop waiting store store' s0 s2
held-after waiting mid stop store store' s0 s1 s2 (inl same) held =
    let here = rw (same.0, same.1) at held in
    record { some = here.some; still = same.2; kind = here.kind; later = here.later; stops = here.stops }
held-after waiting mid stop store store' s0 s1 s2 (inr first) held =
    let none : length mid ≡ 0 = ap length first.empty in
    absurd (let never : ⊥ = omega (arith, none, held.some) in never)

-- ---- one more vector

module _ (width : ℕ) (begun now new : Outside) (reading reading' : VectorReading) (waiting : List ℕ) (vectors rows : List (List Bool)) (vector : List Bool) (so_far : AreWritten width begun reading waiting now vectors rows) (later : IsLater now new) (asked : new.store.asked ≡ now.store.asked) (read : IsRead vector reading reading' now.store new.store) where
  pub taken-more : IsTaking width begun.store new.store reading' (vectors ++ vector ∷ [])
  taken-more = IsTaking-more width begun.store now.store new.store reading reading' vector vectors so_far.taking later.contents later.store asked read.next read.moves read.onward

  pub near-next : IsNearNext width (file_of begun.store) new.store.current (length vectors)
  near-next = taken-next width begun.store now.store new.store reading reading' vector vectors so_far.taking later.contents read.next read.moves read.unread

  size : length (vectors ++ vector ∷ []) ≡ length vectors + 1
  size = rw (length-append vectors) refl

  -- the store wasn't read for it, or all rows of the vectors before it were written
  module _ (still : (new.store ≡ now.store) ⊎ ((waiting ≡ []) × (length vectors ≤ length rows))) (silent : new.sink ≡ now.sink) where
    all-put : (waiting ≡ []) × (length vectors ≤ length rows) → length vectors ≤ length so_far.put
    all-put none =
        let few = none-left width begun reading waiting now vectors rows so_far none.0 in
        omega (arith, few, none.1)

    near-before : (new.store ≡ now.store) ⊎ ((waiting ≡ []) × (length vectors ≤ length rows)) → (k : ℕ) → length so_far.put ≤ k → k < length vectors → IsNearNext width (file_of begun.store) new.store.current k
    near-before (inl same) k from to = subst (λ (s : StoreState). IsNearNext width (file_of begun.store) s.current k) (sym same) (so_far.near k from to)
    near-before (inr none) k from to = absurd (let few = all-put none in let never : ⊥ = omega (arith, few, from, to) in never)

    near-all : (k : ℕ) → length so_far.put ≤ k → k < length (vectors ++ vector ∷ []) → IsNearNext width (file_of begun.store) new.store.current k
    near-all k from to = by (dec_lt k (length vectors))
      where
        by : Dec (k < length vectors) → IsNearNext width (file_of begun.store) new.store.current k
        by (yes lt) = near-before still k from lt
        by (no ge) =
            let last : length vectors ≡ k = omega (arith, size, to) in
            subst (λ n. IsNearNext width (file_of begun.store) new.store.current n) last near-next

    still-prompt : (new.store ≡ now.store) ⊎ ((waiting ≡ []) × (length vectors ≤ length rows)) → NoRowWaits width (file_of begun.store) new.store.read_at (length so_far.put)
    still-prompt (inl same) = subst (λ (s : StoreState). NoRowWaits width (file_of begun.store) s.read_at (length so_far.put)) (sym same) so_far.prompt
    still-prompt (inr none) =
        prompt-now width begun.store now.store new.store reading vectors (length so_far.put) (length so_far.put) so_far.taking read.asked so_far.prompt (omega arith) (all-put none)

    pub takes-more : AreWritten width begun reading' waiting new (vectors ++ vector ∷ []) rows
    takes-more = record {
      later = later-later begun now new so_far.later later;
      taking = taken-more;
      few = omega (arith, size, so_far.few);
      put = so_far.put;
      rest = so_far.rest;
      split = so_far.split;
      wrote = rw silent so_far.wrote;
      waits = so_far.waits;
      near = near-all;
      prompt = still-prompt still;
    }

-- the rig went on meanwhile
pub rig-moved : (width : ℕ) (begun now : Outside) (reading : VectorReading) (waiting : List ℕ) (vectors rows : List (List Bool)) (rig : RigState) → AreWritten width begun reading waiting now vectors rows → IsLater now (outside now.store rig now.sink) → AreWritten width begun reading waiting (outside now.store rig now.sink) vectors rows
rig-moved width begun now reading waiting vectors rows rig so_far later = record {
  later = later-later begun now (outside now.store rig now.sink) so_far.later later;
  taking = so_far.taking;
  few = so_far.few;
  put = so_far.put;
  rest = so_far.rest;
  split = so_far.split;
  wrote = so_far.wrote;
  waits = so_far.waits;
  near = so_far.near;
  prompt = so_far.prompt;
}

-- ---- one more row, of a vector that was taken

pub waits-more : (width : ℕ) (begun now : Outside) (reading : VectorReading) (waiting : List ℕ) (vectors rows : List (List Bool)) (row : List Bool) → AreWritten width begun reading waiting now vectors rows → length rows < length vectors → AreWritten width begun reading (waiting ++ row_line row) now vectors (rows ++ row ∷ [])
waits-more width begun now reading waiting vectors rows row so_far few =
    let size : length (rows ++ row ∷ []) ≡ length rows + 1 = rw (length-append rows) refl in
    record {
      later = so_far.later;
      taking = so_far.taking;
      few = omega (arith, size, few);
      put = so_far.put;
      rest = so_far.rest ++ row ∷ [];
      split = ap (λ t. t ++ row ∷ []) so_far.split ∙ append_assoc so_far.put so_far.rest (row ∷ []);
      wrote = so_far.wrote;
      waits = ap (λ t. t ++ row_line row) so_far.waits ∙ sym (row_lines-more so_far.rest row);
      near = so_far.near;
      prompt = so_far.prompt;
    }

-- the first of the vectors that were taken
pub first-of-taken : (width : ℕ) (told : Told) (vectors more : List (List Bool)) → AreFirst width told (vectors ++ more) → AreFirst width told vectors
first-of-taken width told vectors more first = IfTold-with told _ _ first (λ bytes all.
    let front : take (length vectors) (take (length (vectors ++ more)) (vectors_at width bytes)) ≡ take (length vectors) (vectors_at width bytes) =
    take-take (length vectors) (length (vectors ++ more)) (vectors_at width bytes) (rw (length-append vectors) (omega arith)) in
    sym front ∙ (ap (take (length vectors)) all ∙ take-append_seam vectors more))

-- ---- how the rows are followed, wherever they end

module _ (w : RowWork) (begun now new : Outside) (reading : VectorReading) (waiting : List ℕ) (vectors rows : List (List Bool)) (so_far : AreWritten w.width begun reading waiting now vectors rows) (later : IsLater now new) (asked : new.store.asked ≡ now.store.asked) (told : w.told ≡ file_of begun.store) (at_end : w.store ≡ new.store) (asks : Type 0) (is : asks) where
  abbrev text : List ℕ
  text = flat_map row_line rows

  -- the vectors that were taken are the first of the file
  pub taken-are-first : AreFirst w.width w.told vectors
  taken-are-first = rw told (taken-first w.width begun.store now.store reading vectors so_far.taking)

  -- what is so of the store is so of the work's
  pub at-the-end : (P : StoreState → Type 0) → P new.store → P w.store
  at-the-end P here = subst P (sym at_end) here

  -- rows of the first of them
  abbrev pub has-rows : (vs : List (List Bool)) → AreFirst w.width w.told vs → w.are vs rows → NoRowWaits w.width (file_of begun.store) new.store.read_at (length rows) → HasRows w text
  has-rows vs first are prompt = record { vectors = vs; rows = rows; text_is = refl; first = first; are = are; prompt = at-the-end (λ (s : StoreState). NoRowWaits w.width w.told s.read_at (length rows)) (rw told prompt) }

  pub rows-follow : {U : Type 0} (result : Result U Stop) → IsWritten (all_rows w) result begun.sink new.sink → IfErr result (λ stop. IsCounted ⊥ stop now new) → Follows ⊥ [] asks (all_rows w) result begun new
  rows-follow result written counted = record {
    later = later-later begun now new so_far.later later;
    asked = asks-none result begun.store new.store (asked ∙ so_far.taking.asked);
    machines = is;
    written = written;
    counted = counted-after result begun now new so_far.later counted;
  }

  -- no further vector is read, the session has read these, and all rows are written
  module _ (are : w.are vectors rows) (session : w.session vectors rows) (all : length vectors ≤ length rows) (none : waiting ≡ []) (silent : new.sink ≡ now.sink) (asks_late : HasAsked reading now.store new.store) where
    abbrev pub has-read : HasReadRows w text
    has-read = record {
      has = has-rows vectors taken-are-first are (prompt-now w.width begun.store now.store new.store reading vectors (length so_far.put) (length rows) so_far.taking asks_late so_far.prompt (put-few w.width begun reading waiting now vectors rows so_far) all);
      session = session;
    }

    all-wrote : Wrote begun.sink.written new.sink.written text
    all-wrote = rw silent (all-written w.width begun reading waiting now vectors rows so_far none)

    pub vectors-follow : {U : Type 0} (fail : VectorsFail) → NextFails fail reading now.store new.store → Follows {T = U} ⊥ [] asks (all_rows w) (Err (stop_of_vectors fail)) begun new
    vectors-follow (Text line kind) fails =
        let fault : AreBeforeFault w.width w.told w.store.current line kind vectors =
        at-the-end (λ (s : StoreState). AreBeforeFault w.width w.told s.current line kind vectors) (rw told (taken-fault w.width begun.store now.store new.store reading vectors line kind so_far.taking fails)) in
        rows-follow (Err (stop_of_vectors (Text line kind))) (text, (has-read, fault), all-wrote) tt
    vectors-follow VectorsFailed fails =
        rows-follow (Err (stop_of_vectors VectorsFailed)) (text, (has-read, ap (λ (s : StoreState). s.current) at_end ∙ fails.closed), all-wrote) fails.rose

    -- the file has ended
    pub end-follows : {U : Type 0} (x : U) (reading' : VectorReading) (vector : List Bool) → NextGives false vector reading reading' now.store new.store → Follows ⊥ [] asks (all_rows w) (Ok x) begun new
    end-follows x reading' vector gives =
        let all : AreAll w.width w.told vectors = rw told (taken-all w.width begun.store now.store new.store reading reading' vector vectors so_far.taking gives) in
        rows-follow (Ok x) (text, (has-read, all), all-wrote) tt

  -- The rows that wait aren't put out. Those of these vectors were read, of which the last rows don't wait yet
  module _ (vs unwritten : List (List Bool)) (first : AreFirst w.width w.told vs) (are : w.are vs (rows ++ unwritten)) (session : w.session vs (rows ++ unwritten) ⊎ (w.differs vs (rows ++ unwritten) ⊎ w.lost)) (still : new.store ≡ now.store) where
    before-row : (front : List (List Bool)) (row : List Bool) (more : List (List Bool)) → so_far.rest ≡ front ++ row ∷ more → IsBeforeRow w (flat_map row_line (so_far.put ++ front)) (row_line row)
    before-row front row more split =
        let these : rows ≡ (so_far.put ++ front) ++ row ∷ more = so_far.split ∙ (ap (λ t. so_far.put ++ t) split ∙ sym (append_assoc so_far.put front (row ∷ more))) in
        let all : rows ++ unwritten ≡ (so_far.put ++ front) ++ row ∷ (more ++ unwritten) = ap (λ t. t ++ unwritten) these ∙ append_assoc (so_far.put ++ front) (row ∷ more) unwritten in
        let from : length so_far.put ≤ length (so_far.put ++ front) = rw (length-append so_far.put) (omega arith) in
        let within : length (so_far.put ++ front) < length rows = rw (these, length-append (so_far.put ++ front)) (omega arith) in
        let to : length (so_far.put ++ front) < length vectors = omega (arith, within, so_far.few) in
        record {
          vectors = vs;
          rows = so_far.put ++ front;
          row = row;
          more = more ++ unwritten;
          text_is = refl;
          line_is = refl;
          first = first;
          are = subst (λ t. w.are vs t) all are;
          session = subst (λ t. w.session vs t ⊎ (w.differs vs t ⊎ w.lost)) all session;
          near = at-the-end (λ (s : StoreState). IsNearNext w.width w.told s.current (length (so_far.put ++ front)))
              (subst (λ (s : StoreState). IsNearNext w.width w.told s.current (length (so_far.put ++ front))) (sym still) (rw told (so_far.near (length (so_far.put ++ front)) from to)));
          prompt = at-the-end (λ (s : StoreState). NoRowWaits w.width w.told s.read_at (length (so_far.put ++ front)))
              (subst (λ (s : StoreState). NoRowWaits w.width w.told s.read_at (length (so_far.put ++ front))) (sym still) (rw told (waits-fewer w.width (file_of begun.store) now.store.read_at (length so_far.put) (length (so_far.put ++ front)) from so_far.prompt)));
        }

    -- a prefix of the lines that wait, as a line that is cut behind whole ones
    cut-text : (n : ℕ) (c : IsCutAt so_far.rest n) → flat_map row_line so_far.put ++ take n waiting ≡ flat_map row_line (so_far.put ++ c.front) ++ take c.part (row_line c.row)
    cut-text n c =
        ap (λ t. flat_map row_line so_far.put ++ take n t) so_far.waits ∙ (ap (λ t. flat_map row_line so_far.put ++ t) c.cut
        ∙ (sym (append_assoc (flat_map row_line so_far.put) (flat_map row_line c.front) (take c.part (row_line c.row)))
        ∙ ap (λ t. t ++ take c.part (row_line c.row)) (sym (flat_map-append row_line so_far.put c.front))))

    held-wrote : (fail : SinkFail) → 0 < length waiting → PutFails fail waiting now.sink new.sink → StopWrote (all_rows w) (Sink fail) begun.sink new.sink
    held-wrote Failed some fails =
        let c = cut-of so_far.rest fails.1.0 (subst (λ t. 0 < length t) so_far.waits some) in (
          flat_map row_line (so_far.put ++ c.front),
          row_line c.row,
          c.part,
          before-row c.front c.row c.more c.split,
          subst (λ t. Wrote begun.sink.written new.sink.written t) (cut-text fails.1.0 c) (Wrote-then _ _ _ _ _ so_far.wrote fails.1.1),
        )
    held-wrote Memory some fails =
        let f = first-of so_far.rest (subst (λ t. 0 < length t) so_far.waits some) in
        let at = before-row [] f.0 f.1 f.2 in
        (flat_map row_line so_far.put, row_line f.0, rw (append-nil so_far.put) at at, rw fails.1 so_far.wrote)

    pub held-follows : {U : Type 0} (stop : Stop) → IsHeldUp stop waiting now.store new.store now.sink new.sink → Follows {T = U} ⊥ [] asks (all_rows w) (Err stop) begun new
    held-follows (Refused refusal) held = absurd held.stops
    held-follows (Sink Failed) held = rows-follow (Err (Sink Failed)) (held-wrote Failed held.some held.stops) held.stops.0
    held-follows (Sink Memory) held = rows-follow (Err (Sink Memory)) (held-wrote Memory held.some held.stops) held.stops.0
