-- How the rows of an image go on, and how they stop.
use Rattle.std.proofs.Common.{◌≡◌, ◌⊎◌, ℕ, zero, suc, ◌+◌, ◌-◌, ◌<◌, ◌≤◌, Bool, false, List, [], ◌∷◌, ◌++◌, length, map, take, drop, flat_map, Some, arith, refl, sym, ap, subst, inl, inr, ◌∙◌, append-nil, append_assoc, length-append, option_map, OnOk, IfErr, Result, Ok, Err}
use Rattle.std.specs.List.{All, AllByRecursion}
use Rattle.std.proofs.lemmas.List.{get_or_append_left, length-map, map-append, take-append-drop, take-map, length-take-le}
use Rattle.run_image.proofs.Vocabulary.{take-append_seam, All-append, SinkState, StoreState, Told, Rose, Pins, Faults, Configuration, IsRun}
use Rattle.run_image.proofs.Vocabulary.{pins_of, RigState, Exchange, Narrows, Tells, width_of, cycles_of, readings_of, spare_of, ImageValue}
use Rattle.run_image.proofs.Vocabulary.{drive_of, image_row, most_together, rows_in, pins_in, RunsRows, VectorReading, row_line, Refusal}
use Rattle.run_image.proofs.Vocabulary.{Stop, later-same, share, times, repeated, all_repeated, IsApart, Copies, One, Two, most_rows}
use Rattle.run_image.proofs.Vocabulary.{copied_rows, AreRunRows, AreRowsOf, IsSession, DiffersBehind, Running}
use Rattle.run_image.proofs.BatchLemmas.{rows-fit, rows-wide}
use Rattle.run_image.proofs.Copied.{repeated-both, repeated-cons, repeated-map, repeated-count, repeated-none, AllShared, all_alike, first_apart, all-shared}
use Rattle.run_image.proofs.CycleLemmas.{together-within, few-together}
use Rattle.run_image.proofs.Driving.{HasDriven, driven-start, driven-all, run-less, explained-run}
use Rattle.design_vectors.specs.declared.vectors.VectorsFail.{VectorsFail, TheVariants.Text, TheVariants.Failed}
use Rattle.cmd_steps.specs.Vocabulary.{file_of, AreFirst, IsBegun, IsNearEnd, IsNearNext, NoRowWaits, EndsFile, IsNotRead, IsPutOut, IsHeldUp, NextOf, NextStops, RowsAt, StaysOpen, Outside, outside, IsLater, RowWork, all_rows, HasRows, refuses, IsCounted, stop_of_vectors, Follows}
use Rattle.cmd_steps.specs.declared.refusal.Refusal.TheVariants as refused
use Rattle.cmd_steps.specs.declared.refusal.Stop.TheVariants.{Refused, Sink}
use Rattle.cmd_steps.proofs.Prompt.{waits-fewer, prompt-now}
use Rattle.cmd_steps.proofs.VectorLemmas.{taken-first, taken-all, taken-near-end, near-end-of}
use Rattle.cmd_steps.proofs.WrittenRows.{AreWritten, none-written, row-later, put-few, put-out, after-put, read-after, was-read, all-written, added, not-added, some-lines, stays-same, takes-more, rig-moved, waits-more, first-of-taken, has-rows, rows-follow, vectors-follow, end-follows, held-follows}
use Rattle.run_image.specs.Running.{IsFitting, IsLoaded, IsSameBut, IsSameRun, ReadsOn, BatchGives, HasBatch, DrivesTo, HasOrFailed, DriveStops, HasAddedAll, AddStops, AddsStop, MakesStop, EndsSent, together_of, at_rows}

-- the vector has a bit for each input pin
abbrev pub HasWidth : ImageValue → List Bool → Type 0
HasWidth image vector = length vector ≡ length image.inputs

no-widths : (image : ImageValue) → All (HasWidth image) []
no-widths image k e lt = absurd (let no : ⊥ = omega (arith, lt) in no)

-- the rows so far
pub record IsDriving (copies : Copies) (image : ImageValue) (begun : Outside) (rows : Running) (now : Outside) : Type 0 where
  pub image_is : rows.image ≡ image
  pub copies_is : rows.copies ≡ copies
  pub fits : IsFitting rows
  pub vectors : List (List Bool)
  pub done : List (List Bool)
  pub count : length done ≡ length vectors
  pub written : AreWritten (share copies (length image.inputs)) begun rows.vectors rows.block.text now vectors done
  pub widths : All (HasWidth image) (all_repeated copies vectors)
  pub machine : now.rig.machine ≡ begun.rig.machine
  pub loads : now.rig.loads ≡ begun.rig.loads
  pub left : rows.left ≡ most_rows - length done
  pub driven : HasDriven most_rows image (all_repeated copies vectors) (all_repeated copies done) now.rig

-- ---- what a session has read

-- the rows of a session are those of the machine, also where it has ended since: what explains the log then explained it before
session-rows : (rig rig' : RigState) (i : ImageValue) (vectors rows : List (List Bool)) → Narrows rig rig' → length rows ≡ length vectors → All (HasWidth i) vectors → HasDriven most_rows i vectors rows rig → AreRowsOf rig' i vectors rows
session-rows rig rig' i vectors rows narrows count widths is = record {
  count = count;
  widths = widths;
  read = λ f e. (readings_of (cycles_of rig), explained-run rig i vectors is.config is.drives f (narrows f e), is.rows_are);
}

all-front : (P : List Bool → Type 0) (xs ys : List (List Bool)) → All P (xs ++ ys) → All P xs
all-front P xs ys all i d l = subst P (get_or_append_left xs ys d i l) (all i d (omega (arith, length-append xs ys)))

-- the rows of the first of the cycles that a machine has made
front-run : (f : Faults) (i : ImageValue) (readings : List Pins) (vectors more rows behind : List (List Bool)) → IsRun f i.config (map (drive_of i) (vectors ++ more)) readings → length readings ≡ length (vectors ++ more) → rows ++ behind ≡ map (image_row i) readings → length rows ≡ length vectors → AreRunRows f i vectors rows
front-run f i readings vectors more rows behind run all_read rows_are count =
    let reads : List Pins = take (length vectors) readings in
    let later : List Pins = drop (length vectors) readings in
    let both : readings ≡ reads ++ later = sym (take-append-drop (length vectors) readings) in
    let driven : length (map (drive_of i) vectors) ≡ length vectors = length-map vectors (drive_of i) in
    let parts = length-append vectors more in
    let size : length reads ≡ length vectors = length-take-le (length vectors) readings (omega (arith, all_read, parts)) in
    let whole : IsRun f i.config (map (drive_of i) vectors ++ map (drive_of i) more) (reads ++ later) =
    subst (λ (ds : List Pins). IsRun f i.config ds (reads ++ later)) (map-append (drive_of i) vectors more) (subst (λ (rs : List Pins). IsRun f i.config (map (drive_of i) (vectors ++ more)) rs) both run) in
    let rows_of : rows ≡ map (image_row i) reads =
    sym (take-append_seam rows behind) ∙ (ap (take (length rows)) rows_are ∙ (ap (λ (k : ℕ). take k (map (image_row i) readings)) count ∙ take-map (image_row i) (length vectors) readings)) in
    (reads, run-less f i.config (map (drive_of i) vectors) (map (drive_of i) more) reads later (driven ∙ sym size) whole, rows_of)

-- a cycle was made for each vector that was driven
cycles-driven : (cycles : List Exchange) (i : ImageValue) (vectors : List (List Bool)) → map (λ (x : Exchange). x.drive) cycles ≡ map (drive_of i) vectors → length (readings_of cycles) ≡ length vectors
cycles-driven cycles i vectors drives =
    length-map cycles (λ (x : Exchange). x.reading) ∙ (sym (length-map cycles (λ (x : Exchange). x.drive)) ∙ (ap length drives ∙ length-map vectors (drive_of i)))

front-rows-of : (rig : RigState) (i : ImageValue) (vectors more rows behind : List (List Bool)) → length rows ≡ length vectors → All (HasWidth i) (vectors ++ more) → HasDriven most_rows i (vectors ++ more) (rows ++ behind) rig → AreRowsOf rig i vectors rows
front-rows-of rig i vectors more rows behind count widths is = record {
  count = count;
  widths = all-front (HasWidth i) vectors more widths;
  read = λ f e. front-run f i (readings_of (cycles_of rig)) vectors more rows behind (explained-run rig i (vectors ++ more) is.config is.drives f e)
      (cycles-driven (cycles_of rig) i (vectors ++ more) is.drives) is.rows_are count;
}

-- a session that is still open
pub session-is : (rig rig' : RigState) (i : ImageValue) (vectors rows : List (List Bool)) → rig'.session ≡ rig.session → HasDriven most_rows i vectors rows rig → IsSession rig' i vectors rows
session-is rig rig' i vectors rows same is = record {
  config = rw same is.config;
  drives = rw same is.drives;
  rows_are = rw same is.rows_are;
  room = rw same is.left;
}

-- as many rows as vectors, also where both are repeated
counts-are : (c : Copies) (vectors rows : List (List Bool)) → length rows ≡ length vectors → length (all_repeated c rows) ≡ length (all_repeated c vectors)
counts-are c vectors rows count = repeated-count c rows ∙ (count ∙ sym (repeated-count c vectors))

-- copies that read differently are two
apart-at : (c : Copies) (told : Told) (image : ImageValue) (rig : RigState) (vectors rows : List (List Bool)) (vector reading : List Bool) (behind read_behind : List (List Bool)) → AreFirst (share c (length image.inputs)) told (vectors ++ vector ∷ behind)
    → All (HasWidth image) (all_repeated c (vectors ++ vector ∷ behind)) → IsSession rig image (all_repeated c (vectors ++ vector ∷ behind)) (all_repeated c rows ++ reading ∷ read_behind) → IsApart c reading → DiffersBehind c told image rig vectors rows
apart-at One told image rig vectors rows vector reading behind read_behind next widths session apart = absurd apart
apart-at Two told image rig vectors rows vector reading behind read_behind next widths session apart =
    record { vector = vector; reading = reading; behind = behind; read_behind = read_behind; next = next; widths = widths; session = session; halves = apart }

-- ---- batches

-- some vectors were read
pub batch-of : (count : ℕ) (rows : Running) (from to : RowsAt) → (count ≡ 0 → ⊥) → BatchGives count rows from to → HasBatch count rows from to
batch-of count rows from to some (inl h) = absurd (some h.0)
batch-of count rows from to some (inr batch) = batch

-- or none, at the end of the file
pub end-of : (count : ℕ) (rows : Running) (from to : RowsAt) → count ≡ 0 → BatchGives count rows from to → NextOf false [] from to
end-of count rows from to none (inl h) = h.1
end-of count rows from to none (inr batch) = absurd (let size = batch.size in let never : ⊥ = omega (arith, size, none) in never)

-- ---- lists

all-by : {X : Type 0} (P : X → Type 0) (xs : List X) → AllByRecursion P xs → All P xs
all-by P [] h k e lt = absurd (let no : ⊥ = omega (arith, lt) in no)
all-by P (x ∷ xs) h zero e lt = h.0
all-by P (x ∷ xs) h (suc k) e lt = all-by P xs h.1 k e (omega (arith, lt))

-- a list behind so many of its elements
pub record IsCut (n : ℕ) (xs : List (List Bool)) : Type 0 where
  pub front : List (List Bool)
  pub next : List Bool
  pub rest : List (List Bool)
  pub split : xs ≡ front ++ next ∷ rest
  pub size : length front ≡ n

cut-at : (n : ℕ) (xs : List (List Bool)) → n < length xs → IsCut n xs
cut-at n [] lt = absurd (let no : ⊥ = omega (arith, lt) in no)
cut-at zero (x ∷ xs) lt = record { front = []; next = x; rest = xs; split = refl; size = refl }
cut-at (suc n) (x ∷ xs) lt =
    let c = cut-at n xs (omega (arith, lt)) in
    record { front = x ∷ c.front; next = c.next; rest = c.rest; split = ap (λ (t : List (List Bool)). x ∷ t) c.split; size = (let size = c.size in omega (arith, size)) }

-- the bits that a machine reads at the output pins
wide-rows : (image : ImageValue) (readings : List Pins) → AllByRecursion (λ (r : List Bool). length r ≡ length image.outputs) (map (image_row image) readings)
wide-rows image [] = tt
wide-rows image (r ∷ rs) = (length-map image.outputs _, wide-rows image rs)

behind-wide : (P : List Bool → Type 0) (xs ys : List (List Bool)) → AllByRecursion P (xs ++ ys) → AllByRecursion P ys
behind-wide P [] ys h = h
behind-wide P (x ∷ xs) ys h = behind-wide P xs ys h.1

-- ---- vectors that are read together

-- those behind the first, for which the store isn't asked
takes-on : (width : ℕ) (begun o : Outside) (reading reading' : VectorReading) (waiting : List ℕ) (vectors rows vs : List (List Bool)) → AreWritten width begun reading waiting o vectors rows → ReadsOn vs reading reading' o.store → AreWritten width begun reading' waiting o (vectors ++ vs) rows
takes-on width begun o reading reading' waiting vectors rows [] so_far same =
    subst (λ (r : VectorReading). AreWritten width begun r waiting o (vectors ++ []) rows) (sym same)
    (subst (λ (vs : List (List Bool)). AreWritten width begun reading waiting o vs rows) (sym (append-nil vectors)) so_far)
takes-on width begun o reading reading' waiting vectors rows (vector ∷ vs) so_far read =
    let first = takes-more width begun o o reading read.0 waiting vectors rows vector so_far (later-same o) refl read.1 (inl refl) refl in
    subst (λ (all : List (List Bool)). AreWritten width begun reading' waiting o all rows) (append_assoc vectors (vector ∷ []) vs)
    (takes-on width begun o read.0 reading' waiting (vectors ++ vector ∷ []) rows vs first read.2)

-- ---- rows that are added

pub record AreAdded (c : Copies) (width : ℕ) (begun : Outside) (reading : VectorReading) (left : List ℕ) (now : Outside) (vectors done readings : List (List Bool)) : Type 0 where
  pub rows : List (List Bool)
  pub are : readings ≡ all_repeated c rows
  pub written : AreWritten width begun reading left now vectors (done ++ rows)

module _ (c : Copies) (width : ℕ) (begun : Outside) (reading : VectorReading) (store : StoreState) (rig : RigState) (vectors : List (List Bool)) where
  rows-added : (waiting left : List ℕ) (done readings : List (List Bool)) (old new : SinkState) → AreWritten width begun reading waiting (outside store rig old) vectors done → length done + length readings ≤ length vectors → HasAddedAll c readings waiting left old new → AreAdded c width begun reading left (outside store rig new) vectors done readings
  rows-added waiting left done [] old new so_far few same = record {
    rows = [];
    are = sym (repeated-none c);
    written = rw (same.0, same.1, append-nil done) so_far;
  }
  rows-added waiting left done (r ∷ rs) old new so_far few h =
      let row = h.2.0 in
      let waits = waits-more width begun (outside store rig old) reading waiting vectors done row so_far (omega (arith, few)) in
      let put = after-put width begun reading (waiting ++ row_line row) (outside store rig old) vectors (done ++ row ∷ []) waits h.0 h.1 (added (waiting ++ row_line row) h.0 old h.1 h.2.2) in
      let size : length (done ++ row ∷ []) ≡ length done + 1 = rw (length-append done) refl in
      let more = rows-added h.0 left (done ++ row ∷ []) rs h.1 new put (omega (arith, few, size)) h.3 in
      record {
        rows = row ∷ more.rows;
        are = ap (λ (b : List Bool). b ∷ rs) h.2.1 ∙ (ap (λ (t : List (List Bool)). repeated c row ∷ t) more.are ∙ sym (repeated-cons c row more.rows));
        written = subst (λ (t : List (List Bool)). AreWritten width begun reading left (outside store rig new) vectors t) (append_assoc done (row ∷ []) more.rows) more.written;
      }

-- ---- the loop

pub IsDriving-start : (rows : Running) (o : Outside) → IsLoaded rows o.rig → IsBegun o.store → IsDriving rows.copies rows.image o rows o
IsDriving-start rows o loaded begun = record {
  image_is = refl;
  copies_is = refl;
  fits = loaded.fits;
  vectors = [];
  done = [];
  count = refl;
  written = rw (loaded.vectors, loaded.none) (none-written (share rows.copies (length rows.image.inputs)) o begun);
  widths = subst (λ (vs : List (List Bool)). All (HasWidth rows.image) vs) (sym (repeated-none rows.copies)) (no-widths rows.image);
  machine = refl;
  loads = refl;
  left = loaded.left;
  driven = subst (λ (none : List (List Bool)). HasDriven most_rows rows.image none none o.rig) (sym (repeated-none rows.copies)) (driven-start most_rows rows.image o.rig loaded.begins);
}

module _ (copies : Copies) (image : ImageValue) (failures : ℕ) (begun : Outside) (few : failures ≤ begun.rig.failures) where
  abbrev width : ℕ
  width = share copies (length image.inputs)

  abbrev work : Outside → RowWork
  work new = copied_rows copies image (file_of begun.store) new.store failures new.rig

  abbrev SameRig : Outside → Type 0
  SameRig new = (new.rig.machine ≡ begun.rig.machine) × (new.rig.loads ≡ begun.rig.loads)

  abbrev Ends : {U : Type 0} → Result U Stop → Outside → Type 0
  Ends result new = Follows ⊥ [] (SameRig new) (all_rows (work new)) result begun new

  -- none of the rows is still to be written
  all-of : (P : List (List Bool) → Type 0) (rs : List (List Bool)) → P rs → P (rs ++ [])
  all-of P rs are = subst P (sym (append-nil rs)) are

  onward : (store store' : StoreState) (rig rig' : RigState) (from to : SinkState) → StaysOpen store store' → rig'.machine ≡ rig.machine → Narrows rig rig' → Tells rig rig' → rig.failures ≤ rig'.failures → to.can_lack ≡ from.can_lack → from.failures ≤ to.failures → IsLater (outside store rig from) (outside store' rig' to)
  onward store store' rig rig' from to stays machine narrows tells later kind sink_later = row-later store store' rig rig' from to stays machine narrows tells later kind sink_later

  -- rows of a session that a rig has had
  rows-of : (now new : RigState) (vs rs : List (List Bool)) → Narrows now new → length rs ≡ length vs → All (HasWidth image) (all_repeated copies vs) → HasDriven most_rows image (all_repeated copies vs) (all_repeated copies rs) now → AreRowsOf new image (all_repeated copies vs) (all_repeated copies rs)
  rows-of now new vs rs narrows count widths driven = session-rows now new image (all_repeated copies vs) (all_repeated copies rs) narrows (counts-are copies vs rs count) widths driven

  -- ---- at the beginning of a step

  module _ (rows : Running) (now : Outside) (so_far : IsDriving copies image begun rows now) where
    are-all : length so_far.vectors ≤ length so_far.done
    are-all = omega (arith, so_far.count)

    first-of-file : AreFirst width (file_of begun.store) so_far.vectors
    first-of-file = taken-first width begun.store now.store rows.vectors so_far.vectors so_far.written.taking

    are-rows : (rig : RigState) → Narrows now.rig rig → AreRowsOf rig image (all_repeated copies so_far.vectors) (all_repeated copies so_far.done)
    are-rows rig narrows = rows-of now.rig rig so_far.vectors so_far.done narrows so_far.count so_far.widths so_far.driven

    session-still : (rig : RigState) → rig.session ≡ now.rig.session → IsSession rig image (all_repeated copies so_far.vectors) (all_repeated copies so_far.done)
    session-still rig same = session-is now.rig rig image (all_repeated copies so_far.vectors) (all_repeated copies so_far.done) same so_far.driven

    same-rig : SameRig now
    same-rig = (so_far.machine, so_far.loads)

    -- ---- no further vector is read

    module _ (store : StoreState) (sink : SinkState) (stays : StaysOpen now.store store) where
      abbrev end : Outside
      end = outside store now.rig sink

      later-of : (from : SinkState) → sink.can_lack ≡ from.can_lack → from.failures ≤ sink.failures → IsLater (outside now.store now.rig from) end
      later-of from kind later = onward now.store store now.rig now.rig from sink stays refl (λ f e. e) (λ t. t) (omega arith) kind later

      abbrev put_now : Outside
      put_now = outside now.store now.rig sink

      -- the rows that wait are put out
      module _ (left : List ℕ) (out : IsPutOut rows.block.text left now.sink sink) where
        all-put : AreWritten width begun rows.vectors left put_now so_far.vectors so_far.done
        all-put = put-out width begun rows.vectors rows.block.text now so_far.vectors so_far.done so_far.written left sink out

        later-put : IsLater put_now end
        later-put = later-of sink refl (omega arith)

        put-fails : {U : Type 0} (fail : VectorsFail) → IsNotRead fail rows.vectors now.store store → Ends {U = U} (Err (stop_of_vectors fail)) end
        put-fails fail not =
            vectors-follow (work end) begun put_now end rows.vectors left so_far.vectors so_far.done all-put later-put stays.asked refl refl (SameRig end) same-rig
            (are-rows now.rig (λ f e. e)) (session-still now.rig refl) are-all out.empty refl not.asked fail not.fails

      pub read-stops : {U : Type 0} (stop : Stop) (rows' : Running) → NextStops stop (at_rows rows now.store now.sink) (at_rows rows' store sink) → Ends {U = U} (Err stop) end
      read-stops (Sink fail) rows' held =
          held-follows (work end) begun now end rows.vectors rows.block.text so_far.vectors so_far.done so_far.written (later-of now.sink held.kind held.later) stays.asked refl refl (SameRig end) same-rig
          so_far.vectors [] first-of-file (all-of ((work end).are so_far.vectors) so_far.done (are-rows now.rig (λ f e. e)))
          (all-of (λ rs. (work end).session so_far.vectors rs ⊎ ((work end).differs so_far.vectors rs ⊎ (work end).lost)) so_far.done (inl (session-still now.rig refl))) held.still (Sink fail) held
      read-stops (Refused (refused.Vectors line kind)) rows' stops = put-fails rows'.block.text stops.1 (Text line kind) stops.0
      read-stops (Refused refused.Store) rows' stops = put-fails rows'.block.text stops.1 Failed stops.0
      read-stops (Refused refusal) rows' stops = absurd stops

      -- ---- the file has ended

      module _ (left : List ℕ) (reading : VectorReading) (ends : EndsFile rows.vectors reading now.store store) (out : IsPutOut rows.block.text left now.sink sink) (rig : RigState) (machine : rig.machine ≡ now.rig.machine) (loads : rig.loads ≡ now.rig.loads) (narrows : Narrows now.rig rig) (tells : Tells now.rig rig) (later : now.rig.failures ≤ rig.failures) where
        abbrev last : Outside
        last = outside store rig sink

        later-last : IsLater put_now last
        later-last = onward now.store store now.rig rig sink sink stays machine narrows tells later refl (omega arith)

        same-last : SameRig last
        same-last = (machine ∙ so_far.machine, loads ∙ so_far.loads)

        session-sent : EndsSent rows now.rig rig → IsSession rig image (all_repeated copies so_far.vectors) (all_repeated copies so_far.done)
        session-sent (inl same) = session-still rig (ap (λ (r : RigState). r.session) same)
        session-sent (inr run) =
            let one : RunsRows (pins_in image) now.rig rig [] [] = rw so_far.image_is at run in
            let more = driven-all most_rows image (all_repeated copies so_far.vectors) (all_repeated copies so_far.done) [] [] now.rig rig so_far.driven one in
            session-is rig rig image (all_repeated copies so_far.vectors) (all_repeated copies so_far.done) refl
            (rw (append-nil (all_repeated copies so_far.vectors), append-nil (all_repeated copies so_far.done)) at more)

        pub file-ends : {U : Type 0} (x : U) → EndsSent rows now.rig rig → Ends (Ok x) last
        file-ends x sent =
            end-follows (work last) begun put_now last rows.vectors left so_far.vectors so_far.done (all-put left out) later-last stays.asked refl refl (SameRig last) same-last
            (are-rows rig narrows) (session-sent sent) are-all out.empty refl ends.asked x reading [] ends.next

        pub sending-stops : {U : Type 0} → Rose now.rig.failures rig.failures → Ends {U = U} (Err (Refused refused.Rig)) last
        sending-stops rose =
            let put = all-put left out in
            let few_put = put-few width begun rows.vectors left put_now so_far.vectors so_far.done put in
            let prompt = prompt-now width begun.store now.store store rows.vectors so_far.vectors (length put.put) (length so_far.done) put.taking ends.asked put.prompt few_put are-all in
            let all = taken-all width begun.store now.store store rows.vectors reading [] so_far.vectors so_far.written.taking ends.next in
            let near : IsNearEnd width (file_of begun.store) store.current (length so_far.done) =
            subst (λ (n : ℕ). IsNearEnd width (file_of begun.store) store.current n) (sym so_far.count) (taken-near-end width begun.store now.store store rows.vectors reading so_far.vectors so_far.written.taking all ends.moves) in
            let wrote = all-written width begun rows.vectors left put_now so_far.vectors so_far.done (all-put left out) out.empty in
            rows-follow (work last) begun put_now last rows.vectors left so_far.vectors so_far.done (all-put left out) later-last stays.asked refl refl (SameRig last) same-last
            (Err (Refused refused.Rig)) (flat_map row_line so_far.done, (has-rows (work last) begun put_now last rows.vectors left so_far.vectors so_far.done (all-put left out) later-last stays.asked refl refl (SameRig last) same-last so_far.vectors first-of-file (are-rows rig narrows) prompt, near), wrote) rose

        pub ends-so : {U : Type 0} (result : Result U Stop) (rows1 : Running) → IsSameRun rows rows1 → OnOk result (EndsSent rows1 now.rig rig) → IfErr result (λ stop. (stop ≡ Refused refused.Rig) × Rose now.rig.failures rig.failures) → Ends result last
        ends-so {U} (Ok x) rows1 same sent stops = file-ends x (subst (λ (i : ImageValue). (rig ≡ now.rig) ⊎ RunsRows (pins_in i) now.rig rig [] []) same.image sent)
        ends-so {U} (Err stop) rows1 same sent stops = subst (λ (s : Stop). Ends {U = U} (Err s) last) (sym stops.0) (sending-stops stops.1)

    pub pins-are : (rows1 : Running) → IsSameRun rows rows1 → width_of now.rig ≡ Some (pins_of rows1.image.config.shape)
    pins-are rows1 same =
        ap (option_map (λ (g : Configuration). pins_of g.shape)) so_far.driven.config
        ∙ ap (λ (i : ImageValue). Some (pins_of i.config.shape)) (sym (same.image ∙ so_far.image_is))

    -- ---- vectors are read together

    module _ (rows1 : Running) (store : StoreState) (sink : SinkState) (stays : StaysOpen now.store store) (same : IsSameRun rows rows1) (fits1 : IsFitting rows1) (count : ℕ) (within : count ≤ together_of rows.left) (batch : HasBatch count rows1 (at_rows rows now.store now.sink) (at_rows rows1 store sink)) where
      abbrev vs : List (List Bool)
      vs = batch.vector ∷ batch.more

      abbrev read_now : Outside
      read_now = outside store now.rig sink

      image-is : rows1.image ≡ image
      image-is = same.image ∙ so_far.image_is

      copies-is : rows1.copies ≡ copies
      copies-is = same.copies ∙ so_far.copies_is

      size-vs : length vs ≡ count
      size-vs = (let size = batch.size in omega (arith, size))

      some : 0 < count
      some = (let size = batch.size in omega (arith, size))

      size-taken : length (so_far.vectors ++ vs) ≡ length so_far.done + count
      size-taken = (let all = length-append so_far.vectors vs in let size = size-vs in omega (arith, all, size, so_far.count))

      -- the rows before them, and whether the store was asked for the first
      before : AreWritten width begun rows.vectors rows1.block.text (outside now.store now.rig sink) so_far.vectors so_far.done
      before = read-after width begun rows.vectors rows.block.text now so_far.vectors so_far.done so_far.written rows1.block.text store sink batch.after

      took-first : AreWritten width begun batch.mid rows1.block.text read_now (so_far.vectors ++ batch.vector ∷ []) so_far.done
      took-first =
          takes-more width begun (outside now.store now.rig sink) read_now rows.vectors batch.mid rows1.block.text so_far.vectors so_far.done batch.vector before
          (onward now.store store now.rig now.rig sink sink stays refl (λ f e. e) (λ t. t) (omega arith) refl (omega arith)) stays.asked batch.first
          (was-read rows.block.text rows1.block.text now.store store now.sink sink so_far.vectors so_far.done are-all batch.after) refl

      took-all : AreWritten width begun rows1.vectors rows1.block.text read_now (so_far.vectors ++ vs) so_far.done
      took-all =
          subst (λ (all : List (List Bool)). AreWritten width begun rows1.vectors rows1.block.text read_now all so_far.done) (append_assoc so_far.vectors (batch.vector ∷ []) batch.more)
          (takes-on width begun read_now batch.mid rows1.vectors rows1.block.text (so_far.vectors ++ batch.vector ∷ []) so_far.done batch.more took-first batch.later)

      all-first : AreFirst width (file_of begun.store) (so_far.vectors ++ vs)
      all-first = taken-first width begun.store store rows1.vectors (so_far.vectors ++ vs) took-all.taking

      -- what is driven
      drives-are : rows_in count (length rows1.image.inputs) rows1.drives.items ≡ all_repeated copies vs
      drives-are =
          ap (λ (n : ℕ). rows_in n (length rows1.image.inputs) rows1.drives.items) (sym size-vs)
          ∙ (batch.kept ∙ (repeated-map rows1.copies vs ∙ ap (λ (c : Copies). all_repeated c vs) copies-is))

      together : count ≤ most_together
      together = few-together rows.left count within

      wide-vs : AllByRecursion (HasWidth image) (all_repeated copies vs)
      wide-vs =
          let fits = rows-fit count most_together (length rows1.image.inputs) (length rows1.drives.items) together fits1.drives in
          let wide = rows-wide count (length rows1.image.inputs) rows1.drives.items fits in
          subst (λ (i : ImageValue). AllByRecursion (HasWidth i) (all_repeated copies vs)) image-is (subst (λ (ds : List (List Bool)). AllByRecursion (HasWidth rows1.image) ds) drives-are wide)

      all-wide : All (HasWidth image) (all_repeated copies (so_far.vectors ++ vs))
      all-wide =
          subst (λ (ds : List (List Bool)). All (HasWidth image) ds) (sym (repeated-both copies so_far.vectors vs))
          (All-append (HasWidth image) (all_repeated copies so_far.vectors) (all_repeated copies vs) so_far.widths (all-by (HasWidth image) (all_repeated copies vs) wide-vs))

      -- ---- the rig goes on, or fails

      module _ (rig : RigState) (machine : rig.machine ≡ now.rig.machine) (loads : rig.loads ≡ now.rig.loads) (narrows : Narrows now.rig rig) (tells : Tells now.rig rig) (later : now.rig.failures ≤ rig.failures) where
        module _ (last : SinkState) where
          abbrev new : Outside
          new = outside store rig last

          same-new : SameRig new
          same-new = (machine ∙ so_far.machine, loads ∙ so_far.loads)

          on-rig : (from : SinkState) → last.can_lack ≡ from.can_lack → from.failures ≤ last.failures → IsLater (outside store now.rig from) new
          on-rig from kind sink_later = onward store store now.rig rig from last (stays-same store) machine narrows tells later kind sink_later

          -- it makes no cycles, and the rows that wait are put out
          module _ (left : List ℕ) (out : IsPutOut rows1.block.text left sink last) where
            undriven : AreWritten width begun rows1.vectors left (outside store now.rig last) (so_far.vectors ++ vs) so_far.done
            undriven = put-out width begun rows1.vectors rows1.block.text read_now (so_far.vectors ++ vs) so_far.done took-all left last out

            few-put : length undriven.put ≤ length so_far.done
            few-put = put-few width begun rows1.vectors left (outside store now.rig last) (so_far.vectors ++ vs) so_far.done undriven

            undriven-prompt : NoRowWaits width (file_of begun.store) store.read_at (length so_far.done)
            undriven-prompt = waits-fewer width (file_of begun.store) store.read_at (length undriven.put) (length so_far.done) few-put undriven.prompt

            undriven-near : IsNearNext width (file_of begun.store) store.current (length so_far.done)
            undriven-near = undriven.near (length so_far.done) few-put (let size = size-taken in let most = some in omega (arith, size, most))

            abbrev undriven-has : HasRows (work new) (flat_map row_line so_far.done)
            undriven-has =
                has-rows (work new) begun (outside store now.rig last) new rows1.vectors left (so_far.vectors ++ vs) so_far.done undriven (on-rig last refl (omega arith)) refl refl refl (SameRig new) same-new
                so_far.vectors first-of-file (are-rows rig narrows) undriven-prompt

            undriven-stops : {U : Type 0} (refusal : Refusal) → IsCounted ⊥ (Refused refusal) (outside store now.rig last) new → all_rows (work new) (flat_map row_line so_far.done) (refuses refusal) → Ends {U = U} (Err (Refused refusal)) new
            undriven-stops refusal counted at =
                let wrote = all-written width begun rows1.vectors left (outside store now.rig last) (so_far.vectors ++ vs) so_far.done undriven out.empty in
                rows-follow (work new) begun (outside store now.rig last) new rows1.vectors left (so_far.vectors ++ vs) so_far.done undriven (on-rig last refl (omega arith)) refl refl refl (SameRig new) same-new
                (Err (Refused refusal)) (flat_map row_line so_far.done, at, wrote) counted

          lost-now : Rose now.rig.failures rig.failures → Rose failures rig.failures
          lost-now rose = (let begun_later = so_far.written.later.rig in omega (arith, few, begun_later, rose))

          held-session : HasOrFailed now.rig rig → (work new).session so_far.vectors so_far.done ⊎ ((work new).differs so_far.vectors so_far.done ⊎ (work new).lost)
          held-session (inl still) = inl (session-still rig still)
          held-session (inr rose) = inr (inr (lost-now rose))

          room-lacks : spare_of now.rig < count → most_rows ≤ length so_far.done
          room-lacks less = by (together-within rows.left count within)
            where
              room : most_rows ≤ spare_of now.rig + length so_far.done
              room = (let left = so_far.driven.left in let size = repeated-count copies so_far.done in omega (arith, left, size))

              by : ((rows.left ≡ 0) × (count ≤ 1)) ⊎ (count ≤ rows.left) → most_rows ≤ length so_far.done
              by (inl none) = (let left = so_far.left in omega (arith, left, none.0))
              by (inr fits) = (let left = so_far.left in let at = room in omega (arith, left, at, fits, less))

          pub drive-stops : {U : Type 0} (stop : Stop) (left : List ℕ) → DriveStops stop count rows1.block.text left sink last now.rig rig → Ends {U = U} (Err stop) new
          drive-stops (Sink fail) left stops =
              let held = stops.0 store in
              held-follows (work new) begun read_now new rows1.vectors rows1.block.text (so_far.vectors ++ vs) so_far.done took-all (on-rig sink held.kind held.later) refl refl refl (SameRig new) same-new
              so_far.vectors [] first-of-file (all-of ((work new).are so_far.vectors) so_far.done (are-rows rig narrows))
              (all-of (λ rs. (work new).session so_far.vectors rs ⊎ ((work new).differs so_far.vectors rs ⊎ (work new).lost)) so_far.done (held-session stops.1)) refl (Sink fail) held
          drive-stops (Refused refused.Rig) left stops =
              undriven-stops left stops.0 refused.Rig stops.1.0 (undriven-has left stops.0, near-end-of width (file_of begun.store) store.current (length so_far.done) (undriven-near left stops.0))
          drive-stops (Refused refused.Memory) left stops =
              undriven-stops left stops.0 refused.Memory tt (record { has = undriven-has left stops.0; session = session-still rig stops.1.1 }, room-lacks stops.1.0, undriven-near left stops.0)
          drive-stops (Refused refusal) left stops = absurd stops

        -- ---- it has made their cycles

        module _ (readings : List (List Bool)) (drives : DrivesTo count rows1 readings now.rig rig) where
          run-is : RunsRows (pins_in image) now.rig rig (all_repeated copies vs) readings
          run-is = subst (λ (ds : List (List Bool)). RunsRows (pins_in image) now.rig rig ds readings) drives-are
              (subst (λ (i : ImageValue). RunsRows (pins_in i) now.rig rig (rows_in count (length rows1.image.inputs) rows1.drives.items) readings) image-is drives)

          driven-now : HasDriven most_rows image (all_repeated copies (so_far.vectors ++ vs)) (all_repeated copies so_far.done ++ readings) rig
          driven-now = subst (λ (ds : List (List Bool)). HasDriven most_rows image ds (all_repeated copies so_far.done ++ readings) rig) (sym (repeated-both copies so_far.vectors vs))
              (driven-all most_rows image (all_repeated copies so_far.vectors) (all_repeated copies so_far.done) (all_repeated copies vs) readings now.rig rig so_far.driven run-is)

          size-readings : length readings ≡ count
          size-readings =
              let made : length readings ≡ length run-is.0 = ap length run-is.2 ∙ length-map run-is.0 (image_row image) in
              let goes = run-is.1 in
              let read : length run-is.0 ≡ length goes.more = ap length (sym goes.read) ∙ length-map goes.more (λ (x : Exchange). x.reading) in
              let driven : length goes.more ≡ length (all_repeated copies vs) = sym (length-map goes.more (λ (x : Exchange). x.drive)) ∙ (ap length goes.driven ∙ length-map (all_repeated copies vs) (drive_of image)) in
              made ∙ (read ∙ (driven ∙ (repeated-count copies vs ∙ size-vs)))

          wide-readings : AllByRecursion (λ (r : List Bool). length r ≡ length image.outputs) readings
          wide-readings = subst (λ (rs : List (List Bool)). AllByRecursion (λ (r : List Bool). length r ≡ length image.outputs) rs) (sym run-is.2) (wide-rows image run-is.0)

          driven-rows : AreWritten width begun rows1.vectors rows1.block.text (outside store rig sink) (so_far.vectors ++ vs) so_far.done
          driven-rows = rig-moved width begun read_now rows1.vectors rows1.block.text (so_far.vectors ++ vs) so_far.done rig took-all (onward store store now.rig rig sink sink (stays-same store) machine narrows tells later refl (omega arith))

          few-readings : length so_far.done + length readings ≤ length (so_far.vectors ++ vs)
          few-readings = (let size = size-taken in let count_is = size-readings in omega (arith, size, count_is))

          -- all rows wait, or were written
          pub IsDriving-more : (rows2 : Running) (last : SinkState) → IsSameBut rows1 rows2 → rows2.vectors ≡ rows1.vectors → IsFitting rows2 → rows2.left ≡ rows1.left - count → HasAddedAll rows1.copies readings rows1.block.text rows2.block.text sink last → IsDriving copies image begun rows2 (outside store rig last)
          IsDriving-more rows2 last same2 vectors2 fits2 left2 adds =
              let here : HasAddedAll copies readings rows1.block.text rows2.block.text sink last = subst (λ (c : Copies). HasAddedAll c readings rows1.block.text rows2.block.text sink last) copies-is adds in
              let all = rows-added copies width begun rows1.vectors store rig (so_far.vectors ++ vs) rows1.block.text rows2.block.text so_far.done readings sink last driven-rows few-readings here in
              let made : length all.rows ≡ count = sym (repeated-count copies all.rows) ∙ (ap length (sym all.are) ∙ size-readings) in
              let size = length-append so_far.done all.rows in
              record {
                image_is = same2.image ∙ image-is;
                copies_is = same2.copies ∙ copies-is;
                fits = fits2;
                vectors = so_far.vectors ++ vs;
                done = so_far.done ++ all.rows;
                count = (let taken_size = size-taken in omega (arith, size, made, taken_size));
                written = subst (λ (r : VectorReading). AreWritten width begun r rows2.block.text (outside store rig last) (so_far.vectors ++ vs) (so_far.done ++ all.rows)) (sym vectors2) all.written;
                widths = all-wide;
                machine = machine ∙ so_far.machine;
                loads = loads ∙ so_far.loads;
                left = (let before_left = so_far.left in let same_left = same.left in omega (arith, left2, same_left, before_left, size, made));
                driven = subst (λ (rs : List (List Bool)). HasDriven most_rows image (all_repeated copies (so_far.vectors ++ vs)) rs rig)
                    (ap (λ (rs : List (List Bool)). all_repeated copies so_far.done ++ rs) all.are ∙ sym (repeated-both copies so_far.done all.rows)) driven-now;
              }

          -- ---- or a row isn't written

          made-within : (made : List (List Bool)) (reading : List Bool) (rest : List (List Bool)) → readings ≡ all_repeated copies made ++ reading ∷ rest → length made < length vs
          made-within made reading rest reads =
              let parts : length readings ≡ length (all_repeated copies made) + length (reading ∷ rest) = ap length reads ∙ length-append (all_repeated copies made) (reading ∷ rest) in
              let count_made = repeated-count copies made in
              let all = size-readings in
              let same_size = size-vs in
              omega (arith, parts, count_made, all, same_size)

          -- behind so many rows the session has a reading that differs from copy to copy
          differs-behind : (last : SinkState) (made : List (List Bool)) (reading : List Bool) (rest : List (List Bool)) → readings ≡ all_repeated copies made ++ reading ∷ rest → IsApart copies reading → (c : IsCut (length made) vs) → (work (outside store rig last)).differs (so_far.vectors ++ c.front) (so_far.done ++ made)
          differs-behind last made reading rest split apart c =
              let all : so_far.vectors ++ vs ≡ (so_far.vectors ++ c.front) ++ c.next ∷ c.rest = ap (λ (t : List (List Bool)). so_far.vectors ++ t) c.split ∙ sym (append_assoc so_far.vectors c.front (c.next ∷ c.rest)) in
              let rows_are : all_repeated copies so_far.done ++ readings ≡ all_repeated copies (so_far.done ++ made) ++ reading ∷ rest =
              ap (λ (t : List (List Bool)). all_repeated copies so_far.done ++ t) split ∙ (sym (append_assoc (all_repeated copies so_far.done) (all_repeated copies made) (reading ∷ rest))
              ∙ ap (λ (t : List (List Bool)). t ++ reading ∷ rest) (sym (repeated-both copies so_far.done made))) in
              let session = session-is rig rig image (all_repeated copies (so_far.vectors ++ vs)) (all_repeated copies so_far.done ++ readings) refl driven-now in
              apart-at copies (file_of begun.store) image rig (so_far.vectors ++ c.front) (so_far.done ++ made) c.next reading c.rest rest
              (subst (λ (t : List (List Bool)). AreFirst width (file_of begun.store) t) all all-first)
              (subst (λ (t : List (List Bool)). All (HasWidth image) (all_repeated copies t)) all all-wide)
              (subst (λ (rs : List (List Bool)). IsSession rig image (all_repeated copies ((so_far.vectors ++ c.front) ++ c.next ∷ c.rest)) rs) rows_are
              (subst (λ (t : List (List Bool)). IsSession rig image (all_repeated copies t) (all_repeated copies so_far.done ++ readings)) all session)) apart

          -- the rows of the first of them are the machine's
          front-rows : (front rest : List (List Bool)) → vs ≡ front ++ rest → (made more : List (List Bool)) → readings ≡ all_repeated copies made ++ more → length made ≡ length front → AreRowsOf rig image (all_repeated copies (so_far.vectors ++ front)) (all_repeated copies (so_far.done ++ made))
          front-rows front rest split made more reads size =
              let all : all_repeated copies (so_far.vectors ++ vs) ≡ all_repeated copies (so_far.vectors ++ front) ++ all_repeated copies rest =
              ap (λ (t : List (List Bool)). all_repeated copies (so_far.vectors ++ t)) split ∙ (ap (all_repeated copies) (sym (append_assoc so_far.vectors front rest)) ∙ repeated-both copies (so_far.vectors ++ front) rest) in
              let rows_are : all_repeated copies so_far.done ++ readings ≡ all_repeated copies (so_far.done ++ made) ++ more =
              ap (λ (t : List (List Bool)). all_repeated copies so_far.done ++ t) reads ∙ (sym (append_assoc (all_repeated copies so_far.done) (all_repeated copies made) more)
              ∙ ap (λ (t : List (List Bool)). t ++ more) (sym (repeated-both copies so_far.done made))) in
              let count_is : length (so_far.done ++ made) ≡ length (so_far.vectors ++ front) = rw (length-append so_far.done, length-append so_far.vectors, so_far.count, size) refl in
              front-rows-of rig image (all_repeated copies (so_far.vectors ++ front)) (all_repeated copies rest) (all_repeated copies (so_far.done ++ made)) more (counts-are copies (so_far.vectors ++ front) (so_far.done ++ made) count_is)
              (subst (λ (t : List (List Bool)). All (HasWidth image) t) all all-wide)
              (subst (λ (t : List (List Bool)). HasDriven most_rows image t (all_repeated copies (so_far.done ++ made) ++ more) rig) all
              (subst (λ (t : List (List Bool)). HasDriven most_rows image (all_repeated copies (so_far.vectors ++ vs)) t rig) rows_are driven-now))

          first-front : (front rest : List (List Bool)) → vs ≡ front ++ rest → AreFirst width (file_of begun.store) (so_far.vectors ++ front)
          first-front front rest split =
              first-of-taken width (file_of begun.store) (so_far.vectors ++ front) rest
              (subst (λ (t : List (List Bool)). AreFirst width (file_of begun.store) t) (ap (λ (t : List (List Bool)). so_far.vectors ++ t) split ∙ sym (append_assoc so_far.vectors front rest)) all-first)

          -- some rows wait, or were written, and those of the rest of the readings, as far as they are alike, don't yet
          module _ (last : SinkState) where
            abbrev now2 : Outside
            now2 = outside store rig last

            same-now2 : SameRig now2
            same-now2 = (machine ∙ so_far.machine, loads ∙ so_far.loads)

            later-sink : (from : SinkState) → last.can_lack ≡ from.can_lack → from.failures ≤ last.failures → IsLater (outside store rig from) now2
            later-sink from kind sink_later = row-later store store rig rig from last (stays-same store) refl (λ f e. e) (λ t. t) (omega arith) kind sink_later

            -- all readings are alike
            alike-held : {U : Type 0} (stop : Stop) (between : SinkState) (waiting : List ℕ) (done2 unwritten made : List (List Bool)) → AreWritten width begun rows1.vectors waiting (outside store rig between) (so_far.vectors ++ vs) done2
                → so_far.done ++ made ≡ done2 ++ unwritten → readings ≡ all_repeated copies made → IsHeldUp stop waiting store store between last → Ends {U = U} (Err stop) now2
            alike-held stop between waiting done2 unwritten made written all reads held =
                let size : length made ≡ length vs = sym (repeated-count copies made) ∙ (ap length (sym reads) ∙ (size-readings ∙ sym size-vs)) in
                let none : readings ≡ all_repeated copies made ++ [] = reads ∙ sym (append-nil (all_repeated copies made)) in
                let are = front-rows vs [] (sym (append-nil vs)) made [] none size in
                let rows_are : all_repeated copies so_far.done ++ readings ≡ all_repeated copies (so_far.done ++ made) =
                ap (λ (t : List (List Bool)). all_repeated copies so_far.done ++ t) reads ∙ sym (repeated-both copies so_far.done made) in
                let session = subst (λ (t : List (List Bool)). IsSession rig image (all_repeated copies (so_far.vectors ++ vs)) t) rows_are (session-is rig rig image (all_repeated copies (so_far.vectors ++ vs)) (all_repeated copies so_far.done ++ readings) refl driven-now) in
                held-follows (work now2) begun (outside store rig between) now2 rows1.vectors waiting (so_far.vectors ++ vs) done2 written (later-sink between held.kind held.later) refl refl refl (SameRig now2) same-now2
                (so_far.vectors ++ vs) unwritten all-first
                (subst (λ (t : List (List Bool)). AreRowsOf rig image (all_repeated copies (so_far.vectors ++ vs)) (all_repeated copies t)) all are)
                (inl (subst (λ (t : List (List Bool)). IsSession rig image (all_repeated copies (so_far.vectors ++ vs)) (all_repeated copies t)) all session)) refl stop held

            -- or there is one whose halves differ
            apart-held : {U : Type 0} (stop : Stop) (between : SinkState) (waiting : List ℕ) (done2 unwritten made : List (List Bool)) (reading : List Bool) (rest : List (List Bool)) → AreWritten width begun rows1.vectors waiting (outside store rig between) (so_far.vectors ++ vs) done2
                → so_far.done ++ made ≡ done2 ++ unwritten → readings ≡ all_repeated copies made ++ reading ∷ rest → IsApart copies reading → IsHeldUp stop waiting store store between last → Ends {U = U} (Err stop) now2
            apart-held stop between waiting done2 unwritten made reading rest written all reads apart held =
                let c = cut-at (length made) vs (made-within made reading rest reads) in
                let are = front-rows c.front (c.next ∷ c.rest) c.split made (reading ∷ rest) reads (sym c.size) in
                held-follows (work now2) begun (outside store rig between) now2 rows1.vectors waiting (so_far.vectors ++ vs) done2 written (later-sink between held.kind held.later) refl refl refl (SameRig now2) same-now2
                (so_far.vectors ++ c.front) unwritten (first-front c.front (c.next ∷ c.rest) c.split)
                (subst (λ (t : List (List Bool)). AreRowsOf rig image (all_repeated copies (so_far.vectors ++ c.front)) (all_repeated copies t)) all are)
                (inr (inl (subst (λ (t : List (List Bool)). (work now2).differs (so_far.vectors ++ c.front) t) all (differs-behind last made reading rest reads apart c)))) refl stop held

            -- the rows that wait are put out
            apart-put : {U : Type 0} (between : SinkState) (waiting left : List ℕ) (made : List (List Bool)) (reading : List Bool) (rest : List (List Bool)) → AreWritten width begun rows1.vectors waiting (outside store rig between) (so_far.vectors ++ vs) (so_far.done ++ made)
                → readings ≡ all_repeated copies made ++ reading ∷ rest → IsApart copies reading → IsPutOut waiting left between last → Ends {U = U} (Err (Refused refused.Differ)) now2
            apart-put between waiting left made reading rest written reads apart out =
                let c = cut-at (length made) vs (made-within made reading rest reads) in
                let are = front-rows c.front (c.next ∷ c.rest) c.split made (reading ∷ rest) reads (sym c.size) in
                let put = put-out width begun rows1.vectors waiting (outside store rig between) (so_far.vectors ++ vs) (so_far.done ++ made) written left last out in
                let few_put = put-few width begun rows1.vectors left now2 (so_far.vectors ++ vs) (so_far.done ++ made) put in
                let prompt = waits-fewer width (file_of begun.store) store.read_at (length put.put) (length (so_far.done ++ made)) few_put put.prompt in
                let size = length-append so_far.done made in
                let lt = made-within made reading rest reads in
                let taken_size = size-taken in
                let same_size = size-vs in
                let near = put.near (length (so_far.done ++ made)) few_put (omega (arith, size, lt, taken_size, same_size)) in
                let wrote = all-written width begun rows1.vectors left now2 (so_far.vectors ++ vs) (so_far.done ++ made) put out.empty in
                rows-follow (work now2) begun now2 now2 rows1.vectors left (so_far.vectors ++ vs) (so_far.done ++ made) put (later-same now2) refl refl refl (SameRig now2) same-now2
                (Err (Refused refused.Differ)) (flat_map row_line (so_far.done ++ made), (has-rows (work now2) begun now2 now2 rows1.vectors left (so_far.vectors ++ vs) (so_far.done ++ made) put (later-same now2) refl refl refl (SameRig now2) same-now2 (so_far.vectors ++ c.front) (first-front c.front (c.next ∷ c.rest) c.split) are prompt, differs-behind last made reading rest reads apart c, near), wrote) tt

            -- ---- so it is of the first of the readings that stops

            row-stops : {U : Type 0} (stop : Stop) (between : SinkState) (waiting left : List ℕ) (made : List (List Bool)) (reading : List Bool) (rest : List (List Bool)) → AreWritten width begun rows1.vectors waiting (outside store rig between) (so_far.vectors ++ vs) (so_far.done ++ made)
                → readings ≡ all_repeated copies made ++ reading ∷ rest → AddStops stop copies reading waiting left between last → Ends {U = U} (Err stop) now2
            row-stops {U} stop between waiting left made reading rest written reads (inr h) = by (all-shared copies (share copies (length image.outputs)) rest wide-rest)
              where
                row : List Bool
                row = h.0

                wide-rest : AllByRecursion (λ (r : List Bool). length r ≡ times copies (share copies (length image.outputs))) rest
                wide-rest =
                    let shares : times copies (share copies (length image.outputs)) ≡ length image.outputs = rw (so_far.image_is, so_far.copies_is) at so_far.fits.shares.outputs in
                    let all = subst (λ (rs : List (List Bool)). AllByRecursion (λ (r : List Bool). length r ≡ length image.outputs) rs) reads wide-readings in
                    let behind = behind-wide (λ (r : List Bool). length r ≡ length image.outputs) (all_repeated copies made) (reading ∷ rest) all in
                    subst (λ (n : ℕ). AllByRecursion (λ (r : List Bool). length r ≡ n) rest) (sym shares) behind.1

                lt : length (so_far.done ++ made) < length (so_far.vectors ++ vs)
                lt = (let size = length-append so_far.done made in let within_vs = made-within made reading rest reads in let taken_size = size-taken in let same_size = size-vs in omega (arith, size, within_vs, taken_size, same_size))

                with-it : AreWritten width begun rows1.vectors (waiting ++ row_line h.0) (outside store rig between) (so_far.vectors ++ vs) ((so_far.done ++ made) ++ h.0 ∷ [])
                with-it = waits-more width begun (outside store rig between) rows1.vectors waiting (so_far.vectors ++ vs) (so_far.done ++ made) h.0 written lt

                held : IsHeldUp stop (waiting ++ row_line h.0) store store between last
                held = not-added (waiting ++ row_line h.0) left stop store between last (some-lines waiting h.0) h.2

                regroup : (more : List (List Bool)) → so_far.done ++ (made ++ h.0 ∷ more) ≡ ((so_far.done ++ made) ++ h.0 ∷ []) ++ more
                regroup more = sym (append_assoc so_far.done made (h.0 ∷ more)) ∙ sym (append_assoc (so_far.done ++ made) (h.0 ∷ []) more)

                reads-on : (more tail : List (List Bool)) → rest ≡ all_repeated copies more ++ tail → readings ≡ all_repeated copies (made ++ h.0 ∷ more) ++ tail
                reads-on more tail is =
                    let behind : reading ∷ rest ≡ all_repeated copies (h.0 ∷ more) ++ tail =
                    ap (λ (b : List Bool). b ∷ rest) h.1 ∙ (ap (λ (t : List (List Bool)). repeated copies h.0 ∷ t) is ∙ ap (λ (t : List (List Bool)). t ++ tail) (sym (repeated-cons copies h.0 more))) in
                    reads ∙ (ap (λ (t : List (List Bool)). all_repeated copies made ++ t) behind ∙ (sym (append_assoc (all_repeated copies made) (all_repeated copies (h.0 ∷ more)) tail)
                    ∙ ap (λ (t : List (List Bool)). t ++ tail) (sym (repeated-both copies made (h.0 ∷ more)))))

                by : AllShared copies rest → Ends {U = U} (Err stop) now2
                by (all_alike more are) =
                    let plain : rest ≡ all_repeated copies more ++ [] = are ∙ sym (append-nil (all_repeated copies more)) in
                    alike-held stop between (waiting ++ row_line h.0) ((so_far.done ++ made) ++ h.0 ∷ []) more (made ++ h.0 ∷ more) with-it (regroup more)
                    (reads-on more [] plain ∙ append-nil (all_repeated copies (made ++ h.0 ∷ more))) held
                by (first_apart more other behind are is_apart) =
                    apart-held stop between (waiting ++ row_line h.0) ((so_far.done ++ made) ++ h.0 ∷ []) more (made ++ h.0 ∷ more) other behind with-it (regroup more)
                    (reads-on more (other ∷ behind) are) is_apart held
            row-stops {U} (Sink fail) between waiting left made reading rest written reads (inl stops) =
                apart-held (Sink fail) between waiting (so_far.done ++ made) [] made reading rest written (sym (append-nil (so_far.done ++ made))) reads stops.1 (stops.0 store)
            row-stops {U} (Refused refused.Differ) between waiting left made reading rest written reads (inl stops) =
                apart-put between waiting left made reading rest written reads stops.1 stops.0
            row-stops {U} (Refused refusal) between waiting left made reading rest written reads (inl stops) = absurd stops

            adds-stop : {U : Type 0} (stop : Stop) (left : List ℕ) → AddsStop stop rows1.copies readings rows1.block.text left sink last → Ends {U = U} (Err stop) now2
            adds-stop stop left stops =
                let here = subst (λ (c : Copies). AddsStop stop c readings rows1.block.text left sink last) copies-is stops in
                let parts : length readings ≡ length here.added + length (here.reading ∷ here.rest) = ap length here.split ∙ length-append here.added (here.reading ∷ here.rest) in
                let all_few = few-readings in
                let all = rows-added copies width begun rows1.vectors store rig (so_far.vectors ++ vs) rows1.block.text here.mid so_far.done here.added sink here.between driven-rows (omega (arith, all_few, parts)) here.adds in
                row-stops stop here.between here.mid left all.rows here.reading here.rest all.written
                (here.split ∙ ap (λ (t : List (List Bool)). t ++ here.reading ∷ here.rest) all.are) here.stops

        pub makes-stop : {U : Type 0} (stop : Stop) (left : List ℕ) (last : SinkState) → MakesStop stop count rows1 rows1.block.text left sink last now.rig rig → Ends {U = U} (Err stop) (outside store rig last)
        makes-stop stop left last (inl stops) = drive-stops last stop left stops
        makes-stop stop left last (inr stops) = adds-stop stops.0 stops.1 last stop left stops.2
