-- Vectors that are read together and driven, and the rows of what was read.
use Rattle.std.proofs.Common.{◌≡◌, ◌⊎◌, ◌∙◌, ◌≤◌, ◌<◌, ◌+◌, ◌-◌, ◌*◌, ◌==◌, ℕ, zero, suc, min, if◌then◌else◌, Bool, true, false, List, [], ◌∷◌, ◌++◌, map, take, drop, get_or, length, refl, sym, ap, subst, inl, inr, arith, length-append, Result, Err, Ok, OnOk, IfErr}
use Rattle.run_image.proofs.Vocabulary.{eqb-true, eqb-false, map-append, take_all, take_more, take-append-drop, at_drop_more, Rose}
use Rattle.run_image.proofs.Vocabulary.{SinkState, StoreState, RigState, CyclesFail, RigFail, Failed, Memory, VectorReading, GivesUnread}
use Rattle.run_image.proofs.Vocabulary.{row_line, Stop, most_together, rows_in, repeated, times, IsApart, Copies, Running, ImageValue}
use Rattle.cmd_steps.specs.Vocabulary.{most_vector_bytes, IsRead, IsReadAfter, IsPutOut, RowsAt, rows_at, stop_of_rig, Puts, WaitsOrPuts}
use Rattle.cmd_steps.specs.{NextVectors.WaitingRows, declared.refusal.Stop.TheVariants.Refused, declared.refusal.Stop.TheVariants.Sink}
use Rattle.cmd_steps.specs.declared.refusal.Refusal.TheVariants as refused
use Rattle.cmd_steps.proofs.WrittenRows.{held-up}
use Rattle.run_image.specs.Running.{IsFitting, IsSameRun, together_of, AreKept, ReadsOn, ReadsMore, HasBatch, BatchGives, HasOrFailed, DriveStops, CompareStops, HasAddedOne, HasAddedAll, AddStops, AddsStop, DrivesTo, MakesRows, MakesStop, readings_in, at_rows}
use Rattle.run_image.proofs.BatchLemmas.{rows-put, rows-count, row-fits, row-in}
use Rattle.run_image.proofs.Copied.{repeated-long}

-- ---- how many are driven together

-- how many are driven together is one, or within the room
pub together-within : (left count : ℕ) → count ≤ together_of left → ((left ≡ 0) × (count ≤ 1)) ⊎ (count ≤ left)
together-within left count le = by (left == 0) refl le
  where
    by : (none : Bool) → (left == 0) ≡ none → count ≤ (if none then 1 else min left most_together) → ((left ≡ 0) × (count ≤ 1)) ⊎ (count ≤ left)
    by true is few = inl (eqb-true left 0 is, few)
    by false is few = inr (omega (arith, few))

pub few-together : (left count : ℕ) → count ≤ together_of left → count ≤ most_together
few-together left count le = by (left == 0) le
  where
    by : (none : Bool) → count ≤ (if none then 1 else min left most_together) → count ≤ most_together
    by true few = omega (arith, few)
    by false few = omega (arith, few)

above-zero : (n : ℕ) → (n ≡ 0 → ⊥) → 0 < n
above-zero zero never = absurd (never refl)
above-zero (suc n) never = omega arith

pub some-together : (left : ℕ) → 0 < together_of left
some-together left = by (left == 0) refl
  where
    by : (none : Bool) → (left == 0) ≡ none → 0 < (if none then 1 else min left most_together)
    by true is = omega arith
    by false is = let some = above-zero left (eqb-false left 0 is) in omega (arith, some)

-- ---- vectors that are read on

-- one that the unread bytes end was read, whatever the store is
pub unread-read : (vector : List Bool) (old new : VectorReading) (store : StoreState) → GivesUnread vector old new → new.limit ≡ most_vector_bytes → IsRead vector old new store store
unread-read vector old new store gives limit = record {
  next = gives.gives store;
  moves = gives.moves store;
  asked = inl refl;
  unread = gives.unread;
  onward = gives.further.0;
  within = (let le = gives.further.1 in omega (arith, le, limit));
}

-- one more
pub reads-more : (vs : List (List Bool)) (vector : List Bool) (old mid new : VectorReading) (store : StoreState) → ReadsOn vs old mid store → IsRead vector mid new store store → ReadsOn (vs ++ vector ∷ []) old new store
reads-more [] vector old mid new store same read = (new, subst (λ (r : VectorReading). IsRead vector r new store store) same read, refl)
reads-more (v ∷ vs) vector old mid new store read more = (read.0, read.1, reads-more vs vector read.0 mid new store read.2 more)

-- what is driven for it is kept behind the others
pub kept-more : (c : Copies) (n w from : ℕ) (vs : List (List Bool)) (vector : List Bool) (old new : List Bool) → length vs ≡ n → from ≡ n * w → length (repeated c vector) ≡ w → from + w ≤ length old → length new ≡ length old
    → take (from + w) new ≡ take from old ++ repeated c vector → rows_in (length vs) w old ≡ map (repeated c) vs → rows_in (length (vs ++ vector ∷ [])) w new ≡ map (repeated c) (vs ++ vector ∷ [])
kept-more c n w from vs vector old new count is wide room same put kept =
    let size : length (vs ++ vector ∷ []) ≡ suc n = (let all = length-append vs (vector ∷ []) in omega (arith, all, count)) in
    let before : rows_in n w old ≡ map (repeated c) vs = ap (λ (k : ℕ). rows_in k w old) (sym count) ∙ kept in
    ap (λ (k : ℕ). rows_in k w new) size
    ∙ (rows-put n w from old new (repeated c vector) is wide room same put
    ∙ (ap (λ (rs : List (List Bool)). rs ++ repeated c vector ∷ []) before ∙ sym (map-append (repeated c) vs (vector ∷ []))))

-- what is kept is so for another state with the same bits
still-kept : (old new : Running) (vs : List (List Bool)) → new.image ≡ old.image → new.copies ≡ old.copies → rows_in (length vs) (length old.image.inputs) new.drives.items ≡ map (repeated old.copies) vs → AreKept new vs
still-kept old new vs image copies kept =
    subst (λ (c : Copies). rows_in (length vs) (length new.image.inputs) new.drives.items ≡ map (repeated c) vs) (sym copies)
    (subst (λ (i : ImageValue). rows_in (length vs) (length i.inputs) new.drives.items ≡ map (repeated old.copies) vs) (sym image) kept)

same-kept : (old new : Running) (vs : List (List Bool)) → IsSameRun old new → new.drives.items ≡ old.drives.items → AreKept old vs → AreKept new vs
same-kept old new vs same drives kept =
    still-kept old new vs same.image same.copies (subst (λ (bits : List Bool). rows_in (length vs) (length old.image.inputs) bits ≡ map (repeated old.copies) vs) (sym drives) kept)

-- one more vector was read on, and kept
pub reads-on : (k end to : ℕ) (rows0 rows1 mid rows2 : Running) → IsSameRun rows1 mid → IsSameRun mid rows2 → IsFitting mid → IsFitting rows2 → mid.drives.items ≡ rows1.drives.items → rows2.vectors ≡ mid.vectors → GivesUnread mid.vector.items rows1.vectors mid.vectors
    → k < most_together → end ≡ k * length rows1.image.inputs → to ≡ end + length mid.image.inputs → take to rows2.drives.items ≡ take end mid.drives.items ++ repeated mid.copies mid.vector.items → ReadsMore k rows0 rows1 → ReadsMore (k + 1) rows0 rows2
reads-on k end to rows0 rows1 mid rows2 same1 same2 fits fits2 drives vectors gives lt is place put m =
    let w : ℕ = length mid.image.inputs in
    let here : end ≡ k * w = is ∙ ap (λ (i : ImageValue). k * length i.inputs) (sym same1.image) in
    let kept : AreKept mid (rows0.vector.items ∷ m.more) = same-kept rows1 mid (rows0.vector.items ∷ m.more) same1 drives m.kept in
    let size = m.size in
    let count : length (rows0.vector.items ∷ m.more) ≡ k = omega (arith, size) in
    let wide : length (repeated mid.copies mid.vector.items) ≡ w = repeated-long mid.copies mid.vector.items ∙ (ap (times mid.copies) fits.vector ∙ fits.shares.inputs) in
    let room = row-fits most_together k w end (length mid.drives.items) lt here fits.drives in
    let many : length rows2.drives.items ≡ length mid.drives.items = fits2.drives ∙ (ap (λ (i : ImageValue). most_together * length i.inputs) same2.image ∙ sym fits.drives) in
    let behind : take (end + w) rows2.drives.items ≡ take end mid.drives.items ++ repeated mid.copies mid.vector.items = ap (λ (n : ℕ). take n rows2.drives.items) (sym place) ∙ put in
    let all = kept-more mid.copies k w end (rows0.vector.items ∷ m.more) mid.vector.items mid.drives.items rows2.drives.items count here wide room many behind kept in
    let one : length (m.more ++ mid.vector.items ∷ []) ≡ length m.more + 1 = length-append m.more (mid.vector.items ∷ []) in
    record {
      more = m.more ++ mid.vector.items ∷ [];
      size = omega (arith, one, size);
      reads = λ store. subst (λ (r : VectorReading). ReadsOn (m.more ++ mid.vector.items ∷ []) rows0.vectors r store) (sym vectors)
          (reads-more m.more mid.vector.items rows0.vectors rows1.vectors mid.vectors store (m.reads store) (unread-read mid.vector.items rows1.vectors mid.vectors store gives fits.limit));
      kept = still-kept mid rows2 (rows0.vector.items ∷ (m.more ++ mid.vector.items ∷ [])) same2.image same2.copies all;
    }

-- or none was
pub reads-same : (k : ℕ) (rows0 rows1 mid : Running) → IsSameRun rows1 mid → mid.drives.items ≡ rows1.drives.items → mid.vectors ≡ rows1.vectors → ReadsMore k rows0 rows1 → ReadsMore k rows0 mid
reads-same k rows0 rows1 mid same drives vectors m = record {
  more = m.more;
  size = m.size;
  reads = λ store. subst (λ (r : VectorReading). ReadsOn m.more rows0.vectors r store) (sym vectors) (m.reads store);
  kept = same-kept rows1 mid (rows0.vector.items ∷ m.more) same drives m.kept;
}

-- what is driven for the first is kept
pub kept-first : (old new : Running) (end : ℕ) (bits : List Bool) → IsSameRun old new → new.vector.items ≡ bits → end ≡ length old.image.inputs → take end new.drives.items ≡ repeated old.copies bits → AreKept new (new.vector.items ∷ [])
kept-first old new end bits same vector place put =
    let here : take (length old.image.inputs) new.drives.items ≡ repeated old.copies bits = ap (λ (k : ℕ). take k new.drives.items) (sym place) ∙ put in
    let wide : take (length new.image.inputs) new.drives.items ≡ take (length old.image.inputs) new.drives.items = ap (λ (i : ImageValue). take (length i.inputs) new.drives.items) same.image in
    let driven : repeated old.copies bits ≡ repeated new.copies new.vector.items = ap (λ (c : Copies). repeated c bits) (sym same.copies) ∙ ap (repeated new.copies) (sym vector) in
    ap (λ (t : List Bool). t ∷ []) (wide ∙ (here ∙ driven))

-- so many vectors were read and kept, the first of them behind what was asked of the store
pub read-batch : (count : ℕ) (mid new : Running) (vector : List Bool) (reading : VectorReading) (block : WaitingRows) (from : RowsAt) (store : StoreState) (sink : SinkState) → IsRead vector from.reading reading from.store store → IsReadAfter from (rows_at reading block store sink)
    → mid.vectors ≡ reading → mid.vector.items ≡ vector → new.block ≡ block → ReadsMore count mid new → BatchGives count new from (at_rows new store sink)
read-batch count mid new vector reading block from store sink first after vectors same blocks m = inr (record {
  vector = vector;
  more = m.more;
  size = m.size;
  mid = reading;
  first = first;
  later = subst (λ (r : VectorReading). ReadsOn m.more r new.vectors store) vectors (m.reads store);
  after = subst (λ (b : WaitingRows). IsReadAfter from (rows_at new.vectors b store sink)) (sym blocks) after;
  kept = subst (λ (v : List Bool). AreKept new (v ∷ m.more)) same m.kept;
})

-- reading goes on
reads-onward : (vs : List (List Bool)) (old new : VectorReading) (store : StoreState) → ReadsOn vs old new store → old.at ≤ most_vector_bytes → (old.at ≤ new.at) × (new.at ≤ most_vector_bytes)
reads-onward [] old new store same le = let place : new.at ≡ old.at = ap (λ (r : VectorReading). r.at) same in (omega (arith, place), omega (arith, place, le))
reads-onward (v ∷ vs) old new store read le =
    let rest = reads-onward vs read.0 new store read.2 read.1.within in
    let on = read.1.onward in
    let first = rest.0 in (omega (arith, on, first), rest.1)

pub batch-smaller : (count : ℕ) (rows new : Running) (from to : RowsAt) → HasBatch count rows from to → new.vectors ≡ to.reading → most_vector_bytes - new.vectors.at < most_vector_bytes - from.reading.at
batch-smaller count rows new from to batch vectors =
    let on = reads-onward batch.more batch.mid to.reading to.store batch.later batch.first.within in
    let place : new.vectors.at ≡ to.reading.at = ap (λ (r : VectorReading). r.at) vectors in
    let first = batch.first.onward in
    let least = on.0 in
    let most = on.1 in
    omega (arith, place, first, least, most)

-- ---- the rig drives nothing

has-or-failed : (fail : RigFail) (count : ℕ) (old new : RigState) → CyclesFail fail count old new → HasOrFailed old new
has-or-failed Failed count old new fails = inr fails.0
has-or-failed Memory count old new fails = inl fails.1

-- the rows that wait were put out
pub put-is : (waiting left : List ℕ) (sink sink' : SinkState) → left ≡ [] → Puts {T = Unit {0}} waiting (Ok tt) sink sink' → IsPutOut waiting left sink sink'
put-is waiting left sink sink' empty puts = record { empty = empty; kind = puts.kind; later = puts.later; wrote = puts.wrote }

pub drive-stops : (fail : RigFail) (count : ℕ) (waiting left : List ℕ) (sink sink' : SinkState) (old new : RigState) → IsPutOut waiting left sink sink' → CyclesFail fail count old new → DriveStops (stop_of_rig fail) count waiting left sink sink' old new
drive-stops Failed count waiting left sink sink' old new out fails = (out, fails)
drive-stops Memory count waiting left sink sink' old new out fails = (out, fails)

-- or they weren't
pub drive-held : (stop : Stop) (fail : RigFail) (count : ℕ) (waiting left : List ℕ) (sink sink' : SinkState) (old new : RigState) → 0 < length waiting → Puts {T = Unit {0}} waiting (Err stop) sink sink' → CyclesFail fail count old new → DriveStops stop count waiting left sink sink' old new
drive-held (Refused refusal) fail count waiting left sink sink' old new some puts fails = absurd puts.stops
drive-held (Sink why) fail count waiting left sink sink' old new some puts fails =
    (λ store. held-up waiting (Sink why) store sink sink' some puts, has-or-failed fail count old new fails)

-- ---- the comparison

-- the rows that wait were put out
pub apart-put : (c : Copies) (reading : List Bool) (waiting left : List ℕ) (old new : SinkState) → left ≡ [] → Puts {T = Unit {0}} waiting (Ok tt) old new → IsApart c reading → CompareStops (Refused refused.Differ) c reading waiting left old new
apart-put c reading waiting left old new empty puts apart = (put-is waiting left old new empty puts, apart)

-- or they weren't
pub apart-held : (stop : Stop) (c : Copies) (reading : List Bool) (waiting left : List ℕ) (old new : SinkState) → 0 < length waiting → Puts {T = Unit {0}} waiting (Err stop) old new → IsApart c reading → CompareStops stop c reading waiting left old new
apart-held (Refused refusal) c reading waiting left old new some puts apart = absurd puts.stops
apart-held (Sink why) c reading waiting left old new some puts apart = (λ store. held-up waiting (Sink why) store old new some puts, apart)

-- ---- one reading, and its row

module _ (rows0 rows1 : Running) (reading : List Bool) (same : IsSameRun rows0 rows1) (block : rows1.block ≡ rows0.block) (read : rows1.reading.items ≡ reading) where
  -- the copies read differently
  pub row-apart : (stop : Stop) (left : List ℕ) (s0 s1 : SinkState) → CompareStops stop rows1.copies rows1.reading.items rows1.block.text left s0 s1 → AddStops stop rows0.copies reading rows0.block.text left s0 s1
  row-apart stop left s0 s1 stops =
      inl (subst (λ (w : WaitingRows). CompareStops stop rows0.copies reading w.text left s0 s1) block
      (subst (λ (r : List Bool). CompareStops stop rows0.copies r rows1.block.text left s0 s1) read
      (subst (λ (c : Copies). CompareStops stop c rows1.reading.items rows1.block.text left s0 s1) same.copies stops)))

  module _ (rows2 : Running) (left : List ℕ) (s0 s1 s2 : SinkState) (kept : (rows2.block ≡ rows1.block) × (s1 ≡ s0)) (row : rows1.reading.items ≡ repeated rows1.copies rows2.row.items) where
    read-by-all : reading ≡ repeated rows0.copies rows2.row.items
    read-by-all = sym read ∙ (row ∙ ap (λ (c : Copies). repeated c rows2.row.items) same.copies)

    waits-so : (result : Result (Unit {0}) Stop) → WaitsOrPuts (rows2.block.text ++ row_line rows2.row.items) left result s1 s2 → WaitsOrPuts (rows0.block.text ++ row_line rows2.row.items) left result s0 s2
    waits-so result waits =
        subst (λ (w : WaitingRows). WaitsOrPuts (w.text ++ row_line rows2.row.items) left result s0 s2) (kept.0 ∙ block)
        (subst (λ (s : SinkState). WaitsOrPuts (rows2.block.text ++ row_line rows2.row.items) left result s s2) kept.1 waits)

    -- the row waits, or was written
    pub row-added : WaitsOrPuts (rows2.block.text ++ row_line rows2.row.items) left (Ok tt) s1 s2 → HasAddedOne rows0.copies reading rows0.block.text left s0 s2
    row-added waits = (rows2.row.items, read-by-all, waits-so (Ok tt) waits)

    -- or it isn't
    pub row-stopped : (stop : Stop) → WaitsOrPuts (rows2.block.text ++ row_line rows2.row.items) left (Err stop) s1 s2 → AddStops stop rows0.copies reading rows0.block.text left s0 s2
    row-stopped stop waits = inr (rows2.row.items, read-by-all, waits-so (Err stop) waits)

-- ---- rows that are added, one after the other

pub adds-more : (c : Copies) (readings : List (List Bool)) (reading : List Bool) (waiting mid left : List ℕ) (old between new : SinkState) → HasAddedAll c readings waiting mid old between → HasAddedOne c reading mid left between new → HasAddedAll c (readings ++ reading ∷ []) waiting left old new
adds-more c [] reading waiting mid left old between new same one =
    let here = subst (λ (w : List ℕ). HasAddedOne c reading w left between new) same.0 one in
    (left, new, subst (λ (s : SinkState). HasAddedOne c reading waiting left s new) same.1 here, (refl, refl))
adds-more c (r ∷ rs) reading waiting mid left old between new h one = (h.0, h.1, h.2, adds-more c rs reading h.0 mid left h.1 between new h.3 one)

-- behind the first of some readings
pub added-next : (c : Copies) (readings : List (List Bool)) (k : ℕ) (reading : List Bool) (waiting mid left : List ℕ) (old between new : SinkState) → k < length readings → get_or readings k [] ≡ reading
    → HasAddedAll c (take k readings) waiting mid old between → HasAddedOne c reading mid left between new → HasAddedAll c (take (k + 1) readings) waiting left old new
added-next c readings k reading waiting mid left old between new lt is adds one =
    let next : take (k + 1) readings ≡ take k readings ++ reading ∷ [] = take_more readings k [] lt ∙ ap (λ (r : List Bool). take k readings ++ r ∷ []) is in
    subst (λ (rs : List (List Bool)). HasAddedAll c rs waiting left old new) (sym next) (adds-more c (take k readings) reading waiting mid left old between new adds one)

-- the next one stops
pub stopped-next : (stop : Stop) (c : Copies) (readings : List (List Bool)) (k : ℕ) (reading : List Bool) (waiting mid left : List ℕ) (old between new : SinkState) → readings ≡ take k readings ++ reading ∷ drop (k + 1) readings
    → HasAddedAll c (take k readings) waiting mid old between → AddStops stop c reading mid left between new → AddsStop stop c readings waiting left old new
stopped-next stop c readings k reading waiting mid left old between new split adds stops =
    record { added = take k readings; reading = reading; rest = drop (k + 1) readings; split = split; mid = mid; between = between; adds = adds; stops = stops }

-- ---- the same of what was read for several vectors

-- the reading of one of them
reading-at : (count k from : ℕ) (rows0 rows1 : Running) → IsSameRun rows0 rows1 → rows1.readings ≡ rows0.readings → from ≡ k * length rows1.image.outputs → k < count
    → get_or (readings_in count rows0) k [] ≡ take (length rows1.image.outputs) (drop from rows1.readings.items)
reading-at count k from rows0 rows1 same readings is lt =
    let w : ℕ = length rows0.image.outputs in
    let width : w ≡ length rows1.image.outputs = ap (λ (i : ImageValue). length i.outputs) (sym same.image) in
    let place : k * w ≡ from = ap (λ (n : ℕ). k * n) width ∙ sym is in
    row-in count w k rows0.readings.items lt
    ∙ (ap (λ (n : ℕ). take n (drop (k * w) rows0.readings.items)) width
    ∙ (ap (λ (n : ℕ). take (length rows1.image.outputs) (drop n rows0.readings.items)) place
    ∙ rw readings refl))

within-readings : (count k : ℕ) (rows0 : Running) → k < count → k < length (readings_in count rows0)
within-readings count k rows0 lt = let size = rows-count count (length rows0.image.outputs) rows0.readings.items in omega (arith, size, lt)

pub add-next : (count k from : ℕ) (rows0 rows1 : Running) (left : List ℕ) (s0 s1 s2 : SinkState) → IsSameRun rows0 rows1 → rows1.readings ≡ rows0.readings → from ≡ k * length rows1.image.outputs → k < count
    → HasAddedAll rows0.copies (take k (readings_in count rows0)) rows0.block.text rows1.block.text s0 s1 → HasAddedOne rows1.copies (take (length rows1.image.outputs) (drop from rows1.readings.items)) rows1.block.text left s1 s2
    → HasAddedAll rows0.copies (take (k + 1) (readings_in count rows0)) rows0.block.text left s0 s2
add-next count k from rows0 rows1 left s0 s1 s2 same readings is lt adds one =
    added-next rows0.copies (readings_in count rows0) k (take (length rows1.image.outputs) (drop from rows1.readings.items)) rows0.block.text rows1.block.text left s0 s1 s2 (within-readings count k rows0 lt)
    (reading-at count k from rows0 rows1 same readings is lt) adds
    (subst (λ (c : Copies). HasAddedOne c (take (length rows1.image.outputs) (drop from rows1.readings.items)) rows1.block.text left s1 s2) same.copies one)

pub added-all : (count k : ℕ) (rows0 : Running) (left : List ℕ) (s0 s1 : SinkState) → k ≡ count → HasAddedAll rows0.copies (take k (readings_in count rows0)) rows0.block.text left s0 s1 → HasAddedAll rows0.copies (readings_in count rows0) rows0.block.text left s0 s1
added-all count k rows0 left s0 s1 end adds =
    let size = rows-count count (length rows0.image.outputs) rows0.readings.items in
    subst (λ (rs : List (List Bool)). HasAddedAll rows0.copies rs rows0.block.text left s0 s1) (take_all k (readings_in count rows0) (omega (arith, size, end))) adds

pub stop-next : (stop : Stop) (count k from : ℕ) (rows0 rows1 : Running) (left : List ℕ) (s0 s1 s2 : SinkState) → IsSameRun rows0 rows1 → rows1.readings ≡ rows0.readings → from ≡ k * length rows1.image.outputs → k < count
    → HasAddedAll rows0.copies (take k (readings_in count rows0)) rows0.block.text rows1.block.text s0 s1 → AddStops stop rows1.copies (take (length rows1.image.outputs) (drop from rows1.readings.items)) rows1.block.text left s1 s2
    → AddsStop stop rows0.copies (readings_in count rows0) rows0.block.text left s0 s2
stop-next stop count k from rows0 rows1 left s0 s1 s2 same readings is lt adds stops =
    let all : List (List Bool) = readings_in count rows0 in
    let reading : List Bool = take (length rows1.image.outputs) (drop from rows1.readings.items) in
    let next : drop k all ≡ reading ∷ drop (k + 1) all =
    at_drop_more (λ (t : List (List Bool)). t) all k [] (within-readings count k rows0 lt) ∙ ap (λ (r : List Bool). r ∷ drop (k + 1) all) (reading-at count k from rows0 rows1 same readings is lt) in
    let split : all ≡ take k all ++ reading ∷ drop (k + 1) all = sym (take-append-drop k all) ∙ ap (λ (t : List (List Bool)). take k all ++ t) next in
    stopped-next stop rows0.copies all k reading rows0.block.text rows1.block.text left s0 s1 s2 split adds
    (subst (λ (c : Copies). AddStops stop c reading rows1.block.text left s1 s2) same.copies stops)

-- ---- vectors that were driven, and the rows of what was read

-- the rows of the readings that stand in these buffers wait on behind those that waited
waits-on : (count : ℕ) (rows0 rows1 : Running) → rows1.copies ≡ rows0.copies → rows1.block ≡ rows0.block → (P : Copies → List (List Bool) → List ℕ → Type 0) → P rows1.copies (readings_in count rows1) rows1.block.text → P rows0.copies (readings_in count rows1) rows0.block.text
waits-on count rows0 rows1 copies block P is =
    subst (λ (w : WaitingRows). P rows0.copies (readings_in count rows1) w.text) block (subst (λ (c : Copies). P c (readings_in count rows1) rows1.block.text) copies is)

pub makes-rows : (result : Result (Unit {0}) Stop) (count : ℕ) (rows0 rows1 : Running) (left : List ℕ) (s0 s1 : SinkState) (r0 r1 : RigState) → rows1.copies ≡ rows0.copies → rows1.block ≡ rows0.block → DrivesTo count rows0 (readings_in count rows1) r0 r1
    → OnOk result (HasAddedAll rows1.copies (readings_in count rows1) rows1.block.text left s0 s1) → OnOk result (MakesRows count rows0 rows0.block.text left s0 s1 r0 r1)
makes-rows (Ok x) count rows0 rows1 left s0 s1 r0 r1 copies block drives adds =
    record { readings = readings_in count rows1; drives = drives; adds = waits-on count rows0 rows1 copies block (λ c rs w. HasAddedAll c rs w left s0 s1) adds }
makes-rows (Err e) count rows0 rows1 left s0 s1 r0 r1 copies block drives adds = tt

pub makes-none : (result : Result (Unit {0}) Stop) (count : ℕ) (rows0 rows1 : Running) (left : List ℕ) (s0 s1 : SinkState) (r0 r1 : RigState) → rows1.copies ≡ rows0.copies → rows1.block ≡ rows0.block → DrivesTo count rows0 (readings_in count rows1) r0 r1
    → IfErr result (λ stop. AddsStop stop rows1.copies (readings_in count rows1) rows1.block.text left s0 s1) → IfErr result (λ stop. MakesStop stop count rows0 rows0.block.text left s0 s1 r0 r1)
makes-none (Ok x) count rows0 rows1 left s0 s1 r0 r1 copies block drives stops = tt
makes-none (Err stop) count rows0 rows1 left s0 s1 r0 r1 copies block drives stops =
    inr (readings_in count rows1, drives, waits-on count rows0 rows1 copies block (λ c rs w. AddsStop stop c rs w left s0 s1) stops)

-- the rig drives nothing, and the rows that wait were put out
pub undriven : (fail : RigFail) (count : ℕ) (rows0 rows1 : Running) (left : List ℕ) (s0 s1 : SinkState) (r0 r1 : RigState) → rows1.block ≡ rows0.block → left ≡ [] → Puts {T = Unit {0}} rows1.block.text (Ok tt) s0 s1 → CyclesFail fail count r0 r1
    → MakesStop (stop_of_rig fail) count rows0 rows0.block.text left s0 s1 r0 r1
undriven fail count rows0 rows1 left s0 s1 r0 r1 block empty puts fails =
    let here : Puts {T = Unit {0}} rows0.block.text (Ok tt) s0 s1 = subst (λ (w : WaitingRows). Puts {T = Unit {0}} w.text (Ok tt) s0 s1) block puts in
    inl (drive-stops fail count rows0.block.text left s0 s1 r0 r1 (put-is rows0.block.text left s0 s1 empty here) fails)

-- or they weren't
pub undriven-held : (stop : Stop) (fail : RigFail) (count : ℕ) (rows0 rows1 : Running) (left : List ℕ) (s0 s1 : SinkState) (r0 r1 : RigState) → rows1.block ≡ rows0.block → 0 < length rows1.block.text → Puts {T = Unit {0}} rows1.block.text (Err stop) s0 s1 → CyclesFail fail count r0 r1
    → MakesStop stop count rows0 rows0.block.text left s0 s1 r0 r1
undriven-held stop fail count rows0 rows1 left s0 s1 r0 r1 block some puts fails =
    inl (drive-held stop fail count rows0.block.text left s0 s1 r0 r1 (subst (λ (w : WaitingRows). 0 < length w.text) block some) (subst (λ (w : WaitingRows). Puts {T = Unit {0}} w.text (Err stop) s0 s1) block puts) fails)

-- for no vectors the rig may fail, and nothing else
pub unsent : (fail : RigFail) (old new : RigState) → CyclesFail fail 0 old new → (stop_of_rig fail ≡ Refused refused.Rig) × Rose old.failures new.failures
unsent Failed old new fails = (refl, fails.0)
unsent Memory old new fails = absurd (let less = fails.0 in let never : ⊥ = omega (arith, less) in never)
