-- A file of vectors that is read, vector by vector.
use Rattle.std.proofs.Common.{◌≡◌, ℕ, ◌+◌, ◌-◌, ◌<◌, ◌≤◌, Bool, true, false, List, [], ◌∷◌, ◌++◌, length, take, drop, map, Option, None, Some, IfSome, option_map, slice_get, unwrap_or, arith, refl, sym, ap, ◌∙◌, append-nil, append_assoc, length-append, length-drop}
use Rattle.std.specs.Option.{option_map_or}
use Rattle.cmd_steps.proofs.Vocabulary.{take-append_seam, get_or-append_seam, length-map, map-append, drop-drop}
use Rattle.std.proofs.lemmas.Option.{slice_get-get_or, slice_get_past}
use Rattle.base_io.specs.Vocabulary.{Told, untold, absent, holds, bytes_of, IfTold, IsPresent, StorePlace, StoreState, rest_of}
use Rattle.design_vectors.specs.declared.vectors.{VectorKind.VectorKind, VectorsFail.TheVariants.Text}
use Rattle.design_vectors.specs.Vectors.{SaidVectors, VectorLine, nothing_said, with_vector}
use Rattle.cmd_steps.proofs.TextLemmas.{IfTold-with}
use Rattle.design_vectors.specs.Readings.{VectorReading, new_reading, says_next, NextGives, NextFails, IsFaultOf, HasMoved}
use Rattle.cmd_steps.specs.Files.{most_vector_bytes, most_ahead, says_at, vectors_at, end_at, AreFirst, AreAll, AreBeforeFault, IsNearNext, IsNearEnd, file_of, IsBegun}

abbrev pub bits_of_line : VectorLine → List Bool
bits_of_line v = v.bits

-- how many bytes the store gave
abbrev pub given_of : VectorReading → ℕ
given_of reading = reading.at + length reading.unread

-- what the reader has before it
abbrev pub says_ahead : VectorReading → List ℕ → SaidVectors
says_ahead reading bytes = says_next reading (reading.unread ++ drop (given_of reading) bytes)

-- these vectors were taken, and the rest of the file is ahead
pub record IsTakenTo (width : ℕ) (bytes : List ℕ) (reading : VectorReading) (taken : List (List Bool)) : Type 0 where
  pub within : given_of reading ≤ length bytes
  pub ahead : reading.unread ++ drop (given_of reading) bytes ≡ drop reading.at bytes
  pub lines : List VectorLine
  pub bits : map bits_of_line lines ≡ taken
  pub vectors : (says_at width bytes).vectors ≡ lines ++ (says_ahead reading bytes).vectors
  pub fault : (says_at width bytes).fault ≡ (says_ahead reading bytes).fault

-- the store stands behind what the reader got
pub record IsTaking (width : ℕ) (before store : StoreState) (reading : VectorReading) (taken : List (List Bool)) : Type 0 where
  pub name : List ℕ
  pub begun : before.current ≡ Some (record { name = name; at = 0 })
  pub contents : store.contents ≡ before.contents
  pub later : before.failures ≤ store.failures
  pub asked : store.asked ≡ before.asked
  pub place : store.current ≡ Some (record { name = name; at = given_of reading })
  pub told : IfTold (before.contents name) (λ bytes. IsTakenTo width bytes reading taken)

pub IfTold-all : (told : Told) (P : List ℕ → Type 0) → IsPresent told → ((bytes : List ℕ) → P bytes) → IfTold told P
IfTold-all untold P here all = tt
IfTold-all absent P here all = here
IfTold-all (holds bytes) P here all = all bytes

-- at the first byte nothing was taken
pub IsTaking-start : (width : ℕ) (before : StoreState) → IsBegun before → IsTaking width before before (new_reading width most_vector_bytes) []
IsTaking-start width before begun = record {
  name = begun.0;
  begun = begun.1;
  contents = refl;
  later = omega arith;
  asked = refl;
  place = begun.1;
  told = IfTold-all (before.contents begun.0) _ begun.2 (λ bytes. record {
    within = omega arith;
    ahead = refl;
    lines = [];
    bits = refl;
    vectors = refl;
    fault = refl;
  });
}

-- what is said is said on
said-more : (told : Told) (r r' : VectorReading) (vector : List Bool) (bytes : List ℕ) → bytes_of told ≡ Some bytes → option_map (says_next r) (option_map (λ rest. r.unread ++ rest) (option_map (drop (given_of r)) (bytes_of told))) ≡ option_map (with_vector vector r'.at) (option_map (says_next r') (option_map (λ rest. r'.unread ++ rest) (option_map (drop (given_of r')) (bytes_of told)))) → says_ahead r bytes ≡ with_vector vector r'.at (says_ahead r' bytes)
said-more told r r' vector bytes is h =
    let e = rw is at h in cc

some-is : (x y : List ℕ) → Some x ≡ Some y → x ≡ y
some-is x y e = ap (λ (o : Option (List ℕ)). option_map_or (λ (l : List ℕ). l) o []) e

-- what is before the reader is the file's from its place on
ahead-more : (r r' : VectorReading) (bytes : List ℕ) → r.at < r'.at → r.unread ++ drop (given_of r) bytes ≡ drop r.at bytes → Some (r'.unread ++ drop (given_of r') bytes) ≡ Some (drop (r'.at - r.at) (r.unread ++ drop (given_of r) bytes)) → r'.unread ++ drop (given_of r') bytes ≡ drop r'.at bytes
ahead-more r r' bytes further ahead moves =
    let place : r.at + (r'.at - r.at) ≡ r'.at = omega (arith, further) in
    some-is (r'.unread ++ drop (given_of r') bytes) (drop (r'.at - r.at) (r.unread ++ drop (given_of r) bytes)) moves
    ∙ (ap (λ (l : List ℕ). drop (r'.at - r.at) l) ahead ∙ (drop-drop (r'.at - r.at) r.at bytes ∙ ap (λ (n : ℕ). drop n bytes) place))

told-more : (width : ℕ) (told : Told) (r r' : VectorReading) (vector : List Bool) (taken : List (List Bool)) (count : ℕ) → r.at < r'.at → option_map (λ rest. r'.unread ++ rest) (option_map (drop (given_of r')) (bytes_of told)) ≡ option_map (λ bytes. drop (r'.at - r.at) bytes) (option_map (λ rest. r.unread ++ rest) (option_map (drop (given_of r)) (bytes_of told))) → option_map (says_next r) (option_map (λ rest. r.unread ++ rest) (option_map (drop (given_of r)) (bytes_of told))) ≡ option_map (with_vector vector r'.at) (option_map (says_next r') (option_map (λ rest. r'.unread ++ rest) (option_map (drop (given_of r')) (bytes_of told)))) → IfSome (option_map (drop (given_of r)) (bytes_of told)) (λ rest. count ≤ length rest) → given_of r + count ≡ given_of r' → IfTold told (λ bytes. IsTakenTo width bytes r taken) → IfTold told (λ bytes. IsTakenTo width bytes r' (taken ++ vector ∷ []))
told-more width untold r r' vector taken count further moves said within place h = tt
told-more width absent r r' vector taken count further moves said within place h = h
told-more width (holds bytes) r r' vector taken count further moves said within place h =
    let next = said-more (holds bytes) r r' vector bytes refl said in
    let line : VectorLine = record { bits = vector; next_at = r'.at } in
    let rest = (says_ahead r' bytes).vectors in
    let fits : count ≤ length bytes - given_of r = rw length-drop at within in
    record {
      within = omega (arith, h.within, fits, place);
      ahead = ahead-more r r' bytes further h.ahead moves;
      lines = h.lines ++ line ∷ [];
      bits = map-append bits_of_line h.lines (line ∷ []) ∙ ap (λ t. t ++ vector ∷ []) h.bits;
      vectors = h.vectors ∙ (ap (λ (s : SaidVectors). h.lines ++ s.vectors) next ∙ sym (append_assoc h.lines (line ∷ []) rest));
      fault = h.fault ∙ ap (λ (s : SaidVectors). s.fault) next;
    }

-- what a store has left of a file
pub rest-is : (store : StoreState) (name : List ℕ) (contents : List ℕ → Told) (at : ℕ) → store.contents ≡ contents → store.current ≡ Some (record { name = name; at = at }) → rest_of store ≡ option_map (drop at) (bytes_of (contents name))
rest-is store name contents at same place = rw (place, same) refl

pub IsTaking-more : (width : ℕ) (before store store' : StoreState) (r r' : VectorReading) (vector : List Bool) (taken : List (List Bool)) → IsTaking width before store r taken → store'.contents ≡ store.contents → store.failures ≤ store'.failures → store'.asked ≡ store.asked → NextGives true vector r r' store store' → HasMoved r r' store store' → r.at < r'.at → IsTaking width before store' r' (taken ++ vector ∷ [])
IsTaking-more width before store store' r r' vector taken so_far contents later asked gives moves further =
    let n : given_of r + moves.count ≡ given_of r' = moves.bytes in
    let contents' = contents ∙ so_far.contents in
    let place' : store'.current ≡ Some (record { name = so_far.name; at = given_of r' }) = rw (moves.place, so_far.place, n) refl in
    let rest = rest-is store so_far.name before.contents (given_of r) so_far.contents so_far.place in
    let rest' = rest-is store' so_far.name before.contents (given_of r') contents' place' in
    let said = rw (rest, rest') at gives in
    let within = rw rest at moves.within in
    let ahead = rw (rest, rest') at moves.ahead in
    record {
      name = so_far.name;
      begun = so_far.begun;
      contents = contents';
      later = omega (arith, so_far.later, later);
      asked = asked ∙ so_far.asked;
      place = place';
      told = told-more width (before.contents so_far.name) r r' vector taken moves.count further ahead said within n so_far.told;
    }

-- the vectors of the file are those taken and those ahead
pub vectors-are : (width : ℕ) (bytes : List ℕ) (reading : VectorReading) (taken : List (List Bool)) → IsTakenTo width bytes reading taken → vectors_at width bytes ≡ taken ++ map bits_of_line (says_ahead reading bytes).vectors
vectors-are width bytes reading taken h =
    ap (map bits_of_line) h.vectors ∙ (map-append bits_of_line h.lines (says_ahead reading bytes).vectors ∙ ap (λ t. t ++ map bits_of_line (says_ahead reading bytes).vectors) h.bits)

-- what was taken are the first vectors of the file
pub first-taken : (width : ℕ) (bytes : List ℕ) (reading : VectorReading) (taken : List (List Bool)) → IsTakenTo width bytes reading taken → take (length taken) (vectors_at width bytes) ≡ taken
first-taken width bytes reading taken h =
    rw (vectors-are width bytes reading taken h) (take-append_seam taken (map bits_of_line (says_ahead reading bytes).vectors))

-- the file that the store began with
pub file-is : (before : StoreState) (name : List ℕ) → before.current ≡ Some (record { name = name; at = 0 }) → file_of before ≡ before.contents name
file-is before name is = rw is refl

pub taken-first : (width : ℕ) (before store : StoreState) (reading : VectorReading) (taken : List (List Bool)) → IsTaking width before store reading taken → AreFirst width (file_of before) taken
taken-first width before store reading taken so_far =
    rw (file-is before so_far.name so_far.begun) (IfTold-with (before.contents so_far.name) _ _ so_far.told (λ bytes h. first-taken width bytes reading taken h))

-- the last of the lines ends where the reader stands
end-of-line : (lines rest : List VectorLine) (line : VectorLine) (size : ℕ) → unwrap_or (option_map (λ (v : VectorLine). v.next_at) (slice_get (lines ++ line ∷ rest) (length lines))) size ≡ line.next_at
end-of-line lines rest line size =
    let within : length lines < length (lines ++ line ∷ rest) = rw (length-append lines) (omega arith) in
    rw (slice_get-get_or (lines ++ line ∷ rest) (length lines) line within, get_or-append_seam lines line rest line) refl

-- where the vector's line ends
end-told : (width : ℕ) (told : Told) (r r' : VectorReading) (vector : List Bool) (taken : List (List Bool)) → option_map (says_next r) (option_map (λ rest. r.unread ++ rest) (option_map (drop (given_of r)) (bytes_of told))) ≡ option_map (with_vector vector r'.at) (option_map (says_next r') (option_map (λ rest. r'.unread ++ rest) (option_map (drop (given_of r')) (bytes_of told)))) → IfTold told (λ bytes. IsTakenTo width bytes r taken) → IfTold told (λ bytes. (end_at width bytes (length taken) ≡ r'.at) × (length taken < length (vectors_at width bytes)))
end-told width untold r r' vector taken said h = tt
end-told width absent r r' vector taken said h = h
end-told width (holds bytes) r r' vector taken said h =
    let next = said-more (holds bytes) r r' vector bytes refl said in
    let line : VectorLine = record { bits = vector; next_at = r'.at } in
    let rest = (says_ahead r' bytes).vectors in
    let all : (says_at width bytes).vectors ≡ h.lines ++ line ∷ rest = h.vectors ∙ ap (λ (s : SaidVectors). h.lines ++ s.vectors) next in
    let count : length taken ≡ length h.lines = ap length (sym h.bits) ∙ length-map h.lines bits_of_line in
    let more : length h.lines < length (h.lines ++ line ∷ rest) = rw (length-append h.lines) (omega arith) in
    (rw (all, count) (end-of-line h.lines rest line (length bytes)), rw (all, count, length-map (h.lines ++ line ∷ rest) bits_of_line) more)

-- one more vector is in the file, and the store isn't far beyond its line
pub taken-next : (width : ℕ) (before store store' : StoreState) (r r' : VectorReading) (vector : List Bool) (taken : List (List Bool)) → IsTaking width before store r taken → store'.contents ≡ store.contents → NextGives true vector r r' store store' → HasMoved r r' store store' → length r'.unread ≤ most_ahead → IsNearNext width (file_of before) store'.current (length taken)
taken-next width before store store' r r' vector taken so_far contents gives moves unread =
    let name = so_far.name in
    let n : given_of r + moves.count ≡ given_of r' = moves.bytes in
    let place : store'.current ≡ Some (record { name = name; at = given_of r' }) = rw (moves.place, so_far.place, n) refl in
    let rest = rest-is store name before.contents (given_of r) so_far.contents so_far.place in
    let rest' = rest-is store' name before.contents (given_of r') (contents ∙ so_far.contents) place in
    let ends = end-told width (before.contents name) r r' vector taken (rw (rest, rest') at gives) so_far.told in
    rw (file-is before name so_far.begun, place) (IfTold-with (before.contents name) _ _ ends (λ bytes end. (end.1, rw end.0 (omega (arith, unread)))))

-- at the end of the file all vectors were taken
all-told : (width : ℕ) (told : Told) (reading : VectorReading) (taken : List (List Bool)) → IfTold told (λ bytes. IsTakenTo width bytes reading taken) → IfSome (option_map (says_next reading) (option_map (λ rest. reading.unread ++ rest) (option_map (drop (given_of reading)) (bytes_of told)))) (λ said. said ≡ nothing_said) → AreAll width told taken
all-told width untold reading taken h said = tt
all-told width absent reading taken h said = h
all-told width (holds bytes) reading taken h said =
    let rest : map bits_of_line (says_ahead reading bytes).vectors ≡ [] = ap (λ (s : SaidVectors). map bits_of_line s.vectors) said in
    (vectors-are width bytes reading taken h ∙ (ap (λ vs. taken ++ vs) rest ∙ append-nil taken), h.fault ∙ ap (λ (s : SaidVectors). s.fault) said)

pub taken-all : (width : ℕ) (before store store' : StoreState) (r r' : VectorReading) (vector : List Bool) (taken : List (List Bool)) → IsTaking width before store r taken → NextGives false vector r r' store store' → AreAll width (file_of before) taken
taken-all width before store store' r r' vector taken so_far gives =
    let rest = rest-is store so_far.name before.contents (given_of r) so_far.contents so_far.place in
    rw (file-is before so_far.name so_far.begun) (all-told width (before.contents so_far.name) r taken so_far.told (rw rest at gives))

-- at a fault all vectors before it were taken
fault-told : (width : ℕ) (told : Told) (name : List ℕ) (reading : VectorReading) (taken : List (List Bool)) (count line : ℕ) (kind : VectorKind) → IfTold told (λ bytes. IsTakenTo width bytes reading taken) → IfSome (option_map (says_next reading) (option_map (λ rest. reading.unread ++ rest) (option_map (drop (given_of reading)) (bytes_of told)))) (IsFaultOf line kind (given_of reading + count)) → AreBeforeFault width told (Some (record { name = name; at = given_of reading + count })) line kind taken
fault-told width untold name reading taken count line kind h said = tt
fault-told width absent name reading taken count line kind h said = h
fault-told width (holds bytes) name reading taken count line kind h said =
    let rest : map bits_of_line (says_ahead reading bytes).vectors ≡ [] = ap (λ (s : SaidVectors). map bits_of_line s.vectors) said.is in (
      vectors-are width bytes reading taken h ∙ (ap (λ vs. taken ++ vs) rest ∙ append-nil taken),
      record {
        end = said.end;
        is = h.fault ∙ ap (λ (s : SaidVectors). s.fault) said.is;
        near = said.near;
      },
    )

pub taken-fault : (width : ℕ) (before store store' : StoreState) (r : VectorReading) (taken : List (List Bool)) (line : ℕ) (kind : VectorKind) → IsTaking width before store r taken → NextFails (Text line kind) r store store' → AreBeforeFault width (file_of before) store'.current line kind taken
taken-fault width before store store' r taken line kind so_far fails =
    let rest = rest-is store so_far.name before.contents (given_of r) so_far.contents so_far.place in
    let place : store'.current ≡ Some (record { name = so_far.name; at = given_of r + fails.0 }) = rw (fails.1, so_far.place) refl in
    rw (file-is before so_far.name so_far.begun, place) (fault-told width (before.contents so_far.name) so_far.name r taken fails.0 line kind so_far.told (rw rest at fails.2))

-- at the end of the file the store isn't beyond it
end-near : (width : ℕ) (told : Told) (name : List ℕ) (r : VectorReading) (taken : List (List Bool)) (count : ℕ) → IfTold told (λ bytes. IsTakenTo width bytes r taken) → IfSome (option_map (drop (given_of r)) (bytes_of told)) (λ rest. count ≤ length rest) → AreAll width told taken → IsNearEnd width told (Some (record { name = name; at = given_of r + count })) (length taken)
end-near width untold name r taken count h within all = tt
end-near width absent name r taken count h within all = h
end-near width (holds bytes) name r taken count h within all =
    let fits : count ≤ length bytes - given_of r = rw length-drop at within in
    let lines : length (says_at width bytes).vectors ≡ length taken = sym (length-map (says_at width bytes).vectors bits_of_line) ∙ ap length all.0 in
    let past : slice_get (says_at width bytes).vectors (length taken) ≡ None = slice_get_past (says_at width bytes).vectors (length taken) (omega (arith, lines)) in
    rw past (omega (arith, h.within, fits))

pub taken-near-end : (width : ℕ) (before store store' : StoreState) (r r' : VectorReading) (taken : List (List Bool)) → IsTaking width before store r taken → AreAll width (file_of before) taken → HasMoved r r' store store' → IsNearEnd width (file_of before) store'.current (length taken)
taken-near-end width before store store' r r' taken so_far all moves =
    let name = so_far.name in
    let rest = rest-is store name before.contents (given_of r) so_far.contents so_far.place in
    let place : store'.current ≡ Some (record { name = name; at = given_of r + moves.count }) = rw (moves.place, so_far.place) refl in
    let file = file-is before name so_far.begun in
    rw (file, place) (end-near width (before.contents name) name r taken moves.count so_far.told (rw rest at moves.within) (rw file at all))

pub near-end-of : (width : ℕ) (told : Told) (place : Option StorePlace) (count : ℕ) → IsNearNext width told place count → IsNearEnd width told place count
near-end-of width told place count near = IfTold-with told _ _ near (λ bytes h. h.1)
