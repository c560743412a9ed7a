-- Vectors that are driven by one call of the rig, and what is read then.
use Rattle.std.proofs.Common.{◌≡◌, ◌≢◌, ◌∙◌, ℕ, zero, suc, ◌+◌, ◌-◌, ◌*◌, ◌<◌, ◌≤◌, Bool, true, false, Some, Option, List, [], ◌∷◌, ◌++◌, length, map, flat_map, take, drop, get_or, replicate, slice_set, slice_index_or, All, AllPairs, refl, sym, ap, subst, arith, append_assoc, append-nil, length-append, take_all, drop_of_length-le}
use Rattle.std.proofs.lemmas.List.{get_or_append_left, length-map, length-set, length-take-le, map-append, take-append-drop, take_more, take_more_set}
use Rattle.run_image.proofs.Vocabulary.{Pins, drive_on, row_at, RigState, GoesOnBy, rows_in, HaveRows, driven, Rows, RunsRows}
use Rattle.run_image.proofs.BatchLemmas.{row-in, rows-count, rows-flat, rows-take}
use Rattle.run_image.proofs.Vectors.{driven_is}

-- ---- lists

pub pairs-left : (xs ys : List ℕ) → AllPairs (λ j k. j ≢ k) (xs ++ ys) → AllPairs (λ j k. j ≢ k) xs
pairs-left xs ys h i j d lt within same =
    let size = length-append xs ys in
    h i j d lt (omega (arith, within, size)) (get_or_append_left xs ys d i (omega (arith, lt, within)) ∙ (same ∙ sym (get_or_append_left xs ys d j within)))

pub whole-again : {A : Type 0} (n : ℕ) (new old : List A) → length new ≡ length old → n ≡ length old → take n (new ++ drop (length new) old) ≡ new
whole-again n new old same e =
    let none : drop (length new) old ≡ [] = drop_of_length-le old (omega (arith, same)) in
    ap (λ t. take n (new ++ t)) none ∙ ap (take n) (append-nil new) ∙ take_all n new (omega (arith, same, e))

-- ---- the bits of one row, one after the other

put-place : (from k : ℕ) (out old bits : List Bool) (b : Bool) → from + k < length out → take (from + k) out ≡ take from old ++ bits → take (from + (k + 1)) (slice_set out (from + k) b) ≡ take from old ++ (bits ++ b ∷ [])
put-place from k out old bits b lt so =
    let place : from + (k + 1) ≡ from + k + 1 = omega arith in
    ap (λ (n : ℕ). take n (slice_set out (from + k) b)) place
    ∙ (take_more_set out (from + k) b lt ∙ (ap (λ (t : List Bool). t ++ b ∷ []) so ∙ append_assoc (take from old) bits (b ∷ [])))

pub put-read : (from k : ℕ) (out old : List Bool) (read : Pins) (pins : List ℕ) (b : Bool) → from + k < length out → k < length pins → b ≡ slice_index_or read (get_or pins k 0) true
    → (take (from + k) out ≡ take from old ++ map (λ p. slice_index_or read p true) (take k pins)) × (length out ≡ length old)
    → (take (from + (k + 1)) (slice_set out (from + k) b) ≡ take from old ++ map (λ p. slice_index_or read p true) (take (k + 1) pins)) × (length (slice_set out (from + k) b) ≡ length old)
put-read from k out old read pins b in_out in_pins is so =
    let bits : List Bool = map (λ p. slice_index_or read p true) (take k pins) in
    let more : map (λ p. slice_index_or read p true) (take (k + 1) pins) ≡ bits ++ b ∷ [] =
    ap (map (λ p. slice_index_or read p true)) (take_more pins k 0 in_pins) ∙ (map-append (λ p. slice_index_or read p true) (take k pins) (get_or pins k 0 ∷ []) ∙ ap (λ (v : Bool). bits ++ v ∷ []) (sym is)) in (
      put-place from k out old bits b in_out so.0 ∙ ap (λ (t : List Bool). take from old ++ t) (sym more),
      length-set out (from + k) b ∙ so.1,
    )

pub put-bit : (from k : ℕ) (all old bits : List Bool) (b : Bool) → from + k < length all → k < length bits → b ≡ get_or bits k false
    → (take (from + k) all ≡ take from old ++ take k bits) × (length all ≡ length old)
    → (take (from + (k + 1)) (slice_set all (from + k) b) ≡ take from old ++ take (k + 1) bits) × (length (slice_set all (from + k) b) ≡ length old)
put-bit from k all old bits b in_all in_bits is so =
    let more : take (k + 1) bits ≡ take k bits ++ b ∷ [] = take_more bits k false in_bits ∙ ap (λ (v : Bool). take k bits ++ v ∷ []) (sym is) in (
      put-place from k all old (take k bits) b in_all so.0 ∙ ap (λ (t : List Bool). take from old ++ t) (sym more),
      length-set all (from + k) b ∙ so.1,
    )

-- ---- what is driven

module _ (count w : ℕ) (ps : List ℕ) (other : Pins) (vectors : List Bool) where
  abbrev pub drive_so : List Bool → Pins
  drive_so v = driven ps v other

  pub drives-more : (k from : ℕ) (drives : List Pins) (drive : Pins) → k < count → k < length drives → from ≡ k * w → drive ≡ driven ps (take (from + w - from) (drop from vectors)) other
      → take k drives ≡ map drive_so (take k (rows_in count w vectors)) → take (k + 1) (slice_set drives k drive) ≡ map drive_so (take (k + 1) (rows_in count w vectors))
  drives-more k from drives drive lt within is set so =
      let all : List (List Bool) = rows_in count w vectors in
      let size : length all ≡ count = rows-count count w vectors in
      let width : from + w - from ≡ w = omega arith in
      let one : drive ≡ drive_so (get_or all k []) =
      set ∙ (ap (λ (n : ℕ). drive_so (take n (drop from vectors))) width ∙ (ap (λ (n : ℕ). drive_so (take w (drop n vectors))) is ∙ ap drive_so (sym (row-in count w k vectors lt)))) in
      take_more_set drives k drive within
      ∙ (ap (λ (t : List Pins). t ++ drive ∷ []) so
      ∙ (ap (λ (d : Pins). map drive_so (take k all) ++ d ∷ []) one
      ∙ (sym (map-append drive_so (take k all) (get_or all k [] ∷ []))
      ∙ ap (map drive_so) (sym (take_more all k [] (omega (arith, lt, size)))))))

  pub drives-all : (k : ℕ) (drives : List Pins) → k ≡ count → take k drives ≡ map drive_so (take k (rows_in count w vectors)) → take count drives ≡ map drive_so (rows_in count w vectors)
  drives-all k drives end so =
      let size : length (rows_in count w vectors) ≡ count = rows-count count w vectors in
      ap (λ (n : ℕ). take n drives) (sym end) ∙ (so ∙ ap (map drive_so) (take_all k (rows_in count w vectors) (omega (arith, end, size))))

-- over released pins
pub released-drives : (pins : ℕ) (ps : List ℕ) → AllPairs (λ j k. j ≢ k) ps → (vs : List (List Bool)) → map (λ (v : List Bool). driven ps v (replicate pins true)) vs ≡ map (drive_on pins ps) vs
released-drives pins ps apart [] = refl
released-drives pins ps apart (v ∷ vs) =
    ap (λ (d : Pins). d ∷ map (λ (u : List Bool). driven ps u (replicate pins true)) vs) (driven_is pins ps v apart) ∙ ap (λ (ds : List Pins). drive_on pins ps v ∷ ds) (released-drives pins ps apart vs)

-- ---- rows of the rig

-- each has a bit for each pin of the session's machine
pub rows-of-rig : (width : Option ℕ) (pins : ℕ) (rows : List Pins) → width ≡ Some pins → All (λ row. length row ≡ pins) rows → All (λ row. width ≡ Some (length row)) rows
rows-of-rig width pins rows is wide k d lt = is ∙ ap (λ (n : ℕ). Some n) (sym (wide k d lt))

-- pins of the machine are among the bits of each row
pub pins-within : (pins : ℕ) (ps : List ℕ) (rows : List Pins) → All (λ row. length row ≡ pins) rows → All (λ k. k < pins) ps → All (λ row. All (λ k. k < length row) ps) rows
pins-within pins ps rows wide below k d lt = subst (λ (n : ℕ). All (λ p. p < n) ps) (sym (wide k d lt)) below

-- rows that are as many and as long as they were
as-many : (old new : List Pins) → map length new ≡ map length old → length new ≡ length old
as-many old new same = sym (length-map new length) ∙ (ap length same ∙ length-map old length)

lengths-at : (rows : List Pins) (k : ℕ) (d : Pins) → k < length rows → get_or (map length rows) k (length d) ≡ length (get_or rows k d)
lengths-at [] k d lt = absurd (let no : ⊥ = omega (arith, lt) in no)
lengths-at (row ∷ rows) zero d lt = refl
lengths-at (row ∷ rows) (suc k) d lt = lengths-at rows k d (omega (arith, lt))

pub have-still : (pins : ℕ) (old new : List Pins) → HaveRows pins old → map length new ≡ map length old → HaveRows pins new
have-still pins old new have same = record {
  count = as-many old new same ∙ have.count;
  wide = λ k d lt.
      let many = as-many old new same in
      sym (lengths-at new k d lt) ∙ (ap (λ (ns : List ℕ). get_or ns k (length d)) same ∙ (lengths-at old k d (omega (arith, lt, many)) ∙ have.wide k d (omega (arith, lt, many))));
}

-- the first of them are as they were made, and the rest as they were
pub front-lengths : (count : ℕ) (old new : List Pins) → map length new ≡ map length (take count old) → map length (new ++ drop count old) ≡ map length old
front-lengths count old new same =
    map-append length new (drop count old) ∙ (ap (λ (ns : List ℕ). ns ++ map length (drop count old)) same ∙ (sym (map-append length (take count old) (drop count old)) ∙ ap (map length) (take-append-drop count old)))

-- ---- the whole

-- the rows are the readings at the output pins of the cycles that drive the vectors
pub ran-rows : (r : Rows) (old new : RigState) (count : ℕ) (vectors outs : List Bool) (blank : Pins) (drives reads : List Pins) → AllPairs (λ j k. j ≢ k) r.inputs → blank ≡ replicate r.pins true → count ≤ length reads
    → take count drives ≡ map (λ (v : List Bool). driven r.inputs v blank) (rows_in count (length r.inputs) vectors) → GoesOnBy (take count drives) (take count reads) old new → count * length r.outputs ≤ length outs → take (count * length r.outputs) outs ≡ flat_map (row_at r.outputs) (take count reads)
    → RunsRows r old new (rows_in count (length r.inputs) vectors) (rows_in count (length r.outputs) outs)
ran-rows r old new count vectors outs blank drives reads apart released room put goes wide read =
    let vs : List (List Bool) = rows_in count (length r.inputs) vectors in
    let first : List Pins = take count reads in
    let size : length first ≡ count = length-take-le count reads room in
    let driven_so : take count drives ≡ map (drive_on r.pins r.inputs) vs =
    put ∙ (ap (λ (b : Pins). map (λ (v : List Bool). driven r.inputs v b) vs) released ∙ released-drives r.pins r.inputs apart vs) in
    let rows : rows_in count (length r.outputs) outs ≡ map (row_at r.outputs) first =
    sym (rows-take count (length r.outputs) outs wide) ∙ (ap (rows_in count (length r.outputs)) read ∙ (ap (λ (n : ℕ). rows_in n (length r.outputs) (flat_map (row_at r.outputs) first)) (sym size)
    ∙ rows-flat (row_at r.outputs) (length r.outputs) (λ x. length-map r.outputs _) first)) in
    (first, subst (λ (ds : List Pins). GoesOnBy ds first old new) driven_so goes, rows)
