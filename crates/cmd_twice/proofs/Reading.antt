-- What two copies have read, and what that shows of the design's rows.
use Rattle.std.proofs.Common.{◌≡◌, ◌+◌, ◌∙◌, ℕ, Bool, List, ◌∷◌, ◌++◌, map, length, take, drop, refl, sym, ap, subst, inl, inr, arith, take_all, Some}
use Rattle.cmd_twice.proofs.Vocabulary.{All, take_at, take-map, map-append, length-map, Covers, Faults, Pins, DefectList, ImageValue}
use Rattle.cmd_twice.proofs.Vocabulary.{drive_of, image_row, NetlistData, AreRows, RigState, Explains, config_of, cycles_of, drives_of}
use Rattle.cmd_twice.proofs.Vocabulary.{readings_of, AreBothRows, all_repeated, HalvesDiffer, AreLaidRows, Two, IsImageForTwice, twice_laid}
use Rattle.std.proofs.lemmas.List.Elements.{recursion_from_All, All-from_recursion, All-take}
use Rattle.machine_meaning.proofs.Faultless.{covers_none}
use Rattle.machine_config.specs.Vocabulary.{IsRun}
use Rattle.machine_history.proofs.RowsOver.{clean, clean_faultless}
use Rattle.rig.proofs.Narrowing.{session_run}
use Rattle.place_both.proofs.WhileAlone.{first-right, second-right}
use Rattle.cmd_twice.specs.Headline.{AreFirstRows, AreRightWhileOneIsAlone, AreReadByBoth}
use Rattle.cmd_twice.proofs.Doubles.{AreWide, half-wide, fronts-are, backs-are, read-wide, front-rows, never-differ}

-- ---- widths

pub wide-vectors : (n : ℕ) (i : ImageValue) (vectors : List (List Bool)) → length i.inputs ≡ n + n → All (λ v. length v ≡ length i.inputs) (all_repeated Two vectors) → AreWide n vectors
wide-vectors n i vectors inputs widths =
    half-wide n vectors (recursion_from_All (λ (v : List Bool). length v ≡ n + n) (all_repeated Two vectors) (subst (λ (k : ℕ). All (λ v. length v ≡ k) (all_repeated Two vectors)) inputs widths))

taken-wide : (n k : ℕ) (rows : List (List Bool)) → AreWide n rows → AreWide n (take k rows)
taken-wide n k rows wide =
    let P : List Bool → Type 0 = λ row. length row ≡ n in
    recursion_from_All P (take k rows) (All-take P k rows (All-from_recursion P rows wide))

pub wide-rows : (n : ℕ) (i : ImageValue) (reads : List Pins) (rows : List (List Bool)) → length i.outputs ≡ n + n → take (length rows) (map (image_row i) reads) ≡ all_repeated Two rows → AreWide n rows
wide-rows n i reads rows outputs is =
    half-wide n rows (subst (λ (rs : List (List Bool)). AreWide (n + n) rs) is
    (taken-wide (n + n) (length rows) (map (image_row i) reads) (subst (λ (k : ℕ). AreWide k (map (image_row i) reads)) outputs (read-wide i reads))))

-- ---- the first rows of those that are repeated

pub first-taken : (rows more : List (List Bool)) → take (length rows) (all_repeated Two rows ++ more) ≡ all_repeated Two rows
first-taken rows more = take_at (all_repeated Two rows) more (length rows) (length-map rows (λ (row : List Bool). row ++ row))

pub all-taken : (rows : List (List Bool)) → take (length rows) (all_repeated Two rows) ≡ all_repeated Two rows
all-taken rows = let size = length-map rows (λ (row : List Bool). row ++ row) in take_all (length rows) (all_repeated Two rows) (omega (arith, size))

pub more-taken : (rows others : List (List Bool)) → take (length rows) (all_repeated Two (rows ++ others)) ≡ all_repeated Two rows
more-taken rows others =
    ap (take (length rows)) (map-append (λ (row : List Bool). row ++ row) rows others) ∙ first-taken rows (all_repeated Two others)

-- ---- a session

module _ (d : DefectList) (draft : NetlistData) (image : ImageValue) (is : IsImageForTwice d draft image) (driven : List (List Bool)) (rig : RigState)
    (config : config_of rig ≡ Some image.config) (drives : drives_of (cycles_of rig) ≡ map (drive_of image) (all_repeated Two driven))
    (widths : All (λ v. length v ≡ length image.inputs) (all_repeated Two driven)) (covers : (f : Faults) → Explains f rig → Covers d.shape d.list f) where
  abbrev n : ℕ
  n = length draft.inputs

  abbrev m : ℕ
  m = length draft.outputs

  abbrev reads : List Pins
  reads = readings_of (cycles_of rig)

  abbrev raw : List (List Bool)
  raw = map (image_row image) reads

  wide : AreWide n driven
  wide = wide-vectors n image driven is.both.inputs widths

  -- what was read is both copies' rows under what explains it
  both-rows : (f : Faults) → Explains f rig → AreBothRows draft draft (all_repeated Two driven) raw
  both-rows f e =
      let run = session_run f rig image.config config e in
      is.both.right f (covers f e) (all_repeated Two driven) reads widths (subst (λ (ds : List Pins). IsRun f image.config ds reads) drives run)

  -- so no halves differ then
  pub never-alarmed : (front rest : List (List Bool)) (reading : List Bool) → raw ≡ front ++ reading ∷ rest → HalvesDiffer reading → (f : Faults) → Explains f rig → ⊥
  never-alarmed front rest reading same apart f e =
      let all = All-from_recursion (λ (v : List Bool). length v ≡ n) driven wide in
      never-differ draft driven front rest reading wide (is.one driven all) (subst (λ (rs : List (List Bool)). AreBothRows draft draft (all_repeated Two driven) rs) same (both-rows f e)) apart

  module _ (rows : List (List Bool)) (readings : take (length rows) raw ≡ all_repeated Two rows) where
    rows-wide : AreWide m rows
    rows-wide = wide-rows m image reads rows is.both.outputs readings

    fronts : take (length rows) (map (take m) raw) ≡ rows
    fronts = take-map (take m) (length rows) raw ∙ (ap (map (take m)) readings ∙ fronts-are m rows rows-wide)

    backs : take (length rows) (map (drop m) raw) ≡ rows
    backs = take-map (drop m) (length rows) raw ∙ (ap (map (drop m)) readings ∙ backs-are m rows rows-wide)

    pub one-copy : AreRightWhileOneIsAlone rig image is.both.first_image is.both.second_image draft driven rows
    one-copy h (inl left) ran =
        let r = first-right d draft draft image is.both (all_repeated Two driven) raw rig widths drives refl (is.both.first_right clean (covers_none clean_faultless)) h (length rows) left ran in
        (r.0, subst (λ (vs : List (List Bool)). AreRows draft vs r.0) (fronts-are n driven wide) r.1, sym fronts ∙ r.2)
    one-copy h (inr left) ran =
        let r = second-right d draft draft image is.both (all_repeated Two driven) raw rig widths drives refl (is.both.second_right clean (covers_none clean_faultless)) h (length rows) left ran in
        (r.0, subst (λ (vs : List (List Bool)). AreRows draft vs r.0) (backs-are n driven wide) r.1, sym backs ∙ r.2)

    pub outputs : (f : Faults) → Explains f rig → AreFirstRows draft driven rows
    outputs f e =
        let r = front-rows draft driven raw wide (both-rows f e) in
        (r.0, r.1, sym fronts ∙ ap (take (length rows)) r.2)

    -- its image is this one
    abbrev pub read-by-both : AreReadByBoth d draft driven rows rig
    read-by-both = record {
      image = image;
      laid = is.both;
      config = config;
      drives = drives;
      readings = readings;
      one_copy_is_enough = one-copy;
      exactly_the_outputs = outputs;
    }

-- the rows of all vectors
pub whole-rows : (draft : NetlistData) (vectors rows : List (List Bool)) → AreWide (length draft.inputs) vectors → AreWide (length draft.outputs) rows → AreBothRows draft draft (all_repeated Two vectors) (all_repeated Two rows) → AreRows draft vectors rows
whole-rows draft vectors rows wide wide_rows both =
    let r = front-rows draft vectors (all_repeated Two rows) wide both in
    subst (λ (rs : List (List Bool)). AreRows draft vectors rs) (sym r.2 ∙ fronts-are (length draft.outputs) rows wide_rows) r.1

-- so rows of a log are the design's, whether or not their session still stands
pub logged-rows : (draft : NetlistData) (d : DefectList) (i : ImageValue) → IsImageForTwice d draft i → (rig : RigState) (driven all rows : List (List Bool)) → AreLaidRows (twice_laid draft) rig i (all_repeated Two driven) (all_repeated Two all)
    → rows ≡ take (length rows) all → (f : Faults) → Explains f rig → AreFirstRows draft driven rows
logged-rows draft d i is rig driven all rows are front f e =
    let read = are.read.read f e in
    let taken : take (length all) (map (image_row i) read.0) ≡ all_repeated Two all = ap (take (length all)) (sym read.2) ∙ all-taken all in
    let wide = wide-vectors (length draft.inputs) i driven is.both.inputs are.read.widths in
    let wide_rows = wide-rows (length draft.outputs) i read.0 all is.both.outputs taken in
    (all, whole-rows draft driven all wide wide_rows (are.right f e), front)
