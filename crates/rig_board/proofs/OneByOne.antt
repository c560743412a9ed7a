-- Several cycles, made one after the other.
use Rattle.std.proofs.Common.{◌≡◌, ℕ, suc, zero, ◌+◌, ◌<◌, List, [], ◌∷◌, ◌++◌, map, length, take, get_or, set, All, Option, None, Some, refl, sym, ap, ◌∙◌, arith, subst}
use Rattle.std.proofs.{lemmas.List.append_assoc, Math.Seq.take-suc, Math.Seq.take-suc-set}
use Rattle.rig_board.proofs.Vocabulary.{Pins, Configuration, BoardState, HasCycled, HasCycledAll}
use Rattle.rig.specs.Rig.{Exchange, KeepLengths, drives_of, readings_of}
use Rattle.rig_board.specs.Device.{Device, IsInSession, GoesOnWith, WhereTold}

-- what holds of the lengths of rows holds of those of rows that keep them
pub lengths_kept : (P : ℕ → Type 0) (old new : List Pins) → KeepLengths old new → All (λ row. P (length row)) old → All (λ row. P (length row)) new
lengths_kept P [] [] e all = all
lengths_kept P [] (y ∷ ys) e all = cc
lengths_kept P (x ∷ xs) [] e all = cc
lengths_kept P (x ∷ xs) (y ∷ ys) e all =
    let tails : map length ys ≡ map length xs = cc in
    at (lengths_kept P xs ys tails (λ j d lj. all (suc j) d (omega (arith, lj)))) where
      head : length x ≡ length y
      head = cc

      at : All (λ row. P (length row)) ys → (k : ℕ) (d : Pins) → k < length (y ∷ ys) → P (length (get_or (y ∷ ys) k d))
      at rest zero d lt = subst P head (all 0 d (omega arith))
      at rest (suc k) d lt = rest k d (omega (arith, lt))

-- so rows fit where they fitted
pub rows_kept : (w : Option ℕ) (old new : List Pins) → KeepLengths old new → All (λ row. w ≡ Some (length row)) old → All (λ row. w ≡ Some (length row)) new
rows_kept w = lengths_kept (λ l. w ≡ Some l)

-- one row is read anew
pub lengths_set : (old now : List Pins) (k : ℕ) (d row : Pins) → k < length now → length row ≡ length (get_or now k d) → KeepLengths old now → KeepLengths old (set now k row)
lengths_set old now k d row lt same e = same_map now k lt same ∙ e where
  same_map : (now : List Pins) (k : ℕ) → k < length now → length row ≡ length (get_or now k d) → map length (set now k row) ≡ map length now
  same_map [] k lt same = refl
  same_map (x ∷ xs) zero lt same = ap (λ n. n ∷ map length xs) same
  same_map (x ∷ xs) (suc k) lt same = ap (λ l. length x ∷ l) (same_map xs k (omega (arith, lt)) same)

pub drives_more : (ps qs : List Exchange) → drives_of (ps ++ qs) ≡ drives_of ps ++ drives_of qs
drives_more [] qs = refl
drives_more (p ∷ ps) qs = ap (λ l. p.drive ∷ l) (drives_more ps qs)

pub readings_more : (ps qs : List Exchange) → readings_of (ps ++ qs) ≡ readings_of ps ++ readings_of qs
readings_more [] qs = refl
readings_more (p ∷ ps) qs = ap (λ l. p.reading ∷ l) (readings_more ps qs)

-- pairs behind pairs
pub told_more : (ps qs : List Exchange) (old mid new : Option Device) → WhereTold (GoesOnWith ps) old mid → WhereTold (GoesOnWith qs) mid new → WhereTold (GoesOnWith (ps ++ qs)) old new
told_more ps qs None mid new a b = by_mid mid a b where
  by_mid : (mid : Option Device) → mid ≡ None → WhereTold (GoesOnWith qs) mid new → new ≡ None
  by_mid None a b = b
  by_mid (Some m) a b = cc
told_more ps qs (Some d) None new a b = absurd a
told_more ps qs (Some d) (Some m) None a b = absurd b
told_more ps qs (Some d) (Some m) (Some e) a b = record {
  goes_on = λ g cycles i. subst (λ l. IsInSession g l e) (append_assoc cycles ps qs) (b.goes_on g (cycles ++ ps) (a.goes_on g cycles i));
  run = b.run;
}

pub cycled_more : (drives reads more rest : List Pins) (old mid new : BoardState) → HasCycledAll drives reads old mid → HasCycledAll more rest mid new → HasCycledAll (drives ++ more) (reads ++ rest) old new
cycled_more drives reads more rest old mid new a b = record {
  pairs = a.pairs ++ b.pairs;
  driven = drives_more a.pairs b.pairs ∙ ap (λ l. l ++ drives_of b.pairs) a.driven ∙ ap (λ l. drives ++ l) b.driven;
  read = readings_more a.pairs b.pairs ∙ ap (λ l. l ++ readings_of b.pairs) a.read ∙ ap (λ l. reads ++ l) b.read;
  cycled = record {
    ready = b.cycled.ready;
    told = told_more a.pairs b.pairs old.device mid.device new.device a.cycled.told b.cycled.told;
  };
}

-- one more cycle
pub cycled_next : (drives reads : List Pins) (k : ℕ) (d drive row : Pins) (old mid new : BoardState) → k < length drives → k < length reads → drive ≡ get_or drives k d
    → HasCycledAll (take k drives) (take k reads) old mid → HasCycled (record { drive = drive; reading = row } ∷ []) mid new
    → HasCycledAll (take (k + 1) drives) (take (k + 1) (set reads k row)) old new
cycled_next drives reads k d drive row old mid new lt within at a b =
    let next : suc k ≡ k + 1 = omega arith in
    let one : HasCycledAll (drive ∷ []) (row ∷ []) mid new = record { pairs = record { drive = drive; reading = row } ∷ []; driven = refl; read = refl; cycled = b } in
    let driven : take k drives ++ drive ∷ [] ≡ take (k + 1) drives = ap (λ x. take k drives ++ x ∷ []) at ∙ sym (take-suc drives k d lt) ∙ ap (λ n. take n drives) next in
    let read : take k reads ++ row ∷ [] ≡ take (k + 1) (set reads k row) = sym (take-suc-set reads k row within) ∙ ap (λ n. take n (set reads k row)) next in
    subst (λ l. HasCycledAll l (take (k + 1) (set reads k row)) old new) driven
    (subst (λ l. HasCycledAll (take k drives ++ drive ∷ []) l old new) read (cycled_more (take k drives) (take k reads) (drive ∷ []) (row ∷ []) old mid new a one))
