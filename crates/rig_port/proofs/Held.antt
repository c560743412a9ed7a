-- What is kept of a machine goes with it.
use Rattle.std.proofs.Common.{◌≡◌, ℕ, suc, zero, ◌+◌, ◌-◌, ◌≤◌, Bool, true, false, List, [], ◌∷◌, ◌++◌, map, take, drop, length, get_or, All, Option, None, Some, refl, sym, ap, ◌∙◌, arith, subst, IfSome, IsSome, Result, Ok, Err, OnOk}
use Rattle.rig_port.proofs.Vocabulary.{false≢true, All-append, fold-append, flat_map-append, take-append_seam, option_map_or, vec_capacity}
use Rattle.rig_port.proofs.Vocabulary.{Shape, pins_of, Pins, Exchange, KeepLengths, drives_of, readings_of, Device, HasRunSession}
use Rattle.rig_port.proofs.Vocabulary.{GoesOnWith, WhereTold, told_more, drives_more, readings_more, Link, turn_room, start_of, PortState}
use Rattle.rig_port.proofs.Vocabulary.{AreEdited, IsPosted, IsLinked, HasTurned, told_with, IsHeld}
use Rattle.std.proofs.lemmas.List.{append-nil, append_assoc, map-append, length-map, length-drop, length-take, length-take-le, take_all, take-append-drop}
use Rattle.std.proofs.lemmas.Slice.{take-put_mid}
use Rattle.machine_config.specs.Vocabulary.{Configuration, cleared, circuit_of, none, at_load}
use borrow.Rule.Slice.PartMut.{mid_of, post_of, put_mid, put_same}
use Rattle.rig_port.specs.Requests.{edited, edited_by, edits_text, start_text, IsEditOf}
use Rattle.rig_port.proofs.Alarm.{told_here}
use Rattle.rig_port.proofs.Edited.{spelled}

nothing : {X : Type 0} (P : X → Type 0) → All P []
nothing P k e lk = absurd (omega (arith, lk))

-- all was cleared
pub posted_anew : (device : Option Device) (m : Shape) (set : Configuration) (line : List ℕ) → IfSome device (λ d. d.shape ≡ m) → set ≡ cleared m → line ≡ 122 ∷ 32 ∷ []
    → IsPosted device set line true
posted_anew device m set line shape set_is line_is = record {
  edits = [];
  right = nothing (IsEditOf set.shape);
  line_is = line_is;
  told = told device shape;
} where
  told : (device : Option Device) → IfSome device (λ d. d.shape ≡ m) → IfSome device (λ d. (d.shape ≡ set.shape) × (set ≡ cleared d.shape))
  told None s = tt
  told (Some d) s = (s ∙ sym (ap (λ g. g.shape) set_is), set_is ∙ ap cleared (sym s))

-- more edits behind those
pub more_posted : (device : Option Device) (g h : Configuration) (line more : List ℕ) (anew : Bool) → h.shape ≡ g.shape → IsPosted device g line anew → AreEdited g line h more → IsPosted device h more anew
more_posted device g h line more anew same p a = record {
  edits = p.edits ++ a.edits;
  right = subst (λ m. All (IsEditOf m) (p.edits ++ a.edits)) (sym same) (All-append (IsEditOf g.shape) p.edits a.edits p.right a.right);
  line_is = a.line_is ∙ ap (λ l. l ++ edits_text a.edits) p.line_is ∙ append_assoc (start_text anew) (edits_text p.edits) (edits_text a.edits)
      ∙ ap (λ l. start_text anew ++ l) (sym (flat_map-append spelled p.edits a.edits));
  told = told device p.told;
} where
  told : (device : Option Device) → IfSome device (λ d. (d.shape ≡ g.shape) × (g ≡ edited (start_of anew d) p.edits))
      → IfSome device (λ d. (d.shape ≡ h.shape) × (h ≡ edited (start_of anew d) (p.edits ++ a.edits)))
  told None t = tt
  told (Some d) t = (t.0 ∙ sym same, a.set_is ∙ ap (λ s. edited s a.edits) t.1 ∙ sym (fold-append edited_by (start_of anew d) p.edits a.edits))

-- a machine that was just found
pub fresh_held : (port : PortState) (m : Shape) (l : Link) → port.is_open ≡ true → l.set.config ≡ cleared m → l.line.items ≡ [] → l.anew ≡ false → l.running ≡ false
    → IfSome port.device (λ d. (d.shape ≡ m) × (d.set ≡ cleared m)) → turn_room (pins_of m) ≤ vec_capacity l.expected
    → (IsSome port.device → port.check ≡ l.check) → IsHeld port (Some m) l
fresh_held port m l opened set line anew running known room check = record {
  is_open = opened;
  shape = ap (λ g. Some g.shape) (sym set);
  told = shapes port.device known;
  linked = λ _. record {
    posted = record {
      edits = [];
      right = nothing (IsEditOf l.set.config.shape);
      line_is = line ∙ ap (λ b. start_text b ++ []) (sym anew);
      told = sets port.device known;
    };
    loaded = λ runs _. absurd (false≢true (sym running ∙ runs));
  };
  running = λ _. running;
  check = check;
  room = record {
    line = λ runs. absurd (false≢true (sym running ∙ runs));
    expected = subst (λ g. turn_room (pins_of g.shape) ≤ vec_capacity l.expected) (sym set) room;
  };
} where
  shapes : (device : Option Device) → IfSome device (λ d. (d.shape ≡ m) × (d.set ≡ cleared m)) → IfSome device (λ d. d.shape ≡ l.set.config.shape)
  shapes None k = tt
  shapes (Some d) k = k.0 ∙ sym (ap (λ g. g.shape) set)

  sets : (device : Option Device) → IfSome device (λ d. (d.shape ≡ m) × (d.set ≡ cleared m))
      → IfSome device (λ d. (d.shape ≡ l.set.config.shape) × (l.set.config ≡ edited (start_of l.anew d) []))
  sets None k = tt
  sets (Some d) k = (k.0 ∙ sym (ap (λ g. g.shape) set), set ∙ sym k.1 ∙ ap (λ b. start_of b d) (sym anew))

-- a turn of one cycle
pub cycled_one : (pairs : List Exchange) (drives reads : List Pins) (drive d : Pins) (old new : Option Device) → drives_of pairs ≡ drives → readings_of pairs ≡ reads → drives ≡ drive ∷ []
    → WhereTold (GoesOnWith pairs) old new → WhereTold (GoesOnWith (record { drive = drive; reading = get_or reads 0 d } ∷ [])) old new
cycled_one pairs drives reads drive d old new driven read one w = subst (λ ps. WhereTold (GoesOnWith ps) old new) (same pairs reads (driven ∙ one) read) w where
  same : (pairs : List Exchange) (reads : List Pins) → drives_of pairs ≡ drive ∷ [] → readings_of pairs ≡ reads → pairs ≡ record { drive = drive; reading = get_or reads 0 d } ∷ []
  same [] reads driven read = cc
  same (p ∷ []) reads driven read =
      let at : p.drive ≡ drive = cc in
      let got : p.reading ≡ get_or reads 0 d = ap (λ l. get_or l 0 d) read in
      ap (λ (x : Pins). record { drive = x; reading = p.reading } ∷ []) at ∙ ap (λ (x : Pins). record { drive = drive; reading = x } ∷ []) got
  same (p ∷ q ∷ ps) reads driven read = let no : drives_of (q ∷ ps) ≡ [] = cc in cc

-- what a turn left, as the board tells it
pub told_on : {link : Link} {o : Option Link} {told : Option Device} {set : Configuration} (pairs : List Exchange) (device now : Option Device) (due : Bool) → Some link ≡ o → option_map_or (λ (l : Link). told_with l.due l.set.config device) o device ≡ told →
    set ≡ link.set.config → WhereTold (GoesOnWith pairs) (told_with link.due link.set.config device) (told_with due link.set.config now) → WhereTold (GoesOnWith pairs) told (told_with due set now)
told_on {link} {told = told} pairs device now due there is same turned =
    subst (λ (s : Configuration). WhereTold (GoesOnWith pairs) told (told_with due s now)) (sym same)
    (subst (λ (d : Option Device). WhereTold (GoesOnWith pairs) d (told_with due link.set.config now)) (told_here device there is) turned)

-- turns one after another
pub turned_more : (set : Configuration) (d1 d2 r1 r2 : List Pins) (due mid_due new_due : Bool) (old mid new : Option Device) → HasTurned d1 r1 due set old mid_due mid → HasTurned d2 r2 mid_due set mid new_due new
    → HasTurned (d1 ++ d2) (r1 ++ r2) due set old new_due new
turned_more set d1 d2 r1 r2 due mid_due new_due old mid new a b = record {
  pairs = a.pairs ++ b.pairs;
  driven = drives_more a.pairs b.pairs ∙ ap (λ l. l ++ drives_of b.pairs) a.driven ∙ ap (λ l. d1 ++ l) b.driven;
  read = readings_more a.pairs b.pairs ∙ ap (λ l. l ++ readings_of b.pairs) a.read ∙ ap (λ l. r1 ++ l) b.read;
  turned = told_more a.pairs b.pairs (told_with due set old) (told_with mid_due set mid) (told_with new_due set new) a.turned b.turned;
}

-- no turn at all
pub not_turned : (set : Configuration) (line : List ℕ) (anew running due : Bool) (device : Option Device) → IsLinked device set line anew running due → running ≡ true
    → HasTurned [] [] due set device due device
not_turned set line anew running due device l runs = record { pairs = []; driven = refl; read = refl; turned = stays device due refl l } where
  same : (d : Device) → HasRunSession d → GoesOnWith [] d d
  same d run = record { goes_on = λ g cycles i. record { config = i.config; so_far = i.so_far ∙ ap Some (sym (append-nil cycles)) }; run = run }

  stays : (device : Option Device) (b : Bool) → due ≡ b → IsLinked device set line anew running due → WhereTold (GoesOnWith []) (told_with b set device) (told_with b set device)
  stays None true e l = refl
  stays None false e l = refl
  stays (Some d) true e l = same (record d { session = Some (record { config = set; cycles = []; spare = 0 }) }) (record { outputs = at_load (circuit_of d.faults set); cycles = none })
  stays (Some d) false e l = same d (l.loaded runs e).1.2

-- rows in the middle are read anew
pub put_lengths : (a k : ℕ) (begun rows ys : List Pins) → KeepLengths begun rows → KeepLengths (mid_of a k rows) ys → KeepLengths begun (put_mid a k rows ys)
put_lengths a k begun rows ys keep same =
    let behind = post_of a k rows in
    map-append length (take a rows) (ys ++ behind)
    ∙ ap (λ l. map length (take a rows) ++ l) (map-append length ys behind ∙ ap (λ l. l ++ map length behind) same ∙ sym (map-append length (mid_of a k rows) behind))
    ∙ sym (map-append length (take a rows) (mid_of a k rows ++ behind))
    ∙ ap (λ (l : List Pins). map length l) (put_same a k rows)
    ∙ keep

abbrev no_rows : List Pins
no_rows = []

none_left : (n : ℕ) → take n no_rows ≡ no_rows
none_left zero = refl
none_left (suc n) = refl

split_take : (xs : List Pins) (a k n : ℕ) → n ≡ a + k → take a xs ++ take k (drop a xs) ≡ take n xs
split_take [] zero k n e = none_left k ∙ sym (none_left n)
split_take [] (suc a) k n e = none_left k ∙ sym (none_left n)
split_take (x ∷ xs) zero k n e = ap (λ m. take m (x ∷ xs)) (let same : k ≡ n = omega (arith, e) in same)
split_take (x ∷ xs) (suc a) k zero e = absurd (omega (arith, e))
split_take (x ∷ xs) (suc a) k (suc n) e = ap (λ l. x ∷ l) (split_take xs a k n (omega (arith, e)))

-- as many rows come as were asked for
pub mid_length : (a k : ℕ) (rows ys : List Pins) → KeepLengths (mid_of a k rows) ys → a + k ≤ length rows → length ys ≡ k
mid_length a k rows ys same within =
    let left : length (drop a rows) ≡ length rows - a = length-drop a rows in
    sym (length-map ys length) ∙ ap length same ∙ length-map (mid_of a k rows) length ∙ length-take-le k (drop a rows) (omega (arith, left, within))

-- one more turn
pub turned_next : (set other : Configuration) (drives rows ys : List Pins) (at end : ℕ) (due mid_due new_due : Bool) (old mid new : Option Device) → other ≡ set → at ≤ end → end ≤ length rows
    → KeepLengths (mid_of at (end - at) rows) ys → HasTurned (take at drives) (take at rows) due set old mid_due mid → HasTurned (take (end - at) (drop at drives)) ys mid_due other mid new_due new
    → HasTurned (take end drives) (take end (put_mid at (end - at) rows ys)) due set old new_due new
turned_next set other drives rows ys at end due mid_due new_due old mid new same le within keep a b =
    let many : length ys ≡ end - at = mid_length at (end - at) rows ys keep (omega (arith, le, within)) in
    let read : take end (put_mid at (end - at) rows ys) ≡ take at rows ++ ys = take-put_mid at (end - at) rows ys end (omega (arith, many, le)) (omega (arith, le, within)) in
    let more : HasTurned (take (end - at) (drop at drives)) ys mid_due set mid new_due new
    = subst (λ (s : Configuration). HasTurned (take (end - at) (drop at drives)) ys mid_due s mid new_due new) same b in
    subst (λ (l : List Pins). HasTurned (take end drives) l due set old new_due new) (sym read)
    (subst (λ (l : List Pins). HasTurned l (take at rows ++ ys) due set old new_due new) (split_take drives at (end - at) end (omega (arith, le)))
    (turned_more set (take at drives) (take (end - at) (drop at drives)) (take at rows) ys due mid_due new_due old mid new a more))

-- the first rows are read anew
pub front_lengths : (count : ℕ) (rows ys : List Pins) → KeepLengths (take count rows) ys → KeepLengths rows (ys ++ drop count rows)
front_lengths count rows ys same =
    map-append length ys (drop count rows)
    ∙ (ap (λ (ns : List ℕ). ns ++ map length (drop count rows)) same
    ∙ (sym (map-append length (take count rows) (drop count rows)) ∙ ap (λ (l : List Pins). map length l) (take-append-drop count rows)))

-- a buffer that was lent as a whole
pub seam : {X : Type 0} (now old : List X) (len : ℕ) → length now ≡ length old → len ≡ length old → take len (now ++ drop (length now) old) ≡ now
seam now old len same is = ap (λ n. take n (now ++ drop (length now) old)) (is ∙ sym same) ∙ take-append_seam now (drop (length now) old)

pub any_ok : {T E : Type 0} (r : Result T E) (P : Type 0) → P → OnOk r P
any_ok (Ok x) P p = p
any_ok (Err x) P p = tt

-- all rows to the end were turned
pub whole_turned : (drives reads : List Pins) (set : Configuration) (at : ℕ) (due due_now : Bool) (old new : Option Device) → length drives ≤ at → length reads ≤ at
    → HasTurned (take at drives) (take at reads) due set old due_now new → HasTurned drives reads due set old due_now new
whole_turned drives reads set at due due_now old new over over_too t =
    subst (λ ds. HasTurned ds reads due set old due_now new) (take_all at drives over) (subst (λ rs. HasTurned (take at drives) rs due set old due_now new) (take_all at reads over_too) t)

-- pieces at one place of rows that are as many
pub same_piece : (xs ys : List Pins) (at k : ℕ) → length xs ≡ length ys → length (take k (drop at xs)) ≡ length (take k (drop at ys))
same_piece xs ys at k same =
    let a = length-take k (drop at xs) in
    let b = length-take k (drop at ys) in
    let c = length-drop at xs in
    let d = length-drop at ys in
    omega (arith, a, b, c, d, same)
