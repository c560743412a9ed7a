-- A session that was made again is the one that was.
use Rattle.std.proofs.Common.{◌≡◌, get_or, ℕ, suc, zero, ◌+◌, ◌≤◌, ◌<◌, Bool, true, false, List, [], ◌∷◌, ◌++◌, length, take, set, All, Option, None, Some, refl, sym, ap, ◌∙◌, arith, subst, IfSome, is_some, option_map, Result, Ok, Err, OnOk, OnErr, ◌⊎◌, inl, inr, ◌-◌}
use Rattle.std.proofs.Math.Bool.{beq}
use lib.Pointwise.{pointwise}
use Rattle.rig_port.proofs.Vocabulary.{false≢true, length-map, length-take-le, take_more_set, length-set, All-set, lengths_kept, Shape}
use Rattle.rig_port.proofs.Vocabulary.{pins_of, Pins, Faults, Configuration, cleared, Rose, Exchange, KeepLengths, drives_of, readings_of}
use Rattle.rig_port.proofs.Vocabulary.{Device, IsInSession, HasRunSession, GoesOnWith, WhereTold, Again, Link, edited, IsEditOf, AreWide}
use Rattle.rig_port.proofs.Vocabulary.{edits_text, AllStandUp, StandsTold, option_map_or, vec_len, vec_capacity, AreCounts, turn_room}
use Rattle.rig_port.proofs.Vocabulary.{IsHeld, IsUp, start_of, PortState, AreEdited, IsPosted, IsLinked, HasTurned, told_with}
use Rattle.rig.specs.Flaky.{both_counts}
use Rattle.rig_board.proofs.Driven.{same_pairs}
use Rattle.rig_port.specs.Turns.{CanTurn}
use Rattle.rig_port.specs.Sessions.{SetsAnew, HasRows, CanResume, HasMade, IsOf, KeepsSession, kept_drives, kept_reads, kept_pairs, paired}
use Rattle.rig_port.proofs.Alarm.{told_map}
use Rattle.rig_port.proofs.Turned.{drives_paired, readings_paired, length_drives}

-- rows whose bits are the same
pub same_bits : (xs ys : List Bool) → pointwise beq xs ys ≡ true → xs ≡ ys
same_bits [] [] e = refl
same_bits [] (y ∷ ys) e = absurd (false≢true e)
same_bits (x ∷ xs) [] e = absurd (false≢true e)
same_bits (true ∷ xs) (true ∷ ys) e = ap (λ l. true ∷ l) (same_bits xs ys e)
same_bits (true ∷ xs) (false ∷ ys) e = absurd (false≢true e)
same_bits (false ∷ xs) (true ∷ ys) e = absurd (false≢true e)
same_bits (false ∷ xs) (false ∷ ys) e = ap (λ l. false ∷ l) (same_bits xs ys e)

-- words that set all anew are posted on every machine of their shape
pub posted_whole : (device : Option Device) (set : Configuration) (whole : List ℕ) → IfSome device (λ d. d.shape ≡ set.shape) → SetsAnew set whole → IsPosted device set whole true
posted_whole device set whole shape a = record { edits = a.edits; right = a.right; line_is = a.line_is; told = told device shape } where
  told : (device : Option Device) → IfSome device (λ d. d.shape ≡ set.shape) → IfSome device (λ d. (d.shape ≡ set.shape) × (set ≡ edited (start_of true d) a.edits))
  told None s = tt
  told (Some d) s = (s, a.set_is ∙ ap (λ m. edited (cleared m) a.edits) (sym s))

pub linked_whole : (device : Option Device) (set : Configuration) (whole line : List ℕ) (anew running due : Bool) → line ≡ whole → anew ≡ true → due ≡ true → IfSome device (λ d. d.shape ≡ set.shape)
    → SetsAnew set whole → IsLinked device set line anew running due
linked_whole device set whole line anew running due is is_anew is_due shape a = record {
  posted = subst (λ b. IsPosted device set line b) (sym is_anew) (subst (λ l. IsPosted device set l true) (sym is) (posted_whole device set whole shape a));
  loaded = λ _ idle. absurd (false≢true (sym idle ∙ is_due));
}

abbrev pub shape_and_faults : Device → Shape × Faults
shape_and_faults d = (d.shape, d.faults)

-- a machine that is told has its shape before and after
pub still_shaped : (m : Shape) (old new : Option Device) → option_map shape_and_faults new ≡ option_map shape_and_faults old
    → IfSome old (λ d. d.shape ≡ m) → IfSome new (λ d. d.shape ≡ m)
still_shaped m None None same is = tt
still_shaped m None (Some e) same is = absurd (false≢true (sym (ap is_some same)))
still_shaped m (Some d) None same is = tt
still_shaped m (Some d) (Some e) same is = let shapes : e.shape ≡ d.shape = first same in shapes ∙ is where
  shape_or : Option (Shape × Faults) → Shape
  shape_or None = m
  shape_or (Some p) = p.0

  first : Some (shape_and_faults e) ≡ Some (shape_and_faults d) → e.shape ≡ d.shape
  first s = ap shape_or s

-- it goes on from a session that is known
went_on : (pairs : List Exchange) (g : Configuration) (cycles : List Exchange) (old new : Option Device) → IfSome old (IsInSession g cycles) → WhereTold (GoesOnWith pairs) old new
    → IfSome new (λ d. IsInSession g (cycles ++ pairs) d × HasRunSession d)
went_on pairs g cycles None new at w = rw w tt
went_on pairs g cycles (Some d) None at w = absurd w
went_on pairs g cycles (Some d) (Some e) at w = (w.goes_on g cycles at, w.run)

-- these pairs are those of the drives and readings
pub turned_pairs : (drives reads : List Pins) (pairs : List Exchange) → drives_of pairs ≡ drives → readings_of pairs ≡ reads → pairs ≡ paired drives reads
turned_pairs drives reads pairs driven read =
    let many : length drives ≡ length reads = sym (ap length driven) ∙ length_drives pairs ∙ ap length read in
    same_pairs pairs (paired drives reads) (driven ∙ sym (drives_paired drives reads many)) (read ∙ sym (readings_paired drives reads many))

-- after a turn behind a session that is known
pub made_more : (drives reads : List Pins) (g : Configuration) (cycles : List Exchange) (due due_now : Bool) (old new : Option Device) → IfSome (told_with due g old) (IsInSession g cycles)
    → HasTurned drives reads due g old due_now new → HasMade g (cycles ++ paired drives reads) due_now new
made_more drives reads g cycles due due_now old new at t =
    subst (λ ps. HasMade g (cycles ++ ps) due_now new) (turned_pairs drives reads t.pairs t.driven t.read)
    (went_on t.pairs g cycles (told_with due g old) (told_with due_now g new) at t.turned)

-- after one behind a load that is due
pub made_first : (drives reads : List Pins) (g : Configuration) (due due_now : Bool) (old new : Option Device) → due ≡ true → HasTurned drives reads due g old due_now new
    → HasMade g (paired drives reads) due_now new
made_first drives reads g due due_now old new is t =
    made_more drives reads g [] true due_now old new (fresh old) (subst (λ b. HasTurned drives reads b g old due_now new) is t) where
      fresh : (old : Option Device) → IfSome (told_with true g old) (IsInSession g [])
      fresh None = tt
      fresh (Some d) = record { config = refl; so_far = refl }

pub in_session : (g : Configuration) (cycles : List Exchange) (due : Bool) (device : Option Device) → HasMade g cycles due device → IfSome (told_with due g device) (IsInSession g cycles)
in_session g cycles due device made = only (told_with due g device) made where
  only : (d : Option Device) → IfSome d (λ d. IsInSession g cycles d × HasRunSession d) → IfSome d (IsInSession g cycles)
  only None m = tt
  only (Some d) m = m.0

-- of two sessions of which one goes on from the other, it was made by these pairs
turned_on : (pairs : List Exchange) (g : Configuration) (cycles : List Exchange) (old new : Option Device) → is_some new ≡ is_some old → IfSome old (IsInSession g cycles)
    → IfSome new (λ d. IsInSession g (cycles ++ pairs) d × HasRunSession d) → WhereTold (GoesOnWith pairs) old new
turned_on pairs g cycles None None same at made = refl
turned_on pairs g cycles None (Some e) same at made = absurd (false≢true (sym same))
turned_on pairs g cycles (Some d) None same at made = absurd (false≢true same)
turned_on pairs g cycles (Some d) (Some e) same at made = record {
  goes_on = λ h more i.
      let config : Some g ≡ Some h = sym at.config ∙ i.config in
      let so_far : Some cycles ≡ Some more = sym at.so_far ∙ i.so_far in
      record { config = made.0.config ∙ config; so_far = made.0.so_far ∙ ap (option_map (λ cs. cs ++ pairs)) so_far };
  run = made.1;
}

still_told : (due : Bool) (g : Configuration) (device : Option Device) → is_some (told_with due g device) ≡ is_some device
still_told true g None = refl
still_told true g (Some d) = refl
still_told false g device = refl

-- what was asked again was turned
pub turned_again : (drives reads : List Pins) (g : Configuration) (cycles : List Exchange) (due due_now : Bool) (old new : Option Device) → length drives ≡ length reads
    → option_map shape_and_faults new ≡ option_map shape_and_faults old → IfSome (told_with due g old) (IsInSession g cycles)
    → HasMade g (cycles ++ paired drives reads) due_now new → HasTurned drives reads due g old due_now new
turned_again drives reads g cycles due due_now old new many same at made = record {
  pairs = paired drives reads;
  driven = drives_paired drives reads many;
  read = readings_paired drives reads many;
  turned = turned_on (paired drives reads) g cycles (told_with due g old) (told_with due_now g new)
      (still_told due_now g new ∙ sym (told_map shape_and_faults new) ∙ ap is_some same ∙ told_map shape_and_faults old ∙ sym (still_told due g old))
      at made;
}

pub paired_more : (a b c d : List Pins) → length a ≡ length c → paired (a ++ b) (c ++ d) ≡ paired a c ++ paired b d
paired_more [] b [] d e = refl
paired_more [] b (r ∷ c) d e = absurd (omega (arith, e))
paired_more (x ∷ a) b [] d e = absurd (omega (arith, e))
paired_more (x ∷ a) b (r ∷ c) d e = ap (λ l. record { drive = x; reading = r } ∷ l) (paired_more a b c d (omega (arith, e)))

-- one row more is kept
pub more_rows : (n : ℕ) (rows : List Pins) (made : ℕ) (row : Pins) (all : List Pins) → made < length rows → take made rows ≡ all → take (made + 1) (set rows made row) ≡ all ++ row ∷ []
more_rows n rows made row all room same = take_more_set rows made row room ∙ ap (λ xs. xs ++ row ∷ []) same

pub wide_more : (n : ℕ) (rows : List Pins) (at : ℕ) (row : Pins) → length row ≡ n → All (λ (r : Pins). length r ≡ n) rows → All (λ (r : Pins). length r ≡ n) (set rows at row)
wide_more n rows at row is wide = All-set (λ (r : Pins). length r ≡ n) rows at row is wide

-- what is kept where it isn't all of a session is nothing to anybody
pub not_covered : (a : Again) (ds rs : List Pins) → a.covers ≡ false → IsOf a ds rs
not_covered a ds rs is = record { driven = λ c. absurd (false≢true (sym is ∙ c)); read = λ c. absurd (false≢true (sym is ∙ c)) }

module _ (k new : Again) (drive reading : Pins) (room : k.made < length k.drives.items) (covers : new.covers ≡ k.covers) (made : new.made ≡ k.made + 1)
    (drives : new.drives.items ≡ set k.drives.items k.made drive) (readings : new.readings.items ≡ set k.readings.items k.made reading) where
  pub kept_more : (n : ℕ) (ds rs : List Pins) → HasRows n k → IsOf k ds rs → IsOf new (ds ++ drive ∷ []) (rs ++ reading ∷ [])
  kept_more n ds rs h is = record {
    driven = λ c. rw (made, drives) (more_rows n k.drives.items k.made drive ds room (is.driven (sym covers ∙ c)));
    read = λ c. rw (made, readings) (more_rows n k.readings.items k.made reading rs (omega (arith, room, h.many)) (is.read (sym covers ∙ c)));
  }

  pub rows_more : (n : ℕ) → new.spare.items ≡ k.spare.items → length drive ≡ n → length reading ≡ n → HasRows n k → HasRows n new
  rows_more n spare drive_pins read_pins h =
      let d : length new.drives.items ≡ length k.drives.items = ap length drives ∙ length-set k.drives.items k.made drive in
      let r : length new.readings.items ≡ length k.readings.items = ap length readings ∙ length-set k.readings.items k.made reading in
      let s : length new.spare.items ≡ length k.spare.items = ap length spare in
      record {
        drives = subst (All (λ (row : Pins). length row ≡ n)) (sym drives) (wide_more n k.drives.items k.made drive drive_pins h.drives);
        readings = subst (All (λ (row : Pins). length row ≡ n)) (sym readings) (wide_more n k.readings.items k.made reading read_pins h.readings);
        spare = subst (All (λ (row : Pins). length row ≡ n)) (sym spare) h.spare;
        many = r ∙ h.many ∙ sym d;
        many_spare = s ∙ h.many_spare ∙ sym d;
        made = omega (arith, room, d, made);
      }

-- the shape, and the counts, of a machine that is told
abbrev pub HasShape : Shape → Option Device → Type 0
HasShape m device = IfSome device (λ d. d.shape ≡ m)

abbrev pub HasCounts : Shape → Option Device → Type 0
HasCounts m device = IfSome device (λ d. AreCounts m.counts → AreCounts d.shape.counts)

pub still_counts : (m : Shape) (old new : Option Device) → option_map shape_and_faults new ≡ option_map shape_and_faults old → HasCounts m old → HasCounts m new
still_counts m None None same is = tt
still_counts m None (Some e) same is = absurd (false≢true (sym (ap is_some same)))
still_counts m (Some d) None same is = tt
still_counts m (Some d) (Some e) same is = λ counts. subst (λ (s : Shape). AreCounts s.counts) (sym (still_shaped d.shape (Some d) (Some e) same refl)) (is counts)

pub shaped_counts : (m : Shape) (device : Option Device) → HasShape m device → HasCounts m device
shaped_counts m None is = tt
shaped_counts m (Some d) is = λ counts. subst (λ (s : Shape). AreCounts s.counts) (sym is) counts

pub plain_counts : (m : Shape) (device : Option Device) → IfSome device (λ d. AreCounts d.shape.counts) → HasCounts m device
plain_counts m None is = tt
plain_counts m (Some d) is = λ _. is

pub told_counts : (m : Shape) (device : Option Device) → AreCounts m.counts → HasCounts m device → IfSome device (λ d. AreCounts d.shape.counts)
told_counts m None counts is = tt
told_counts m (Some d) counts is = is counts

-- a failure that was seen is seen later too
pub rose_still : (a b c : ℕ) → b ≤ c → Rose a b → Rose a c
rose_still a b c le rose = omega (arith, le, rose)

pub alarm_on : (m : Shape) (mid new : Option Device) (a b c : ℕ) → option_map shape_and_faults new ≡ option_map shape_and_faults mid → b ≤ c
    → IfSome mid (λ d. d.shape ≡ m → Rose a b) → IfSome new (λ d. d.shape ≡ m → Rose a c)
alarm_on m None None a b c same le rose = tt
alarm_on m None (Some e) a b c same le rose = absurd (false≢true (sym (ap is_some same)))
alarm_on m (Some d) None a b c same le rose = tt
alarm_on m (Some d) (Some e) a b c same le rose = λ is. rose_still a b c le (rose (sym (still_shaped d.shape (Some d) (Some e) same refl) ∙ is))

pub many_rows : (old new : List Pins) → KeepLengths old new → length new ≡ length old
many_rows old new same = sym (length-map new length) ∙ ap length same ∙ length-map old length

-- the rows beside those that are kept were read anew
pub rows_again : (n : ℕ) (old new : Again) (ys : List Pins) → HasRows n old → KeepLengths old.spare.items ys → new.drives ≡ old.drives → new.readings ≡ old.readings → new.made ≡ old.made
    → new.spare.items ≡ ys → HasRows n new
rows_again n old new ys h keep drives readings made spare =
    let d : length new.drives.items ≡ length old.drives.items = ap (λ v. length v.items) drives in
    let r : length new.readings.items ≡ length old.readings.items = ap (λ v. length v.items) readings in
    let s : length new.spare.items ≡ length old.spare.items = ap length spare ∙ many_rows old.spare.items ys keep in
    record {
      drives = subst (λ v. All (λ (row : Pins). length row ≡ n) v.items) (sym drives) h.drives;
      readings = subst (λ v. All (λ (row : Pins). length row ≡ n) v.items) (sym readings) h.readings;
      spare = subst (All (λ (row : Pins). length row ≡ n)) (sym spare) (lengths_kept (λ l. l ≡ n) old.spare.items ys keep h.spare);
      many = r ∙ h.many ∙ sym d;
      many_spare = s ∙ h.many_spare ∙ sym d;
      made = omega (arith, made, d, h.made);
    }

pub same_pairs_kept : (old new : Again) → KeepsSession old new → kept_pairs new ≡ kept_pairs old
same_pairs_kept old new k =
    ap (λ v. paired (take new.made v.items) (take new.made new.readings.items)) k.drives
    ∙ ap (λ v. paired (take new.made old.drives.items) (take new.made v.items)) k.readings
    ∙ ap (λ n. paired (take n old.drives.items) (take n old.readings.items)) k.made

-- what is kept after a turn is the session
pub resumed : (n : ℕ) (g : Configuration) (due due_now : Bool) (old new : Option Device) (a mid now : Again) (drives reads : List Pins) → HasRows n mid → KeepsSession a mid
    → ((before after : List Pins) → IsOf mid before after → IsOf now (before ++ drives) (after ++ reads)) → (now.covers ≡ true → mid.covers ≡ true)
    → (a.covers ≡ true → IfSome (told_with due g old) (IsInSession g (kept_pairs a))) → HasTurned drives reads due g old due_now new
    → now.covers ≡ true → IfSome (told_with due_now g new) (IsInSession g (kept_pairs now))
resumed n g due due_now old new a mid now drives reads rows past keep covers kept t c =
    subst (λ ps. IfSome (told_with due_now g new) (IsInSession g ps)) (sym pairs)
    (in_session g (kept_pairs a ++ paired drives reads) due_now new (made_more drives reads g (kept_pairs a) due due_now old new (kept (sym past.covers ∙ covers c)) t)) where
      now_is : IsOf now (kept_drives mid ++ drives) (kept_reads mid ++ reads)
      now_is = keep (kept_drives mid) (kept_reads mid) (record { driven = λ _. refl; read = λ _. refl })

      as_many : length (kept_drives mid) ≡ length (kept_reads mid)
      as_many =
          length-take-le mid.made mid.drives.items rows.made
          ∙ sym (length-take-le mid.made mid.readings.items (let le : mid.made ≤ length mid.readings.items = omega (arith, rows.made, rows.many) in le))

      pairs : kept_pairs now ≡ kept_pairs a ++ paired drives reads
      pairs =
          ap (λ l. paired l (kept_reads now)) (now_is.driven c) ∙ ap (λ l. paired (kept_drives mid ++ drives) l) (now_is.read c)
          ∙ paired_more (kept_drives mid) drives (kept_reads mid) reads as_many ∙ ap (λ ps. ps ++ paired drives reads) (same_pairs_kept a mid past)

-- rows that stay
pub rows_stay : (n : ℕ) (old new : Again) → KeepsSession old new → new.spare ≡ old.spare → HasRows n old → HasRows n new
rows_stay n old new k spare h = record {
  drives = subst (λ v. All (λ (row : Pins). length row ≡ n) v.items) (sym k.drives) h.drives;
  readings = subst (λ v. All (λ (row : Pins). length row ≡ n) v.items) (sym k.readings) h.readings;
  spare = subst (λ v. All (λ (row : Pins). length row ≡ n) v.items) (sym spare) h.spare;
  many = ap (λ v. length v.items) k.readings ∙ h.many ∙ sym (ap (λ v. length v.items) k.drives);
  many_spare = ap (λ v. length v.items) spare ∙ h.many_spare ∙ sym (ap (λ v. length v.items) k.drives);
  made = (let d : length new.drives.items ≡ length old.drives.items = ap (λ v. length v.items) k.drives in let m = k.made in let le : new.made ≤ length new.drives.items = omega (arith, d, m, h.made) in le);
}

-- a machine that was just found
pub fresh_resumes : (device : Option Device) (m : Shape) (l : Link) (made now : Again) → l.set.config ≡ cleared m → l.running ≡ false → HasRows (pins_of m) made → KeepsSession made now → now.spare ≡ made.spare
    → CanResume device l now
fresh_resumes device m l made now set idle rows past spare = record {
  rows = subst (λ (g : Configuration). HasRows (pins_of g.shape) now) (sym set) (rows_stay (pins_of m) made now past spare rows);
  whole = λ runs. absurd (false≢true (sym idle ∙ runs));
  kept = λ runs _. absurd (false≢true (sym idle ∙ runs));
}

-- the words that set all anew
pub anew_of : (m : Shape) (g h config : Configuration) (line more : List ℕ) → g ≡ cleared m → line ≡ 122 ∷ 32 ∷ [] → AreEdited g line h more → h ≡ config → config.shape ≡ m → SetsAnew config more
anew_of m g h config line more g_is line_is a h_is shape = record {
  edits = a.edits;
  right = subst (λ (s : Shape). All (IsEditOf s) a.edits) (ap (λ (x : Configuration). x.shape) g_is ∙ sym shape) a.right;
  line_is = a.line_is ∙ ap (λ l. l ++ edits_text a.edits) line_is;
  set_is = sym h_is ∙ a.set_is ∙ ap (λ x. edited x a.edits) (g_is ∙ ap cleared (sym shape));
}

take_none : (xs : List Pins) → take 0 xs ≡ []
take_none [] = refl
take_none (x ∷ xs) = refl

-- a load that was posted
pub posted_resumes : (device : Option Device) (l : Link) (a : Again) → HasRows (pins_of l.set.config.shape) a → SetsAnew l.set.config a.whole.items → a.made ≡ 0 → l.due ≡ true → CanResume device l a
posted_resumes device l a rows whole made due = record {
  rows = rows;
  whole = λ _. whole;
  kept = λ _ _. subst (λ b. IfSome (told_with b l.set.config device) (IsInSession l.set.config (kept_pairs a))) (sym due)
      (subst (λ ps. IfSome (told_with true l.set.config device) (IsInSession l.set.config ps)) (sym none) (fresh device));
} where
  none : kept_pairs a ≡ []
  none = ap (λ n. paired (take n a.drives.items) (take n a.readings.items)) made ∙ ap (λ l. paired l (take 0 a.readings.items)) (take_none a.drives.items)

  fresh : (device : Option Device) → IfSome (told_with true l.set.config device) (IsInSession l.set.config [])
  fresh None = tt
  fresh (Some d) = record { config = refl; so_far = refl }

-- one that wasn't, since memory was lacking
pub lost_resumes : (device : Option Device) (l : Link) (a : Again) → HasRows (pins_of l.set.config.shape) a → l.running ≡ false → CanResume device l a
lost_resumes device l a rows idle = record {
  rows = rows;
  whole = λ runs. absurd (false≢true (sym idle ∙ runs));
  kept = λ runs _. absurd (false≢true (sym idle ∙ runs));
}

-- a board's own count rose, and so did that of both
pub both_rose : {P : Type 0} (a b p q : ℕ) → p ≤ q → P ⊎ Rose a b → P ⊎ Rose (both_counts a p) (both_counts b q)
both_rose a b p q le (inl same) = inl same
both_rose a b p q le (inr rose) = inr (let both : Rose (both_counts a p) (both_counts b q) = omega (arith, le, rose) in both)

-- one that was posted, or wasn't
pub resumes_behind : {T E : Type 0} (r : Result T E) (device : Option Device) (l : Link) (a : Again) (config : Configuration) → HasRows (pins_of l.set.config.shape) a → a.made ≡ 0
    → OnOk r ((l.set.config ≡ config) × (l.running ≡ true) × (l.due ≡ true) × (l.lost ≡ false)) → OnOk r (SetsAnew config a.whole.items)
    → OnErr r ((l.running ≡ false) × (l.due ≡ false) × (l.lost ≡ true)) → CanResume device l a
resumes_behind (Ok _) device l a config rows made posted words lost = posted_resumes device l a rows (subst (λ (s : Configuration). SetsAnew s a.whole.items) (sym posted.0) words) made posted.2
resumes_behind (Err _) device l a config rows made posted words lost = lost_resumes device l a rows lost.0

-- what is held of a link that is there
pub held_here : {l : Link} {o : Option Link} (port : PortState) (found : Option Shape) (again : Again) → Some l ≡ o → IsUp port found o again → IsHeld port found l
held_here {l} port found again there up =
    let both : IsHeld port found l × CanResume port.device l again × AllStandUp l again × StandsTold port l.talk = subst (λ (x : Option Link). IsUp port found x again) (sym there) up in
    both.0

pub running_here : {l : Link} {o : Option Link} → Some l ≡ o → option_map_or (λ (l : Link). l.running) o false ≡ true → l.running ≡ true
running_here there session = ap (λ (o : Option Link). option_map_or (λ (l : Link). l.running) o false) there ∙ session

-- a board in session can make cycles
pub ready_here : {o : Option Link} (port : PortState) (found : Option Shape) (again : Again) (l : Link) (drives : List Pins) → Some l ≡ o → IsUp port found o again
    → option_map_or (λ (l : Link). l.running) o false ≡ true → AreWide l.set.config.shape drives → CanTurn port l drives
ready_here port found again l drives there up session wide =
    let h = held_here port found again there up in
    let runs : l.running ≡ true = ap (λ (o : Option Link). option_map_or (λ (l : Link). l.running) o false) there ∙ session in
    record {
      is_open = h.is_open;
      linked = h.linked (not_lost l.lost refl h runs);
      running = runs;
      wide = wide;
      check = h.check;
      room = h.room;
    } where
      not_lost : (b : Bool) → l.lost ≡ b → IsHeld port found l → l.running ≡ true → l.lost ≡ false
      not_lost false is h runs = is
      not_lost true is h runs = absurd (false≢true (sym (h.running is) ∙ runs))

-- rows as wide as what was found are as wide as what is linked
pub wide_here : {o : Option Link} (port : PortState) (found : Option Shape) (again : Again) (l : Link) (rows : List Pins) → Some l ≡ o → IsUp port found o again
    → All (λ (row : Pins). option_map pins_of found ≡ Some (length row)) rows → AreWide l.set.config.shape rows
wide_here port found again l rows there up wide =
    let h = held_here port found again there up in
    λ k d lt.
    let one : Some (pins_of l.set.config.shape) ≡ Some (length (get_or rows k d)) = sym (ap (option_map pins_of) h.shape) ∙ wide k d lt in
    number_of (length (get_or rows k d)) one where
      number_or : Option ℕ → ℕ
      number_or None = 0
      number_or (Some n) = n

      number_of : (n : ℕ) → Some (pins_of l.set.config.shape) ≡ Some n → n ≡ pins_of l.set.config.shape
      number_of n e = sym (ap number_or e)

-- of one row alone
pub one_row : {found : Option ℕ} (rows : List Pins) (row : Pins) → rows ≡ row ∷ [] → found ≡ Some (length row) → All (λ (r : Pins). found ≡ Some (length r)) rows
one_row {found} rows row is wide = subst (All (λ (r : Pins). found ≡ Some (length r))) (sym is) (only (λ (r : Pins). found ≡ Some (length r)) wide) where
  only : (P : Pins → Type 0) → P row → All P (row ∷ [])
  only P p zero d lt = p
  only P p (suc k) d lt = absurd (omega (arith, lt))

-- a load was posted, or wasn't, since memory was lacking
pub posted_held : {T E : Type 0} (r : Result T E) (port : PortState) (found : Option Shape) (old new : Link) (config : Configuration) → IsHeld port found old
    → new.set.config.shape ≡ old.set.config.shape → new.expected ≡ old.expected → new.check ≡ old.check
    → OnOk r (vec_len new.line + turn_room (pins_of new.set.config.shape) ≤ vec_capacity new.line)
    → OnOk r ((device : Option Device) → IfSome device (λ d. d.shape ≡ old.set.config.shape) → (old.lost ≡ false → IsPosted device old.set.config old.line.items old.anew)
    → IsPosted device new.set.config new.line.items new.anew)
    → OnOk r ((new.set.config ≡ config) × (new.running ≡ true) × (new.due ≡ true) × (new.lost ≡ false))
    → OnErr r ((new.running ≡ false) × (new.due ≡ false) × (new.lost ≡ true)) → IsHeld port found new
posted_held r port found old new config h shape expected check room linked posted lost = by_result r room linked posted lost where
  told : IfSome port.device (λ d. d.shape ≡ new.set.config.shape)
  told = subst (λ (s : Shape). IfSome port.device (λ d. d.shape ≡ s)) (sym shape) h.told

  same_room : turn_room (pins_of new.set.config.shape) ≤ vec_capacity new.expected
  same_room = subst (λ v. turn_room (pins_of new.set.config.shape) ≤ vec_capacity v) (sym expected)
      (subst (λ (s : Shape). turn_room (pins_of s) ≤ vec_capacity old.expected) (sym shape) h.room.expected)

  by_result : {T E : Type 0} (r : Result T E) → OnOk r (vec_len new.line + turn_room (pins_of new.set.config.shape) ≤ vec_capacity new.line)
      → OnOk r ((device : Option Device) → IfSome device (λ d. d.shape ≡ old.set.config.shape) → (old.lost ≡ false → IsPosted device old.set.config old.line.items old.anew)
      → IsPosted device new.set.config new.line.items new.anew)
      → OnOk r ((new.set.config ≡ config) × (new.running ≡ true) × (new.due ≡ true) × (new.lost ≡ false))
      → OnErr r ((new.running ≡ false) × (new.due ≡ false) × (new.lost ≡ true)) → IsHeld port found new
  by_result (Ok _) room linked posted lost = record {
    is_open = h.is_open;
    shape = h.shape ∙ ap Some (sym shape);
    told = told;
    linked = λ _. record {
      posted = linked port.device h.told (λ kept. (h.linked kept).posted);
      loaded = λ _ idle. absurd (false≢true (sym idle ∙ posted.2));
    };
    running = λ gone. absurd (false≢true (sym posted.3 ∙ gone));
    check = λ some. h.check some ∙ sym check;
    room = record { line = λ _. room; expected = same_room };
  }
  by_result (Err _) room linked posted lost = record {
    is_open = h.is_open;
    shape = h.shape ∙ ap Some (sym shape);
    told = told;
    linked = λ kept. absurd (false≢true (sym kept ∙ lost.2));
    running = λ _. lost.0;
    check = λ some. h.check some ∙ sym check;
    room = record { line = λ runs. absurd (false≢true (sym lost.0 ∙ runs)); expected = same_room };
  }

-- the rows are those of the shape that was found, and stay beside new words
pub rows_beside : (m n : Shape) (old new : Again) → n ≡ m → new.drives ≡ old.drives → new.readings ≡ old.readings → new.spare ≡ old.spare → new.made ≡ 0 → HasRows (pins_of m) old → HasRows (pins_of n) new
rows_beside m n old new same drives readings spare made h = subst (λ s. HasRows (pins_of s) new) (sym same) (record {
  drives = subst (λ v. All (λ (row : Pins). length row ≡ pins_of m) v.items) (sym drives) h.drives;
  readings = subst (λ v. All (λ (row : Pins). length row ≡ pins_of m) v.items) (sym readings) h.readings;
  spare = subst (λ v. All (λ (row : Pins). length row ≡ pins_of m) v.items) (sym spare) h.spare;
  many = ap (λ v. length v.items) readings ∙ h.many ∙ sym (ap (λ v. length v.items) drives);
  many_spare = ap (λ v. length v.items) spare ∙ h.many_spare ∙ sym (ap (λ v. length v.items) drives);
  made = (let le : new.made ≤ length new.drives.items = omega (arith, made) in le);
})
