-- What a turn makes of the machine is what is kept of it.
use Rattle.std.proofs.Common.{◌≡◌, ℕ, suc, Bool, true, false, List, [], ◌∷◌, ◌++◌, length, All, Option, None, Some, refl, sym, ap, ◌∙◌, arith, subst, IfSome, IsSome, is_some, option_map}
use Rattle.rig_port.proofs.Vocabulary.{false≢true, Shape, pins_of, Pins, Configuration, Exchange, Session, drives_of, readings_of, Device}
use Rattle.rig_port.proofs.Vocabulary.{HasRunSession, GoesOnWith, WhereTold, Check, after, line_of, reading_body, reading_line, Answers}
use Rattle.rig_port.proofs.Vocabulary.{Reads, Loads, Drives, start_of, IsLinked, HasTurned, told_with, paired}
use Rattle.rig_board.proofs.Driven.{same_pairs}
use Rattle.rig_port.specs.Requests.{edited, IsEditOf, AreWide, drives_text, led_drives, load_body, load_line}
use Rattle.rig_port.proofs.Alarm.{IsAsked}
use Rattle.rig_port.proofs.Readings.{AreOf, one_reading}

pub drives_paired : (ds rs : List Pins) → length ds ≡ length rs → drives_of (paired ds rs) ≡ ds
drives_paired [] rs e = refl
drives_paired (d ∷ ds) [] e = absurd (omega (arith, e))
drives_paired (d ∷ ds) (r ∷ rs) e = ap (λ l. d ∷ l) (drives_paired ds rs (omega (arith, e)))

pub readings_paired : (ds rs : List Pins) → length ds ≡ length rs → readings_of (paired ds rs) ≡ rs
readings_paired [] [] e = refl
readings_paired [] (r ∷ rs) e = absurd (omega (arith, e))
readings_paired (d ∷ ds) [] e = absurd (omega (arith, e))
readings_paired (d ∷ ds) (r ∷ rs) e = ap (λ l. r ∷ l) (readings_paired ds rs (omega (arith, e)))

pub length_drives : (ps : List Exchange) → length (drives_of ps) ≡ length (readings_of ps)
length_drives [] = refl
length_drives (p ∷ ps) = ap suc (length_drives ps)

-- the pairs that a machine tells are those that were driven and read
read_pairs : (c : Check) (g : Configuration) (cycles : List Exchange) (m : Shape) (drives reads : List Pins) (reply : List ℕ) (e : Device) (now : Check) → e.shape ≡ m
    → length drives ≡ length reads → AreOf (pins_of m) reads → reply ≡ reading_line c reads → (r : Reads c g cycles drives reply e now) → r.pairs ≡ paired drives reads
read_pairs c g cycles m drives reads reply e now shape len wide is r =
    let many : length (readings_of r.pairs) ≡ length reads = sym (length_drives r.pairs) ∙ ap length r.driven ∙ len in
    let wide_too : AreOf (pins_of m) (readings_of r.pairs) = subst (λ s. AreOf (pins_of s) (readings_of r.pairs)) shape r.wide in
    let same = one_reading c (pins_of m) (readings_of r.pairs) reads wide_too wide many (sym r.reply_is ∙ is) in
    same_pairs r.pairs (paired drives reads) (r.driven ∙ sym (drives_paired drives reads len)) (same ∙ sym (readings_paired drives reads len))

-- how a told machine stands after a turn
record IsTurned (now own : Check) (set : Configuration) (pairs : List Exchange) (old e : Device) : Type 0 where
  pub check : now ≡ own
  pub shape : e.shape ≡ set.shape
  pub set_is : set ≡ e.set
  pub session : IsSome e.session
  pub went : GoesOnWith pairs old e

has_session : (s : Option Session) (cycles : List Exchange) → option_map (λ (s : Session). s.cycles) s ≡ Some cycles → IsSome s
has_session None cycles e = cc
has_session (Some s) cycles e = refl

module _ (d e : Device) (c now sent : Check) (set : Configuration) (anew running due : Bool) (line request reply : List ℕ) (drives reads : List Pins) (l : IsLinked (Some d) set line anew running due)
    (asked : IsAsked c set anew due line request drives sent) (len : length drives ≡ length reads) (wide : AreOf (pins_of set.shape) reads) (is : reply ≡ reading_line sent reads)
    (a : Answers d c request reply e now) where
  went_check : (k : Check) (pairs : List Exchange) → sent ≡ k → now ≡ after k (reading_body (readings_of pairs)) → pairs ≡ paired drives reads → now ≡ after sent (reading_body reads)
  went_check k pairs same is all =
      is ∙ ap (λ ps. after k (reading_body (readings_of ps))) all ∙ ap (λ rs. after k (reading_body rs)) (readings_paired drives reads len)
      ∙ ap (λ z. after z (reading_body reads)) (sym same)

  same_shape : e.shape ≡ set.shape
  same_shape = a.shape ∙ l.posted.told.0

  wide_too : AreWide d.shape drives
  wide_too = subst (λ m. AreWide m drives) (sym l.posted.told.0) asked.wide

  loaded : due ≡ true → IsTurned now (after sent (reading_body reads)) set (paired drives reads) (record d { session = Some (record { config = set; cycles = []; spare = 0 }) }) e
  loaded at =
      let edits_too : All (IsEditOf d.shape) l.posted.edits = subst (λ m. All (IsEditOf m) l.posted.edits) (sym l.posted.told.0) l.posted.right in
      let body : line ++ 108 ∷ [] ++ led_drives drives ≡ load_body anew l.posted.edits drives = ap (λ t. t ++ 108 ∷ [] ++ led_drives drives) l.posted.line_is in
      let k = after c (load_body anew l.posted.edits drives) in
      let behind : sent ≡ k = (asked.loads at).check ∙ ap (after c) body in
      let form : request ≡ load_line c anew l.posted.edits drives = (asked.loads at).line_is ∙ ap (line_of c) body in
      let made : Loads k (start_of anew d) l.posted.edits drives reply e now = a.loads anew l.posted.edits drives edits_too wide_too form in
      let set_too : set ≡ e.set = l.posted.told.1 ∙ sym made.set in
      let pairs = read_pairs k e.set [] set.shape drives reads reply e now same_shape len wide (is ∙ ap (λ z. reading_line z reads) behind) made.reads in
      record {
        check = went_check k made.reads.pairs behind made.reads.check pairs;
        shape = same_shape;
        set_is = set_too;
        session = has_session e.session ([] ++ made.reads.pairs) made.reads.session.so_far;
        went = record {
          goes_on = λ g cycles i.
              let config : set ≡ g = let c : Some set ≡ Some g = i.config in cc in
              let none : [] ≡ cycles = let c : Some [] ≡ Some cycles = i.so_far in cc in
              record {
                config = made.reads.session.config ∙ ap Some (sym set_too ∙ config);
                so_far = made.reads.session.so_far ∙ ap (λ ps. Some ([] ++ ps)) pairs ∙ ap (λ cs. Some (cs ++ paired drives reads)) none;
              };
          run = made.reads.run;
        };
      }

  driven : running ≡ true → due ≡ false → IsTurned now (after sent (reading_body reads)) set (paired drives reads) d e
  driven runs idle = by_session d.session refl known.1.1 (a.goes_on drives (asked.some idle, wide_too) (asked.goes idle known.0).line_is) where
    known : (line ≡ []) × ((set ≡ d.set) × IsSome d.session × HasRunSession d)
    known = l.loaded runs idle

    k : Check
    k = after c (drives_text drives)

    behind : sent ≡ k
    behind = (asked.goes idle known.0).check

    by_session : (s : Option Session) → d.session ≡ s → IsSome s → IfSome s (λ s. Drives k d s.config s.cycles drives reply e now) → IsTurned now (after sent (reading_body reads)) set (paired drives reads) d e
    by_session None same some made = absurd (false≢true some)
    by_session (Some s) same some made =
        let pairs = read_pairs k s.config s.cycles set.shape drives reads reply e now same_shape len wide (is ∙ ap (λ z. reading_line z reads) behind) made.reads in
        record {
          check = went_check k made.reads.pairs behind made.reads.check pairs;
          shape = same_shape;
          set_is = known.1.0 ∙ sym made.set;
          session = has_session e.session (s.cycles ++ made.reads.pairs) made.reads.session.so_far;
          went = record {
            goes_on = λ g cycles i.
                let config : s.config ≡ g = let c : Some s.config ≡ Some g = ap (option_map (λ (s : Session). s.config)) (sym same) ∙ i.config in cc in
                let all : s.cycles ≡ cycles = let c : Some s.cycles ≡ Some cycles = ap (option_map (λ (s : Session). s.cycles)) (sym same) ∙ i.so_far in cc in
                record {
                  config = made.reads.session.config ∙ ap Some config;
                  so_far = made.reads.session.so_far ∙ ap (λ ps. Some (s.cycles ++ ps)) pairs ∙ ap (λ cs. Some (cs ++ paired drives reads)) all;
                };
            run = made.reads.run;
          };
        }

  turned : running ≡ true → WhereTold (IsTurned now (after sent (reading_body reads)) set (paired drives reads)) (told_with due set (Some d)) (Some e)
  turned runs = by_due due refl where
    by_due : (b : Bool) → due ≡ b → WhereTold (IsTurned now (after sent (reading_body reads)) set (paired drives reads)) (told_with b set (Some d)) (Some e)
    by_due true at = loaded at
    by_due false at = driven runs at

linked_turned : (set : Configuration) (device : Option Device) → IfSome device (λ e. (e.shape ≡ set.shape) × (set ≡ e.set) × IsSome e.session × HasRunSession e) → IsLinked device set [] false true false
linked_turned set device known = record {
  posted = record {
    edits = [];
    right = λ k e lk. absurd (omega (arith, lk));
    line_is = refl;
    told = parts device known;
  };
  loaded = λ _ _. (refl, rest device known);
} where
  parts : (device : Option Device) → IfSome device (λ e. (e.shape ≡ set.shape) × (set ≡ e.set) × IsSome e.session × HasRunSession e)
      → IfSome device (λ d. (d.shape ≡ set.shape) × (set ≡ edited (start_of false d) []))
  parts None k = tt
  parts (Some e) k = (k.0, k.1)

  rest : (device : Option Device) → IfSome device (λ e. (e.shape ≡ set.shape) × (set ≡ e.set) × IsSome e.session × HasRunSession e)
      → IfSome device (λ d. (set ≡ d.set) × IsSome d.session × HasRunSession d)
  rest None k = tt
  rest (Some e) k = (k.1, k.2, k.3)

-- what stands after a turn
pub record StandsTurned (now own : Check) (set : Configuration) (drives reads : List Pins) (due : Bool) (old new : Option Device) : Type 0 where
  pub linked : IsLinked new set [] false true false
  pub turned : HasTurned drives reads due set old false new
  pub check : IsSome new → now ≡ own

pub turn_stands : (old new : Option Device) (c now sent : Check) (set : Configuration) (anew running due : Bool) (line request reply : List ℕ) (drives reads : List Pins)
    → IsLinked old set line anew running due → IsAsked c set anew due line request drives sent → length drives ≡ length reads → AreOf (pins_of set.shape) reads → reply ≡ reading_line sent reads
    → running ≡ true → WhereTold (λ d e. Answers d c request reply e now) old new → StandsTurned now (after sent (reading_body reads)) set drives reads due old new
turn_stands old new c now sent set anew running due line request reply drives reads l asked len wide is runs w = record {
  linked = linked_turned set new (known old new l w);
  turned = record {
    pairs = paired drives reads;
    driven = drives_paired drives reads len;
    read = readings_paired drives reads len;
    turned = went old new l w;
  };
  check = checked old new l w;
} where
  whole : (d e : Device) → IsLinked (Some d) set line anew running due → Answers d c request reply e now
      → WhereTold (IsTurned now (after sent (reading_body reads)) set (paired drives reads)) (told_with due set (Some d)) (Some e)
  whole d e l w = turned d e c now sent set anew running due line request reply drives reads l asked len wide is w runs

  went : (old new : Option Device) → IsLinked old set line anew running due → WhereTold (λ d e. Answers d c request reply e now) old new
      → WhereTold (GoesOnWith (paired drives reads)) (told_with due set old) (told_with false set new)
  went None new l w = rw w (none due) where
    none : (b : Bool) → WhereTold (GoesOnWith (paired drives reads)) (told_with b set None) None
    none true = refl
    none false = refl
  went (Some d) None l w = absurd w
  went (Some d) (Some e) l w = by_due due (whole d e l w) where
    by_due : (b : Bool) → WhereTold (IsTurned now (after sent (reading_body reads)) set (paired drives reads)) (told_with b set (Some d)) (Some e)
        → WhereTold (GoesOnWith (paired drives reads)) (told_with b set (Some d)) (Some e)
    by_due true t = t.went
    by_due false t = t.went

  known : (old new : Option Device) → IsLinked old set line anew running due → WhereTold (λ d e. Answers d c request reply e now) old new
      → IfSome new (λ e. (e.shape ≡ set.shape) × (set ≡ e.set) × IsSome e.session × HasRunSession e)
  known None new l w = rw w tt
  known (Some d) None l w = absurd w
  known (Some d) (Some e) l w = by_due due (whole d e l w) where
    by_due : (b : Bool) → WhereTold (IsTurned now (after sent (reading_body reads)) set (paired drives reads)) (told_with b set (Some d)) (Some e)
        → (e.shape ≡ set.shape) × (set ≡ e.set) × IsSome e.session × HasRunSession e
    by_due true t = (t.shape, t.set_is, t.session, t.went.run)
    by_due false t = (t.shape, t.set_is, t.session, t.went.run)

  checked : (old new : Option Device) → IsLinked old set line anew running due → WhereTold (λ d e. Answers d c request reply e now) old new → IsSome new
      → now ≡ after sent (reading_body reads)
  checked None new l w some = absurd (let no : None ≡ new = sym w in false≢true (ap is_some no ∙ some))
  checked (Some d) None l w some = absurd w
  checked (Some d) (Some e) l w some = by_due due (whole d e l w) where
    by_due : (b : Bool) → WhereTold (IsTurned now (after sent (reading_body reads)) set (paired drives reads)) (told_with b set (Some d)) (Some e) → now ≡ after sent (reading_body reads)
    by_due true t = t.check
    by_due false t = t.check
