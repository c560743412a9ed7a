-- What a rig answers as the other end of a port.
use Rattle.std.proofs.Common.{◌≡◌, ℕ, suc, zero, ◌+◌, ◌^◌, ◌<◌, ◌≤◌, Bool, true, false, List, [], ◌∷◌, ◌++◌, length, map, All, Option, None, Some, refl, sym, ap, ◌∙◌, arith, subst, IfSome, IsSome, option_map, if◌then◌else◌}
use Rattle.rig_port.proofs.Vocabulary.{false≢true, length-map, option_map_or, Shape, pins_of, Pins, Faults, lengths_kept, Device}
use Rattle.rig_port.proofs.Vocabulary.{IsInSession, HasRunSession, WhereTold, Check, fresh_check, after, line_of, counts_body, counts_line}
use Rattle.rig_port.proofs.Vocabulary.{reading_body, reading_line, Answers, Reads, IsFresh, Loads, Drives, start_of}
use Rattle.machine_config.specs.Vocabulary.{Configuration, cleared, IsRun}
use Rattle.rig.specs.Rig.{RigState, Exchange, Session, Asked, GoesOnBy, shape_of, config_of, cycles_of, drives_of, readings_of, IsTold, KeepLengths}
use Rattle.rig_port.specs.Requests.{Edit, edited, IsEditOf, AreWide, AreDrivesOf, attach_body, load_body, drives_text, attach_line, load_line, drives_line}
use Rattle.rig_port.specs.declared.wanted.{Change.Change, Wanted.Wanted}
use Rattle.rig_port.specs.RigPorts.{IsNoRequest, IsShort, asks_counts, asks_load, asks_cycles, IsWantedOf, edit_of, edits_of, wanted_body, wanted_line, rig_device, IsDriven, IsAnswered, IsReady, start_from}
use Rattle.rig_port.proofs.Room.{length_line}
use Rattle.rig_port.proofs.Requested.{AreEditsOf, IsSameLoad, attach_no_load, attach_no_drives, load_no_drives, one_number, one_load, one_drives_line}

-- an answer to one form is an answer
pub attach_answers : (d e : Device) (c now : Check) (n : ℕ) (request reply : List ℕ) → e.shape ≡ d.shape → e.faults ≡ d.faults → n < 2 ^ 32 → request ≡ attach_line n → IsFresh n d.shape reply e now
    → Answers d c request reply e now
attach_answers d e c now n request reply shape faults few asked fresh = record {
  shape = shape;
  faults = faults;
  attaches = λ k other is. subst (λ (i : ℕ). IsFresh i d.shape reply e now) (one_number n k few other (sym asked ∙ is)) fresh;
  loads = λ anew edits drives _ _ is. absurd (attach_no_load c n anew edits drives (sym asked ∙ is));
  goes_on = λ drives right is. absurd (attach_no_drives d.shape c n drives right (sym asked ∙ is));
}

load_answers : (d e : Device) (c now : Check) (request reply : List ℕ) (anew : Bool) (es : List Edit) (ds : List Pins) → e.shape ≡ d.shape → e.faults ≡ d.faults
    → AreEditsOf d.shape es → AreWide d.shape ds → request ≡ load_line c anew es ds → Loads (after c (load_body anew es ds)) (start_of anew d) es ds reply e now
    → Answers d c request reply e now
load_answers d e c now request reply anew es ds shape faults right wide asked made = record {
  shape = shape;
  faults = faults;
  attaches = λ n few is. absurd (attach_no_load c n anew es ds (sym is ∙ asked));
  loads = λ other fs gs right_too wide_too is.
      let same = one_load d.shape c anew other es fs ds gs right right_too wide wide_too (sym asked ∙ is) in
      let a = subst (λ (b : Bool). Loads (after c (load_body b es ds)) (start_of b d) es ds reply e now) same.start made in
      let b = subst (λ (l : List Edit). Loads (after c (load_body other l ds)) (start_of other d) l ds reply e now) same.edits a in
      subst (λ (l : List Pins). Loads (after c (load_body other fs l)) (start_of other d) fs l reply e now) same.drives b;
  goes_on = λ gs right_too is. absurd (load_no_drives d.shape c anew es ds gs right_too (sym asked ∙ is));
}

drives_answer : (d e : Device) (c now : Check) (request reply : List ℕ) (ds : List Pins) → e.shape ≡ d.shape → e.faults ≡ d.faults → AreDrivesOf d.shape ds → request ≡ drives_line c ds
    → IfSome d.session (λ s. Drives (after c (drives_text ds)) d s.config s.cycles ds reply e now) → Answers d c request reply e now
drives_answer d e c now request reply ds shape faults wide asked made = record {
  shape = shape;
  faults = faults;
  attaches = λ n few is. absurd (attach_no_drives d.shape c n ds wide (sym is ∙ asked));
  loads = λ anew es gs _ _ is. absurd (load_no_drives d.shape c anew es gs ds wide (sym is ∙ asked));
  goes_on = λ gs wide_too is. subst (λ (l : List Pins). IfSome d.session (λ s. Drives (after c (drives_text l)) d s.config s.cycles l reply e now))
      (one_drives_line d.shape c ds gs wide wide_too (sym asked ∙ is)) made;
}

-- a session as a machine tells it
run_session : (f : Faults) (s : Option Session)
    → IfSome (option_map (λ s. s.config) s) (λ g. IsRun f g (drives_of (option_map_or (λ s. s.cycles) s [])) (readings_of (option_map_or (λ s. s.cycles) s [])))
    → IfSome s (λ s. IsRun f s.config (drives_of s.cycles) (readings_of s.cycles))
run_session f None run = tt
run_session f (Some s) run = run

so_far : (s : Option Session) (g : Configuration) (cs : List Exchange) → option_map (λ s. s.config) s ≡ Some g → option_map_or (λ s. s.cycles) s [] ≡ cs
    → option_map (λ s. s.cycles) s ≡ Some cs
so_far None g cs is e = absurd (let bad : None ≡ Some g = is in cc)
so_far (Some s) g cs is e = ap Some e

told_run : (f : Faults) (rig : RigState) → rig.machine.faults ≡ Some f → IsTold rig
    → IfSome rig.session (λ s. IsRun f s.config (drives_of s.cycles) (readings_of s.cycles))
told_run f rig at told =
    run_session f rig.session (subst (λ (o : Option Faults). IfSome o (λ f. IfSome (config_of rig) (λ g. IsRun f g (drives_of (cycles_of rig)) (readings_of (cycles_of rig))))) at told)

abbrev device : Shape → Faults → Configuration → Option Session → Device
device m f g s = record { shape = m; faults = f; set = g; session = s }

reads_of : (k now : Check) (m : Shape) (f : Faults) (h g : Configuration) (before : List Exchange) (ds : List Pins) (line : List ℕ) (new : RigState) → new.machine.faults ≡ Some f
    → IsDriven k (pins_of m) g before ds line now new → Reads k g before ds line (device m f h new.session) now
reads_of k now m f h g before ds line new at r = record {
  pairs = r.pairs;
  driven = r.driven;
  wide = r.wide;
  reply_is = r.line_is;
  check = r.check;
  session = record { config = r.config; so_far = so_far new.session g (before ++ r.pairs) r.config r.cycles };
  run = told_run f new at r.told;
}

pub attach_told : (m : Shape) (c now : Check) (n : ℕ) (request line : List ℕ) (g : Configuration) (running : Bool) (rig : RigState) (h : Configuration) → n < 2 ^ 32 → request ≡ attach_line n
    → line ≡ counts_line (after fresh_check (attach_body n)) n m.counts → now ≡ after (after fresh_check (attach_body n)) (counts_body n m.counts)
    → h ≡ cleared m → IsAnswered m c request line now g running rig h false rig
attach_told m c now n request line g running rig h few asked is check clear = by_faults rig.machine.faults where
  by_faults : (o : Option Faults) → WhereTold (λ d e. Answers d c request line e now)
      (option_map (λ f. device m f g (if running then rig.session else None)) o) (option_map (λ f. device m f h None) o)
  by_faults None = refl
  by_faults (Some f) = attach_answers (device m f g (if running then rig.session else None)) (device m f h None) c now n request line refl refl few asked
      (record { reply_is = is; check = check; cleared = clear; session = refl })

same_start : (anew : Bool) (m : Shape) (f : Faults) (g : Configuration) (s : Option Session) → g.shape ≡ m → start_from anew g ≡ start_of anew (device m f g s)
same_start true m f g s same = ap cleared same
same_start false m f g s same = refl

pub load_told : (m : Shape) (c now k : Check) (request line : List ℕ) (g : Configuration) (running : Bool) (old : RigState) (h : Configuration) (new : RigState) (anew : Bool) (es : List Edit) (ds : List Pins)
    → g.shape ≡ m → new.machine ≡ old.machine → AreEditsOf m es → AreWide m ds → request ≡ load_line c anew es ds → k ≡ after c (load_body anew es ds) → h ≡ edited (start_from anew g) es
    → IsDriven k (pins_of m) h [] ds line now new → IsAnswered m c request line now g running old h true new
load_told m c now k request line g running old h new anew es ds shape machine right wide asked sent set r = by_faults old.machine.faults new.machine.faults refl (ap (λ x. x.faults) machine) where
  s : Option Session
  s = if running then old.session else None

  by_faults : (o p : Option Faults) → new.machine.faults ≡ p → p ≡ o → WhereTold (λ d e. Answers d c request line e now) (option_map (λ f. device m f g s) o) (option_map (λ f. device m f h new.session) p)
  by_faults None None at same = refl
  by_faults None (Some f) at same = absurd (let bad : Some f ≡ None = same in cc)
  by_faults (Some f) None at same = absurd (let bad : None ≡ Some f = same in cc)
  by_faults (Some f) (Some o) at same =
      let equal : o ≡ f = let c : Some o ≡ Some f = same in cc in
      let behind = after c (load_body anew es ds) in
      load_answers (device m f g s) (device m o h new.session) c now request line anew es ds refl equal right wide asked
      (record {
        set = set ∙ ap (λ c. edited c es) (same_start anew m f g s shape);
        reads = reads_of behind now m o h h [] ds line new at
            (subst (λ z. IsDriven z (pins_of m) h [] ds line now new) sent r);
      })

pub drives_told : (m : Shape) (c now sent : Check) (request line : List ℕ) (g : Configuration) (running : Bool) (old new : RigState) (ds : List Pins)
    → running ≡ true → new.machine ≡ old.machine → AreDrivesOf m ds → request ≡ drives_line c ds → sent ≡ after c (drives_text ds)
    → ((h : Configuration) → config_of old ≡ Some h → IsDriven sent (pins_of m) h (cycles_of old) ds line now new) → IsAnswered m c request line now g running old g true new
drives_told m c now sent request line g false old new ds runs machine wide asked is r = absurd (false≢true runs)
drives_told m c now sent request line g true old new ds runs machine wide asked behind r = by_faults old.machine.faults new.machine.faults refl (ap (λ x. x.faults) machine) where
  by_session : (k f : Faults) → new.machine.faults ≡ Some k → (s : Option Session) → old.session ≡ s
      → IfSome s (λ s. Drives (after c (drives_text ds)) (device m f g old.session) s.config s.cycles ds line (device m k g new.session) now)
  by_session k f at None is = tt
  by_session k f at (Some s) is =
      let driven = subst (λ z. IsDriven z (pins_of m) s.config (cycles_of old) ds line now new) behind (r s.config (ap (λ (o : Option Session). option_map (λ s. s.config) o) is)) in
      let before : cycles_of old ≡ s.cycles = ap (λ (o : Option Session). option_map_or (λ s. s.cycles) o []) is in
      record {
        set = refl;
        reads = subst (λ (cs : List Exchange). Reads (after c (drives_text ds)) s.config cs ds line (device m k g new.session) now) before
            (reads_of (after c (drives_text ds)) now m k g s.config (cycles_of old) ds line new at driven);
      }

  by_faults : (o p : Option Faults) → new.machine.faults ≡ p → p ≡ o → WhereTold (λ d e. Answers d c request line e now) (option_map (λ f. device m f g old.session) o) (option_map (λ f. device m f g new.session) p)
  by_faults None None at same = refl
  by_faults None (Some f) at same = absurd (let bad : Some f ≡ None = same in cc)
  by_faults (Some f) None at same = absurd (let bad : None ≡ Some f = same in cc)
  by_faults (Some f) (Some k) at same =
      let equal : k ≡ f = let c : Some k ≡ Some f = same in cc in
      drives_answer (device m f g old.session) (device m k g new.session) c now request line ds refl equal wide asked (by_session k f at old.session refl)

-- the width of a session of this machine
pub width_is : (o : Option Configuration) (m : Shape) → option_map (λ g. g.shape) o ≡ Some m → option_map (λ g. pins_of g.shape) o ≡ Some (pins_of m)
width_is None m is = absurd (let bad : None ≡ Some m = is in cc)
width_is (Some g) m is = let same : g.shape ≡ m = let c : Some g.shape ≡ Some m = is in cc in ap (λ s. Some (pins_of s)) same

pub has_session : (s : Option Session) (m : Shape) → option_map (λ g. g.shape) (option_map (λ s. s.config) s) ≡ Some m → IsSome s
has_session None m is = absurd (let bad : None ≡ Some m = is in cc)
has_session (Some s) m is = refl

-- a session went on by these drives
pub went_on : (c now : Check) (n : ℕ) (g : Configuration) (ds rows : List Pins) (line : List ℕ) (old new : RigState) → GoesOnBy ds rows old new → config_of old ≡ Some g
    → All (λ row. length row ≡ n) rows → line ≡ reading_line c rows → now ≡ after c (reading_body rows) → IsDriven c n g (cycles_of old) ds line now new
went_on c now n g ds rows line old new went is wide spelled behind = record {
  pairs = went.more;
  driven = went.driven;
  wide = subst (λ (l : List Pins). All (λ row. length row ≡ n) l) (sym went.read) wide;
  line_is = spelled ∙ ap (reading_line c) (sym went.read);
  check = behind ∙ ap (λ rs. after c (reading_body rs)) (sym went.read);
  config = went.config ∙ is;
  cycles = went.cycles;
  told = went.told;
}

-- what was just loaded has these cycles alone
pub first_driven : (c now : Check) (n : ℕ) (g : Configuration) (cs : List Exchange) (ds : List Pins) (line : List ℕ) (new : RigState) → cs ≡ [] → IsDriven c n g cs ds line now new
    → IsDriven c n g [] ds line now new
first_driven c now n g cs ds line new none r = subst (λ (l : List Exchange). IsDriven c n g l ds line now new) none r

-- after it the port is ready
pub ready_driven : (c now : Check) (m : Shape) (g : Configuration) (cs : List Exchange) (ds : List Pins) (line : List ℕ) (old new : RigState) → shape_of old ≡ Some m → g.shape ≡ m
    → new.machine ≡ old.machine → (k : Configuration) → k.shape ≡ m → IsDriven c (pins_of m) k cs ds line now new → IsReady m g true new
ready_driven c now m g cs ds line old new attached shape machine k same r = record {
  attached = ap (λ x. option_map (λ (a : Asked). a.shape) x.attached) machine ∙ attached;
  shape = shape;
  session = λ _. (ap (λ (o : Option Configuration). option_map (λ h. h.shape) o) r.config ∙ ap Some same, r.told);
}

pub edits_all : (m : Shape) (cs : List Change) → All (λ c. IsEditOf m (edit_of c)) cs → AreEditsOf m (edits_of cs)
edits_all m [] a k d lt = absurd (omega (arith, lt))
edits_all m (c ∷ cs) a zero d lt = a 0 c (omega arith)
edits_all m (c ∷ cs) a (suc k) d lt = edits_all m cs (λ j e l. a (suc j) e (omega (arith, l))) k d (omega (arith, lt))

pub body_loads : (w : Wanted) → w.loads ≡ true → wanted_body w ≡ load_body w.anew (edits_of w.changes.items) w.drives.items
body_loads w is = ap (λ b. if b then load_body w.anew (edits_of w.changes.items) w.drives.items else drives_text w.drives.items) is

pub body_drives : (w : Wanted) → w.loads ≡ false → wanted_body w ≡ drives_text w.drives.items
body_drives w is = ap (λ b. if b then load_body w.anew (edits_of w.changes.items) w.drives.items else drives_text w.drives.items) is

pub line_loads : (c : Check) (w : Wanted) → w.loads ≡ true → wanted_line c w ≡ load_line c w.anew (edits_of w.changes.items) w.drives.items
line_loads c w is = ap (line_of c) (body_loads w is)

pub line_drives : (c : Check) (w : Wanted) → w.loads ≡ false → wanted_line c w ≡ drives_line c w.drives.items
line_drives c w is = ap (line_of c) (body_drives w is)

-- a port that was ready is ready after more cycles
pub ready_on : (c now : Check) (m : Shape) (g : Configuration) (old new : RigState) (cs : List Exchange) (ds : List Pins) (line : List ℕ) (running : Bool) → running ≡ true → IsReady m g running old
    → new.machine ≡ old.machine → ((k : Configuration) → config_of old ≡ Some k → IsDriven c (pins_of m) k cs ds line now new) → IsReady m g true new
ready_on c now m g old new cs ds line running runs ready machine driven = by_config (config_of old) refl (ready.session runs).0 where
  by_config : (o : Option Configuration) → config_of old ≡ o → option_map (λ h. h.shape) o ≡ Some m → IsReady m g true new
  by_config None at is = absurd (let bad : None ≡ Some m = is in cc)
  by_config (Some k) at is =
      let same : k.shape ≡ m = let c : Some k.shape ≡ Some m = is in cc in
      ready_driven c now m g cs ds line old new ready.attached ready.shape machine k same (driven k at)

-- what is asked is a request
pub no_wanted : (m k : Shape) (c : Check) (w : Wanted) (request : List ℕ) → k ≡ m → IsWantedOf k w → request ≡ wanted_line c w → IsNoRequest m c request → ⊥
no_wanted m k c w request shape right is none = by_loads w.loads refl where
  wanted : IsWantedOf m w
  wanted = subst (λ s. IsWantedOf s w) shape right

  by_loads : (b : Bool) → w.loads ≡ b → ⊥
  by_loads true at = none.load w.anew (edits_of w.changes.items) w.drives.items (edits_all m w.changes.items wanted.edits) wanted.drives (is ∙ line_loads c w at)
  by_loads false at = none.drives w.drives.items (wanted.some at, wanted.drives) (is ∙ line_drives c w at)

-- what a machine says of itself is the line that answers to `a`
pub attach_fits : (m : Shape) (c k : Check) (n : ℕ) (request line : List ℕ) (room : ℕ) → n < 2 ^ 32 → request ≡ attach_line n → line ≡ counts_line k n m.counts → length line ≤ room
    → IsShort m c request room → ⊥
attach_fits m c k n request line room few asked is fits (asks_counts i other asked_too short) =
    let same = ap length is ∙ length_line k (counts_body n m.counts) in
    let number : i ≡ n = one_number i n other few (sym asked_too ∙ asked) in
    let longer : room < length (counts_body n m.counts) + 6 = subst (λ j. room < length (counts_body j m.counts) + 6) number short in
    omega (arith, same, fits, longer)
attach_fits m c k n request line room few asked is fits (asks_load anew edits drives readings _ _ other _ _) = attach_no_load c n anew edits drives (sym asked ∙ other)
attach_fits m c k n request line room few asked is fits (asks_cycles drives readings right other _ _) = attach_no_drives m c n drives right (sym asked ∙ other)

same_many : (drives readings : List Pins) → KeepLengths drives readings → length readings ≡ length drives
same_many drives readings keep = sym (length-map readings length) ∙ ap length keep ∙ length-map drives length

-- where each line of as many readings fits as there are drives, none is too long
pub wanted_fits : (m k : Shape) (c : Check) (w : Wanted) (request : List ℕ) (room pins count : ℕ) → k ≡ m → IsWantedOf k w → request ≡ wanted_line c w
    → pins ≡ pins_of k → count ≡ length w.drives.items
    → ((rows : List Pins) → length rows ≡ count → All (λ row. length row ≡ pins) rows → length (reading_body rows) + 6 ≤ room)
    → IsShort m c request room → ⊥
wanted_fits m k c w request room pins count shape right is width many fits short = by_loads w.loads refl short where
  wanted : IsWantedOf m w
  wanted = subst (λ s. IsWantedOf s w) shape right

  edits : AreEditsOf m (edits_of w.changes.items)
  edits = edits_all m w.changes.items wanted.edits

  too_long : (drives readings : List Pins) → w.drives.items ≡ drives → KeepLengths drives readings → room < length (reading_body readings) + 6 → ⊥
  too_long drives readings same keep long =
      let kept = subst (λ ds. KeepLengths ds readings) (sym same) keep in
      let wide = lengths_kept (λ l. l ≡ pins_of m) w.drives.items readings kept wanted.drives in
      let within = fits readings (same_many w.drives.items readings kept ∙ sym many)
      (subst (λ n. All (λ row. length row ≡ n) readings) (sym (width ∙ ap pins_of shape)) wide) in
      omega (arith, within, long)

  by_loads : (b : Bool) → w.loads ≡ b → IsShort m c request room → ⊥
  by_loads true at (asks_counts n few other _) = attach_no_load c n w.anew (edits_of w.changes.items) w.drives.items (sym other ∙ is ∙ line_loads c w at)
  by_loads true at (asks_load anew es ds readings all asked other keep long) =
      let same = one_load m c w.anew anew (edits_of w.changes.items) es w.drives.items ds edits all wanted.drives asked (sym (is ∙ line_loads c w at) ∙ other) in
      too_long ds readings same.drives keep long
  by_loads true at (asks_cycles ds readings asked other keep long) =
      load_no_drives m c w.anew (edits_of w.changes.items) w.drives.items ds asked (sym (is ∙ line_loads c w at) ∙ other)
  by_loads false at (asks_counts n few other _) = attach_no_drives m c n w.drives.items (wanted.some at, wanted.drives) (sym other ∙ is ∙ line_drives c w at)
  by_loads false at (asks_load anew es ds readings all asked other keep long) =
      load_no_drives m c anew es ds w.drives.items (wanted.some at, wanted.drives) (sym other ∙ is ∙ line_drives c w at)
  by_loads false at (asks_cycles ds readings asked other keep long) =
      too_long ds readings (one_drives_line m c w.drives.items ds (wanted.some at, wanted.drives) asked (sym (is ∙ line_drives c w at) ∙ other)) keep long

-- a request of drives alone is one of right ones
pub are_drives : (m : Shape) (w : Wanted) → IsWantedOf m w → w.loads ≡ false → AreDrivesOf m w.drives.items
are_drives m w wanted at = (wanted.some at, wanted.drives)
