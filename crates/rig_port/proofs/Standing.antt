-- What is kept of a machine goes with each that may stand behind what was said.
use Rattle.std.proofs.Common.{◌≡◌, ℕ, ◌+◌, ◌<◌, ◌≤◌, ◌^◌, ◌-◌, Bool, true, false, List, [], ◌∷◌, ◌++◌, take, drop, get_or, length, Option, None, Some, refl, sym, ap, ◌∙◌, subst, IfSome, is_some, option_map, Result, OnOk, OnErr}
use Rattle.rig_port.proofs.Vocabulary.{false≢true, vec_len, vec_capacity, Shape, pins_of, Pins, Faults, AreFaultsOf, Configuration, cleared}
use Rattle.rig_port.proofs.Vocabulary.{Exchange, RigState, Explains, KeepLengths, Device, IsInSession, GoesOnWith, WhereTold, Narrows}
use Rattle.rig_port.proofs.Vocabulary.{EachWas, GoesOnBy, Again, Check, Link, Answers, IsHeld, IsKeptUp, IsUp, state_of, option_map_or}
use Rattle.rig_port.proofs.Vocabulary.{fresh_check, after, AreCounts, counts_body, turn_room, PortState, machine_told, attach_body}
use Rattle.rig_port.proofs.Vocabulary.{attach_line, Said, HasRows, CanResume, KeepsSession, paired, MayStand, Behind, GoOn, GoOnFor, Sent}
use borrow.Rule.Slice.PartMut.{put_mid}
use Rattle.rig_port.specs.Linked.{IsPosted, IsLinked, HasTurned, PortBoardState, told_with, waiting}
use Rattle.rig_port.specs.Stands.{StandsTold, StandsUp, AllStandUp, Finds, Turns, Makes, TurnsAgain, GoesOn, as_told, MayBe}
use Rattle.rig_port.proofs.Behind.{SameMachine, Anyhow, behind_same, machine_of, said_found, stands_faults, stands_shape}
use Rattle.rig_port.proofs.Held.{cycled_one, fresh_held, not_turned, turned_next, whole_turned}
use Rattle.rig_port.proofs.Resumed.{HasShape, fresh_resumes, held_here, made_first, made_more, in_session, posted_held, still_shaped, turned_again}

abbrev pub told_pair : Device → Shape × Faults
told_pair d = (d.shape, d.faults)

-- what answers an attach is found
pub found_one : (m : Shape) (n : ℕ) (now : Link) (request line : List ℕ) → n < 2 ^ 32 → request ≡ attach_line n
    → now.check ≡ after (after fresh_check (attach_body n)) (counts_body n m.counts) → (d : Device) (c : Check) (e : Device) (k : Check) → Answers d c request line e k → Finds m now d c e k
found_one m n now request line few asked check d c e k a = λ shape.
    let fresh = a.attaches n few asked in
    record {
      shape = a.shape ∙ shape;
      set = fresh.cleared ∙ ap cleared shape;
      check = fresh.check ∙ ap (λ (s : Shape). after (after fresh_check (attach_body n)) (counts_body n s.counts)) shape ∙ sym check;
    }

-- no turn at all
pub turns_none : (l : Link) → l.running ≡ true → (d : Device) (c : Check) → Turns [] [] l l d c d c
turns_none l runs d c = λ goes. record {
  goes = goes;
  turned = not_turned l.set.config l.line.items l.anew l.running l.due (Some d) goes.linked runs;
}

-- one more turn
pub turns_next : (was mid now : Link) (drives rows ys : List Pins) (at end : ℕ) → mid.set.config ≡ was.set.config → at ≤ end → end ≤ length rows → KeepLengths (take (end - at) (drop at rows)) ys
    → (d : Device) (c : Check) (e : Device) (k : Check) (x : Device) (y : Check) → Turns (take at drives) (take at rows) was mid d c e k → Turns (take (end - at) (drop at drives)) ys mid now e k x y
    → Turns (take end drives) (take end (put_mid at (end - at) rows ys)) was now d c x y
turns_next was mid now drives rows ys at end same le within keep d c e k x y first second = λ goes.
    let a = first goes in
    let b = second a.goes in
    record {
      goes = b.goes;
      turned = turned_next was.set.config mid.set.config drives rows ys at end was.due mid.due now.due (Some d) (Some e) (Some x) same le within keep a.turned b.turned;
    }

-- all rows to the end
pub turns_whole : (was now : Link) (drives reads : List Pins) (at : ℕ) → length drives ≤ at → length reads ≤ at
    → (d : Device) (c : Check) (e : Device) (k : Check) → Turns (take at drives) (take at reads) was now d c e k → Turns drives reads was now d c e k
turns_whole was now drives reads at over over_too d c e k t = λ goes.
    let a = t goes in
    record { goes = a.goes; turned = whole_turned drives reads was.set.config at was.due now.due (Some d) (Some e) over over_too a.turned }

-- turns behind a session that was made
pub makes_more : (g : Configuration) (cycles : List Exchange) (drives reads : List Pins) (mid now : Link) → mid.set.config ≡ g
    → (d : Device) (c : Check) (e : Device) (k : Check) (x : Device) (y : Check) → Makes g cycles mid d c e k → Turns drives reads mid now e k x y → Makes g (cycles ++ paired drives reads) now d c x y
makes_more g cycles drives reads mid now same d c e k x y first second = λ shape.
    let a = first shape in
    let b = second a.goes in
    record {
      goes = b.goes;
      made = made_more drives reads g cycles mid.due now.due (Some e) (Some x) (in_session g cycles mid.due (Some e) a.made)
          (subst (λ (s : Configuration). HasTurned drives reads mid.due s (Some e) now.due (Some x)) same b.turned);
    }

-- the turns of a load that sets all anew, behind an attach
pub makes_first : (g : Configuration) (drives reads : List Pins) (found load now : Link) → load.set.config ≡ g → load.due ≡ true → load.check ≡ found.check
    → ((device : Option Device) → IfSome device (λ d. d.shape ≡ g.shape) → IsLinked device load.set.config load.line.items load.anew load.running load.due)
    → (d : Device) (c : Check) (e : Device) (k : Check) (x : Device) (y : Check) → Finds g.shape found d c e k → Turns drives reads load now e k x y → Makes g (paired drives reads) now d c x y
makes_first g drives reads found load now same due check linked d c e k x y first second = λ shape.
    let a = first shape in
    let b = second (record { linked = linked (Some e) a.shape; check = a.check ∙ sym check }) in
    record {
      goes = b.goes;
      made = made_first drives reads g load.due now.due (Some e) (Some x) due
          (subst (λ (s : Configuration). HasTurned drives reads load.due s (Some e) now.due (Some x)) same b.turned);
    }

-- a session that was made again went on by these cycles
pub turns_again : (drives reads : List Pins) (a : Again) (was now : Link) (cycles : List Exchange) → length drives ≡ length reads
    → ((d : Device) → CanResume (Some d) was a → IfSome (told_with was.due was.set.config (Some d)) (IsInSession was.set.config cycles))
    → (d : Device) (c : Check) (x : Device) (y : Check) → SameMachine d x → Makes was.set.config (cycles ++ paired drives reads) now d c x y → TurnsAgain drives reads a was now d c x y
turns_again drives reads a was now cycles many kept d c x y same made = λ goes resumes.
    let m = made goes.linked.posted.told.0 in
    record {
      goes = m.goes;
      turned = turned_again drives reads was.set.config cycles was.due now.due (Some d) (Some x) many (machine_of d x same) (kept d resumes) m.made;
    }

-- a port that tells this machine, with this check
abbrev pub telling : PortState → Device → Check → PortState
telling port e k = record port { device = Some e; check = k }

pub held_with : (port : PortState) (found : Option Shape) (l : Link) (a : Again) (e : Device) (k : Check) → IsHeld port found l → e.shape ≡ l.set.config.shape → StandsUp l a e k → IsHeld (telling port e k) found l
held_with port found l a e k h shape s = record {
  is_open = h.is_open;
  shape = h.shape;
  told = shape;
  linked = s.linked;
  running = h.running;
  check = λ _. s.check;
  room = h.room;
}

pub stands_with : (port : PortState) (found : Option Shape) (l : Link) (a : Again) (e : Device) (k : Check) → IsHeld (telling port e k) found l → CanResume (Some e) l a → StandsUp l a e k
stands_with port found l a e k h resumes = record { linked = h.linked; check = h.check refl; resumes = resumes }

-- what a board may be is what it took for answers
pub may_be : (s : PortBoardState) (m : Shape) (f : Faults) (e : Device) (k : Check) → s.found ≡ Some m → MayStand m f s.talk e k → MayBe s (as_told s.waits e)
may_be s m f e k found st = record {
  shape = m;
  found = found;
  last = e;
  check = k;
  stands = subst (λ (g : Faults). MayStand m g s.talk e k) (sym (stands_faults m f s.talk e k st)) st;
  told = refl;
}

pub told_faults : (w : Option Configuration) (e : Device) → (as_told w e).faults ≡ e.faults
told_faults None e = refl
told_faults (Some g) e = refl

-- whatever is said of the machines between two transcripts is said of what the board may be
pub each_was : (R : Device → Check → Device → Check → Type 0) (T : Device → Device → Type 0) (old new : PortBoardState) → new.found ≡ old.found → Behind R old.talk new.talk
    → ((m : Shape) (f : Faults) (d : Device) (c : Check) (e : Device) (k : Check) → old.found ≡ Some m → MayStand m f old.talk d c → R d c e k → T (as_told old.waits d) (as_told new.waits e)) → EachWas T (MayBe old) (MayBe new)
each_was R T old new found behind to = λ x b.
    let d = behind b.shape b.last.faults b.last b.check b.stands in
    let at : old.found ≡ Some b.shape = sym found ∙ b.found in
    let same : d.0.faults ≡ b.last.faults = stands_faults b.shape b.last.faults old.talk d.0 d.1 d.2 in (
      as_told old.waits d.0,
      may_be old b.shape b.last.faults d.0 d.1 at d.2,
      told_faults old.waits d.0 ∙ same ∙ sym (told_faults new.waits b.last) ∙ ap (λ (d : Device). d.faults) (sym b.told),
      subst (T (as_told old.waits d.0)) (sym b.told) (to b.shape b.last.faults d.0 d.1 b.last b.check at d.2 d.3),
    )

pub narrows : (old new : PortBoardState) → new.found ≡ old.found → Behind Anyhow old.talk new.talk → Narrows (MayBe old) (MayBe new)
narrows old new found said = λ x b.
    let w = each_was Anyhow (λ _ _. Unit {0}) old new found said (λ m f d c e k at st r. tt) x b in
    (w.0, w.1, w.2)

-- a machine that was just found
pub all_found : (port : PortState) (m : Shape) (l : Link) (made now : Again) → port.is_open ≡ true → l.set.config ≡ cleared m → l.line.items ≡ [] → l.anew ≡ false → l.running ≡ false
    → turn_room (pins_of m) ≤ vec_capacity l.expected → HasRows (pins_of m) made → KeepsSession made now → now.spare ≡ made.spare → Behind (Finds m l) [] l.talk → AllStandUp l now
all_found port m l made now opened set line anew running room rows past spare said = λ f e k st.
    let shape : l.set.config.shape ≡ m = ap (λ (g : Configuration). g.shape) set in
    let d = said m f e k (subst (λ (s : Shape). MayStand s f l.talk e k) shape st) in
    let at = d.3 (stands_shape m f [] d.0 d.1 d.2) in
    stands_with port (Some m) l now e k (fresh_held (telling port e k) m l opened set line anew running (at.shape, at.set) room (λ _. at.check))
    (fresh_resumes (Some e) m l made now set running rows past spare)

-- a load was posted, or wasn't
pub all_posted : {T E : Type 0} (r : Result T E) (port : PortState) (found : Option Shape) (old new : Link) (a b : Again) (config : Configuration) → IsHeld port found old → AllStandUp old a
    → new.set.config.shape ≡ old.set.config.shape → new.expected ≡ old.expected → new.check ≡ old.check → new.talk ≡ old.talk
    → OnOk r (vec_len new.line + turn_room (pins_of new.set.config.shape) ≤ vec_capacity new.line)
    → OnOk r ((device : Option Device) → IfSome device (λ d. d.shape ≡ old.set.config.shape) → (old.lost ≡ false → IsPosted device old.set.config old.line.items old.anew)
    → IsPosted device new.set.config new.line.items new.anew)
    → OnOk r ((new.set.config ≡ config) × (new.running ≡ true) × (new.due ≡ true) × (new.lost ≡ false))
    → OnErr r ((new.running ≡ false) × (new.due ≡ false) × (new.lost ≡ true)) → ((device : Option Device) → CanResume device new b) → AllStandUp new b
all_posted r port found old new a b config h all shape expected check talk room linked posted lost resumes = λ f e k st.
    let before : MayStand old.set.config.shape f old.talk e k
    = subst (λ (t : List Said). MayStand old.set.config.shape f t e k) talk (subst (λ (m : Shape). MayStand m f new.talk e k) shape st) in
    stands_with port found new b e k (posted_held r (telling port e k) found old new config
    (held_with port found old a e k h (stands_shape old.set.config.shape f old.talk e k before) (all f e k before)) shape expected check room linked posted lost) (resumes (Some e))

not_lost : (b : Bool) (l : Link) → l.lost ≡ b → (l.lost ≡ true → l.running ≡ false) → l.running ≡ true → l.lost ≡ false
not_lost false l is idle runs = is
not_lost true l is idle runs = absurd (false≢true (sym (idle is) ∙ runs))

-- what is held goes on
pub held_on : (port now : PortState) (found : Option Shape) (old new : Link) → IsHeld port found old → IsKeptUp now old new → machine_told now ≡ machine_told port → old.running ≡ true → IsHeld now found new
held_on port now found old new h k same runs = record {
  is_open = k.is_open;
  shape = h.shape ∙ ap (λ (g : Configuration). Some g.shape) (sym k.set);
  told = subst (λ (g : Configuration). HasShape g.shape now.device) (sym k.set) (still_shaped old.set.config.shape port.device now.device same h.told);
  linked = λ _. k.linked;
  running = λ lost. absurd (false≢true (sym (not_lost old.lost old refl h.running runs) ∙ sym k.lost ∙ lost));
  check = k.check;
  room = k.room;
}

-- machines that stand up go on
pub all_on : (port now : PortState) (found : Option Shape) (drives reads : List Pins) (old new : Link) (a b : Again) → IsHeld port found old → AllStandUp old a → IsKeptUp now old new → old.running ≡ true
    → Behind (GoesOn drives reads a b old new) old.talk new.talk → AllStandUp new b
all_on port now found drives reads old new a b h all kept runs said = λ f e k st.
    let m = old.set.config.shape in
    let d = said m f e k (subst (λ (g : Configuration). MayStand g.shape f new.talk e k) kept.set st) in
    let s = all f d.0 d.1 d.2 in
    let t = d.3 (record { linked = s.linked (not_lost old.lost old refl h.running runs); check = s.check }) s.resumes in
    record { linked = λ _. t.0.goes.linked; check = t.0.goes.check; resumes = t.1 }

-- both as they are told
told_both : (R : Device → Device → Type 0) (b due : Bool) (g h : Configuration) (d e : Device) → due ≡ false → WhereTold R (told_with b g (Some d)) (told_with due g (Some e)) → R (as_told (waiting b g) d) (as_told (waiting due h) e)
told_both R b true g h d e idle w = absurd (false≢true (sym idle))
told_both R true false g h d e idle w = w
told_both R false false g h d e idle w = w

some_shape : (found : Option Shape) (m n : Shape) → found ≡ Some m → found ≡ Some n → m ≡ n
some_shape found m n a b = ap shape_or (sym a ∙ b) where
  shape_or : Option Shape → Shape
  shape_or None = m
  shape_or (Some s) = s

pub cycles_each : {o : Option Link} (port now : PortState) (found : Option Shape) (past past_now : List Said) (n n_now fs fs_now : ℕ) (drives reads : List Pins) (old new : Link) (a b : Again)
    → Some old ≡ o → IsHeld port found old → AllStandUp old a → old.running ≡ true → new.due ≡ false → Behind (GoesOn drives reads a b old new) old.talk new.talk
    → EachWas (GoesOnBy drives reads) (MayBe (state_of port found o past n fs)) (MayBe (state_of now found (Some new) past_now n_now fs_now))
cycles_each {o} port now found past past_now n n_now fs fs_now drives reads old new a b there h all runs sent said =
    subst (λ (x : Option Link). EachWas (GoesOnBy drives reads) (MayBe (state_of port found x past n fs)) (MayBe (state_of now found (Some new) past_now n_now fs_now))) there
    (each_was (GoesOn drives reads a b old new) (GoesOnBy drives reads) (state_of port found (Some old) past n fs) (state_of now found (Some new) past_now n_now fs_now) refl said (λ m f d c e k at st r.
    let s = all f d c (subst (λ (x : Shape). MayStand x f old.talk d c) (some_shape found m old.set.config.shape at h.shape) st) in
    let t = r (record { linked = s.linked (not_lost old.lost old refl h.running runs); check = s.check }) s.resumes in
    let turned = t.0.turned in
    record {
      pairs = turned.pairs;
      driven = turned.driven;
      read = turned.read;
      went = told_both (GoesOnWith turned.pairs) old.due new.due old.set.config new.set.config d e sent turned.turned;
    }))

-- a board that went down
pub narrows_down : {o : Option Link} (port now : PortState) (found : Option Shape) (x : Option Link) (past : List Said) (n n_now fs fs_now : ℕ) (old new : Link) → Some old ≡ o → x ≡ None
    → Behind Anyhow old.talk new.talk → Narrows (MayBe (state_of port found o past n fs)) (MayBe (state_of now found x new.talk n_now fs_now))
narrows_down {o} port now found x past n n_now fs fs_now old new there gone said =
    subst (λ (x : Option Link). Narrows (MayBe (state_of port found o past n fs)) (MayBe (state_of now found x new.talk n_now fs_now))) (sym gone)
    (subst (λ (o : Option Link). Narrows (MayBe (state_of port found o past n fs)) (MayBe (state_of now found None new.talk n_now fs_now))) there
    (narrows (state_of port found (Some old) past n fs) (state_of now found None new.talk n_now fs_now) refl said))

pub taken_down : {o x : Option Link} (found : Option Shape) (past : List Said) (old new : Link) (heard heard_now : List Sent) → Some old ≡ o → x ≡ None → GoOnFor found old.talk new.talk heard heard_now
    → GoOnFor found (option_map_or (λ (l : Link). l.talk) o past) (option_map_or (λ (l : Link). l.talk) x new.talk) heard heard_now
taken_down {o} {x} found past old new heard heard_now there gone talks =
    subst (λ (x : Option Link). GoOnFor found (option_map_or (λ (l : Link). l.talk) o past) (option_map_or (λ (l : Link). l.talk) x new.talk) heard heard_now) (sym gone)
    (subst (λ (o : Option Link). GoOnFor found (option_map_or (λ (l : Link). l.talk) o past) new.talk heard heard_now) there talks)

-- what was sent and taken while it was up
pub sent_here : {o : Option Link} (port now : PortState) (found : Option Shape) (again : Again) (old new : Link) → Some old ≡ o → IsUp port found o again
    → GoOn old.set.config.shape old.talk new.talk port.talk now.talk → GoOnFor found old.talk new.talk port.talk now.talk
sent_here port now found again old new there up talks =
    said_found found old.set.config.shape old.talk new.talk port.talk now.talk (held_here port found again there up).shape talks

-- what is said of each is said of those that it was
pub narrows_of : (T : Device → Device → Type 0) (old new : PortBoardState) → EachWas T (MayBe old) (MayBe new) → Narrows (MayBe old) (MayBe new)
narrows_of T old new each = λ x b. let w = each x b in (w.0, w.1, w.2)

-- what the board took before, as the board says it
pub talk_here : {l : Link} {o : Option Link} (past : List Said) → Some l ≡ o → l.talk ≡ option_map_or (λ (l : Link). l.talk) o past
talk_here past there = ap (λ (o : Option Link). option_map_or (λ (l : Link). l.talk) o past) there

pub all_here : {l : Link} {o : Option Link} (port : PortState) (found : Option Shape) (again : Again) → Some l ≡ o → IsUp port found o again → AllStandUp l again
all_here {l} port found again there up =
    let every : IsHeld port found l × CanResume port.device l again × AllStandUp l again × StandsTold port l.talk = subst (λ (x : Option Link). IsUp port found x again) (sym there) up in
    every.2

-- nothing was said
pub narrows_same : (old new : PortBoardState) → new.found ≡ old.found → new.talk ≡ old.talk → Narrows (MayBe old) (MayBe new)
narrows_same old new found talk = narrows old new found (behind_same old.talk new.talk talk)

-- a load that waits is the session of each
pub set_each : (g : Configuration) (old new : PortBoardState) → new.found ≡ old.found → new.talk ≡ old.talk → new.waits ≡ Some g → EachWas (λ o d. IsInSession g [] d) (MayBe old) (MayBe new)
set_each g old new found talk waits =
    each_was Anyhow (λ o d. IsInSession g [] d) old new found (behind_same old.talk new.talk talk)
    (λ m f d c e k at st r. subst (λ (w : Option Configuration). IsInSession g [] (as_told w e)) (sym waits) (record { config = refl; so_far = refl }))

-- one cycle
pub one_cycle : (drives reads : List Pins) (drive d : Pins) (o e : Device) → drives ≡ drive ∷ [] → GoesOnBy drives reads o e → GoesOnBy (drive ∷ []) (get_or reads 0 d ∷ []) o e
one_cycle drives reads drive d o e one t = record {
  pairs = record { drive = drive; reading = get_or reads 0 d } ∷ [];
  driven = refl;
  read = refl;
  went = cycled_one t.pairs drives reads drive d (Some o) (Some e) t.driven t.read one t.went;
}

-- it wasn't up, and isn't
pub narrows_none : {o : Option Link} (port : PortState) (found : Option Shape) (x : Option Link) (past : List Said) (n fs fs_now : ℕ) → None ≡ o → x ≡ None
    → Narrows (MayBe (state_of port found o past n fs)) (MayBe (state_of port found x past n fs_now))
narrows_none {o} port found x past n fs fs_now there gone =
    subst (λ (x : Option Link). Narrows (MayBe (state_of port found o past n fs)) (MayBe (state_of port found x past n fs_now))) (sym gone)
    (subst (λ (o : Option Link). Narrows (MayBe (state_of port found o past n fs)) (MayBe (state_of port found None past n fs_now))) there
    (narrows_same (state_of port found None past n fs) (state_of port found None past n fs_now) refl refl))

waits_for : {due : Bool} {set config : Configuration} → due ≡ true → set ≡ config → waiting due set ≡ Some config
waits_for {due} {set} {config} is same = ap (λ (b : Bool). waiting b set) is ∙ ap Some same

-- a load was posted
pub set_all : {o : Option Link} (port : PortState) (found : Option Shape) (past : List Said) (n n_now fs fs_now : ℕ) (old new : Link) (config : Configuration) → Some old ≡ o → new.talk ≡ old.talk
    → new.due ≡ true → new.set.config ≡ config
    → EachWas (λ o d. IsInSession config [] d) (MayBe (state_of port found o past n fs)) (MayBe (state_of port found (Some new) past n_now fs_now))
set_all {o} port found past n n_now fs fs_now old new config there talk due set =
    subst (λ (o : Option Link). EachWas (λ o d. IsInSession config [] d) (MayBe (state_of port found o past n fs)) (MayBe (state_of port found (Some new) past n_now fs_now))) there
    (set_each config (state_of port found (Some old) past n fs) (state_of port found (Some new) past n_now fs_now) refl talk (waits_for due set))

pub narrows_posted : {o : Option Link} (port : PortState) (found : Option Shape) (past : List Said) (n n_now fs fs_now : ℕ) (old new : Link) → Some old ≡ o → new.talk ≡ old.talk
    → Narrows (MayBe (state_of port found o past n fs)) (MayBe (state_of port found (Some new) past n_now fs_now))
narrows_posted {o} port found past n n_now fs fs_now old new there talk =
    subst (λ (o : Option Link). Narrows (MayBe (state_of port found o past n fs)) (MayBe (state_of port found (Some new) past n_now fs_now))) there
    (narrows_same (state_of port found (Some old) past n fs) (state_of port found (Some new) past n_now fs_now) refl talk)

-- a machine that was found and told is as it was told when the port was opened
pub finds_told : (m : Shape) (due : Bool) (g : Configuration) (o w : Option Device) → due ≡ false → option_map told_pair w ≡ option_map told_pair o
    → IfSome o (λ d. AreCounts d.shape.counts × AreFaultsOf d.shape d.faults) → IfSome w (λ d. (d.shape ≡ m) × (d.set ≡ cleared m))
    → IfSome (told_with due g w) (λ d. (d.shape ≡ m) × AreFaultsOf m d.faults)
finds_told m true g o w idle same opened fresh = absurd (false≢true (sym idle))
finds_told m false g o None idle same opened fresh = tt
finds_told m false g None (Some e) idle same opened fresh = absurd (false≢true (sym (ap is_some same)))
finds_told m false g (Some d) (Some e) idle same opened fresh =
    (fresh.0, subst (λ (s : Shape). AreFaultsOf s e.faults) (sym (shape same) ∙ fresh.0) (subst (λ (f : Faults). AreFaultsOf d.shape f) (sym (faults same)) opened.1)) where
      pair_or : Option (Shape × Faults) → Shape × Faults
      pair_or None = told_pair d
      pair_or (Some p) = p

      shape : Some (told_pair e) ≡ Some (told_pair d) → e.shape ≡ d.shape
      shape s = ap (λ (o : Option (Shape × Faults)). (pair_or o).0) s

      faults : Some (told_pair e) ≡ Some (told_pair d) → e.faults ≡ d.faults
      faults s = ap (λ (o : Option (Shape × Faults)). (pair_or o).1) s

pub explained_as : (rig : RigState) (f h : Faults) → f ≡ h → ∥ Explains f rig ∥₁ → ∥ Explains h rig ∥₁
explained_as rig f h same e = subst (λ (f : Faults). ∥ Explains f rig ∥₁) same e
