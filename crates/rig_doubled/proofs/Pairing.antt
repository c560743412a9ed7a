-- Two rigs side by side.
use Rattle.std.proofs.Common.{◌≡◌, ℕ, ◌+◌, ◌<◌, ◌≤◌, Option, None, Some, IfSome, List, [], ◌∷◌, ◌++◌, length, refl, sym, ap, ◌∙◌, subst, arith, option_map, IsSome, Result, Ok, Err, OnOk, IsOk}
use Rattle.rig_doubled.proofs.Vocabulary.{option_map_or, map-append, append_cancel_left, false≢true, Pins, Faults, pins_of, Configuration}
use Rattle.rig_doubled.proofs.Vocabulary.{circuit_of, IsRun, Rose, session_run, Pair, HaveWidth}
use Rattle.machine_config.proofs.Runs.{Runs-unique}
use Rattle.rig.specs.declared.rig.RigFail.{RigFail}
use Rattle.rig.specs.declared.rig.RigFail.TheVariants as work
use Rattle.rig.specs.Rig.{RigState, Session, Exchange, Explains, GoesOn, GoesOnBy, CycleFails, CyclesFail, IsTold, config_of, cycles_of, spare_of, drives_of, readings_of}
use Rattle.rig_doubled.specs.Twins.{ArePaired, BothGoOn, BothGoOnBy, paired, session_with}

-- a refusal where there is room is a failure
pub cycle_failed : (e : RigFail) (old new : RigState) → 0 < spare_of old → CycleFails e old new → Rose old.failures new.failures
cycle_failed work.Failed old new some fails = fails.0
cycle_failed work.Memory old new some fails = absurd (let no : ⊥ = omega (arith, some, fails.0) in no)

pub cycles_failed : (e : RigFail) (count : ℕ) (old new : RigState) → count ≤ spare_of old → CyclesFail e count old new → Rose old.failures new.failures
cycles_failed work.Failed count old new some fails = fails.0
cycles_failed work.Memory count old new some fails = absurd (let no : ⊥ = omega (arith, some, fails.0) in no)

-- a session of a configuration, as it is told
abbrev IsToldBy : Option Faults → Option Configuration → List Exchange → Type 0
IsToldBy told config cycles = IfSome told (λ f. IfSome config (λ g. IsRun f g (drives_of cycles) (readings_of cycles)))

told_by : (told : Option Faults) (c d : Option Configuration) (xs ys : List Exchange) → c ≡ d → xs ≡ ys → IsToldBy told c xs → IsToldBy told d ys
told_by told c d xs ys e f t = subst (λ (o : Option Configuration). IsToldBy told o ys) e (subst (λ (zs : List Exchange). IsToldBy told c zs) f t)

-- two machines with the same faults and configuration read the same under the same drives
runs_alike : (f : Faults) (first second : RigState) → first.machine.faults ≡ Some f → second.machine.faults ≡ Some f → IsTold first → IsTold second
    → config_of first ≡ config_of second → IsSome (config_of first) → drives_of (cycles_of first) ≡ drives_of (cycles_of second) → readings_of (cycles_of first) ≡ readings_of (cycles_of second)
runs_alike f first second one other first_told second_told config some drives =
    by (config_of first) some
    (subst (λ (o : Option Faults). IsToldBy o (config_of first) (cycles_of first)) one first_told)
    (subst (λ (c : Option Configuration). IsToldBy (Some f) c (cycles_of second)) (sym config) (subst (λ (o : Option Faults). IsToldBy o (config_of second) (cycles_of second)) other second_told))
  where
    by : (c : Option Configuration) → IsSome c → IsToldBy (Some f) c (cycles_of first) → IsToldBy (Some f) c (cycles_of second) → readings_of (cycles_of first) ≡ readings_of (cycles_of second)
    by None some t u = absurd (false≢true some)
    by (Some g) some t u = Runs-unique (circuit_of f g) (subst (λ (ds : List Pins). IsRun f g ds (readings_of (cycles_of first))) drives t) u

-- .. and so do two whose readings one set of faults explains
explained_alike : (f : Faults) (first second : RigState) → Explains f first → Explains f second → config_of first ≡ config_of second → IsSome (config_of first)
    → drives_of (cycles_of first) ≡ drives_of (cycles_of second) → readings_of (cycles_of first) ≡ readings_of (cycles_of second)
explained_alike f first second one other config some drives = by (config_of first) refl
  where
    by : (c : Option Configuration) → config_of first ≡ c → readings_of (cycles_of first) ≡ readings_of (cycles_of second)
    by None is = absurd (false≢true (subst IsSome is some))
    by (Some g) is = Runs-unique (circuit_of f g)
        (subst (λ (ds : List Pins). IsRun f g ds (readings_of (cycles_of first))) drives (session_run f first g is one)) (session_run f second g (sym config ∙ is) other)

last_same : (xs : List Pins) (x y : Pins) → xs ++ x ∷ [] ≡ xs ++ y ∷ [] → x ≡ y
last_same xs x y e = let tails = append_cancel_left xs (x ∷ []) (y ∷ []) e in cc

has_config : (c : Option Configuration) (n : ℕ) → option_map (λ (g : Configuration). pins_of g.shape) c ≡ Some n → IsSome c
has_config (Some g) n e = refl
has_config None n e = absurd (let no : ⊥ = cc in no)

module _ {f : Faults} {p : Pair} {first first_new second second_new : RigState} (pairs : ArePaired p first second)
    (one : first_new.machine.faults ≡ Some f) (other : second_new.machine.faults ≡ Some f) where
  pub reads_alike : (drive reading second_reading : Pins) → GoesOn drive reading first first_new → GoesOn drive second_reading second second_new → reading ≡ second_reading
  reads_alike drive reading second_reading goes also =
      let start : cycles_of second_new ≡ cycles_of first ++ record { drive = drive; reading = second_reading } ∷ [] = also.cycles ∙ ap (λ xs. xs ++ record { drive = drive; reading = second_reading } ∷ []) (sym pairs.cycles) in
      let one_drives = ap drives_of goes.cycles ∙ map-append (λ (c : Exchange). c.drive) (cycles_of first) _ in
      let other_drives = ap drives_of start ∙ map-append (λ (c : Exchange). c.drive) (cycles_of first) _ in
      let one_reads = ap readings_of goes.cycles ∙ map-append (λ (c : Exchange). c.reading) (cycles_of first) _ in
      let other_reads = ap readings_of start ∙ map-append (λ (c : Exchange). c.reading) (cycles_of first) _ in
      let alike = runs_alike f first_new second_new one other goes.told also.told (goes.config ∙ pairs.config ∙ sym also.config) (subst IsSome (sym goes.config) (has_config (config_of first) (length p.read) pairs.width)) (one_drives ∙ sym other_drives) in
      last_same (readings_of (cycles_of first)) reading second_reading (sym one_reads ∙ alike ∙ other_reads)

  pub read_alike_by : (drives readings second_readings : List Pins) → GoesOnBy drives readings first first_new → GoesOnBy drives second_readings second second_new → readings ≡ second_readings
  read_alike_by drives readings second_readings goes also =
      let start : cycles_of second_new ≡ cycles_of first ++ also.more = also.cycles ∙ ap (λ xs. xs ++ also.more) (sym pairs.cycles) in
      let one_drives = ap drives_of goes.cycles ∙ map-append (λ (c : Exchange). c.drive) (cycles_of first) goes.more ∙ ap (λ xs. drives_of (cycles_of first) ++ xs) goes.driven in
      let other_drives = ap drives_of start ∙ map-append (λ (c : Exchange). c.drive) (cycles_of first) also.more ∙ ap (λ xs. drives_of (cycles_of first) ++ xs) also.driven in
      let one_reads = ap readings_of goes.cycles ∙ map-append (λ (c : Exchange). c.reading) (cycles_of first) goes.more ∙ ap (λ xs. readings_of (cycles_of first) ++ xs) goes.read in
      let other_reads = ap readings_of start ∙ map-append (λ (c : Exchange). c.reading) (cycles_of first) also.more ∙ ap (λ xs. readings_of (cycles_of first) ++ xs) also.read in
      let alike = runs_alike f first_new second_new one other goes.told also.told (goes.config ∙ pairs.config ∙ sym also.config) (subst IsSome (sym goes.config) (has_config (config_of first) (length p.read) pairs.width)) (one_drives ∙ sym other_drives) in
      append_cancel_left (readings_of (cycles_of first)) readings second_readings (sym one_reads ∙ alike ∙ other_reads)

-- the same, where one set of faults explains both logs
module _ {f : Faults} {p : Pair} {first first_new second second_new : RigState} (pairs : ArePaired p first second) (one : Explains f first_new) (other : Explains f second_new) where
  pub explained_reads : (drive reading second_reading : Pins) → GoesOn drive reading first first_new → GoesOn drive second_reading second second_new → reading ≡ second_reading
  explained_reads drive reading second_reading goes also =
      let start : cycles_of second_new ≡ cycles_of first ++ record { drive = drive; reading = second_reading } ∷ [] = also.cycles ∙ ap (λ xs. xs ++ record { drive = drive; reading = second_reading } ∷ []) (sym pairs.cycles) in
      let one_drives = ap drives_of goes.cycles ∙ map-append (λ (c : Exchange). c.drive) (cycles_of first) _ in
      let other_drives = ap drives_of start ∙ map-append (λ (c : Exchange). c.drive) (cycles_of first) _ in
      let one_reads = ap readings_of goes.cycles ∙ map-append (λ (c : Exchange). c.reading) (cycles_of first) _ in
      let other_reads = ap readings_of start ∙ map-append (λ (c : Exchange). c.reading) (cycles_of first) _ in
      let alike = explained_alike f first_new second_new one other (goes.config ∙ pairs.config ∙ sym also.config) (subst IsSome (sym goes.config) (has_config (config_of first) (length p.read) pairs.width)) (one_drives ∙ sym other_drives) in
      last_same (readings_of (cycles_of first)) reading second_reading (sym one_reads ∙ alike ∙ other_reads)

  pub explained_reads_by : (drives readings second_readings : List Pins) → GoesOnBy drives readings first first_new → GoesOnBy drives second_readings second second_new → readings ≡ second_readings
  explained_reads_by drives readings second_readings goes also =
      let start : cycles_of second_new ≡ cycles_of first ++ also.more = also.cycles ∙ ap (λ xs. xs ++ also.more) (sym pairs.cycles) in
      let one_drives = ap drives_of goes.cycles ∙ map-append (λ (c : Exchange). c.drive) (cycles_of first) goes.more ∙ ap (λ xs. drives_of (cycles_of first) ++ xs) goes.driven in
      let other_drives = ap drives_of start ∙ map-append (λ (c : Exchange). c.drive) (cycles_of first) also.more ∙ ap (λ xs. drives_of (cycles_of first) ++ xs) also.driven in
      let one_reads = ap readings_of goes.cycles ∙ map-append (λ (c : Exchange). c.reading) (cycles_of first) goes.more ∙ ap (λ xs. readings_of (cycles_of first) ++ xs) goes.read in
      let other_reads = ap readings_of start ∙ map-append (λ (c : Exchange). c.reading) (cycles_of first) also.more ∙ ap (λ xs. readings_of (cycles_of first) ++ xs) also.read in
      let alike = explained_alike f first_new second_new one other (goes.config ∙ pairs.config ∙ sym also.config) (subst IsSome (sym goes.config) (has_config (config_of first) (length p.read) pairs.width)) (one_drives ∙ sym other_drives) in
      append_cancel_left (readings_of (cycles_of first)) readings second_readings (sym one_reads ∙ alike ∙ other_reads)

-- cycles with the same drives and readings
same_cycles : (xs ys : List Exchange) → drives_of xs ≡ drives_of ys → readings_of xs ≡ readings_of ys → xs ≡ ys
same_cycles [] [] d r = refl
same_cycles [] (y ∷ ys) d r = absurd (let no : ⊥ = cc in no)
same_cycles (x ∷ xs) [] d r = absurd (let no : ⊥ = cc in no)
same_cycles (x ∷ xs) (y ∷ ys) d r =
    let drive : x.drive ≡ y.drive = cc in
    let drives : drives_of xs ≡ drives_of ys = cc in
    let reading : x.reading ≡ y.reading = cc in
    let readings : readings_of xs ≡ readings_of ys = cc in
    let rest = same_cycles xs ys drives readings in
    λ i. record { drive = drive i; reading = reading i } ∷ rest i

-- both go on
module _ (old new : Pair) (first first_new second second_new : RigState) (pairs : ArePaired old first second) where
  module _ (others : new.others.items ≡ old.others.items) (spare : old.spare ≡ new.spare + 1) (read : length new.read ≡ length old.read) where
    pub both_go_on : (drive : Pins) → GoesOn drive new.read first first_new → GoesOn drive new.other second second_new → new.read ≡ new.other → BothGoOn drive old new first first_new second second_new
    both_go_on drive goes also same = record {
      first = goes;
      second = rw same also;
      paired = record {
        config = goes.config ∙ pairs.config ∙ sym also.config;
        cycles = goes.cycles ∙ ap (λ xs. xs ++ record { drive = drive; reading = new.read } ∷ []) pairs.cycles ∙ ap (λ r. cycles_of second ++ record { drive = drive; reading = r } ∷ []) same ∙ sym also.cycles;
        width = ap (option_map (λ (g : Configuration). pins_of g.shape)) goes.config ∙ pairs.width ∙ ap Some (sym read);
        other = ap length (sym same);
        rows = rw (others, read) pairs.rows;
        room = rw others (omega (arith, pairs.room, spare));
        first_spare = omega (arith, goes.spare, pairs.first_spare, spare);
        second_spare = omega (arith, also.spare, pairs.second_spare, spare);
      };
      spare = spare;
    }

  module _ (wide : HaveWidth (length old.read) new.others.items) (many : length new.others.items ≡ length old.others.items) (read : new.read ≡ old.read) (other : new.other ≡ old.other) where
    pub both_go_on_by : (drives readings : List Pins) → old.spare ≡ new.spare + length drives → GoesOnBy drives readings first first_new → GoesOnBy drives readings second second_new
        → BothGoOnBy drives readings old new first first_new second second_new
    both_go_on_by drives readings spare goes also = record {
      first = goes;
      second = also;
      paired = record {
        config = goes.config ∙ pairs.config ∙ sym also.config;
        cycles = goes.cycles ∙ ap (λ xs. xs ++ goes.more) pairs.cycles ∙ ap (λ xs. cycles_of second ++ xs) (same_cycles goes.more also.more (goes.driven ∙ sym also.driven) (goes.read ∙ sym also.read)) ∙ sym also.cycles;
        width = ap (option_map (λ (g : Configuration). pins_of g.shape)) goes.config ∙ pairs.width ∙ ap (λ (r : Pins). Some (length r)) (sym read);
        other = ap length other ∙ pairs.other ∙ ap length (sym read);
        rows = rw read wide;
        room = omega (arith, pairs.room, spare, many);
        first_spare = omega (arith, goes.spare, pairs.first_spare, spare);
        second_spare = omega (arith, also.spare, pairs.second_spare, spare);
      };
      spare = spare;
    }

-- the session of both is the first's, with the pair's room
session_config : (n : ℕ) (s : Option Session) → option_map (λ (t : Session). t.config) (session_with (Some n) s) ≡ option_map (λ (t : Session). t.config) s
session_config n None = refl
session_config n (Some s) = refl

session_cycles : (n : ℕ) (s : Option Session) → option_map_or (λ (t : Session). t.cycles) (session_with (Some n) s) [] ≡ option_map_or (λ (t : Session). t.cycles) s []
session_cycles n None = refl
session_cycles n (Some s) = refl

session_spare : (n : ℕ) (s : Option Session) → IsSome s → option_map_or (λ (t : Session). t.spare) (session_with (Some n) s) 0 ≡ n
session_spare n None some = absurd (false≢true some)
session_spare n (Some s) some = refl

has_session : (s : Option Session) → IsSome (option_map (λ (t : Session). t.config) s) → IsSome s
has_session None some = absurd (false≢true some)
has_session (Some s) some = refl

module _ (p q : Pair) (first first_new second second_new : RigState) (pairs : ArePaired p first second) where
  was : IsSome first.session
  was = has_session first.session (has_config (config_of first) (length p.read) pairs.width)

  pub pair_goes_on : (drive : Pins) → BothGoOn drive p q first first_new second second_new → GoesOn drive q.read (paired (Some p) first second) (paired (Some q) first_new second_new)
  pair_goes_on drive b =
      let is : IsSome first_new.session = has_session first_new.session (subst IsSome (sym b.first.config) (has_config (config_of first) (length p.read) pairs.width)) in
      let here : spare_of (paired (Some p) first second) ≡ p.spare = session_spare p.spare first.session was in
      let there : spare_of (paired (Some q) first_new second_new) ≡ q.spare = session_spare q.spare first_new.session is in
      record {
        config = session_config q.spare first_new.session ∙ b.first.config ∙ sym (session_config p.spare first.session);
        cycles = session_cycles q.spare first_new.session ∙ b.first.cycles ∙ ap (λ xs. xs ++ record { drive = drive; reading = q.read } ∷ []) (sym (session_cycles p.spare first.session));
        spare = omega (arith, here, there, b.spare);
        past = b.second.past;
        told = told_by second_new.machine.faults (config_of second_new) (config_of (paired (Some q) first_new second_new)) (cycles_of second_new) (cycles_of (paired (Some q) first_new second_new))
            (sym b.paired.config ∙ sym (session_config q.spare first_new.session)) (sym b.paired.cycles ∙ sym (session_cycles q.spare first_new.session)) b.second.told;
      }

  pub pair_goes_on_by : (drives readings : List Pins) → BothGoOnBy drives readings p q first first_new second second_new → GoesOnBy drives readings (paired (Some p) first second) (paired (Some q) first_new second_new)
  pair_goes_on_by drives readings b =
      let is : IsSome first_new.session = has_session first_new.session (subst IsSome (sym b.first.config) (has_config (config_of first) (length p.read) pairs.width)) in
      let here : spare_of (paired (Some p) first second) ≡ p.spare = session_spare p.spare first.session was in
      let there : spare_of (paired (Some q) first_new second_new) ≡ q.spare = session_spare q.spare first_new.session is in
      record {
        more = b.first.more;
        driven = b.first.driven;
        read = b.first.read;
        config = session_config q.spare first_new.session ∙ b.first.config ∙ sym (session_config p.spare first.session);
        cycles = session_cycles q.spare first_new.session ∙ b.first.cycles ∙ ap (λ xs. xs ++ b.first.more) (sym (session_cycles p.spare first.session));
        spare = omega (arith, here, there, b.spare);
        past = b.second.past;
        told = told_by second_new.machine.faults (config_of second_new) (config_of (paired (Some q) first_new second_new)) (cycles_of second_new) (cycles_of (paired (Some q) first_new second_new))
            (sym b.paired.config ∙ sym (session_config q.spare first_new.session)) (sym b.paired.cycles ∙ sym (session_cycles q.spare first_new.session)) b.second.told;
      }

  -- what is left of the room
  pub pair_spare : spare_of (paired (Some p) first second) ≡ p.spare
  pair_spare = session_spare p.spare first.session was

-- what an answer that is no refusal says
pub on_ok : {T E : Type 0} {P : Type 0} (r : Result T E) → OnOk r P → IsOk r → P
on_ok (Ok x) h is = h
on_ok (Err e) h is = absurd (false≢true is)
