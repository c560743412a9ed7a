-- What is kept goes with the board after several cycles.
use Rattle.std.proofs.Common.{◌≡◌, ℕ, suc, zero, ◌+◌, ◌≤◌, ◌<◌, true, List, [], ◌∷◌, ◌++◌, map, length, get_or, All, Option, None, Some, refl, sym, ap, ◌∙◌, arith, subst, IfSome, option_map, Result, Ok, Err, OnOk, is_err, false}
use Rattle.rig_board.proofs.Vocabulary.{ForSome, Shape, pins_of, Pins, Faults, AreFaultsOf, Configuration, IsRun, Kept, BoardState}
use Rattle.rig_board.proofs.Vocabulary.{HasCycled, HasCycledAll, session_of, HasAdded, AreBlank}
use Rattle.rig.specs.Rig.{Exchange, Session, RigState, GoesOn, GoesOnBy, KeepLengths, cycles_of, drives_of, readings_of}
use Rattle.rig_board.specs.Device.{Device, faults_told, IsInSession, HasRunSession, GoesOnWith, WhereTold}
use Rattle.rig_board.specs.{Linked.IsLinked, Linked.IsAlongside, declared.kept.Row.Row}

abbrev pair : Pins → Pins → Exchange
pair d r = record { drive = d; reading = r }

-- pairs are known by both lists
pub same_pairs : (xs ys : List Exchange) → drives_of xs ≡ drives_of ys → readings_of xs ≡ readings_of ys → xs ≡ ys
same_pairs [] [] d r = refl
same_pairs [] (y ∷ ys) d r = cc
same_pairs (x ∷ xs) [] d r = cc
same_pairs (x ∷ xs) (y ∷ ys) d r =
    let drive : x.drive ≡ y.drive = cc in
    let reading : x.reading ≡ y.reading = cc in
    let drives : drives_of xs ≡ drives_of ys = cc in
    let readings : readings_of xs ≡ readings_of ys = cc in
    ap (λ (e : Exchange). e ∷ xs) (ap (λ d. pair d x.reading) drive ∙ ap (λ r. pair y.drive r) reading) ∙ ap (λ l. y ∷ l) (same_pairs xs ys drives readings)

-- what is told after was told before
pub same_faults : (old new : Option Device) (P : Faults → Type 0) → faults_told new ≡ faults_told old → ForSome old (λ d. P d.faults) → ForSome new (λ d. P d.faults)
same_faults None new P same before d is = let no : Some d.faults ≡ None = ap faults_told (sym is) ∙ same in cc
same_faults (Some o) new P same before d is =
    let one : d.faults ≡ o.faults = let both : Some d.faults ≡ Some o.faults = ap faults_told (sym is) ∙ same in cc in
    subst P (sym one) (before o refl)

-- the device's session goes on by the pairs that were added
pub told_after : (old new : Option Device) (g : Configuration) (cycles pairs : List Exchange) → ForSome old (IsInSession g cycles) → WhereTold (GoesOnWith pairs) old new
    → ForSome new (λ d. IsInSession g (cycles ++ pairs) d × HasRunSession d)
told_after None new g cycles pairs before w d is = let no : Some d ≡ None = sym is ∙ w in cc
told_after (Some o) None g cycles pairs before w d is = absurd w
told_after (Some o) (Some e) g cycles pairs before w d is =
    let same : e ≡ d = cc in
    subst (λ d. IsInSession g (cycles ++ pairs) d × HasRunSession d) same (w.goes_on g cycles (before o refl), w.run)

-- what is known after the cycles were added
pub record IsAfter (drives reads : List Pins) (b : BoardState) (kept more : Kept) : Type 0 where
  pub pairs : List Exchange
  pub driven : drives_of pairs ≡ drives
  pub read : readings_of pairs ≡ reads
  pub ready : b.in_session ≡ true
  pub config : (session_of more).config ≡ (session_of kept).config
  pub so_far : (session_of more).cycles ≡ (session_of kept).cycles ++ pairs
  pub told : ForSome b.device (λ d. IsInSession (session_of more).config (session_of more).cycles d × HasRunSession d)

pub after : (drives reads : List Pins) (old new : BoardState) (kept mid more : Kept) → IsAlongside old kept → HasCycledAll drives reads old new
    → (session_of mid).config ≡ (session_of kept).config → (session_of mid).cycles ≡ (session_of kept).cycles
    → (session_of more).config ≡ (session_of mid).config → HasAdded drives reads (session_of mid) (session_of more) → IsAfter drives reads new kept more
after drives reads old new kept mid more along cycled config cycles config_more added =
    let same = same_pairs cycled.pairs added.pairs (cycled.driven ∙ sym added.driven) (cycled.read ∙ sym added.read) in
    let so_far : (session_of more).cycles ≡ (session_of kept).cycles ++ added.pairs = added.so_far ∙ ap (λ l. l ++ added.pairs) cycles in
    let g : (session_of more).config ≡ (session_of kept).config = config_more ∙ config in
    record {
      pairs = added.pairs;
      driven = added.driven;
      read = added.read;
      ready = cycled.cycled.ready;
      config = g;
      so_far = so_far;
      told = λ d is. let t = told_after old.device new.device (session_of kept).config (session_of kept).cycles cycled.pairs along.told cycled.cycled.told d is in
          (rw (g, so_far, ← same) t.0, t.1);
    }

-- what is linked when the cycles begin, and what is known after them
pub cycles_made : {drives reads : List Pins} {old new : BoardState} {attached : Option Shape} {found : Option Kept} {kept : Kept} (mid more : Kept) → found ≡ Some kept
    → IsLinked old attached found → HasCycledAll drives reads old new → (session_of mid).config ≡ (session_of kept).config
    → (session_of mid).cycles ≡ (session_of kept).cycles → (session_of more).config ≡ (session_of mid).config
    → HasAdded drives reads (session_of mid) (session_of more) → IsLinked old attached (Some kept) × IsAfter drives reads new kept more
cycles_made {drives} {reads} {old} {new} {attached} {found} {kept} mid more is linked cycled config cycles config_more added =
    let l : IsLinked old attached (Some kept) = subst (λ k. IsLinked old attached k) is linked in
    (l, after drives reads old new kept mid more (l.session kept refl).1 cycled config cycles config_more added)

pub linked_after : (drives reads : List Pins) (old new : BoardState) (attached : Option Shape) (kept more : Kept) → IsLinked old attached (Some kept) → new.found ≡ old.found
    → faults_told new.device ≡ faults_told old.device → more.shape ≡ kept.shape → AreBlank (pins_of more.shape) more.blank.items → IsAfter drives reads new kept more
    → IsLinked new attached (Some more)
linked_after drives reads old new attached kept more l found faults shape wide a = record {
  found = λ m is. found ∙ l.found m is;
  faults = λ m is. same_faults old.device new.device (AreFaultsOf m) faults (l.faults m is);
  session = λ k is. let same : more ≡ k = cc in subst (λ k. (attached ≡ Some k.shape) × IsAlongside new k) same
      ((l.session kept refl).0 ∙ ap Some (sym shape), record { ready = a.ready; wide = wide; told = λ d e. (a.told d e).0 });
}

run_told : (d : Device) (s : Option Session) (g : Configuration) (cycles : List Exchange) → option_map (λ (s : Session). s.config) s ≡ Some g → option_map (λ (s : Session). s.cycles) s ≡ Some cycles
    → IfSome s (λ s. IsRun d.faults s.config (drives_of s.cycles) (readings_of s.cycles)) → IsRun d.faults g (drives_of cycles) (readings_of cycles)
run_told d None g cycles c y run = cc
run_told d (Some s) g cycles c y run =
    let config : s.config ≡ g = cc in
    let all : s.cycles ≡ cycles = cc in
    rw (← config, ← all) run

pub goes_on : (drives reads : List Pins) (b : BoardState) (kept more : Kept) (old new : RigState) → old.session ≡ Some (session_of kept) → new.session ≡ Some (session_of more)
    → new.machine.faults ≡ faults_told b.device → (session_of kept).spare ≤ (session_of more).spare + length drives → IsAfter drives reads b kept more → new.past ≡ old.past → GoesOnBy drives reads old new
goes_on drives reads b kept more old new was now faults spare a past = record {
  past = past;
  more = a.pairs;
  driven = a.driven;
  read = a.read;
  config = ap (option_map (λ (s : Session). s.config)) now ∙ ap Some a.config ∙ sym (ap (option_map (λ (s : Session). s.config)) was);
  cycles = rw (was, now) a.so_far;
  spare = rw (was, now) spare;
  told = rw (faults, now) (told b.device a.told);
} where
  told : (device : Option Device) → ForSome device (λ d. IsInSession (session_of more).config (session_of more).cycles d × HasRunSession d)
      → IfSome (faults_told device) (λ f. IsRun f (session_of more).config (drives_of (session_of more).cycles) (readings_of (session_of more).cycles))
  told None t = tt
  told (Some d) t = run_told d d.session (session_of more).config (session_of more).cycles (t d refl).0.config (t d refl).0.so_far (t d refl).1

-- blank rows as wide as what is driven are as wide as the session's machine
pub wide_rows : (found : Option Kept) (kept mid more : Kept) (pins n : ℕ) → Some kept ≡ found
    → option_map (λ (g : Configuration). pins_of g.shape) (option_map (λ (s : Session). s.config) (option_map session_of found)) ≡ Some n
    → pins ≡ n → more.shape ≡ kept.shape → more.blank.items ≡ mid.blank.items → AreBlank pins mid.blank.items → AreBlank (pins_of more.shape) more.blank.items
wide_rows found kept mid more pins n is width same shape blank wide =
    let both : Some (pins_of kept.shape) ≡ Some n =
    ap (λ (k : Option Kept). option_map (λ (g : Configuration). pins_of g.shape) (option_map (λ (s : Session). s.config) (option_map session_of k))) is ∙ width in
    let wide_kept : pins_of kept.shape ≡ n = cc in
    let len : pins ≡ pins_of more.shape = same ∙ (sym wide_kept ∙ ap pins_of (sym shape)) in
    subst (λ (rows : List Row). AreBlank (pins_of more.shape) rows) (sym blank) (subst (λ w. AreBlank w mid.blank.items) len wide)

-- a failure leaves no session
pub linked_lost : (old new : BoardState) (attached : Option Shape) (kept rest : Option Kept) → IsLinked old attached kept → new.found ≡ old.found
    → faults_told new.device ≡ faults_told old.device → rest ≡ None → IsLinked new attached rest
linked_lost old new attached kept rest l found faults none = record {
  found = λ m is. found ∙ l.found m is;
  faults = λ m is. same_faults old.device new.device (AreFaultsOf m) faults (l.faults m is);
  session = λ k is. let no : None ≡ Some k = sym none ∙ is in cc;
}

pub on_ok : {T E : Type 0} (r : Result T E) (P : Type 0) → is_err r ≡ false → OnOk r P → P
on_ok (Ok x) P e p = p
on_ok (Err x) P e p = cc

-- one cycle as a list of them
pub cycled_one : (drive now reading : Pins) (old new : BoardState) → now ≡ drive → HasCycled (pair drive reading ∷ []) old new → HasCycledAll (now ∷ []) (reading ∷ []) old new
cycled_one drive now reading old new same c = subst (λ (d : Pins). HasCycledAll (d ∷ []) (reading ∷ []) old new) (sym same) (record {
  pairs = pair drive reading ∷ [];
  driven = refl;
  read = refl;
  cycled = c;
})

pub added_pair : (drive reading : Pins) (old new : Session) → new.cycles ≡ old.cycles ++ pair drive reading ∷ [] → HasAdded (drive ∷ []) (reading ∷ []) old new
added_pair drive reading old new so_far = record { pairs = pair drive reading ∷ []; driven = refl; read = refl; so_far = so_far }

pub goes_on_one : (drive d reading q : Pins) (old new : RigState) → d ≡ drive → reading ≡ q → GoesOnBy (d ∷ []) (q ∷ []) old new → GoesOn drive reading old new
goes_on_one drive d reading q old new same read g =
    subst (λ (r : Pins). GoesOn drive r old new) (sym read) (subst (λ (d : Pins). GoesOn d q old new) same (record {
      config = g.config;
      cycles = g.cycles ∙ ap (λ ps. cycles_of old ++ ps) (same_pairs g.more (pair d q ∷ []) g.driven g.read);
      spare = g.spare;
      past = g.past;
      told = g.told;
    }))
