-- A reading that is turned.
use Rattle.std.proofs.Common.{◌≡◌, ◌⊎◌, inl, inr, ℕ, zero, suc, ◌+◌, ◌<◌, Option, None, Some, IfSome, List, [], ◌∷◌, ◌++◌, length, get_or, set, map, refl, sym, ap, ◌∙◌, subst, arith, option_map, IsSome, Result, Ok, Err, OnOk}
use Rattle.std.specs.Option.{option_map_or}
use Rattle.std.proofs.lemmas.{List.length-map, List.length-append, List.map-append, List.flat_map_more, Bool.false≢true}
use Rattle.machine_meaning.specs.Circuit.{Pins}
use Rattle.machine_shape.specs.{declared.Shape.Shape, Shape.pins_of}
use Rattle.machine_config.specs.Configuration.{Configuration}
use Rattle.rig.specs.Names.{SpellsFaults}
use Rattle.rig.specs.Rig.{Asked, Attaches, RigState, Session, Past, Exchange, GoesOn, GoesOnBy, CycleFails, CyclesFail, config_of, width_of, cycles_of, drives_of, readings_of, standing}
use Rattle.rig.specs.declared.rig.RigFail.TheVariants as work
use Rattle.example_rigs.specs.declared.turn.Turn.{Turn}
use Rattle.example_rigs.specs.Turns.{TurnedRig, turned, turned_at, turned_in, turned_past, turned_session, turn_state, IsTurned, Passes, CountsCycles}

turned_more : (k : ℕ) (xs ys : List Exchange) → k < length xs → turned_at k (xs ++ ys) ≡ turned_at k xs ++ ys
turned_more k [] ys h = absurd (let no : ⊥ = omega (arith, h) in no)
turned_more zero (x ∷ xs) ys h = refl
turned_more (suc k) (x ∷ xs) ys h = ap (λ l. x ∷ l) (turned_more k xs ys (omega (arith, h)))

turned_new : (k : ℕ) (xs ys : List Exchange) → turned_at (length xs + k) (xs ++ ys) ≡ xs ++ turned_at k ys
turned_new k [] ys = let e : length {A = Exchange} [] + k ≡ k = omega arith in ap (λ n. turned_at n ys) e
turned_new k (x ∷ xs) ys =
    let e : length (x ∷ xs) + k ≡ suc (length xs + k) = omega arith in
    ap (λ n. turned_at n (x ∷ xs ++ ys)) e ∙ ap (λ l. x ∷ l) (turned_new k xs ys)

drives_turned : (k : ℕ) (xs : List Exchange) → drives_of (turned_at k xs) ≡ drives_of xs
drives_turned k [] = refl
drives_turned zero (x ∷ xs) = refl
drives_turned (suc k) (x ∷ xs) = ap (λ l. x.drive ∷ l) (drives_turned k xs)

reads_turned : (k : ℕ) (xs : List Exchange) → k < length xs → readings_of (turned_at k xs) ≡ set (readings_of xs) k (turned (get_or (readings_of xs) k []))
reads_turned k [] h = absurd (let no : ⊥ = omega (arith, h) in no)
reads_turned zero (x ∷ xs) h = refl
reads_turned (suc k) (x ∷ xs) h = ap (λ l. x.reading ∷ l) (reads_turned k xs (omega (arith, h)))

length_turned : (k : ℕ) (xs : List Exchange) → length (turned_at k xs) ≡ length xs
length_turned k xs = sym (length-map (turned_at k xs) (λ (c : Exchange). c.drive)) ∙ ap length (drives_turned k xs) ∙ length-map xs (λ (c : Exchange). c.drive)

-- the cycles that are told of those that were made: one of them may be turned
record Tells (old new : Option ℕ) (xs made : List Exchange) (after : List Pins) : Type 0 where
  told : List Exchange
  drives : drives_of told ≡ drives_of made
  reads : readings_of told ≡ after
  all : turned_in new (xs ++ made) ≡ turned_in old xs ++ told

tells : (old new : Turn) (xs made : List Exchange) (after : List Pins) → CountsCycles old xs → Passes old new (readings_of made) after → Tells old.place new.place xs made after
tells old new xs made after counts passes = by passes.reads
  where
    stays : (p : Option ℕ) → IfSome p (λ k. k < length xs) → turned_in p (xs ++ made) ≡ turned_in p xs ++ made
    stays None h = refl
    stays (Some k) h = turned_more k xs made h

    by : ((new.place ≡ old.place) × (after ≡ readings_of made)) ⊎ IsTurned old new (readings_of made) after → Tells old.place new.place xs made after
    by (inl same) = record {
      told = made;
      drives = refl;
      reads = sym same.1;
      all = ap (λ p. turned_in p (xs ++ made)) same.0 ∙ stays old.place counts.place;
    }
    by (inr t) =
        let here : t.k < length made = omega (arith, t.within, length-map made (λ (c : Exchange). c.reading)) in
        let place : old.made + t.k ≡ length xs + t.k = omega (arith, counts.made, t.counted) in
        record {
          told = turned_at t.k made;
          drives = drives_turned t.k made;
          reads = reads_turned t.k made here ∙ sym t.reads;
          all = ap (λ p. turned_in p (xs ++ made)) t.place ∙ ap (λ n. turned_at n (xs ++ made)) place ∙ turned_new t.k xs made ∙ ap (λ p. turned_in p xs ++ turned_at t.k made) (sym t.first);
        }

counts_more : (old new : Turn) (xs made : List Exchange) (after : List Pins) → CountsCycles old xs → Passes old new (readings_of made) after → CountsCycles new (xs ++ made)
counts_more old new xs made after counts passes =
    let n = length-map made (λ (c : Exchange). c.reading) in
    let l = length-append xs made in
    record { made = omega (arith, counts.made, passes.made, n, l); place = by passes.reads }
  where
    stays : (p : Option ℕ) → IfSome p (λ k. k < length xs) → IfSome p (λ k. k < length (xs ++ made))
    stays None h = tt
    stays (Some k) h = omega (arith, h, length-append xs made)

    by : ((new.place ≡ old.place) × (after ≡ readings_of made)) ⊎ IsTurned old new (readings_of made) after → IfSome new.place (λ k. k < length (xs ++ made))
    by (inl same) = subst (λ (p : Option ℕ). IfSome p (λ k. k < length (xs ++ made))) (sym same.0) (stays old.place counts.place)
    by (inr t) =
        let within : old.made + t.k < length (xs ++ made) = omega (arith, counts.made, t.counted, t.within, length-map made (λ (c : Exchange). c.reading), length-append xs made) in
        subst (λ (p : Option ℕ). IfSome p (λ k. k < length (xs ++ made))) (sym t.place) within

-- the session that is told
turn_config : (s : Option Session) (p : Option ℕ) → option_map (λ (t : Session). t.config) (option_map (λ (t : Session). record t { cycles = turned_in p t.cycles }) s) ≡ option_map (λ (t : Session). t.config) s
turn_config None p = refl
turn_config (Some s) p = refl

none_turned : (p : Option ℕ) → turned_in p [] ≡ []
none_turned None = refl
none_turned (Some k) = refl

turn_cycles : (s : Option Session) (p : Option ℕ) → option_map_or (λ (t : Session). t.cycles) (option_map (λ (t : Session). record t { cycles = turned_in p t.cycles }) s) [] ≡ turned_in p (option_map_or (λ (t : Session). t.cycles) s [])
turn_cycles None p = sym (none_turned p)
turn_cycles (Some s) p = refl

turn_spare : (s : Option Session) (p : Option ℕ) → option_map_or (λ (t : Session). t.spare) (option_map (λ (t : Session). record t { cycles = turned_in p t.cycles }) s) 0 ≡ option_map_or (λ (t : Session). t.spare) s 0
turn_spare None p = refl
turn_spare (Some s) p = refl

pub config_told : (r : RigState) (p : Option ℕ) (past : List Past) → config_of (turn_state r p past) ≡ config_of r
config_told r p past = turn_config r.session p

module _ (old new : Turn) (before after : RigState) (counts : CountsCycles old (cycles_of before)) where
  module _ (drives reads told : List Pins) (goes : GoesOnBy drives reads before after) (passes : Passes old new reads told) where
    counted : Passes old new (readings_of goes.more) told
    counted = subst (λ (rs : List Pins). Passes old new rs told) (sym goes.read) passes

    told_of : Tells old.place new.place (cycles_of before) goes.more told
    told_of = tells old new (cycles_of before) goes.more told counts counted

    pub goes_on_by : (past : List Past) → GoesOnBy drives told (turn_state before old.place past) (turn_state after new.place past)
    goes_on_by past = record {
      past = refl;
      more = told_of.told;
      driven = told_of.drives ∙ goes.driven;
      read = told_of.reads;
      config = turn_config after.session new.place ∙ goes.config ∙ sym (turn_config before.session old.place);
      cycles = turn_cycles after.session new.place ∙ ap (turned_in new.place) goes.cycles ∙ told_of.all ∙ ap (λ xs. xs ++ told_of.told) (sym (turn_cycles before.session old.place));
      spare = omega (arith, goes.spare, turn_spare after.session new.place, turn_spare before.session old.place);
      told = tt;
    }

    pub still_counts : CountsCycles new (cycles_of after)
    still_counts = subst (CountsCycles new) (sym goes.cycles) (counts_more old new (cycles_of before) goes.more told counts counted)

-- a cycle as several
pub one_more : (drive read : Pins) (before after : RigState) → GoesOn drive read before after → GoesOnBy (drive ∷ []) (read ∷ []) before after
one_more drive read before after goes = record {
  past = goes.past;
  more = record { drive = drive; reading = read } ∷ [];
  driven = refl;
  read = refl;
  config = goes.config;
  cycles = goes.cycles;
  spare = goes.spare;
  told = goes.told;
}

pub one_of : (drive read : Pins) (before after : RigState) → GoesOnBy (drive ∷ []) (read ∷ []) before after → GoesOn drive read before after
one_of drive read before after goes = by goes.more refl
  where
    by : (more : List Exchange) → goes.more ≡ more → GoesOn drive read before after
    by [] e = absurd (let d : ◌≡◌ {A = List Pins} [] (drive ∷ []) = sym (ap drives_of e) ∙ goes.driven in let no : ⊥ = cc in no)
    by (x ∷ y ∷ more) e = absurd (let d : drives_of (x ∷ y ∷ more) ≡ drive ∷ [] = sym (ap drives_of e) ∙ goes.driven in let no : ⊥ = cc in no)
    by (x ∷ []) e =
        let d : x.drive ∷ [] ≡ drive ∷ [] = sym (ap drives_of e) ∙ goes.driven in
        let r : x.reading ∷ [] ≡ read ∷ [] = sym (ap readings_of e) ∙ goes.read in
        let drives : x.drive ≡ drive = cc in
        let reads : x.reading ≡ read = cc in
        record {
          past = goes.past;
          config = goes.config;
          cycles = goes.cycles ∙ ap (λ xs. cycles_of before ++ xs) (e ∙ (λ i. record { drive = drives i; reading = reads i } ∷ []));
          spare = goes.spare;
          told = goes.told;
        }

-- where a session is told there is one
pub some_told : (s : Option Session) (p : Option ℕ) → IsSome (option_map (λ (t : Session). record t { cycles = turned_in p t.cycles }) s) → IsSome s
some_told None p is = absurd (false≢true is)
some_told (Some s) p is = refl

pub some_width : (r : RigState) (p : Option ℕ) (past : List Past) (n : ℕ) → width_of (turn_state r p past) ≡ Some n → IsSome r.session
some_width r p past n = by r.session
  where
    by : (s : Option Session) → option_map (λ (g : Configuration). pins_of g.shape) (option_map (λ (t : Session). t.config) (option_map (λ (t : Session). record t { cycles = turned_in p t.cycles }) s)) ≡ Some n → IsSome s
    by None e = absurd (let no : ⊥ = cc in no)
    by (Some s) e = refl

-- rows of which one is changed and keeps its length
pub lengths_set : (k : ℕ) (rows : List Pins) (row d : Pins) → k < length rows → length row ≡ length (get_or rows k d) → map length (set rows k row) ≡ map length rows
lengths_set k [] row d h e = absurd (let no : ⊥ = omega (arith, h) in no)
lengths_set zero (x ∷ xs) row d h e = ap (λ n. n ∷ map length xs) e
lengths_set (suc k) (x ∷ xs) row d h e = ap (λ l. length x ∷ l) (lengths_set k xs row d (omega (arith, h)) e)

-- one more session that has ended
pub past_more : {I C : Type 0} (state : I → RigState) (xs ys : List C) (x : C) → ys ≡ xs ++ x ∷ [] → (seen : C → TurnedRig I)
    → turned_past state (map seen ys) ≡ turned_past state (map seen xs) ++ standing (turned_session (state (seen x).inner).session (seen x).place)
past_more state xs ys x e seen = ap (λ zs. turned_past state (map seen zs)) e ∙ ap (turned_past state) (map-append seen xs (x ∷ []))
    ∙ sym (flat_map_more (λ t. standing (turned_session (state t.inner).session t.place)) [] (map seen xs) (seen x))

-- what tells no faults tells none that a text doesn't spell
none_told : (text : Option (List ℕ)) (name : List ℕ) (m : Shape) → SpellsFaults text name m None
none_told None name m = tt
none_told (Some bytes) name m = λ _. tt

-- a machine is attached, of which no faults are told
pub turned_attached : {I C T E : Type 0} (state : I → RigState) (r : Result T E) (machine : Asked) (old new : RigState) (place now : Option ℕ) (past : List Past) (ended : List C) → ended ≡ [] → (seen : C → TurnedRig I)
    → OnOk r (Attaches machine old new) → OnOk r (Attaches machine (turn_state old place past) (turn_state new now (turned_past state (map seen ended))))
turned_attached state (Ok _) machine old new place now past ended none seen a = record {
  asked = a.asked;
  attached = a.attached;
  faults = tt;
  named = none_told (old.machine.texts machine.name) machine.name machine.shape;
  session = ap (λ s. turned_session s now) a.session;
  past = ap (λ zs. turned_past state (map seen zs)) none;
  refused = a.refused;
}
turned_attached state (Err _) machine old new place now past ended none seen a = tt

-- a failure ends the session
pub turned_fails : (old new : RigState) (p q : Option ℕ) (past all : List Past) → all ≡ past ++ standing (turned_session old.session p)
    → CycleFails work.Failed old new → CycleFails work.Failed (turn_state old p past) (turn_state new q all)
turned_fails old new p q past all same fails = (fails.0, ap (λ s. turned_session s q) fails.1, same)

pub turned_fail : (count : ℕ) (old new : RigState) (p q : Option ℕ) (past all : List Past) → all ≡ past ++ standing (turned_session old.session p)
    → CyclesFail work.Failed count old new → CyclesFail work.Failed count (turn_state old p past) (turn_state new q all)
turned_fail count old new p q past all same fails = (fails.0, ap (λ s. turned_session s q) fails.1, same)
