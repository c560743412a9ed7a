-- Steps that compose: a step that stops ends each course that begins with it, and one that gives is followed by the rest.
use Rattle.std.proofs.Common.{◌≡◌, ℕ, List, [], ◌∷◌, ◌++◌, refl, sym, subst, ap, ◌∙◌, inl, inr, arith, append-nil, Result, Ok, Err}
use Rattle.cmd_steps.proofs.Vocabulary.{StoreState, SinkState, Shape, RigState, Machine, Asked, Memory, Stop, Refused}
use Rattle.cmd_steps.specs.Vocabulary.{Outside, outside, IsLater, ReadFile, StandsAmong, StandsIn, Course, Step, after, write, done, StepStops, IsCounted, Took, TookAmong, Puts, Follows, attaches, MayAsk, AsksMachine}
use Rattle.cmd_steps.proofs.Making.{took-quietly, stopped-quietly}
use Rattle.cmd_steps.proofs.Counting.{counted-after, write-counted}
use Rattle.cmd_steps.proofs.Following.{after-stops, after-gives, write-stops, write-then, done-now}
use Rattle.cmd_steps.proofs.WriteLemmas.{asks-after, asks-all, asks-front}
use Rattle.cmd_steps.proofs.Logs.{log_same, log_then}

-- ---- what no step changes, after two steps

pub later-same : (o : Outside) → IsLater o o
later-same o = record { contents = refl; texts = refl; kind = refl; store = omega arith; rig = omega arith; sink = omega arith; log = log_same o.rig }

pub later-later : (old mid new : Outside) → IsLater old mid → IsLater mid new → IsLater old new
later-later old mid new first second = record {
  contents = second.contents ∙ first.contents;
  texts = second.texts ∙ first.texts;
  kind = second.kind ∙ first.kind;
  store = omega (arith, first.store, second.store);
  rig = omega (arith, first.rig, second.rig);
  sink = omega (arith, first.sink, second.sink);
  log = log_then first.log second.log;
}

-- where the store stands after two steps
pub stands-then : (files more : List (List ℕ)) (old mid new : StoreState) → StandsIn files old mid → StandsIn more mid new → StandsIn (more ++ files) old new
stands-then [] [] old mid new first second = second ∙ first
stands-then (file ∷ files) [] old mid new (inl first) second = inl (stands-then files [] old mid new first second)
stands-then (file ∷ files) [] old mid new (inr near) second = inr (rw second near)
stands-then files (file ∷ more) old mid new first (inl second) = inl (stands-then files more old mid new first second)
stands-then files (file ∷ more) old mid new first (inr near) = inr near

-- the same of files with limits of their own
pub stands-more : (files more : List ReadFile) (old mid new : StoreState) → StandsAmong files old mid → StandsAmong more mid new → StandsAmong (more ++ files) old new
stands-more [] [] old mid new first second = second ∙ first
stands-more (file ∷ files) [] old mid new (inl first) second = inl (stands-more files [] old mid new first second)
stands-more (file ∷ files) [] old mid new (inr near) second = inr (rw second near)
stands-more files (file ∷ more) old mid new first (inl second) = inl (stands-more files more old mid new first second)
stands-more files (file ∷ more) old mid new first (inr near) = inr near

-- ---- steps

-- a step that has nothing to do with what is around it stops
pub took-stop : {T : Type 0} (step : Step T) (stop : Stop) (o : Outside) → StepStops step stop → IsCounted ⊥ stop o o → Took [] step (Err stop) o o
took-stop step stop o = stopped-quietly step (later-same o) stop

-- or it gives something
pub took-value : {T : Type 0} (step : Step T) (x : T) (o : Outside) → step.gives x → Took [] step (Ok x) o o
took-value step x o = took-quietly step (later-same o) x

-- memory was lacking where a step was to be made
pub took-nothing : {T : Type 0} (step : Step T) (result : Result T Stop) (o : Outside) → result ≡ Err (Refused Memory) → step.stops Memory → Took [] step result o o
took-nothing step result o is stops = rw is (took-stop step (Refused Memory) o stops tt)

module _ {T U : Type 0} (step : Step T) (here : Type 0) (rest : T → Course) where
  -- the step stops
  stops-now : {V : Type 0} {files : List ReadFile} (made : Step V) (names more : List (List ℕ)) (asks : Type 0) (stop : Stop) (old new : Outside) → TookAmong names files made (Err stop) old new → StepStops step stop → here → asks → Follows {T = U} ⊥ (names ++ more) asks (after step here rest) (Err stop) old new
  stops-now made names more asks stop old new took stops at asked = record {
    later = took.later;
    asked = record { all = tt; some = asks-front names more old.store.asked new.store.asked took.asked.some };
    machines = asked;
    written = rw took.silent (after-stops step here rest stop old.sink stops at);
    counted = took.counted;
  }

  pub step-stops : {V : Type 0} {files : List ReadFile} (made : Step V) (names more : List (List ℕ)) (asks : Type 0) (stop : Stop) (result : Result U Stop) (old new : Outside) → result ≡ Err stop → TookAmong names files made (Err stop) old new → StepStops step stop → here → asks → Follows ⊥ (names ++ more) asks (after step here rest) result old new
  step-stops made names more asks stop result old new is took stops at asked = rw is (stops-now made names more asks stop old new took stops at asked)

  -- or it gives something: what it gave is known at the end, and the rest is followed from where it left the outside
  pub step-gives : {V : Type 0} {files : List ReadFile} (made : Step V) (names more : List (List ℕ)) (asks then_asks : Type 0) (y : V) (x : T) (result : Result U Stop) (old mid new : Outside) → TookAmong names files made (Ok y) old mid → step.gives x → Follows ⊥ more then_asks (rest x) result mid new → asks → Follows ⊥ (names ++ more) asks (after step here rest) result old new
  step-gives made names more asks then_asks y x result old mid new took gives rest_is asked = record {
    later = later-later old mid new took.later rest_is.later;
    asked = asks-after names more result old.store mid.store new.store took.asked.all rest_is.asked;
    machines = asked;
    written = after-gives step here rest x result old.sink new.sink gives (rw took.silent at rest_is.written);
    counted = counted-after result old mid new took.later rest_is.counted;
  }

puts-later : {T : Type 0} (line : List ℕ) (store : StoreState) (rig : RigState) (a b : SinkState) (result : Result T Stop) → Puts line result a b → IsLater (outside store rig a) (outside store rig b)
puts-later line store rig a b result puts = record { contents = refl; texts = refl; kind = puts.kind; store = omega arith; rig = omega arith; sink = puts.later; log = log_same rig }

module _ {T : Type 0} (line : List ℕ) (here : Type 0) (rest : Course) (store : StoreState) (rig : RigState) (a b : SinkState) where
  -- the line isn't written whole
  line-stops-now : {U : Type 0} (names : List (List ℕ)) (asks : Type 0) (stop : Stop) → Puts {T = T} line (Err stop) a b → here → asks → Follows {T = U} ⊥ names asks (write line here rest) (Err stop) (outside store rig a) (outside store rig b)
  line-stops-now names asks stop puts at asked = record {
    later = puts-later line store rig a b (Err stop) puts;
    asked = record { all = tt; some = asks-front [] names store.asked store.asked refl };
    machines = asked;
    written = write-stops line here rest stop a b puts.stops at;
    counted = write-counted line stop (outside store rig a) (outside store rig b) puts.stops;
  }

  pub line-stops : {U : Type 0} (names : List (List ℕ)) (asks : Type 0) (stop : Stop) (result : Result U Stop) → result ≡ Err stop → Puts {T = T} line (Err stop) a b → here → asks → Follows ⊥ names asks (write line here rest) result (outside store rig a) (outside store rig b)
  line-stops names asks stop result is puts at asked = rw is (line-stops-now names asks stop puts at asked)

  -- or it is, and the rest is followed
  pub line-gives : {U : Type 0} (names : List (List ℕ)) (asks then_asks : Type 0) (x : T) (result : Result U Stop) (new : Outside) → Puts line (Ok x) a b → Follows ⊥ names then_asks rest result (outside store rig b) new → asks → Follows ⊥ names asks (write line here rest) result (outside store rig a) new
  line-gives names asks then_asks x result new puts rest_is asked =
      let later : IsLater (outside store rig a) (outside store rig b) = puts-later line store rig a b (Ok x) puts in
      record {
        later = later-later (outside store rig a) (outside store rig b) new later rest_is.later;
        asked = rest_is.asked;
        machines = asked;
        written = write-then line here rest result a b new.sink puts.wrote rest_is.written;
        counted = counted-after result (outside store rig a) (outside store rig b) new later rest_is.counted;
      }

-- the end
pub all-done : {U : Type 0} (here : Type 0) (x : U) (o : Outside) → here → Follows ⊥ [] (Unit {0}) (done here) (Ok x) o o
all-done here x o at = record {
  later = later-same o;
  asked = record { all = sym (append-nil o.store.asked); some = tt };
  machines = tt;
  written = done-now here o.sink at;
  counted = tt;
}

-- ---- the machine that was asked for

-- a machine of this shape may have been asked for, and no other is then
pub asks-machine : (is_shape : Shape → Type 0) (name : List ℕ) (m : Shape) (old new : List Asked) → is_shape m → MayAsk (record { shape = m; name = name }) old new → AsksMachine is_shape name old new
asks-machine is_shape name m old new is (inl none) = inl none
asks-machine is_shape name m old new is (inr one) = inr (m, is, one)

-- the machine is attached, and stays as it is in the rest
pub attach-gives : {U : Type 0} (machine : Asked) (here : Type 0) (rest : Unit {0} → Course) (more : List (List ℕ)) (first : RigState) (result : Result U Stop) (old mid new : Outside) → Took [] (attaches machine old.rig mid.rig) (Ok tt) old mid → MayAsk machine old.rig.machine.asked mid.rig.machine.asked → Follows ⊥ more (new.rig.machine ≡ mid.rig.machine) (rest tt) result mid new → Follows ⊥ more (MayAsk machine old.rig.machine.asked new.rig.machine.asked) (after (attaches machine first new.rig) here rest) result old new
attach-gives machine here rest more first result old mid new took may rest_is =
    let same = rest_is.machines in
    let named = ap (λ (m : Machine). m.attached) same ∙ took.gives in
    let asked = subst (λ t. MayAsk machine old.rig.machine.asked t) (sym (ap (λ (m : Machine). m.asked) same)) may in
    step-gives (attaches machine first new.rig) here rest (attaches machine old.rig mid.rig) [] more _ _ tt tt result old mid new took named rest_is asked

-- a file was read, and the rig stays as it is
pub read-gives : {T U : Type 0} (step : Step T) (here : Type 0) (rest : T → Course) (name : List ℕ) (more : List (List ℕ)) (asks : Type 0) (x : T) (result : Result U Stop) (old mid new : Outside) → Took (name ∷ []) step (Ok x) old mid → Follows ⊥ more asks (rest x) result mid new → Follows ⊥ (name ∷ more) asks (after step here rest) result old new
read-gives step here rest name more asks x result old mid new took rest_is =
    step-gives step here rest step (name ∷ []) more asks asks x x result old mid new took took.gives rest_is rest_is.machines

-- something was given, but memory was lacking for what is made of it
pub took-lacks : {T V : Type 0} {files : List ReadFile} (step : Step T) (made : Step V) (names : List (List ℕ)) (y : V) (old new : Outside) → TookAmong names files made (Ok y) old new → step.stops Memory → TookAmong names files step (Err (Refused Memory)) old new
took-lacks step made names y old new took stops = record {
  later = took.later;
  silent = took.silent;
  asked = record { all = tt; some = asks-all names old.store.asked new.store.asked took.asked.all };
  place = took.place;
  gives = tt;
  stops = stops;
  counted = tt;
}
