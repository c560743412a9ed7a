-- What stays of a test while the session of the last of what it did ends.
use Rattle.std.proofs.Common.{◌≡◌, ◌∙◌, ℕ, ◌+◌, ◌*◌, ◌-◌, ◌<◌, ◌≤◌, Bool, List, length, [], refl, arith, Ok, Err}
use Rattle.cmd_check.proofs.Vocabulary.{StoreState, SinkState, size_of, ImageValue, Part, WirePart, RigState, LoadFails, outside, IsLater}
use Rattle.cmd_check.proofs.Vocabulary.{StepStops, stop_of_rig, Took, took-quietly, stopped-quietly, later-later, Settles, one-more}
use Rattle.cmd_check.proofs.Vocabulary.{settled-counted, settled-later, HasTestLeft, IsTried, tests_now}
use Rattle.rig.specs.declared.rig.RigFail.{RigFail}
use Rattle.rig.specs.declared.rig.RigFail.TheVariants as work
use Rattle.diag_check.specs.{Soundly.AreAllOf, Soundly.TakesForParts, Soundly.TakesForWays, Used.AreUsed}
use Rattle.cmd_check.proofs.Counting.{wires-fit}

-- the used wires are parts
pub test-left : (i : ImageValue) (used : List Bool) (before now : ℕ) → AreUsed i used → now - before < 256 * size_of used → HasTestLeft i before now
test-left i used before now are less = record { few = few }
  where
    few : (parts : List Part) (nodes : List ℕ) → AreAllOf i parts nodes → now < before + 256 * length parts
    few parts nodes all = let fit = wires-fit parts used (λ w h. all.each_part (WirePart w) (are.only w h)) in omega (arith, less, fit)

module _ (i : ImageValue) (r0 r1 r2 : RigState) (settles : Settles r1 r2) (left : HasTestLeft i r0.loads r1.loads) where
  for-ways : TakesForWays i r0.loads r2.loads
  for-ways = record { few = λ parts nodes crosses wires all around. (let few = left.few parts nodes all in let one = one-more r1.loads r2.loads settles.once in omega (arith, few, one)) }

  for-parts : TakesForParts i r0.loads r2.loads
  for-parts = record { few = λ parts nodes all. (let few = left.few parts nodes all in let one = one-more r1.loads r2.loads settles.once in omega (arith, few, one)) }

  module _ (s : StoreState) (k : SinkState) (sound : Bool) (took : Took [] (tests_now i r0 r1) (Ok sound) (outside s r0 k) (outside s r1 k)) where
    later : IsLater (outside s r0 k) (outside s r2 k)
    later = later-later (outside s r0 k) (outside s r1 k) (outside s r2 k) took.later (settled-later r1 r2 settles s k)

    tried : IsTried i r0.loads r2 (record { sound = sound; loads = r2.loads })
    tried = let t = took.gives in record {
      sound = λ f e. t.sound f (settles.narrows f e);
      whole = λ f e. t.whole f (settles.narrows f e);
      ways = λ f e. t.ways f (settles.narrows f e);
      few = for-ways;
      fewer = λ f e unharmed. for-parts;
    }

    -- it did
    pub test-settled : Took [] (tests_now i r0 r2) (Ok sound) (outside s r0 k) (outside s r2 k)
    test-settled = took-quietly (tests_now i r0 r2) later sound tried

    fails : (fail : RigFail) → StepStops (tests_now i r0 r2) (stop_of_rig fail)
    fails work.Failed = (tt, for-ways)
    fails work.Memory = (tt, for-ways)

    -- or the rig failed, or memory was lacking
    pub test-unsettled : (fail : RigFail) → LoadFails fail r1 r2 →
        Took [] (tests_now i r0 r2) (Err (stop_of_rig fail)) (outside s r0 k) (outside s r2 k)
    test-unsettled fail refused =
        stopped-quietly (tests_now i r0 r2) later (stop_of_rig fail) (fails fail) (settled-counted r1 r2 settles r0 s k fail took.later.rig refused)
