-- How many cycles the calls of a rig make.
use Rattle.std.proofs.Common.{◌≡◌, ◌∙◌, ℕ, ◌+◌, ◌≤◌, List, [], ◌∷◌, ◌++◌, length, map, length-append, Option, Some, None, Result, Ok, Err, OnOk, OnErr, IfErr, refl, sym, ap, arith}
use Rattle.std.specs.{List.sum_by, Option.option_map_or}
use Rattle.std.proofs.lemmas.List.{length-map, Sums.sum_by-append, Sums.sum_by-cons}
use Rattle.machine_meaning.specs.Vocabulary.{Pins}
use Rattle.machine_config.specs.Vocabulary.{Configuration}
use Rattle.rig.specs.Rig.{RigState, Session, Past, Exchange, drives_of, standing, log_of, cycles_of, cycles_made, Begins, GoesOn, GoesOnBy, CycleFails, CyclesFail}
use Rattle.rig.specs.declared.rig.RigFail.{RigFail}
use Rattle.rig.specs.declared.rig.RigFail.TheVariants as work

abbrev in-past : Past → ℕ
in-past s = length s.cycles

standing-made : (o : Option Session) → sum_by in-past (standing o) ≡ length (option_map_or (λ (s : Session). s.cycles) o [])
standing-made None = refl
standing-made (Some s) = let one = sum_by-cons in-past (record { config = s.config; cycles = s.cycles }) [] in omega (arith, one)

-- those of the sessions that have ended, and of the one that stands
made-is : (rig : RigState) → cycles_made rig ≡ sum_by in-past rig.past + length (cycles_of rig)
unfolding cycles_made
made-is rig =
    let all = sum_by-append in-past rig.past (standing rig.session) in
    let last = standing-made rig.session in
    omega (arith, all, last)

made-past : (rig : RigState) → sum_by in-past (log_of rig) ≡ cycles_made rig
unfolding cycles_made
made-past rig = refl

no-cycles : (o : Option Session) → o ≡ None → option_map_or (λ (s : Session). s.cycles) o [] ≡ []
no-cycles o is = ap (λ (s : Option Session). option_map_or (λ (t : Session). t.cycles) s []) is

module _ (old new : RigState) where
  -- a session has ended, and none stands or one without a cycle
  none-more : new.past ≡ log_of old → cycles_of new ≡ [] → cycles_made new ≡ cycles_made old
  none-more past none =
      let now = made-is new in
      let before = ap (sum_by in-past) past ∙ made-past old in
      let empty = ap length none in
      omega (arith, now, before, empty)

  pub load-made : (g : Configuration) (room : ℕ) (r : Result (Unit {0}) RigFail) → new.past ≡ log_of old → OnOk r (Begins g room new) → OnErr r (new.session ≡ None) → cycles_made new ≡ cycles_made old
  load-made g room (Ok x) past begins ended = none-more past begins.cycles
  load-made g room (Err e) past begins ended = none-more past (no-cycles new.session ended)

  -- so many cycles more in the session that stands
  some-more : (more : List Exchange) → new.past ≡ old.past → cycles_of new ≡ cycles_of old ++ more → cycles_made new ≡ cycles_made old + length more
  some-more more past cycles =
      let now = made-is new in
      let before = made-is old in
      let same = ap (sum_by in-past) past in
      let longer = ap length cycles ∙ length-append (cycles_of old) more in
      omega (arith, now, before, same, longer)

  as-it-was : new.session ≡ old.session → new.past ≡ old.past → cycles_made new ≡ cycles_made old
  as-it-was session past =
      let now = made-is new in
      let before = made-is old in
      let same = ap (sum_by in-past) past in
      let stands = ap (λ (o : Option Session). length (option_map_or (λ (s : Session). s.cycles) o [])) session in
      omega (arith, now, before, same, stands)

  pub cycle-made : {T : Type 0} (d q : Pins) (r : Result T RigFail) → OnOk r (GoesOn d q old new) → IfErr r (λ e. CycleFails e old new) → cycles_made new ≤ cycles_made old + 1
  cycle-made d q (Ok x) on fails = let all = some-more (record { drive = d; reading = q } ∷ []) on.past on.cycles in omega (arith, all)
  cycle-made d q (Err work.Failed) on fails = let all = none-more fails.2 (no-cycles new.session fails.1) in omega (arith, all)
  cycle-made d q (Err work.Memory) on fails = let all = as-it-was fails.1 fails.2 in omega (arith, all)

  pub cycles-made : {T : Type 0} (ds qs : List Pins) (r : Result T RigFail) → OnOk r (GoesOnBy ds qs old new) → IfErr r (λ e. CyclesFail e (length ds) old new) → cycles_made new ≤ cycles_made old + length ds
  cycles-made ds qs (Ok x) on fails =
      let all = some-more on.more on.past on.cycles in
      let many = sym (length-map on.more (λ (e : Exchange). e.drive)) ∙ ap length on.driven in
      omega (arith, all, many)
  cycles-made ds qs (Err work.Failed) on fails = let all = none-more fails.2 (no-cycles new.session fails.1) in omega (arith, all)
  cycles-made ds qs (Err work.Memory) on fails = let all = as-it-was fails.1 fails.2 in omega (arith, all)
