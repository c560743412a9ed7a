-- Two rigs side by side, and the sessions of both that have ended.
use Rattle.std.proofs.Common.{◌≡◌, ℕ, Bool, true, Option, None, Some, IfSome, List, ◌++◌, length, refl, sym, ap, ◌∙◌, subst, arith, option_map, IsSome, is_some, if◌then◌else◌}
use Rattle.rig_doubled.proofs.Vocabulary.{false≢true, pins_of, Configuration, Pair, HaveWidth, ArePaired, IsTwinned, session_with}
use Rattle.rig.specs.Rig.{Asked, Machine, RigState, Session, Past, Begins, Narrows, shape_of, standing}
use Rattle.rig_doubled.proofs.Endings.{ended_explains, second_ended}

-- what is attached to both stays so
still_attached : (machine : Option Asked) (first first_new second second_new : RigState) → first_new.machine ≡ first.machine → second_new.machine ≡ second.machine
    → IfSome machine (λ m. (shape_of first ≡ Some m.shape) × (shape_of second ≡ Some m.shape)) → IfSome machine (λ m. (shape_of first_new ≡ Some m.shape) × (shape_of second_new ≡ Some m.shape))
still_attached None first first_new second second_new one other is = tt
still_attached (Some m) first first_new second second_new one other is =
    (ap (λ (k : Machine). option_map (λ a. a.shape) k.attached) one ∙ is.0, ap (λ (k : Machine). option_map (λ a. a.shape) k.attached) other ∙ is.1)

module _ {machine : Option Asked} {pair : Option Pair} {past : List Past} {first first_new second second_new : RigState} (is : IsTwinned machine pair first second past)
    (one : first_new.machine ≡ first.machine) (other : second_new.machine ≡ second.machine) (narrows : Narrows first first_new) (also : Narrows second second_new)
    (next : Option Pair) (paired : IfSome next (λ p. ArePaired p first_new second_new)) (ended : List Past) where
  -- the session of both has ended, if there was one
  pub twins_end : (flag : Bool) → flag ≡ is_some pair → ended ≡ past ++ standing (if flag then first.session else None) → IsTwinned machine next first_new second_new ended
  twins_end flag stood is_more =
      let more : ended ≡ past ++ standing (if is_some pair then first.session else None) = is_more ∙ ap (λ b. past ++ standing (if b then first.session else None)) stood in
      record {
        attached = still_attached machine first first_new second second_new one other is.attached;
        paired = paired;
        first_explains = ended_explains (is_some pair) past ended first first_new more is.first_explains narrows;
        second_explains = second_ended pair past ended first second second_new more is.paired is.second_explains also;
      }

  -- .. and there was one
  pub twins_fail : IsSome pair → ended ≡ past ++ standing first.session → IsTwinned machine next first_new second_new ended
  twins_fail some more = twins_end true (sym some) more

-- a session of both begins
pub paired_at_load : (p : Pair) (g : Configuration) (room : ℕ) (first second : RigState) → p.spare ≡ room → length p.read ≡ pins_of g.shape → length p.other ≡ pins_of g.shape
    → HaveWidth (pins_of g.shape) p.others.items → length p.others.items ≡ room → Begins g room first → Begins g room second → ArePaired p first second
paired_at_load p g room first second spare read other rows many begins also = record {
  config = begins.config ∙ sym also.config;
  cycles = begins.cycles ∙ sym also.cycles;
  width = ap (option_map (λ (h : Configuration). pins_of h.shape)) begins.config ∙ ap Some (sym read);
  other = other ∙ sym read;
  rows = rw read rows;
  room = omega (arith, spare, many);
  first_spare = omega (arith, spare, begins.spare);
  second_spare = omega (arith, spare, also.spare);
}

-- where both have a session, something is paired
pub session_pair : (pair : Option Pair) (o : Option ℕ) (s : Option Session) → option_map (λ (p : Pair). p.spare) pair ≡ o → IsSome (session_with o s) → IsSome pair
session_pair (Some p) o s is some = refl
session_pair None o s is some = absurd (false≢true (subst (λ (n : Option ℕ). IsSome (session_with n s)) (sym is) some))
