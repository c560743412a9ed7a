-- Sessions that have ended, and what explains them.
use Rattle.std.proofs.Common.{◌≡◌, ◌≤◌, Bool, true, false, ℕ, Option, None, Some, IfSome, List, [], ◌∷◌, ◌++◌, inr, refl, sym, ap, ◌∙◌, subst, option_map, IsSome, is_some, if◌then◌else◌}
use Rattle.rig_doubled.proofs.Vocabulary.{false≢true, AllByRecursion, option_map_or, flat_map_more, pins_of, Faults, Configuration}
use Rattle.rig_doubled.proofs.Vocabulary.{standing_runs, runs_more, Pair, Kept, Repeated, IsRepeating, ended_in, repeat_state}
use Rattle.rig.specs.Rig.{Asked, Machine, Refused, RigState, Session, Past, IsRunOf, Explains, Narrows, standing}
use Rattle.rig_doubled.specs.Twins.{Twins, IsOfMachine, ArePaired, IsTwinned, session_with, twin_state}

-- one more that has ended
pub ended_more : {I : Type 0} (state : I → RigState) (rigs : List I) (rig : I) → ended_in state (rigs ++ rig ∷ []) ≡ ended_in state rigs ++ standing (state rig).session
ended_more state rigs rig = sym (flat_map_more (λ r. standing (state r).session) [] rigs rig)

-- sessions that f explains, with more behind
module _ (f : Faults) where
  if_stands : (b : Bool) (o : Option Session) → AllByRecursion (IsRunOf f) (standing o) → AllByRecursion (IsRunOf f) (standing (if b then o else None))
  if_stands true o p = p
  if_stands false o p = tt

  -- the faults that explain the inner rig's log explain the sessions that have ended and the one that stands
  pub ended_runs : (inner : RigState) (stands : Bool) (past : List Past) → Explains f inner → AllByRecursion (IsRunOf f) past
      → AllByRecursion (IsRunOf f) (past ++ standing (if stands then inner.session else None))
  ended_runs inner stands past e runs = runs_more f past (standing (if stands then inner.session else None)) runs (if_stands stands inner.session (standing_runs f inner e))

-- what explains the inner rig's log explains that of the rig that asks again
pub repeat_explains : {I : Type 0} (times : ℕ) (kept : Option Kept) (inner : RigState) (past : List Past) (r : Repeated I) → IsRepeating times kept r.stands inner past
    → (f : Faults) → Explains f inner → Explains f (repeat_state inner past r)
repeat_explains times kept inner past r is f e = record { faults = e.faults; runs = ended_runs f inner r.stands past e (is.explains f e) }

-- a session with another room is the same in the log
standing_with : (spare : Option ℕ) (o : Option Session) → (f : Faults) → AllByRecursion (IsRunOf f) (standing o) → AllByRecursion (IsRunOf f) (standing (session_with spare o))
standing_with None o f p = tt
standing_with (Some n) None f p = tt
standing_with (Some n) (Some s) f p = p

-- sessions with the same configuration and cycles are the same in the log
pub standing_same : (o p : Option Session) → option_map (λ (s : Session). s.config) o ≡ option_map (λ (s : Session). s.config) p
    → option_map_or (λ (s : Session). s.cycles) o [] ≡ option_map_or (λ (s : Session). s.cycles) p [] → standing o ≡ standing p
standing_same None None c e = refl
standing_same None (Some s) c e = absurd (let no : ⊥ = cc in no)
standing_same (Some s) None c e = absurd (let no : ⊥ = cc in no)
standing_same (Some s) (Some t) c e =
    let same : s.config ≡ t.config = cc in
    λ i. record { config = same i; cycles = e i } ∷ []

-- the session of both, as it stands in the log
pub pair_standing : (n : ℕ) (o : Option Session) → standing (session_with (Some n) o) ≡ standing o
pair_standing n None = refl
pair_standing n (Some s) = refl

-- what explains the log of either explains that of both, where it is of their machine
module _ {A B : Type 0} (t : Twins A B) (machine : Option Asked) (pair : Option Pair) (first second : RigState) (past : List Past)
    (same : t.spare ≡ option_map (λ (p : Pair). p.spare) pair) (is : IsTwinned machine pair first second past) (f : Faults) (faults : IsOfMachine f (twin_state first second past t)) where
  pub first_explains : Explains f first → Explains f (twin_state first second past t)
  first_explains e = record { faults = faults; runs = runs_more f past (standing (session_with t.spare first.session)) (is.first_explains f e) (standing_with t.spare first.session f (standing_runs f first e)) }

  pub second_explains : Explains f second → Explains f (twin_state first second past t)
  second_explains e = record { faults = faults; runs = runs_more f past (standing (session_with t.spare first.session)) (is.second_explains f e) (by pair same is.paired) }
    where
      by : (p : Option Pair) → t.spare ≡ option_map (λ (p : Pair). p.spare) p → IfSome p (λ p. ArePaired p first second) → AllByRecursion (IsRunOf f) (standing (session_with t.spare first.session))
      by None is paired = subst (λ (o : Option ℕ). AllByRecursion (IsRunOf f) (standing (session_with o first.session))) (sym is) tt
      by (Some p) is paired = standing_with t.spare first.session f
          (subst (AllByRecursion (IsRunOf f)) (sym (standing_same first.session second.session paired.config paired.cycles)) (standing_runs f second e))

-- what explains the log after a session has ended explains those that have ended
pub ended_explains : (stands : Bool) (past ended : List Past) (inner new : RigState) → ended ≡ past ++ standing (if stands then inner.session else None)
    → ((f : Faults) → Explains f inner → AllByRecursion (IsRunOf f) past) → Narrows inner new → (f : Faults) → Explains f new → AllByRecursion (IsRunOf f) ended
ended_explains stands past ended inner new is explains narrows f e =
    subst (AllByRecursion (IsRunOf f)) (sym is) (ended_runs f inner stands past (narrows f e) (explains f (narrows f e)))

-- a session that has ended with its repeat is one more, which what explains the inner rig's log explains
pub repeat_ended : {times : ℕ} (stands : Bool) (past ended : List Past) (inner new : RigState) → 1 ≤ times → ended ≡ past ++ standing (if stands then inner.session else None)
    → ((f : Faults) → Explains f inner → AllByRecursion (IsRunOf f) past) → Narrows inner new → IsRepeating times None false new ended
repeat_ended stands past ended inner new some is explains narrows = record {
  some = some;
  held = tt;
  once = λ _. inr refl;
  explains = ended_explains stands past ended inner new is explains narrows;
}

-- .. and of two rigs, what explains the log of the second
pub second_ended : (pair : Option Pair) (past ended : List Past) (first second new : RigState) → ended ≡ past ++ standing (if is_some pair then first.session else None)
    → IfSome pair (λ p. ArePaired p first second) → ((f : Faults) → Explains f second → AllByRecursion (IsRunOf f) past) → Narrows second new
    → (f : Faults) → Explains f new → AllByRecursion (IsRunOf f) ended
second_ended pair past ended first second new is paired explains narrows f e =
    subst (AllByRecursion (IsRunOf f)) (sym is) (runs_more f past (standing (if is_some pair then first.session else None)) (explains f (narrows f e)) (by pair paired))
  where
    by : (p : Option Pair) → IfSome p (λ p. ArePaired p first second) → AllByRecursion (IsRunOf f) (standing (if is_some p then first.session else None))
    by None paired = tt
    by (Some p) paired = subst (AllByRecursion (IsRunOf f)) (sym (standing_same first.session second.session paired.config paired.cycles)) (standing_runs f second (narrows f e))

-- a session of both that ends in a failure stood in the log
pub ends_logged : (past ended : List Past) (spare : Option ℕ) (session : Option Session) → IsSome spare → ended ≡ past ++ standing session
    → ended ≡ past ++ standing (session_with spare session)
ends_logged past ended None session some is = absurd (false≢true some)
ends_logged past ended (Some n) session some is = is ∙ ap (λ xs. past ++ xs) (sym (pair_standing n session))

-- .. and so of one that is a rig's own
pub ends_own : (stands : Bool) (past ended : List Past) (session : Option Session) → IsSome (if stands then session else None) → ended ≡ past ++ standing session
    → ended ≡ past ++ standing (if stands then session else None)
ends_own true past ended session some is = is
ends_own false past ended session some is = absurd (false≢true some)

-- where a width is known there is a session
pub width_session : (o : Option Session) (n : ℕ) → option_map (λ (g : Configuration). pins_of g.shape) (option_map (λ (s : Session). s.config) o) ≡ Some n → IsSome o
width_session None n e = absurd (let no : ⊥ = cc in no)
width_session (Some s) n e = refl

-- the session of both, if there is one, stood in the log
pub both_logged : (pair : Option Pair) (past ended : List Past) (session : Option Session) → ended ≡ past ++ standing (if is_some pair then session else None)
    → ended ≡ past ++ standing (session_with (option_map (λ (p : Pair). p.spare) pair) session)
both_logged None past ended session is = is
both_logged (Some p) past ended session is = is ∙ ap (λ xs. past ++ xs) (sym (pair_standing p.spare session))

pub both_ended : (flag : Bool) (pair : Option Pair) (past ended : List Past) (session : Option Session) → flag ≡ is_some pair → ended ≡ past ++ standing (if flag then session else None)
    → ended ≡ past ++ standing (session_with (option_map (λ (p : Pair). p.spare) pair) session)
both_ended flag pair past ended session stood is = both_logged pair past ended session (is ∙ ap (λ b. past ++ standing (if b then session else None)) stood)

-- what both mean as a machine, by the one that is told
pub told_machine : (asked : List Asked) (attached : Option Asked) (refused : Refused) {m n : Machine} → m ≡ n → ◌≡◌ {A = Machine}
    (record { asked = asked; attached = attached; faults = m.faults; texts = λ _. None; refused = refused })
    (record { asked = asked; attached = attached; faults = n.faults; texts = λ _. None; refused = refused })
told_machine asked attached refused e = λ i. record { asked = asked; attached = attached; faults = (e i).faults; texts = λ _. None; refused = refused }
