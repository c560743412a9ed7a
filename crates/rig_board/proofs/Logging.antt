-- What is logged is what each machine that a board may be has read.
use Rattle.std.proofs.Common.{◌≡◌, List, [], ◌∷◌, ◌++◌, map, Option, None, Some, refl, sym, ap, ◌∙◌, subst, IfSome, IsSomeAnd, option_map}
use Rattle.std.specs.List.{AllByRecursion}
use Rattle.rig_board.proofs.Vocabulary.{ForSome, Shape, Pins, Faults, AreFaultsOf, Kept, HasAdded, past_of, session_of}
use Rattle.std.proofs.lemmas.Grind.{merely}
use mathlib.Core.Logic.{∥∥₁_map}
use Rattle.machine_config.specs.Vocabulary.{Configuration, IsRun, circuit_of, none, at_load}
use Rattle.rig.specs.Rig.{Asked, Exchange, Past, RigState, Session, IsRunOf, Explains, shape_of, drives_of, readings_of, standing}
use Rattle.rig_board.specs.Device.{Device, IsInSession, HasRunSession}
use Rattle.rig_board.specs.Machines.{Narrows, EachWas, GoesOnBy, AreLogged}
use Rattle.rig_board.proofs.Driven.{same_pairs}

all_more : (P : Past → Type 0) (xs ys : List Past) → AllByRecursion P xs → AllByRecursion P ys → AllByRecursion P (xs ++ ys)
all_more P [] ys p q = q
all_more P (x ∷ xs) ys p q = (p.0, all_more P xs ys p.1 q)

all_first : (P : Past → Type 0) (xs ys : List Past) → AllByRecursion P (xs ++ ys) → AllByRecursion P xs
all_first P [] ys p = tt
all_first P (x ∷ xs) ys p = (p.0, all_first P xs ys p.1)

-- a session that ran is a run of what it is
ran_in : (g : Configuration) (pairs : List Exchange) (d : Device) → IsInSession g pairs d → HasRunSession d → IsRunOf d.faults (record { config = g; cycles = pairs })
ran_in g pairs d i run = by_session d.session i.config i.so_far run where
  by_session : (s : Option Session) → option_map (λ (s : Session). s.config) s ≡ Some g → option_map (λ (s : Session). s.cycles) s ≡ Some pairs
      → IfSome s (λ s. IsRun d.faults s.config (drives_of s.cycles) (readings_of s.cycles)) → IsRun d.faults g (drives_of pairs) (readings_of pairs)
  by_session None config so_far run = cc
  by_session (Some s) config so_far run =
      let is : s.config ≡ g = cc in
      let all : s.cycles ≡ pairs = cc in
      subst (λ (c : Configuration). IsRun d.faults c (drives_of pairs) (readings_of pairs)) is
      (subst (λ (ps : List Exchange). IsRun d.faults s.config (drives_of ps) (readings_of ps)) all run)

-- what is said of a session that stands
for_one : (P : Session → Type 0) (s : Session) → P s → ForSome (Some s) P
for_one P s p t is = let same : s ≡ t = cc in subst P same p

for_none : (P : Session → Type 0) → ForSome None P
for_none P t is = cc

-- nothing was logged
pub logged_none : {M : Device → Type 0} {past : List Past} {session : Option Session} → past ≡ [] → session ≡ None → AreLogged M past session
logged_none {M} {past} {session} empty ended = subst (λ (l : List Past). AreLogged M l session) (sym empty) (subst (λ (s : Option Session). AreLogged M [] s) (sym ended) (record {
  ran = λ d m. merely tt;
  stands = λ d m. for_none (λ s. IsInSession s.config s.cycles d);
}))

-- the session ends
pub logged_ended : {M : Device → Type 0} {past now : List Past} {s rest : Option Session} → now ≡ past ++ standing s → rest ≡ None → AreLogged M past s → AreLogged M now rest
logged_ended {M} {past} {now} {s} {rest} more ended l =
    subst (λ (list : List Past). AreLogged M list rest) (sym more) (subst (λ (r : Option Session). AreLogged M (past ++ standing s) r) (sym ended) (record {
      ran = λ d m. ∥∥₁_map (l.ran d m) (λ all. all_more (IsRunOf d.faults) (past ++ standing s) [] all tt);
      stands = λ d m. for_none (λ s. IsInSession s.config s.cycles d);
    }))

-- fewer machines
pub logged_narrowed : {M N : Device → Type 0} {past : List Past} {s : Option Session} → s ≡ None → Narrows M N → AreLogged M past s → AreLogged N past s
logged_narrowed {M} {N} {past} {s} ended narrows l = record {
  ran = λ d n. let o = narrows d n in subst (λ (f : Faults). ∥ AllByRecursion (IsRunOf f) (past ++ standing s) ∥₁) o.2 (l.ran o.0 o.1);
  stands = λ d n. subst (λ (s : Option Session). ForSome s (λ s. IsInSession s.config s.cycles d)) (sym ended) (for_none (λ s. IsInSession s.config s.cycles d));
}

-- a session begins
pub logged_set : {M N : Device → Type 0} {past : List Past} {old : Option Session} (g : Configuration) (s : Session) → old ≡ None → s.config ≡ g → s.cycles ≡ []
    → EachWas (λ o d. IsInSession g [] d) M N → AreLogged M past old → AreLogged N past (Some s)
logged_set {M} {N} {past} {old} g s ended set empty each l = record {
  ran = λ d n. let o = each d n in
      ∥∥₁_map (subst (λ (f : Faults). ∥ AllByRecursion (IsRunOf f) (past ++ standing old) ∥₁) o.2 (l.ran o.0 o.1)) (λ all.
      all_more (IsRunOf d.faults) past _ (all_first (IsRunOf d.faults) past (standing old) all) (begun d, tt));
  stands = λ d n. for_one (λ s. IsInSession s.config s.cycles d) s (subst (λ (c : Configuration). IsInSession c s.cycles d) (sym set)
      (subst (λ (ps : List Exchange). IsInSession g ps d) (sym empty) (each d n).3));
} where
  begun : (d : Device) → IsRunOf d.faults (record { config = s.config; cycles = s.cycles })
  begun d = subst (λ (ps : List Exchange). IsRun d.faults s.config (drives_of ps) (readings_of ps)) (sym empty) (record { outputs = at_load (circuit_of d.faults s.config); cycles = none })

-- it goes on
pub logged_more : {M N : Device → Type 0} {past : List Past} {old : Option Session} (drives readings : List Pins) (s t : Session) → old ≡ Some s → t.config ≡ s.config → HasAdded drives readings s t
    → EachWas (GoesOnBy drives readings) M N → AreLogged M past old → AreLogged N past (Some t)
logged_more {M} {N} {past} {old} drives readings s t there same added each l = record {
  ran = λ d n. let o = each d n in
      ∥∥₁_map (subst (λ (f : Faults). ∥ AllByRecursion (IsRunOf f) (past ++ standing old) ∥₁) o.2 (l.ran o.0 o.1)) (λ all.
      all_more (IsRunOf d.faults) past _ (all_first (IsRunOf d.faults) past (standing old) all) (ran_in t.config t.cycles d (in_session d n) (o.3).went.run, tt));
  stands = λ d n. for_one (λ s. IsInSession s.config s.cycles d) t (in_session d n);
} where
  in_session : (d : Device) → N d → IsInSession t.config t.cycles d
  in_session d n =
      let o = each d n in
      let g = o.3 in
      let one = same_pairs g.pairs added.pairs (g.driven ∙ sym added.driven) (g.read ∙ sym added.read) in
      let so_far : s.cycles ++ g.pairs ≡ t.cycles = ap (λ (ps : List Exchange). s.cycles ++ ps) one ∙ sym added.so_far in
      subst (λ (c : Configuration). IsInSession c t.cycles d) (sym same)
      (subst (λ (ps : List Exchange). IsInSession s.config ps d) so_far (g.went.goes_on s.config s.cycles (l.stands o.0 o.1 s there)))

-- each machine that the board may be explains the log
pub explained : {M : Device → Type 0} (rig : RigState) → AreLogged M rig.past rig.session → (d : Device) → M d → (m : Shape) → shape_of rig ≡ Some m → AreFaultsOf m d.faults → ∥ Explains d.faults rig ∥₁
explained rig l d b m at faults = ∥∥₁_map (l.ran d b) (λ all. record {
  faults = subst (λ (s : Option Shape). IsSomeAnd s (λ m. AreFaultsOf m d.faults)) (sym at) faults;
  runs = all;
})

-- what is said of the attached shape
pub found_at : {A : Type 0} (shape : A → Shape) (asked : A → Asked) (P : Shape → Type 0) (machine : Option A) (m : Shape) → ((a : A) → (asked a).shape ≡ shape a) → ForSome (option_map shape machine) P
    → option_map (λ (a : Asked). a.shape) (option_map asked machine) ≡ Some m → P m
found_at shape asked P None m same all at = cc
found_at shape asked P (Some a) m same all at = all m (ap Some (sym (same a)) ∙ at)

map_and : (past : List Kept) (k : Kept) → map past_of (past ++ k ∷ []) ≡ map past_of past ++ past_of k ∷ []
map_and [] k = refl
map_and (x ∷ past) k = ap (λ l. past_of x ∷ l) (map_and past k)

-- the session that was kept is the last that ended
pub past_more : (items past : List Kept) (found : Option Kept) (k l : Kept) → items ≡ past ++ l ∷ [] → found ≡ Some k → (session_of l).config ≡ (session_of k).config
    → (session_of l).cycles ≡ (session_of k).cycles → map past_of items ≡ map past_of past ++ standing (option_map session_of found)
past_more items past found k l is there config cycles =
    let same : past_of l ≡ past_of k
    = ap (λ (g : Configuration). past_with g (session_of l).cycles) config ∙ ap (λ (ps : List Exchange). past_with (session_of k).config ps) cycles in
    ap (map past_of) is ∙ map_and past l ∙ ap (λ p. map past_of past ++ p ∷ []) same
    ∙ ap (λ (o : Option Kept). map past_of past ++ standing (option_map session_of o)) (sym there) where
      past_with : Configuration → List Exchange → Past
      past_with g ps = record { config = g; cycles = ps }

-- they are added to the session before
pub added_from : (drives readings : List Pins) (s mid t : Session) → mid.cycles ≡ s.cycles → HasAdded drives readings mid t → HasAdded drives readings s t
added_from drives readings s mid t same a = record { pairs = a.pairs; driven = a.driven; read = a.read; so_far = a.so_far ∙ ap (λ l. l ++ a.pairs) same }

-- one is added
pub added_one : (drive reading : Pins) (s mid t : Session) → mid.cycles ≡ s.cycles → t.cycles ≡ mid.cycles ++ record { drive = drive; reading = reading } ∷ []
    → HasAdded (drive ∷ []) (reading ∷ []) s t
added_one drive reading s mid t same so_far =
    added_from (drive ∷ []) (reading ∷ []) s mid t same (record { pairs = record { drive = drive; reading = reading } ∷ []; driven = refl; read = refl; so_far = so_far })
