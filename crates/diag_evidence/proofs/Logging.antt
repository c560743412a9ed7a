-- What new sessions of the log show.
use Rattle.std.proofs.Common.{◌≡◌, ◌≢◌, ℕ, Bool, true, false, Some, None, Option, List, [], ◌∷◌, ◌++◌, get_or, refl, sym, ap, ◌∙◌, All, append_assoc}
use Rattle.std.specs.Prelude.{◌↔◌, IsTrue, option_map}
use Rattle.diag_evidence.proofs.Vocabulary.{option_map_or, false≢true, Pins, Configuration, Walk}
use Rattle.rig.specs.Rig.{RigState, Session, Past, Exchange, Begins, GoesOn, GoesOnBy, log_of, standing}
use Rattle.diag_evidence.specs.Logged.{one_cycle, two_cycles, HasLogged, LogsBit, LogsRows, LogsTwice, ShowsApart, ShowsSwing, ShowsFromAll}

-- a session with this configuration and these cycles
standing_is : (o : Option Session) (g : Configuration) (cs : List Exchange) → option_map (λ (s : Session). s.config) o ≡ Some g
    → option_map_or (λ (s : Session). s.cycles) o [] ≡ cs → standing o ≡ record { config = g; cycles = cs } ∷ []
standing_is None g cs c e = absurd (let no : ⊥ = cc in no)
standing_is (Some s) g cs c e =
    let same : s.config ≡ g = cc in
    λ i. record { config = same i; cycles = e i } ∷ []

pub logs_once : (was : List Past) (b c : RigState) (g : Configuration) (room : ℕ) (drive r : Pins) → b.past ≡ was → Begins g room b → GoesOn drive r b c → log_of c ≡ was ++ one_cycle g drive r ∷ []
logs_once was b c g room drive r past begins one =
    ap (λ ps. ps ++ standing c.session) (one.past ∙ past)
    ∙ ap (λ xs. was ++ xs) (standing_is c.session g (record { drive = drive; reading = r } ∷ []) (one.config ∙ begins.config)
    (one.cycles ∙ ap (λ (cs : List Exchange). cs ++ record { drive = drive; reading = r } ∷ []) begins.cycles))

pub logs_twice : (was : List Past) (b c d : RigState) (g : Configuration) (room : ℕ) (low high r q : Pins) → b.past ≡ was → Begins g room b → GoesOn low r b c → GoesOn high q c d
    → log_of d ≡ was ++ two_cycles g low r high q ∷ []
logs_twice was b c d g room low high r q past begins one two =
    ap (λ ps. ps ++ standing d.session) (two.past ∙ one.past ∙ past)
    ∙ ap (λ xs. was ++ xs) (standing_is d.session g (record { drive = low; reading = r } ∷ record { drive = high; reading = q } ∷ []) (two.config ∙ one.config ∙ begins.config)
    (two.cycles ∙ ap (λ (cs : List Exchange). cs ++ record { drive = high; reading = q } ∷ []) (one.cycles ∙ ap (λ (cs : List Exchange). cs ++ record { drive = low; reading = r } ∷ []) begins.cycles)))

pub logs_rows : (a b c : RigState) (g : Configuration) (room : ℕ) (drives rows : List Pins) → b.past ≡ log_of a → Begins g room b → GoesOnBy drives rows b c → LogsRows g drives rows a c
logs_rows a b c g room drives rows past begins goes = record {
  cycles = goes.more;
  logged = ap (λ ps. ps ++ standing c.session) (goes.past ∙ past)
      ∙ ap (λ xs. log_of a ++ xs) (standing_is c.session g goes.more (goes.config ∙ begins.config) (goes.cycles ∙ ap (λ (cs : List Exchange). cs ++ goes.more) begins.cycles));
  driven = goes.driven;
  read = goes.read;
}

-- new sessions, and further ones behind them
pub logged_then : (was xs ys : List Past) {mid is : List Past} → mid ≡ was ++ xs → is ≡ mid ++ ys → is ≡ was ++ (xs ++ ys)
logged_then was xs ys p q = q ∙ ap (λ (l : List Past). l ++ ys) p ∙ append_assoc was xs ys

-- the same drives and rows by other names
pub logs_as : {g : Configuration} {drives others rows same : List Pins} {s t : RigState} → LogsRows g drives rows s t → drives ≡ others → same ≡ rows → LogsRows g others same s t
logs_as p d r = record { cycles = p.cycles; logged = p.logged; driven = p.driven ∙ d; read = p.read ∙ sym r }

-- an answer that is no where two values are the same, and yes where they differ
module _ {x y : Bool} where
  no_where : x ≡ y → IsTrue false ↔ (x ≢ y)
  no_where e = ((λ is. absurd (false≢true is)), (λ n. absurd (n e)))

  yes_where : x ≢ y → IsTrue true ↔ (x ≢ y)
  yes_where n = ((λ is. n), (λ n. refl))

module _ {g h : Configuration} {drive : Pins} {pin : ℕ} {s t u : RigState} {a b : Bool} (p : LogsBit g drive pin s t a) (q : LogsBit h drive pin t u b) where
  both : HasLogged (one_cycle g drive p.reading ∷ one_cycle h drive q.reading ∷ []) s u
  both = q.logged ∙ ap (λ l. l ++ one_cycle h drive q.reading ∷ []) p.logged ∙ append_assoc (log_of s) (one_cycle g drive p.reading ∷ []) (one_cycle h drive q.reading ∷ [])

  pub shows_same : a ≡ b → ShowsApart g h drive pin s u false
  shows_same e = record { first = p.reading; second = q.reading; logged = both; exact = no_where (sym p.bit_is ∙ e ∙ q.bit_is) }

  pub shows_apart : a ≢ b → ShowsApart g h drive pin s u true
  shows_apart n = record { first = p.reading; second = q.reading; logged = both; exact = yes_where (λ e. n (p.bit_is ∙ e ∙ sym q.bit_is)) }

module _ {g : Configuration} {low high : Pins} {pin : ℕ} {s t : RigState} {a b : Bool} (p : LogsTwice g low high pin s t a b) where
  pub shows_still : a ≡ b → ShowsSwing g low high pin s t false
  shows_still e = record { first = p.reading; second = p.later; logged = p.logged; exact = no_where (sym p.first_is ∙ e ∙ p.second_is) }

  pub shows_swing : a ≢ b → ShowsSwing g low high pin s t true
  shows_swing n = record { first = p.reading; second = p.later; logged = p.logged; exact = yes_where (λ e. n (p.first_is ∙ e ∙ sym p.second_is)) }

module _ (g : Configuration) (drive reading : Pins) (left : Walk) (rights : List Walk) (s t : RigState) (logged : HasLogged (one_cycle g drive reading ∷ []) s t) where
  pub shows_none : (All (λ (r : Walk). get_or reading left.pin true ≢ get_or reading r.pin true) rights → ⊥) → ShowsFromAll g drive left rights s t false
  shows_none none_ = record { reading = reading; logged = logged; exact = ((λ is. absurd (false≢true is)), (λ all. absurd (none_ all))) }

  pub shows_all : All (λ (r : Walk). get_or reading left.pin true ≢ get_or reading r.pin true) rights → ShowsFromAll g drive left rights s t true
  shows_all all = record { reading = reading; logged = logged; exact = ((λ is. all), (λ every. refl)) }
