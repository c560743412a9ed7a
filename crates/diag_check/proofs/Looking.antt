-- What the looks at an image say.
use Rattle.std.proofs.Common.{◌≡◌, ℕ, true, Some, Option, List, All, get_or, ap, subst, is_some}
use Rattle.diag_check.proofs.Vocabulary.{slice_get-get_or, Table, Shape, setting_of, ImageValue, Kept, HoldsFor, IsMore, keeps_wire}
use Rattle.diag_check.proofs.Vocabulary.{KnownWires, HasWire, IsKnown, SeatedAreKept, VerifiedWire, KeepsTableOf, AreSeated}
use Rattle.machine_meaning.specs.Vocabulary.{Faults, IsSoundTable, IsRightTable}
use Rattle.diag_growth.specs.Seats.{KeepsTable}
use Rattle.diag_evidence.proofs.KeptLemmas.{pair_apart}
use Rattle.diag_check.specs.Soundly.{KeepsRoutes, KeepsRoutesInSet, KeepsTables, PartsAreSound}

-- ---- known wires are kept

module _ (k : Kept) (known : KnownWires) (is : IsKnown k known) where
  pub wire_kept : (w : ℕ) → HasWire known.steps w → keeps_wire k w ≡ true
  wire_kept w h = subst (λ u. keeps_wire k u ≡ true) h.at.wire (is.steps h.place h.at.step h.at.here).kept

-- each two wires of the set are a kept pair
pub routes_kept : {k : Kept} {i : ImageValue} → KeepsRoutesInSet k i → KeepsRoutes k i
routes_kept {k} keeps = record {
  crosses = keeps.crosses;
  wires = keeps.wires;
  pairs = λ w u p q differ. pair_apart k w u differ (keeps.apart w p) (keeps.apart u q);
}

-- what was kept of routes stays kept
pub routes_stay : {k l : Kept} {i : ImageValue} → IsMore k l → KeepsRoutesInSet k i → KeepsRoutesInSet l i
routes_stay more keeps = record {
  crosses = λ x c. more.crosses x (keeps.crosses x c);
  wires = λ w uses. more.wires w (keeps.wires w uses);
  apart = λ w uses. more.apart w (keeps.apart w uses);
}

-- ---- tables

pub tables_kept : (k : Kept) (i : ImageValue) → ((t : ℕ) → is_some (setting_of i.config t) ≡ true → KeepsTableOf k i t) → KeepsTables k i
tables_kept k i each = record {
  cells = λ t a on l. (each t on).cells a l;
  registers = λ t s on latched. (each t (ap is_some on)).register s on latched;
}

pub tables_each : (k : Kept) (i : ImageValue) → KeepsTables k i → (t : ℕ) → is_some (setting_of i.config t) ≡ true → KeepsTableOf k i t
tables_each k i keeps t on = record {
  cells = λ a l. keeps.cells t a on l;
  register = λ s at latched. keeps.registers t s at latched;
}

-- a table whose cells and register are kept
pub whole_table : (k : Kept) (i : ImageValue) (t : ℕ) → KeepsTable k t → KeepsTableOf k i t
whole_table k i t keeps = record { cells = keeps.cells; register = λ s on latched. keeps.register }

right_of : {m : Shape} {f : Faults} {t : ℕ} → IsSoundTable m f t → IsRightTable f t
right_of sound = record { cells = sound.cells; register = sound.register }

-- the tests of seated tables keep them
pub tests_keep : (told : Option Faults) (k l : Kept) (ss : List VerifiedWire) (i : ImageValue) (f : Faults) (tables : List Table) → SeatedAreKept told k l ss tables → told ≡ Some f → HoldsFor k f → PartsAreSound f i → AreSeated k ss i →
    All (λ t. is_some (setting_of i.config t.0) ≡ true) tables → All (λ t. KeepsTableOf l i t.0) tables
tests_keep told k l ss i f tables kept is holds parts seated on j d within =
    let t = get_or tables j d in
    let is_on = on j d within in
    whole_table l i t.0 ((kept.each j t (slice_get-get_or tables j d within)).at f is holds (seated t.0 is_on) (right_of (parts.tables t.0 is_on)))
