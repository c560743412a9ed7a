-- What two loads of a sheet show.
use Rattle.std.proofs.Common.{◌≡◌, ℕ, Bool, true, not, ◌&&◌, ◌||◌, Some, Option, List, [], ◌∷◌, sym, ap, ◌∙◌, subst}
use Rattle.diag_evidence.proofs.Vocabulary.{has_number, Table, Faults, Pins, Configuration, Setting, RigState, Past, log_of}
use Rattle.diag_evidence.specs.declared.sheets.Sheet.{Sheet}
use Rattle.diag_evidence.specs.Vocabulary.{HasCycled, Trees, KnowsForest, Kept, Gains, HoldsFor, IsReadyFor, IsReadTwice, LogsSheet, ShowsTabled, AreOpposite, AreTablesOn, HasTabled, IsTableConfig, IsTableLoad, MarksWrong, WrongIf, is_one_of, is_right_before, output_pin, right_parts}
use Rattle.diag_evidence.proofs.KeptLemmas.{GainHoldsFor}
use Rattle.diag_evidence.proofs.Logging.{logged_then}
use Rattle.diag_evidence.proofs.Settings.{laid_again}
use Rattle.diag_evidence.proofs.Tabled.{right_holds, marks_wrong, newly_wrong}

-- the cycles of a session, under another name
pub cycled_under : {g : Configuration} {drives others : List Pins} {rig : RigState} → drives ≡ others → HasCycled g drives rig → HasCycled g others rig
cycled_under {g} {rig = rig} same cycled = subst (λ (ds : List Pins). HasCycled g ds rig) same cycled

module _ (told : Option Faults) (trees : Trees) (ts : List Table) (old new : Sheet) (rig : RigState) (ready : IsReadyFor trees ts old) (read : IsReadTwice told ts old new rig) where
  first_load : IsTableLoad told trees ts new.setting old.drives.items new.reads.items
  first_load = record {
    config = old.config.config;
    laid = subst (λ s. IsTableConfig trees ts s old.config.config) (sym read.setting) ready.laid;
    run = read.run.run;
  }

  second_load : IsTableLoad told trees ts read.other old.drives.items new.opposite.items
  second_load = record {
    config = new.config.config;
    laid = laid_again trees ts old.setting read.other old.config.config new.config.config ready.laid read.switched;
    run = read.run_opposite.run;
  }

  opposed : AreOpposite new.setting read.other
  opposed = subst (λ s. AreOpposite s read.other) (sym read.setting) read.opposed

  latched : new.setting.latched ≡ true
  latched = ap (λ (s : Setting). s.latched) read.setting ∙ ready.latched

  module _ (k : Kept) where
    pub has_tabled : (l : Kept) (was is : List Bool) → Gains (right_parts trees ts new.setting new.reads.items new.opposite.items) k l →
        ((t : ℕ) → has_number is t ≡ ((is_one_of ts t && not (is_right_before new.setting new.reads.items new.opposite.items (output_pin trees t) 65)) || has_number was t)) → HasTabled told trees ts rig k l was is
    unfolding second_load
    has_tabled l was is gains marks = record {
      setting = new.setting;
      latched = latched;
      low = ap (λ (s : Setting). s.init) read.setting ∙ ready.low;
      other = read.other;
      opposed = opposed;
      drives = old.drives.items;
      driven = ready.driven;
      reads = new.reads.items;
      first = first_load;
      opposite = new.opposite.items;
      second = second_load;
      gains = gains;
      marks = marks;
      session = read.session;
    }

    module _ (known : KnowsForest k trees) (on : AreTablesOn trees ts) where
      pub holds_after : (f : Faults) → told ≡ Some f → HoldsFor k f → GainHoldsFor k (right_parts trees ts new.setting new.reads.items new.opposite.items) f
      holds_after = right_holds told k trees ts ready.forest known on new.setting read.other latched opposed old.drives.items new.reads.items new.opposite.items ready.driven first_load second_load

      pub newly_after : (was is : List Bool) →
          ((t : ℕ) → has_number is t ≡ ((is_one_of ts t && not (is_right_before new.setting new.reads.items new.opposite.items (output_pin trees t) 65)) || has_number was t)) → MarksWrong told k was is
      newly_after = newly_wrong told k trees ts ready.forest known on new.setting read.other latched opposed old.drives.items new.reads.items new.opposite.items ready.driven first_load second_load

      pub wrong_after : (was is : List Bool) (l : Kept) → Gains (right_parts trees ts new.setting new.reads.items new.opposite.items) k l →
          ((t : ℕ) → has_number is t ≡ ((is_one_of ts t && not (is_right_before new.setting new.reads.items new.opposite.items (output_pin trees t) 65)) || has_number was t)) → WrongIf told k was → WrongIf told l is
      wrong_after = marks_wrong told k trees ts ready.forest known on new.setting read.other latched opposed old.drives.items new.reads.items new.opposite.items ready.driven first_load second_load

-- what the log shows of the test
module _ (trees : Trees) (ts : List Table) (old new : Sheet) {s t : RigState} (ready : IsReadyFor trees ts old) (logs : LogsSheet ts old new s t) (k l : Kept) (was is : List Bool) where
  pub shows_tabled : Gains (right_parts trees ts new.setting new.reads.items new.opposite.items) k l →
      ((u : ℕ) → has_number is u ≡ ((is_one_of ts u && not (is_right_before new.setting new.reads.items new.opposite.items (output_pin trees u) 65)) || has_number was u)) → ShowsTabled trees ts s t k l was is
  shows_tabled gains marks = let one : Past = record { config = old.config.config; cycles = logs.first.cycles } in let two : Past = record { config = new.config.config; cycles = logs.second.cycles } in record {
    setting = new.setting;
    latched = ap (λ (z : Setting). z.latched) logs.setting ∙ ready.latched;
    low = ap (λ (z : Setting). z.init) logs.setting ∙ ready.low;
    other = logs.other;
    opposed = subst (λ z. AreOpposite z logs.other) (sym logs.setting) logs.opposed;
    drives = old.drives.items;
    driven = ready.driven;
    reads = new.reads.items;
    first = one;
    first_is = record {
      laid = subst (λ z. IsTableConfig trees ts z old.config.config) (sym logs.setting) ready.laid;
      driven = logs.first.driven;
      read = logs.first.read;
    };
    opposite = new.opposite.items;
    second = two;
    second_is = record {
      laid = laid_again trees ts old.setting logs.other old.config.config new.config.config ready.laid logs.switched;
      driven = logs.second.driven;
      read = logs.second.read;
    };
    logged = logged_then (log_of s) (one ∷ []) (two ∷ []) logs.first.logged logs.second.logged;
    gains = gains;
    marks = marks;
  }
