-- The netlist that is read, and refusals.
use Rattle.std.proofs.Common.{◌≡◌, ℕ, ◌+◌, ◌≤◌, true, false, List, [], Some, None, Result, Ok, Err, length, refl, sym, ap, ◌∙◌, subst, arith, nat_lt, IfOk, IfErr, MatchResult, slice_index_or}
use Rattle.design_flatten.proofs.Vocabulary.{le-ltb, Cover, NetlistData, Model, Signal, Substituted}
use Rattle.design_netlist.specs.declared.fault.DesignFault.{DesignFault}
use Rattle.design_netlist.specs.declared.fault.DesignFault.TheVariants as fault
use Rattle.design_netlist.specs.declared.fault.DesignKind.TheVariants as kind
use Rattle.design_netlist.specs.Vocabulary.{cover_at, cover_line, IsOnCycle, drive_words, reads_of, signal_at, line_at, IsWellMade, IsChecked, IsRefusalOf, IsFirst}
use Rattle.design_flatten.specs.Vocabulary.{Line, HaveRightRows, first_model, signals_of, size_of, is_over, Clocked, controls_of, AreOneControl, IsWithin, IsReadFrom, IsNetlistOf, drives_in, reads_in, covers_in, IsFirstDoubled, IsFirstUndriven, IsReading, IsControlAnswer, name_in, IsClean, IsTooMuch, IsModelsFault, IsRefusalOfModels, IsSubstitution, replaced_in, lines_of}
use Rattle.design_flatten.proofs.SubstitutionLemmas.{one_design, one_netlist}
use Rattle.design_flatten.proofs.CountLemmas.{swapped, none_doubled, none_undriven, drives_as_many, reads_as_many}
use Rattle.design_flatten.proofs.WordLemmas.{once_none, driven_none}
use Rattle.design_flatten.proofs.MadeLemmas.{well_made}

not_over : (lines : List (Line Signal)) (signals : List Signal) (room : ℕ) → signals ≡ signals_of lines → room + size_of lines ≡ 16777216 → length signals ≤ 65535 → is_over lines ≡ false
not_over lines signals room s z few =
    let a : nat_lt 65535 (length (signals_of lines)) ≡ false = le-ltb 65535 (length (signals_of lines)) (omega (arith, few, ap length s)) in
    let b : nat_lt 16777216 (size_of lines) ≡ false = le-ltb 16777216 (size_of lines) (omega (arith, z)) in
    rw (a, b) refl

pub within_is : (ms : List Model) (s : Substituted) → IsSubstitution ms s → length s.sink.signals ≤ 65535 → IsWithin ms (lines_of ms s)
within_is ms s h le = record {
  replaced = replaced_in s;
  most = h.most;
  substituted = h.substituted;
  within = not_over (lines_of ms s) s.sink.signals s.sink.room h.sink.signals h.sink.room le;
}

pub not_limit : (ms : List Model) (d : NetlistData) → IsNetlistOf ms d → IsTooMuch ms → ⊥
not_limit ms d is h =
    let design = is.read.design in
    let no : false ≡ true = sym design.within ∙ h design.replaced is.lines design.most design.substituted in cc

pub not_other : (cs : List Clocked) (line : ℕ) → AreOneControl cs → IsControlAnswer cs (Some line) → ⊥
not_other cs line one h = let other = h.1.1 in other.3 (one other.0 h.0 other.1 h.1.0)

-- the controls of any netlist of the models
pub its_controls : (ms : List Model) (d : NetlistData) (lines : List (Line Signal)) → IsNetlistOf ms d → IsWithin ms lines → AreOneControl (controls_of ms lines)
its_controls ms d lines is w =
    let same : is.lines ≡ lines = one_design ms is.read.design.replaced w.replaced is.lines lines is.read.design.substituted w.substituted in
    subst (λ x. AreOneControl (controls_of ms x)) same is.read.one_control

-- ---- words

-- in any netlist of the models that is checked
pub clean_words : (ms : List Model) (d : NetlistData) (lines : List (Line Signal)) → IsNetlistOf ms d → IsChecked d → IsWithin ms lines → IsFirstDoubled lines None × IsFirstUndriven lines None
clean_words ms d lines is checked w =
    let same : is.lines ≡ lines = one_design ms is.read.design.replaced w.replaced is.lines lines is.read.design.substituted w.substituted in
    let h : IsReadFrom ms lines d = subst (λ x. IsReadFrom ms x d) same is.read.netlist in
    let drives = drives_as_many ms lines d h in (
      none_doubled (drive_words d) (drives_in lines) drives (once_none d checked),
      none_undriven (drive_words d) (drives_in lines) (reads_of d) (reads_in lines) drives (reads_as_many ms lines d h) (driven_none d checked),
    )

pub word_fault : (ms : List Model) (lines : List (Line Signal)) (line : ℕ) (name : List ℕ) (k : ℕ) → IsClean ms lines → IsFirstDoubled lines (Some k) → line ≡ line_at (drives_in lines) k → name ≡ name_in ms lines (signal_at (drives_in lines) k) → IsModelsFault ms line (kind.Doubled name)
word_fault ms lines line name k clean first l n = (lines, clean, (k, first, l, n))

pub read_fault : (ms : List Model) (lines : List (Line Signal)) (line : ℕ) (name : List ℕ) (k : ℕ) → IsClean ms lines → IsFirstDoubled lines None → IsFirstUndriven lines (Some k) → line ≡ line_at (reads_in lines) k → name ≡ name_in ms lines (signal_at (reads_in lines) k) → IsModelsFault ms line (kind.Undriven name)
read_fault ms lines line name k clean none first l n = (lines, clean, (none, (k, first, l, n)))

-- ---- what is read

pub readings_are : (r : Result NetlistData DesignFault) (ms : List Model) (lines : List (Line Signal)) → IsClean ms lines → IsFirstDoubled lines None → IsFirstUndriven lines None → IfOk r (IsReadFrom ms lines) → IfOk r (IsReading ms)
readings_are (Ok d) ms lines clean undoubled driven h = record { lines = lines; clean = clean; netlist = h; undoubled = undoubled; driven = driven }
readings_are (Err e) ms lines clean undoubled driven h = tt

pub made_are : (r : Result NetlistData DesignFault) (ms : List Model) (lines : List (Line Signal)) → HaveRightRows ms → IsWithin ms lines → length (first_model ms).outputs ≤ 16777216 → IfOk r (IsReadFrom ms lines) → IfOk r (λ d. IsWellMade d)
made_are (Ok d) ms lines right within few h = well_made ms right lines within d h few
made_are (Err e) ms lines right within few h = tt

-- ---- what the check of the netlist says

pub is_netlist_of : (ms : List Model) (d : NetlistData) → IsReading ms d → IsNetlistOf ms d
is_netlist_of ms d is = record {
  lines = is.lines;
  read = record { rules = is.clean.rules; design = is.clean.design; one_control = is.clean.one_control; netlist = is.netlist };
}

is_fault : (ms : List Model) (d : NetlistData) (e : DesignFault) → IsReading ms d → IsRefusalOf d e → IsRefusalOfModels ms e
is_fault ms d fault.Memory is h = tt
is_fault ms d (fault.At line (kind.Doubled name)) is h =
    let first = h.1 in
    absurd (none_doubled (drives_in is.lines) (drive_words d) (swapped (drive_words d) (drives_in is.lines) (drives_as_many ms is.lines d is.netlist)) is.undoubled h.0 first.0 first.1)
is_fault ms d (fault.At line (kind.Undriven name)) is h =
    let first = h.2 in
    absurd (none_undriven (drives_in is.lines) (drive_words d) (reads_in is.lines) (reads_of d) (swapped (drive_words d) (drives_in is.lines) (drives_as_many ms is.lines d is.netlist)) (swapped (reads_of d) (reads_in is.lines) (reads_as_many ms is.lines d is.netlist)) is.driven h.1 first.0 first.1)
is_fault ms d (fault.At line (kind.Cyclic name)) is h =
    let k = h.2 in
    let covers : d.covers ≡ covers_in is.lines = is.netlist.covers in
    let P : List Cover → Type 0 = λ cs. IsFirst (cover_line cs) (length cs) (IsOnCycle cs) (Some k) in
    (is.lines, is.clean, (is.undoubled, is.driven, (k, subst P covers h.3, h.4 ∙ ap (λ cs. cover_line cs k) covers, h.5 ∙ (λ i. slice_index_or (is.netlist.names i) (cover_at (covers i) k).out []))))
is_fault ms d (fault.At line _) is h = absurd h

pub refused_is : (r : Result NetlistData DesignFault) (ms : List Model) (d : NetlistData) → IsReading ms d → IfErr r (λ e. IsRefusalOf d e) → IfErr r (IsRefusalOfModels ms)
refused_is (Ok n) ms d is h = tt
refused_is (Err e) ms d is h = is_fault ms d e is h

pub found_is : (r : Result NetlistData DesignFault) (ms : List Model) (d : NetlistData) → IsReading ms d → IfOk r (λ n. (n ≡ d) × IsChecked d) → IfOk r (λ n. IsNetlistOf ms n × IsChecked n)
found_is (Ok n) ms d is h = (subst (IsNetlistOf ms) (sym h.0) (is_netlist_of ms d is), subst IsChecked (sym h.0) h.1)
found_is (Err e) ms d is h = tt

pub only_is : (r : Result NetlistData DesignFault) (ms : List Model) (d : NetlistData) → IsReading ms d → IfOk r (λ n. (n ≡ d) × IsChecked d) → (IsChecked d → IfErr r (λ e. e ≡ fault.Memory)) → (f : NetlistData) → IsNetlistOf ms f → IsChecked f → MatchResult r (λ n. n ≡ f) (λ e. e ≡ fault.Memory)
only_is (Ok n) ms d is found only f isf checked = found.0 ∙ one_netlist ms d f (is_netlist_of ms d is) isf
only_is (Err e) ms d is found only f isf checked = only (subst IsChecked (one_netlist ms f d isf (is_netlist_of ms d is)) checked)
