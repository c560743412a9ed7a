-- A checked design has few inputs, and so has an image.
use Rattle.std.proofs.Common.{◌≡◌, ℕ, zero, suc, ◌+◌, ◌≤◌, List, [], ◌∷◌, ◌++◌, length, map, get_or, arith, refl, sym, ◌∙◌, length-append}
use Rattle.cmd_steps.proofs.Vocabulary.{length-map, pins_of, ImageValue, IsImage, NetlistData}
use Rattle.design_netlist.specs.declared.netlist_data.PortDef.{PortDef}
use Rattle.design_netlist.specs.Vocabulary.{signal_at, drive_words, cover_drive, IsChecked}
use Rattle.design_netlist.proofs.ListLemmas.{few_numbers}

abbrev signal_of : PortDef → ℕ
signal_of p = p.signal

signals-at : (words : List PortDef) (k : ℕ) → get_or (map signal_of words) k 0 ≡ signal_at words k
signals-at [] k = refl
signals-at (w ∷ words) zero = refl
signals-at (w ∷ words) (suc k) = signals-at words k

-- each drives a signal of its own
pub inputs-few : (d : NetlistData) → IsChecked d → length d.inputs ≤ 65535
inputs-few d checked =
    let drives = drive_words d in
    let size : length (map signal_of drives) ≡ length drives = length-map drives signal_of in
    let few = few_numbers (length d.names) (map signal_of drives)
    (λ k within. rw (signals-at drives k) (checked.made.drives k (omega (arith, within, size))))
    (λ i j less within same. checked.once i j less (omega (arith, within, size)) (sym (signals-at drives i) ∙ (same ∙ signals-at drives j))) in
    let inputs : length d.inputs ≤ length drives = rw (length-append (d.inputs ++ map cover_drive d.covers), length-append d.inputs) (omega arith) in
    omega (arith, few, size, inputs, checked.made.names)

-- different pins of a machine are no more than it has
pub pins-few : (i : ImageValue) → IsImage i → length i.inputs + length i.outputs ≤ pins_of i.config.shape
pins-few i right =
    rw (← length-append i.inputs) (few_numbers (pins_of i.config.shape) (i.inputs ++ i.outputs)
    (λ k within. right.within k 0 within)
    (λ j k less within same. right.apart j k 0 less within same))
