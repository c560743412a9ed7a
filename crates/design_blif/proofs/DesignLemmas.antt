-- What models are refused as is the first fault of their text, and a text has one design.
use Rattle.std.proofs.Common.{ℕ, ◌≡◌, ◌∙◌, ◌≤◌, List, Result, Ok, Err, length, refl, sym, subst, IfErr}
use Rattle.design_netlist.specs.declared.netlist_data.NetlistData.{NetlistData}
use Rattle.design_blif.proofs.Vocabulary.{DesignFault, Model, IsNetlistOf, IsRefusalOfModels, IsFaultAs}
use Rattle.design_netlist.specs.declared.fault.DesignFault.TheVariants as fault
use Rattle.design_flatten.proofs.SubstitutionLemmas.{one_netlist}
use Rattle.design_blif.specs.{Grammar.AreModels, Designs.IsDesign, Designs.InModels, Designs.IsRefusalOfBytes}

module _ (bytes : List ℕ) (few : length bytes ≤ 16777216) (ms : List Model) (text : AreModels bytes ms) where
  in_models : (e : DesignFault) → IsRefusalOfModels ms e → IsRefusalOfBytes bytes e
  in_models fault.Memory h = tt
  in_models (fault.At n k) h = InModels few ms text h

  pub design_refused : (r : Result NetlistData DesignFault) → IfErr r (IsRefusalOfModels ms) → IfErr r (IsRefusalOfBytes bytes)
  design_refused (Ok n) h = tt
  design_refused (Err e) h = in_models e h

-- the text of a design is the text of no other
pub one_design : (bytes : List ℕ) (a b : NetlistData) → IsDesign bytes a → IsDesign bytes b → a ≡ b
one_design bytes a b one other =
    let same : other.models ≡ one.models = other.text.models_are ∙ sym one.text.models_are in
    one_netlist one.models a b one.netlist (subst (λ x. IsNetlistOf x b) same other.netlist)

-- the text of models is refused for lack of memory alone
pub only_memory : (e : DesignFault) (ms : List Model) → IsFaultAs e (Ok ms) → e ≡ fault.Memory
only_memory fault.Memory ms h = refl
only_memory (fault.At n k) ms h = absurd cc
