-- How many inputs and outputs a plain network has.
use Rattle.place_design.proofs.Vocabulary.{◌≡◌, ◌∙◌, length, ap, NetlistData, Network, IsPlainNetwork, plain_network, source_of}
use Rattle.std.proofs.lemmas.List.{length-map}
use Rattle.design_netlist.specs.declared.netlist_data.PortDef.{PortDef}

-- the plain network has the design's inputs and outputs
pub plain-inputs : (draft : NetlistData) (n : Network) → IsPlainNetwork draft n → n.inputs ≡ length draft.inputs
unfolding plain_network
plain-inputs draft n is = ap (λ (x : Network). x.inputs) is

pub plain-outputs : (draft : NetlistData) (n : Network) → IsPlainNetwork draft n → length n.outputs ≡ length draft.outputs
unfolding plain_network
plain-outputs draft n is = ap (λ (x : Network). length x.outputs) is ∙ length-map draft.outputs (λ (p : PortDef). source_of draft p.signal)
