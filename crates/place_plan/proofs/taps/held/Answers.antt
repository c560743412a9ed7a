use Rattle.place_plan.proofs.Vocabulary.{◌≡◌, ◌≤◌, ℕ, List, [], length, IfSome, IfNone, ◌∙◌, get_or_read, IsNth, list_at}
use Rattle.place_plan.proofs.Tapping.{held_found}
use Rattle.place_plan.proofs.taps.held.Goals as goal

pub returns : goal.returns
returns c =
    let crossing : List (List ℕ) = c.args.crossing.now in
    let ports : List (List ℕ) = c.args.ports.now in
    let n : ℕ = c.args.node.0 in
    let a : c.as_slice.result.now ≡ list_at crossing n = c.as_slice.ensures ∙ get_or_read crossing n _ c.requires.crossing c.index-crossing-node.is [] in
    let b : c.as_slice-2.result.now ≡ list_at ports n = c.as_slice-2.ensures ∙ get_or_read ports n _ c.requires.ports c.index-ports-node.is [] in
    let some : IfSome c.port_of.result (λ t. (j : ℕ) × IsNth (list_at crossing n) j c.args.net.0 × IsNth (list_at ports n) j t) = rw (a, b) at c.port_of.ensures.found in
    let none : IfNone c.port_of.result ((j : ℕ) → IsNth (list_at crossing n) j c.args.net.0 → length (list_at ports n) ≤ j) = rw (a, b) at c.port_of.ensures.none in
    held_found crossing ports n c.args.net.0 c.port_of.result c.requires.ascending some none
