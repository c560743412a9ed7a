use Rattle.std.proofs.Common.{◌≡◌, ◌∙◌, ap, sym, map, take, ◌++◌, ◌∷◌, [], List, length, get_or, ◌<◌, ◌+◌, ℕ}
use Rattle.design_flatten.proofs.Vocabulary.{flat_map, map_push, take_more, append-nil, flat_map-append, Signal, Placed}
use Rattle.design_flatten.specs.Vocabulary.{Line, input_on, output_on, cover_on, latch_on, placed_line}
use Rattle.design_flatten.proofs.lists.lists_of.Goals as goal

grown : {A : Type 0} (f : Line Signal → List A) (ps : List Placed) (i : ℕ) (p : Placed) (old new : List A) → i < length ps → p ≡ get_or ps i p → new ≡ old ++ f (placed_line p) → old ≡ flat_map f (map placed_line (take i ps)) → new ≡ flat_map f (map placed_line (take (i + 1) ps))
grown f ps i p old new lt is e h =
    e ∙ (λ j. h j ++ sym (append-nil (f (placed_line p))) j)
    ∙ sym (flat_map-append f (map placed_line (take i ps)) (placed_line p ∷ []))
    ∙ ap (flat_map f) (sym (map_push placed_line (take i ps) p) ∙ ap (λ q. map placed_line (take i ps ++ q ∷ [])) is ∙ ap (map placed_line) (sym (take_more ps i p lt)))

pub placed-preserved : goal.placed-preserved
placed-preserved c =
    let S = c.args.signals.now in
    let ps = c.args.placed.now in
    let i = c.placed.line-index in
    let p = c.line-item.result in
    let lt : i < length ps = c.placed-test.true in
    let added = c.in_ok-add.ensures in
    record {
      inputs = grown (input_on S) ps i p _ _ lt c.line-item.is added.inputs c.placed.invariant.inputs;
      outputs = grown (output_on S) ps i p _ _ lt c.line-item.is added.outputs c.placed.invariant.outputs;
      covers = grown (cover_on S) ps i p _ _ lt c.line-item.is added.covers c.placed.invariant.covers;
      latches = grown (latch_on S) ps i p _ _ lt c.line-item.is added.latches c.placed.invariant.latches;
    }
