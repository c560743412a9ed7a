use Rattle.std.proofs.Common.{rules, ◌≡◌, ◌⊎◌, ⊎_elim, ◌<◌, ◌+◌, ◌∙◌, ℕ, List, All, [], ◌∷◌, ◌++◌, length, get_or, sym, ap, subst, arith}
use Rattle.rig_simulated.proofs.Vocabulary.{cases_lt, get_or_append_left, get_or_push, All-push, wires_of, pin_wire}
use Rattle.rig_simulated.proofs.board.fill_pins.Goals as goal

pub pins-preserved : goal.pins-preserved
pins-preserved c =
    let ps : List ℕ = c.pins.pins.items in
    let new : ℕ = c.root_of.result in
    let list : c.push.new.self.items ≡ ps ++ new ∷ [] = c.in_ok-push.ensures.items in
    let len : length ps ≡ c.pins.k = search rules in
    record {
      len = search rules;
      within = subst (All (λ r. r < wires_of c.args.shape)) (sym list) (All-push (λ r. r < wires_of c.args.shape) ps new c.pins.invariant.within (search rules));
      roots = λ most root roots k h.
          ap (λ l. get_or l k 0) list ∙ ⊎_elim
          (λ below. get_or_append_left ps (new ∷ []) 0 k (omega (arith, below, len)) ∙ c.pins.invariant.roots most root roots k below)
          (λ above. let e : k ≡ c.pins.k = omega (arith, h, above) in
          get_or_push ps new 0 k (omega (arith, len, e)) ∙ c.root_of.ensures.root most root roots ∙ ap root c.pin.ensures.wire ∙ ap (λ j. root (pin_wire c.args.shape j)) (sym e))
          (cases_lt k c.pins.k);
    }
