use Rattle.place_plan.proofs.Vocabulary.{◌++◌, ℕ, [], ◌∷◌, map, append_assoc, sym, ap, ◌∙◌, arith, range_with_len, port_by}
use Rattle.std.proofs.lemmas.List.FromFn.{map-range_with_len_more}
use Rattle.place_plan.proofs.room.push_ports.Goals as goal

pub loop-j-preserved : goal.loop-j-preserved
loop-j-preserved c =
    let f = port_by c.args.node c.args.crossing.now c.args.ports.now in
    let j : ℕ = c.loop-j.j in
    (c.in_ok-push.ensures {u = tt}).items ∙ ap (λ xs. xs ++ f j ∷ []) c.loop-j.invariant ∙ append_assoc c.args.held.now.items (map f (range_with_len 0 j)) (f j ∷ []) ∙ ap (λ xs. c.args.held.now.items ++ xs) (sym (map-range_with_len_more f 0 j j (omega arith)))
