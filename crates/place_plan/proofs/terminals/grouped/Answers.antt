use Rattle.std.proofs.Common.{◌≡◌, ◌<◌, ◌+◌, ◌++◌, ℕ, List, [], ◌∷◌, take, set, get_or, length, sym, ap, ◌∙◌, subst, arith}
use Rattle.place_plan.proofs.Vocabulary.{common_steps, take_more, take_at, Terminal, AreGrouped, list_at, terminal_for}
use Rattle.place_plan.proofs.Grouping.{more_grouped}
use Rattle.place_plan.proofs.terminals.grouped.Goals as goal

abbrev no_terminal : Terminal
no_terminal = terminal_for 0 0

pub loop-terminal-preserved : goal.loop-terminal-preserved
loop-terminal-preserved c =
    let ts = c.args.terminals.now in
    let i : ℕ = c.loop-terminal.terminal-index in
    let t : Terminal = get_or ts i no_terminal in
    let le : length c.add.new.nets ≡ c.loop-terminal.nets.len = grind (arith, common_steps) in
    let e : c.add.new.nets ≡ set c.deref_mut.result.now t.net.0 (list_at c.deref_mut.result.now t.net.0 ++ t.wire.0 ∷ []) = c.in_ok-add.ensures in
    let f : c.add.new.nets ≡ set c.loop-terminal.nets.items t.net.0 (list_at c.loop-terminal.nets.items t.net.0 ++ t.wire.0 ∷ []) = e ∙ ap (λ (z : List (List ℕ)). set z t.net.0 (list_at z t.net.0 ++ t.wire.0 ∷ [])) c.deref_mut.ensures.value in
    let lt : t.net.0 < c.args.count = c.requires i no_terminal c.loop-terminal-test.true in
    subst (AreGrouped c.args.count (take (i + 1) ts)) (sym (take_at _ _ _ le))
    (subst (λ z. AreGrouped c.args.count z c.add.new.nets) (sym (take_more ts i no_terminal c.loop-terminal-test.true))
    (subst (AreGrouped c.args.count (take i ts ++ t ∷ [])) (sym f) (more_grouped c.args.count (take i ts) c.loop-terminal.nets.items t lt c.loop-terminal.invariant)))
