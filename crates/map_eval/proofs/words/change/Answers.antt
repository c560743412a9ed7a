use Rattle.map_eval.proofs.Vocabulary.{◌≡◌, ◌<◌, ◌==◌, ◌∙◌, ℕ, Bool, sym, ap, subst, bit_xor, bit_at, bit_at-lt, cell_at, flip}
use Rattle.map_eval.proofs.WordLemmas.{change_few, change_turns}
use Rattle.map_eval.proofs.words.change.Goals as goal

pub returns-clause-few : goal.returns-clause-few
returns-clause-few c = change_few c.cell.result c.cell-2.result (subst (λ (x : ℕ). x < 2) (sym c.cell.ensures) (bit_at-lt c.args.mask c.args.before)) (subst (λ (x : ℕ). x < 2) (sym c.cell-2.ensures) (bit_at-lt c.args.mask c.args.after))

pub returns-clause-turned : goal.returns-clause-turned
returns-clause-turned c =
    ap (λ (x : ℕ). flip (bit_xor c.cell.result c.cell-2.result == 1) (x == 1)) (sym c.cell.ensures)
    ∙ change_turns c.cell.result c.cell-2.result (subst (λ (x : ℕ). x < 2) (sym c.cell.ensures) (bit_at-lt c.args.mask c.args.before)) (subst (λ (x : ℕ). x < 2) (sym c.cell-2.ensures) (bit_at-lt c.args.mask c.args.after))
    ∙ ap (λ (x : ℕ). x == 1) c.cell-2.ensures
