use Rattle.diag_growth.proofs.Vocabulary.{◌≡◌, ◌∙◌, true, sym, arith, keeps_cell, one_more}
use Rattle.diag_growth.proofs.Fresh.{cell_fresh, cells_kept}
use Rattle.diag_growth.proofs.tables.is_kept.Goals as goal

pub cells-init : goal.cells-init
cells-init c = record { kept = λ a less. absurd (let no : ⊥ = omega (arith, less) in no) }

pub returns-then-not-keeps_cell-clause-is : goal.returns-then-not-keeps_cell-clause-is
returns-then-not-keeps_cell-clause-is c = sym (cell_fresh c.args.facts.now c.args.t.0 c.cells.address (omega arith) (sym c.keeps_cell.ensures ∙ c.if-not-keeps_cell.true))

pub cells-preserved : goal.cells-preserved
cells-preserved c = record { kept = one_more (λ a. keeps_cell c.args.facts.now c.args.t.0 a ≡ true) c.cells.address c.cells.invariant.kept (sym c.keeps_cell.ensures ∙ c.if-not-keeps_cell.false) }

pub returns-clause-is : goal.returns-clause-is
returns-clause-is c = c.keeps_register.ensures ∙ sym (cells_kept c.args.facts.now c.args.t.0 (λ a less. c.cells.invariant.kept a (let end = c.cells-test.false in omega (arith, less, end))))

pub returns-clause-kept : goal.returns-clause-kept
returns-clause-kept c = λ yes. record {
  cells = λ a less. c.cells.invariant.kept a (let end = c.cells-test.false in omega (arith, less, end));
  register = sym c.keeps_register.ensures ∙ yes;
}
