use Rattle.diag_growth.proofs.Vocabulary.{◌<◌, ℕ, sym, subst, Shape, table_wire, HasWire}
use Rattle.diag_growth.proofs.Testing.{is_off, kept_unseated}
use Rattle.diag_growth.proofs.tables.needs_no_test.Goals as goal

pub returns-then-is_kept : goal.returns-then-is_kept
returns-then-is_kept c = λ yes told. record { at = λ f is holds seated right. c.is_kept.ensures.kept c.if-is_kept.true }

pub returns : goal.returns
returns c = λ yes told. kept_unseated (λ s. c.has_pins.ensures.misses (is_off c.has_pins.result yes)
    (subst (λ (m : Shape). (j : ℕ) → j < 7 → HasWire c.args.known.now.steps (table_wire m c.args.t.0 j)) (sym c.requires.known.shape) s.pins))
