use Rattle.diag_evidence.proofs.Vocabulary.{◌≡◌, ◌&&◌, ◌||◌, ℕ, Bool, true, false, sym, ap, ◌∙◌, ◌==◌, list_any, joins, WireTest}
use Rattle.diag_evidence.proofs.{KeptLemmas.gains_apart, Joining.none_joins, Joining.all_join}
use Rattle.diag_evidence.proofs.facts.Facts.keep_joined.Goals as goal

pub returns-then-not-all_hang : goal.returns-then-not-all_hang
returns-then-not-all_hang c =
    rw (← c.self.view_is) (none_joins _ c.args.forest.now c.args.hangs.now c.args.views.now.all.rows c.args.views.now.without_over.rows c.args.views.now.without_other.rows (sym c.all_hang.ensures ∙ c.if-not-all_hang.true))

pub returns : goal.returns
returns c =
    rw (← c.self.view_is) (all_join _ c.args.forest.now c.args.hangs.now c.args.views.now.all.rows c.args.views.now.without_over.rows c.args.views.now.without_other.rows _ (sym c.all_hang.ensures ∙ c.if-not-all_hang.false) c.mark_joined.ensures.marked)
