use Rattle.diag_evidence.proofs.Vocabulary.{refl, sym, subst, ◌∙◌, IsSheet, Gains, right_parts}
use Rattle.diag_evidence.proofs.Advancing.{advances_by}
use Rattle.diag_evidence.proofs.ReadTwice.{has_tabled, shows_tabled, holds_after, newly_after, wrong_after}
use Rattle.diag_evidence.proofs.facts.Facts.tables_each.Goals as goal

pub mark_wrong-requires-clause-sheet : goal.mark_wrong-requires-clause-sheet
mark_wrong-requires-clause-sheet g c = subst (λ m. IsSheet m c.read_tables.new.sheet) (sym c.in_ok-read_tables.ensures.whole.shape) c.in_ok-read_tables.ensures.whole

pub mark_wrong-requires-clause-shape : goal.mark_wrong-requires-clause-shape
mark_wrong-requires-clause-shape g c = c.in_ok-read_tables.ensures.whole.shape ∙ c.in-Ok.ensures.laid.shape

pub keep_right-requires-clause-sheet : goal.keep_right-requires-clause-sheet
keep_right-requires-clause-sheet g c = subst (λ m. IsSheet m c.read_tables.new.sheet) (sym c.in_ok-read_tables.ensures.whole.shape) c.in_ok-read_tables.ensures.whole

pub keep_right-requires-clause-shape : goal.keep_right-requires-clause-shape
keep_right-requires-clause-shape g c = c.in_ok-read_tables.ensures.whole.shape ∙ c.in-Ok.ensures.laid.shape

pub returns-clause-tabled_each : goal.returns-clause-tabled_each
returns-clause-tabled_each g c = λ f e.
    let sheet = c.read_tables.new.sheet in
    let gains : Gains (right_parts c.args.forest.now c.args.tables.now sheet.setting sheet.reads.items sheet.opposite.items) c.args.self.now c.keep_right.new.self = c.keep_right.ensures in
    has_tabled _ c.args.forest.now c.args.tables.now c.in-Ok.sheet sheet _ c.in-Ok.ensures (c.in_ok-read_tables.ensures.read_each f e) c.args.self.now c.keep_right.new.self c.args.wrong.now c.mark_wrong.new.wrong gains c.mark_wrong.ensures.marks

pub returns-clause-newly_each : goal.returns-clause-newly_each
returns-clause-newly_each g c = λ f e.
    newly_after _ c.args.forest.now c.args.tables.now c.in-Ok.sheet c.read_tables.new.sheet _ c.in-Ok.ensures (c.in_ok-read_tables.ensures.read_each f e) c.args.self.now c.requires.forest c.requires.tables
    c.args.wrong.now c.mark_wrong.new.wrong c.mark_wrong.ensures.marks

pub returns-clause-wrong_each : goal.returns-clause-wrong_each
returns-clause-wrong_each g c = λ f e.
    let sheet = c.read_tables.new.sheet in
    let gains : Gains (right_parts c.args.forest.now c.args.tables.now sheet.setting sheet.reads.items sheet.opposite.items) c.args.self.now c.keep_right.new.self = c.keep_right.ensures in
    wrong_after _ c.args.forest.now c.args.tables.now c.in-Ok.sheet sheet _ c.in-Ok.ensures (c.in_ok-read_tables.ensures.read_each f e) c.args.self.now c.requires.forest c.requires.tables
    c.args.wrong.now c.mark_wrong.new.wrong c.keep_right.new.self gains c.mark_wrong.ensures.marks

pub returns-clause-advances : goal.returns-clause-advances
returns-clause-advances g c =
    let sheet = c.read_tables.new.sheet in
    let gains : Gains (right_parts c.args.forest.now c.args.tables.now sheet.setting sheet.reads.items sheet.opposite.items) c.args.self.now c.keep_right.new.self = c.keep_right.ensures in
    advances_by (right_parts c.args.forest.now c.args.tables.now sheet.setting sheet.reads.items sheet.opposite.items)
    c.in_ok-read_tables.ensures.loads.machine c.in_ok-read_tables.ensures.loads.later c.in_ok-read_tables.ensures.loads.counted c.in_ok-read_tables.ensures.few gains c.in_ok-read_tables.ensures.loads.narrows c.in_ok-read_tables.ensures.loads.tells
    (λ f e. holds_after _ c.args.forest.now c.args.tables.now c.in-Ok.sheet sheet _ c.in-Ok.ensures (c.in_ok-read_tables.ensures.read_each f e) c.args.self.now c.requires.forest c.requires.tables f refl)

pub returns-clause-logged : goal.returns-clause-logged
returns-clause-logged g c =
    let sheet = c.read_tables.new.sheet in
    let gains : Gains (right_parts c.args.forest.now c.args.tables.now sheet.setting sheet.reads.items sheet.opposite.items) c.args.self.now c.keep_right.new.self = c.keep_right.ensures in
    shows_tabled c.args.forest.now c.args.tables.now c.in-Ok.sheet sheet c.in-Ok.ensures c.in_ok-read_tables.ensures.logged c.args.self.now c.keep_right.new.self c.args.wrong.now c.mark_wrong.new.wrong gains c.mark_wrong.ensures.marks
