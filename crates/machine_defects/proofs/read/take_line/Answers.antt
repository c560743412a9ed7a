use Rattle.machine_defects.proofs.Vocabulary.{◌≡◌, ◌∙◌, sym, subst, bytes_eq, false≢true, Shape, nameless, earlier, again}
use Rattle.machine_defects.specs.Vocabulary.{IsEntryOf, entry_words, row_of}
use Rattle.machine_defects.proofs.{Entries.beyond_all, Entries.free_unlisted, Rows.whole_line}
use Rattle.machine_defects.proofs.Reading.{no_line, other_line, no_later, before_last, not_before_last, entry_here}
use Rattle.machine_defects.proofs.read.take_line.Goals as goal

pub returns-in_default : goal.returns-in_default
returns-in_default c = λ above two. no_line c.args.list.now above c.args.left.now c.in_default.ensures.none

pub returns-in_default-form_of : goal.returns-in_default-form_of
returns-in_default-form_of c = λ above two. other_line c.args.list.now above c.args.left.now c.in-Some.line.now c.in-Some.rest.now c.in-Some.ensures.some.0 c.in-Some.ensures.some.1
    (no_later above c.in-Some.line.now two (λ e. false≢true (c.if-eq.ensures ∙ (λ i. bytes_eq (e i) (c.as_slice.ensures i)))) c.in_default-form_of.ensures)

pub returns-in_default-entry_of : goal.returns-in_default-entry_of
returns-in_default-entry_of c = λ above two. nameless (row_of c.in-Some-form_of.form) c.in-Some.rest.now two c.in-Some-form_of.ensures.0
    (whole_line c.in-Some.line.now c.in-Some.rest.now c.args.left.now (row_of c.in-Some-form_of.form) c.in-Some.ensures.some.0 c.in-Some-form_of.ensures.1)
    (subst (λ (m : Shape). (e : _) → IsEntryOf m e → entry_words m e ≡ row_of c.in-Some-form_of.form → ⊥) c.shape.ensures.shape c.in_default-entry_of.ensures)

pub returns-then-is_behind : goal.returns-then-is_behind
returns-then-is_behind c = λ above two.
    let h = entry_here c.args.list.now c.shape.result c.shape.ensures.shape c.in-Some-entry_of.entry (row_of c.in-Some-form_of.form) c.in-Some.line.now c.in-Some.rest.now c.args.left.now c.in-Some.ensures.some.0 c.in-Some-form_of.ensures.1 c.in-Some-entry_of.ensures in
    earlier c.in-Some-entry_of.entry c.in-Some.rest.now two h.0 h.1 (before_last c.args.list.now c.args.last.now c.in-Some-entry_of.entry c.requires.last (sym c.is_behind.ensures ∙ c.if-is_behind.true))

pub returns-then-not-is_free : goal.returns-then-not-is_free
returns-then-not-is_free c = λ above two.
    let h = entry_here c.args.list.now c.shape.result c.shape.ensures.shape c.in-Some-entry_of.entry (row_of c.in-Some-form_of.form) c.in-Some.line.now c.in-Some.rest.now c.args.left.now c.in-Some.ensures.some.0 c.in-Some-form_of.ensures.1 c.in-Some-entry_of.ensures in
    again c.in-Some-entry_of.entry c.in-Some.rest.now two h.0 h.1 (not_before_last c.args.list.now c.args.last.now c.in-Some-entry_of.entry c.requires.last (sym c.is_behind.ensures ∙ c.if-is_behind.false))
    (λ free. false≢true (sym c.if-not-is_free.true ∙ c.is_free.ensures.1 free))

pub list_entry-requires-clause-beyond : goal.list_entry-requires-clause-beyond
list_entry-requires-clause-beyond c = beyond_all c.args.list.now c.requires.right c.args.last.now c.requires.last c.in-Some-entry_of.entry (sym c.is_behind.ensures ∙ c.if-is_behind.false) (free_unlisted c.args.list.now c.in-Some-entry_of.entry (c.is_free.ensures.0 c.if-not-is_free.false))
