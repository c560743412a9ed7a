use Rattle.machine_defects.proofs.Vocabulary.{sym, subst, IsWord}
use Rattle.machine_defects.proofs.Forms.{no_form, is_wire, is_cross, is_table}
use Rattle.machine_defects.proofs.form.form_of.Goals as goal

pub returns-in-Some-word : goal.returns-in-Some-word
returns-in-Some-word c = is_wire c.args.line.now c.in-Some-word.name.now c.in-Some.name.now c.in-Some.ensures c.in-Some-word.ensures.0 (subst IsWord (sym c.in-Some-word.ensures.0) c.in-Some-word.ensures.1)

pub returns-in-Some-two_words : goal.returns-in-Some-two_words
returns-in-Some-two_words c = is_cross c.args.line.now c.in-Some-two_words.tap.now c.in-Some-two_words.line.now c.in-Some-behind.names.now c.in-Some-behind.ensures c.in-Some-two_words.ensures.some.0 c.in-Some-two_words.ensures.some.1 c.in-Some-two_words.ensures.some.2

pub returns-in-Some-word-2 : goal.returns-in-Some-word-2
returns-in-Some-word-2 c = is_table c.args.line.now c.in-Some-word-2.name.now c.in-Some-behind-2.name.now c.in-Some-behind-2.ensures c.in-Some-word-2.ensures.0 (subst IsWord (sym c.in-Some-word-2.ensures.0) c.in-Some-word-2.ensures.1)

pub returns : goal.returns
returns c = no_form c.args.line.now c.in_default.ensures c.in_default-behind.ensures c.in_default-behind-2.ensures
