use Rattle.machine_defects.proofs.Vocabulary.{◌∙◌, sym, subst, IsWord}
use Rattle.machine_defects.proofs.{Splits.one_split, Rows.from_word}
use Rattle.machine_defects.proofs.form.two_words.Goals as goal

pub returns-in-None-word-2-clause-none : goal.returns-in-None-word-2-clause-none
returns-in-None-word-2-clause-none c = λ a b p q e.
    let h = one_split 32 c.in-Some.first.now a c.in-Some.second.now b c.in-Some.ensures.some.1 (from_word a p).spaceless (sym c.in-Some.ensures.some.0 ∙ e) in
    c.in-None-word-2.ensures (subst IsWord (sym h.1) q)

pub returns-in-None-word-clause-none : goal.returns-in-None-word-clause-none
returns-in-None-word-clause-none c = λ a b p q e.
    let h = one_split 32 c.in-Some.first.now a c.in-Some.second.now b c.in-Some.ensures.some.1 (from_word a p).spaceless (sym c.in-Some.ensures.some.0 ∙ e) in
    c.in-None-word.ensures (subst IsWord (sym h.0) p)
