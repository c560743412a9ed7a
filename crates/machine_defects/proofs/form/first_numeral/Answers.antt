use Rattle.machine_defects.proofs.Vocabulary.{◌∙◌, sym, ap, subst, without}
use Rattle.machine_defects.proofs.{Splits.run_parts, Splits.Starts, Numerals.one_numeral, Numerals.one_number}
use Rattle.machine_defects.proofs.form.first_numeral.Goals as goal

pub returns-in-Some-read_number-clause-one : goal.returns-in-Some-read_number-clause-one
returns-in-Some-read_number-clause-one c = λ n ns small e.
    let parts = run_parts 32 c.in-Some.digits.now c.place_of.result (sym c.place_of.ensures.place) in
    let h = one_numeral c.args.text.now c.in-Some.digits.now c.split_at.result.0.now c.split_at.result.1.now n ns small c.in-Some.ensures c.split_at.ensures.by_index.0
    (ap (without 32) c.split_at.ensures.front ∙ parts.0) (subst (Starts 32) (sym c.split_at.ensures.back) parts.1) e in
    (one_number n c.in-Some-read_number.number small c.in-Some-read_number.ensures.some.1 (sym h.0 ∙ c.in-Some-read_number.ensures.some.0), h.1)

pub returns-in-None-clause-none : goal.returns-in-None-clause-none
returns-in-None-clause-none c = λ n ns small e.
    let parts = run_parts 32 c.in-Some.digits.now c.place_of.result (sym c.place_of.ensures.place) in
    let h = one_numeral c.args.text.now c.in-Some.digits.now c.split_at.result.0.now c.split_at.result.1.now n ns small c.in-Some.ensures c.split_at.ensures.by_index.0
    (ap (without 32) c.split_at.ensures.front ∙ parts.0) (subst (Starts 32) (sym c.split_at.ensures.back) parts.1) e in
    c.in-None.ensures.none n small h.0
