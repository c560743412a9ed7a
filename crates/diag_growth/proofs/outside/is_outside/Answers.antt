use Rattle.diag_growth.proofs.Vocabulary.{◌≡◌, ◌≢◌, sym, ◌∙◌, arith, nat_tests, Pin, Line, Port, TablePin}
use Rattle.diag_growth.proofs.Outsides.{means_outside, outside_line, outside_pin}
use Rattle.diag_growth.proofs.outside.is_outside.Goals as goal

pub returns-in-Pin-clause-outside : goal.returns-in-Pin-clause-outside
returns-in-Pin-clause-outside c = λ yes. means_outside (c.the_numbering_is_sound.ensures.meanings c.args.shape.now) c.args.hextant.0 c.args.w.0 (Pin c.in-Pin.position) c.in-Pin.ensures tt

pub returns-in-Line-clause-outside : goal.returns-in-Line-clause-outside
returns-in-Line-clause-outside c = λ yes.
    means_outside (c.the_numbering_is_sound.ensures.meanings c.args.shape.now) c.args.hextant.0 c.args.w.0 (Line c.in-Line.node.0 c.in-Line.position) c.in-Line.ensures (let d : c.in-Line.node.0 ≢ c.args.hextant.0 = grind (arith, nat_tests) in d)

pub returns-in-Line-clause-inside : goal.returns-in-Line-clause-inside
returns-in-Line-clause-inside c = λ no. outside_line c.args.hextant.0 c.args.w.0 c.in-Line.node.0 c.in-Line.position c.in-Line.ensures (let e : c.in-Line.node.0 ≡ c.args.hextant.0 = grind (arith, nat_tests) in e)

pub returns-in-Port-clause-outside : goal.returns-in-Port-clause-outside
returns-in-Port-clause-outside c = λ yes.
    means_outside (c.the_numbering_is_sound.ensures.meanings c.args.shape.now) c.args.hextant.0 c.args.w.0 (Port c.in-Port.node.0 c.in-Port.position) c.in-Port.ensures tt

pub returns-in-TablePin-clause-outside : goal.returns-in-TablePin-clause-outside
returns-in-TablePin-clause-outside c = λ yes.
    let is = c.hextant_of.ensures.node in
    means_outside (c.the_numbering_is_sound.ensures.meanings c.args.shape.now) c.args.hextant.0 c.args.w.0 (TablePin c.in-TablePin.table.0 c.in-TablePin.pin) c.in-TablePin.ensures
    (λ e. let d : c.hextant_of.result.0 ≢ c.args.hextant.0 = grind (arith, nat_tests) in d (is ∙ e))

pub returns-in-TablePin-clause-inside : goal.returns-in-TablePin-clause-inside
returns-in-TablePin-clause-inside c = λ no.
    outside_pin c.args.hextant.0 c.args.w.0 c.in-TablePin.table.0 c.in-TablePin.pin c.in-TablePin.ensures (sym c.hextant_of.ensures.node ∙ (let e : c.hextant_of.result.0 ≡ c.args.hextant.0 = grind (arith, nat_tests) in e))
