use Rattle.base_text.proofs.Vocabulary.{◌≡◌, [], ◌∙◌, map, arith, sym, eqb-true, nil_from_length, physical_lines}
use Rattle.base_text.proofs.LinesLemmas.{first_line, goes_on, ends, at_end}
use Rattle.base_text.proofs.lines.first_logical.Goals as goal

pub loop-rest-init : goal.loop-rest-init
loop-rest-init c = record {
  room = omega arith;
  line = rw c.new-words.ensures.items (first_line c.args.joined c.args.number c.args.bytes.now c.requires.some);
  begun = omega arith;
}

pub returns-in-None-clause-line : goal.returns-in-None-clause-line
returns-in-None-clause-line c =
    rw c.in_ok-push_words-in-None.ensures (ends c.args.joined c.args.number c.loop-rest.next (map (λ w. w.now) c.loop-rest.words.items) (physical_lines c.loop-rest.rest.now) _ c.loop-rest.invariant.line c.first_physical.result.0.now c.uncommented-text.result.now (physical_lines c.first_physical.result.1.now) c.first_physical.ensures.parts c.uncommented-text.ensures c.in-None.ensures)

pub loop-rest-preserved : goal.loop-rest-preserved
loop-rest-preserved c = record {
  room = omega arith;
  line = rw c.in_ok-push_words-in-Some.ensures (goes_on c.args.joined c.args.number c.loop-rest.next (map (λ w. w.now) c.loop-rest.words.items) (physical_lines c.loop-rest.rest.now) _ c.loop-rest.invariant.line c.first_physical.result.0.now c.uncommented-text.result.now c.in-Some.part.now (physical_lines c.first_physical.result.1.now) c.first_physical.ensures.parts c.uncommented-text.ensures c.in-Some.ensures);
  begun = omega arith;
}

pub returns-clause-line : goal.returns-clause-line
returns-clause-line c =
    let none : c.loop-rest.rest.now ≡ [] = nil_from_length c.loop-rest.rest.now (eqb-true _ _ (sym c.loop-rest-test.ensures)) in
    sym c.loop-rest.invariant.line ∙ at_end c.args.joined c.args.number c.loop-rest.next (map (λ w. w.now) c.loop-rest.words.items) c.loop-rest.rest.now none
