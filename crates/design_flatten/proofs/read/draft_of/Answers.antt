use Rattle.design_flatten.proofs.Vocabulary.{◌≡◌, ◌∙◌, ap, map, flat_map}
use Rattle.design_flatten.specs.Vocabulary.{placed_line, signals_of, lines_of, input_on, output_on, cover_on, latch_on}
use Rattle.design_flatten.proofs.read.draft_of.Goals as goal

pub returns-clause-ok : goal.returns-clause-ok
returns-clause-ok c =
    let s = c.args.found.now in
    let h = c.requires.kept in
    let lines = lines_of c.args.models.now s in
    let S : s.sink.signals ≡ signals_of lines = h.sink.signals in
    let lists = c.in_ok-lists.ensures in
    let placed : map placed_line c.deref.result.now ≡ lines = ap (map placed_line) c.deref.ensures.value ∙ c.requires.held in
    record {
      names = c.requires.names;
      inputs = c.new.ensures ∙ lists.inputs ∙ (λ i. flat_map (input_on (S i)) (placed i));
      outputs = c.new-2.ensures ∙ lists.outputs ∙ (λ i. flat_map (output_on (S i)) (placed i));
      covers = c.new-3.ensures ∙ lists.covers ∙ (λ i. flat_map (cover_on (S i)) (placed i));
      latches = c.new-4.ensures ∙ lists.latches ∙ (λ i. flat_map (latch_on (S i)) (placed i));
    }
