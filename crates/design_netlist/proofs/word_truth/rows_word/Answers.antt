use Rattle.std.proofs.Common.{◌||◌, Bool, List, [], ap, sym, ◌∙◌, add-one, map, take}
use Rattle.design_netlist.proofs.Vocabulary.{get_or_default, Lit, matches, some_matches, bit_at, is_bit, lane_bits}
use Rattle.design_netlist.proofs.LaneLemmas.{or-bit, some-more}
use Rattle.design_netlist.proofs.word_truth.rows_word.Goals as goal

pub rows-preserved : goal.rows-preserved
rows-preserved c = λ j lj.
    let bits : List Bool = map (bit_at (lane_bits c.args.words.now j)) c.args.ins.now in
    let row = c.as_slice.ensures ∙ c.index-rows-k.is ∙ get_or_default c.args.rows.now c.rows.k c.index-rows-k.result [] c.rows-test.true in
    or-bit c.rows.word c.row_word-word.result j ∙
    ap (λ (b : Bool). b || is_bit c.row_word-word.result j) (c.rows.invariant j lj) ∙
    ap (λ (b : Bool). some_matches (take c.rows.k c.args.rows.now) bits || b)
    (c.row_word-word.ensures j lj ∙ ap (λ (r : List Lit). matches r bits) row) ∙
    rw add-one (sym (some-more c.args.rows.now bits c.rows.k c.rows-test.true))
