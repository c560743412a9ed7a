use Rattle.std.proofs.Common.{◌&&◌, Bool, get_or, ap, sym, ◌∙◌, add-one, map, take}
use Rattle.design_netlist.proofs.Vocabulary.{Zero, fits, matches, bit_at, is_bit, lane_bits}
use Rattle.design_netlist.proofs.LaneLemmas.{all-bits, and-bit, lane-at, matches-more}
use Rattle.design_netlist.proofs.word_truth.row_word.Goals as goal

pub places-init : goal.places-init
places-init c = λ j lj. all-bits j lj

pub places-preserved : goal.places-preserved
places-preserved c = λ j lj.
    and-bit c.places.word c.fits_word-word.result j ∙
    ap (λ (b : Bool). b && is_bit c.fits_word-word.result j) (c.places.invariant j lj) ∙
    ap (λ (b : Bool). matches (take c.places.k c.args.row.now) (map (bit_at (lane_bits c.args.words.now j)) (take c.places.k c.args.ins.now)) && b)
    (c.fits_word-word.ensures j lj ∙ ap (fits (get_or c.args.row.now c.places.k Zero)) (sym (lane-at c.args.words.now j (get_or c.args.ins.now c.places.k 0)))) ∙
    rw add-one (sym (matches-more (bit_at (lane_bits c.args.words.now j)) c.args.row.now c.args.ins.now c.places.k c.requires.len c.places-test.true))
