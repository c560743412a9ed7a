use Rattle.design_eval.proofs.Vocabulary.{ℕ, ◌-◌, ◌&&◌, ◌||◌, Bool, ap, ◌∙◌, bit_and, not, is_bit, and-bit, or-bit, not-bit}
use Rattle.design_eval.proofs.TableWordLemmas.{choice-is}
use Rattle.design_eval.proofs.table_word.choose.Goals as goal

pub returns : goal.returns
returns c = λ j lj.
    let other : ℕ = 18446744073709551615 - c.args.choice in
    or-bit (bit_and c.args.zero other) (bit_and c.args.one c.args.choice) j ∙
    ap (λ (x : Bool). x || is_bit (bit_and c.args.one c.args.choice) j) (and-bit c.args.zero other j ∙ ap (λ (x : Bool). is_bit c.args.zero j && x) (not-bit c.args.choice j c.ranges.choice.fits lj)) ∙
    ap (λ (x : Bool). (is_bit c.args.zero j && not (is_bit c.args.choice j)) || x) (and-bit c.args.one c.args.choice j) ∙
    choice-is (is_bit c.args.choice j) (is_bit c.args.zero j) (is_bit c.args.one j)
