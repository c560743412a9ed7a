use Rattle.map_eval.proofs.Vocabulary.{◌<◌, ◌≡◌, ◌∙◌, ap, sym, subst, arith, bit_xor, cell_at}
use Rattle.map_eval.proofs.WordLemmas.{xor_low, xor_this, xor_other}
use Rattle.map_eval.proofs.state.turned.Goals as goal

pub returns-clause-low : goal.returns-clause-low
returns-clause-low c p lp e = subst (λ b. bit_xor c.args.address b < 64) (sym e) (xor_low c.args.address p c.requires lp)

pub returns-clause-this : goal.returns-clause-this
returns-clause-this c p lp e = ap (λ b. cell_at (bit_xor c.args.address b) p) e ∙ xor_this c.args.address p

pub returns-clause-others : goal.returns-clause-others
returns-clause-others c p q e d = ap (λ b. cell_at (bit_xor c.args.address b) q) e ∙ xor_other c.args.address p q d
