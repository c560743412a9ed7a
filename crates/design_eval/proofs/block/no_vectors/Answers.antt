use Rattle.std.proofs.Common.{refl}
use Rattle.design_eval.proofs.BlockLemmas.{block-first}
use Rattle.design_eval.proofs.block.no_vectors.Goals as goal

pub returns : goal.returns
returns c = block-first c.args.netlist.now c.parts.result.now _ c.len.result c.parts.ensures.parts c.len.ensures (c.in_ok-words.ensures.items_if_clones_equal (λ y e. e)) refl
