use Rattle.design_equal.proofs.ProductLemmas.{any_order}
use Rattle.design_equal.proofs.products.sorted.Goals as goal

pub returns : goal.returns
returns c = λ bits. any_order bits c.args.list.items c.sort_unstable.new.self.items c.sort_unstable.ensures.permutation
