use Rattle.map_network.proofs.Vocabulary.{◌≡◌, ◌<◌, ◌+◌, ◌-◌, ◌∙◌, ap, take, length, subst, arith, table_at, IsMost, source_level}
use Rattle.map_network.proofs.SearchLemmas.{closed_to, level_fits, last_within}
use Rattle.map_network.proofs.longest.close.Goals as goal

pub ins_of-ins-requires : goal.ins_of-ins-requires
ins_of-ins-requires c = omega (arith, last_within c.args.network.now c.requires.network c.args.search.now.marks.items c.args.search.now.path.items c.requires.searching c.args.table c.requires.last, c.requires.searching.len)

pub overflow_add-level : goal.overflow_add-level
overflow_add-level c =
    let most : IsMost (source_level c.args.search.now.marks.items (table_at c.args.network.now c.args.table).ins) (length (table_at c.args.network.now c.args.table).ins) c.most-level.result = subst (λ m. IsMost (source_level m (table_at c.args.network.now c.args.table).ins) (length (table_at c.args.network.now c.args.table).ins) c.most-level.result) c.deref.ensures.value (subst (λ i. IsMost (source_level c.deref.result.now i) (length i) c.most-level.result) c.ins_of-ins.ensures c.most-level.ensures) in
    let l : c.most-level.result + 1 < 4294967296 = level_fits c.args.network.now c.requires.network c.args.search.now.marks.items c.args.search.now.path.items c.requires.searching c.args.table c.requires.last c.requires.visited c.most-level.result most in
    omega arith

pub returns-clause-searching : goal.returns-clause-searching
returns-clause-searching c =
    let most : IsMost (source_level c.args.search.now.marks.items (table_at c.args.network.now c.args.table).ins) (length (table_at c.args.network.now c.args.table).ins) c.most-level.result = subst (λ m. IsMost (source_level m (table_at c.args.network.now c.args.table).ins) (length (table_at c.args.network.now c.args.table).ins) c.most-level.result) c.deref.ensures.value (subst (λ i. IsMost (source_level c.deref.result.now i) (length i) c.most-level.result) c.ins_of-ins.ensures c.most-level.ensures) in
    closed_to c.args.network.now c.requires.network c.args.search.now.marks.items c.args.search.now.path.items c.requires.searching c.args.table c.requires.last c.requires.visited c.most-level.result most c.pop.new.self.items (c.pop.ensures.rest ∙ ap (λ m. take (m - 1) c.args.search.now.path.items) (let e : c.args.search.now.path.len ≡ length c.args.search.now.path.items = omega arith in e))
