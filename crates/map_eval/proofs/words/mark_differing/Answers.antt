use Rattle.std.proofs.Common.{◌∙◌, arith}
use Rattle.map_eval.proofs.WordLemmas.{marked_next, marked_all}
use Rattle.map_eval.proofs.words.mark_differing.Goals as goal

pub tables-init : goal.tables-init
tables-init c = (c.clear.ensures.len, record { done = λ t lt. absurd (let no : ⊥ = omega arith in no); rest = λ t g. c.clear.ensures.none t })

pub cell-requires : goal.cell-requires
cell-requires c = let l = c.tables-test.true in let e = c.requires.addresses in c.requires.low c.tables.table (omega arith)

pub mark_if-requires-clause-within : goal.mark_if-requires-clause-within
mark_if-requires-clause-within c = let l = c.tables-test.true in let m = c.requires.marks in let e = c.tables.invariant.0 in omega arith

pub tables-preserved : goal.tables-preserved
tables-preserved c = (
  c.mark_if.ensures.len ∙ c.tables.invariant.0,
  marked_next c.args.masks.now c.args.addresses.now c.tables.marks c.mark_if.new.marks c.tables.table c.cell.result c.cell.ensures c.mark_if.ensures.this c.mark_if.ensures.others c.tables.invariant.1,
)

pub returns-clause-marked : goal.returns-clause-marked
returns-clause-marked c = marked_all c.args.masks.now c.args.addresses.now c.tables.marks c.tables.table (let f = c.tables-test.false in omega arith) c.tables.invariant.1
