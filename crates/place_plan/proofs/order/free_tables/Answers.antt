use Rattle.place_plan.proofs.Vocabulary.{ℕ, refl, ap, ◌∙◌, arith, IsFreeTable, tables_of, same_number}
use Rattle.place_plan.proofs.Sieves.{tested_step, sieve_end}
use Rattle.place_plan.proofs.order.free_tables.Goals as goal

pub loop-t-preserved : goal.loop-t-preserved
loop-t-preserved c =
    let t : ℕ = c.loop-t.t in
    tested_step same_number (IsFreeTable c.args.defects.now.shape c.args.defects.now.list) t t c.free_table.result c.loop-t.tables c.push_if.new.numbers (λ j l. l) refl c.free_table.ensures c.in_ok-push_if.ensures c.loop-t.invariant

pub returns : goal.returns
returns c =
    let m = c.args.defects.now.shape in
    sieve_end (IsFreeTable m c.args.defects.now.list) c.loop-t.t c.tables-t-end.result (tables_of m) c.loop-t.tables (omega arith) (c.tables-t-end.ensures.tables ∙ ap tables_of c.shape-shape.ensures.shape) c.loop-t.invariant
