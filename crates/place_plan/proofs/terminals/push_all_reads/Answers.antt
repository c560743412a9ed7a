use Rattle.std.proofs.Common.{◌≡◌, ◌<◌, ℕ, List, map, length, get_or, sym, ap, ◌∙◌, subst}
use Rattle.place_plan.proofs.Vocabulary.{get_or_read, tables_of, NetTable, Source, table_at, no_table, number_of, reads_of, reads_at}
use Rattle.place_plan.proofs.Pushes.{flat_next, place_at, place_below}
use Rattle.place_plan.proofs.terminals.push_all_reads.Goals as goal

pub push_reads-requires-clause-within : goal.push_reads-requires-clause-within
push_reads-requires-clause-within c = place_below c.args.places.now c.loop-j.j (tables_of c.args.shape.now) c.loop-j-test.true c.requires.within

pub loop-j-preserved : goal.loop-j-preserved
loop-j-preserved c =
    let m = c.args.shape.now in
    let n = c.args.network.now in
    let j : ℕ = c.loop-j.j in
    let places : List ℕ = map number_of c.args.places.now in
    let l : j < length n.tables = subst (λ z. j < z) (sym c.requires.lengths) c.loop-j-test.true in
    let ls : j < length c.as_slice.result.now = subst (λ (z : List NetTable). j < length z) (sym c.as_slice.ensures) l in
    let t : c.index-as_slice-j.result ≡ get_or c.as_slice.result.now j no_table = get_or_read c.as_slice.result.now j _ ls c.index-as_slice-j.is no_table in
    let u : c.index-as_slice-j.result ≡ table_at n j = t ∙ ap (λ (z : List NetTable). get_or z j no_table) c.as_slice.ensures in
    let sources : c.as_slice-in-loop-j.result.now ≡ (table_at n j).ins = c.as_slice-in-loop-j.ensures.sources ∙ ap (λ (z : NetTable). z.ins) u in
    let e : reads_of m n.inputs (get_or c.args.places.now j (record { 0 = 0 })).0 c.as_slice-in-loop-j.result.now (length c.as_slice-in-loop-j.result.now) ≡ reads_at m n places j = ap (λ (s : List Source). reads_of m n.inputs (get_or c.args.places.now j (record { 0 = 0 })).0 s (length s)) sources ∙ ap (λ (p : ℕ). reads_of m n.inputs p (table_at n j).ins (length (table_at n j).ins)) (sym (place_at c.args.places.now j c.loop-j-test.true)) in
    flat_next (reads_at m n places) c.args.terminals.now.items c.loop-j.terminals.items c.push_reads.new.terminals.items j _ c.loop-j.invariant c.in_ok-push_reads.ensures e
