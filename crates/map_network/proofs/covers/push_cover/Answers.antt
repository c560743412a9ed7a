use Rattle.map_network.proofs.Vocabulary.{◌≡◌, ◌<◌, ◌≤◌, ◌∙◌, ◌++◌, ap, sym, subst, length, arith, distinct, source_in}
use Rattle.std.specs.Option.{MatchOption}
use Rattle.map_network.proofs.TreeLemmas.{lt_true, lt_false}
use Rattle.map_network.proofs.PlainLemmas.{narrow_tables, wide_are, wide_size}
use Rattle.map_network.proofs.covers.push_cover.Goals as goal

pub push_narrow-requires-clause-names : goal.push_narrow-requires-clause-names
push_narrow-requires-clause-names c =
    let m = subst (λ f. MatchOption f (6 < length (distinct c.as_slice.result.now)) (λ names. (names.items ≡ distinct c.as_slice.result.now) × (length names.items ≤ 6))) c.in-Some.is (c.in_ok-names.ensures {u = tt}) in
    c.deref.ensures.value ∙ m.0 ∙ ap distinct c.as_slice.ensures

pub returns-in-Some : goal.returns-in-Some
returns-in-Some c =
    let m = subst (λ f. MatchOption f (6 < length (distinct c.as_slice.result.now)) (λ names. (names.items ≡ distinct c.as_slice.result.now) × (length names.items ≤ 6))) c.in-Some.is (c.in_ok-names.ensures {u = tt}) in
    let few : length (distinct c.args.cover.now.ins) < 7 = omega (arith, m.1, ap length m.0, ap (λ xs. length (distinct xs)) c.as_slice.ensures) in
    (c.in_ok-push_narrow.ensures {u = tt}) ∙ ap (λ ts. c.args.tables.now.items ++ ts) (sym (narrow_tables (source_in c.args.sources.now) (length c.args.tables.now.items) c.args.cover.now (lt_true (length (distinct c.args.cover.now.ins)) 7 few)))

pub push_wide-requires-clause-room : goal.push_wide-requires-clause-room
push_wide-requires-clause-room c =
    let m : 6 < length (distinct c.as_slice.result.now) = subst (λ f. MatchOption f (6 < length (distinct c.as_slice.result.now)) (λ names. (names.items ≡ distinct c.as_slice.result.now) × (length names.items ≤ 6))) c.in_default.is (c.in_ok-names.ensures {u = tt}) in
    let many : 7 ≤ length (distinct c.args.cover.now.ins) = omega (arith, m, ap (λ xs. length (distinct xs)) c.as_slice.ensures) in
    let s = wide_size c.args.cover.now c.requires.made.rows (lt_false (length (distinct c.args.cover.now.ins)) 7 many) in
    let r = c.requires.room in
    omega arith

pub returns : goal.returns
returns c =
    let m : 6 < length (distinct c.as_slice.result.now) = subst (λ f. MatchOption f (6 < length (distinct c.as_slice.result.now)) (λ names. (names.items ≡ distinct c.as_slice.result.now) × (length names.items ≤ 6))) c.in_default.is (c.in_ok-names.ensures {u = tt}) in
    let many : 7 ≤ length (distinct c.args.cover.now.ins) = omega (arith, m, ap (λ xs. length (distinct xs)) c.as_slice.ensures) in
    (c.in_ok-push_wide.ensures {u = tt}) ∙ ap (λ ts. c.args.tables.now.items ++ ts) (sym (wide_are (source_in c.args.sources.now) (length c.args.tables.now.items) c.args.cover.now (lt_false (length (distinct c.args.cover.now.ins)) 7 many)))
