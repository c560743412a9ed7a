use Rattle.place_repair.proofs.Vocabulary.{◌≡◌, ◌<◌, sym, ap, ◌∙◌, subst, arith, tables_of, IsGoneTable}
use Rattle.place_repair.proofs.{Placed.on_within, Sieving.sieve_next, Sieving.sieve_all}
use Rattle.place_repair.proofs.seats.gone_tables.Goals as goal

pub is_gone-goes-requires-clause-within : goal.is_gone-goes-requires-clause-within
is_gone-goes-requires-clause-within c = subst (λ n. c.loop-t.t < n) (c.tables-t-end.ensures.tables ∙ ap tables_of (c.shape.ensures.shape ∙ c.requires)) c.loop-t-test.true

pub loop-t-preserved : goal.loop-t-preserved
loop-t-preserved c = sieve_next (IsGoneTable c.args.defects.now.list c.args.image.now) c.loop-t.t c.is_gone-goes.result c.loop-t.gone c.push_if.new.numbers c.is_gone-goes.ensures c.in_ok-push_if.ensures c.loop-t.invariant

pub returns : goal.returns
returns c =
    let e : c.tables-t-end.result ≡ tables_of c.args.image.now.config.shape = c.tables-t-end.ensures.tables ∙ ap tables_of (c.shape.ensures.shape ∙ c.requires) in
    let q : c.loop-t.t ≡ c.tables-t-end.result = omega arith in
    sieve_all (IsGoneTable c.args.defects.now.list c.args.image.now) c.loop-t.t c.loop-t.gone
    (λ t is. subst (λ n. t < n) (sym (q ∙ e)) (on_within c.args.image.now.config c.config-config.ensures.right.config t is.0)) c.loop-t.invariant
