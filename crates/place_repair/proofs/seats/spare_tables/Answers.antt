use Rattle.place_repair.proofs.Vocabulary.{◌≡◌, ◌<◌, sym, ap, ◌∙◌, subst, arith, tables_of, IsSpareTable}
use Rattle.place_repair.proofs.Sieving.{sieve_next, sieve_all}
use Rattle.place_repair.proofs.seats.spare_tables.Goals as goal

pub is_spare-is-requires-clause-within : goal.is_spare-is-requires-clause-within
is_spare-is-requires-clause-within c = subst (λ n. c.loop-t.t < n) (c.tables-t-end.ensures.tables ∙ ap tables_of (c.shape.ensures.shape ∙ c.requires.shape)) c.loop-t-test.true

pub loop-t-preserved : goal.loop-t-preserved
loop-t-preserved c = sieve_next (IsSpareTable c.args.defects.now.list c.args.image.now) c.loop-t.t c.is_spare-is.result c.loop-t.spare c.push_if.new.numbers c.is_spare-is.ensures c.in_ok-push_if.ensures c.loop-t.invariant

pub returns : goal.returns
returns c =
    let e : c.tables-t-end.result ≡ tables_of c.args.image.now.config.shape = c.tables-t-end.ensures.tables ∙ ap tables_of (c.shape.ensures.shape ∙ c.requires.shape) in
    let q : c.loop-t.t ≡ c.tables-t-end.result = omega arith in
    sieve_all (IsSpareTable c.args.defects.now.list c.args.image.now) c.loop-t.t c.loop-t.spare (λ t is. subst (λ n. t < n) (sym (q ∙ e)) is.within) c.loop-t.invariant
