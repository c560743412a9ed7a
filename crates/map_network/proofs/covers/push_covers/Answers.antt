use Rattle.map_network.proofs.Vocabulary.{◌≡◌, ◌∙◌, sym, subst, length, get_or_default, no_cover, cover_at, source_in}
use Rattle.map_network.proofs.{PlainLemmas.AreRowsOf, CoverLemmas.cover_more, CoverLemmas.cover_room, CoverLemmas.covers_over}
use Rattle.map_network.proofs.covers.push_covers.Goals as goal

pub covers-preserved : goal.covers-preserved
covers-preserved c =
    let at : cover_at c.args.covers.now c.covers.k ≡ c.index-covers-k.result = sym (c.index-covers-k.is ∙ get_or_default c.args.covers.now c.covers.k c.index-covers-k.result no_cover c.covers-test.true) in
    let rows : AreRowsOf c.index-covers-k.result = subst (λ x. AreRowsOf x) at (c.requires.covers.made c.covers.k c.covers-test.true).rows in
    record {
      tables = cover_more (source_in c.args.sources.now) c.args.covers.now c.covers.k c.index-covers-k.result c.index-covers-k.result c.covers-test.true c.index-covers-k.is rows c.covers.tables.items c.push_cover.new.tables.items (c.in_ok-push_cover.ensures {u = tt}) ∙ c.covers.invariant.tables;
      room = cover_room (source_in c.args.sources.now) c.args.covers.now c.covers.k c.index-covers-k.result c.index-covers-k.result c.covers-test.true c.index-covers-k.is rows c.covers.tables.items c.push_cover.new.tables.items (c.in_ok-push_cover.ensures {u = tt}) c.covers.invariant.room;
    }

pub returns : goal.returns
returns c = covers_over (source_in c.args.sources.now) c.args.covers.now c.covers.k (length c.covers.tables.items) c.covers-test.false c.covers.tables.items ∙ c.covers.invariant.tables
