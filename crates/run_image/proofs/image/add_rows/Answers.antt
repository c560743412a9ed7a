use Rattle.std.proofs.Common.{◌≡◌, ◌∙◌, ◌+◌, ◌*◌, ◌<◌, length, refl, sym, subst, arith}
use Rattle.run_image.proofs.Vocabulary.{err_from_is_err_and, ImageValue, most_together}
use Rattle.run_image.proofs.BatchLemmas.{next-from, row-fits}
use Rattle.run_image.proofs.CycleLemmas.{add-next, stop-next, added-all}
use Rattle.run_image.proofs.image.add_rows.Goals as goal

pub rows-init : goal.rows-init
rows-init g c = record {
  same = record { image = refl; copies = refl; left = refl };
  fits = c.requires.fits;
  vectors = refl;
  readings = refl;
  from = omega arith;
  adds = (refl, refl);
}

pub next_row-requires-clause-room : goal.next_row-requires-clause-room
next_row-requires-clause-room g c =
    let i = c.rows.invariant in
    let few = c.requires.few in
    let lt : c.rows._k < most_together = omega (arith, few) in
    row-fits most_together c.rows._k (length c.rows.rows.image.outputs) c.rows.from _ lt i.from i.fits.readings

pub rows-preserved : goal.rows-preserved
rows-preserved g c =
    let i = c.rows.invariant in
    let e = c.in_ok-from.ensures in
    let lt : c.rows._k < c.args.count = omega arith in
    let next = next-from c.rows._k (length c.rows.rows.image.outputs) c.rows.from _ i.from e.place in
    record {
      same = record { image = e.same.image ∙ i.same.image; copies = e.same.copies ∙ i.same.copies; left = e.same.left ∙ i.same.left };
      fits = e.fits;
      vectors = e.vectors ∙ i.vectors;
      readings = e.readings ∙ i.readings;
      from = subst (λ (m : ImageValue). c.in_ok-from.from ≡ (c.rows._k + 1) * length m.outputs) (sym e.same.image) next;
      adds = add-next c.args.count c.rows._k c.rows.from c.args.rows.now c.rows.rows c.next_row.new.rows.block.text _ _ _ i.same i.readings i.from lt i.adds e.adds;
    }

pub returns-in_err-from-clause-refused : goal.returns-in_err-from-clause-refused
returns-in_err-from-clause-refused g c =
    let p = err_from_is_err_and c.from_residual.result c.from_residual.ensures.1 in
    let i = c.rows.invariant in
    let lt : c.rows._k < c.args.count = omega arith in
    rw (p.1, p.2) (stop-next _ c.args.count c.rows._k c.rows.from c.args.rows.now c.rows.rows c.next_row.new.rows.block.text _ _ _ i.same i.readings i.from lt i.adds c.in_err-from.ensures.refused)

pub returns-clause-adds : goal.returns-clause-adds
returns-clause-adds g c =
    let end : c.rows._k ≡ c.args.count = omega (arith, c.rows.auto._k-end) in
    added-all c.args.count c.rows._k c.args.rows.now c.rows.rows.block.text _ _ end c.rows.invariant.adds
