use Rattle.run_image.proofs.Vocabulary.{◌≡◌, ◌∙◌, ◌+◌, ◌*◌, ◌<◌, [], length, refl, sym, subst, arith, ImageValue, most_together, ReadsMore}
use Rattle.run_image.proofs.BatchLemmas.{next-from, row-fits}
use Rattle.run_image.proofs.CycleLemmas.{few-together, some-together, reads-on, reads-same}
use Rattle.run_image.proofs.image.read_on.Goals as goal

pub vectors-init : goal.vectors-init
vectors-init c = record {
  same = record { image = refl; copies = refl; left = refl };
  fits = c.requires.fits;
  block = refl;
  from = (let drive = c.requires.fits.drive in omega (arith, drive));
  reads = record { more = []; size = refl; reads = λ store. refl; kept = c.requires.kept };
}

pub keep_drive-end-requires-clause-room : goal.keep_drive-end-requires-clause-room
keep_drive-end-requires-clause-room c =
    let u = c.take_unread.ensures in
    let few = few-together c.args.rows.now.left c.most_of-most.result (omega (arith, c.most_of-most.ensures)) in
    let lt : c.vectors.k < most_together = omega (arith, few) in
    row-fits most_together c.vectors.k (length c.take_unread.new.rows.image.inputs) c.vectors.end _ lt (subst (λ (i : ImageValue). c.vectors.end ≡ c.vectors.k * length i.inputs) (sym u.same.image) c.vectors.invariant.from) u.fits.drives

pub vectors-preserved : goal.vectors-preserved
vectors-preserved c =
    let i = c.vectors.invariant in
    let u = c.take_unread.ensures in
    let k = c.keep_drive-end.ensures in
    let few = few-together c.args.rows.now.left c.most_of-most.result (omega (arith, c.most_of-most.ensures)) in
    let lt : c.vectors.k < most_together = omega (arith, few) in
    let here = subst (λ (m : ImageValue). c.vectors.end ≡ c.vectors.k * length m.inputs) (sym u.same.image) i.from in
    let next = next-from c.vectors.k (length c.take_unread.new.rows.image.inputs) c.vectors.end c.keep_drive-end.result here k.place in
    record {
      same = record { image = k.same.image ∙ (u.same.image ∙ i.same.image); copies = k.same.copies ∙ (u.same.copies ∙ i.same.copies); left = k.same.left ∙ (u.same.left ∙ i.same.left) };
      fits = k.fits;
      block = k.block ∙ (u.block ∙ i.block);
      from = subst (λ (m : ImageValue). c.keep_drive-end.result ≡ (c.vectors.k + 1) * length m.inputs) (sym k.same.image) next;
      reads = reads-on c.vectors.k c.vectors.end c.keep_drive-end.result c.args.rows.now c.vectors.rows c.take_unread.new.rows c.keep_drive-end.new.rows u.same k.same u.fits k.fits (rw u.drives refl) k.vectors (u.gives c.if-not-take_unread.false) lt i.from k.place k.drives i.reads;
    }

pub returns-then-not-take_unread-clause-same : goal.returns-then-not-take_unread-clause-same
returns-then-not-take_unread-clause-same c =
    let i = c.vectors.invariant.same in
    let u = c.take_unread.ensures.same in
    record { image = u.image ∙ i.image; copies = u.copies ∙ i.copies; left = u.left ∙ i.left }

pub returns-then-not-take_unread-clause-reads : goal.returns-then-not-take_unread-clause-reads
returns-then-not-take_unread-clause-reads c =
    let u = c.take_unread.ensures in
    reads-same c.vectors.k c.args.rows.now c.vectors.rows c.take_unread.new.rows u.same (rw u.drives refl) (u.none c.if-not-take_unread.true) c.vectors.invariant.reads

pub returns-clause-few : goal.returns-clause-few
returns-clause-few c = omega (arith, c.most_of-most.ensures)

pub returns-clause-reads : goal.returns-clause-reads
returns-clause-reads c =
    let some = some-together c.args.rows.now.left in
    let most = c.most_of-most.ensures in
    let end : c.vectors.k ≡ c.most_of-most.result = omega (arith, some, most, c.vectors.auto.k-end) in
    subst (λ n. ReadsMore n c.args.rows.now c.vectors.rows) end c.vectors.invariant.reads
