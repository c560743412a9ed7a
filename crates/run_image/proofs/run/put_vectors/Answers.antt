use Rattle.run_image.proofs.Vocabulary.{◌≡◌, ◌∙◌, ◌<◌, length, arith, refl, length-set, All-set, Pins}
use Rattle.run_image.proofs.{BatchLemmas.next-from, Together.drives-more, Together.drives-all}
use Rattle.run_image.proofs.run.put_vectors.Goals as goal

pub rows-preserved : goal.rows-preserved
rows-preserved c =
    let i = c.rows.invariant in
    let few = c.requires.few in
    let all = c.requires.rows.count in
    let many = i.count in
    let lt : c.rows.k < c.args.count = omega arith in
    let within : c.rows.k < length c.rows.drives = omega (arith, lt, few, all, many) in
    record {
      from = next-from c.rows.k (length c.args.pins.now) c.rows.from _ i.from refl;
      count = length-set c.rows.drives c.rows.k c.put_over.new.drive ∙ i.count;
      driven_so = drives-more c.args.count (length c.args.pins.now) c.args.pins.now c.args.other.now c.args.vectors.now c.rows.k c.rows.from c.rows.drives c.put_over.new.drive lt within i.from c.put_over.ensures.driven i.driven_so;
      wide = All-set (λ (drive : Pins). length drive ≡ length c.args.other.now) c.rows.drives c.rows.k c.put_over.new.drive c.put_over.ensures.wide i.wide;
    }

pub returns-clause-rows : goal.returns-clause-rows
returns-clause-rows c = record { count = c.rows.invariant.count ∙ c.requires.rows.count; wide = c.rows.invariant.wide }

pub returns-clause-driven : goal.returns-clause-driven
returns-clause-driven c =
    drives-all c.args.count (length c.args.pins.now) c.args.pins.now c.args.other.now c.args.vectors.now c.rows.k c.rows.drives (omega (arith, c.rows.auto.k-end)) c.rows.invariant.driven_so
