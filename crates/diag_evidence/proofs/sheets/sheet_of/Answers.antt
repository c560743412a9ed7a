use Rattle.diag_evidence.proofs.Vocabulary.{◌≡◌, refl, subst, ap, ◌∙◌, pins_of, HaveWidth}
use Rattle.diag_evidence.proofs.{Settings.is_one_at, Settings.within_at, Addresses.drives_of_all}
use Rattle.diag_evidence.proofs.sheets.sheet_of.Goals as goal

pub table_drives-requires : goal.table_drives-requires
table_drives-requires c =
    let one = is_one_at c.args.tables.now 0 c.table_at.result c.requires.some c.table_at.ensures in
    record {
      within = within_at _ c.args.tables.now 0 c.table_at.result c.requires.within c.requires.some c.table_at.ensures;
      differ = λ i j p li lj hi hj. c.requires.differ c.table_at.result.0 i j p one li lj hi hj;
    }

pub returns : goal.returns
returns c =
    let one = is_one_at c.args.tables.now 0 c.table_at.result c.requires.some c.table_at.ensures in
    let drives = c.in_ok-drives.ensures.drives in
    let wide : c.pins-pins.result ≡ pins_of c.args.forest.now.shape = c.pins-pins.ensures.pins ∙ ap pins_of c.shape.ensures.shape in
    record {
      forest = c.shape.ensures.forest;
      sheet = record {
        shape = c.in_ok-config.ensures.shape;
        drives = c.in_ok-drives.ensures.width;
        many = drives.many;
        reads = subst (λ n. HaveWidth n c.in_ok-reads.reads.items) wide c.in_ok-reads.ensures.width;
        as_many = c.in_ok-reads.ensures.count;
        opposite = subst (λ n. HaveWidth n c.in_ok-opposite.opposite.items) wide c.in_ok-opposite.ensures.width;
        opposed = c.in_ok-opposite.ensures.count;
      };
      laid = c.in_ok-config.ensures;
      driven = drives_of_all c.args.forest.now c.args.tables.now c.table_at.result.0 c.requires one _ drives;
      latched = refl;
      low = refl;
    }
