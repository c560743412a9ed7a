use Rattle.std.proofs.Common.{◌≡◌, ◌∙◌, ◌++◌, Some, List, sym, ap, subst, refl, length, take, drop}
use Rattle.diag_evidence.proofs.Vocabulary.{pins_of, Pins, ReadsEach, HaveWidth}
use Rattle.diag_evidence.proofs.{Sessions.on_ok, Sessions.on_ok_both, Logging.logs_as, Rows.whole_again, ReadTwice.cycled_under}
use Rattle.diag_evidence.proofs.sheets.read_tables.Goals as goal

pub returns-clause-whole : goal.returns-clause-whole
returns-clause-whole g c =
    let sheet = c.args.sheet.now in
    let whole : take sheet.reads.len (c.read_load.new.reads ++ drop (length c.read_load.new.reads) sheet.reads.items) ≡ c.read_load.new.reads =
    whole_again sheet.reads.len c.read_load.new.reads sheet.reads.items (c.read_load.ensures.as_many ∙ sym c.requires.sheet.as_many) sheet.reads.ok.0 in
    let opposed : take sheet.opposite.len (c.read_load-2.new.reads ++ drop (length c.read_load-2.new.reads) sheet.opposite.items) ≡ c.read_load-2.new.reads =
    whole_again sheet.opposite.len c.read_load-2.new.reads sheet.opposite.items (c.read_load-2.ensures.as_many ∙ sym c.requires.sheet.opposed) sheet.opposite.ok.0 in
    on_ok c.read_load-2.result c.read_load-2.ensures.session (λ cycled. record {
      shape = c.switch_all.ensures.shape;
      drives = c.requires.sheet.drives;
      many = c.requires.sheet.many;
      reads = subst (HaveWidth (pins_of sheet.config.config.shape)) (sym whole) c.read_load.ensures.width;
      as_many = ap length whole ∙ c.read_load.ensures.as_many;
      opposite = subst (HaveWidth (pins_of sheet.config.config.shape)) (sym opposed)
          (subst (λ n. HaveWidth n c.read_load-2.new.reads) (ap pins_of c.switch_all.ensures.shape) c.read_load-2.ensures.width);
      opposed = ap length opposed ∙ c.read_load-2.ensures.as_many;
    })

pub returns-clause-read_each : goal.returns-clause-read_each
returns-clause-read_each g c =
    let sheet = c.args.sheet.now in
    let whole : take sheet.reads.len (c.read_load.new.reads ++ drop (length c.read_load.new.reads) sheet.reads.items) ≡ c.read_load.new.reads =
    whole_again sheet.reads.len c.read_load.new.reads sheet.reads.items (c.read_load.ensures.as_many ∙ sym c.requires.sheet.as_many) sheet.reads.ok.0 in
    let opposed : take sheet.opposite.len (c.read_load-2.new.reads ++ drop (length c.read_load-2.new.reads) sheet.opposite.items) ≡ c.read_load-2.new.reads =
    whole_again sheet.opposite.len c.read_load-2.new.reads sheet.opposite.items (c.read_load-2.ensures.as_many ∙ sym c.requires.sheet.opposed) sheet.opposite.ok.0 in
    on_ok_both c.read_load-2.result c.read_load-2.ensures.run_each c.read_load-2.ensures.session (λ two session f e. record {
      setting = refl;
      drives = refl;
      run = (subst (λ (rows : List Pins). ReadsEach (Some f) sheet.config.config sheet.drives.items rows) (sym whole)
          (subst (λ (drives : List Pins). ReadsEach (Some f) sheet.config.config drives c.read_load.new.reads) c.deref.ensures.value
          (c.in_ok-read_load.ensures.run_each f (c.read_load-2.ensures.loads.narrows f e))));
      other = c.opposite_of.result;
      opposed = c.opposite_of.ensures;
      switched = c.switch_all.ensures;
      run_opposite = (subst (λ (rows : List Pins). ReadsEach (Some f) c.switch_all.new.config.config sheet.drives.items rows) (sym opposed)
          (subst (λ (drives : List Pins). ReadsEach (Some f) c.switch_all.new.config.config drives c.read_load-2.new.reads) c.deref-2.ensures.value (two f e)));
      session = cycled_under c.deref-2.ensures.value session;
    })

pub returns-clause-logged : goal.returns-clause-logged
returns-clause-logged g c =
    let sheet = c.args.sheet.now in
    let whole : take sheet.reads.len (c.read_load.new.reads ++ drop (length c.read_load.new.reads) sheet.reads.items) ≡ c.read_load.new.reads =
    whole_again sheet.reads.len c.read_load.new.reads sheet.reads.items (c.read_load.ensures.as_many ∙ sym c.requires.sheet.as_many) sheet.reads.ok.0 in
    let opposed : take sheet.opposite.len (c.read_load-2.new.reads ++ drop (length c.read_load-2.new.reads) sheet.opposite.items) ≡ c.read_load-2.new.reads =
    whole_again sheet.opposite.len c.read_load-2.new.reads sheet.opposite.items (c.read_load-2.ensures.as_many ∙ sym c.requires.sheet.opposed) sheet.opposite.ok.0 in
    on_ok c.read_load-2.result c.read_load-2.ensures.logged (λ second. record {
      setting = refl;
      between = _;
      first = logs_as c.in_ok-read_load.ensures.logged c.deref.ensures.value whole;
      other = c.opposite_of.result;
      opposed = c.opposite_of.ensures;
      switched = c.switch_all.ensures;
      second = logs_as second c.deref-2.ensures.value opposed;
    })
