use Rattle.std.proofs.Common.{◌≡◌, Some, ◌<◌, ◌+◌, ◌∙◌, All, List, ℕ, ◌≤◌, max, length, take, drop, subst, sym, ap, arith, map}
use Rattle.diag_evidence.proofs.Vocabulary.{le-max_right, pins_of, Pins, Sights, AreSights, ReadsEach, look_drives}
use Rattle.diag_evidence.proofs.{Rows.whole_again, Rows.as_many, Rows.as_wide, Rows.drives_count, Rows.drives_wide, Logging.logs_as}
use Rattle.diag_evidence.proofs.Sessions.{on_ok}
use Rattle.diag_evidence.proofs.looks.Looks.take.Goals as goal

pub read_rows-requires-clause-drives : goal.read_rows-requires-clause-drives
read_rows-requires-clause-drives g c =
    subst (λ (rows : List Pins). All (λ row. length row ≡ pins_of c.args.config.now.config.shape) rows) (sym (c.deref.ensures.value ∙ c.requires.drives))
    (subst (λ n. All (λ row. length row ≡ n) (look_drives c.args.self.now.pins)) c.requires.pins (drives_wide c.args.self.now.pins))

pub read_rows-requires-clause-as_many : goal.read_rows-requires-clause-as_many
read_rows-requires-clause-as_many g c =
    ap length (c.deref.ensures.value ∙ c.requires.drives) ∙ drives_count c.args.self.now.pins ∙ ap (λ (s : Sights). s.pins + 1) (sym c.self.view_is) ∙ sym c.self.invariant.cycles ∙ ap length (sym c.deref_mut.ensures.value)

pub read_rows-requires-clause-room : goal.read_rows-requires-clause-room
read_rows-requires-clause-room g c =
    ap (λ (s : Sights). s.pins + 1) c.self.view_is ∙ sym (drives_count c.args.self.now.pins) ∙ ap length (sym (c.deref.ensures.value ∙ c.requires.drives))

pub read_rows-requires-clause-few : goal.read_rows-requires-clause-few
read_rows-requires-clause-few g c =
    let pins = drives_count c.args.self.now.pins in
    let many : length c.deref.result.now ≡ length (look_drives c.args.self.now.pins) = ap length (c.deref.ensures.value ∙ c.requires.drives) in
    let high = le-max_right 65 (pins_of c.args.config.now.config.shape + 1) in
    omega (arith, pins, many, high, c.requires.pins)

pub returns-clause-made : goal.returns-clause-made
returns-clause-made g c =
    let pins = drives_count c.args.self.now.pins in
    let many : length c.deref.result.now ≡ length (look_drives c.args.self.now.pins) = ap length (c.deref.ensures.value ∙ c.requires.drives) in
    omega (arith, c.read_rows.ensures.made, pins, many)

pub invariant_of-self : goal.invariant_of-self
invariant_of-self g c =
    let kept = c.read_rows.ensures.lengths in
    let rows : map length c.read_rows.new.rows ≡ map length c.self.inside.rows.items = kept ∙ ap (map length) c.deref_mut.ensures.value in
    let many : length c.read_rows.new.rows ≡ length c.self.inside.rows.items = as_many c.self.inside.rows.items c.read_rows.new.rows rows in
    subst (λ (rs : List Pins). AreSights (record { pins = c.self.inside.pins; rows = rs })) (sym (whole_again c.self.inside.rows.len c.read_rows.new.rows c.self.inside.rows.items many c.self.inside.rows.ok.0)) (record {
      cycles = many ∙ c.self.invariant.cycles;
      each = as_wide c.self.inside.pins c.self.inside.rows.items c.read_rows.new.rows rows c.self.invariant.each;
      few = c.self.invariant.few;
    })

pub returns-clause-run_each : goal.returns-clause-run_each
returns-clause-run_each g c =
    let many : length c.read_rows.new.rows ≡ length c.self.inside.rows.items =
    as_many c.self.inside.rows.items c.read_rows.new.rows (c.read_rows.ensures.lengths ∙ ap (map length) c.deref_mut.ensures.value) in
    on_ok c.read_rows.result c.read_rows.ensures.run_each (λ each f e.
    subst (λ (rows : List Pins). ReadsEach (Some f) c.args.config.now.config (look_drives c.args.self.now.pins) rows)
    (sym (whole_again c.self.inside.rows.len c.read_rows.new.rows c.self.inside.rows.items many c.self.inside.rows.ok.0))
    (subst (λ (drives : List Pins). ReadsEach (Some f) c.args.config.now.config drives c.read_rows.new.rows) (c.deref.ensures.value ∙ c.requires.drives) (each f e)))

pub returns-clause-logged : goal.returns-clause-logged
returns-clause-logged g c =
    let many : length c.read_rows.new.rows ≡ length c.self.inside.rows.items =
    as_many c.self.inside.rows.items c.read_rows.new.rows (c.read_rows.ensures.lengths ∙ ap (map length) c.deref_mut.ensures.value) in
    on_ok c.read_rows.result c.read_rows.ensures.logged (λ log. logs_as log (c.deref.ensures.value ∙ c.requires.drives)
    (whole_again c.self.inside.rows.len c.read_rows.new.rows c.self.inside.rows.items many c.self.inside.rows.ok.0))
