use Rattle.std.proofs.Common.{◌≡◌, ◌<◌, ◌≤◌, ◌++◌, ◌∙◌, [], length, refl, sym, ap, subst, arith, All}
use Rattle.diag_sweep.proofs.Vocabulary.{take_all, Table, tables_of, AreOn, InputsOn, OutputOn, Seen}
use Rattle.diag_sweep.proofs.{Footed.all_more, Sheeted.outs_more, Sheeted.seen_alone, Sheeted.on_all}
use Rattle.diag_sweep.proofs.fits.are_on.Goals as goal

pub tables-init : goal.tables-init
tables-init c = record {
  len = c.see_all.ensures.len ∙ c.requires.seen;
  within = λ k d none. absurd (let no : ⊥ = omega arith in no);
  inputs = λ k d none. absurd (let no : ⊥ = omega arith in no);
  outputs = λ k d none. absurd (let no : ⊥ = omega arith in no);
  seen = seen_alone c.args.ins.now (c.if-not-see_all.ensures.seen refl);
}

pub tables-preserved : goal.tables-preserved
tables-preserved c =
    let below : c.tables.k < length c.args.tables.now = omega arith in
    let at = c.table_at.ensures in
    record {
      len = c.is_on.ensures.len ∙ c.tables.invariant.len;
      within = all_more c.args.tables.now c.tables.k c.table_at.result below at (λ (t : Table). t.0 < tables_of c.args.forest.now.shape) c.tables.invariant.within (c.if-not-is_on.ensures.within refl);
      inputs = all_more c.args.tables.now c.tables.k c.table_at.result below at (InputsOn c.args.forest.now c.args.ins.now) c.tables.invariant.inputs (c.if-not-is_on.ensures.inputs refl);
      outputs = all_more c.args.tables.now c.tables.k c.table_at.result below at (OutputOn c.args.forest.now) c.tables.invariant.outputs (c.if-not-is_on.ensures.output refl);
      seen = outs_more c.args.forest.now c.args.tables.now c.tables.k c.table_at.result below at c.args.ins.now c.tables.invariant.seen (c.if-not-is_on.ensures.sees refl);
    }

pub returns : goal.returns
returns c =
    let whole : length c.args.tables.now ≤ c.tables.k = omega arith in
    λ _. on_all c.tables.k whole c.tables.invariant.within c.tables.invariant.inputs c.tables.invariant.outputs c.tables.invariant.seen
