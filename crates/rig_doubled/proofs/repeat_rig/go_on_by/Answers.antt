use Rattle.rig_doubled.proofs.Vocabulary.{Option, IfSome, subst, pins_of, Kept, IsOfSession}
use Rattle.rig_doubled.proofs.{Keeping.wide_still, Repeating.goes_kept_by, Repeating.wide_rows}
use Rattle.rig_doubled.proofs.repeat_rig.go_on_by.Goals as goal

pub add_all-requires-clause-read_pins : goal.add_all-requires-clause-read_pins
add_all-requires-clause-read_pins g c =
    let old = g.R.Rig.rig_state c.args.inner.now in
    let k = c.in-Some.kept in
    let s : IsOfSession k old = subst (λ (o : Option Kept). IfSome o (λ k. IsOfSession k old)) c.in-Some.is c.requires.kept in
    wide_still (pins_of k.config.config.shape) c.args.reads.now c.cycles.new.reads c.cycles.ensures.lengths (wide_rows old k.config.config c.args.reads.now s.config c.requires.read_pins)

pub returns-in-Some-clause-kept : goal.returns-in-Some-clause-kept
returns-in-Some-clause-kept g c =
    let old = g.R.Rig.rig_state c.args.inner.now in
    let k = c.in-Some.kept in
    let s : IsOfSession k old = subst (λ (o : Option Kept). IfSome o (λ k. IsOfSession k old)) c.in-Some.is c.requires.kept in
    record {
      held = goes_kept_by k c.add_all.new.self c.args.drives.now c.cycles.new.reads old (g.R.Rig.rig_state c.cycles.new.self) s c.in-Ok.ensures.cycles c.in-Ok.ensures.machine c.add_all.ensures.config c.add_all.ensures.kept;
      dropped = λ e. absurd (let no : ⊥ = cc in no);
    }
