use Rattle.std.proofs.Common.{◌≡◌, ◌<◌, ℕ, true, Some, None, length, set, ◌∙◌, subst, arith}
use Rattle.place_plan.proofs.Vocabulary.{length-set, step_at, line_at, IsShiftingFor}
use Rattle.place_plan.proofs.Moves.{owned_within, shift_step, place}
use Rattle.place_plan.proofs.search.shift.Goals as goal

pub loop-h-preserved : goal.loop-h-preserved
loop-h-preserved c =
    let steps = c.args.steps.now in
    let old = c.args.owners.now in
    let cur = c.loop-h.owners in
    let h : ℕ = c.loop-h.h in
    let is : IsShiftingFor steps c.args.from c.args.line old cur h c.loop-h.free = c.loop-h.invariant in
    record {
      sized = length-set (set cur c.loop-h.free (Some (step_at steps h).ask)) (step_at steps h).line None ∙ length-set cur c.loop-h.free (Some (step_at steps h).ask) ∙ is.sized;
      step = let l : (step_at steps h).from < h = c.requires.back h c.loop-h-test.true is.step in let k : h < length steps = is.step in omega arith;
      within = owned_within old (step_at steps h).line (step_at steps h).ask (c.requires.owned h c.loop-h-test.true is.step);
      shifting = λ serves lines trail free sized. shift_step serves lines steps old cur h c.loop-h.free trail.back trail.served trail.apart c.loop-h-test.true (is.shifting serves lines trail free sized);
    }

pub returns : goal.returns
returns c =
    let steps = c.args.steps.now in
    let old = c.args.owners.now in
    let cur = c.loop-h.owners in
    let is : IsShiftingFor steps c.args.from c.args.line old cur c.loop-h.h c.loop-h.free = c.loop-h.invariant in
    let z : c.loop-h.h ≡ 0 = omega arith in (
      length-set cur c.loop-h.free (Some (step_at steps 0).ask) ∙ is.sized,
      λ serves lines done trail free sized partial new.
          let s = is.shifting serves lines trail free sized in
          place serves lines done cur c.loop-h.free (step_at steps 0).ask (s.kept done partial) s.empty s.within (subst (λ (h : ℕ). serves (step_at steps h).ask (line_at lines c.loop-h.free) ≡ true) z s.served) new,
    )
