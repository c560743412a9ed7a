use Rattle.diag_evidence.proofs.Vocabulary.{◌≡◌, ◌<◌, ◌∙◌, ap, arith, pins_of, Kept, All, List, sym, subst, map, false≢true, All-map, crosses_of}
use Rattle.diag_evidence.specs.Hangs.{Foot, IsFoot, over_of, turned, overs, others, all_feet}
use Rattle.diag_evidence.proofs.Hanging.{feet_below, all_are_feet, overs_feet}
use Rattle.diag_evidence.proofs.Tried.{look_over, look_over_logged, three_looks}
use Rattle.std.proofs.lemmas.Result.{err_from_is_err_and}
use Rattle.diag_evidence.proofs.Advancing.{loads_failed, loads_then, loads_well}
use Rattle.diag_evidence.proofs.facts.Facts.view.Goals as goal

pub look-requires-clause-feet : goal.look-requires-clause-feet
look-requires-clause-feet g c =
    subst (λ (feet : List Foot). All (λ foot. foot.1.0 < crosses_of c.args.forest.now.shape) feet) (sym (c.deref.ensures.value ∙ c.requires.plan.all_are))
    (feet_below {trees = c.args.forest.now} (all_feet c.args.hangs.now) (all_are_feet c.args.hangs.now c.requires.over c.requires.other))

pub look-requires-2-clause-feet : goal.look-requires-2-clause-feet
look-requires-2-clause-feet g c =
    subst (λ (feet : List Foot). All (λ foot. foot.1.0 < crosses_of c.args.forest.now.shape) feet) (sym (c.deref-2.ensures.value ∙ c.requires.plan.others_are))
    (feet_below {trees = c.args.forest.now} (others c.args.hangs.now) (overs_feet (map turned c.args.hangs.now) (All-map (λ h. IsFoot c.args.forest.now (over_of h)) turned c.args.hangs.now c.requires.other)))

pub look-requires-3-clause-feet : goal.look-requires-3-clause-feet
look-requires-3-clause-feet g c =
    subst (λ (feet : List Foot). All (λ foot. foot.1.0 < crosses_of c.args.forest.now.shape) feet) (sym (c.deref-3.ensures.value ∙ c.requires.plan.overs_are))
    (feet_below {trees = c.args.forest.now} (overs c.args.hangs.now) (overs_feet c.args.hangs.now c.requires.over))

pub returns-then-not-some_answers-clause-viewed_each : goal.returns-then-not-some_answers-clause-viewed_each
returns-then-not-some_answers-clause-viewed_each g c = λ f e. record {
  all = look_over c.args.forest.now (c.deref.ensures.value ∙ c.requires.plan.all_are) (c.in_ok-look.ensures.looked_each f e);
  answers = sym c.some_answers.ensures ∙ c.if-not-some_answers.true;
  without_over = λ is. absurd (false≢true is);
  without_other = λ is. absurd (false≢true is);
}

pub returns-clause-viewed_each : goal.returns-clause-viewed_each
returns-clause-viewed_each g c = λ f e.
    let second = c.look-3.ensures.loads.narrows f e in
    let first = c.look-2.ensures.loads.narrows f second in
    record {
      all = look_over c.args.forest.now (c.deref.ensures.value ∙ c.requires.plan.all_are) (c.in_ok-look.ensures.looked_each f first);
      answers = sym c.some_answers.ensures ∙ c.if-not-some_answers.false;
      without_over = λ is. look_over c.args.forest.now (c.deref-2.ensures.value ∙ c.requires.plan.others_are) (c.in_ok-look-2.ensures.looked_each f second);
      without_other = λ is. look_over c.args.forest.now (c.deref-3.ensures.value ∙ c.requires.plan.overs_are) (c.in_ok-look-3.ensures.looked_each f e);
    }

pub returns-then-not-some_answers-clause-logged : goal.returns-then-not-some_answers-clause-logged
returns-then-not-some_answers-clause-logged g c = record {
  answers = sym c.some_answers.ensures ∙ c.if-not-some_answers.true;
  once = λ is. look_over_logged c.args.forest.now (c.deref.ensures.value ∙ c.requires.plan.all_are) c.in_ok-look.ensures.logged;
  thrice = λ is. absurd (false≢true is);
}

pub returns-clause-logged : goal.returns-clause-logged
returns-clause-logged g c = record {
  answers = sym c.some_answers.ensures ∙ c.if-not-some_answers.false;
  once = λ is. absurd (false≢true (sym is));
  thrice = λ is. three_looks c.args.forest.now c.args.hangs.now (look_over_logged c.args.forest.now (c.deref.ensures.value ∙ c.requires.plan.all_are) c.in_ok-look.ensures.logged)
      (look_over_logged c.args.forest.now (c.deref-2.ensures.value ∙ c.requires.plan.others_are) c.in_ok-look-2.ensures.logged)
      (look_over_logged c.args.forest.now (c.deref-3.ensures.value ∙ c.requires.plan.overs_are) c.in_ok-look-3.ensures.logged);
}

pub returns-in_err-look-clause-loads : goal.returns-in_err-look-clause-loads
returns-in_err-look-clause-loads g c =
    let p = err_from_is_err_and c.from_residual.result c.from_residual.ensures.1 in
    rw (p.1, p.2) (loads_failed (omega arith) c.in_err-look.ensures.loads)

pub returns-in_err-look-clause-few : goal.returns-in_err-look-clause-few
returns-in_err-look-clause-few g c = c.look.ensures.few

pub returns-in_err-look-clause-made : goal.returns-in_err-look-clause-made
returns-in_err-look-clause-made g c = let most = c.look.ensures.made in omega (arith, most)

pub returns-then-not-some_answers-clause-loads : goal.returns-then-not-some_answers-clause-loads
returns-then-not-some_answers-clause-loads g c = loads_well (omega arith) c.look.ensures.loads

pub returns-then-not-some_answers-clause-few : goal.returns-then-not-some_answers-clause-few
returns-then-not-some_answers-clause-few g c = c.look.ensures.few

pub returns-then-not-some_answers-clause-made : goal.returns-then-not-some_answers-clause-made
returns-then-not-some_answers-clause-made g c = let most = c.look.ensures.made in omega (arith, most)

pub returns-in_err-look-2-clause-loads : goal.returns-in_err-look-2-clause-loads
returns-in_err-look-2-clause-loads g c =
    let p = err_from_is_err_and c.from_residual-in_err-look-2.result c.from_residual-in_err-look-2.ensures.1 in
    rw (p.1, p.2) (loads_failed (omega arith) (loads_then c.look.ensures.loads c.in_err-look-2.ensures.loads))

pub returns-in_err-look-2-clause-few : goal.returns-in_err-look-2-clause-few
returns-in_err-look-2-clause-few g c = λ n k h. c.look-2.ensures.few n k (c.look.ensures.few n k h)

pub returns-in_err-look-2-clause-made : goal.returns-in_err-look-2-clause-made
returns-in_err-look-2-clause-made g c =
    let same : pins_of c.look.new.self.shape ≡ pins_of c.args.self.now.shape = ap (λ (k : Kept). pins_of k.shape) c.look.ensures.same in
    let first = c.look.ensures.made in let second = c.look-2.ensures.made in omega (arith, first, second, same)

pub returns-in_err-look-3-clause-loads : goal.returns-in_err-look-3-clause-loads
returns-in_err-look-3-clause-loads g c =
    let p = err_from_is_err_and c.from_residual-in_err-look-3.result c.from_residual-in_err-look-3.ensures.1 in
    rw (p.1, p.2) (loads_failed (omega arith) (loads_then (loads_then c.look.ensures.loads c.look-2.ensures.loads) c.in_err-look-3.ensures.loads))

pub returns-in_err-look-3-clause-few : goal.returns-in_err-look-3-clause-few
returns-in_err-look-3-clause-few g c = λ n k h. c.look-3.ensures.few n k (c.look-2.ensures.few n k (c.look.ensures.few n k h))

pub returns-in_err-look-3-clause-made : goal.returns-in_err-look-3-clause-made
returns-in_err-look-3-clause-made g c =
    let same : pins_of c.look.new.self.shape ≡ pins_of c.args.self.now.shape = ap (λ (k : Kept). pins_of k.shape) c.look.ensures.same in
    let also : pins_of c.look-2.new.self.shape ≡ pins_of c.look.new.self.shape = ap (λ (k : Kept). pins_of k.shape) c.look-2.ensures.same in
    let first = c.look.ensures.made in let second = c.look-2.ensures.made in let third = c.look-3.ensures.made in omega (arith, first, second, third, same, also)

pub returns-clause-loads : goal.returns-clause-loads
returns-clause-loads g c = loads_well (omega arith) (loads_then (loads_then c.look.ensures.loads c.look-2.ensures.loads) c.look-3.ensures.loads)

pub returns-clause-few : goal.returns-clause-few
returns-clause-few g c = λ n k h. c.look-3.ensures.few n k (c.look-2.ensures.few n k (c.look.ensures.few n k h))

pub returns-clause-made : goal.returns-clause-made
returns-clause-made g c =
    let same : pins_of c.look.new.self.shape ≡ pins_of c.args.self.now.shape = ap (λ (k : Kept). pins_of k.shape) c.look.ensures.same in
    let also : pins_of c.look-2.new.self.shape ≡ pins_of c.look.new.self.shape = ap (λ (k : Kept). pins_of k.shape) c.look-2.ensures.same in
    let first = c.look.ensures.made in let second = c.look-2.ensures.made in let third = c.look-3.ensures.made in omega (arith, first, second, third, same, also)
