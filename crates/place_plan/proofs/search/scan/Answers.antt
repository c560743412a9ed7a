use Rattle.place_plan.proofs.Vocabulary.{◌≡◌, ◌++◌, [], ◌∷◌, length, sym, ap, ◌∙◌, subst, false≢true, AskWithin}
use Rattle.place_plan.proofs.{Asking.push_asks, Trails.scan_push, Trails.scan_skip}
use Rattle.place_plan.proofs.search.scan.Goals as goal
use Rattle.place_plan.proofs.search.scan.Goals.{then-not-seen-j+then-serves_at+in-Some+in_ok-push-in-Some, else-not-seen-j, else-not-seen-j-via-then-not-seen-j+else-serves_at, else-not-seen-j-via-else-not-seen-j}

pub loop-j-preserved : goal.loop-j-preserved
loop-j-preserved c = elim c.if-not-seen-j.branch [
  | then-not-seen-j+then-serves_at+in-Some+in_ok-push-in-Some w ↦
      let e : c.if-not-seen-j.steps.items ≡ c.loop-j.steps.items ++ record { ask = w.in-Some.owner; line = c.loop-j.j; from = c.args.h } ∷ [] = ap (λ v. v.items) w.steps-is ∙ (w.in_ok-push-in-Some.ensures {u = tt}).items in
      record {
        scanning = rw (e, w.seen-is) (scan_push _ _ _ _ _ _ _ _ _ _ c.loop-j.invariant.scanning c.requires.step c.loop-j-test.true w.in-Some.is (sym (w.if-serves_at.ensures {u = tt})) w.if-not-seen-j.true);
        asks = subst (AskWithin (length c.args.site.now.asks.now)) (sym e) (push_asks (length c.args.site.now.asks.now) c.loop-j.steps.items (record { ask = w.in-Some.owner; line = c.loop-j.j; from = c.args.h }) c.loop-j.invariant.asks (c.requires.own c.loop-j.j w.in-Some.owner w.in-Some.is));
      }
  | else-not-seen-j w ↦ record {
    scanning = elim w.else-not-seen-j.branch [
      | else-not-seen-j-via-then-not-seen-j+else-serves_at w' ↦ rw (ap (λ v. v.items) w.steps-is, w.seen-is) (scan_skip _ _ _ _ _ _ _ _ _ c.loop-j.invariant.scanning (λ e. absurd (false≢true ((w'.if-serves_at.ensures {u = tt}) ∙ e))))
      | else-not-seen-j-via-else-not-seen-j w' ↦ rw (ap (λ v. v.items) w.steps-is, w.seen-is) (scan_skip _ _ _ _ _ _ _ _ _ c.loop-j.invariant.scanning (λ _. w'.if-not-seen-j.false))
    ];
    asks = subst (AskWithin (length c.args.site.now.asks.now)) (sym (ap (λ v. v.items) w.steps-is)) c.loop-j.invariant.asks;
  }
]
