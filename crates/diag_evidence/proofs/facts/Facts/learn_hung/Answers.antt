use Rattle.diag_evidence.proofs.Vocabulary.{◌≡◌, ◌<◌, ◌∙◌, All, List, Bool, sym, ap, subst, map, All-map, WireTest}
use Rattle.diag_evidence.specs.Vocabulary.{Kept, Gains, Foot, IsFoot, HasMarked, over_of, pin_at, turned, overs, others, shown, seen_on, joined_by}
use Rattle.diag_evidence.proofs.Hanging.{overs_feet, shown_feet}
use Rattle.diag_evidence.proofs.facts.Facts.learn_hung.Goals as goal

pub shown-requires-clause-over : goal.shown-requires-clause-over
shown-requires-clause-over c =
    subst (λ (hs : List WireTest). All (λ h. IsFoot c.args.forest.now (over_of h)) hs) (sym (c.deref.ensures.value ∙ c.requires.plan.turned_are))
    (All-map (λ h. IsFoot c.args.forest.now (over_of h)) turned c.args.hangs.now c.requires.other)

pub shown-requires-clause-other : goal.shown-requires-clause-other
shown-requires-clause-other c =
    subst (λ (hs : List WireTest). All (λ h. IsFoot c.args.forest.now (over_of (turned h))) hs) (sym (c.deref.ensures.value ∙ c.requires.plan.turned_are))
    (All-map (λ h. IsFoot c.args.forest.now (over_of (turned h))) turned c.args.hangs.now c.requires.over)

pub shown-requires-clause-pins : goal.shown-requires-clause-pins
shown-requires-clause-pins c =
    c.deref-2.ensures.value ∙ c.in_ok-pins.ensures.other ∙ ap (λ (hs : List WireTest). map (pin_at c.args.forest.now) (overs hs)) (sym (c.deref.ensures.value ∙ c.requires.plan.turned_are))

pub mark_unfit-requires-clause-pins : goal.mark_unfit-requires-clause-pins
mark_unfit-requires-clause-pins c = c.deref-5.ensures.value ∙ c.in_ok-pins.ensures.other ∙ ap (map (pin_at c.args.forest.now)) (sym (c.deref-4.ensures.value ∙ c.requires.plan.others_are))

pub mark_unfit-requires-2-clause-pins : goal.mark_unfit-requires-2-clause-pins
mark_unfit-requires-2-clause-pins c = c.deref-7.ensures.value ∙ c.in_ok-pins.ensures.over ∙ ap (map (pin_at c.args.forest.now)) (sym (c.deref-6.ensures.value ∙ c.requires.plan.overs_are))

pub mark_unfit-requires-clause-feet : goal.mark_unfit-requires-clause-feet
mark_unfit-requires-clause-feet c =
    subst (λ (feet : List Foot). All (IsFoot c.args.forest.now) feet) (sym (c.deref-4.ensures.value ∙ c.requires.plan.others_are))
    (overs_feet (map turned c.args.hangs.now) (All-map (λ h. IsFoot c.args.forest.now (over_of h)) turned c.args.hangs.now c.requires.other))

pub mark_unfit-requires-2-clause-feet : goal.mark_unfit-requires-2-clause-feet
mark_unfit-requires-2-clause-feet c =
    subst (λ (feet : List Foot). All (IsFoot c.args.forest.now) feet) (sym (c.deref-6.ensures.value ∙ c.requires.plan.overs_are)) (overs_feet c.args.hangs.now c.requires.over)

pub keep_feet-requires-clause-feet : goal.keep_feet-requires-clause-feet
keep_feet-requires-clause-feet c =
    subst (λ (feet : List Foot). All (IsFoot c.args.forest.now) feet) (sym (c.deref-8.ensures.value ∙ c.in_ok-others.ensures ∙ ap (λ (hs : List WireTest). shown c.args.forest.now hs c.args.views.now.all.rows c.args.views.now.without_other.rows) (c.deref.ensures.value ∙ c.requires.plan.turned_are)))
    (shown_feet (map turned c.args.hangs.now) c.args.views.now.all.rows c.args.views.now.without_other.rows (All-map (λ h. IsFoot c.args.forest.now (over_of h)) turned c.args.hangs.now c.requires.other))

pub keep_feet-requires-2-clause-feet : goal.keep_feet-requires-2-clause-feet
keep_feet-requires-2-clause-feet c =
    subst (λ (feet : List Foot). All (IsFoot c.args.forest.now) feet) (sym (c.deref-9.ensures.value ∙ c.in_ok-overs.ensures))
    (shown_feet c.args.hangs.now c.args.views.now.all.rows c.args.views.now.without_over.rows c.requires.over)

pub returns-clause-learnt : goal.returns-clause-learnt
returns-clause-learnt c =
    let trees = c.args.forest.now in
    let hs = c.args.hangs.now in
    let views = c.args.views.now in
    let first_feet = c.deref-8.ensures.value ∙ c.in_ok-others.ensures ∙ ap (λ (hs : List WireTest). shown trees hs views.all.rows views.without_other.rows) (c.deref.ensures.value ∙ c.requires.plan.turned_are) in
    let second_feet = c.deref-9.ensures.value ∙ c.in_ok-overs.ensures in
    let gained : Gains (seen_on trees c.deref-8.result.now views.without_over.rows) c.args.self.now c.keep_feet.new.self = c.keep_feet.ensures in
    let gained_too : Gains (seen_on trees c.deref-9.result.now views.without_other.rows) c.keep_feet.new.self c.keep_feet-2.new.self = c.keep_feet-2.ensures in
    let joins : Gains (joined_by c.keep_feet-2.new.self.apart trees hs views.all.rows views.without_over.rows views.without_other.rows) c.keep_feet-2.new.self c.keep_joined.new.self = c.keep_joined.ensures in
    record {
      mid = c.keep_feet.new.self;
      near = c.keep_feet-2.new.self;
      first = subst (λ (feet : List Foot). Gains (seen_on trees feet views.without_over.rows) c.args.self.now c.keep_feet.new.self) first_feet gained;
      third = joins;
      second = subst (λ (feet : List Foot). Gains (seen_on trees feet views.without_other.rows) c.keep_feet.new.self c.keep_feet-2.new.self) second_feet gained_too;
      some = c.mark_unfit.new.unfit;
      few = c.mark_unfit.new.unclear;
      first_marks = subst (λ (feet : List Foot). HasMarked trees feet views.without_over.rows c.args.unfit.now c.mark_unfit.new.unfit c.args.unclear.now c.mark_unfit.new.unclear) (c.deref-4.ensures.value ∙ c.requires.plan.others_are) c.mark_unfit.ensures.marked;
      second_marks = subst (λ (feet : List Foot). HasMarked trees feet views.without_other.rows c.mark_unfit.new.unfit c.mark_unfit-2.new.unfit c.mark_unfit.new.unclear c.mark_unfit-2.new.unclear) (c.deref-6.ensures.value ∙ c.requires.plan.overs_are) c.mark_unfit-2.ensures.marked;
    }
