use Rattle.diag_evidence.proofs.Vocabulary.{◌∙◌, List, All, All-map, ap, map, subst, sym, Foot, IsFoot, over_of, pin_at, turned}
use Rattle.diag_evidence.proofs.Hanging.{overs_feet}
use Rattle.diag_evidence.proofs.hangs.pins_of_hangs.Goals as goal

pub pins_at-requires : goal.pins_at-requires
pins_at-requires c =
    subst (λ (feet : List Foot). All (IsFoot c.args.forest.now) feet) (sym (c.deref.ensures.value ∙ c.requires.overs)) (overs_feet c.args.hangs.now c.requires.over)

pub pins_at-requires-2 : goal.pins_at-requires-2
pins_at-requires-2 c =
    subst (λ (feet : List Foot). All (IsFoot c.args.forest.now) feet) (sym (c.deref-2.ensures.value ∙ c.requires.others))
    (overs_feet (map turned c.args.hangs.now) (All-map (λ h. IsFoot c.args.forest.now (over_of h)) turned c.args.hangs.now c.requires.other))

pub returns : goal.returns
returns c = record {
  over = c.in_ok-over.ensures ∙ ap (map (pin_at c.args.forest.now)) (c.deref.ensures.value ∙ c.requires.overs);
  other = c.in_ok-other.ensures ∙ ap (map (pin_at c.args.forest.now)) (c.deref-2.ensures.value ∙ c.requires.others);
}
