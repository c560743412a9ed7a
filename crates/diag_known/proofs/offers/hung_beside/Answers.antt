use Rattle.diag_known.proofs.Vocabulary.{List, refl, subst, HangsOnNone, Support}
use Rattle.diag_known.proofs.offers.hung_beside.Goals as goal

pub returns-then-not-is_hung-clause-none : goal.returns-then-not-is_hung-clause-none
returns-then-not-is_hung-clause-none c = record {
  rs = c.find_reached.new.reaches.items;
  all = c.in_ok-find_reached.ensures.all;
  none = subst (λ (links : List Support). HangsOnNone c.find_reached.new.reaches.items links) c.deref.ensures.value (c.if-not-is_hung.ensures.none refl);
}
