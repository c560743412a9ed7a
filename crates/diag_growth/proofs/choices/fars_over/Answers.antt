use Rattle.diag_growth.proofs.Choosing.{no_far_at}
use Rattle.diag_growth.proofs.choices.fars_over.Goals as goal

pub returns-in_default-clause-none : goal.returns-in_default-clause-none
returns-in_default-clause-none c = no_far_at (c.the_numbering_is_sound.ensures.tree c.args.facts.now.shape) c.requires.is_line c.in_default.ensures.none

pub returns-clause-fars : goal.returns-clause-fars
returns-clause-fars c = record {
  first = c.in-Some.ensures.far.0;
  meets = c.in-Some.ensures.far.1;
  second = c.find_far-second.ensures.far;
  none = c.find_far-second.ensures.none;
}
