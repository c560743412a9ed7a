use Rattle.std.proofs.Common.{refl}
use Rattle.diag_growth.proofs.{Choosing.far_chosen, Searching.no_place_far, Searching.no_place_arms}
use Rattle.diag_growth.proofs.seats.place_over.Goals as goal

pub returns-in_default-clause-none : goal.returns-in_default-clause-none
returns-in_default-clause-none c = no_place_far refl (far_chosen c.requires.out.fars c.in_default.ensures.first c.in_default.ensures.second).1

pub returns-in_default-2-clause-none : goal.returns-in_default-2-clause-none
returns-in_default-2-clause-none c = no_place_arms (rw c.in_default-2.is at c.in_ok-arms.ensures.none)

pub returns-clause-place : goal.returns-clause-place
returns-clause-place c =
    let chosen = (far_chosen c.requires.out.fars c.in-Some.ensures.first c.in-Some.ensures.second).0 in
    record {
      near_is = refl;
      line_is = refl;
      known = c.requires.out.known;
      far = chosen.0;
      to_line = chosen.1;
      output = c.requires.out.output;
      arms = rw c.in-Some-2.is at c.in_ok-arms.ensures.arms;
    }
