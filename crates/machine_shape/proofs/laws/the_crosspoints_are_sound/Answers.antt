use Rattle.machine_shape.proofs.Crossings as crossings
use Rattle.machine_shape.proofs.Tapped as tapped
use Rattle.machine_shape.proofs.Vocabulary.{Shape, HasTaps, HasCrosses}
use Rattle.machine_shape.proofs.TapsAndLines.{has_meetings}
use Rattle.machine_shape.proofs.laws.the_crosspoints_are_sound.Goals as goal

has_crosses : (m : Shape) → HasCrosses m
has_crosses m = record {
  node = λ k h. (crossings.crossed m k h).node;
  tap = λ k h. (crossings.crossed m k h).tap;
  line = λ k h. (crossings.crossed m k h).line;
  back = λ k h. (crossings.crossed m k h).back;
  within = crossings.cross_below m;
  at_node = crossings.node_of_cross-at m;
  ends = crossings.ends_of-at m;
  one = crossings.one_cross m;
}

has_taps : (m : Shape) → HasTaps m
has_taps m = record {
  is_tap = tapped.position_is_tap m;
  has_position = tapped.tap_has_position m;
  ascend = crossings.taps_ascend m;
  within = crossings.tap_below m;
}

pub returns-clause-crosses : goal.returns-clause-crosses
returns-clause-crosses c = has_crosses

pub returns-clause-taps : goal.returns-clause-taps
returns-clause-taps c = has_taps

pub returns-clause-meetings : goal.returns-clause-meetings
returns-clause-meetings c = λ m. has_meetings m (has_taps m) (has_crosses m)
