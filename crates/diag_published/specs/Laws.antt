-- The laws of the numbering, and of sound wires, that this crate rests on.
use Rattle.machine_shape.specs.declared.Shape.{Shape}
use Rattle.machine_shape.specs.Vocabulary.{IsNumbered, IsTree, HasParents, HasTaps, HasCrosses, HasMeetings, HasRows, HasHomes, HasSites}
use Rattle.machine_meaning.specs.Served.{HasServed}

pub record AreLaws (m : Shape) : Type 0 where
  pub numbered : IsNumbered m
  pub tree : IsTree m
  pub parents : HasParents m
  pub taps : HasTaps m
  pub crosses : HasCrosses m
  pub meetings : HasMeetings m
  pub rows : HasRows m
  pub homes : HasHomes m
  pub served : HasServed m
  pub sites : HasSites m
