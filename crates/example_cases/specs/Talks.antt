-- A rig that is asked step by step.
use Rattle.std.specs.Prelude.{◌≡◌, Bool, true, Some, IsSome}
use Rattle.machine_shape.specs.{declared.Shape.Shape, Shape.pins_of}
use Rattle.rig.specs.Rig.{RigState, shape_of, width_of}

-- the rig, and the shape of what is set
pub record Talking (I : Type 0) : Type 0 where
  pub rig : I
  pub shape : Shape

-- where a machine was attached it has this shape, and where a session runs it has its pins
pub record IsUnderWay (m : Shape) (attached runs : Bool) (rig : RigState) : Type 0 where
  pub shape : attached ≡ true → shape_of rig ≡ Some m
  pub session : runs ≡ true → IsSome rig.session
  pub pins : runs ≡ true → width_of rig ≡ Some (pins_of m)
