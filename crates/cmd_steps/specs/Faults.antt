-- Where a text is wrong, and where a machine is short of a resource.
use Rattle.std.specs.Prelude.{ℕ}
use Rattle.machine_shape.specs.declared.Shape.{Shape}
use Rattle.design_netlist.specs.declared.fault.DesignKind.{DesignKind}
use Rattle.place_plan.specs.declared.short.Short.{Short}
use Rattle.cmd_steps.specs.declared.design_file.DesignFile.{DesignFile}

-- what is wrong with a design, and on which line: 0 stands for the file as a whole
pub record DesignPlace : Type 0 where
  -- which of the designs of a command
  pub file : DesignFile
  pub line : ℕ
  pub kind : DesignKind

-- what is short on a machine of this shape
pub record ShortPlace : Type 0 where
  pub shape : Shape
  pub short : Short
