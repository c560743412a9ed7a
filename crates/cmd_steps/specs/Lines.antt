-- The lines that the program writes.
use Rattle.std.specs.Prelude.{ℕ, Bool, List, [], ◌∷◌, ◌++◌, flat_map, codes}
use Rattle.std.specs.Fmt.{decimal}
use Rattle.machine_shape.specs.{declared.Shape.Shape, Names.node_name}
use Rattle.machine_text.specs.declared.kind.MachineKind.{MachineKind}
use Rattle.machine_text.specs.declared.kind.MachineKind.TheVariants as machine
use Rattle.machine_faults.specs.declared.kind.FaultsKind.{FaultsKind}
use Rattle.machine_faults.specs.declared.kind.FaultsKind.TheVariants as faults
use Rattle.machine_defects.specs.declared.kind.DefectsKind.{DefectsKind}
use Rattle.machine_defects.specs.declared.kind.DefectsKind.TheVariants as defects
use Rattle.machine_image.specs.declared.kind.ImageKind.{ImageKind}
use Rattle.machine_image.specs.declared.kind.ImageKind.TheVariants as image
use Rattle.design_netlist.specs.declared.fault.DesignKind.{DesignKind}
use Rattle.design_netlist.specs.declared.fault.DesignKind.TheVariants.{Byte, Word, Unknown, NoModel, SameModel, Row, RowMixed}
use Rattle.design_netlist.specs.declared.fault.DesignKind.TheVariants.{LatchType, LatchInit, Control, Limit, LeftOut}
use Rattle.design_netlist.specs.declared.fault.DesignKind.TheVariants.{NoSuchModel, Formal, Recursive, Doubled, Undriven, Cyclic}
use Rattle.design_vectors.specs.{declared.vectors.VectorKind.VectorKind, Rows.row_line}
use Rattle.design_vectors.specs.declared.vectors.VectorKind.TheVariants.{Char, Width, Limit as VectorLimit}
use Rattle.place_plan.specs.declared.short.{Resource.Resource, Short.Short}
use Rattle.cmd_steps.specs.declared.design_file.DesignFile.{DesignFile, TheVariants.Design, TheVariants.First, TheVariants.Second}
use Rattle.place_plan.specs.declared.short.Resource.TheVariants as resource

-- the byte LF behind a text
abbrev pub as_line : List ℕ → List ℕ
as_line text = text ++ 10 ∷ []

-- the line that stands before the rows
abbrev pub outputs_line : List ℕ
outputs_line = as_line (codes "outputs")

-- that line, and a line for each row
abbrev pub output_text : List (List Bool) → List ℕ
output_text rows = outputs_line ++ flat_map row_line rows

-- the word for what is wrong in the text of a machine
abbrev pub machine_word : MachineKind → List ℕ
machine_word machine.Byte = codes "byte"
machine_word machine.Word = codes "word"
machine_word machine.Order = codes "order"
machine_word machine.Number = codes "number"
machine_word machine.Missing = codes "missing"
machine_word machine.Limit = codes "limit"
machine_word machine.After = codes "after"

-- the word for what is wrong in a text of faults
abbrev pub faults_word : FaultsKind → List ℕ
faults_word faults.Byte = codes "byte"
faults_word faults.Word = codes "word"
faults_word faults.Wire = codes "wire"
faults_word faults.Cross = codes "cross"
faults_word faults.Cell = codes "cell"
faults_word faults.Register = codes "register"
faults_word faults.Same = codes "same"
faults_word faults.Doubled = codes "doubled"
faults_word faults.Against = codes "against"
faults_word faults.Limit = codes "limit"

-- the word for what is wrong in a list of defects
abbrev pub defects_word : DefectsKind → List ℕ
defects_word defects.Word = codes "word"
defects_word defects.Order = codes "order"
defects_word defects.Name = codes "name"
defects_word defects.WrongMachine = codes "machine"
defects_word defects.Doubled = codes "doubled"
defects_word defects.After = codes "after"
defects_word defects.Limit = codes "limit"

-- the word for what is wrong in an image
abbrev pub image_word : ImageKind → List ℕ
image_word image.Magic = codes "magic"
image_word image.Shape = codes "shape"
image_word image.Range = codes "range"
image_word image.Order = codes "order"
image_word image.Short = codes "short"
image_word image.After = codes "after"
image_word image.Limit = codes "limit"

-- the word for what is wrong in a design
abbrev pub design_word : DesignKind → List ℕ
design_word Byte = codes "byte"
design_word Word = codes "word"
design_word Unknown = codes "unknown"
design_word NoModel = codes "nomodel"
design_word SameModel = codes "samemodel"
design_word Row = codes "row"
design_word RowMixed = codes "rowmixed"
design_word LatchType = codes "latchtype"
design_word LatchInit = codes "latchinit"
design_word Control = codes "control"
design_word Limit = codes "limit"
design_word LeftOut = codes "leftout"
design_word (NoSuchModel name) = codes "nosuchmodel"
design_word (Formal name) = codes "formal"
design_word (Recursive name) = codes "recursive"
design_word (Doubled name) = codes "doubled"
design_word (Undriven name) = codes "undriven"
design_word (Cyclic name) = codes "cyclic"

-- a blank and the name, for the kinds that have one
abbrev pub design_name : DesignKind → List ℕ
design_name (NoSuchModel name) = 32 ∷ name
design_name (Formal name) = 32 ∷ name
design_name (Recursive name) = 32 ∷ name
design_name (Doubled name) = 32 ∷ name
design_name (Undriven name) = 32 ∷ name
design_name (Cyclic name) = 32 ∷ name
design_name _ = []

-- the word for what is wrong in a file of vectors
abbrev pub vectors_word : VectorKind → List ℕ
vectors_word Char = codes "char"
vectors_word Width = codes "width"
vectors_word VectorLimit = codes "limit"

-- the refusal of a text: its file, the number of the line, and what is wrong there
abbrev pub text_line : List ℕ → ℕ → List ℕ → List ℕ
text_line file line kind = as_line (codes "refused " ++ file ++ codes " " ++ decimal line ++ codes " " ++ kind)

-- the line of a refused machine
abbrev pub machine_line : ℕ → MachineKind → List ℕ
machine_line line kind = text_line (codes "machine") line (machine_word kind)

-- the line of refused faults
abbrev pub faults_line : ℕ → FaultsKind → List ℕ
faults_line line kind = text_line (codes "faults") line (faults_word kind)

-- the line of a refused list of defects
abbrev pub defects_line : ℕ → DefectsKind → List ℕ
defects_line line kind = text_line (codes "defects") line (defects_word kind)

-- the line of a refused image, whose faults have the place of a byte for a line
abbrev pub image_line : ℕ → ImageKind → List ℕ
image_line line kind = text_line (codes "image") line (image_word kind)

-- the word for a design of a command
abbrev pub file_word : DesignFile → List ℕ
file_word Design = codes "design"
file_word First = codes "first"
file_word Second = codes "second"

-- the line of a refused design
abbrev pub design_line : DesignFile → ℕ → DesignKind → List ℕ
design_line file line kind = text_line (file_word file) line (design_word kind ++ design_name kind)

-- the line of refused vectors
abbrev pub vectors_line : ℕ → VectorKind → List ℕ
vectors_line line kind = text_line (codes "vectors") line (vectors_word kind)

-- the word for what is short
abbrev pub resource_word : Resource → List ℕ
resource_word resource.Tables = codes "tables"
resource_word resource.Pins = codes "pins"
resource_word resource.Ports = codes "ports"
resource_word resource.Lines = codes "lines"

-- the numbers of nets, each behind a blank
abbrev pub nets_text : List ℕ → List ℕ
nets_text nets = flat_map (λ net. 32 ∷ decimal net) nets

-- the refusal for want of room: what is short, at which node of the machine, how many are needed and how many there are,
-- and the nets
abbrev pub room_line : Shape → Short → List ℕ
room_line m s =
    as_line (codes "refused noroom " ++ resource_word s.resource ++ codes " " ++ node_name m s.node.0
    ++ codes " " ++ decimal s.need ++ codes " " ++ decimal s.have ++ nets_text s.nets)
