-- The defects of a machine are listed and the list is written; something is laid on what it leaves free, and its rows are written.
use Rattle.std.specs.Prelude.{◌≡◌, ℕ, List, ◌++◌}
use Rattle.base_io.specs.Store.{StoreState}
use Rattle.machine_shape.specs.declared.Shape.{Shape}
use Rattle.machine_defects.specs.Vocabulary.{DefectList, IsDefectList, text_of}
use Rattle.machine_image.specs.Images.{ImageValue}
use Rattle.cmd_steps.specs.Vocabulary.{outputs_line, Around, StandsIn, Course, after, write}
use Rattle.rig.specs.Rig.{RigState}
use Rattle.diag_list.specs.Lists.{IsListed, Listed, lists}
use Rattle.run_image.specs.{Rows.image_course, Laid.Laid, Laid.rows_work}

-- where the list is made: the store as the command began, and how often the rig had failed then, the files that were read since,
-- the last first, and the file of vectors
pub record RunBegin : Type 0 where
  pub begun : StoreState
  pub failures : ℕ
  pub files : List (List ℕ)
  pub vectors : List ℕ

-- where the store stands, and no load follows on those that the list took
abbrev pub HasStayed : RunBegin → Listed → Around → Type 0
HasStayed b l new = StandsIn b.files b.begun new.store × (new.rig.loads ≡ l.loads)

-- The image is loaded by one load more, and its rows, which are those of what was laid, are written
abbrev pub image_run : Laid → RunBegin → (new : Around) → Listed → ImageValue → Course
image_run w b new l i =
    image_course (rows_work w i (b.begun.contents b.vectors) new.store b.failures new.rig)
    (record { image = i; vectors = b.vectors; files = b.files; begun = b.begun; before = l.loads }) new

-- the rig's machine is listed so, whatever its shape
abbrev pub HasList : (before : ℕ) → RigState → Listed → Type 0
HasList before rig l = (m : Shape) × IsListed m before rig l

-- It is laid on what the list leaves free, and the image is run
abbrev pub laid_run : Laid → RunBegin → (new : Around) → Listed → Course
laid_run w b new l = after (w.lays l.list) (HasStayed b l new) (image_run w b new l)

-- The list is written, and it is laid
abbrev pub list_written : Laid → RunBegin → (new : Around) → Listed → Course
list_written w b new l = write (text_of l.list) (HasStayed b l new) (laid_run w b new l)

-- The defects of the machine are listed, whose rig counted so many loads before, and the list is written
abbrev pub machine_listed : Laid → Shape → (before : ℕ) → RunBegin → (new : Around) → Course
machine_listed w m before b new = after (lists m before new.rig) (StandsIn b.files b.begun new.store) (list_written w b new)

-- ---- what stands written

-- if that is the text of a list of the machine's defects, the list has P
abbrev pub IfList : Shape → (front : List ℕ) → (DefectList → Type 0) → Type 0
IfList m front P = (d : DefectList) → d.shape ≡ m → IsDefectList d → front ≡ text_of d → P d

-- the line `outputs` stands behind a list of the machine's defects
pub record HasOutputs (is_shape : Shape → Type 0) (text : List ℕ) : Type 0 where
  pub list : DefectList
  pub shape : is_shape list.shape
  pub right : IsDefectList list
  pub more : List ℕ
  pub text_is : text ≡ text_of list ++ (outputs_line ++ more)
