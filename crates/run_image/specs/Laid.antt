-- What is laid on a machine: one design, or several side by side.
use Rattle.std.specs.Prelude.{◌≡◌, ◌≤◌, ℕ, Bool, List, length}
use Rattle.base_io.specs.Vocabulary.{Told, Rose, StoreState}
use Rattle.machine_meaning.specs.Vocabulary.{Covers, Faults}
use Rattle.machine_defects.specs.Lists.{DefectList}
use Rattle.machine_image.specs.Vocabulary.{ImageValue, IsImage, IsFreeImage}
use Rattle.place_route.specs.RightImages.{ReadsRows}
use Rattle.rig.specs.Rig.{RigState, Explains}
use Rattle.cmd_steps.specs.Courses.{Step, RowWork}
use Rattle.run_image.specs.Copying.{share, all_repeated, AreEqualShares}
use Rattle.run_image.specs.{Rows.most_rows, Rows.AreRowsOf, Rows.IsSession, Rows.DiffersBehind, declared.copies.Copies.Copies}

-- how it is laid on what a list leaves free, how many copies there are that are driven alike, how many bits a vector of one copy has,
-- and what the rows of all copies are
pub record Laid : Type 1 where
  pub lays : DefectList → Step ImageValue
  pub copies : Copies
  pub width : ℕ
  pub rows : (vectors rows : List (List Bool)) → Type 0

-- The image is of the machine, has a pin of each copy for each bit of a vector, and touches only what the list leaves free. Under all
-- faults that the list covers it reads the rows
pub record IsLaidOn (w : Laid) (d : DefectList) (i : ImageValue) : Type 0 where
  pub image : IsImage i
  pub shape : i.config.shape ≡ d.shape
  pub shares : AreEqualShares w.copies i
  pub inputs : share w.copies (length i.inputs) ≡ w.width
  pub free : IsFreeImage d.list i
  pub right : (f : Faults) → Covers d.shape d.list f → ReadsRows f i w.rows

-- the rows are those of the image; if any set of faults explains what was read, they are those of what was laid
pub record AreLaidRows (w : Laid) (rig : RigState) (i : ImageValue) (vectors rows : List (List Bool)) : Type 0 where
  pub read : AreRowsOf rig i vectors rows
  pub right : (f : Faults) → Explains f rig → w.rows vectors rows

-- the rig had failed so many times as the command began
abbrev pub rows_work : Laid → ImageValue → Told → StoreState → (failures : ℕ) → RigState → RowWork
rows_work w i told store failures rig = record {
  width = share w.copies (length i.inputs);
  told = told;
  store = store;
  are = λ vectors rows. AreLaidRows w rig i (all_repeated w.copies vectors) (all_repeated w.copies rows);
  session = λ vectors rows. IsSession rig i (all_repeated w.copies vectors) (all_repeated w.copies rows);
  differs = λ vectors rows. DiffersBehind w.copies told i rig vectors rows;
  lost = Rose failures rig.failures;
  lacks = λ count. most_rows ≤ count;
}
