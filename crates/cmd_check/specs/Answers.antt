-- What a check answers: what a list of defects says of an image, the line that says so, and what that is worth.
use Rattle.std.specs.Prelude.{◌≡◌, ℕ, ◌<◌, true, List, ◌++◌, IsSome, codes}
use Rattle.machine_shape.specs.declared.Shape.{Shape}
use Rattle.machine_shape.specs.Vocabulary.{wires_of, crosses_of, tables_of, ends_of, node_of, node_of_cross, hextant_of, wire_name}
use Rattle.machine_shape.specs.Vocabulary.{table_name}
use Rattle.machine_meaning.specs.Vocabulary.{Faults, IsSoundWire, IsSoundCross, IsSoundTable, IsServed, Defects, IsFreeWire, IsFreeCross}
use Rattle.machine_meaning.specs.Vocabulary.{IsFreeTable, Covers, IsOfUse, IsSeated, IsSoundCrossOf, IsStanding, IsTight}
use Rattle.machine_defects.specs.Lists.{DefectList}
use Rattle.machine_config.specs.Configuration.{is_closed, setting_of}
use Rattle.machine_image.specs.Vocabulary.{ImageValue, IsFreeImage, Uses}
use Rattle.diag_check.specs.Soundly.{IsSoundUnder}
use Rattle.cmd_steps.specs.Lines.{as_line}
use Rattle.cmd_check.specs.declared.answer.Answer.{Answer, TheVariants.Sound, TheVariants.Wire, TheVariants.Cross, TheVariants.Table}

-- ---- by a list

-- the first of these that isn't free
pub record IsFirstOf (are free : ℕ → Type 0) (x : ℕ) : Type 0 where
  pub itself : are x
  pub not_free : ¬ free x
  pub before : (y : ℕ) → y < x → are y → free y

-- all of these are free
abbrev pub AreFree : (are free : ℕ → Type 0) → Type 0
AreFree are free = (x : ℕ) → are x → free x

-- the wires that an image uses, its closed crosspoints and its switched-on tables
abbrev pub WiresAreFree : Defects → ImageValue → Type 0
WiresAreFree d i = AreFree (Uses i) (IsFreeWire d)

abbrev pub CrossesAreFree : Defects → ImageValue → Type 0
CrossesAreFree d i = AreFree (λ x. is_closed i.config x ≡ true) (IsFreeCross i.config.shape d)

-- The image touches nothing that is listed; or this is the first part of it that isn't free, of its wires, then of its closed
-- crosspoints, then of its switched-on tables
abbrev pub IsByList : Defects → ImageValue → Answer → Type 0
IsByList d i Sound = IsFreeImage d i
IsByList d i (Wire w) = IsFirstOf (Uses i) (IsFreeWire d) w.0
IsByList d i (Cross x) = WiresAreFree d i × IsFirstOf (λ y. is_closed i.config y ≡ true) (IsFreeCross i.config.shape d) x.0
IsByList d i (Table t) = WiresAreFree d i × CrossesAreFree d i
    × IsFirstOf (λ u. IsSome (setting_of i.config u)) (IsFreeTable i.config.shape d) t.0

-- ---- what it is worth

-- the wire doesn't stand, and isn't a sound one of use of a served node
pub record IsDoubtfulWire (m : Shape) (f : Faults) (w : ℕ) : Type 0 where
  pub not_standing : ¬ IsStanding m f w
  pub not_served : ¬ (IsSoundWire m f w × IsServed m f (node_of m w) × IsOfUse m f w)

-- the crosspoint isn't a sound one between standing wires, nor of a served node
pub record IsDoubtfulCross (m : Shape) (f : Faults) (x : ℕ) : Type 0 where
  pub not_standing : ¬ (IsSoundCross m f x × IsStanding m f (ends_of m x).0 × IsStanding m f (ends_of m x).1)
  pub not_served : ¬ (IsSoundCross m f x × IsServed m f (node_of_cross m x))

-- the table isn't a sound one that is seated among standing wires, nor of a served node
pub record IsDoubtfulTable (m : Shape) (f : Faults) (t : ℕ) : Type 0 where
  pub not_standing : ¬ (IsSoundTable m f t × IsSeated m (IsStanding m f) (IsSoundCrossOf m f) t)
  pub not_served : ¬ (IsSoundTable m f t × IsServed m f (hextant_of m t))

-- These faults leave the image alone, and it runs soundly under them; or the part that is named isn't sound, or is out of reach
abbrev pub IsTrueUnder : Faults → ImageValue → Answer → Type 0
IsTrueUnder f i Sound = IsSoundUnder f i
IsTrueUnder f i (Wire w) = IsDoubtfulWire i.config.shape f w.0
IsTrueUnder f i (Cross x) = IsDoubtfulCross i.config.shape f x.0
IsTrueUnder f i (Table t) = IsDoubtfulTable i.config.shape f t.0

-- The list says so, and it is true under all faults that the list covers and is tight to
pub record IsAnswer (d : DefectList) (i : ImageValue) (a : Answer) : Type 0 where
  pub by_list : IsByList d.list i a
  pub right : (f : Faults) → Covers d.shape d.list f → IsTight d.shape d.list f → IsTrueUnder f i a

-- ---- the line

-- the part is one of the machine
abbrev pub IsOfMachine : Shape → Answer → Type 0
IsOfMachine m Sound = Unit {0}
IsOfMachine m (Wire w) = w.0 < wires_of m
IsOfMachine m (Cross x) = x.0 < crosses_of m
IsOfMachine m (Table t) = t.0 < tables_of m

-- a crosspoint stands by its tap and its line
abbrev pub answer_line : Shape → Answer → List ℕ
answer_line m Sound = as_line (codes "sound")
answer_line m (Wire w) = as_line (codes "doubt wire " ++ wire_name m w.0)
answer_line m (Cross x) = as_line (codes "doubt cross " ++ wire_name m (ends_of m x.0).0 ++ codes " " ++ wire_name m (ends_of m x.0).1)
answer_line m (Table t) = as_line (codes "doubt table " ++ table_name m t.0)
