-- What the command `bench` is.
use Rattle.std.specs.Prelude.{◌≡◌, ℕ, ◌-◌, ◌%◌, ◌==◌, ◌≤◌, Bool, if◌then◌else◌, List, [], ◌∷◌, map, length, sum_by, Some}
use Rattle.std.specs.{List.range_with_len, Fmt.decimal}
use Rattle.base_io.specs.Counts.{next_count}
use Rattle.machine_shape.specs.declared.Shape.{Shape}
use Rattle.machine_meaning.specs.Faults.{Faults}
use Rattle.design_netlist.specs.declared.netlist_data.NetlistData.{NetlistData}
use Rattle.design_blif.specs.Designs.{IsDesign}
use Rattle.map_network.specs.Plain.{plain_network}
use Rattle.place_plan.specs.Plans.{nets_in}
use Rattle.machine_image.specs.Images.{ImageValue, drive_of, image_row}
use Rattle.rig.specs.Rig.{RigState, Explains, Asked, config_of, cycles_of, drives_of, readings_of}
use Rattle.run_image.specs.{Pins.Rows, Run.RunsRow}
use Rattle.machine_bench.specs.Work as work
use Rattle.machine_bench.specs.Faults.{AreBenchFaults}
use Rattle.cmd_steps.specs.Vocabulary.{Around, Course, Step, after, write, done, attaches, AsksMachine, LoadsOnce, Job}
use Rattle.cmd_steps.specs.declared.refusal.Refusal.{Refusal}
use Rattle.cmd_steps.specs.declared.refusal.Refusal.TheVariants as refused
use Rattle.diag_list.specs.Lists.{Listed, lists}
use Rattle.place_design.specs.Laying.{lays}
use Rattle.cmd_bench.specs.Summary.{summary_text}

-- how many vectors there are
abbrev pub bench_rows : ℕ
bench_rows = 64

-- the name of the faults that a number makes
abbrev pub generated_name : ℕ → List ℕ
generated_name n = 64 ∷ decimal n

-- one bit, at vector k
abbrev pub bench_vector : ℕ → ℕ → List Bool
bench_vector n k = (k % 3 == n % 3) ∷ []

-- the first vectors, and all of them
abbrev pub first_vectors : ℕ → ℕ → List (List Bool)
first_vectors n count = map (bench_vector n) (range_with_len 0 count)

abbrev pub bench_vectors : ℕ → List (List Bool)
bench_vectors n = first_vectors n bench_rows

-- how many ones there are
abbrev pub one_of : Bool → ℕ
one_of b = if b then 1 else 0

abbrev pub ones_in : List Bool → ℕ
ones_in row = sum_by one_of row

abbrev pub ones_of : List (List Bool) → ℕ
ones_of rows = sum_by ones_in rows

-- ---- the machine and the design

abbrev pub OnlyMemory : Refusal → Type 0
OnlyMemory refused.Memory = Unit {0}
OnlyMemory refusal = ⊥

-- memory may be wanting for its name
abbrev pub makes_shape : Step Shape
makes_shape = record { stops = OnlyMemory; gives = λ m. m.counts ≡ work.bench_counts }

abbrev pub makes_design : Step NetlistData
makes_design = record { stops = OnlyMemory; gives = IsDesign work.bench_design }

-- the machine of a shape, under the name of the number
abbrev pub bench_machine : ℕ → Shape → Asked
bench_machine n m = record { shape = m; name = generated_name n }

-- ---- the rows

-- The rig's session is the image's: it has a cycle for each of the vectors, which it drove on the input pin, and these are the
-- ones that it read at the two output pins. It took one load more than so many before
pub record IsBenchRun (n : ℕ) (i : ImageValue) (before : ℕ) (rig : RigState) (ones : ℕ) : Type 0 where
  pub config : config_of rig ≡ Some i.config
  pub drives : drives_of (cycles_of rig) ≡ map (drive_of i) (bench_vectors n)
  pub ones_are : ones ≡ ones_of (map (image_row i) (readings_of (cycles_of rig)))
  pub loads : rig.loads ≡ next_count before

-- one row was read, which has so many ones
pub record RunsOnes (r : Rows) (vector : List Bool) (old new : RigState) (ones : ℕ) : Type 0 where
  pub row : List Bool
  pub read : RunsRow r old new vector row
  pub ones_are : ones ≡ ones_in row
  pub few : ones ≤ 2

-- the rig fails at the load or after it; lack of memory comes before the load alone, where room for all the vectors is asked for
abbrev pub NotRun : (before : ℕ) → RigState → Refusal → Type 0
NotRun before rig refused.Rig = LoadsOnce before rig.loads
NotRun before rig refused.Memory = rig.loads ≡ before
NotRun before rig refusal = ⊥

abbrev pub runs : (n : ℕ) → ImageValue → (before : ℕ) → RigState → Step ℕ
runs n i before rig = record { stops = NotRun before rig; gives = IsBenchRun n i before rig }

-- ---- the command

-- the summary has the numbers of the design's plain network
abbrev pub bench_summary : (n : ℕ) → NetlistData → (ones loads : ℕ) → List ℕ
bench_summary n draft ones loads = summary_text n (length (plain_network draft).tables) (nets_in (plain_network draft)) ones loads

-- The summary is written, with the loads that were made since the command began
abbrev pub ones_written : (n : ℕ) → NetlistData → (begun : ℕ) → (here : Type 0) → RigState → (ones : ℕ) → Course
ones_written n draft begun here rig ones = write (bench_summary n draft ones (rig.loads - begun)) here (done here)

-- The image is loaded and the vectors are driven
abbrev pub image_run : (n : ℕ) → NetlistData → Listed → (begun : ℕ) → (here : Type 0) → RigState → ImageValue → Course
image_run n draft l begun here rig i = after (runs n i l.loads rig) here (ones_written n draft begun here rig)

-- The design is laid on what the list leaves free, and run. No load is made before that
abbrev pub design_laid : (n : ℕ) → NetlistData → (begun : ℕ) → (here : Type 0) → RigState → Listed → Course
design_laid n draft begun here rig l = after (lays l.list draft) (here × (rig.loads ≡ l.loads)) (image_run n draft l begun here rig)

-- The defects of the machine are listed, with so many loads made before
abbrev pub list_made : (n begun : ℕ) → (here : Type 0) → RigState → Shape → NetlistData → Course
list_made n begun here rig m draft = after (lists m begun rig) here (design_laid n draft begun here rig)

-- The design is made. No load is made before the list
abbrev pub design_run : (n begun : ℕ) → (here : Type 0) → RigState → Shape → Course
design_run n begun here rig m = after makes_design (here × (rig.loads ≡ begun)) (list_made n begun here rig m)

abbrev pub design_made : (n : ℕ) → Around → Around → Shape → Course
design_made n old new m = design_run n old.rig.loads (new.store ≡ old.store) new.rig m

-- The machine is attached
abbrev pub machine_attached : (n : ℕ) → Around → Around → Shape → Course
machine_attached n old new m =
    after (attaches (bench_machine n m) old.rig new.rig) ((new.store ≡ old.store) × (new.rig.loads ≡ old.rig.loads))
    (λ _. design_made n old new m)

-- The machine of the generator's counts is attached under the name of the number, and its defects are listed. Then the design is
-- run on what the list leaves free
abbrev pub bench_course : (n : ℕ) → Around → Around → Course
bench_course n old new = after makes_shape ((new.store ≡ old.store) × (new.rig ≡ old.rig)) (machine_attached n old new)

-- the faults that the number makes explain what was read
pub record BenchRight (n : ℕ) (rig : RigState) : Type 0 where
  pub faults : Faults
  pub explained : Explains faults rig
  pub made : (m : Shape) → m.counts ≡ work.bench_counts → AreBenchFaults m n faults

abbrev pub bench_job : (n : ℕ) → Job
bench_job n = record {
  files = [];
  asks = λ old new. AsksMachine (λ m. m.counts ≡ work.bench_counts) (generated_name n) old.rig.machine.asked new.rig.machine.asked;
  course = bench_course n;
  right = λ old new front. BenchRight n new.rig;
  short = λ old new front. ⊥;
  few = λ old new. Unit {0};
  has_begun = λ old new text. ⊥;
}
