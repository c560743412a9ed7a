-- What a sweep has in hand from one test to the next.
use Rattle.std.specs.Prelude.{◌≡◌, ℕ, ◌+◌, ◌*◌, ◌≤◌, true, List, length}
use Rattle.base_bits.specs.Numbers.{has_number, size_of}
use Rattle.machine_shape.specs.{declared.Table.Table, Shape.crosses_of}
use Rattle.rig.specs.Rig.{RigState, ForEach}
use Rattle.diag_evidence.specs.Kept.{Kept}
use Rattle.diag_known.specs.Vocabulary.{KnownWires, IsKnown, KnowsAll, IsFieldOf, GrowsIn}
use Rattle.diag_known.specs.declared.field.Field.{Field}
use Rattle.diag_sweep.specs.{Marks.AreMarksFor, Marks.MarksIn, Marks.TrueIf, Marks.is_undecided, declared.budget.LoadBudget.LoadBudget}
use Rattle.diag_sweep.specs.declared.{defect_marks.DefectMarks.DefectMarks, knowledge.Knowledge.Knowledge}

-- what is kept, known and found bad, the purse, and the loads so far
pub record Hand : Type 0 where
  pub kept : Kept
  pub known : KnownWires
  pub bad : DefectMarks
  pub budget : LoadBudget
  pub loads : ℕ

abbrev pub in_hand : Kept → KnownWires → DefectMarks → LoadBudget → ℕ → Hand
in_hand k known bad budget loads = record { kept = k; known = known; bad = bad; budget = budget; loads = loads }

abbrev pub hand_of : Knowledge → LoadBudget → ℕ → Hand
hand_of k budget loads = in_hand k.facts k.verified k.marks budget loads

-- what is known is known by what is kept and is its set, and all is of one shape
pub record IsHand (a : Field) (h : Hand) : Type 0 where
  pub known : IsKnown h.kept h.known
  pub all : KnowsAll h.kept h.known.steps
  pub field : IsFieldOf h.kept.shape a
  pub marks : AreMarksFor h.kept.shape h.bad
  pub budget : length h.budget.unsettled ≡ crosses_of h.kept.shape

-- .. where wires may have joined the set that aren't known yet
pub record IsHandYet (a : Field) (h : Hand) : Type 0 where
  pub known : IsKnown h.kept h.known
  pub field : IsFieldOf h.kept.shape a
  pub marks : AreMarksFor h.kept.shape h.bad
  pub budget : length h.budget.unsettled ≡ crosses_of h.kept.shape

-- The loads are within what the purse pays for, that and two for each unsettled crosspoint is within a limit, and all undecided
-- crosspoints of the field are unsettled.
pub record IsFunded (limit : ℕ) (a : Field) (h : Hand) : Type 0 where
  pub paid : h.loads ≤ h.budget.most
  pub within : h.budget.most + 2 * size_of h.budget.unsettled ≤ limit
  pub whole : (x : ℕ) → has_number a.crosses x ≡ true → is_undecided h.kept h.bad x ≡ true → has_number h.budget.unsettled x ≡ true

-- What a step of a sweep leaves: what was known still is, and what is new is of the field; marks are of the field and of these tables,
-- and stay true of each set of faults that explains what was read; and the purse has paid for it.
pub record Goes (now : RigState) (a : Field) (tables : List Table) (old new : Hand) : Type 0 where
  pub hand : IsHand a new
  pub grows : GrowsIn a old.known.steps new.known.steps
  pub marks : MarksIn a tables old.bad new.bad
  pub holds : ForEach now (λ told. TrueIf told old.kept old.known.steps old.bad → TrueIf told new.kept new.known.steps new.bad)
  pub funded : (limit : ℕ) → IsFunded limit a old → IsFunded limit a new

-- .. a step after which wires may have joined the set that aren't known yet
pub record GoesYet (now : RigState) (a : Field) (tables : List Table) (old new : Hand) : Type 0 where
  pub hand : IsHandYet a new
  pub grows : GrowsIn a old.known.steps new.known.steps
  pub marks : MarksIn a tables old.bad new.bad
  pub holds : ForEach now (λ told. TrueIf told old.kept old.known.steps old.bad → TrueIf told new.kept new.known.steps new.bad)
  pub funded : (limit : ℕ) → IsFunded limit a old → IsFunded limit a new

-- A purse is settled anew: what it pays for and what it may still come to pay for are no more together, and an undecided crosspoint
-- stays unsettled.
pub record Settles (k : Kept) (b : DefectMarks) (old new : LoadBudget) : Type 0 where
  pub len : length new.unsettled ≡ length old.unsettled
  pub most : old.most ≤ new.most
  pub within : new.most + 2 * size_of new.unsettled ≤ old.most + 2 * size_of old.unsettled
  pub whole : (x : ℕ) → has_number old.unsettled x ≡ true → is_undecided k b x ≡ true → has_number new.unsettled x ≡ true
