-- Facts about a machine's faults that tests have shown, and when they are true.
use Rattle.std.specs.Prelude.{◌≡◌, ◌≢◌, ℕ, ◌+◌, ◌*◌, ◌^◌, ◌<◌, ◌==◌, max, nat_lt, Bool, true, false, not, ◌&&◌, ◌||◌}
use Rattle.std.specs.Prelude.{Option, Some, None, IfSome, List, length, replicate, refl, ◌≤◌}
use Rattle.std.specs.Option.{option_map_or}
use Rattle.std.specs.Coded.{Coded, code_by, coded×, coded_ℕ, coded_bool, coded_list, coded_option}
use Rattle.base_bits.specs.Numbers.{has_number}
use Rattle.machine_shape.specs.contracts.Shape as shape
use Rattle.machine_shape.specs.{declared.Shape.Shape, Shape.crosses_of, Shape.wires_of, Shape.tables_of, Shape.pins_of}
use Rattle.machine_meaning.specs.Vocabulary.{Faults, stuck_cross, wrong_cell, stuck_register, Shorted, IsClear}
use Rattle.machine_config.specs.Groups.{among}
use Rattle.rig.specs.Rig.{Asked, Machine, RigState, Explains, Narrows, Tells, cycles_made}

-- The facts that are kept, by marks for each number. A cell's number is 64 for each table before it, and its address. Pairs are kept in
-- linear room: each two wires of a set are a kept pair, and so is the wire on trial, where there is one, with each wire of its row.
pub record Kept : Type 0 where
  pub shape : Shape
  pub crosses : List Bool
  pub wires : List Bool
  pub apart : List Bool
  pub trial : Option ℕ
  pub row : List Bool
  pub cells : List Bool
  pub registers : List Bool

-- codes, by which a proof tells these values apart
abbrev pub coded_kept : Coded Kept
coded_kept = code_by ((Shape × Option ℕ) × ((List Bool × List Bool) × ((List Bool × List Bool) × (List Bool × List Bool))))
    (coded× (coded× shape.the_row.coded (coded_option coded_ℕ))
    (coded× (coded× (coded_list coded_bool) (coded_list coded_bool))
    (coded× (coded× (coded_list coded_bool) (coded_list coded_bool)) (coded× (coded_list coded_bool) (coded_list coded_bool)))))
    (λ k. ((k.shape, k.trial), ((k.crosses, k.wires), ((k.apart, k.row), (k.cells, k.registers)))))
    (λ p. record {
      shape = p.0.0;
      crosses = p.1.0.0;
      wires = p.1.0.1;
      apart = p.1.1.0.0;
      trial = p.0.1;
      row = p.1.1.0.1;
      cells = p.1.1.1.0;
      registers = p.1.1.1.1;
    }) (λ _. refl)

-- what is kept
unfoldable pub keeps_cross : Kept → ℕ → Bool
keeps_cross k x = has_number k.crosses x

unfoldable pub keeps_wire : Kept → ℕ → Bool
keeps_wire k w = has_number k.wires w

-- the wire is of the set, it is on trial, and it is of the row
unfoldable pub is_apart : Kept → ℕ → Bool
is_apart k w = has_number k.apart w

unfoldable pub on_trial : Kept → ℕ → Bool
on_trial k w = option_map_or (λ (t : ℕ). t == w) k.trial false

unfoldable pub in_row : Kept → ℕ → Bool
in_row k w = has_number k.row w

-- two different wires, both of the set, or one on trial and the other of its row; in either order
unfoldable pub keeps_pair : Kept → ℕ → ℕ → Bool
keeps_pair k a b = not (a == b) && ((is_apart k a && is_apart k b) || ((on_trial k a && in_row k b) || (on_trial k b && in_row k a)))

unfoldable pub keeps_cell : Kept → ℕ → ℕ → Bool
keeps_cell k t a = nat_lt a 64 && has_number k.cells (64 * t + a)

unfoldable pub keeps_register : Kept → ℕ → Bool
keeps_register k t = has_number k.registers t

-- What is kept is true of the faults: no kept crosspoint is stuck, no kept wire is shorted to a stuck wire, no kept
-- pair is shorted, no kept cell is wrong, and no kept register is stuck.
pub record HoldsFor (k : Kept) (f : Faults) : Type 0 where
  pub crosses : (x : ℕ) → keeps_cross k x ≡ true → stuck_cross f x ≡ None
  pub wires : (w : ℕ) → keeps_wire k w ≡ true → IsClear k.shape f w
  pub pairs : (a b : ℕ) → keeps_pair k a b ≡ true → ¬ Shorted k.shape f a b
  pub cells : (t a : ℕ) → keeps_cell k t a ≡ true → wrong_cell f t a ≡ None
  pub registers : (t : ℕ) → keeps_register k t ≡ true → stuck_register f t ≡ None

-- the same facts with no wire on trial, so that the pairs of the set alone are kept
abbrev pub untried : Kept → Kept
untried k = record k { trial = None }

-- All that is kept but the pairs of the wire on trial is true of the faults. They are left out where facts are carried on, since the
-- wire on trial may be another then.
abbrev pub HoldsUntried : Kept → Faults → Type 0
HoldsUntried k f = HoldsFor (untried k) f

-- what was kept stays kept, and what was of the set stays so; the row of the wire on trial may be another's
pub record IsMore (old new : Kept) : Type 0 where
  pub shape : new.shape ≡ old.shape
  pub crosses : (x : ℕ) → keeps_cross old x ≡ true → keeps_cross new x ≡ true
  pub wires : (w : ℕ) → keeps_wire old w ≡ true → keeps_wire new w ≡ true
  pub apart : (w : ℕ) → is_apart old w ≡ true → is_apart new w ≡ true
  pub cells : (t a : ℕ) → keeps_cell old t a ≡ true → keeps_cell new t a ≡ true
  pub registers : (t : ℕ) → keeps_register old t ≡ true → keeps_register new t ≡ true

-- nothing is kept, and no wire is of the set
pub record KeepsNothing (k : Kept) : Type 0 where
  pub crosses : (x : ℕ) → keeps_cross k x ≡ false
  pub wires : (w : ℕ) → keeps_wire k w ≡ false
  pub pairs : (a b : ℕ) → keeps_pair k a b ≡ false
  pub apart : (w : ℕ) → is_apart k w ≡ false
  pub cells : (t a : ℕ) → keeps_cell k t a ≡ false
  pub registers : (t : ℕ) → keeps_register k t ≡ false

-- the same wires are of the set
abbrev pub KeepsSet : Kept → Kept → Type 0
KeepsSet old new = (w : ℕ) → is_apart new w ≡ is_apart old w

-- .. the same one is on trial, and its row has what it had
pub record KeepsTrial (old new : Kept) : Type 0 where
  pub apart : KeepsSet old new
  pub trial : new.trial ≡ old.trial
  pub row : (w : ℕ) → in_row old w ≡ true → in_row new w ≡ true

-- a wire is on trial, with an empty row, in place of the one that was
abbrev pub with_trial : Kept → ℕ → Kept
with_trial k w = record k { trial = Some w; row = replicate (length k.row) false }

-- there is a wire on trial, and its row has all other wires of the set
pub record CanSettle (k : Kept) : Type 0 where
  pub wire : ℕ
  pub tried : k.trial ≡ Some wire
  pub row : (w : ℕ) → is_apart k w ≡ true → w ≢ wire → in_row k w ≡ true

-- the wire on trial is of the set then, beside those that were
pub record HasSettled (old new : Kept) : Type 0 where
  pub can : CanSettle old
  pub apart : (w : ℕ) → is_apart new w ≡ ((can.wire == w) || is_apart old w)
  pub is : new ≡ record old { apart = new.apart }

-- of the set are those that are of both, and no wire is on trial
pub record HasRetaken (wires : List Bool) (old new : Kept) : Type 0 where
  pub apart : (w : ℕ) → is_apart new w ≡ (has_number wires w && is_apart old w)
  pub is : new ≡ record old { apart = new.apart; trial = None }

-- facts that a test gains: `apart` are wires that join the set, `row` those that come into the row of the wire on trial
pub record Gain : Type 0 where
  pub crosses : ℕ → Bool
  pub wires : ℕ → Bool
  pub apart : ℕ → Bool
  pub row : ℕ → Bool
  pub cells : ℕ → ℕ → Bool
  pub registers : ℕ → Bool

abbrev pub nothing : Gain
nothing = record {
  crosses = λ _. false;
  wires = λ _. false;
  apart = λ _. false;
  row = λ _. false;
  cells = λ _ _. false;
  registers = λ _. false;
}

abbrev pub one_cross : ℕ → Gain
one_cross x = record nothing { crosses = λ y. x == y }

abbrev pub these_wires : List ℕ → Gain
these_wires ws = record nothing { wires = among ws }

-- the wire on trial, where it is of the first list, gets each of the second into its row
abbrev pub row_over : Option ℕ → List ℕ → List ℕ → Gain
row_over trial ws us = record nothing { row = λ u. option_map_or (λ t. among ws t) trial false && among us u }

abbrev pub one_cell : ℕ → ℕ → Gain
one_cell t a = record nothing { cells = λ u b. (t == u) && (a == b) }

abbrev pub one_register : ℕ → Gain
one_register t = record nothing { registers = λ u. t == u }

-- the second keeps what the first does and these facts, and no others
pub record Gains (gain : Gain) (old new : Kept) : Type 0 where
  pub shape : new.shape ≡ old.shape
  pub crosses : (x : ℕ) → keeps_cross new x ≡ (gain.crosses x || keeps_cross old x)
  pub wires : (w : ℕ) → keeps_wire new w ≡ (gain.wires w || keeps_wire old w)
  pub apart : (w : ℕ) → is_apart new w ≡ (gain.apart w || is_apart old w)
  pub trial : new.trial ≡ old.trial
  pub row : (w : ℕ) → in_row new w ≡ (gain.row w || in_row old w)
  pub cells : (t a : ℕ) → keeps_cell new t a ≡ (gain.cells t a || keeps_cell old t a)
  pub registers : (t : ℕ) → keeps_register new t ≡ (gain.registers t || keeps_register old t)

-- how many cycles a load has at most: the 65 of a test of tables, or those of a look, one more than the machine has pins
abbrev pub most_cycles : Machine → ℕ
most_cycles m = option_map_or (λ (a : Asked). max 65 (pins_of a.shape + 1)) m.attached 0

-- the cycles, with k more, are no more than n and so many for each load, as long as the number of loads has room to grow
pub record HasFew (n k : ℕ) (rig : RigState) : Type 0 where
  pub at : rig.loads + 1 < 2 ^ 64 → cycles_made rig + k ≤ n + most_cycles rig.machine * rig.loads

-- what was so of them before is so: then the cycles rose by at most so many for each load by which the loads rose
abbrev pub FewCycles : RigState → RigState → Type 0
FewCycles old new = (n k : ℕ) → HasFew n k old → HasFew n k new

-- the cycles rose by at most so many for each load by which the loads rose, as long as the number of loads has room to grow
abbrev pub TakesFewCycles : RigState → RigState → Type 0
TakesFewCycles old new = new.loads + 1 < 2 ^ 64 →
    cycles_made new + most_cycles old.machine * old.loads ≤ cycles_made old + most_cycles old.machine * new.loads

-- What calls that test a machine leave: the machine as it was, counts of failures and loads that didn't fall, few cycles for each
-- load, and all that was kept. What explains the log after them explained it before, and told faults explain it if they did before.
-- Where what was kept is true of faults that explain the log after the calls, nothing is kept that isn't true of them.
pub record Advances (old new : RigState) (k l : Kept) : Type 0 where
  pub machine : new.machine ≡ old.machine
  pub later : old.failures ≤ new.failures
  pub counted : old.loads ≤ new.loads
  pub few : FewCycles old new
  pub more : IsMore k l
  pub narrows : Narrows old new
  pub tells : Tells old new
  pub explained : (f : Faults) → Explains f new → HoldsFor k f → HoldsFor l f

-- all is kept that was, and nothing else, but for pairs: wires may have left the set or joined it, and another may be on trial
abbrev pub IsButPairs : Kept → Kept → Type 0
IsButPairs old new = new ≡ record old { apart = new.apart; trial = new.trial }

-- what was kept stays kept, but for pairs
pub record IsMoreButPairs (old new : Kept) : Type 0 where
  pub shape : new.shape ≡ old.shape
  pub crosses : (x : ℕ) → keeps_cross old x ≡ true → keeps_cross new x ≡ true
  pub wires : (w : ℕ) → keeps_wire old w ≡ true → keeps_wire new w ≡ true
  pub cells : (t a : ℕ) → keeps_cell old t a ≡ true → keeps_cell new t a ≡ true
  pub registers : (t : ℕ) → keeps_register old t ≡ true → keeps_register new t ≡ true

-- What calls leave that may have taken wires out of the set: what others do, but that pairs stay kept.
pub record AdvancesButPairs (old new : RigState) (k l : Kept) : Type 0 where
  pub machine : new.machine ≡ old.machine
  pub later : old.failures ≤ new.failures
  pub counted : old.loads ≤ new.loads
  pub few : FewCycles old new
  pub more : IsMoreButPairs k l
  pub narrows : Narrows old new
  pub tells : Tells old new
  pub explained : (f : Faults) → Explains f new → HoldsFor k f → HoldsFor l f

-- there is a mark for each number of the shape
pub record AreMarksOf (k : Kept) : Type 0 where
  pub crosses : length k.crosses ≡ crosses_of k.shape
  pub wires : length k.wires ≡ wires_of k.shape
  pub apart : length k.apart ≡ wires_of k.shape
  pub trial : IfSome k.trial (λ w. w < wires_of k.shape)
  pub row : length k.row ≡ wires_of k.shape
  pub cells : length k.cells ≡ 64 * tables_of k.shape
  pub registers : length k.registers ≡ tables_of k.shape
  pub few : tables_of k.shape ≤ 65536
