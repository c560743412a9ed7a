-- Ticks that evaluate the tables whose inputs changed, and no others.
use Rattle.std.specs.Prelude.{◌≡◌, ◌⊎◌, ℕ, ◌<◌, Bool, false, List, length, slice_index, slice_index_or, All}
use Rattle.machine_meaning.specs.Faults.{Faults}
use Rattle.rig_simulated.specs.declared.{gates.Gate.Gate, readers.Readers.Readers, events.Flip.Flip, events.Events.Events}
use Rattle.rig_simulated.specs.{declared.queue.Queue.Queue, Pulls.AreCounted, Pulls.giving, Queues.is_marked, Queues.IsDue, Queues.IsQueue}
use Rattle.rig_simulated.specs.{Gates.ticked, Readers.AreReaders}

-- a table gives already what a tick makes of it
abbrev pub IsStill : Faults → (ℕ → Bool) → Gate → Type 0
IsStill f level gate = ticked f level gate ≡ gate

-- each table without a mark does
abbrev pub AreStill : Faults → (ℕ → Bool) → List Gate → List Bool → Type 0
AreStill f level gates marks = (k : ℕ) (d : Gate) → k < length gates → is_marked marks k ≡ false →
    IsStill f level (slice_index_or gates k d)

-- the first n changes are what a tick makes of their tables
pub record AreFlips (f : Faults) (level : ℕ → Bool) (gates : List Gate) (flips : List Flip) (n : ℕ) : Type 0 where
  pub within : (j : ℕ) (d : Flip) → j < n → (slice_index_or flips j d).place < length gates
  pub output : (j : ℕ) (d : Flip) (e : Gate) → j < n →
      (slice_index_or flips j d).output ≡ (ticked f level (slice_index_or gates (slice_index_or flips j d).place e)).output

-- a table is among those that change
pub record HasFlip (flips : List Flip) (n k : ℕ) : Type 0 where
  pub at : ℕ
  pub below : at < n
  pub is : (d : Flip) → (slice_index_or flips at d).place ≡ k

-- each table that is listed changes or is still
abbrev pub HaveFlips : Faults → (ℕ → Bool) → List Gate → List ℕ → ℕ → List Flip → ℕ → Type 0
HaveFlips f level gates due i flips n = (k : ℕ) (d : Gate) → k < length gates → IsDue due i k →
    HasFlip flips n k ⊎ IsStill f level (slice_index_or gates k d)

-- the same tables, which may give something else
pub record AreAlike (old new : List Gate) : Type 0 where
  pub len : length new ≡ length old
  pub each : (k : ℕ) (d : Gate) → k < length old → slice_index_or new k d ≡ giving (slice_index_or new k d).output (slice_index_or old k d)

-- those that change first do, and the others are as they were or as after a tick
pub record ArePut (f : Faults) (level : ℕ → Bool) (old : List Gate) (flips : List Flip) (n : ℕ) (new : List Gate) : Type 0 where
  pub each : (k : ℕ) (d : Gate) → k < length old →
      (slice_index_or new k d ≡ ticked f level (slice_index_or old k d)) ⊎ (slice_index_or new k d ≡ slice_index_or old k d)
  pub put : (k : ℕ) (d : Gate) → k < length old → HasFlip flips n k → slice_index_or new k d ≡ ticked f level (slice_index_or old k d)

-- whatever a tick is, of which these are the changes
abbrev pub PutFlips : List Gate → List Flip → ℕ → ℕ → List Gate → Type 0
PutFlips old flips all n new = (f : Faults) (level : ℕ → Bool) → AreFlips f level old flips all → ArePut f level old flips n new

-- no class that a table without a mark reads has another level
abbrev pub InputsKept : List Gate → List Bool → (ℕ → Bool) → (ℕ → Bool) → Type 0
InputsKept gates marks old new = (k j : ℕ) (d : Gate) → k < length gates → j < 6 → is_marked marks k ≡ false →
    new (slice_index (slice_index_or gates k d).ins j) ≡ old (slice_index (slice_index_or gates k d).ins j)

-- what is kept while tables change
pub record IsSound (gates : List Gate) (r : Readers) (q : Queue) (pulls : List ℕ) (low : List Bool) : Type 0 where
  pub readers : AreReaders gates r
  pub queue : IsQueue q
  pub marks : length q.marks.items ≡ length gates
  pub outs : All (λ (x : Gate). x.out < length low) gates
  pub counted : AreCounted gates pulls low

-- what is kept of the tables that are on, between cycles
pub record AreEvents (gates : List Gate) (e : Events) : Type 0 where
  pub readers : AreReaders gates e.readers
  pub queue : IsQueue e.queue
  pub marks : length e.queue.marks.items ≡ length gates
  pub flips : length e.flips.items ≡ length gates
