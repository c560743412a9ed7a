-- For each class the tables that read it.
use Rattle.std.specs.Prelude.{◌≡◌, ℕ, ◌<◌, List, length, slice_index, slice_index_or, All}
use Rattle.std.specs.List.{Contains, Sorted.IsNonDecreasingBy}
use Rattle.rig_simulated.specs.declared.{gates.Gate.Gate, readers.Reader.Reader, readers.Readers.Readers}

-- what a table reads at an input
abbrev pub reader_at : List Gate → ℕ → ℕ → Gate → Reader
reader_at gates k j d = record { class = slice_index (slice_index_or gates k d).ins j; place = k }

-- each of the first n tables stands beside each class that it reads
abbrev pub AreListed : List Gate → ℕ → List Reader → Type 0
AreListed gates n list = (k j : ℕ) (d : Gate) → k < n → j < 6 → Contains list (reader_at gates k j d)

-- those before a place read lower classes
abbrev pub StartsAt : List Reader → ℕ → ℕ → Type 0
StartsAt list class place = (i : ℕ) (d : Reader) → i < place → (slice_index_or list i d).class < class

-- of each of the first n tables, where the readers of its output begin
abbrev pub AreStarts : List Gate → ℕ → List Reader → List ℕ → Type 0
AreStarts gates n list starts = (k : ℕ) (d : Gate) → k < n → StartsAt list (slice_index_or gates k d).out (slice_index starts k)

-- the readers are those of these tables
pub record AreReaders (gates : List Gate) (r : Readers) : Type 0 where
  pub sorted : IsNonDecreasingBy (λ (x : Reader). x.class) r.list.items
  pub within : All (λ (x : Reader). x.place < length gates) r.list.items
  pub listed : AreListed gates (length gates) r.list.items
  pub len : length r.starts.items ≡ length gates
  pub starts : AreStarts gates (length gates) r.list.items r.starts.items

-- a table was added to the readers of each class that it reads
pub record HaveGrown (gate : Gate) (place : ℕ) (old new : List Reader) : Type 0 where
  pub kept : (x : Reader) → Contains old x → Contains new x
  pub more : (j : ℕ) → j < 6 → Contains new (record { class = slice_index gate.ins j; place = place })
  pub within : (n : ℕ) → place < n → All (λ (x : Reader). x.place < n) old → All (λ (x : Reader). x.place < n) new
