-- Tables that are to be evaluated.
use Rattle.std.specs.Prelude.{◌≡◌, ℕ, ◌<◌, Bool, true, false, List, length, slice_index, slice_index_or}
use Rattle.std.specs.List.{count_by}
use Rattle.rig_simulated.specs.declared.queue.Queue.{Queue}

-- whether a place has a mark
abbrev pub is_marked : List Bool → ℕ → Bool
is_marked marks k = slice_index_or marks k false

-- a place stands among the first n
pub record IsDue (due : List ℕ) (n k : ℕ) : Type 0 where
  pub at : ℕ
  pub below : at < n
  pub is : slice_index due at ≡ k

-- the places with a mark are listed, each once
pub record IsQueue (q : Queue) : Type 0 where
  pub room : length q.due.items ≡ length q.marks.items
  pub count : q.count ≡ count_by (λ b. b) q.marks.items
  pub within : (i : ℕ) → i < q.count → slice_index q.due.items i < length q.marks.items
  pub listed : (k : ℕ) → is_marked q.marks.items k ≡ true → IsDue q.due.items q.count k

-- no mark was taken away
abbrev pub KeepsMarks : List Bool → List Bool → Type 0
KeepsMarks old new = (k : ℕ) → is_marked old k ≡ true → is_marked new k ≡ true
