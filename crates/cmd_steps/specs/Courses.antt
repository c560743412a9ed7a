-- The course of a command: its steps in the order of work, and so what may have been written wherever it ends.
use Rattle.std.specs.Prelude.{◌≡◌, ◌⊎◌, ℕ, Bool, List, [], ◌∷◌, ◌++◌, length, flat_map, None}
use Rattle.base_io.specs.Vocabulary.{Told, StoreState}
use Rattle.design_vectors.specs.Rows.{row_line}
use Rattle.cmd_steps.specs.Files.{AreFirst, AreAll, AreBeforeFault, IsNearNext, IsNearEnd, NoRowWaits}
use Rattle.cmd_steps.specs.declared.refusal.Refusal.{Refusal}
use Rattle.cmd_steps.specs.declared.refusal.Refusal.TheVariants as refused

-- what comes next after the text that was written: the end, a refusal, or a line that is written at one go
pub data Next : Type 0 where
  ends : Next
  refuses : Refusal → Next
  writes : List ℕ → Next

-- what may have been written, and what may come next then
abbrev pub Course : Type 1
Course = List ℕ → Next → Type 0

-- a step that writes nothing: why it stops, and what it gives
pub record Step (T : Type 0) : Type 1 where
  pub stops : Refusal → Type 0
  pub gives : T → Type 0

-- the step is the one that refuses
abbrev pub StopsAt : {T : Type 0} → Step T → Next → Type 0
StopsAt step (refuses refusal) = step.stops refusal
StopsAt step next = ⊥

-- a step, and what follows on what it gives. At a step that stops nothing was written, and the store stands here
abbrev pub after : {T : Type 0} → Step T → (here : Type 0) → (T → Course) → Course
after {T} step here rest text next =
    ((text ≡ []) × StopsAt step next × here) ⊎ ((x : T) × step.gives x × rest x text next)

-- a line, of which this holds while it is written, and what follows
abbrev pub write : List ℕ → (here : Type 0) → Course → Course
write line here rest text next = ((text ≡ []) × (next ≡ writes line) × here) ⊎ ((more : List ℕ) × (text ≡ line ++ more) × rest more next)

-- all is done, and then this holds
abbrev pub done : (here : Type 0) → Course
done here text next = (text ≡ []) × (next ≡ ends) × here

-- ---- rows

-- what the rows of a command are
pub record RowWork : Type 1 where
  -- how many bits a vector has
  pub width : ℕ
  -- the file of vectors, where it is told
  pub told : Told
  -- the store at the end
  pub store : StoreState
  -- these are the rows of these vectors
  pub are : (vectors rows : List (List Bool)) → Type 0
  -- and the rig's session is these vectors and rows
  pub session : (vectors rows : List (List Bool)) → Type 0
  -- behind these rows the session has a reading that isn't the same for each copy
  pub differs : (vectors rows : List (List Bool)) → Type 0
  -- the rig has failed since the command began, and so has no session any more
  pub lost : Type 0
  -- after so many rows memory may be wanting
  pub lacks : ℕ → Type 0

-- the lines of the rows of the first vectors. None waited when the store was asked last
pub record HasRows (w : RowWork) (text : List ℕ) : Type 0 where
  pub vectors : List (List Bool)
  pub rows : List (List Bool)
  pub text_is : text ≡ flat_map row_line rows
  pub first : AreFirst w.width w.told vectors
  pub are : w.are vectors rows
  pub prompt : NoRowWaits w.width w.told w.store.read_at (length rows)

-- and the session has read them, and no more
pub record HasReadRows (w : RowWork) (text : List ℕ) : Type 0 where
  pub has : HasRows w text
  pub session : w.session has.vectors has.rows

-- The row of one more vector comes next, and the store isn't far beyond that vector's line, and wasn't asked for bytes while that row
-- waited. The rows behind it that were to go out with it, or were driven with it, have been read too, and perhaps a reading behind them
-- that differs from copy to copy, unless the rig has failed
pub record IsBeforeRow (w : RowWork) (text line : List ℕ) : Type 0 where
  pub vectors : List (List Bool)
  pub rows : List (List Bool)
  pub row : List Bool
  pub more : List (List Bool)
  pub text_is : text ≡ flat_map row_line rows
  pub line_is : line ≡ row_line row
  pub first : AreFirst w.width w.told vectors
  pub are : w.are vectors (rows ++ row ∷ more)
  pub session : w.session vectors (rows ++ row ∷ more) ⊎ (w.differs vectors (rows ++ row ∷ more) ⊎ w.lost)
  pub near : IsNearNext w.width w.told w.store.current (length rows)
  pub prompt : NoRowWaits w.width w.told w.store.read_at (length rows)

-- a row for each vector of the file
abbrev pub all_rows : RowWork → Course
all_rows w text ends = (h : HasReadRows w text) × AreAll w.width w.told h.has.vectors
all_rows w text (writes line) = IsBeforeRow w text line
all_rows w text (refuses (refused.Vectors line kind)) =
    (h : HasReadRows w text) × AreBeforeFault w.width w.told w.store.current line kind h.has.vectors
all_rows w text (refuses refused.Store) = HasReadRows w text × (w.store.current ≡ None)
all_rows w text (refuses refused.Rig) = (h : HasRows w text) × IsNearEnd w.width w.told w.store.current (length h.rows)
all_rows w text (refuses refused.Memory) =
    (h : HasReadRows w text) × w.lacks (length h.has.rows) × IsNearNext w.width w.told w.store.current (length h.has.rows)
all_rows w text (refuses refused.Differ) =
    (h : HasRows w text) × w.differs h.vectors h.rows × IsNearNext w.width w.told w.store.current (length h.rows)
all_rows w text (refuses refusal) = ⊥
