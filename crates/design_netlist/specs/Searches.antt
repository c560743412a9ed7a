-- What the search for cycles keeps.
use Rattle.std.specs.Prelude.{ℕ, ◌≡◌, ◌<◌, ◌≤◌, ◌+◌, ◌⊎◌, List, [], ◌∷◌, Option, None, Some, slice_index_or, length, ◌-◌}
use Rattle.design_netlist.specs.{declared.netlist_data.Cover.Cover, declared.search.State.State, Covers.Reads, Covers.Reaches}
use Rattle.design_netlist.specs.declared.search.{State.TheVariants.New, State.TheVariants.Open, State.TheVariants.Done, Group.Group}
use Rattle.design_netlist.specs.{Drivers.driver_at, Valuations.number_at}

abbrev pub state_at : List State → ℕ → State
state_at states u = slice_index_or states u New

abbrev pub start_at : List Group → ℕ → ℕ
start_at groups i = (slice_index_or groups i (record { start = 0; waits = 0 })).start

abbrev pub waits_at : List Group → ℕ → ℕ
waits_at groups i = (slice_index_or groups i (record { start = 0; waits = 0 })).waits

-- the covers that drive the signals
abbrev pub and_target : Option ℕ → List ℕ → List ℕ
and_target None ds = ds
and_target (Some d) ds = d ∷ ds

abbrev pub targets : List (Option ℕ) → List ℕ → List ℕ
targets drivers [] = []
targets drivers (s ∷ ss) = and_target (driver_at drivers s) (targets drivers ss)

-- what a cover that is new may still cost
abbrev pub cost : State → Cover → ℕ
cost New c = length c.ins + 2
cost (Open p) c = 0
cost (Done k) c = 0

abbrev pub work : List State → List Cover → ℕ
work [] cs = 0
work (s ∷ ss) [] = 0
work (s ∷ ss) (c ∷ cs) = cost s c + work ss cs

-- a cover that was seen isn't new again
abbrev pub StaysSeen : List State → List State → Type 0
StaysSeen states states' = (u : ℕ) → state_at states' u ≡ New → state_at states u ≡ New

-- each cover of the path reaches the cover
abbrev pub LeadsTo : List Cover → List ℕ → ℕ → Type 0
LeadsTo covers path u = (p : ℕ) → p < length path → Reaches covers (number_at path p) u

-- what has come of a cover that is read at the place q of the path: all but the spare one are seen or waiting
pub data IsHandled (states : List State) (groups : List Group) (waiting : List ℕ) (spare q v : ℕ) : Type 0 where
  is_done : (k : ℕ) → state_at states v ≡ Done k → IsHandled states groups waiting spare q v
  is_open : (p : ℕ) → state_at states v ≡ Open p → ((i : ℕ) → i < length groups → start_at groups i ≤ q → start_at groups i ≤ p) →
      IsHandled states groups waiting spare q v
  is_waiting : (w : ℕ) → w < length waiting → number_at waiting w ≡ v →
      ((i : ℕ) → i < length groups → start_at groups i ≤ q → waits_at groups i ≤ w) → IsHandled states groups waiting spare q v
  is_spare : v ≡ spare → IsHandled states groups waiting spare q v

-- a cover of the path reads the one that waits at w, from the same group
pub record IsSource (covers : List Cover) (path : List ℕ) (groups : List Group) (v w q : ℕ) : Type 0 where
  pub within : q < length path
  pub reads : Reads covers (number_at path q) v
  pub below : (i : ℕ) → i < length groups → waits_at groups i ≤ w → start_at groups i ≤ q
  pub above : (i : ℕ) → i < length groups → start_at groups i ≤ q → waits_at groups i ≤ w

pub record IsSearch (covers : List Cover) (states : List State) (path : List ℕ) (groups : List Group) (waiting : List ℕ)
    (count : ℕ) : Type 0 where
  pub len : length states ≡ length covers
  pub within : (p : ℕ) → p < length path → number_at path p < length covers
  pub opens : (p : ℕ) → p < length path → state_at states (number_at path p) ≡ Open p
  pub opened : (u p : ℕ) → state_at states u ≡ Open p → (p < length path) × (number_at path p ≡ u)
  pub dones : (u k : ℕ) → state_at states u ≡ Done k → k < count
  pub closed : (u v k : ℕ) → state_at states u ≡ Done k → Reads covers u v → (l : ℕ) × (state_at states v ≡ Done l) × (l ≤ k)
  pub together : (u v k : ℕ) → state_at states u ≡ Done k → state_at states v ≡ Done k → Reaches covers u v
  pub along : (p q : ℕ) → p ≤ q → q < length path → Reaches covers (number_at path p) (number_at path q)
  pub rooted : (q : ℕ) → q < length path → (i : ℕ) × (i < length groups) × (start_at groups i ≤ q)
      × Reaches covers (number_at path q) (number_at path (start_at groups i))
  pub sorted : (i j : ℕ) → i < j → j < length groups → (start_at groups i < start_at groups j) × (waits_at groups i ≤ waits_at groups j)
  pub starts : (i : ℕ) → i < length groups → start_at groups i < length path
  pub waits : (i : ℕ) → i < length groups → waits_at groups i ≤ length waiting
  pub sources : (w : ℕ) → w < length waiting → (q : ℕ) × IsSource covers path groups (number_at waiting w) w q

-- each cover that is read from the path is handled
abbrev pub AreHandled : List Cover → List State → List ℕ → List Group → List ℕ → ℕ → Type 0
AreHandled covers states path groups waiting spare =
    (q v : ℕ) → q < length path → Reads covers (number_at path q) v → IsHandled states groups waiting spare q v

-- a cover was put on the path
pub record IsOpened (covers : List Cover) (c : ℕ) (states states' : List State) (path path' : List ℕ) (groups groups' : List Group)
    (waiting waiting' : List ℕ) : Type 0 where
  pub len : length states' ≡ length states
  pub itself : state_at states' c ≡ Open (length path)
  pub other : (u : ℕ) → (u ≡ c → ⊥) → state_at states' u ≡ state_at states u
  pub path_len : length path' ≡ length path + 1
  pub path_old : (p : ℕ) → p < length path → number_at path' p ≡ number_at path p
  pub path_new : number_at path' (length path) ≡ c
  pub groups_len : length groups' ≡ length groups + 1
  pub start_old : (i : ℕ) → i < length groups → start_at groups' i ≡ start_at groups i
  pub waits_old : (i : ℕ) → i < length groups → waits_at groups' i ≡ waits_at groups i
  pub start_new : start_at groups' (length groups) ≡ length path
  pub waits_new : waits_at groups' (length groups) ≡ length waiting
  pub waiting_len : length waiting ≤ length waiting'
  pub waiting_old : (w : ℕ) → w < length waiting → number_at waiting' w ≡ number_at waiting w
  pub waiting_new : (w : ℕ) → length waiting ≤ w → w < length waiting' → Reads covers c (number_at waiting' w)
  pub waiting_all : (v : ℕ) → Reads covers c v → (w : ℕ) × (length waiting ≤ w) × (w < length waiting') × (number_at waiting' w ≡ v)

-- the covers of the path between two places got a number
pub record IsClosed (start end number : ℕ) (states states' : List State) (path : List ℕ) : Type 0 where
  pub len : length states' ≡ length states
  pub inside : (q : ℕ) → start ≤ q → q < end → state_at states' (number_at path q) ≡ Done number
  pub outside : (u : ℕ) → ((q : ℕ) → start ≤ q → q < end → number_at path q ≡ u → ⊥) → state_at states' u ≡ state_at states u

-- a list that lost its end
pub record IsFront {X : Type 0} (d : X) (xs ys : List X) (n : ℕ) : Type 0 where
  pub within : n ≤ length xs
  pub len : length ys ≡ n
  pub same : (i : ℕ) → i < n → slice_index_or ys i d ≡ slice_index_or xs i d

-- the last one is taken off a list
pub record IsTaken (xs ys : List ℕ) (x : ℕ) : Type 0 where
  pub len : length ys + 1 ≡ length xs
  pub old : (w : ℕ) → w < length ys → number_at ys w ≡ number_at xs w
  pub at : number_at xs (length ys) ≡ x

-- how many groups begin at a place or before it
pub record IsKept (groups : List Group) (place n : ℕ) : Type 0 where
  pub within : n ≤ length groups
  pub later : (i : ℕ) → n ≤ i → i < length groups → place < start_at groups i
  pub last : (n ≡ 0) ⊎ (start_at groups (n - 1) ≤ place)

-- all covers have numbers: none reads one with a greater number, and those of one number reach each other
pub record AreNumbered (covers : List Cover) (states : List State) : Type 0 where
  pub len : length states ≡ length covers
  pub each : (u : ℕ) → u < length covers → (k : ℕ) × (state_at states u ≡ Done k)
  pub top : (t : ℕ) × ((u k : ℕ) → state_at states u ≡ Done k → k < t)
  pub closed : (u v k : ℕ) → state_at states u ≡ Done k → Reads covers u v → (l : ℕ) × (state_at states v ≡ Done l) × (l ≤ k)
  pub together : (u v k : ℕ) → state_at states u ≡ Done k → state_at states v ≡ Done k → Reaches covers u v

abbrev pub search_number : State → ℕ
search_number New = 0
search_number (Open p) = 0
search_number (Done k) = k

-- the covers that have numbers, in the order of these
pub record IsListed (covers : List Cover) (states : List State) (order : List ℕ) : Type 0 where
  pub within : (k : ℕ) → k < length order → number_at order k < length covers
  pub numbered : (k : ℕ) → k < length order → (m : ℕ) × (state_at states (number_at order k) ≡ Done m) × (m ≤ k)
  pub first : (u k : ℕ) → state_at states u ≡ Done k → (k < length order) × (state_at states (number_at order k) ≡ Done k)
  pub apart : (j k : ℕ) → j < k → k < length order → number_at order j ≡ number_at order k → ⊥

-- the end of a path was put behind a list
pub record IsJoinedOn (path order order' : List ℕ) (start n : ℕ) : Type 0 where
  pub len : length order' + start ≡ length order + n
  pub old : (k : ℕ) → k < length order → number_at order' k ≡ number_at order k
  pub new : (q : ℕ) → start ≤ q → q < n → number_at order' (length order + (q - start)) ≡ number_at path q
