-- Lines for the nets that ask for one: a choice, or a set of them that shows that there is none.
--
-- Who asks goes by a number; `serves i w` says whether the line w serves i.
use Rattle.std.specs.Prelude.{◌≡◌, ◌≢◌, ℕ, ◌<◌, Bool, true, List, [], ◌==◌, ◌&&◌, not, length, count_by, slice_index_or}
use Rattle.std.specs.List.{All, AllPairs, Contains, list_any, range_with_len}
use Rattle.machine_shape.specs.{declared.Shape.Shape, Shape.wires_of, Shape.crosses_of, Shape.ends_of}
use Rattle.machine_meaning.specs.Defects.{Defects}
use Rattle.machine_defects.specs.Lists.{DefectList, is_free_cross}
use Rattle.place_plan.specs.declared.search.Ask.{Ask}
use Rattle.place_plan.specs.declared.search.{Hold.Hold, Assigned.Assigned, Assigned.TheVariants.Given, Assigned.TheVariants.Lacking}

-- each has a line that serves it, and no line is of two
pub record IsAssignment (serves : ℕ → ℕ → Bool) (nets lines : List ℕ) (picks : List Hold) : Type 0 where
  pub given : All (λ n. (w : ℕ) × Contains picks (record { ask = n; line = w })) nets
  pub each : All (λ p. Contains nets p.ask × Contains lines p.line × (serves p.ask p.line ≡ true)) picks
  pub nets_apart : AllPairs (λ p q. p.ask ≢ q.ask) picks
  pub lines_apart : AllPairs (λ p q. p.line ≢ q.line) picks

-- the line serves at least one of the set
abbrev pub serves_any : (ℕ → ℕ → Bool) → List ℕ → ℕ → Bool
serves_any serves set w = list_any (λ n. serves n w) set

-- a set that fewer lines serve than it has members
pub record IsShort (serves : ℕ → ℕ → Bool) (nets lines set : List ℕ) (need have : ℕ) : Type 0 where
  pub within : All (Contains nets) set
  pub ascending : AllPairs (λ n k. n < k) set
  pub need_is : need ≡ length set
  pub have_is : have ≡ count_by (serves_any serves set) lines
  pub fewer : have < need

abbrev pub IsAnswer : (ℕ → ℕ → Bool) → List ℕ → List ℕ → Assigned → Type 0
IsAnswer serves nets lines (Given picks) = IsAssignment serves nets lines picks.items
IsAnswer serves nets lines (Lacking set need have) = IsShort serves nets lines set.items need have

-- ---- who asks at a node

abbrev pub no_ask : Ask
no_ask = record { net = record { 0 = 0 }; taps = [] }

abbrev pub ask_at : List Ask → ℕ → Ask
ask_at asks i = slice_index_or asks i no_ask

-- the crosspoint is one of this tap and this line, and isn't free
abbrev pub is_shut_cross : Shape → Defects → ℕ → ℕ → ℕ → Bool
is_shut_cross m d t w x = ((ends_of m x).0 == t) && (((ends_of m x).1 == w) && not (is_free_cross m d x))

-- there is such a crosspoint
abbrev pub is_shut : DefectList → ℕ → ℕ → Bool
is_shut d t w = list_any (is_shut_cross d.shape d.list t w) (range_with_len 0 (crosses_of d.shape))

-- the line has no such crosspoint with one of these taps
abbrev pub serves_all : DefectList → List ℕ → ℕ → Bool
serves_all d taps w = not (list_any (λ t. is_shut d t w) taps)

abbrev pub serves_by : DefectList → List Ask → ℕ → ℕ → Bool
serves_by d asks i w = serves_all d (ask_at asks i).taps w

-- all of these are wires of the machine
abbrev pub AreWires : Shape → List ℕ → Type 0
AreWires m ws = All (λ w. w < wires_of m) ws

-- so are the taps and the lines
pub record IsSite (m : Shape) (asks : List Ask) (lines : List ℕ) : Type 0 where
  pub taps : All (λ a. AreWires m a.taps) asks
  pub lines_are : AreWires m lines
