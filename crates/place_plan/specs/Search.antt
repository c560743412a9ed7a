-- What the search for lines keeps true.
use Rattle.std.specs.Prelude.{◌≡◌, ◌≢◌, ℕ, suc, ◌+◌, ◌<◌, Bool, true, false, not, List, [], ◌∷◌, ◌++◌, length, count_by, slice_index_or}
use Rattle.std.specs.{Prelude.Option, Prelude.Some, Prelude.None, List.All, List.AllPairs, List.Contains}
use Rattle.place_plan.specs.declared.search.{Step.Step, Hold.Hold}

-- the net that has the j-th line
abbrev pub owner_at : List (Option ℕ) → ℕ → Option ℕ
owner_at owners j = slice_index_or owners j None

abbrev pub line_at : List ℕ → ℕ → ℕ
line_at lines j = slice_index_or lines j 0

abbrev pub no_step : Step
no_step = record { ask = 0; line = 0; from = 0 }

abbrev pub step_at : List Step → ℕ → Step
step_at steps h = slice_index_or steps h no_step

abbrev pub is_seen : List Bool → ℕ → Bool
is_seen seen j = slice_index_or seen j false

-- the nets that are done have lines of their own, and no others do
pub record IsPartial (serves : ℕ → ℕ → Bool) (lines done : List ℕ) (owners : List (Option ℕ)) : Type 0 where
  pub sized : length owners ≡ length lines
  pub serving : (j n : ℕ) → owner_at owners j ≡ Some n → (serves n (line_at lines j) ≡ true) × Contains done n
  pub apart : (i j n : ℕ) → owner_at owners i ≡ Some n → owner_at owners j ≡ Some n → i ≡ j
  pub has : All (λ n. (j : ℕ) × (owner_at owners j ≡ Some n)) done

-- Steps from a net without a line, over a line that serves it, to the net that has this line, and so on.
pub record IsTrail (serves : ℕ → ℕ → Bool) (lines : List ℕ) (owners : List (Option ℕ)) (steps : List Step) : Type 0 where
  pub some : 0 < length steps
  pub owned : (h : ℕ) → 0 < h → h < length steps → owner_at owners (step_at steps h).line ≡ Some (step_at steps h).ask
  pub back : (h : ℕ) → 0 < h → h < length steps → (step_at steps h).from < h
  pub served : (h : ℕ) → 0 < h → h < length steps →
      serves (step_at steps (step_at steps h).from).ask (line_at lines (step_at steps h).line) ≡ true
  pub apart : (i h : ℕ) → 0 < i → i < h → h < length steps → (step_at steps i).line ≢ (step_at steps h).line

-- the lines of the steps are marked as seen, and no others
pub record AreSeen (lines : List ℕ) (steps : List Step) (seen : List Bool) : Type 0 where
  pub sized : length seen ≡ length lines
  pub only : (j : ℕ) → is_seen seen j ≡ true → (h : ℕ) × (0 < h) × (h < length steps) × ((step_at steps h).line ≡ j)
  pub each : (h : ℕ) → 0 < h → h < length steps → is_seen seen (step_at steps h).line ≡ true
  pub few : length steps + count_by not seen ≡ suc (length lines)

-- the steps go on from those that there were
pub record GoesOn (old new : List Step) : Type 0 where
  pub longer : length old < suc (length new)
  pub same : (h : ℕ) → h < length old → step_at new h ≡ step_at old h

-- all lines that serve the first h nets are seen
abbrev pub AreScanned : (ℕ → ℕ → Bool) → List ℕ → List Step → List Bool → ℕ → Type 0
AreScanned serves lines steps seen h = (i j : ℕ) → i < h → j < length lines → serves (step_at steps i).ask (line_at lines j) ≡ true →
    is_seen seen j ≡ true

-- a line without a net that serves the net of a step
pub record IsFree (serves : ℕ → ℕ → Bool) (lines : List ℕ) (owners : List (Option ℕ)) (steps : List Step) (h j : ℕ) : Type 0 where
  pub step : h < length steps
  pub line : j < length lines
  pub free : owner_at owners j ≡ None
  pub serves_it : serves (step_at steps h).ask (line_at lines j) ≡ true

-- the lines before the j-th are looked at for the net of step h
pub record IsScanning (serves : ℕ → ℕ → Bool) (lines : List ℕ) (owners : List (Option ℕ)) (old steps : List Step) (seen : List Bool)
    (h net j : ℕ) : Type 0 where
  pub trail : IsTrail serves lines owners steps
  pub marks : AreSeen lines steps seen
  pub on : GoesOn old steps
  pub scanned : AreScanned serves lines steps seen h
  pub net_is : (step_at steps h).ask ≡ net
  pub upto : (i : ℕ) → i < j → serves net (line_at lines i) ≡ true → is_seen seen i ≡ true

-- the free line may go to the net of step h
pub record IsShifting (serves : ℕ → ℕ → Bool) (lines : List ℕ) (steps : List Step) (old owners : List (Option ℕ))
    (h free : ℕ) : Type 0 where
  pub sized : length owners ≡ length lines
  pub step : h < length steps
  pub owned : (i : ℕ) → 0 < i → i < suc h → owner_at owners (step_at steps i).line ≡ Some (step_at steps i).ask
  pub within : free < length lines
  pub empty : owner_at owners free ≡ None
  pub served : serves (step_at steps h).ask (line_at lines free) ≡ true
  pub kept : (done : List ℕ) → IsPartial serves lines done old → IsPartial serves lines done owners

-- The lines that serve a net of the steps are fewer than these nets.
pub record IsStuck (serves : ℕ → ℕ → Bool) (lines : List ℕ) (steps : List Step) : Type 0 where
  pub held : List ℕ
  pub fewer : length steps ≡ suc (length held)
  pub all : (i w : ℕ) → i < length steps → Contains lines w → serves (step_at steps i).ask w ≡ true → Contains held w

-- the picks of a list of owners, up to the j-th line
pub record ArePicks (lines : List ℕ) (owners : List (Option ℕ)) (picks : List Hold) (j : ℕ) : Type 0 where
  pub only : All (λ p. (i : ℕ) × (i < j) × (owner_at owners i ≡ Some p.ask) × (line_at lines i ≡ p.line)) picks
  pub each : (i n : ℕ) → i < j → owner_at owners i ≡ Some n → Contains picks (record { ask = n; line = line_at lines i })
  pub places : AllPairs (λ p q. (i k : ℕ) × (i < k) × (k < j) × (owner_at owners i ≡ Some p.ask) × (line_at lines i ≡ p.line)
      × (owner_at owners k ≡ Some q.ask) × (line_at lines k ≡ q.line)) picks

-- The steps of a search from this net that came to no free line.
pub record IsDeadEnd (serves : ℕ → ℕ → Bool) (lines : List ℕ) (owners : List (Option ℕ)) (net : ℕ) (steps : List Step) : Type 0 where
  pub trail : IsTrail serves lines owners steps
  pub first : (step_at steps 0).ask ≡ net
  pub stuck : IsStuck serves lines steps

-- from the free line j, lines may go from step to step back to the first
pub record CanShift (owners : List (Option ℕ)) (steps : List Step) (h j : ℕ) : Type 0 where
  pub step : h < length steps
  pub line : j < length owners
  pub owned : (i : ℕ) → 0 < i → i < length steps → owner_at owners (step_at steps i).line ≡ Some (step_at steps i).ask
  pub back : (i : ℕ) → 0 < i → i < length steps → (step_at steps i).from < i

-- all who are reached are among those who ask
abbrev pub AskWithin : ℕ → List Step → Type 0
AskWithin count steps = (h : ℕ) → h < length steps → (step_at steps h).ask < count

-- so are all who have lines
abbrev pub OwnWithin : ℕ → List (Option ℕ) → Type 0
OwnWithin count owners = (j n : ℕ) → owner_at owners j ≡ Some n → n < count

-- what is kept while lines go from step to step
pub record IsShiftingFor (steps : List Step) (from line : ℕ) (old owners : List (Option ℕ)) (h free : ℕ) : Type 0 where
  pub sized : length owners ≡ length old
  pub step : h < length steps
  pub within : free < length old
  pub shifting : (serves : ℕ → ℕ → Bool) (lines : List ℕ) → IsTrail serves lines old steps → IsFree serves lines old steps from line →
      length old ≡ length lines → IsShifting serves lines steps old owners h free

-- lines have gone from step to step, so that the one of the first step has one too
abbrev pub IsShifted : List Step → ℕ → ℕ → List (Option ℕ) → List (Option ℕ) → Type 0
IsShifted steps from line old new = (length new ≡ length old)
    × ((serves : ℕ → ℕ → Bool) (lines done : List ℕ) → IsTrail serves lines old steps → IsFree serves lines old steps from line →
    length old ≡ length lines →
    IsPartial serves lines done old → ¬ Contains done (step_at steps 0).ask →
    IsPartial serves lines (done ++ (step_at steps 0).ask ∷ []) new)
