-- Frames of the work list, as lines that are left.
use Rattle.std.specs.Prelude.{ℕ, ◌≡◌, ◌≤◌, ◌+◌, false, true, Option, Some, None, List, [], ◌∷◌, ◌++◌, map, drop}
use Rattle.design_flatten.specs.declared.{model.Model.Model, frames.Frame.Frame, frames.Found.Found, sink.Sink.Sink}
use Rattle.design_flatten.specs.declared.{model.Signal.Signal, refusal.Refusal.TheVariants.Memory, refusal.Refusal.TheVariants.Limit}
use Rattle.design_flatten.specs.{declared.refusal.Refusal.Refusal, Substitution.given, Substitution.through, Substitution.is_left}
use Rattle.design_flatten.specs.{Lines.Pair, Lines.UsePart, Lines.Line, Lines.with_places, Given.looked_up, Given.place_of, Signals.is_over}
use Rattle.design_flatten.specs.{Bodies.lean_in, Netlists.origin_of, Sinks.IsSink}

-- the way to the model that replaced a line
abbrev pub way_to : List Model → ℕ → List ℕ
way_to models k = (origin_of models k).way

-- the lines of a frame from one on, where so many in front use models
abbrev pub left_from : List ℕ → Frame → ℕ → ℕ → List (Line Signal)
left_from way f next uses = map (through (place_of f.given way) f.names.now) (with_places uses (drop next (map lean_in f.lines.now)))

abbrev pub left_in : List ℕ → Frame → List (Line Signal)
left_in way f = left_from way f f.next f.uses

-- the lines that are left, those of the last frame first
abbrev pub left_of : List Model → List Frame → List (Line Signal)
left_of models [] = []
left_of models (f ∷ frames) = left_of models frames ++ left_in (way_to models f.given.used) f

-- the frames stand for lines up to the n-th that was replaced, and passed no more than these
abbrev pub AreFrames : ℕ → List Frame → Type 0
AreFrames n [] = Unit {0}
AreFrames n (f ∷ frames) = (f.given.used ≤ n) × (f.uses ≤ n) × AreFrames n frames

abbrev pub use_line : ℕ → List ℕ → List (Pair Signal) → List ℕ → Line Signal
use_line number m pairs way = record { number = number; part = UsePart m pairs way }

-- the lines up to the next use are placed, and what it gives is known, as for replaced line k
abbrev pub IsPlaced : List ℕ → ℕ → Frame → List (Line Signal) → List (Line Signal) → Option Found → Type 0
IsPlaced way k f before after None = before ++ left_in way f ≡ after
IsPlaced way k f before after (Some u) =
    (number : ℕ)
    × (pairs : List (Pair Signal))
    × (u.given.used ≡ k)
    × ((w : List ℕ) → looked_up u.given w ≡ given pairs w)
    × (before ++ left_in way f ≡ after ++ use_line number u.model.now pairs (way ++ f.uses ∷ []) ∷ left_from way f u.next (f.uses + 1))

-- a part in front, in which no use is left, is beyond a limit
abbrev pub IsOverIn : List (Line Signal) → Refusal → Type 0
IsOverIn lines Memory = Unit {0}
IsOverIn lines Limit =
    (front : List (Line Signal)) × (back : List (Line Signal)) × (lines ≡ front ++ back) × (is_left front ≡ false) × (is_over front ≡ true)

-- whatever lines there were, those up to the next use are put behind them
abbrev pub ArePlaced : List ℕ → ℕ → Frame → Sink → Sink → Option Found → Type 0
ArePlaced way k f old new u =
    (names : List (List ℕ)) (before : List (Line Signal)) → IsSink names before old → (after : List (Line Signal))
    × IsSink names after new × IsPlaced way k f before after u

abbrev pub AreOverIn : List ℕ → Frame → Sink → Refusal → Type 0
AreOverIn way f old e =
    (names : List (List ℕ)) (before : List (Line Signal)) → IsSink names before old → IsOverIn (before ++ left_in way f) e
