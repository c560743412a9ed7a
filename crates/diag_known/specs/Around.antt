-- What was looked at around wires that stand.
use Rattle.std.specs.Prelude.{◌≡◌, ℕ, ◌<◌, Bool, true, Option, List}
use Rattle.machine_shape.specs.{declared.Shape.Shape, Shape.Ends, Shape.crosses_of, Shape.ends_of, Shape.line_at, Shape.lines_of, Shape.tap_at, Shape.taps_of}
use Rattle.diag_evidence.specs.Kept.{Kept, keeps_cross}
use Rattle.diag_known.specs.{Grounds.IsSettled, Known.IsBefore, Known.KnownWires}
use Rattle.diag_known.specs.declared.{looks.Across.Across, verified_wire.Support.Support}
use Rattle.diag_known.specs.declared.looks.Across.TheVariants as across

-- how many lines or taps a node has, and the one at a place
abbrev pub across_of : Shape → Across → ℕ → ℕ
across_of m across.Lines n = lines_of m n
across_of m across.Taps n = taps_of m n

abbrev pub across_at : Shape → Across → ℕ → ℕ → ℕ
across_at m across.Lines n i = line_at m n i
across_at m across.Taps n i = tap_at m n i

-- the ends of the crosspoint of a wire with a line or tap that it crosses
abbrev pub ends_by : Across → ℕ → ℕ → ℕ × ℕ
ends_by across.Lines u w = (u, w)
ends_by across.Taps u w = (w, u)

-- by kept crosspoints with these ends the wire is settled to one that stands
pub record IsLookedAt (k : Kept) (left : List Bool) (feet : List (Option Support)) (u w : ℕ) (ends : ℕ × ℕ) : Type 0 where
  pub at : (x : ℕ) → x < crosses_of k.shape → keeps_cross k x ≡ true → ends_of k.shape x ≡ ends → IsSettled left feet w u

-- .. and so are the first lines or taps of a node
abbrev pub AreLookedAcross : Kept → List Bool → List (Option Support) → Across → ℕ → ℕ → ℕ → Type 0
AreLookedAcross k left feet a u n count = (i : ℕ) → i < count → IsLookedAt k left feet u (across_at k.shape a n i) (ends_by a u (across_at k.shape a n i))

-- each wire to which a kept crosspoint leads from this one is settled
pub record IsLookedFrom (k : Kept) (left : List Bool) (feet : List (Option Support)) (u : ℕ) : Type 0 where
  pub at : (x w : ℕ) → x < crosses_of k.shape → keeps_cross k x ≡ true → Ends (ends_of k.shape x) u w → IsSettled left feet w u

-- .. from each of the first wires that stand
abbrev pub AreLooked : Kept → KnownWires → List Bool → List (Option Support) → ℕ → Type 0
AreLooked k known left feet n = (u : ℕ) → IsBefore known.steps n u → IsLookedFrom k left feet u
