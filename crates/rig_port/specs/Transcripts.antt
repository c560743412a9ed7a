-- What was said over a port, and which machines it can have come from.
use Rattle.std.specs.Prelude.{◌≡◌, ℕ, List, [], ◌∷◌, ◌++◌, All, Option, None, Some}
use Rattle.machine_shape.specs.declared.Shape.{Shape}
use Rattle.machine_meaning.specs.Faults.{Faults, AreFaultsOf}
use Rattle.rig_board.specs.Device.{Device}
use Rattle.rig_port.specs.{declared.check.Check.Check, Answers.Answers, Requests.IsRequestOf, Said.Said, Said.Sent, Said.answered}

-- a transcript with one more behind
abbrev pub and_said : List Said → List ℕ → List ℕ → List Said
and_said talk request line = talk ++ record { request = request; line = line } ∷ []

-- what a port was asked, with one request more behind, and the line that answered it, if one did
abbrev pub and_sent : List Sent → List ℕ → Option (List ℕ) → List Sent
and_sent talk request line = talk ++ record { request = request; line = line } ∷ []

-- from one device to another there are devices, one in front of each of these and one behind it, that answer so
abbrev pub HasSaid : Device → Check → List Said → Device → Check → Type 0
HasSaid d c [] e k = (d ≡ e) × (c ≡ k)
HasSaid d c (s ∷ more) e k = (f : Device) × (b : Check) × Answers d c s.request s.line f b × HasSaid f b more e k

-- a machine of this shape with these faults may stand so behind what was said
pub record MayStand (m : Shape) (f : Faults) (talk : List Said) (e : Device) (k : Check) : Type 0 where
  pub first : Device
  pub check : Check
  pub shape : first.shape ≡ m
  pub faults : first.faults ≡ f
  pub said : HasSaid first check talk e k

-- these faults of a machine of this shape explain what was said
pub record ExplainsTalk (m : Shape) (f : Faults) (talk : List Said) : Type 0 where
  pub faults : AreFaultsOf m f
  pub last : Device
  pub check : Check
  pub stands : MayStand m f talk last check

-- each machine that may stand behind what was said since comes from one that may have stood there before, of which this is said
abbrev pub Behind : (Device → Check → Device → Check → Type 0) → List Said → List Said → Type 0
Behind R was now = (m : Shape) (f : Faults) (e : Device) (k : Check) → MayStand m f now e k →
    (d : Device) × (c : Check) × MayStand m f was d c × R d c e k

-- these are some of those, in their order
pub data IsAmong : List Said → List Said → Type 0 where
  neither : IsAmong [] []
  both : {xs ys : List Said} (s : Said) → IsAmong xs ys → IsAmong (s ∷ xs) (s ∷ ys)
  passed : {xs ys : List Said} (s : Said) → IsAmong xs ys → IsAmong xs (s ∷ ys)

-- a board's transcript and what its port was asked went on: what came to the one is among what was answered of the other, and all that
-- was sent are requests to a machine of this shape
pub record GoOn (m : Shape) (taken taken_now : List Said) (heard heard_now : List Sent) : Type 0 where
  pub more : List Said
  pub all : List Sent
  pub taken_is : taken_now ≡ taken ++ more
  pub heard_is : heard_now ≡ heard ++ all
  pub among : IsAmong more (answered all)
  pub requests : All (λ s. IsRequestOf m s.request) all

-- the same to the machine that was found, and one was
abbrev pub GoOnFor : Option Shape → List Said → List Said → List Sent → List Sent → Type 0
GoOnFor None taken taken_now heard heard_now = ⊥
GoOnFor (Some m) taken taken_now heard heard_now = GoOn m taken taken_now heard heard_now
