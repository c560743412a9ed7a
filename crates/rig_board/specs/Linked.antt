-- What is kept beside a board.
use Rattle.std.specs.Prelude.{◌≡◌, true, Option, Some}
use Rattle.std.specs.Option.{ForSome}
use Rattle.machine_shape.specs.{declared.Shape.Shape, Shape.pins_of}
use Rattle.machine_meaning.specs.Faults.{AreFaultsOf}
use Rattle.rig_board.specs.{Boards.BoardState, Device.IsInSession, declared.kept.Kept.Kept, Kept.session_of, Rows.AreBlank}

-- the session that is kept is the board's, and the rows that are kept for it are as wide as the machine
pub record IsAlongside (b : BoardState) (k : Kept) : Type 0 where
  pub ready : b.in_session ≡ true
  pub wide : AreBlank (pins_of k.shape) k.blank.items
  pub told : ForSome b.device (IsInSession (session_of k).config (session_of k).cycles)

-- the machine that is attached is the one that the board found
pub record IsLinked (b : BoardState) (attached : Option Shape) (kept : Option Kept) : Type 0 where
  pub found : ForSome attached (λ m. b.found ≡ Some m)
  pub faults : ForSome attached (λ m. ForSome b.device (λ d. AreFaultsOf m d.faults))
  pub session : ForSome kept (λ k. (attached ≡ Some k.shape) × IsAlongside b k)
