-- What the crates above, and the proofs here, speak of.
pub use Rattle.base_io.specs.Counts.{Rose, next_count}
pub use Rattle.base_io.specs.Told.{IfTold, IsPresent, Told, absent, bytes_of, holds, untold}
pub use Rattle.base_io.specs.Store.{AreNext, IsFailure, ReadFails, StartFails, StorePlace, StoreState, moved, place_of, rest_of}
pub use Rattle.base_io.specs.Sink.{PutFails, SinkState, Wrote}
pub use Rattle.base_io.specs.Whole.{IsFront, IsWithin, WholeFails}
