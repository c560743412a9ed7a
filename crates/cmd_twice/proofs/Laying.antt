-- Where two copies of a design are laid.
use Rattle.std.proofs.Common.{◌≡◌, ◌+◌, ℕ, Bool, List, [], length, arith, Result, Ok, Err}
use Rattle.cmd_twice.proofs.Vocabulary.{All, DefectList, NetlistData, HasOneRows, ImageValue, Outside, StepStops, Took, Stop, Refused, Sink}
use Rattle.cmd_twice.proofs.Vocabulary.{lays_both, share, times, IsLaidOn, Two, half-of, IsImageForTwice, lays_twice, twice_laid}

even-of : (n k : ℕ) → k ≡ n + n → times Two (share Two k) ≡ k
even-of n k is = let half = half-of n k is in omega (arith, half, is)

module _ (d : DefectList) (draft : NetlistData) (one : (vectors : List (List Bool)) → All (λ v. length v ≡ length draft.inputs) vectors → HasOneRows draft vectors) where
  for-twice : (i : ImageValue) → (lays_both d draft draft).gives i → IsImageForTwice d draft i
  for-twice i is = record {
    both = is.0;
    room = is.1;
    shares = record { inputs = even-of (length draft.inputs) (length i.inputs) is.0.inputs; outputs = even-of (length draft.outputs) (length i.outputs) is.0.outputs };
    width = half-of (length draft.inputs) (length i.inputs) is.0.inputs;
    one = one;
  }

  stops-same : (stop : Stop) → StepStops (lays_both d draft draft) stop → StepStops (lays_twice d draft) stop
  stops-same (Refused refusal) stops = stops
  stops-same (Sink fail) stops = absurd stops

  pub twice-took : (result : Result ImageValue Stop) (o : Outside) → Took [] (lays_both d draft draft) result o o → Took [] (lays_twice d draft) result o o
  twice-took (Ok i) o took = record {
    later = took.later;
    silent = took.silent;
    asked = took.asked;
    place = took.place;
    gives = for-twice i took.gives;
    stops = tt;
    counted = tt;
  }
  twice-took (Err stop) o took = record {
    later = took.later;
    silent = took.silent;
    asked = took.asked;
    place = took.place;
    gives = tt;
    stops = stops-same stop took.stops;
    counted = took.counted;
  }

-- an image of two copies is what is laid
pub twice-on : (draft : NetlistData) (d : DefectList) (i : ImageValue) → IsImageForTwice d draft i → IsLaidOn (twice_laid draft) d i
twice-on draft d i is = record {
  image = is.both.image;
  shape = is.both.shape;
  shares = is.shares;
  inputs = is.width;
  free = is.both.free;
  right = is.both.right;
}
