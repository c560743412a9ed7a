-- What ticks have left so far.
use Rattle.rig_simulated.proofs.Vocabulary.{◌≡◌, ◌∙◌, ℕ, ◌+◌, Bool, List, length, refl, Faults, ClassNode, Gate, Events, Fits, IsClear}
use Rattle.rig_simulated.proofs.Vocabulary.{level_at, IsTick, HaveTicked, not_yet, AreStill, IsSound}
use Rattle.std.specs.List.{All}
use Rattle.rig_simulated.proofs.Periods.{ticked_more}

-- n ticks, each of which evaluated all tables
pub record AreTicked (t : ℕ) (f : Faults) (knots : List ClassNode) (low_pins low_tables : List Bool) (first gates : List Gate) (n : ℕ) : Type 0 where
  pub fits : All (Fits t (length knots)) gates
  pub tables : length low_tables ≡ length knots
  pub clear : IsClear low_tables
  pub ticked : HaveTicked f knots low_pins first n gates

-- n ticks, each of which evaluated the tables that were listed
pub record AreTickedListed (t : ℕ) (f : Faults) (knots : List ClassNode) (low_pins low_tables : List Bool) (first gates : List Gate) (before e : Events) (n : ℕ) : Type 0 where
  pub fits : All (Fits t (length knots)) gates
  pub tables : length low_tables ≡ length knots
  pub flips : length e.flips.items ≡ length gates
  pub sound : IsSound gates e.readers e.queue e.pulls.items low_tables
  pub still : AreStill f (level_at knots low_pins low_tables) gates e.queue.marks.items
  pub ticked : HaveTicked f knots low_pins first n gates
  pub listed : e.listed ≡ before.listed

module _ {t : ℕ} {f : Faults} {knots : List ClassNode} {low_pins low_tables : List Bool} {gates : List Gate} (fits : All (Fits t (length knots)) gates) (tables : length low_tables ≡ length knots) where
  pub ticks_begin : IsClear low_tables → AreTicked t f knots low_pins low_tables gates gates 0
  ticks_begin clear = record { fits = fits; tables = tables; clear = clear; ticked = not_yet }

  pub ticks_more : {low : List Bool} {first mid : List Gate} {n : ℕ} → AreTicked t f knots low_pins low first mid n → IsClear low_tables → IsTick f knots low_pins mid gates → AreTicked t f knots low_pins low_tables first gates (n + 1)
  ticks_more so_far clear tick = record { fits = fits; tables = tables; clear = clear; ticked = ticked_more so_far.ticked tick }

  module _ {e : Events} (flips : length e.flips.items ≡ length gates) (sound : IsSound gates e.readers e.queue e.pulls.items low_tables) (still : AreStill f (level_at knots low_pins low_tables) gates e.queue.marks.items) where
    pub listed_begin : AreTickedListed t f knots low_pins low_tables gates gates e e 0
    listed_begin = record { fits = fits; tables = tables; flips = flips; sound = sound; still = still; ticked = not_yet; listed = refl }

    pub listed_more : {low : List Bool} {first mid : List Gate} {before old : Events} {n : ℕ} → AreTickedListed t f knots low_pins low first mid before old n → IsTick f knots low_pins mid gates → e.listed ≡ old.listed →
        AreTickedListed t f knots low_pins low_tables first gates before e (n + 1)
    listed_more so_far tick same = record { fits = fits; tables = tables; flips = flips; sound = sound; still = still; ticked = ticked_more so_far.ticked tick; listed = same ∙ so_far.listed }
