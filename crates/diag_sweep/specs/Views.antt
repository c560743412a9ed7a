-- Looks in which wires that aren't known hang over one crosspoint each.
use Rattle.std.specs.Prelude.{◌≡◌, ℕ, true, List, All}
use Rattle.base_bits.specs.Numbers.{has_number}
use Rattle.machine_shape.specs.Shape.{pins_of}
use Rattle.diag_evidence.specs.Vocabulary.{KnowsForest, Trees, is_hung, AreFeet, Kept}
use Rattle.diag_known.specs.{Known.HasWire, declared.field.Field.Field, declared.verified_wire.VerifiedWire.VerifiedWire}
use Rattle.diag_sweep.specs.declared.telling.View.{View}

-- The look may be made: what hangs on the forest is kept and known, the feet may be hung on it together, and their wires are of the field.
pub record CanTell (k : Kept) (ss : List VerifiedWire) (a : Field) (trees : Trees) (view : View) : Type 0 where
  pub knows : KnowsForest k trees
  pub known : (w : ℕ) → is_hung trees w ≡ true → HasWire ss w
  pub feet : AreFeet trees view.told.feet.items
  pub field : All (λ foot. has_number a.wires foot.0.0 ≡ true) view.told.feet.items
  pub reads : view.reads.pins ≡ pins_of k.shape
