-- Forests: wires that hang on pins of the machine, over crosspoints.
use Rattle.std.specs.Prelude.{◌≡◌, ◌≢◌, ℕ, ◌<◌, Bool, true, Option, Some, None, IsSome, is_some, List, [], ◌∷◌, ◌++◌, length, replicate}
use Rattle.std.specs.Prelude.{slice_index_or, slice_set, refl}
use Rattle.std.specs.Coded.{Coded, code_by, coded×, coded_ℕ, coded_list, coded_option}
use Rattle.base_bits.specs.Numbers.{has_number}
use Rattle.machine_shape.specs.contracts.Shape as shape
use Rattle.machine_shape.specs.declared.{Shape.Shape, Cross.Cross}
use Rattle.machine_shape.specs.Shape.{Ends, ends_of, pin_wire, pins_of, wires_of, crosses_of}
use Rattle.machine_config.specs.Vocabulary.{among, LeadsTo}
use Rattle.diag_tests.specs.Routes.{cross_numbers}
use Rattle.diag_evidence.specs.Kept.{Kept, keeps_cross, keeps_wire, keeps_pair}

-- for each wire the pin on which it hangs, if it hangs, and the crosspoints
pub record Trees : Type 0 where
  pub shape : Shape
  pub pins : List (Option ℕ)
  pub crosses : List Cross

-- codes, by which a proof tells these values apart
abbrev pub coded_cross : Coded Cross
coded_cross = code_by ℕ coded_ℕ (λ c. c.0) (λ n. record { 0 = n }) (λ _. refl)

abbrev pub coded_trees : Coded Trees
coded_trees = code_by (Shape × (List (Option ℕ) × List Cross))
    (coded× shape.the_row.coded (coded× (coded_list (coded_option coded_ℕ)) (coded_list coded_cross)))
    (λ t. (t.shape, (t.pins, t.crosses))) (λ p. record { shape = p.0; pins = p.1.0; crosses = p.1.1 }) (λ _. refl)

-- the pin on which a wire hangs
abbrev pub pin_of : Trees → ℕ → Option ℕ
pin_of trees w = slice_index_or trees.pins w None

abbrev pub HangsOn : Trees → ℕ → ℕ → Type 0
HangsOn trees w pin = pin_of trees w ≡ Some pin

abbrev pub is_hung : Trees → ℕ → Bool
is_hung trees w = is_some (pin_of trees w)

-- marks of the wires that hang
pub record MarksHung (trees : Trees) (marks : List Bool) : Type 0 where
  pub len : length marks ≡ wires_of trees.shape
  pub each : (w : ℕ) → has_number marks w ≡ is_hung trees w

-- whether a crosspoint is one of the forest's
abbrev pub is_laid : Trees → ℕ → Bool
is_laid trees x = among (cross_numbers trees.crosses) x

-- both ends of a crosspoint hang on one pin
pub record IsOfTree (trees : Trees) (x : ℕ) : Type 0 where
  pub below : x < crosses_of trees.shape
  pub pin : ℕ
  pub tap : HangsOn trees (ends_of trees.shape x).0 pin
  pub line : HangsOn trees (ends_of trees.shape x).1 pin

-- crosspoints of the forest lead from a pin to a wire
pub record IsLedOver (trees : Trees) (w pin : ℕ) : Type 0 where
  pub below : pin < pins_of trees.shape
  pub crosses : List ℕ
  pub wires : List ℕ
  pub leads : LeadsTo trees.shape (pin_wire trees.shape pin) crosses wires w
  pub laid : (x : ℕ) → among crosses x ≡ true → is_laid trees x ≡ true

-- Each wire that hangs is led to its pin over crosspoints of the forest, whose ends hang on one pin each. A pin of the machine that
-- hangs does so on itself.
pub record IsForest (trees : Trees) : Type 0 where
  pub wires : length trees.pins ≡ wires_of trees.shape
  pub crosses : (x : ℕ) → is_laid trees x ≡ true → IsOfTree trees x
  pub led : (w pin : ℕ) → HangsOn trees w pin → IsLedOver trees w pin
  pub pins : (k pin : ℕ) → k < pins_of trees.shape → HangsOn trees (pin_wire trees.shape k) pin → pin ≡ k

-- nothing hangs
abbrev pub bare : Shape → Trees
bare m = record { shape = m; pins = replicate (wires_of m) None; crosses = [] }

-- a pin hangs on itself besides
abbrev pub with_planted : Trees → ℕ → Trees
with_planted trees k = record trees { pins = slice_set trees.pins (pin_wire trees.shape k) (Some k) }

-- over the crosspoint the second wire hangs where the first does
abbrev pub with_laid : Trees → Cross → ℕ → ℕ → Trees
with_laid trees x from to = record trees { pins = slice_set trees.pins to (pin_of trees from); crosses = trees.crosses ++ x ∷ [] }

-- The crosspoint is kept and leads from the first wire, which hangs, to the second, which doesn't and is no pin of the machine.
pub record CanLay (k : Kept) (trees : Trees) (x from to : ℕ) : Type 0 where
  pub kept : keeps_cross k x ≡ true
  pub ends : Ends (ends_of trees.shape x) from to
  pub hangs : IsSome (pin_of trees from)
  pub loose : pin_of trees to ≡ None
  pub no_pin : (j : ℕ) → j < pins_of trees.shape → pin_wire trees.shape j ≢ to

-- the crosspoints are kept
pub record KeepsForest (k : Kept) (trees : Trees) : Type 0 where
  pub shape : trees.shape ≡ k.shape
  pub crosses : (x : ℕ) → is_laid trees x ≡ true → keeps_cross k x ≡ true

-- .. and so are all wires that hang, and each two of them a kept pair
pub record KnowsForest (k : Kept) (trees : Trees) : Type 0 where
  pub keeps : KeepsForest k trees
  pub wires : (w pin : ℕ) → HangsOn trees w pin → keeps_wire k w ≡ true
  pub pairs : (w u pin other : ℕ) → HangsOn trees w pin → HangsOn trees u other → w ≢ u → keeps_pair k w u ≡ true
