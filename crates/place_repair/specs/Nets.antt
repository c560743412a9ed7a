-- The nets of an image: the groups of wires that its closed crosspoints join.
use Rattle.std.specs.Prelude.{◌≡◌, ℕ, ◌<◌, ◌≤◌, true, List, length, ◌++◌, IsSome}
use Rattle.std.specs.List.{Contains}
use Rattle.machine_shape.specs.Shape.{ends_of, pin_wire, table_wire}
use Rattle.machine_meaning.specs.Vocabulary.{Joined, plain_net, Defects, IsFreeWire, IsFreeCross, IsFreeTable}
use Rattle.machine_config.specs.Configuration.{Configuration, is_closed, setting_of}
use Rattle.machine_image.specs.Images.{ImageValue}
use Rattle.place_plan.specs.Lists.{AreThose, nth_of}

-- closed crosspoints lead from one wire to the other
abbrev pub HangTogether : Configuration → ℕ → ℕ → Type 0
HangTogether g a b = Joined (plain_net g.shape (is_closed g)) a b

-- the wire is an end of a closed crosspoint
pub data IsEnd (g : Configuration) (w : ℕ) : Type 0 where
  as_tap : (x : ℕ) → is_closed g x ≡ true → (ends_of g.shape x).0 ≡ w → IsEnd g w
  as_line : (x : ℕ) → is_closed g x ≡ true → (ends_of g.shape x).1 ≡ w → IsEnd g w

-- it is the lowest of its net
pub record IsLowest (g : Configuration) (w : ℕ) : Type 0 where
  pub touched : IsEnd g w
  pub least : (u : ℕ) → HangTogether g w u → w ≤ u

-- net k has the wire, where these are the lowest wires of the nets
abbrev pub HasWire : Configuration → List ℕ → ℕ → ℕ → Type 0
HasWire g lowest k w = (k < length lowest) × HangTogether g (nth_of lowest k) w

-- nets are numbered by their lowest wires, and each wire that a closed crosspoint touches is of one
pub record AreNumbered (g : Configuration) (lowest : List ℕ) : Type 0 where
  pub lowest_are : AreThose (IsLowest g) lowest
  pub each : (w : ℕ) → IsEnd g w → (k : ℕ) × HasWire g lowest k w

-- The net can stay as it is: its wires and its closed crosspoints are free, and so are the image's pins and the switched-on tables
-- that it has a wire of.
pub record IsKept (d : Defects) (i : ImageValue) (lowest : List ℕ) (k : ℕ) : Type 0 where
  pub within : k < length lowest
  pub wires : (w : ℕ) → HasWire i.config lowest k w → IsFreeWire d w
  pub crosses : (x : ℕ) → is_closed i.config x ≡ true → HasWire i.config lowest k (ends_of i.config.shape x).0 →
      IsFreeCross i.config.shape d x
  pub pins : (p : ℕ) → Contains (i.inputs ++ i.outputs) p → HasWire i.config lowest k (pin_wire i.config.shape p) →
      IsFreeWire d (pin_wire i.config.shape p)
  pub tables : (t j : ℕ) → IsSome (setting_of i.config t) → j < 7 → HasWire i.config lowest k (table_wire i.config.shape t j) →
      IsFreeTable i.config.shape d t
