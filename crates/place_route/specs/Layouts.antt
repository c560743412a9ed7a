-- When the nets of a network that sits on a machine are laid on free parts of it.
use Rattle.std.specs.Prelude.{◌≡◌, ℕ, ◌<◌, ◌≤◌, true, Some, IsSome, length}
use Rattle.machine_shape.specs.{Shape.ends_of, Shape.crosses_of, Shape.pin_wire, Shape.table_wire, declared.Shape.Shape}
use Rattle.machine_meaning.specs.Vocabulary.{Joined, plain_net, Defects, IsFreeCross}
use Rattle.machine_config.specs.{declared.Setting.Setting, Configuration.Configuration, Configuration.is_closed, Configuration.setting_of}
use Rattle.machine_image.specs.Images.{ImageValue}
use Rattle.map_network.specs.{declared.network.NetTable.NetTable, declared.network.Network.Network, Networks.table_at}
use Rattle.place_plan.specs.{declared.plan.Plan.Plan, Vocabulary.nth_of, Vocabulary.place_of, Vocabulary.IsTerminal, Vocabulary.IsPlan}

-- what a table of the machine does for a table of the network
abbrev pub setting_in : NetTable → Setting
setting_in t = record { cells = t.cells; latched = t.latched; init = t.init }

-- the wire of pin k of table j, and that of output o
abbrev pub reader_of : Shape → Plan → ℕ → ℕ → ℕ
reader_of m p j k = table_wire m (place_of p j) k

abbrev pub shower_of : Shape → Plan → ℕ → ℕ
shower_of m p o = pin_wire m (nth_of p.outputs o)

-- the tables that are on are the plan's, each as its table of the network has it, and what is closed is free
pub record IsSet (d : Defects) (n : Network) (p : Plan) (g : Configuration) : Type 0 where
  pub settings : (j : ℕ) → j < length n.tables → setting_of g (place_of p j) ≡ Some (setting_in (table_at n j))
  pub no_others : (t : ℕ) → IsSome (setting_of g t) → (j : ℕ) × (j < length n.tables) × (place_of p j ≡ t)
  pub crosses : (x : ℕ) → is_closed g x ≡ true → (x < crosses_of g.shape) × IsFreeCross g.shape d x

-- Where `has k w` says that net k has the wire w: no wire is of two nets, a closed crosspoint has both ends in one
-- net, a net has its terminals, which hang together, and a table's pin without an input is of no net.
pub record IsWired (n : Network) (p : Plan) (g : Configuration) (has : ℕ → ℕ → Type 0) : Type 0 where
  pub apart : (k l w : ℕ) → has k w → has l w → k ≡ l
  pub one_net : (x : ℕ) → is_closed g x ≡ true → (k : ℕ) × has k (ends_of g.shape x).0 × has k (ends_of g.shape x).1
  pub owned : (k w : ℕ) → IsTerminal g.shape n p k w → has k w
  pub together : (k w u : ℕ) → IsTerminal g.shape n p k w → IsTerminal g.shape n p k u → Joined (plain_net g.shape (is_closed g)) w u
  pub idle : (j k : ℕ) → j < length n.tables → length (table_at n j).ins ≤ k → k < 6 → (l : ℕ) → ¬ has l (reader_of g.shape p j k)

pub record IsLaidOut (d : Defects) (n : Network) (p : Plan) (g : Configuration) (has : ℕ → ℕ → Type 0) : Type 0 where
  pub plan : IsPlan g.shape d n p
  pub set : IsSet d n p g
  pub wired : IsWired n p g has

-- the image of a configuration with the plan's pins
abbrev pub image_at : Plan → Configuration → ImageValue
image_at p g = record { config = g; inputs = p.inputs; outputs = p.outputs }
