-- How the word of a cover's output follows from those of its inputs: steps, each of which has the word of a node.
use Rattle.std.specs.Prelude.{ℕ, ◌≡◌, ◌<◌, ◌≤◌, ◌+◌, ◌-◌, ◌%◌, List, Bool, length, slice_index_or, if◌then◌else◌, nat_lt}
use Rattle.design_netlist.specs.{declared.netlist_data.Cover.Cover, Vocabulary.truth, Vocabulary.is_bit, Vocabulary.number_at}
use Rattle.design_equal.specs.{declared.graph.Graph.Graph, declared.plan.Step.Step, Labels.label_at, Labels.signal_bits}
use Rattle.design_equal.specs.{declared.plan.Plan.Plan, Graphs.IsValued, Graphs.and_at, Graphs.first_and, Graphs.literal_in, Graphs.node_of}
use Rattle.design_equal.specs.declared.plan.Source.{Source, TheVariants.Zero, TheVariants.Pin, TheVariants.Gate}

abbrev pub step_at : List Step → ℕ → Step
step_at steps k = slice_index_or steps k (record { node = 0; from = Zero })

abbrev pub step_node : List Step → ℕ → ℕ
step_node steps k = (step_at steps k).node

-- a literal of a step, twice its place or one more, stands for one of the graph
pub record StandsFor (steps : List Step) (below local literal : ℕ) : Type 0 where
  pub within : node_of local < below
  pub node : step_node steps (node_of local) ≡ node_of literal
  pub sign : local % 2 ≡ literal % 2

-- the node is an AND of the graph, and both literals stand for what it reads
pub record IsGate (g : Graph) (steps : List Step) (below node left right k : ℕ) : Type 0 where
  pub within : k < length g.ands
  pub at : node ≡ first_and g + k
  pub one : StandsFor steps below left (and_at g k).left
  pub other : StandsFor steps below right (and_at g k).right

-- where a node's word comes from: it is the constant, one of the pins, or an AND of earlier steps
abbrev pub IsFrom : Graph → List ℕ → List Step → ℕ → ℕ → Source → Type 0
IsFrom g pins steps below node Zero = node ≡ 0
IsFrom g pins steps below node (Pin pin) = (pin < length pins) × (number_at pins pin ≡ node)
IsFrom g pins steps below node (Gate left right) = (k : ℕ) × IsGate g steps below node left right k

abbrev pub AreSteps : Graph → List ℕ → List Step → Type 0
AreSteps g pins steps = (i : ℕ) → i < length steps → IsFrom g pins steps i (step_at steps i).node (step_at steps i).from

abbrev pub AreInputs : List Step → List ℕ → List ℕ → List ℕ → Type 0
AreInputs steps places ins labels = (k : ℕ) → k < length ins →
    StandsFor steps (length steps) (number_at places k) (label_at labels (number_at ins k))

pub record IsPlan (g : Graph) (labels : List ℕ) (c : Cover) (p : Plan) : Type 0 where
  pub few : length p.pins.items ≤ 14
  pub steps : AreSteps g p.pins.items p.steps.items
  pub ins : AreInputs p.steps.items p.ins.items c.ins labels
  pub root : StandsFor p.steps.items (length p.steps.items) p.root (label_at labels c.out)

-- the bit of a pin in a lane of a pass: six are spelled by the lane, and the others by the pass
abbrev pub pin_bit : ℕ → ℕ → ℕ → Bool
pin_bit pass lane pin = if nat_lt pin 6 then is_bit lane pin else is_bit pass (pin - 6)

-- the pins' nodes have these bits in the lane of the pass
pub record AreAt (g : Graph) (pins : List ℕ) (pass lane : ℕ) (bits : ℕ → Bool) : Type 0 where
  pub valued : IsValued g bits
  pub within : lane < 64
  pub spelled : (pin : ℕ) → pin < length pins → bits (number_at pins pin) ≡ pin_bit pass lane pin

-- the first words are those of the steps' nodes
abbrev pub HaveWords : Graph → List ℕ → List Step → ℕ → List ℕ → ℕ → Type 0
HaveWords g pins steps pass words count = (bits : ℕ → Bool) (lane : ℕ) → AreAt g pins pass lane bits → (i : ℕ) → i < count →
    is_bit (number_at words i) lane ≡ bits (step_node steps i)

-- the signals that are read first have the words of their labels
abbrev pub HaveInputs : Graph → List ℕ → ℕ → List ℕ → List ℕ → List ℕ → ℕ → Type 0
HaveInputs g pins pass ins labels words count = (bits : ℕ → Bool) (lane : ℕ) → AreAt g pins pass lane bits → (k : ℕ) → k < count →
    is_bit (number_at words (number_at ins k)) lane ≡ literal_in bits (label_at labels (number_at ins k))

-- the label of the output has the cover's truth where the signals have the bits of their labels
abbrev pub IsTrueAt : List ℕ → Cover → (ℕ → Bool) → Type 0
IsTrueAt labels c bits = signal_bits bits labels c.out ≡ truth (signal_bits bits labels) c

-- it has so in all lanes of the pass
abbrev pub IsMetIn : Graph → List ℕ → List ℕ → Cover → ℕ → Type 0
IsMetIn g pins labels c pass = (bits : ℕ → Bool) (lane : ℕ) → AreAt g pins pass lane bits → IsTrueAt labels c bits

-- it has so in every valuation
abbrev pub IsMet : Graph → List ℕ → Cover → Type 0
IsMet g labels c = (bits : ℕ → Bool) → IsValued g bits → IsTrueAt labels c bits
