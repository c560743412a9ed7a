-- Designs whose signals are labelled by literals of a graph.
use Rattle.std.specs.Prelude.{ℕ, ◌≡◌, ◌⊎◌, ◌==◌, ◌<◌, ◌+◌, ◌*◌, List, Bool, length, map, slice_index_or}
use Rattle.design_netlist.specs.declared.netlist_data.{NetlistData.NetlistData, LatchDef.LatchDef}
use Rattle.design_netlist.specs.Vocabulary.{cover_at, truth, signal_at, IsDriven, latch_at}
use Rattle.design_equal.specs.declared.graph.Graph.{Graph}
use Rattle.design_equal.specs.Graphs.{IsGraph, IsValued, first_latch, graph_latch_at, literal_in, node_count, node_of}

-- the label of a signal
abbrev pub label_at : List ℕ → ℕ → ℕ
label_at labels s = slice_index_or labels s 0

-- the bits that the labels of the signals have
abbrev pub signal_bits : (ℕ → Bool) → List ℕ → ℕ → Bool
signal_bits bits labels s = literal_in bits (label_at labels s)

-- the latch's output is labelled by latch k of the graph, not negated, which reads the label of the latch's input and begins as it
pub record IsLatchAt (g : Graph) (labels : List ℕ) (l : LatchDef) (k : ℕ) : Type 0 where
  pub within : k < length g.latches
  pub out : label_at labels l.out ≡ 2 * (first_latch g + k)
  pub from : (graph_latch_at g k).next ≡ label_at labels l.from
  pub init : (graph_latch_at g k).init ≡ l.init

-- the latch's output and its input are labelled by one constant, with which the latch begins
pub record IsConstantLatch (labels : List ℕ) (l : LatchDef) : Type 0 where
  pub out : label_at labels l.out < 2
  pub from : label_at labels l.from ≡ label_at labels l.out
  pub init : l.init ≡ (label_at labels l.out == 1)

abbrev pub IsLatchOf : Graph → List ℕ → LatchDef → Type 0
IsLatchOf g labels l = ((k : ℕ) × IsLatchAt g labels l k) ⊎ IsConstantLatch labels l

-- the k-th label is at signal k
pub record IsLabelled (g : Graph) (d : NetlistData) (labels : List ℕ) : Type 0 where
  pub graph : IsGraph g
  pub count : length labels ≡ length d.names
  pub within : (s : ℕ) → s < length labels → node_of (label_at labels s) < node_count g
  pub ports : g.inputs ≡ length d.inputs
  pub inputs : (k : ℕ) → k < length d.inputs → label_at labels (signal_at d.inputs k) ≡ 2 * (1 + k)
  pub truths : (i : ℕ) → i < length d.covers → (bits : ℕ → Bool) → IsValued g bits →
      signal_bits bits labels (cover_at d.covers i).out ≡ truth (signal_bits bits labels) (cover_at d.covers i)
  pub latches : (k : ℕ) → k < length d.latches → IsLatchOf g labels (latch_at d.latches k)
  pub others : (s : ℕ) → s < length d.names → (IsDriven d s → ⊥) → label_at labels s ≡ 0

-- the labels of the outputs, in order
abbrev pub output_labels : NetlistData → List ℕ → List ℕ
output_labels d labels = map (λ p. label_at labels p.signal) d.outputs

-- both designs are labelled by the graph, and their outputs have the same labels
pub record DoAgree (g : Graph) (a : NetlistData) (first : List ℕ) (b : NetlistData) (second : List ℕ) : Type 0 where
  pub first_is : IsLabelled g a first
  pub second_is : IsLabelled g b second
  pub outputs : output_labels a first ≡ output_labels b second
