-- Graphs of ANDs. Node 0 is the constant 0, then come the inputs, the latches and the ANDs, each in order. A literal is twice the
-- number of a node, or one more, which negates it.
use Rattle.std.specs.Prelude.{ℕ, ◌≡◌, ◌==◌, ◌<◌, ◌+◌, ◌/◌, ◌%◌, ◌&&◌, not, Bool, false, length, if◌then◌else◌, slice_index_or}
use Rattle.design_equal.specs.declared.graph.{And.And, Graph.Graph, GraphLatch.GraphLatch}

abbrev pub and_at : Graph → ℕ → And
and_at g k = slice_index_or g.ands k (record { left = 0; right = 0 })

abbrev pub graph_latch_at : Graph → ℕ → GraphLatch
graph_latch_at g k = slice_index_or g.latches k (record { next = 0; init = false })

-- the node of the first latch, and that of the first AND
abbrev pub first_latch : Graph → ℕ
first_latch g = 1 + g.inputs

abbrev pub first_and : Graph → ℕ
first_and g = first_latch g + length g.latches

abbrev pub node_count : Graph → ℕ
node_count g = first_and g + length g.ands

abbrev pub node_of : ℕ → ℕ
node_of literal = literal / 2

-- both literals of an AND are of lower nodes, and all literals are of nodes of the graph
pub record IsGraph (g : Graph) : Type 0 where
  pub lefts : (k : ℕ) → k < length g.ands → node_of (and_at g k).left < first_and g + k
  pub rights : (k : ℕ) → k < length g.ands → node_of (and_at g k).right < first_and g + k
  pub nexts : (k : ℕ) → k < length g.latches → node_of (graph_latch_at g k).next < node_count g

-- the bit of a literal, where the nodes have these
abbrev pub literal_in : (ℕ → Bool) → ℕ → Bool
literal_in bits literal = if literal % 2 == 1 then not (bits (node_of literal)) else bits (node_of literal)

-- node 0 has 0, and each AND has 1 exactly where both its literals have 1
pub record IsValued (g : Graph) (bits : ℕ → Bool) : Type 0 where
  pub zero : bits 0 ≡ false
  pub ands : (k : ℕ) → k < length g.ands →
      bits (first_and g + k) ≡ (literal_in bits (and_at g k).left && literal_in bits (and_at g k).right)
