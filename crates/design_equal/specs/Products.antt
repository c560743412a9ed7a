-- Products of literals, sums of them, and sums that are not yet multiplied out.
use Rattle.std.specs.Prelude.{ℕ, ◌≡◌, ◌<◌, ◌+◌, ◌&&◌, ◌||◌, List, Option, None, Some, Bool, false, length, not, if◌then◌else◌}
use Rattle.std.specs.List.{list_all, list_any}
use Rattle.design_equal.specs.{declared.expand.Pending.Pending, declared.graph.And.And, Graphs.and_at, Graphs.first_and, Graphs.literal_in}
use Rattle.design_equal.specs.declared.{expand.Work.Work, graph.Graph.Graph}

-- whether all literals of a product are 1
abbrev pub holds : (ℕ → Bool) → List ℕ → Bool
holds bits product = list_all (literal_in bits) product

-- whether some product of a sum holds
abbrev pub some_holds : (ℕ → Bool) → List (List ℕ) → Bool
some_holds bits sum = list_any (holds bits) sum

-- no product is one that never holds
abbrev pub found_holds : (ℕ → Bool) → Option (List ℕ) → Bool
found_holds bits None = false
found_holds bits (Some product) = holds bits product

abbrev pub pending_holds : (ℕ → Bool) → Pending → Bool
pending_holds bits p = holds bits p.done.items && holds bits p.todo.items

-- what is multiplied out, and what waits for it
abbrev pub work_holds : (ℕ → Bool) → Work → Bool
work_holds bits w = some_holds bits w.sum.items || list_any (pending_holds bits) w.waiting.items

-- the bit of an AND, or its opposite
abbrev pub gate_in : (ℕ → Bool) → And → Bool → Bool
gate_in bits gate negated =
    if negated then not (literal_in bits gate.left && literal_in bits gate.right) else (literal_in bits gate.left && literal_in bits gate.right)

-- the AND of a node
pub record IsAndAt (g : Graph) (node : ℕ) (gate : And) (k : ℕ) : Type 0 where
  pub within : k < length g.ands
  pub at : node ≡ first_and g + k
  pub is : gate ≡ and_at g k
