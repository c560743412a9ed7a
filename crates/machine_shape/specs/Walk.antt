-- How a tree of nodes is numbered by a walk: each node's own numbers come before those of its children.
use Rattle.std.specs.Prelude.{◌≡◌, ℕ, ◌+◌, ◌*◌, ◌/◌, ◌%◌, ◌-◌, ◌<◌, if◌then◌else◌, nat_lt, List, [], ◌∷◌, ◌++◌}
use Rattle.machine_shape.specs.declared.Level.{Level}

-- the levels from some depth on
abbrev pub Levels : Type 0
Levels = List Level

-- The way from the root to a node, or on to a table: at each step the child's position.
abbrev pub Path : Type 0
Path = List ℕ

-- the levels from the end of the way on; none are left at a table
abbrev pub rest : Levels → Path → Levels
rest ls [] = ls
rest [] (i ∷ p) = []
rest (l ∷ ls) (i ∷ p) = rest ls p

-- the way is one of the tree
pub data IsSpot : Levels → Path → Type 0 where
  stop : {ls : Levels} → IsSpot ls []
  step : {l : Level} {ls : Levels} {i : ℕ} {p : Path} → i < l.children → IsSpot ls p → IsSpot (l ∷ ls) (i ∷ p)

-- Each kind of numbers gives a node, or a table, so many numbers of its own, by the levels from there on.
abbrev pub Own : Type 0
Own = Levels → ℕ

-- how many numbers a node has with all below it
abbrev pub size : Own → Levels → ℕ
size own [] = own []
size own (l ∷ ls) = own (l ∷ ls) + l.children * size own ls

-- the first number at the end of a way
abbrev pub start : Own → Levels → Path → ℕ
start own ls [] = 0
start own [] (i ∷ p) = 0
start own (l ∷ ls) (i ∷ p) = own (l ∷ ls) + i * size own ls + start own ls p

-- a number's place: the way to its node or table, and its position among the own numbers there
pub record Place : Type 0 where
  pub path : Path
  pub position : ℕ

-- the number has this place
pub record IsPlaceOf (own : Own) (ls : Levels) (x : ℕ) (q : Place) : Type 0 where
  pub spot : IsSpot ls q.path
  pub within : q.position < own (rest ls q.path)
  pub number : start own ls q.path + q.position ≡ x

abbrev pub under : ℕ → Place → Place
under i q = record { path = i ∷ q.path; position = q.position }

abbrev pub place_in : Own → Levels → ℕ → Place
place_in own [] x = record { path = []; position = x }
place_in own (l ∷ ls) x = if nat_lt x (own (l ∷ ls)) then record { path = []; position = x }
    else under ((x - own (l ∷ ls)) / size own ls) (place_in own ls ((x - own (l ∷ ls)) % size own ls))

-- the way without its last step
abbrev pub above : Path → Path
above [] = []
above (i ∷ []) = []
above (i ∷ j ∷ p) = i ∷ above (j ∷ p)

-- the way to the node, where the way may go on to one of its tables
abbrev pub trunk : Levels → Path → Path
trunk [] p = []
trunk (l ∷ []) p = []
trunk (l ∷ k ∷ ls) [] = []
trunk (l ∷ k ∷ ls) (i ∷ p) = i ∷ trunk (k ∷ ls) p

-- the levels below the first, and how many children a node has
abbrev pub next : Levels → Levels
next [] = []
next (l ∷ ls) = ls

abbrev pub children_in : Own
children_in [] = 0
children_in (l ∷ ls) = l.children

-- The numbers of each kind. A table has 7 pins, which are wires of its own.
abbrev pub ports_in : Own
ports_in [] = 7
ports_in (l ∷ ls) = l.ports

abbrev pub lines_in : Own
lines_in [] = 0
lines_in (l ∷ ls) = l.lines

abbrev pub wires_in : Own
wires_in ls = ports_in ls + lines_in ls

-- its own ports, and those of its children
abbrev pub taps_in : Own
taps_in [] = 0
taps_in (l ∷ ls) = l.ports + l.children * ports_in ls

-- the wire of a tap of the crossbar at the end of a way
abbrev pub child_port : Levels → Path → ℕ → ℕ
child_port ls p a = start wires_in ls (p ++ (a / ports_in (next (rest ls p)) ∷ [])) + a % ports_in (next (rest ls p))

abbrev pub tap_in : Levels → Path → ℕ → ℕ
tap_in ls p a = if nat_lt a (ports_in (rest ls p)) then start wires_in ls p + a else child_port ls p (a - ports_in (rest ls p))

abbrev pub crosses_in : Own
crosses_in ls = taps_in ls * lines_in ls

abbrev pub nodes_in : Own
nodes_in [] = 0
nodes_in (l ∷ ls) = 1

abbrev pub tables_in : Own
tables_in [] = 1
tables_in (l ∷ ls) = 0

-- the tap and the line of the crosspoint at a place, counted from the first wire of the node with these levels
abbrev pub ends_at : Levels → Place → ℕ × ℕ
ends_at ls q = (
  tap_in ls q.path (q.position / lines_in (rest ls q.path)),
  start wires_in ls q.path + (ports_in (rest ls q.path) + q.position % lines_in (rest ls q.path)),
)

abbrev pub ends_in : Levels → ℕ → ℕ × ℕ
ends_in ls x = ends_at ls (place_in crosses_in ls x)
