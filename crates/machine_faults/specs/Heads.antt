-- The words that begin the entries of a fault text.
use Rattle.std.specs.Prelude.{ℕ, Bool, true, false, codes, List}
use Rattle.machine_faults.specs.declared.head.Head.{Head}
use Rattle.machine_faults.specs.declared.head.Head.TheVariants.{Stuck0, Stuck1, Open, Closed, Cell, Register, Bridge}

abbrev pub word_of : Head → List ℕ
word_of Stuck0 = codes "stuck0"
word_of Stuck1 = codes "stuck1"
word_of Open = codes "open"
word_of Closed = codes "closed"
word_of Cell = codes "cell"
word_of Register = codes "register"
word_of Bridge = codes "bridge"

-- how many words follow
abbrev pub follow_of : Head → ℕ
follow_of Stuck0 = 1
follow_of Stuck1 = 1
follow_of Open = 2
follow_of Closed = 2
follow_of Cell = 3
follow_of Register = 2
follow_of Bridge = 2

-- whether they are names of wires, and whether these are to be a tap and a line
abbrev pub has_wires : Head → Bool
has_wires Cell = false
has_wires Register = false
has_wires _ = true

abbrev pub has_cross : Head → Bool
has_cross Open = true
has_cross Closed = true
has_cross _ = false
