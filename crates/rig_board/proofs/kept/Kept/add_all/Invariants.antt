use Rattle.rig_board.proofs.Vocabulary.{◌≡◌, ◌+◌, take, length, vec_len, pins_of, session_of, HasAdded, AreBlank}
use Rattle.std.specs.Vec.{vec_capacity}
use Rattle.rig_board.proofs.kept.Kept.add_all.Given as goal

abbrev pub invariant-pairs : goal.invariant-pairs
invariant-pairs l = (l.self.shape ≡ l.initial.self.shape)
    × ((session_of l.self).config ≡ (session_of l.initial.self).config)
    × HasAdded (take l.k l.drives) (take l.k l.reads) (session_of l.initial.self) (session_of l.self)
    × AreBlank (pins_of l.self.shape) l.self.blank.items
    × (length l.self.blank.items + l.k ≡ length l.initial.self.blank.items)
    × (vec_len l.self.rows ≡ vec_len l.initial.self.rows + l.k)
    × (vec_capacity l.self.rows ≡ vec_capacity l.initial.self.rows)
