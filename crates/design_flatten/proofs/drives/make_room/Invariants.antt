use Rattle.design_flatten.proofs.Vocabulary.{◌≡◌, ℕ, vec_len, first_at}
use Rattle.design_flatten.proofs.drives.make_room.Given as goal

abbrev pub invariant-room : goal.invariant-room
invariant-room l = record {
  len : vec_len l.firsts ≡ l._place;
  same : (s : ℕ) → first_at l.firsts.items s ≡ first_at l.fn.firsts.items s;
}
