use Rattle.map_network.proofs.Vocabulary.{◌≡◌, ◌<◌, ℕ, drop, map, pin_named, six_bits, number}
use Rattle.map_network.proofs.composing.pin_word.Given as goal

abbrev pub invariant-ins : goal.invariant-ins
invariant-ins l = (a : ℕ) → a < 64 →
    pin_named (drop l.k (map number l.ins)) (drop l.k (six_bits a)) (number l.source) ≡ pin_named (map number l.ins) (six_bits a) (number l.source)
