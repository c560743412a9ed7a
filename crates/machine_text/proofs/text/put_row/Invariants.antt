use Rattle.machine_text.proofs.Vocabulary.{◌≡◌, ◌++◌, ◌∷◌, map, take, flat_map, decimal}
use Rattle.machine_text.proofs.text.put_row.Given as goal

abbrev pub invariant-numbers : goal.invariant-numbers
invariant-numbers l = l.text.items ≡ l.fn.text.items ++ l.word ++ flat_map (λ v. 32 ∷ v) (map decimal (take l.n-index l.numbers))
