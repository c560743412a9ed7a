use Rattle.std.proofs.Common.{◌≡◌, ◌∙◌, ◌+◌, ◌<◌, ◌≤◌, ℕ, List, [], ◌∷◌, ◌++◌, ap, sym, refl, map, take, take_all, get_or, length, append_assoc}
use Rattle.std.proofs.lemmas.Grind.{flat_map-append}
use Rattle.machine_text.proofs.Vocabulary.{append-nil, decimal, flat_map, map-append, take_more, written_line}
use Rattle.machine_text.proofs.text.put_row.Goals as goal

abbrev rest : List ℕ → List ℕ
rest ns = flat_map (λ v. 32 ∷ v) (map decimal ns)

-- a number more, and the end of the line
rest_next : (ns : List ℕ) (i : ℕ) → i < length ns → rest (take (i + 1) ns) ≡ rest (take i ns) ++ 32 ∷ decimal (get_or ns i 0)
rest_next ns i low =
    ap rest (take_more ns i 0 low)
    ∙ ap (flat_map (λ v. 32 ∷ v)) (map-append decimal (take i ns) (get_or ns i 0 ∷ []))
    ∙ flat_map-append (λ v. 32 ∷ v) (map decimal (take i ns)) (decimal (get_or ns i 0) ∷ [])
    ∙ ap (λ xs. rest (take i ns) ++ 32 ∷ xs) (append-nil (decimal (get_or ns i 0)))

row_next : (front ns text pushed put : List ℕ) (i n : ℕ) → i < length ns → n ≡ get_or ns i 0 → text ≡ front ++ rest (take i ns) → pushed ≡ text ++ 32 ∷ [] → put ≡ pushed ++ decimal n
    → put ≡ front ++ rest (take (i + 1) ns)
row_next front ns text pushed put i n low same is first second =
    second ∙ ap (λ xs. xs ++ decimal n) (first ∙ ap (λ xs. xs ++ 32 ∷ []) is)
    ∙ ap (λ m. ((front ++ rest (take i ns)) ++ 32 ∷ []) ++ decimal m) same
    ∙ append_assoc (front ++ rest (take i ns)) (32 ∷ []) (decimal (get_or ns i 0))
    ∙ append_assoc front (rest (take i ns)) (32 ∷ decimal (get_or ns i 0))
    ∙ ap (λ xs. front ++ xs) (sym (rest_next ns i low))

row_end : (old word ns text put : List ℕ) (i : ℕ) → length ns ≤ i → text ≡ (old ++ word) ++ rest (take i ns) → put ≡ text ++ 10 ∷ [] → put ≡ old ++ written_line (word ∷ map decimal ns)
row_end old word ns text put i high is last =
    last ∙ ap (λ xs. xs ++ 10 ∷ []) (is ∙ ap (λ xs. (old ++ word) ++ rest xs) (take_all i ns high) ∙ append_assoc old word (rest ns))
    ∙ append_assoc old (word ++ rest ns) (10 ∷ [])

pub numbers-preserved : goal.numbers-preserved
numbers-preserved c =
    row_next (c.args.text.now.items ++ c.args.word.now) c.args.numbers.now c.numbers.text.items c.push.new.self.items c.put_number.new.text.items c.numbers.n-index _ c.numbers-test.true
    c.from.ensures c.numbers.invariant c.in_ok-push.ensures.items c.in_ok-put_number.ensures.put

pub returns-clause-put : goal.returns-clause-put
returns-clause-put c =
    row_end c.args.text.now.items c.args.word.now c.args.numbers.now c.numbers.text.items c.push-2.new.self.items c.numbers.n-index c.numbers-test.false c.numbers.invariant c.in_ok-push-2.ensures.items
