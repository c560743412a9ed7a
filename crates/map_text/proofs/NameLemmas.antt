-- Lists of names and of covers that are gone through.
use Rattle.std.proofs.Common.{◌≡◌, ◌∙◌, ℕ, zero, suc, ◌<◌, ◌≤◌, List, [], ◌∷◌, Bool, not, true, length, map, IsTrue, arith, refl, ap, ◌==◌, nat_lt}
use Rattle.std.specs.List.{All, filter, count_by}
use Rattle.std.proofs.lemmas.{Bool.lt-ltb, List.Sums.length-filter, List.Sums.count_by-le-length}
use Rattle.design_netlist.specs.declared.netlist_data.{Cover.Cover, NetlistData.NetlistData}
use Rattle.design_netlist.specs.{declared.netlist_data.PortDef.PortDef, Vocabulary.cover_at, Vocabulary.name_at, Vocabulary.signal_at}
use Rattle.map_network.specs.Plain.{distinct, is_narrow}
use Rattle.map_text.specs.Remapped.{names_of}

-- words with the same names place by place
pub names-same : (d e : NetlistData) (these those : List PortDef) → length these ≡ length those →
    ((j : ℕ) → j < length these → name_at d (signal_at these j) ≡ name_at e (signal_at those j)) → names_of d these ≡ names_of e those
names-same d e [] [] len all = refl
names-same d e [] (y ∷ ys) len all = absurd (let no : ⊥ = omega (arith, len) in no)
names-same d e (x ∷ xs) [] len all = absurd (let no : ⊥ = omega (arith, len) in no)
names-same d e (x ∷ xs) (y ∷ ys) len all =
    let head : name_at d x.signal ≡ name_at e y.signal = all 0 (omega arith) in
    let rest : names_of d xs ≡ names_of e ys = names-same d e xs ys (omega (arith, len)) (λ j lt. all (suc j) (omega (arith, lt))) in
    rw (head, rest) refl

-- ---- covers with few inputs

distinct-few : (xs : List ℕ) → length (distinct xs) ≤ length xs
distinct-few [] = omega arith
distinct-few (s ∷ ss) =
    let rest : length (distinct ss) ≤ length ss = distinct-few ss in
    let kept : length (filter (λ x. not (x == s)) (distinct ss)) ≡ count_by (λ x. not (x == s)) (distinct ss) = length-filter (λ x. not (x == s)) (distinct ss) in
    let less : count_by (λ x. not (x == s)) (distinct ss) ≤ length (distinct ss) = count_by-le-length (λ x. not (x == s)) (distinct ss) in
    omega (arith, rest, kept, less)

pub few-narrow : (c : Cover) → length c.ins ≤ 6 → IsTrue (is_narrow c)
few-narrow c few = let less : length (distinct c.ins) ≤ length c.ins = distinct-few c.ins in lt-ltb (length (distinct c.ins)) 7 (omega (arith, few, less))
