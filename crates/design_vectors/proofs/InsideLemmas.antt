-- The fields of a line that is read.
use Rattle.std.proofs.Common.{◌≡◌, ℕ, List, [], ◌∷◌, ◌++◌, length, take, refl, subst, arith, true}
use Rattle.std.specs.List.{list_all}
use Rattle.design_vectors.proofs.Vocabulary.{and_parts, and_from, length-take-le, is_vector_byte, PartLine, IsSound, part_line, IsPartLine}
use Rattle.design_vectors.specs.declared.line.Line.TheInside.{Inside}
use Rattle.design_vectors.proofs.TextLemmas.{AreRight}

pub IsSound-inside : (l : Inside) (p : PartLine) → IsPartLine l → part_line l ≡ p → IsSound p
IsSound-inside l p h e = subst IsSound e (record { right = h.right; room = omega (arith, length-take-le l.count l.bytes.items h.count, h.count, h.size) })

pub IsSound-of : (l : Inside) → IsPartLine l → IsSound (part_line l)
IsSound-of l h = IsSound-inside l (part_line l) h refl

pub shown_length : (l : Inside) → IsPartLine l → length (take l.count l.bytes.items) ≡ l.count
shown_length l h = length-take-le l.count l.bytes.items h.count

pub AreRight-push : (width : ℕ) (s : List ℕ) (b : ℕ) → AreRight width s → is_vector_byte width b ≡ true → AreRight width (s ++ b ∷ [])
AreRight-push width [] b h e = and_from (is_vector_byte width b) true e refl
AreRight-push width (x ∷ xs) b h e =
    let parts = and_parts (is_vector_byte width x) (list_all (is_vector_byte width) xs) h in
    and_from (is_vector_byte width x) (list_all (is_vector_byte width) (xs ++ b ∷ [])) parts.0 (AreRight-push width xs b parts.1 e)
