-- No row waits when the store is asked: no vector's line has ended in the bytes before, but those of the rows that were written.
use Rattle.std.proofs.Common.{◌≡◌, ◌⊎◌, ℕ, zero, suc, ◌+◌, ◌-◌, ◌<◌, ◌≤◌, Bool, List, [], ◌∷◌, ◌++◌, length, take, drop, map, get_or, Option, None, Some, IfSome, option_map, arith, refl, sym, ap, subst, ◌∙◌, inl, inr, append-nil, append_assoc, length-append}
use Rattle.cmd_steps.proofs.Vocabulary.{AllByRecursion, drop-append_seam}
use Rattle.std.proofs.lemmas.List.{drop-drop, get_or-drop, length-map, length-take-le, take-append-drop, take_all, take_more}
use Rattle.base_io.specs.Vocabulary.{Told, untold, absent, holds, bytes_of, IfTold, IsPresent, StoreState}
use Rattle.design_vectors.specs.{Vectors.VectorLine, Readings.VectorReading, Readings.says_next, Readings.AreOpen, Readings.HasAsked}
use Rattle.design_vectors.proofs.OpenLemmas.{IsLate, all-more, open-late}
use Rattle.cmd_steps.specs.Files.{says_at, HasEnded, NoRowWaits, file_of}
use Rattle.cmd_steps.proofs.TextLemmas.{IfTold-with}
use Rattle.cmd_steps.proofs.VectorLemmas.{IsTakenTo, IsTaking, IfTold-all, bits_of_line, given_of, says_ahead, rest-is, file-is}

-- ---- the last byte

some-long : (bytes : List ℕ) → (bytes ≡ [] → ⊥) → 0 < length bytes
some-long [] some = absurd (some refl)
some-long (b ∷ bs) some = omega arith

last-of : (bytes : List ℕ) → 0 < length bytes → (front : List ℕ) × (bytes ≡ front ++ get_or bytes (length bytes - 1) 0 ∷ [])
last-of bytes some =
    let within : length bytes - 1 < length bytes = omega (arith, some) in
    let all : length bytes ≤ (length bytes - 1) + 1 = omega (arith, some) in
    (take (length bytes - 1) bytes, sym (take_all ((length bytes - 1) + 1) bytes all) ∙ take_more bytes (length bytes - 1) 0 within)

-- a line that isn't there in these bytes hasn't ended in them
late-unended : (n at : ℕ) (bytes given rest : List ℕ) (v : VectorLine) → n ≡ at + length given → given ++ rest ≡ drop at bytes → IsLate n given rest v → HasEnded n bytes v → ⊥
late-unended n at bytes given rest v is ahead late ended =
    let here : v.next_at ≡ n = omega (arith, late.from, ended.within) in
    let some = some-long given (late.some here) in
    let last = last-of given some in
    let all : given ≡ drop at bytes = sym (append-nil given) ∙ (ap (λ (t : List ℕ). given ++ t) (sym (late.last here)) ∙ ahead) in
    let place : at + (length given - 1) ≡ v.next_at - 1 = omega (arith, here, is, some) in
    let feed : get_or given (length given - 1) 0 ≡ 10 =
    ap (λ (t : List ℕ). get_or t (length given - 1) 0) all ∙ (get_or-drop at bytes (length given - 1) 0 ∙ (ap (λ (k : ℕ). get_or bytes k 0) place ∙ ended.feed)) in
    late.unfed here last.0 (last.1 ∙ ap (λ (b : ℕ). last.0 ++ b ∷ []) feed)

-- ---- lists

all-drop : {X : Type 0} (P : X → Type 0) (n : ℕ) (xs : List X) → AllByRecursion P xs → AllByRecursion P (drop n xs)
all-drop P zero xs h = h
all-drop P (suc n) [] h = tt
all-drop P (suc n) (x ∷ xs) h = all-drop P n xs h.1

drops-more : {X : Type 0} (P : X → Type 0) (m n : ℕ) (xs : List X) → m ≤ n → AllByRecursion P (drop m xs) → AllByRecursion P (drop n xs)
drops-more {X} P m n xs le h =
    let place : m + (n - m) ≡ n = omega (arith, le) in
    subst (λ (t : List X). AllByRecursion P t) (drop-drop (n - m) m xs ∙ ap (λ (k : ℕ). drop k xs) place) (all-drop P (n - m) (drop m xs) h)

behind-taken : (lines rest : List VectorLine) (taken : List (List Bool)) → map bits_of_line lines ≡ taken → drop (length taken) (lines ++ rest) ≡ rest
behind-taken lines rest taken bits =
    let count : length taken ≡ length lines = ap length (sym bits) ∙ length-map lines bits_of_line in
    ap (λ (n : ℕ). drop n (lines ++ rest)) count ∙ drop-append_seam lines rest

-- ---- no row waits

-- the store wasn't asked
pub none-asked : (width : ℕ) (told : Told) (count : ℕ) → IsPresent told → NoRowWaits width told None count
none-asked width told count here = IfTold-all told _ here (λ bytes. tt)

-- more rows were written since
pub waits-fewer : (width : ℕ) (told : Told) (read_at : Option ℕ) (m n : ℕ) → m ≤ n → NoRowWaits width told read_at m → NoRowWaits width told read_at n
waits-fewer width told None m n le h = IfTold-with told _ _ h (λ bytes _. tt)
waits-fewer width told (Some k) m n le h =
    IfTold-with told _ _ h (λ bytes late. drops-more (λ (v : VectorLine). HasEnded k bytes v → ⊥) m n (says_at width bytes).vectors le late)

-- the store was asked behind these vectors
told-asked : (width : ℕ) (told : Told) (r : VectorReading) (taken : List (List Bool)) (count : ℕ) → IfTold told (λ bytes. IsTakenTo width bytes r taken) → IfSome (option_map (drop (given_of r)) (bytes_of told)) (λ rest. count ≤ length rest) → IfSome (option_map (drop (given_of r)) (bytes_of told)) (λ rest. AreOpen r (r.unread ++ take count rest)) → NoRowWaits width told (Some (given_of r + count)) (length taken)
told-asked width untold r taken count h within last = tt
told-asked width absent r taken count h within last = h
told-asked width (holds bytes) r taken count h within last =
    let left : List ℕ = drop (given_of r) bytes in
    let given : List ℕ = r.unread ++ take count left in
    let rest : List ℕ = drop count left in
    let whole : given ++ rest ≡ r.unread ++ left = append_assoc r.unread (take count left) rest ∙ ap (λ (t : List ℕ). r.unread ++ t) (take-append-drop count left) in
    let size : length given ≡ length r.unread + count = length-append r.unread (take count left) ∙ ap (λ (n : ℕ). length r.unread + n) (length-take-le count left within) in
    let place : given_of r + count ≡ r.at + length given = omega (arith, size) in
    let ahead : given ++ rest ≡ drop r.at bytes = whole ∙ h.ahead in
    let late : AllByRecursion (IsLate (r.at + length given) given rest) (says_next r (given ++ rest)).vectors = open-late r given last rest in
    let none : AllByRecursion (λ (v : VectorLine). HasEnded (given_of r + count) bytes v → ⊥) (says_next r (given ++ rest)).vectors =
    all-more (IsLate (r.at + length given) given rest) (λ (v : VectorLine). HasEnded (given_of r + count) bytes v → ⊥) (says_next r (given ++ rest)).vectors
    (λ v is. late-unended (given_of r + count) r.at bytes given rest v place ahead (subst (λ (n : ℕ). IsLate n given rest v) (sym place) is)) late in
    let behind : (says_next r (given ++ rest)).vectors ≡ drop (length taken) (says_at width bytes).vectors =
    ap (λ (t : List ℕ). (says_next r t).vectors) whole
    ∙ sym (ap (λ (vs : List VectorLine). drop (length taken) vs) h.vectors ∙ behind-taken h.lines (says_ahead r bytes).vectors taken h.bits) in
    subst (λ (vs : List VectorLine). AllByRecursion (λ (v : VectorLine). HasEnded (given_of r + count) bytes v → ⊥) vs) behind none

-- the reader asked it, if at all
pub asked-late : (width : ℕ) (before store store' : StoreState) (r : VectorReading) (taken : List (List Bool)) → IsTaking width before store r taken → HasAsked r store store' → (store' ≡ store) ⊎ NoRowWaits width (file_of before) store'.read_at (length taken)
asked-late width before store store' r taken so_far (inl same) = inl same
asked-late width before store store' r taken so_far (inr a) =
    let name = so_far.name in
    let rest = rest-is store name before.contents (given_of r) so_far.contents so_far.place in
    let at : store'.read_at ≡ Some (given_of r + a.count) = a.read_at ∙ rw so_far.place refl in
    inr (rw (file-is before name so_far.begun, at) (told-asked width (before.contents name) r taken a.count so_far.told (rw rest at a.within) (rw rest at a.last)))

-- so where no row waited before, and as many were written as vectors were taken
pub prompt-now : (width : ℕ) (before store store' : StoreState) (r : VectorReading) (taken : List (List Bool)) (put count : ℕ) → IsTaking width before store r taken → HasAsked r store store' → NoRowWaits width (file_of before) store.read_at put → put ≤ count → length taken ≤ count → NoRowWaits width (file_of before) store'.read_at count
prompt-now width before store store' r taken put count so_far asked prompt fewer all = by (asked-late width before store store' r taken so_far asked)
  where
    by : (store' ≡ store) ⊎ NoRowWaits width (file_of before) store'.read_at (length taken) → NoRowWaits width (file_of before) store'.read_at count
    by (inl same) = subst (λ (s : StoreState). NoRowWaits width (file_of before) s.read_at count) (sym same) (waits-fewer width (file_of before) store.read_at put count fewer prompt)
    by (inr late) = waits-fewer width (file_of before) store'.read_at (length taken) count all late
