-- How lines are put together.
use Rattle.std.proofs.Common.{◌≡◌, ℕ, suc, zero, ◌+◌, ◌-◌, ◌*◌, ◌<◌, List, [], ◌∷◌, ◌++◌, take, length, get_or, sym, ap, ◌∙◌, arith, flat_map}
use Rattle.rig_port.proofs.Vocabulary.{append-nil, append_assoc, flat_map-append, take-suc, join_by, encode_lower, encode_with, Pins}
use Rattle.rig_port.specs.Lines.{gap, octet_at, octets_below}

pub octets_step : (text : List ℕ) (byte : ℕ) (bytes : List ℕ) → text ++ encode_lower (byte ∷ []) ++ encode_lower bytes ≡ text ++ encode_lower (byte ∷ bytes)
unfolding encode_with
octets_step text byte bytes = append_assoc text (encode_lower (byte ∷ [])) (encode_lower bytes)

pub octets_none : (text : List ℕ) → text ++ encode_lower [] ≡ text
unfolding encode_with
octets_none text = append-nil text

abbrev pub led : {X : Type 0} → (X → List ℕ) → X → List ℕ
led f y = 32 ∷ [] ++ f y

pub join_step : {X : Type 0} (f : X → List ℕ) (xs : List X) (k : ℕ) (d : X) → k < length xs
    → join_by f (32 ∷ []) (take (suc k) xs) ≡ join_by f (32 ∷ []) (take k xs) ++ gap k ++ f (get_or xs k d)
join_step f [] k d lt = absurd (omega (arith, lt))
join_step f (x ∷ xs) zero d lt = append-nil (f x)
join_step f (x ∷ xs) (suc k) d lt =
    let shorter : k < length xs = omega (arith, lt) in
    let y = get_or xs k d in
    ap (λ l. f x ++ flat_map (led f) l) (take-suc xs k d shorter)
    ∙ ap (λ l. f x ++ l) (flat_map-append (led f) (take k xs) (y ∷ []))
    ∙ ap (λ l. f x ++ (flat_map (led f) (take k xs) ++ l)) (append-nil (led f y))
    ∙ sym (append_assoc (f x) (flat_map (led f) (take k xs)) (led f y))
    ∙ sym (append_assoc (f x ++ flat_map (led f) (take k xs)) (32 ∷ []) (f y))

-- one more byte, from the top down
pub octet_next : (pins : Pins) (text : List ℕ) (count k octet : ℕ) → k < count → octet ≡ octet_at pins ((count - 1 - k) * 8)
    → text ++ encode_lower (octet ∷ []) ++ encode_lower (octets_below pins (count - (k + 1))) ≡ text ++ encode_lower (octets_below pins (count - k))
octet_next pins text count k octet lt is =
    let m = count - (k + 1) in
    let place : (count - 1 - k) * 8 ≡ 8 * m = omega (arith, lt) in
    let down : suc m ≡ count - k = omega (arith, lt) in
    octets_step text octet (octets_below pins m)
    ∙ ap (λ b. text ++ encode_lower (b ∷ octets_below pins m)) (is ∙ ap (octet_at pins) place)
    ∙ ap (λ n. text ++ encode_lower (octets_below pins n)) down

-- one more word, with a space before all but the first
pub word_next : {X : Type 0} (f : X → List ℕ) (xs : List X) (k : ℕ) (d x : X) (begun text : List ℕ) → k < length xs → x ≡ get_or xs k d
    → text ≡ begun ++ join_by f (32 ∷ []) (take k xs) → text ++ gap k ++ f x ≡ begun ++ join_by f (32 ∷ []) (take (k + 1) xs)
word_next f xs k d x begun text lt at is =
    let next : suc k ≡ k + 1 = omega arith in
    let joined = join_by f (32 ∷ []) (take k xs) in
    ap (λ l. l ++ gap k ++ f x) is
    ∙ append_assoc (begun ++ joined) (gap k) (f x)
    ∙ append_assoc begun joined (gap k ++ f x)
    ∙ ap (λ l. begun ++ l) (sym (append_assoc joined (gap k) (f x)))
    ∙ ap (λ y. begun ++ (joined ++ gap k ++ f y)) at
    ∙ ap (λ l. begun ++ l) (sym (join_step f xs k d lt))
    ∙ ap (λ n. begun ++ join_by f (32 ∷ []) (take n xs)) next
