-- Lines tell their words.
use Rattle.std.proofs.Common.{◌≡◌, ◌≢◌, inl, inr, ℕ, ◌≤◌, Bool, true, false, not, ◌&&◌, List, [], ◌∷◌, ◌++◌, length, refl, sym, ap, ◌∙◌, arith, append_assoc, length-append, ◌==◌}
use Rattle.machine_defects.proofs.Vocabulary.{list_all, flat_map, spaced, written, written_line, is_inner, IsWord, without}
use Rattle.machine_defects.proofs.Splits.{without_append, one_split, one_run, Starts}

-- a word has neither spaces nor ends of lines
pub record IsClean (w : List ℕ) : Type 0 where
  pub spaceless : without 32 w ≡ true
  pub feedless : without 10 w ≡ true

abbrev pub AreClean : List (List ℕ) → Type 0
AreClean [] = Unit {0}
AreClean (w ∷ ws) = IsClean w × AreClean ws

-- a row has some words
abbrev pub IsCleanRow : List (List ℕ) → Type 0
IsCleanRow [] = ⊥
IsCleanRow (w ∷ ws) = IsClean w × AreClean ws

abbrev pub AreCleanRows : List (List (List ℕ)) → Type 0
AreCleanRows [] = Unit {0}
AreCleanRows (r ∷ rows) = IsCleanRow r × AreCleanRows rows

pub clean_word : (w : List ℕ) → list_all is_inner w ≡ true → IsClean w
clean_word [] e = record { spaceless = refl; feedless = refl }
clean_word (b ∷ bs) e = by_head (b == 32) refl (b == 10) refl (clean_word bs)
  where
    by_head : (c : Bool) → (b == 32) ≡ c → (d : Bool) → (b == 10) ≡ d → (list_all is_inner bs ≡ true → IsClean bs) → IsClean (b ∷ bs)
    by_head true p d q more = absurd (let g : false ≡ true = sym (λ i. (not (p i) && not (b == 10)) && list_all is_inner bs) ∙ e in cc)
    by_head false p true q more = absurd (let g : false ≡ true = sym (λ i. (not (p i) && not (q i)) && list_all is_inner bs) ∙ e in cc)
    by_head false p false q more =
        let tail = more (sym (λ i. (not (p i) && not (q i)) && list_all is_inner bs) ∙ e) in
        record { spaceless = (λ i. not (p i) && tail.spaceless i); feedless = (λ i. not (q i) && tail.feedless i) }

pub from_word : (w : List ℕ) → IsWord w → IsClean w
from_word w h = clean_word w h.1

-- ---- one line

starts : (ws : List (List ℕ)) → Starts 32 (flat_map (λ v. 32 ∷ v) ws)
starts [] = inl refl
starts (w ∷ ws) = inr (w ++ flat_map (λ v. 32 ∷ v) ws, refl)

one_tail : (ws vs : List (List ℕ)) → AreClean ws → AreClean vs → flat_map (λ v. 32 ∷ v) ws ≡ flat_map (λ v. 32 ∷ v) vs → ws ≡ vs
one_tail [] [] p q e = refl
one_tail [] (v ∷ vs) p q e = absurd cc
one_tail (w ∷ ws) [] p q e = absurd cc
one_tail (w ∷ ws) (v ∷ vs) p q e =
    let tail : w ++ flat_map (λ v. 32 ∷ v) ws ≡ v ++ flat_map (λ v. 32 ∷ v) vs = cc in
    let h = one_run 32 w v (flat_map (λ v. 32 ∷ v) ws) (flat_map (λ v. 32 ∷ v) vs) p.0.spaceless q.0.spaceless (starts ws) (starts vs) tail in
    let more = one_tail ws vs p.1 q.1 h.1 in
    (λ i. h.0 i ∷ more i)

pub one_row : (a b : List (List ℕ)) → IsCleanRow a → IsCleanRow b → spaced a ≡ spaced b → a ≡ b
one_row [] b p q e = absurd p
one_row (w ∷ ws) [] p q e = absurd q
one_row (w ∷ ws) (v ∷ vs) p q e =
    let h = one_run 32 w v (flat_map (λ v. 32 ∷ v) ws) (flat_map (λ v. 32 ∷ v) vs) p.0.spaceless q.0.spaceless (starts ws) (starts vs) e in
    let more = one_tail ws vs p.1 q.1 h.1 in
    (λ i. h.0 i ∷ more i)

feedless_tail : (ws : List (List ℕ)) → AreClean ws → without 10 (flat_map (λ v. 32 ∷ v) ws) ≡ true
feedless_tail [] p = refl
feedless_tail (w ∷ ws) p = without_append 10 (32 ∷ w) (flat_map (λ v. 32 ∷ v) ws) p.0.feedless (feedless_tail ws p.1)

pub feedless_row : (r : List (List ℕ)) → IsCleanRow r → without 10 (spaced r) ≡ true
feedless_row [] p = absurd p
feedless_row (w ∷ ws) p = without_append 10 w (flat_map (λ v. 32 ∷ v) ws) p.0.feedless (feedless_tail ws p.1)

-- ---- the first line of some bytes

line_then : (r : List (List ℕ)) (more : List ℕ) → written_line r ++ more ≡ spaced r ++ 10 ∷ more
line_then r more = append_assoc (spaced r) (10 ∷ []) more

pub same_line : (line more left : List ℕ) (r : List (List ℕ)) (rest : List ℕ) → without 10 line ≡ true → IsCleanRow r → left ≡ line ++ 10 ∷ more → left ≡ written_line r ++ rest → (line ≡ spaced r) × (more ≡ rest)
same_line line more left r rest p q e f = one_split 10 line (spaced r) more rest p (feedless_row r q) (sym e ∙ f ∙ line_then r rest)

pub whole_line : (line more left : List ℕ) (r : List (List ℕ)) → left ≡ line ++ 10 ∷ more → spaced r ≡ line → left ≡ written_line r ++ more
whole_line line more left r e f = e ∙ ap (λ l. l ++ 10 ∷ more) (sym f) ∙ sym (line_then r more)

pub first_rows : (a b : List (List ℕ)) (x y : List ℕ) → IsCleanRow a → IsCleanRow b → written_line a ++ x ≡ written_line b ++ y → (a ≡ b) × (x ≡ y)
first_rows a b x y p q e =
    let h = one_split 10 (spaced a) (spaced b) x y (feedless_row a p) (feedless_row b q) (sym (line_then a x) ∙ e ∙ line_then b y) in
    (one_row a b p q h.0, h.1)

-- ---- lines at the beginning of others

line_some : (r : List (List ℕ)) (more : List ℕ) → written_line r ++ more ≢ []
line_some r more e = let l = ap length (sym (line_then r more) ∙ e) in let k = length-append (spaced r) (10 ∷ more) in let no : ⊥ = omega (arith, l, k) in no

pub front : (a b : List (List (List ℕ))) (left : List ℕ) → AreCleanRows a → AreCleanRows b → written a ++ left ≡ written b → (c : List (List (List ℕ))) × (b ≡ a ++ c) × (left ≡ written c)
front [] b left p q e = (b, refl, e)
front (r ∷ a) [] left p q e = absurd (line_some r (written a ++ left) (sym (append_assoc (written_line r) (written a) left) ∙ e))
front (r ∷ a) (s ∷ b) left p q e =
    let h = first_rows r s (written a ++ left) (written b) p.0 q.0 (sym (append_assoc (written_line r) (written a) left) ∙ e) in
    let more = front a b left p.1 q.1 h.1 in
    (more.0, (λ i. sym h.0 i ∷ more.1 i), more.2)

-- each line has a byte at least
pub rows_short : (rows : List (List (List ℕ))) → length rows ≤ length (written rows)
rows_short [] = omega arith
rows_short (r ∷ rows) =
    let more = rows_short rows in
    let l = length-append (written_line r) (written rows) in
    let k = length-append (spaced r) (10 ∷ []) in
    omega (arith, more, l, k)

pub clean_append : (a b : List (List (List ℕ))) → AreCleanRows a → AreCleanRows b → AreCleanRows (a ++ b)
clean_append [] b p q = q
clean_append (r ∷ a) b p q = (p.0, clean_append a b p.1 q)
