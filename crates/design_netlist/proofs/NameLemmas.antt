-- Names that share beginnings.
use Rattle.std.proofs.Common.{◌≡◌, ℕ, zero, suc, ◌+◌, ◌<◌, ◌≤◌, List, [], ◌∷◌, ◌++◌, Option, None, Some, length, get_or, fold, refl, sym, ap, ◌∙◌, arith, append_assoc, MatchOption}
use Rattle.std.proofs.lemmas.List.{get_or_default, get_or_append_left, get_or_push, get_or_past, length_push, append-nil}
use Rattle.design_netlist.specs.declared.shared.Beginning.{Beginning}
use Rattle.design_netlist.specs.Names.{with_text, texts_of, text_in, front, no_beginning, beginning_at, joined}

length_texts : (bs : List Beginning) (ts : List (List ℕ)) → length (fold with_text ts bs) ≡ length ts + length bs
length_texts [] ts = omega arith
length_texts (b ∷ bs) ts = let n = length_texts bs (with_text ts b) in omega (arith, length_push ts (get_or ts b.before [] ++ b.text))

-- what is there stays
kept_text : (bs : List Beginning) (ts : List (List ℕ)) (k : ℕ) → k < length ts → get_or (fold with_text ts bs) k [] ≡ get_or ts k []
kept_text [] ts k lt = refl
kept_text (b ∷ bs) ts k lt =
    kept_text bs (with_text ts b) k (omega (arith, length_push ts (get_or ts b.before [] ++ b.text)))
    ∙ get_or_append_left ts ((get_or ts b.before [] ++ b.text) ∷ []) [] k lt

pub text_more : (bs : List Beginning) (ts : List (List ℕ)) (k n : ℕ) → k < length bs → length ts + k ≡ n → (beginning_at bs k).before < n → get_or (fold with_text ts bs) n [] ≡ get_or (fold with_text ts bs) (beginning_at bs k).before [] ++ (beginning_at bs k).text
text_more [] ts k n lt e h = absurd (omega arith)
text_more (b ∷ bs) ts zero n lt e h =
    let len = length_push ts (get_or ts b.before [] ++ b.text) in
    kept_text bs (with_text ts b) n (omega (arith, len))
    ∙ get_or_push ts (get_or ts b.before [] ++ b.text) [] n (omega arith)
    ∙ ap (λ x. x ++ b.text) (sym (kept_text (b ∷ bs) ts b.before (omega arith)))
text_more (b ∷ bs) ts (suc k) n lt e h = text_more bs (with_text ts b) k n (omega arith) (omega (arith, length_push ts (get_or ts b.before [] ++ b.text))) h

pub text_first : (bs : List Beginning) (ts : List (List ℕ)) (k n : ℕ) → k < length bs → length ts + k ≡ n → n ≤ (beginning_at bs k).before → get_or (fold with_text ts bs) n [] ≡ (beginning_at bs k).text
text_first [] ts k n lt e h = absurd (omega arith)
text_first (b ∷ bs) ts zero n lt e h =
    let len = length_push ts (get_or ts b.before [] ++ b.text) in
    kept_text bs (with_text ts b) n (omega (arith, len))
    ∙ get_or_push ts (get_or ts b.before [] ++ b.text) [] n (omega arith)
    ∙ ap (λ x. x ++ b.text) (get_or_past ts b.before [] (omega arith))
text_first (b ∷ bs) ts (suc k) n lt e h = text_first bs (with_text ts b) k n (omega arith) (omega (arith, length_push ts (get_or ts b.before [] ++ b.text))) h

pub text_past : (bs : List Beginning) (k : ℕ) → length bs ≤ k → text_in bs k ≡ []
text_past bs k le = get_or_past (texts_of bs) k [] (omega (arith, length_texts bs []))

pub joined_push : (bs : List Beginning) (ks : List ℕ) (k : ℕ) → joined bs (ks ++ k ∷ []) ≡ (beginning_at bs k).text ++ joined bs ks
joined_push bs [] k = sym (append-nil (beginning_at bs k).text)
joined_push bs (j ∷ ks) k = ap (λ x. x ++ (beginning_at bs j).text) (joined_push bs ks k) ∙ append_assoc (beginning_at bs k).text (joined bs ks) (beginning_at bs j).text

abbrev pub measure : Option ℕ → ℕ
measure None = 0
measure (Some k) = k + 1

module _ (bs : List Beginning) (place : ℕ) where
  abbrev pub IsInFront : Option ℕ → Type 0
  IsInFront found = MatchOption found (text_in bs place ≡ (beginning_at bs place).text) (λ b. (b < place) × (text_in bs place ≡ text_in bs b ++ (beginning_at bs place).text))

  pub back_step : (found : Option ℕ) (ks : List ℕ) → IsInFront found → text_in bs place ++ joined bs ks ≡ front (texts_of bs) found ++ joined bs (ks ++ place ∷ [])
  back_step None ks h = ap (λ x. x ++ joined bs ks) h ∙ sym (joined_push bs ks place)
  back_step (Some b) ks h =
      ap (λ x. x ++ joined bs ks) h.1 ∙ append_assoc (text_in bs b) (beginning_at bs place).text (joined bs ks) ∙ ap (λ x. text_in bs b ++ x) (sym (joined_push bs ks place))

pub put_more : (bs : List Beginning) (t x : List ℕ) (k : ℕ) (rest all : List ℕ) → x ≡ (beginning_at bs k).text → all ≡ rest ++ k ∷ [] → (t ++ x) ++ joined bs rest ≡ t ++ joined bs all
put_more bs t x k rest all e h =
    append_assoc t x (joined bs rest) ∙ ap (λ y. t ++ (y ++ joined bs rest)) e ∙ ap (λ y. t ++ y) (sym (joined_push bs rest k) ∙ ap (joined bs) (sym h))

module _ (bs : List Beginning) (place : ℕ) (d : Beginning) (lt : place < length bs) where
  same : get_or bs place d ≡ beginning_at bs place
  same = get_or_default bs place d no_beginning lt

  pub in_front : (get_or bs place d).before < place → ((get_or bs place d).before < place) × (text_in bs place ≡ text_in bs (get_or bs place d).before ++ (beginning_at bs place).text)
  in_front less =
      let e : (get_or bs place d).before ≡ (beginning_at bs place).before = ap (λ (b : Beginning). b.before) same in
      (less, text_more bs [] place place lt (omega arith) (omega (arith, e)) ∙ ap (λ b. text_in bs b ++ (beginning_at bs place).text) (sym e))

  pub is_first : place ≤ (get_or bs place d).before → text_in bs place ≡ (beginning_at bs place).text
  is_first le =
      let e : (get_or bs place d).before ≡ (beginning_at bs place).before = ap (λ (b : Beginning). b.before) same in
      text_first bs [] place place lt (omega arith) (omega (arith, e))
