-- The forms of lines, by their bytes.
use Rattle.std.proofs.Common.{◌≡◌, ◌≢◌, ℕ, List, [], ◌∷◌, ◌++◌, drop, get_or, sym, ap, ◌∙◌, subst, arith, append-nil}
use Rattle.machine_defects.proofs.Vocabulary.{spaced, IsWord, IsEntryForm, wire_form, cross_form, table_form}

abbrev wire_text : List ℕ → List ℕ
wire_text w = 119 ∷ 105 ∷ 114 ∷ 101 ∷ 32 ∷ w

abbrev cross_text : List ℕ → List ℕ
cross_text w = 99 ∷ 114 ∷ 111 ∷ 115 ∷ 115 ∷ 32 ∷ w

abbrev table_text : List ℕ → List ℕ
table_text w = 116 ∷ 97 ∷ 98 ∷ 108 ∷ 101 ∷ 32 ∷ w

pub wire_spaced : (w : List ℕ) → spaced ((119 ∷ 105 ∷ 114 ∷ 101 ∷ []) ∷ w ∷ []) ≡ wire_text w
wire_spaced w = ap wire_text (append-nil w)

pub cross_spaced : (t l : List ℕ) → spaced ((99 ∷ 114 ∷ 111 ∷ 115 ∷ 115 ∷ []) ∷ t ∷ l ∷ []) ≡ cross_text (t ++ 32 ∷ l)
cross_spaced t l = ap (λ v. cross_text (t ++ 32 ∷ v)) (append-nil l)

pub table_spaced : (w : List ℕ) → spaced ((116 ∷ 97 ∷ 98 ∷ 108 ∷ 101 ∷ []) ∷ w ∷ []) ≡ table_text w
table_spaced w = ap table_text (append-nil w)

head_of : {a b : ℕ} {as_ bs : List ℕ} → a ∷ as_ ≡ b ∷ bs → a ≡ b
head_of h = ap (λ l. get_or l 0 0) h

-- what no right line is
module _ (line : List ℕ) where
  pub no_wire : (name : List ℕ) → line ≡ wire_text name → ¬ IsWord name → (row : List (List ℕ)) → IsEntryForm row → spaced row ≢ line
  no_wire name e none _ (wire_form {w} p) f = let h : wire_text w ≡ wire_text name = sym (wire_spaced w) ∙ f ∙ e in none (subst IsWord (ap (drop 5) h) p)
  no_wire name e none _ (cross_form {t} {l} p q) f = let h : cross_text (t ++ 32 ∷ l) ≡ wire_text name = sym (cross_spaced t l) ∙ f ∙ e in let k = head_of h in let no : ⊥ = omega (arith, k) in no
  no_wire name e none _ (table_form {t} p) f = let h : table_text t ≡ wire_text name = sym (table_spaced t) ∙ f ∙ e in let k = head_of h in let no : ⊥ = omega (arith, k) in no

  pub no_table : (name : List ℕ) → line ≡ table_text name → ¬ IsWord name → (row : List (List ℕ)) → IsEntryForm row → spaced row ≢ line
  no_table name e none _ (wire_form {w} p) f = let h : wire_text w ≡ table_text name = sym (wire_spaced w) ∙ f ∙ e in let k = head_of h in let no : ⊥ = omega (arith, k) in no
  no_table name e none _ (cross_form {t} {l} p q) f = let h : cross_text (t ++ 32 ∷ l) ≡ table_text name = sym (cross_spaced t l) ∙ f ∙ e in let k = head_of h in let no : ⊥ = omega (arith, k) in no
  no_table name e none _ (table_form {t} p) f = let h : table_text t ≡ table_text name = sym (table_spaced t) ∙ f ∙ e in none (subst IsWord (ap (drop 6) h) p)

  pub no_cross : (names : List ℕ) → line ≡ cross_text names → ((a b : List ℕ) → IsWord a → IsWord b → names ≢ a ++ 32 ∷ b) → (row : List (List ℕ)) → IsEntryForm row → spaced row ≢ line
  no_cross names e none _ (wire_form {w} p) f = let h : wire_text w ≡ cross_text names = sym (wire_spaced w) ∙ f ∙ e in let k = head_of h in let no : ⊥ = omega (arith, k) in no
  no_cross names e none _ (cross_form {t} {l} p q) f = let h : cross_text (t ++ 32 ∷ l) ≡ cross_text names = sym (cross_spaced t l) ∙ f ∙ e in none t l p q (sym (ap (drop 6) h))
  no_cross names e none _ (table_form {t} p) f = let h : table_text t ≡ cross_text names = sym (table_spaced t) ∙ f ∙ e in let k = head_of h in let no : ⊥ = omega (arith, k) in no

  pub no_form : ((w : List ℕ) → line ≢ wire_text w) → ((w : List ℕ) → line ≢ cross_text w) → ((w : List ℕ) → line ≢ table_text w) → (row : List (List ℕ)) → IsEntryForm row → spaced row ≢ line
  no_form a b c _ (wire_form {w} p) f = a w (sym f ∙ wire_spaced w)
  no_form a b c _ (cross_form {t} {l} p q) f = b (t ++ 32 ∷ l) (sym f ∙ cross_spaced t l)
  no_form a b c _ (table_form {t} p) f = c t (sym f ∙ table_spaced t)

  -- what a right line is
  pub is_wire : (w name : List ℕ) → line ≡ wire_text name → w ≡ name → IsWord w → IsEntryForm ((119 ∷ 105 ∷ 114 ∷ 101 ∷ []) ∷ w ∷ []) × (spaced ((119 ∷ 105 ∷ 114 ∷ 101 ∷ []) ∷ w ∷ []) ≡ line)
  is_wire w name e same p = ((wire_form p), wire_spaced w ∙ ap wire_text same ∙ sym e)

  pub is_table : (w name : List ℕ) → line ≡ table_text name → w ≡ name → IsWord w → IsEntryForm ((116 ∷ 97 ∷ 98 ∷ 108 ∷ 101 ∷ []) ∷ w ∷ []) × (spaced ((116 ∷ 97 ∷ 98 ∷ 108 ∷ 101 ∷ []) ∷ w ∷ []) ≡ line)
  is_table w name e same p = ((table_form p), table_spaced w ∙ ap table_text same ∙ sym e)

  pub is_cross : (t l names : List ℕ) → line ≡ cross_text names → names ≡ t ++ 32 ∷ l → IsWord t → IsWord l → IsEntryForm ((99 ∷ 114 ∷ 111 ∷ 115 ∷ 115 ∷ []) ∷ t ∷ l ∷ []) × (spaced ((99 ∷ 114 ∷ 111 ∷ 115 ∷ 115 ∷ []) ∷ t ∷ l ∷ []) ≡ line)
  is_cross t l names e same p q = ((cross_form p q), cross_spaced t l ∙ ap cross_text (sym same) ∙ sym e)
