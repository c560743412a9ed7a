-- Names and their faults.
use Rattle.std.proofs.Common.{◌≡◌, ◌⊎◌, ⊎_elim, ℕ, ◌≤◌, Bool, true, false, cond, leb, ◌&&◌, Some, None, Option, List, length, refl, sym, ap, ◌∙◌, subst, arith, IfSome, bytes_eq}
use Rattle.std.specs.Fmt.{decimal}
use Rattle.rig_simulated.proofs.Vocabulary.{none-some, cases_lt, le-leb, leb-true, and_parts, Shape, most_text, Faults, IsNoText}
use Rattle.std.proofs.lemmas.{Slice.Eq.bytes_eq-Decides, Fmt.digits_value-decimal}
use Rattle.base_text.specs.Vocabulary.{read_on}
use Rattle.base_text.proofs.NumberLemmas.{own}
use Rattle.machine_faults.specs.{Text.IsFaultText, Refusals.IsFaultAt, declared.kind.FaultsKind.FaultsKind}
use Rattle.base_io.specs.Told.{Told, untold, absent, holds, bytes_of, IfTold}
use Rattle.rig.specs.Names.{generated_of, number_of_word, SpellsFaults}
use Rattle.rig_simulated.specs.Named.{text_by, texts_of, AreNamed}

pub no_text : (m : Shape) (told : Told) (text bytes : List ℕ) (line : ℕ) (kind : FaultsKind) → IfTold told (λ b. (text ≡ b) × (length b ≤ most_text m)) → bytes ≡ text → IsFaultAt m bytes line kind →
    ((f : Faults) → IsFaultText m bytes f → length bytes ≤ most_text m → ⊥) → IfSome (bytes_of told) (λ b. IsNoText m b line kind)
no_text m untold text bytes line kind w e is only = tt
no_text m absent text bytes line kind w e is only = tt
no_text m (holds b) text bytes line kind w e is only =
    subst (λ (l : List ℕ). IsNoText m l line kind) (e ∙ w.0) (record { first = is; too_long = λ f t. ⊎_elim (λ l. l) (λ l. absurd (only f t l)) (cases_lt (most_text m) (length bytes)) })

-- the faults of a name are those that its text spells
spells-by : (number found : Option ℕ) (told : Told) (m : Shape) (f : Faults) → found ≡ number → AreNamed number m told f → IfSome (text_by number (bytes_of told)) (λ bytes. found ≡ None → IsFaultText m bytes f)
spells-by (Some n) found told m f is are = λ none. absurd (none-some n (sym none ∙ is))
spells-by None found untold m f is are = tt
spells-by None found absent m f is are = tt
spells-by None found (holds bytes) m f is are = λ none. are.0

pub spells : (name : List ℕ) (contents : List ℕ → Told) (m : Shape) (f : Faults) → AreNamed (generated_of name) m (contents name) f → SpellsFaults (texts_of contents name) name m (Some f)
spells name contents m f are = spells-by (generated_of name) (generated_of name) (contents name) m f refl are

same_bytes : (xs ys : List ℕ) → xs ≡ ys → bytes_eq xs ys ≡ true
same_bytes xs ys e = grind (arith, bytes_eq-Decides xs ys, e)

bytes_same : (xs ys : List ℕ) → bytes_eq xs ys ≡ true → xs ≡ ys
bytes_same xs ys e = grind (arith, bytes_eq-Decides xs ys, e)

value_is : (word : List ℕ) (n : ℕ) → n ≤ 4294967295 → word ≡ decimal n → read_on 0 word ≡ n
value_is word n le e = ap (read_on 0) e ∙ digits_value-decimal own n (omega (arith, le))

pub some_number : (word : List ℕ) (n : ℕ) → word ≡ decimal n → n ≤ 4294967295 → Some n ≡ number_of_word word
some_number word n e le =
    let v = value_is word n le e in
    let same : bytes_eq (decimal (read_on 0 word)) word ≡ true = same_bytes (decimal (read_on 0 word)) word (ap decimal v ∙ sym e) in
    let low : leb (read_on 0 word) 4294967295 ≡ true = le-leb (read_on 0 word) 4294967295 (omega (arith, v, le)) in
    rw (same, low) (ap Some (sym v))

pub no_number : (word : List ℕ) → ((n : ℕ) → n ≤ 4294967295 → word ≡ decimal n → ⊥) → None ≡ number_of_word word
no_number word none = by_test (bytes_eq (decimal (read_on 0 word)) word && leb (read_on 0 word) 4294967295) refl
  where
    by_test : (b : Bool) → (bytes_eq (decimal (read_on 0 word)) word && leb (read_on 0 word) 4294967295) ≡ b → None ≡ cond b (Some (read_on 0 word)) None
    by_test true e = let p = and_parts _ _ e in absurd (none (read_on 0 word) (leb-true (read_on 0 word) 4294967295 p.1) (sym (bytes_same (decimal (read_on 0 word)) word p.0)))
    by_test false e = refl
