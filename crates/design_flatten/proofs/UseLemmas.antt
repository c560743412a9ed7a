-- Lines that use models as they are listed, and what is kept of the models.
use Rattle.std.proofs.Common.{◌≡◌, ℕ, ◌<◌, Bool, true, false, cond, List, [], ◌∷◌, ◌++◌, Option, Some, None, is_some, IsSome, rules, length, map, refl, sym, ap, ◌∙◌, ◌||◌, get_or, subst, arith}
use Rattle.design_flatten.proofs.Vocabulary.{Bor, option_or, bytes_eq, get_or-map, map-append, length-map, IsFirst, first_all, Model}
use Rattle.design_flatten.specs.declared.{uses.UseLine.UseLine, catalog.Known.Known}
use Rattle.design_flatten.specs.Vocabulary.{no_model, model_named, Use, no_use, is_among, use_in, listed, number_at, shown, IsFirstListed, names_of, known_of, IsKnown}
use Rattle.design_flatten.proofs.NameLemmas.{among-push, name_is, same_name}

pub listed_is : (us : List UseLine) (k : ℕ) (u : UseLine) → k < length us → u ≡ get_or us k u → listed (map use_in us) k ≡ use_in u
listed_is us k u lt is = get_or-map use_in us k u no_use lt ∙ ap use_in (sym is)

-- all of them were looked at
pub first_listed : (us : List UseLine) (P : ℕ → Type 0) (n : ℕ) (found : Option ℕ) → n ≡ length us → IsFirst (number_at (map use_in us)) n P found → IsFirstListed (map use_in us) P found
first_listed us P n found e h = first_all (number_at (map use_in us)) P (length (map use_in us)) n found (e ∙ sym (length-map us use_in)) h

-- ---- what is kept at a name

or_none : {X : Type 0} (o : Option X) → option_or o None ≡ o
or_none None = refl
or_none (Some k) = refl

pub swapped : (v w : List ℕ) → bytes_eq v w ≡ bytes_eq w v
swapped v w = by (bytes_eq v w) (bytes_eq w v) refl refl
  where
    by : (a b : Bool) → bytes_eq v w ≡ a → bytes_eq w v ≡ b → a ≡ b
    by true true d e = refl
    by false false d e = refl
    by true false d e = absurd (let f : true ≡ false = sym (same_name v) ∙ ap (bytes_eq v) (name_is v w d) ∙ ap (λ x. bytes_eq x w) (name_is v w d) ∙ ap (bytes_eq w) (sym (name_is v w d)) ∙ e in cc)
    by false true d e = absurd (let f : false ≡ true = sym d ∙ ap (λ x. bytes_eq x w) (sym (name_is w v e)) ∙ same_name w in cc)

pub added_lookup : {X : Type 0} (old : List ℕ → Option X) (new : Option X) (name w : List ℕ) (k : X) → old name ≡ None → new ≡ cond (bytes_eq name w) (Some k) (old w) → new ≡ option_or (old w) (cond (bytes_eq w name) (Some k) None)
added_lookup old new name w k none e = e ∙ by (bytes_eq name w) refl (swapped name w)
  where
    by : (b : Bool) → bytes_eq name w ≡ b → b ≡ bytes_eq w name → cond b (Some k) (old w) ≡ option_or (old w) (cond (bytes_eq w name) (Some k) None)
    by true d s = rw (← s) (sym (ap (λ o. option_or o (Some k)) (ap old (sym (name_is name w d)) ∙ none)))
    by false d s = rw (← s) (sym (or_none (old w)))

pub known_named : (ms : List Model) (m : Model) (w : List ℕ) → is_among (names_of ms) w ≡ true → model_named (ms ++ m ∷ []) w ≡ model_named ms w
known_named [] m w h = absurd cc
known_named (x ∷ ms) m w h = by (bytes_eq x.name w) (swapped x.name w) (known_named ms m w)
  where
    by : (b : Bool) → b ≡ bytes_eq w x.name → (is_among (names_of ms) w ≡ true → model_named (ms ++ m ∷ []) w ≡ model_named ms w) → cond b x (model_named (ms ++ m ∷ []) w) ≡ cond b x (model_named ms w)
    by true s rest = refl
    by false s rest = rest (ap (λ b. b || is_among (names_of ms) w) s ∙ h)

pub new_named : (ms : List Model) (m : Model) (w : List ℕ) → is_among (names_of ms) w ≡ false → model_named (ms ++ m ∷ []) w ≡ cond (bytes_eq w m.name) m no_model
new_named [] m w h = ap (λ b. cond b m no_model) (swapped m.name w)
new_named (x ∷ ms) m w h = by (bytes_eq x.name w) (swapped x.name w) (new_named ms m w)
  where
    by : (b : Bool) → b ≡ bytes_eq w x.name → (is_among (names_of ms) w ≡ false → model_named (ms ++ m ∷ []) w ≡ cond (bytes_eq w m.name) m no_model) → cond b x (model_named (ms ++ m ∷ []) w) ≡ cond (bytes_eq w m.name) m no_model
    by true s rest = absurd (let f : true ≡ false = ap (λ b. b || is_among (names_of ms) w) s ∙ h in cc)
    by false s rest = rest (ap (λ b. b || is_among (names_of ms) w) s ∙ h)

pub none_named : (ms : List Model) (w : List ℕ) → is_among (names_of ms) w ≡ false → model_named ms w ≡ no_model
none_named [] w h = refl
none_named (x ∷ ms) w h = by (bytes_eq x.name w) (swapped x.name w) (none_named ms w)
  where
    by : (b : Bool) → b ≡ bytes_eq w x.name → (is_among (names_of ms) w ≡ false → model_named ms w ≡ no_model) → cond b x (model_named ms w) ≡ no_model
    by true s rest = absurd (let f : true ≡ false = ap (λ b. b || is_among (names_of ms) w) s ∙ h in cc)
    by false s rest = rest (ap (λ b. b || is_among (names_of ms) w) s ∙ h)

pub name_push : (ms : List Model) (m : Model) (w : List ℕ) → is_among (names_of (ms ++ m ∷ [])) w ≡ (is_among (names_of ms) w || bytes_eq w m.name)
name_push ms m w = ap (λ ns. is_among ns w) (map-append (λ x. x.name) ms (m ∷ [])) ∙ among-push (names_of ms) m.name w

pub known_more : (ms : List Model) (m : Bor Model) (w : List ℕ) (o : Option Known) → IsKnown ms w o → IsKnown (ms ++ m.now ∷ []) w (option_or o (cond (bytes_eq w m.now.name) (Some (known_of m)) None))
known_more ms m w (Some k) h =
    (name_push ms m.now w ∙ ap (λ b. b || bytes_eq w m.now.name) h.0, h.1 ∙ sym (known_named ms m.now w h.0), h.2, h.3)
known_more ms m w None h = by (bytes_eq w m.now.name) (name_push ms m.now w ∙ ap (λ b. b || bytes_eq w m.now.name) h) (new_named ms m.now w h)
  where
    by : (b : Bool) → is_among (names_of (ms ++ m.now ∷ [])) w ≡ b → model_named (ms ++ m.now ∷ []) w ≡ cond b m.now no_model → IsKnown (ms ++ m.now ∷ []) w (cond b (Some (known_of m)) None)
    by true d e = (d, sym e, refl, refl)
    by false d e = d

pub absent_key : {K : Type 0} (o : Option K) → is_some o ≡ false → o ≡ None
absent_key None h = refl
absent_key (Some k) h = absurd cc

pub some_shown : (o : Option (Bor (List ℕ))) (b : Bool) → b ≡ is_some o → b ≡ true → IsSome (shown o)
some_shown (Some w) b e h = search rules
some_shown None b e h = absurd cc

pub shown_some : (o : Option (Bor (List ℕ))) (b : Bool) → b ≡ is_some o → IsSome (shown o) → b ≡ true
shown_some (Some w) b e h = e
shown_some None b e h = absurd (search rules)

-- a line that was found is one of those that there aren't
pub no_first : (us vs : List Use) (P : List Use → ℕ → Type 0) (o : Option ℕ) (i : ℕ) → us ≡ vs → o ≡ Some i → IsFirstListed us (P us) o → IsFirst (number_at vs) (length vs) (P vs) None → ⊥
no_first us vs P o i e f h none =
    let found = subst (IsFirstListed us (P us)) f h in
    none i (omega (arith, found.0, ap length e)) (subst (λ xs. P xs i) e found.1)
