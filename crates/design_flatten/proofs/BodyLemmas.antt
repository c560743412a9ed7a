-- The lines of models, as they are kept.
use Rattle.std.proofs.Common.{◌≡◌, ℕ, true, false, cond, Bool, List, [], ◌∷◌, ◌++◌, Option, Some, None, is_some, map, refl, ap, sym, ◌∙◌, subst, ◌||◌}
use Rattle.design_flatten.proofs.Vocabulary.{Bor, filter, option_copied, unwrap_or, bytes_eq, Model, PairDef, Body, Lean}
use Rattle.design_flatten.specs.declared.bodies.Bodies.{Bodies}
use Rattle.design_flatten.specs.Vocabulary.{no_model, Pair, Part, InputPart, OutputPart, CoverPart, LatchPart, UsePart, is_use, pair_of, part_in, line_in, names_within, needed_defs, model_named, is_among, names_of, with_pairs, lean_in, body_at, IsBodyOf, IsBodyAt, AreBodies}
use Rattle.design_flatten.proofs.NameLemmas.{name_is}
use Rattle.design_flatten.proofs.UseLemmas.{known_named, new_named, none_named, name_push, swapped}

-- a name that stands already, or another
pub body_stays : (all these : List Model) (m : Model) (w : List ℕ) (o : Option Body) → IsBodyAt all these w o → (o ≡ None → bytes_eq m.name w ≡ false) → IsBodyAt all (these ++ m ∷ []) w o
body_stays all these m w None h e = name_push these m w ∙ (λ i. h i || (sym (swapped m.name w) ∙ e refl) i)
body_stays all these m w (Some b) h e =
    (name_push these m w ∙ ap (λ t. t || bytes_eq w m.name) h.0, subst (λ x. IsBodyOf all x b) (sym (known_named these m w h.0)) h.1)

pub body_new : (all these : List Model) (m : Model) (w : List ℕ) (b : Body) → is_among (names_of these) w ≡ false → bytes_eq m.name w ≡ true → IsBodyOf all m b → IsBodyAt all (these ++ m ∷ []) w (Some b)
body_new all these m w b none e h =
    let is : bytes_eq w m.name ≡ true = sym (swapped m.name w) ∙ e in
    let named : model_named (these ++ m ∷ []) w ≡ m = new_named these m w none ∙ ap (λ t. cond t m no_model) is in
    (name_push these m w ∙ (λ i. none i || is i), subst (λ x. IsBodyOf all x b) (sym named) h)

-- a line that uses no model stays as it is
pub plain_pairs : (pairs : List (Pair ℕ)) (p : Part ℕ) → is_use p ≡ false → with_pairs pairs p ≡ p
plain_pairs pairs (InputPart s) h = refl
plain_pairs pairs (OutputPart s) h = refl
plain_pairs pairs (CoverPart out ins rows off) h = refl
plain_pairs pairs (LatchPart from out init control) h = refl
plain_pairs pairs (UsePart m old way) h = absurd cc

pub lean_plain : (l : Lean) → is_use (line_in l.line).part ≡ false → lean_in l ≡ line_in l.line
lean_plain l h = ap (λ p. record { number = l.line.number; part = p }) (plain_pairs (map (λ p. pair_of p.now) l.pairs.items) (part_in l.line.said) h)

pub pairs_of : (ps : List (Bor PairDef)) → map (λ p. pair_of p.now) ps ≡ map pair_of (map (λ p. p.now) ps)
pairs_of [] = refl
pairs_of (p ∷ ps) = ap (λ xs. pair_of p.now ∷ xs) (pairs_of ps)

none_passes : (pairs : List PairDef) → filter (λ p. false) pairs ≡ []
none_passes [] = refl
none_passes (p ∷ pairs) = none_passes pairs

pub none_needed : (ms : List Model) (m : List ℕ) (pairs : List PairDef) → model_named ms m ≡ no_model → needed_defs ms m pairs ≡ []
none_needed ms m pairs none = ap (λ x. filter (λ (p : PairDef). is_among (names_within x) p.formal) pairs) none ∙ none_passes pairs

-- another name than one at which something is kept
pub other_name : (look : List ℕ → Option Body) (name w : List ℕ) → is_some (look name) ≡ true → look w ≡ None → bytes_eq name w ≡ false
other_name look name w has none = by (bytes_eq name w) refl
  where
    by : (b : Bool) → bytes_eq name w ≡ b → b ≡ false
    by false e = refl
    by true e = absurd (let no : true ≡ false = sym has ∙ ap (λ v. is_some (look v)) (name_is name w e) ∙ ap is_some none in cc)

pub body_added : (all these : List Model) (m : Model) (look : List ℕ → Option Body) (w : List ℕ) (b : Body) → look m.name ≡ None → IsBodyOf all m b → IsBodyAt all these w (look w) → IsBodyAt all (these ++ m ∷ []) w (cond (bytes_eq m.name w) (Some b) (look w))
body_added all these m look w b none is h = by (bytes_eq m.name w) refl
  where
    by : (d : Bool) → bytes_eq m.name w ≡ d → IsBodyAt all (these ++ m ∷ []) w (cond d (Some b) (look w))
    by true e = body_new all these m w b (subst (IsBodyAt all these w) (ap look (sym (name_is m.name w e)) ∙ none) h) e is
    by false e = body_stays all these m w (look w) h (λ o. e)

pub body_found : (ms : List Model) (b : Bodies) → AreBodies ms b → (w : List ℕ) (o : Option (Bor Body)) (d : Bor Body) → option_copied o ≡ body_at b w → d.now ≡ b.none → IsBodyOf ms (model_named ms w) (unwrap_or o d).now
body_found ms b h w (Some x) d e none = (subst (IsBodyAt ms ms w) (sym e) (h.named w)).1
body_found ms b h w None d e none =
    let absent : is_among (names_of ms) w ≡ false = subst (IsBodyAt ms ms w) (sym e) (h.named w) in
    subst (IsBodyOf ms (model_named ms w)) (sym none) (subst (λ m. IsBodyOf ms m b.none) (sym (none_named ms w absent)) h.none)
