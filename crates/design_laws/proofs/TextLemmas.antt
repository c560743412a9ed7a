-- Right lines of a text of one model.
use Rattle.std.proofs.Common.{◌≡◌, ℕ, ◌+◌, Bool, true, false, cond, ◌||◌, List, [], ◌∷◌, ◌++◌, Option, Some, None, refl, sym, ap, ◌∙◌, subst, arith, append_assoc}
use Rattle.design_laws.proofs.Vocabulary.{list_any, count_by, option_or, length-drop, sum_by-append, LogicalLine, Head, is_model, is_subckt}
use Rattle.design_blif.specs.declared.head.Head.TheVariants as head
use Rattle.design_blif.specs.{Right.IsSame, Right.AreRightWords, Parts.control_of}
use Rattle.design_blif.specs.Grammar.{Grouped, kind_of, grouped_behind, grouped, statements_of, latch_control_on, control_by, ModelText, onto, parted, models_of, model_lines, above_by, AreRight}
use Rattle.design_laws.proofs.OrderedLemmas.{Each, sum-cons}
use Rattle.design_laws.proofs.LineLemmas.{IsFine, IsThis, KeepsTo}

abbrev pub models_in : List LogicalLine → ℕ
models_in lines = count_by (λ l. is_model (kind_of l)) lines

abbrev is_one : LogicalLine → ℕ
is_one l = cond (is_model (kind_of l)) 1 0

models-cons : (l : LogicalLine) (lines : List LogicalLine) → models_in (l ∷ lines) ≡ cond (is_model (kind_of l)) 1 0 + models_in lines
models-cons l lines = sum-cons is_one l lines

-- ---- of each line and of each statement

pub each_statement : (P : LogicalLine → Type 0) (lines : List LogicalLine) → Each P lines → Each (λ s. P s.head) (statements_of lines)
each_statement P [] all = tt
each_statement P (l ∷ lines) all = by (kind_of l) (grouped lines) (each_statement P lines all.1)
  where
    by : (k : Head) (g : Grouped) → Each (λ s. P s.head) g.statements → Each (λ s. P s.head) (grouped_behind l k g).statements
    by head.Passed g rest = rest
    by head.Row g rest = rest
    by _ g rest = (all.0, rest)

abbrev pub IsFineLine : LogicalLine → Type 0
IsFineLine l = IsFine (kind_of l) l.words

later_false : (a b : Bool) → (a || b) ≡ false → b ≡ false
later_false true b h = absurd cc
later_false false b h = h

pub fine_lines : (lines above : List LogicalLine) → AreRight above lines → list_any (λ l. is_subckt (kind_of l)) lines ≡ false → Each IsFineLine lines
unfolding AreRight
fine_lines [] above h e = tt
fine_lines (l ∷ lines) above h e = (by (kind_of l) h.0.1 e, fine_lines lines (above ++ l ∷ []) h.1 (later_false (is_subckt (kind_of l)) (list_any (λ x. is_subckt (kind_of x)) lines) e))
  where
    by : (k : Head) → AreRightWords (above_by (models_of above)) k l.words → (is_subckt k || list_any (λ x. is_subckt (kind_of x)) lines) ≡ false → IsFine k l.words
    by head.Names r none = omega (arith, r.2.some, length-drop 1 l.words)
    by head.Subckt r none = absurd cc
    by _ r none = tt

-- ---- the one model

no_model_in : (lines : List LogicalLine) → models_in lines ≡ 0 → parted lines ≡ record { front = lines; models = [] }
no_model_in [] e = refl
no_model_in (l ∷ lines) e = by (kind_of l) (sym (models-cons l lines) ∙ e) (no_model_in lines)
  where
    by : (k : Head) → cond (is_model k) 1 0 + models_in lines ≡ 0 → (models_in lines ≡ 0 → parted lines ≡ record { front = lines; models = [] }) → onto l k (parted lines) ≡ record { front = l ∷ lines; models = [] }
    by head.Model n rest = absurd (let no : ⊥ = omega (arith, n) in no)
    by _ n rest = let none : models_in lines ≡ 0 = omega (arith, n) in rw (rest none) refl

none_begun : (above : List LogicalLine) → models_in above ≡ 0 → (above_by (models_of above)).this.begun ≡ false
none_begun above e = ap (λ p. (above_by p.models).this.begun) (no_model_in above e)

one_more : (above : List LogicalLine) (l : LogicalLine) → models_in above ≡ 0 → is_model (kind_of l) ≡ false → models_in (above ++ l ∷ []) ≡ 0
one_more above l e n =
    let whole : models_in (above ++ l ∷ []) ≡ models_in above + models_in (l ∷ []) = sum_by-append is_one above (l ∷ []) in
    let single : models_in (l ∷ []) ≡ is_one l + models_in [] = models-cons l [] in
    let last : is_one l ≡ 0 = rw n refl in
    let none : models_in [] ≡ 0 = refl in
    omega (arith, whole, single, last, none, e)

-- what a line in front of the model may be
abbrev IsFrontLine : Head → Type 0
IsFrontLine head.Model = Unit {0}
IsFrontLine head.Passed = Unit {0}
IsFrontLine _ = ⊥

front_line : (above : List LogicalLine) (k : Head) (words : List (List ℕ)) → models_in above ≡ 0 → AreRightWords (above_by (models_of above)) k words → IsFrontLine k
front_line above head.Model words e r = tt
front_line above head.Passed words e r = tt
front_line above _ words e r = let no : false ≡ true = sym (none_begun above e) ∙ r.0 in absurd cc

pub the_model : (lines above : List LogicalLine) → AreRight above lines → models_in above ≡ 0 → models_in lines ≡ 1 → (m : ModelText) × (models_of lines ≡ m ∷ []) × (statements_of (model_lines m) ≡ statements_of lines)
unfolding AreRight
the_model [] above h e one = absurd (let no : ⊥ = omega (arith, one) in no)
the_model (l ∷ lines) above h e one = by (kind_of l) refl (front_line above (kind_of l) l.words e h.0.1) (sym (models-cons l lines) ∙ one) (the_model lines (above ++ l ∷ []) h.1)
  where
    by : (k : Head) → kind_of l ≡ k → IsFrontLine k → cond (is_model k) 1 0 + models_in lines ≡ 1
        → (models_in (above ++ l ∷ []) ≡ 0 → models_in lines ≡ 1 → (m : ModelText) × (models_of lines ≡ m ∷ []) × (statements_of (model_lines m) ≡ statements_of lines))
        → (m : ModelText) × ((onto l k (parted lines)).models ≡ m ∷ []) × (statements_of (model_lines m) ≡ (grouped_behind l k (grouped lines)).statements)
    by head.Model is f n later =
        let none : models_in lines ≡ 0 = omega (arith, n) in
        let p = no_model_in lines none in
        (record { first = l; rest = lines }, (λ i. record { first = l; rest = (p i).front } ∷ (p i).models), ap (λ k. (grouped_behind l k (grouped lines)).statements) is)
    by head.Passed is f n later =
        let single : models_in lines ≡ 1 = omega (arith, n) in
        later (one_more above l e (ap is_model is)) single
    by _ is f n later = absurd f

-- ---- controls

abbrev first_control : List LogicalLine → Option (List ℕ)
first_control [] = None
first_control (l ∷ lines) = option_or (latch_control_on (kind_of l) l) (first_control lines)

control_by_lines : (lines : List LogicalLine) → control_by (statements_of lines) ≡ first_control lines
control_by_lines [] = refl
control_by_lines (l ∷ lines) = by (kind_of l) refl (grouped lines) (control_by_lines lines)
  where
    by : (k : Head) → kind_of l ≡ k → (g : Grouped) → control_by g.statements ≡ first_control lines → control_by (grouped_behind l k g).statements ≡ option_or (latch_control_on (kind_of l) l) (first_control lines)
    by head.Passed is g rest = rest ∙ ap (λ k. option_or (latch_control_on k l) (first_control lines)) (sym is)
    by head.Row is g rest = rest ∙ ap (λ k. option_or (latch_control_on k l) (first_control lines)) (sym is)
    by _ is g rest = ap (option_or (latch_control_on (kind_of l) l)) rest

first-append : (xs : List LogicalLine) (l : LogicalLine) → first_control (xs ++ l ∷ []) ≡ option_or (first_control xs) (latch_control_on (kind_of l) l)
first-append [] l = by (latch_control_on (kind_of l) l)
  where
    by : (o : Option (List ℕ)) → option_or o None ≡ o
    by None = refl
    by (Some w) = refl
first-append (x ∷ xs) l = ap (option_or (latch_control_on (kind_of x) x)) (first-append xs l) ∙ by (latch_control_on (kind_of x) x) (first_control xs) (latch_control_on (kind_of l) l)
  where
    by : (a b c : Option (List ℕ)) → option_or a (option_or b c) ≡ option_or (option_or a b) c
    by None b c = refl
    by (Some w) b c = refl

or_assoc : (a b c : Option (List ℕ)) → option_or (option_or a b) c ≡ option_or a (option_or b c)
or_assoc None b c = refl
or_assoc (Some w) b c = refl

module _ (one : List ℕ) where
  abbrev pub KeepsLine : LogicalLine → Type 0
  KeepsLine l = KeepsTo one (kind_of l) l.words

  same_this : (o d rest : Option (List ℕ)) → IsSame o d → option_or d (option_or o rest) ≡ Some one → IsThis one o
  same_this None d rest same e = tt
  same_this (Some c) None rest same e = cc
  same_this (Some c) (Some d) rest same e = let is : d ≡ one = cc in same ∙ is

  model_at : (front mid : List LogicalLine) (first : LogicalLine) → models_in front ≡ 0 → kind_of first ≡ head.Model → models_in mid ≡ 0 → models_of (front ++ first ∷ mid) ≡ record { first = first; rest = mid } ∷ []
  model_at front mid first none is no-more = ap (λ p. p.models) (whole front none)
    where
      whole : (fs : List LogicalLine) → models_in fs ≡ 0 → parted (fs ++ first ∷ mid) ≡ record { front = fs; models = record { first = first; rest = mid } ∷ [] }
      whole [] n = rw (is, no_model_in mid no-more) refl
      whole (a ∷ fs) n = by (kind_of a) (sym (models-cons a fs) ∙ n) (whole fs)
        where
          by : (k : Head) → cond (is_model k) 1 0 + models_in fs ≡ 0 → (models_in fs ≡ 0 → parted (fs ++ first ∷ mid) ≡ record { front = fs; models = record { first = first; rest = mid } ∷ [] }) → onto a k (parted (fs ++ first ∷ mid)) ≡ record { front = a ∷ fs; models = record { first = first; rest = mid } ∷ [] }
          by head.Model n rest = absurd (let no : ⊥ = omega (arith, n) in no)
          by _ n rest = let fewer : models_in fs ≡ 0 = omega (arith, n) in rw (rest fewer) refl

  control_above : (front mid : List LogicalLine) (first : LogicalLine) → models_in front ≡ 0 → kind_of first ≡ head.Model → models_in mid ≡ 0 → (above_by (models_of (front ++ first ∷ mid))).this.control ≡ first_control mid
  control_above front mid first none is no-more =
      ap (λ ms. (above_by ms).this.control) (model_at front mid first none is no-more)
      ∙ control_by_lines (first ∷ mid)
      ∙ ap (λ k. option_or (latch_control_on k first) (first_control mid)) is

  kept_to : (front mid lines : List LogicalLine) (first : LogicalLine) → models_in front ≡ 0 → kind_of first ≡ head.Model → models_in mid ≡ 0 → models_in lines ≡ 0 → AreRight (front ++ first ∷ mid) lines → option_or (first_control mid) (first_control lines) ≡ Some one → Each KeepsLine lines
  unfolding AreRight
  kept_to front mid [] first none is no-more fewer h e = tt
  kept_to front mid (l ∷ lines) first none is no-more fewer h e =
      let parts : cond (is_model (kind_of l)) 1 0 + models_in lines ≡ 0 = sym (models-cons l lines) ∙ fewer in
      let not-model : is_model (kind_of l) ≡ false = no_first (is_model (kind_of l)) (models_in lines) parts in
      let less : models_in lines ≡ 0 = omega (arith, parts) in
      let above : AreRight (front ++ first ∷ (mid ++ l ∷ [])) lines = subst (λ x. AreRight x lines) (append_assoc front (first ∷ mid) (l ∷ [])) h.1 in
      let next : option_or (first_control (mid ++ l ∷ [])) (first_control lines) ≡ Some one = ap (λ o. option_or o (first_control lines)) (first-append mid l) ∙ or_assoc (first_control mid) (latch_control_on (kind_of l) l) (first_control lines) ∙ e in
      (by (kind_of l) h.0.1 e, kept_to front (mid ++ l ∷ []) lines first none is (one_more mid l no-more not-model) less above next)
    where
      no_first : (b : Bool) (n : ℕ) → cond b 1 0 + n ≡ 0 → b ≡ false
      no_first true n s = absurd (let no : ⊥ = omega (arith, s) in no)
      no_first false n s = refl

      by : (k : Head) → AreRightWords (above_by (models_of (front ++ first ∷ mid))) k l.words → option_or (first_control mid) (option_or (latch_control_on k l) (first_control lines)) ≡ Some one → KeepsTo one k l.words
      by head.Latch r s = same_this (control_of l.words) (first_control mid) (first_control lines) (subst (IsSame (control_of l.words)) (control_above front mid first none is no-more) r.2.control) s
      by _ r s = tt

  kept_all : (lines above : List LogicalLine) → AreRight above lines → models_in above ≡ 0 → models_in lines ≡ 1 → first_control lines ≡ Some one → Each KeepsLine lines
  unfolding AreRight
  kept_all [] above h e single some = tt
  kept_all (l ∷ lines) above h e single some = by (kind_of l) refl (front_line above (kind_of l) l.words e h.0.1) (sym (models-cons l lines) ∙ single) some (kept_all lines (above ++ l ∷ []) h.1)
    where
      by : (k : Head) → kind_of l ≡ k → IsFrontLine k → cond (is_model k) 1 0 + models_in lines ≡ 1 → option_or (latch_control_on k l) (first_control lines) ≡ Some one
          → (models_in (above ++ l ∷ []) ≡ 0 → models_in lines ≡ 1 → first_control lines ≡ Some one → Each KeepsLine lines) → KeepsLine l × Each KeepsLine lines
      by head.Model is f n s later =
          let none : models_in lines ≡ 0 = omega (arith, n) in
          let first : KeepsLine l = subst (λ k. KeepsTo one k l.words) (sym is) tt in
          let nothing-yet : models_in [] ≡ 0 = refl in
          (first, kept_to above [] lines l e is nothing-yet none h.1 s)
      by head.Passed is f n s later =
          let more : models_in lines ≡ 1 = omega (arith, n) in
          let first : KeepsLine l = subst (λ k. KeepsTo one k l.words) (sym is) tt in
          (first, later (one_more above l e (ap is_model is)) more s)
      by _ is f n s later = absurd f

none_kept : (lines : List LogicalLine) → first_control lines ≡ None → Each (KeepsLine []) lines
none_kept [] e = tt
none_kept (l ∷ lines) e = by (kind_of l) e (none_kept lines)
  where
    of : (o : Option (List ℕ)) → option_or o (first_control lines) ≡ None → (first_control lines ≡ None → Each (KeepsLine []) lines) → IsThis [] o × Each (KeepsLine []) lines
    of None e rest = (tt, rest e)
    of (Some w) e rest = absurd cc

    by : (k : Head) → option_or (latch_control_on k l) (first_control lines) ≡ None → (first_control lines ≡ None → Each (KeepsLine []) lines) → KeepsTo [] k l.words × Each (KeepsLine []) lines
    by head.Latch e rest = of (control_of l.words) e rest
    by _ e rest = (tt, rest e)

-- all controls are one
pub one_control : (lines : List LogicalLine) → AreRight [] lines → models_in lines ≡ 1 → (one : List ℕ) × Each (KeepsLine one) lines
one_control lines h single = by (first_control lines) refl
  where
    by : (o : Option (List ℕ)) → first_control lines ≡ o → (one : List ℕ) × Each (KeepsLine one) lines
    by None e = ([], none_kept lines e)
    by (Some one) e = let none : models_in [] ≡ 0 = refl in (one, kept_all one lines [] h none single e)
