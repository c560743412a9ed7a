-- Names and numbers are one to one.
use Rattle.std.proofs.Common.{◌≡◌, ◌≢◌, ◌⊎◌, ℕ, suc, ◌+◌, ◌-◌, ◌^◌, ◌<◌, ◌≤◌, Bool, true, false, Option, Some, None, List, [], ◌∷◌, ◌++◌, length, take, drop, get_or, refl, sym, ap, ◌∙◌, subst, arith, inl, inr, append_assoc, All, ◌==◌, nat_lt, if◌then◌else◌, IfNone}
use Rattle.machine_shape.proofs.Vocabulary.{decimal, position_or_len, take-append_seam, drop-append_seam, decimal_injective, Shape}
use Rattle.machine_shape.specs.Vocabulary.{Levels, Path, Place, IsPlaceOf, IsSpot, step, rest, start, wires_in, levels_of, wires_of, place_of, numbered, steps_name, inner_letters, way_name, part_name, place_name, wire_name, NoDot, way_text, IsRead, IsReadable}
use Rattle.machine_shape.proofs.Walks.{place_from}
use Rattle.machine_shape.proofs.Running.{own_small, place_own}
use Rattle.machine_shape.proofs.Barred.{rest-drop, small_rest}
use Rattle.machine_shape.proofs.Dotted.{is_dot, no_dot-numbered, first_dot}
use Rattle.machine_shape.proofs.Naming.{short_steps, wire_steps, wire_name-place}
use Rattle.machine_shape.proofs.Whereabouts.{wire_placed}
use Rattle.machine_shape.proofs.Totals.{wires_are, four_levels}

-- m, c, h and t
abbrev pub letters : List ℕ
letters = 109 ∷ inner_letters

pub letters_undotted : NoDot letters
letters_undotted = ((λ e. omega arith), ((λ e. omega arith), ((λ e. omega arith), ((λ e. omega arith), tt))))

-- two spellings of one text
steps-text : (cs : List ℕ) (p : Path) (last : List ℕ) → steps_name cs p ++ 46 ∷ last ≡ 46 ∷ way_text cs p last
steps-text cs [] last = refl
steps-text [] (i ∷ p) last = refl
steps-text (c ∷ cs) (i ∷ p) last = ap (λ s. 46 ∷ s) (append_assoc (numbered c i) (steps_name cs p) (46 ∷ last) ∙ ap (λ s. numbered c i ++ s) (steps-text cs p last))

pub way-text : (i : ℕ) (p : Path) (last : List ℕ) → way_name (i ∷ p) ++ 46 ∷ last ≡ way_text letters (i ∷ p) last
way-text i p last = append_assoc (numbered 109 i) (steps_name inner_letters p) (46 ∷ last) ∙ ap (λ s. numbered 109 i ++ s) (steps-text inner_letters p last)

-- a text has one reading
dotted_not : (w more : List ℕ) → NoDot (w ++ 46 ∷ more) → ⊥
dotted_not [] more h = h.0 refl
dotted_not (x ∷ w) more h = dotted_not w more h.1

split_once : (w v x y : List ℕ) → NoDot w → NoDot v → w ++ 46 ∷ x ≡ v ++ 46 ∷ y → (w ≡ v) × (46 ∷ x ≡ 46 ∷ y)
split_once w v x y h g e =
    let n : length w ≡ length v = sym (first_dot w x h) ∙ ap (position_or_len is_dot) e ∙ first_dot v y g in (
      sym (take-append_seam w (46 ∷ x)) ∙ ap (λ k. take k (w ++ 46 ∷ x)) n ∙ ap (take (length v)) e ∙ take-append_seam v (46 ∷ y),
      sym (drop-append_seam w (46 ∷ x)) ∙ ap (λ k. drop k (w ++ 46 ∷ x)) n ∙ ap (drop (length v)) e ∙ drop-append_seam v (46 ∷ y),
    )

abbrev pub AreShort : Path → Type 0
AreShort p = All (λ i. i < 10000000) p

short_first : (i : ℕ) (p : Path) → AreShort (i ∷ p) → i < 2 ^ 64
short_first i p s = let h = s 0 0 (omega arith) in omega arith

short_rest : (i : ℕ) (p : Path) → AreShort (i ∷ p) → AreShort p
short_rest i p s k d b = s (suc k) d (omega arith)

tails : (x y : List ℕ) → 46 ∷ x ≡ 46 ∷ y → x ≡ y
tails x y e = cc

pub one_reading : (ls : Levels) (cs : List ℕ) (p q : Path) (a b : List ℕ) → NoDot cs → length ls ≤ length cs → IsSpot ls p → IsSpot ls q → AreShort p → AreShort q → NoDot a → NoDot b →
    way_text cs p a ≡ way_text cs q b → (p ≡ q) × (a ≡ b)
one_reading ls cs [] [] a b dots l s t h g na nb e = (refl, e)
one_reading [] cs (i ∷ p) q a b dots l s t h g na nb e = elim s [ ]
one_reading [] cs p (j ∷ q) a b dots l s t h g na nb e = elim t [ ]
one_reading (k ∷ ls) [] p q a b dots l s t h g na nb e = absurd (omega arith)
one_reading (k ∷ ls) (c ∷ cs) [] (j ∷ q) a b dots l s t h g na nb e = absurd (dotted_not (numbered c j) (way_text cs q b) (subst NoDot e na))
one_reading (k ∷ ls) (c ∷ cs) (i ∷ p) [] a b dots l s t h g na nb e = absurd (dotted_not (numbered c i) (way_text cs p a) (subst NoDot (sym e) nb))
one_reading (k ∷ ls) (c ∷ cs) (i ∷ p) (j ∷ q) a b dots l (step y s) (step z t) h g na nb e =
    let x = split_once (numbered c i) (numbered c j) (way_text cs p a) (way_text cs q b) (no_dot-numbered c i dots.0 (short_first i p h)) (no_dot-numbered c j dots.0 (short_first j q g)) e in
    let same : decimal i ≡ decimal j = cc (x.0) in
    let n = decimal_injective i j (short_first i p h) (short_first j q g) same in
    let r = one_reading ls cs p q a b dots.1 (omega arith) s t (short_rest i p h) (short_rest j q g) na nb (tails _ _ x.1) in
    (cc (n, r.0), r.1)

-- the part of a wire's name has no dot
part_by_test : (x y : List ℕ) (b : Bool) → NoDot x → NoDot y → NoDot (if b then x else y)
part_by_test x y true h g = h
part_by_test x y false h g = g

pub part_undotted : (letter : ℕ) (ls : Levels) (k : ℕ) → letter ≢ 46 → k < 2 ^ 64 → NoDot (part_name letter ls k)
part_undotted letter [] k h b = part_by_test (113 ∷ []) (numbered 105 k) (k == 6) ((λ e. omega arith), tt) (no_dot-numbered 105 k (λ e. omega arith) b)
part_undotted letter (l ∷ ls) k h b = part_by_test (numbered letter k) (numbered 108 (k - l.ports)) (nat_lt k l.ports) (no_dot-numbered letter k h b) (no_dot-numbered 108 (k - l.ports) (λ e. omega arith) (omega arith))

pub no_root_name : (x y : List ℕ) → 109 ∷ x ≡ 114 ∷ y → ⊥
no_root_name x y e = let f : get_or (109 ∷ x) 0 0 ≡ get_or (114 ∷ y) 0 0 = ap (λ (v : List ℕ). get_or v 0 0) e in omega arith

pub empty_of : {A : Type 0} (xs : List A) → length xs ≡ 0 → xs ≡ []
empty_of [] h = refl
empty_of (x ∷ xs) h = absurd (omega arith)

pub two_first : (xs : List ℕ) → 2 ≤ length xs → get_or xs 0 0 ≡ 114 → get_or xs 1 0 ≡ 46 → xs ≡ 114 ∷ 46 ∷ drop 2 xs
two_first [] h a b = absurd (omega arith)
two_first (x ∷ []) h a b = absurd (omega arith)
two_first (x ∷ y ∷ xs) h a b = ap (λ (k : ℕ). k ∷ y ∷ xs) a ∙ ap (λ (k : ℕ). 114 ∷ k ∷ xs) b

pub none_also : {A : Type 0} {P Q : Type 0} (r : Option A) → (P → Q) → IfNone r P → IfNone r Q
none_also None f p = f p
none_also (Some x) f p = p

module _ (m : Shape) where
  pub below_is : (p steps : Path) (levels below : Levels) → levels ≡ levels_of m → steps ≡ p → IsSpot (levels_of m) p → below ≡ drop (length steps) levels → below ≡ rest (levels_of m) p
  below_is p steps levels below e f s g = g ∙ ap (λ (k : Path). drop (length k) levels) f ∙ ap (drop (length p)) e ∙ sym (rest-drop s)

  pub small_own : (p : Path) → IsSpot (levels_of m) p → wires_in (rest (levels_of m) p) < 2 ^ 32
  small_own p s = let o = own_small wires_in (rest (levels_of m) p) in let r = small_rest m p s in omega arith

  -- the names of wires, at the root and below
  pub name_at_root : (w k : ℕ) → place_of m w ≡ record { path = []; position = k } → wire_name m w ≡ 114 ∷ 46 ∷ part_name 112 (levels_of m) k
  name_at_root w k e = wire_name-place m w ∙ ap (place_name (levels_of m)) e

  pub root_shape : (w : ℕ) → (place_of m w).path ≡ [] → wire_name m w ≡ 114 ∷ 46 ∷ part_name 112 (levels_of m) (place_of m w).position
  root_shape w e = name_at_root w (place_of m w).position (ap (λ (p : Path). record { path = p; position = (place_of m w).position }) e)

  pub name_below : (w k i : ℕ) (p : Path) → place_of m w ≡ record { path = i ∷ p; position = k } → wire_name m w ≡ way_text letters (i ∷ p) (part_name 111 (rest (levels_of m) (i ∷ p)) k)
  name_below w k i p e = wire_name-place m w ∙ ap (place_name (levels_of m)) e ∙ way-text i p (part_name 111 (rest (levels_of m) (i ∷ p)) k)

  pub root_named : (k : ℕ) (word : List ℕ) → k < wires_in (levels_of m) → word ≡ part_name 112 (levels_of m) k → (k < wires_of m) × (wire_name m k ≡ 114 ∷ 46 ∷ word)
  unfolding place_of
  root_named k word h e =
      let o = own_small wires_in (levels_of m) in let w = wires_are m in
      (omega arith, name_at_root k k (place_own wires_in (levels_of m) k h) ∙ ap (λ s. 114 ∷ 46 ∷ s) (sym e))

  root_only : (word : List ℕ) → ((k : ℕ) → k < wires_in (levels_of m) → word ≢ part_name 112 (levels_of m) k) → (w : ℕ) (q : Place) → place_of m w ≡ q → IsPlaceOf wires_in (levels_of m) w q → wire_name m w ≢ 114 ∷ 46 ∷ word
  root_only word none w q e is n = by_path q.path refl
    where
      by_path : (p : Path) → q.path ≡ p → ⊥
      by_path [] s =
          let at : place_of m w ≡ record { path = []; position = q.position } = e ∙ ap (λ (x : Path). record { path = x; position = q.position }) s in
          let inside : q.position < wires_in (levels_of m) = subst (λ x. q.position < wires_in (rest (levels_of m) x)) s is.within in
          let x = sym (name_at_root w q.position at) ∙ n in none q.position inside (cc (x))
      by_path (i ∷ p) s =
          let at : place_of m w ≡ record { path = i ∷ p; position = q.position } = e ∙ ap (λ (x : Path). record { path = x; position = q.position }) s in
          let x = sym (name_below w q.position i p at) ∙ n in
          no_root_name _ _ x

  pub root_unnamed : (word : List ℕ) → ((k : ℕ) → k < wires_in (levels_of m) → word ≢ part_name 112 (levels_of m) k) → (w : ℕ) → w < wires_of m → wire_name m w ≢ 114 ∷ 46 ∷ word
  root_unnamed word none w h = root_only word none w (place_of m w) refl (wire_placed m w h)

  pub named_below : (name : List ℕ) (p : Path) (last k : ℕ) → IsRead (levels_of m) letters name p last → length p ≢ 0 → k < wires_in (rest (levels_of m) p) → drop last name ≡ part_name 111 (rest (levels_of m) p) k →
      (start wires_in (levels_of m) p + k < wires_of m) × (wire_name m (start wires_in (levels_of m) p + k) ≡ name)
  unfolding place_of wires_of
  named_below name [] last k r h b e = absurd (h refl)
  named_below name (i ∷ p) last k r h b e =
      let f = place_from wires_in {ls = levels_of m} {x = start wires_in (levels_of m) (i ∷ p) + k} {q = record { path = i ∷ p; position = k }} (record { spot = r.spot; within = b; number = refl }) in
      (f.0, name_below (start wires_in (levels_of m) (i ∷ p) + k) k i p f.1 ∙ ap (way_text letters (i ∷ p)) (sym e) ∙ sym r.named)

  -- a wire below the root has a name that can be read
  inner_readable : (w : ℕ) (q : Place) → place_of m w ≡ q → w < wires_of m → IsPlaceOf wires_in (levels_of m) w q → (q.path ≡ []) ⊎ (IsReadable (levels_of m) letters (wire_name m w))
  inner_readable w q e h is = by_path q.path refl
    where
      by_path : (p : Path) → q.path ≡ p → (q.path ≡ []) ⊎ (IsReadable (levels_of m) letters (wire_name m w))
      by_path [] s = inl s
      by_path (i ∷ p) s =
          let at : place_of m w ≡ record { path = i ∷ p; position = q.position } = e ∙ ap (λ (x : Path). record { path = x; position = q.position }) s in
          let small = (wire_steps m w h).1 in let same : (place_of m w).position ≡ q.position = ap (λ x. x.position) e in
          inr (record { path = i ∷ p; last = part_name 111 (rest (levels_of m) (i ∷ p)) q.position; spot = subst (IsSpot (levels_of m)) s is.spot; undotted = part_undotted 111 (rest (levels_of m) (i ∷ p)) q.position (λ e. omega arith) (omega arith); named = name_below w q.position i p at })

  pub readable : (w : ℕ) → w < wires_of m → ((place_of m w).path ≡ []) ⊎ (IsReadable (levels_of m) letters (wire_name m w))
  readable w h = inner_readable w (place_of m w) refl h (wire_placed m w h)

  -- and it reads as its place
  inner_one : (name : List ℕ) (r : Path) (last : ℕ) → IsRead (levels_of m) letters name r last → (w : ℕ) (q : Place) → place_of m w ≡ q → w < wires_of m → IsPlaceOf wires_in (levels_of m) w q → wire_name m w ≡ name →
      (q.path ≡ []) ⊎ ((q.path ≡ r) × (drop last name ≡ part_name 111 (rest (levels_of m) r) q.position))
  inner_one name r last read w q e h is n = by_path q.path refl
    where
      by_path : (p : Path) → q.path ≡ p → (q.path ≡ []) ⊎ ((q.path ≡ r) × (drop last name ≡ part_name 111 (rest (levels_of m) r) q.position))
      by_path [] s = inl s
      by_path (i ∷ p) s =
          let at : place_of m w ≡ record { path = i ∷ p; position = q.position } = e ∙ ap (λ (x : Path). record { path = x; position = q.position }) s in
          let small = (wire_steps m w h).1 in let same : (place_of m w).position ≡ q.position = ap (λ x. x.position) e in
          let spot = subst (IsSpot (levels_of m)) s is.spot in
          let x = one_reading (levels_of m) letters (i ∷ p) r (part_name 111 (rest (levels_of m) (i ∷ p)) q.position) (drop last name) letters_undotted (let f = four_levels m in omega arith) spot read.spot (short_steps m (i ∷ p) spot) (short_steps m r read.spot)
          (part_undotted 111 (rest (levels_of m) (i ∷ p)) q.position (λ e. omega arith) (omega arith)) read.undotted (sym (name_below w q.position i p at) ∙ n ∙ read.named) in
          inr (s ∙ x.0, sym x.1 ∙ ap (λ y. part_name 111 (rest (levels_of m) y) q.position) x.0)

  pub read_one : (name : List ℕ) (r : Path) (last : ℕ) → IsRead (levels_of m) letters name r last → (w : ℕ) → w < wires_of m → wire_name m w ≡ name →
      ((place_of m w).path ≡ []) ⊎ (((place_of m w).path ≡ r) × (drop last name ≡ part_name 111 (rest (levels_of m) r) (place_of m w).position) × ((place_of m w).position < wires_in (rest (levels_of m) r)))
  read_one name r last read w h n = add (inner_one name r last read w (place_of m w) refl h (wire_placed m w h) n)
    where
      add : ((place_of m w).path ≡ []) ⊎ (((place_of m w).path ≡ r) × (drop last name ≡ part_name 111 (rest (levels_of m) r) (place_of m w).position)) →
          ((place_of m w).path ≡ []) ⊎ (((place_of m w).path ≡ r) × (drop last name ≡ part_name 111 (rest (levels_of m) r) (place_of m w).position) × ((place_of m w).position < wires_in (rest (levels_of m) r)))
      add (inl e) = inl e
      add (inr x) = inr (x.0, x.1, subst (λ y. (place_of m w).position < wires_in (rest (levels_of m) y)) x.0 (wire_placed m w h).within)
