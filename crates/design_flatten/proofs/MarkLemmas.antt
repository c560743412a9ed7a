-- Names that are added with marks.
use Rattle.std.proofs.Common.{◌≡◌, ℕ, ◌+◌, ◌<◌, Bool, true, false, eqb, List, [], ◌∷◌, ◌++◌, map, take, length, get_or, set, refl, sym, ap, subst, ◌∙◌, arith, Result, Ok, Err, OnOk}
use Rattle.design_flatten.proofs.Vocabulary.{flat_map, map-append, append-nil, get_or-set_other, flat_map-append, eqb-true, eqb-false}
use Rattle.design_flatten.proofs.Vocabulary.{Marked, is_among, with_name, with_names, AreRightMarks, HasTaken}
use Rattle.design_flatten.proofs.NameLemmas.{with_names-append, still_among, now_among}

pub known_taken : (m : Marked) (place : ℕ) → get_or m.marks.items place false ≡ true → HasTaken m (get_or m.names.now place [] ∷ []) m
known_taken m place h = record {
  names = refl;
  marks = λ right. right;
  set = λ right. let known : is_among m.set (get_or m.names.now place []) ≡ true = right place h in rw known refl;
}

pub name_taken : (old new : Marked) (w : List ℕ) → new.names ≡ old.names → new.marks ≡ old.marks → new.set ≡ with_name old.set w → HasTaken old (w ∷ []) new
name_taken old new w same marks is = record {
  names = same;
  marks = λ right k h. rw (is, same) (still_among old.set w (get_or old.names.now k []) (right k (sym (ap (λ m. get_or m.items k false) marks) ∙ h)));
  set = λ right. is;
}

module _ (old new : Marked) (place : ℕ) (same : new.names ≡ old.names) (is : new.set ≡ with_name old.set (get_or old.names.now place [])) (marks : new.marks.items ≡ set old.marks.items place true) where
  right_now : AreRightMarks old → AreRightMarks new
  right_now right k h = by (eqb k place) refl
    where
      by : (b : Bool) → eqb k place ≡ b → is_among new.set (get_or new.names.now k []) ≡ true
      by true e = let at : k ≡ place = eqb-true k place e in rw (is, same, at) (now_among old.set (get_or old.names.now place []))
      by false e =
          let kept : get_or (set old.marks.items place true) k false ≡ get_or old.marks.items k false = get_or-set_other old.marks.items place k true false (eqb-false k place e) in
          rw (is, same) (still_among old.set (get_or old.names.now place []) (get_or old.names.now k []) (right k (sym kept ∙ sym (ap (λ m. get_or m k false) marks) ∙ h)))

  pub new_taken : HasTaken old (get_or old.names.now place [] ∷ []) new
  new_taken = record { names = same; marks = right_now; set = λ right. is }

pub taken_none : (m : Marked) → HasTaken m [] m
taken_none m = record { names = refl; marks = λ right. right; set = λ right. refl }

pub taken_more : (a b c : Marked) (v w : List (List ℕ)) → HasTaken a v b → HasTaken b w c → HasTaken a (v ++ w) c
taken_more a b c v w p q = record {
  names = q.names ∙ p.names;
  marks = λ right. q.marks (p.marks right);
  set = λ right. q.set (p.marks right) ∙ ap (λ s. with_names s w) (p.set right) ∙ sym (with_names-append v w a.set);
}

pub on_ok : {X E : Type 0} (r : Result X E) (A B : Type 0) → (A → B) → OnOk r A → OnOk r B
on_ok (Ok x) A B f h = f h
on_ok (Err e) A B f h = h

pub latch_taken : (a b c d : Marked) (from out : ℕ) (control : List (List ℕ)) → HasTaken a (get_or a.names.now from [] ∷ []) b → HasTaken b (get_or b.names.now out [] ∷ []) c → HasTaken c control d
    → HasTaken a (get_or a.names.now from [] ∷ get_or a.names.now out [] ∷ control) d
latch_taken a b c d from out control p q r =
    let second : HasTaken b (get_or a.names.now out [] ∷ []) c = subst (λ ns. HasTaken b (get_or ns.now out [] ∷ []) c) p.names q in
    taken_more a b d (get_or a.names.now from [] ∷ []) (get_or a.names.now out [] ∷ control) p (taken_more b c d (get_or a.names.now out [] ∷ []) control second r)

module _ {X : Type 0} where
  pub taken_next : (f : List (List ℕ) → X → List ℕ) (xs : List X) (i : ℕ) (x : X) (a b c : Marked) → take (i + 1) xs ≡ take i xs ++ x ∷ []
      → HasTaken a (map (f a.names.now) (take i xs)) b → HasTaken b (f b.names.now x ∷ []) c → HasTaken a (map (f a.names.now) (take (i + 1) xs)) c
  taken_next f xs i x a b c next p q =
      rw (next, map-append (f a.names.now) (take i xs) (x ∷ [])) (taken_more a b c (map (f a.names.now) (take i xs)) (f a.names.now x ∷ []) p (subst (λ n. HasTaken b (f n.now x ∷ []) c) p.names q))

  pub all_taken : (f : List (List ℕ) → X → List (List ℕ)) (names : List (List ℕ)) (xs : List X) (i : ℕ) (x : X) (a b : Marked) → take (i + 1) xs ≡ take i xs ++ x ∷ [] → a.names.now ≡ names
      → a.set ≡ with_names [] (flat_map (f names) (take i xs)) → AreRightMarks a → HasTaken a (f a.names.now x) b → b.set ≡ with_names [] (flat_map (f names) (take (i + 1) xs))
  all_taken f names xs i x a b next of is right p =
      let q : HasTaken a (f names x) b = subst (λ ns. HasTaken a (f ns x) b) of p in
      rw (next, flat_map-append (f names) (take i xs) (x ∷ []), append-nil (f names x))
      (q.set right ∙ ap (λ s. with_names s (f names x)) is ∙ sym (with_names-append (flat_map (f names) (take i xs)) (f names x) []))
