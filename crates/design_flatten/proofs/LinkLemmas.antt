-- Models that use one another, as covers that read one another.
use Rattle.std.proofs.Common.{◌≡◌, ℕ, suc, ◌+◌, ◌<◌, ◌||◌, Bool, true, false, not, cond, List, [], ◌∷◌, ◌++◌, Option, length, get_or, set, map, refl, sym, ap, ◌∙◌, subst, arith, inl, inr, get_or-set_same, get_or-set_other}
use Rattle.design_flatten.proofs.Vocabulary.{Contains, bytes_eq, cases_eq, Cover, first_same, Model, number_in}
use Rattle.std.proofs.lemmas.List.{length-set, get_or_append_left, get_or_push, length_push}
use Rattle.std.proofs.lemmas.List.Elements.{Contains-get_or, Contains-push, Contains-push_cases, Contains-append_left}
use Rattle.design_netlist.specs.Vocabulary.{no_cover, cover_at, Reads, Reaches as Leads, here as at_once, onward as through, AreGroups}
use Rattle.design_flatten.specs.Vocabulary.{Use, use_at, uses_of, is_among, LeadsToModel, here, onward, IsRecursive, IsFirstUse, use_in, listed, IsFirstListed, with_name, HaveNames, AreBare, with_input, AreLinked, group_at}
use Rattle.design_flatten.specs.declared.uses.UseLine.{UseLine}
use Rattle.design_flatten.proofs.UseLemmas.{listed_is}
use Rattle.design_flatten.proofs.NameLemmas.{name_is, still_among, now_among}

-- ---- numbers of names

pub number_less : (names : List (List ℕ)) (w : List ℕ) → is_among names w ≡ true → number_in names w < length names
number_less [] w h = absurd cc
number_less (n ∷ ns) w h = by (bytes_eq w n) h (number_less ns w)
  where
    by : (b : Bool) → (b || is_among ns w) ≡ true → (is_among ns w ≡ true → number_in ns w < length ns) → cond (not b) (1 + number_in ns w) 0 < length (n ∷ ns)
    by true h rest = omega arith
    by false h rest = let l = rest h in omega arith

at_number : (names : List (List ℕ)) (w : List ℕ) → number_in names w < length names → get_or names (number_in names w) [] ≡ w
at_number [] w lt = absurd (omega arith)
at_number (n ∷ ns) w lt = by (bytes_eq w n) refl lt (at_number ns w)
  where
    by : (b : Bool) → bytes_eq w n ≡ b → cond (not b) (1 + number_in ns w) 0 < length (n ∷ ns) → (number_in ns w < length ns → get_or ns (number_in ns w) [] ≡ w) → get_or (n ∷ ns) (cond (not b) (1 + number_in ns w) 0) [] ≡ w
    by true d l rest = sym (name_is w n d)
    by false d l rest =
        let e : 1 + number_in ns w ≡ suc (number_in ns w) = omega arith in
        ap (λ k. get_or (n ∷ ns) k []) e ∙ rest (omega arith)

same_number : (names : List (List ℕ)) (v w : List ℕ) → number_in names v ≡ number_in names w → number_in names v < length names → v ≡ w
same_number names v w e lt = sym (at_number names v lt) ∙ ap (λ k. get_or names k []) e ∙ at_number names w (omega arith)

pub names_more : (names : List (List ℕ)) (us : List Use) (n : ℕ) → HaveNames names us n → HaveNames (with_name (with_name names (listed us n).own) (listed us n).model) us (n + 1)
names_more names us n has k lt =
    let own = (listed us n).own in
    let model = (listed us n).model in
    elim (cases_eq k n) [
      | inl e ↦ subst (λ j. (is_among (with_name (with_name names own) model) (listed us j).own ≡ true) × (is_among (with_name (with_name names own) model) (listed us j).model ≡ true)) (sym e)
          (still_among (with_name names own) model own (now_among names own), now_among (with_name names own) model)
      | inr ne ↦
          (let h = has k (omega arith) in
          (still_among (with_name names own) model (listed us k).own (still_among names own (listed us k).own h.0), still_among (with_name names own) model (listed us k).model (still_among names own (listed us k).model h.1)))
    ]

-- ---- the covers

pub bare_more : (n : ℕ) (covers : List Cover) (c : Cover) → c.out ≡ n → c.ins ≡ [] → AreBare n covers → AreBare (n + 1) (covers ++ c ∷ [])
bare_more n covers c out ins bare = record {
  len = length_push covers c ∙ ap (λ k. k + 1) bare.len;
  outs = λ i lt. elim (cases_eq i n) [
    | inl e ↦ ap (λ (x : Cover). x.out) (last i e) ∙ out ∙ sym e
    | inr ne ↦ ap (λ (x : Cover). x.out) (old i (omega arith)) ∙ bare.outs i (omega arith)
  ];
  ins = λ i lt. elim (cases_eq i n) [
    | inl e ↦ ap (λ (x : Cover). x.ins) (last i e) ∙ ins
    | inr ne ↦ ap (λ (x : Cover). x.ins) (old i (omega arith)) ∙ bare.ins i (omega arith)
  ];
}
  where
    last : (i : ℕ) → i ≡ n → cover_at (covers ++ c ∷ []) i ≡ c
    last i e = get_or_push covers c no_cover i (bare.len ∙ sym e)

    old : (i : ℕ) → i < n → cover_at (covers ++ c ∷ []) i ≡ cover_at covers i
    old i lt = get_or_append_left covers (c ∷ []) no_cover i (omega (arith, bare.len))

nothing : (j : ℕ) → Contains [] j → ⊥
nothing j has = none has.0 has.1
  where
    none : (k : ℕ) → k < 0 → ⊥
    none k lt = omega arith

pub none_linked : (names : List (List ℕ)) (us : List Use) (count : ℕ) (covers : List Cover) → count ≡ length names → AreBare count covers → AreLinked names us 0 covers
none_linked names us count covers e bare = record {
  len = bare.len ∙ e;
  outs = λ i lt. bare.outs i (omega arith);
  ins = λ i j lt. (
    λ has. absurd (nothing j (subst (λ xs. Contains xs j) (bare.ins i (omega arith)) has)),
    λ link. absurd (none link.0 link.1),
  );
}
  where
    none : (k : ℕ) → k < 0 → ⊥
    none k lt = omega arith

module _ (names : List (List ℕ)) (us : List Use) (n : ℕ) (covers : List Cover) where
  pub linked_more : number_in names (listed us n).own < length names → AreLinked names us n covers → AreLinked names us (n + 1) (set covers (number_in names (listed us n).own) (with_input (cover_at covers (number_in names (listed us n).own)) (number_in names (listed us n).model)))
  linked_more lt linked =
      let a = number_in names (listed us n).own in
      let b = number_in names (listed us n).model in
      let c = with_input (cover_at covers a) b in
      let at : cover_at (set covers a c) a ≡ c = get_or-set_same covers a c no_cover (omega (arith, linked.len)) in
      let other : (i : ℕ) → (i ≡ a → ⊥) → cover_at (set covers a c) i ≡ cover_at covers i = λ i ne. get_or-set_other covers a i c no_cover ne in
      record {
        len = length-set covers a c ∙ linked.len;
        outs = λ i li. elim (cases_eq i a) [
          | inl e ↦ ap (λ j. (cover_at (set covers a c) j).out) e ∙ ap (λ (x : Cover). x.out) at ∙ linked.outs a lt ∙ sym e
          | inr ne ↦ ap (λ (x : Cover). x.out) (other i ne) ∙ linked.outs i li
        ];
        ins = λ i j li. elim (cases_eq i a) [
          | inl e ↦ (
            λ has. elim (Contains-push_cases (cover_at covers a).ins b j (subst (λ (x : Cover). Contains x.ins j) at (subst (λ k. Contains (cover_at (set covers a c) k).ins j) e has))) [
              | inl old ↦ (let l = (linked.ins a j lt).0 old in (l.0, omega (arith, l.1), l.2 ∙ sym e, l.3))
              | inr q ↦ (n, omega arith, sym e, q)
            ],
            λ link. subst (λ k. Contains (cover_at (set covers a c) k).ins j) (sym e) (subst (λ (x : Cover). Contains x.ins j) (sym at) (elim (cases_eq link.0 n) [
              | inl q ↦ subst (Contains ((cover_at covers a).ins ++ b ∷ [])) (ap (λ k. number_in names (listed us k).model) (sym q) ∙ link.3) (Contains-push (cover_at covers a).ins b)
              | inr ne ↦ Contains-append_left (cover_at covers a).ins (b ∷ []) j ((linked.ins a j lt).1 (link.0, omega (arith, link.1), link.2 ∙ e, link.3))
            ])),
          )
          | inr ne ↦ (
            λ has. (let l = (linked.ins i j li).0 (subst (λ (x : Cover). Contains x.ins j) (other i ne) has) in (l.0, omega (arith, l.1), l.2, l.3)),
            λ link. subst (λ (x : Cover). Contains x.ins j) (sym (other i ne)) (elim (cases_eq link.0 n) [
              | inl q ↦ absurd (ne (sym link.2 ∙ ap (λ k. number_in names (listed us k).own) q))
              | inr old ↦ (linked.ins i j li).1 (link.0, omega (arith, link.1), link.2, link.3)
            ]),
          )
        ];
      }

pub inputs_less : (names : List (List ℕ)) (us : List Use) (n : ℕ) (covers : List Cover) → AreLinked names us n covers → HaveNames names us n → (i k : ℕ) → i < length covers → k < length (cover_at covers i).ins → get_or (cover_at covers i).ins k 0 < length names
inputs_less names us n covers linked has i k li lk =
    let link = (linked.ins i (get_or (cover_at covers i).ins k 0) (omega (arith, linked.len))).0 (Contains-get_or (cover_at covers i).ins k 0 lk) in
    let lt = number_less names (listed us link.0).model (has link.0 link.1).1 in
    omega (arith, link.3)

-- ---- groups

module _ (models : List Model) (names : List (List ℕ)) (covers : List Cover) (linked : AreLinked names (uses_of models) (length (uses_of models)) covers) (has : HaveNames names (uses_of models) (length (uses_of models))) where
  own_less : (k : ℕ) → k < length (uses_of models) → number_in names (use_at models k).own < length names
  own_less k lt = number_less names (use_at models k).own (has k lt).0

  model_less : (k : ℕ) → k < length (uses_of models) → number_in names (use_at models k).model < length names
  model_less k lt = number_less names (use_at models k).model (has k lt).1

  edge : (k : ℕ) → k < length (uses_of models) → Reads covers (number_in names (use_at models k).own) (number_in names (use_at models k).model)
  edge k lt = record {
    reader = omega (arith, own_less k lt, linked.len);
    driver = omega (arith, model_less k lt, linked.len);
    input = subst (Contains (cover_at covers (number_in names (use_at models k).own)).ins) (sym (linked.outs (number_in names (use_at models k).model) (model_less k lt)))
        ((linked.ins (number_in names (use_at models k).own) (number_in names (use_at models k).model) (own_less k lt)).1 (k, lt, refl, refl));
  }

  there : (a b : List ℕ) → LeadsToModel models a b → Leads covers (number_in names a) (number_in names b)
  there a b here = at_once
  there a b (onward k lt r) = through (edge k lt) (there (use_at models k).model b r)

  back : (i j : ℕ) → Leads covers i j → (a b : List ℕ) → number_in names a ≡ i → number_in names b ≡ j → number_in names a < length names → LeadsToModel models a b
  back i j at_once a b ea eb la = subst (λ w. LeadsToModel models a w) (same_number names a b (ea ∙ sym eb) la) here
  back i j (through {j = m} r w) a b ea eb la =
      let li : i < length names = omega (arith, r.reader, linked.len) in
      let lm : m < length names = omega (arith, r.driver, linked.len) in
      let link = (linked.ins i m li).0 (subst (Contains (cover_at covers i).ins) (linked.outs m lm) r.input) in
      let k = link.0 in
      subst (λ v. LeadsToModel models v b) (same_number names (use_at models k).own a (link.2 ∙ sym ea) (own_less k link.1))
      (onward k link.1 (back m j w (use_at models k).model b link.3 eb (model_less k link.1)))

  module _ (groups : List ℕ) (are : AreGroups covers groups) where
    of_group : (k : ℕ) → k < length (uses_of models) → group_at names groups (use_at models k).model ≡ group_at names groups (use_at models k).own → IsRecursive models k
    of_group k lt e =
        let a = number_in names (use_at models k).model in
        let b = number_in names (use_at models k).own in
        back a b ((are.same a b (omega (arith, model_less k lt, linked.len)) (omega (arith, own_less k lt, linked.len))).0 e).0 (use_at models k).model (use_at models k).own refl refl (model_less k lt)

    in_group : (k : ℕ) → k < length (uses_of models) → IsRecursive models k → group_at names groups (use_at models k).model ≡ group_at names groups (use_at models k).own
    in_group k lt r =
        let a = number_in names (use_at models k).model in
        let b = number_in names (use_at models k).own in
        (are.same a b (omega (arith, model_less k lt, linked.len)) (omega (arith, own_less k lt, linked.len))).1 (there (use_at models k).model (use_at models k).own r, through (edge k lt) at_once)

    pub first_in : (found : Option ℕ) → IsFirstListed (uses_of models) (λ k. group_at names groups (listed (uses_of models) k).model ≡ group_at names groups (listed (uses_of models) k).own) found → IsFirstUse models (IsRecursive models) found
    first_in found h = first_same (λ k. (use_at models k).number) (λ k. group_at names groups (use_at models k).model ≡ group_at names groups (use_at models k).own) (IsRecursive models) (length (uses_of models)) found of_group in_group h

-- the first of the lines as they are listed
pub first_found : (models : List Model) (us : List Use) (n : ℕ) (names : List (List ℕ)) (covers : List Cover) (groups : List ℕ) (found : Option ℕ) → us ≡ uses_of models → n ≡ length us → AreLinked names us n covers → HaveNames names us n → AreGroups covers groups → IsFirstListed us (λ k. group_at names groups (listed us k).model ≡ group_at names groups (listed us k).own) found → IsFirstUse models (IsRecursive models) found
first_found models us n names covers groups found e len linked has are h =
    first_in models names covers
    (subst (λ xs. AreLinked names xs (length xs) covers) e (subst (λ m. AreLinked names us m covers) len linked))
    (subst (λ xs. HaveNames names xs (length xs)) e (subst (λ m. HaveNames names us m) len has))
    groups are found
    (subst (λ xs. IsFirstListed xs (λ k. group_at names groups (listed xs k).model ≡ group_at names groups (listed xs k).own) found) e h)

-- ---- with the line at a place

module _ (us : List UseLine) (k : ℕ) (u : UseLine) (lt : k < length us) (at : u ≡ get_or us k u) where
  pub both_less : (names : List (List ℕ)) → HaveNames names (map use_in us) (length us) → (number_in names u.own.now < length names) × (number_in names u.model.now < length names)
  both_less names has =
      let h = has k lt in
      subst (λ (v : Use). (number_in names v.own < length names) × (number_in names v.model < length names)) (listed_is us k u lt at)
      (number_less names (listed (map use_in us) k).own h.0, number_less names (listed (map use_in us) k).model h.1)

  pub names_here : (names new : List (List ℕ)) → new ≡ with_name (with_name names u.own.now) u.model.now → HaveNames names (map use_in us) k → HaveNames new (map use_in us) (k + 1)
  names_here names new e has =
      subst (λ ns. HaveNames ns (map use_in us) (k + 1)) (ap (λ (v : Use). with_name (with_name names v.own) v.model) (listed_is us k u lt at) ∙ sym e) (names_more names (map use_in us) k has)

  pub linked_here : (names : List (List ℕ)) (covers new : List Cover) → HaveNames names (map use_in us) (length us) → new ≡ set covers (number_in names u.own.now) (with_input (cover_at covers (number_in names u.own.now)) (number_in names u.model.now)) → AreLinked names (map use_in us) k covers → AreLinked names (map use_in us) (k + 1) new
  linked_here names covers new has e linked =
      subst (AreLinked names (map use_in us) (k + 1))
      (ap (λ (v : Use). set covers (number_in names v.own) (with_input (cover_at covers (number_in names v.own)) (number_in names v.model))) (listed_is us k u lt at) ∙ sym e)
      (linked_more names (map use_in us) k covers (number_less names (listed (map use_in us) k).own (has k lt).0) linked)
