-- What is written for a fault set is a text of it.
use Rattle.std.proofs.Common.{◌≡◌, ◌<◌, ◌≤◌, ◌+◌, ℕ, zero, suc, Bool, true, false, not, ◌&&◌, if◌then◌else◌, Option, Some, None, IsSome, List, [], ◌∷◌, ◌++◌, length, map, filter, refl, sym, ap, ◌∙◌, subst, arith, lt-ltb, le-ltb, ne_eqb}
use Rattle.std.specs.FinMap as maps
use Rattle.std.specs.FinSet as set
use Rattle.std.specs.List.{AllByRecursion, All, list_all}
use Rattle.machine_faults.proofs.Vocabulary.{nat_cmp_total, exact_unsigned, Shape, wires_of, crosses_of, tables_of, most_faults, most_text}
use Rattle.machine_faults.proofs.Vocabulary.{Faults, logical_lines, is_graphic, written, numbered, Fault, Same, Limit, fault_words}
use Rattle.machine_faults.proofs.Vocabulary.{with_all, AreAdded, IsFaultText, pairs_total, pairs_exact, AllPlain}
use Rattle.base_text.specs.Written as text
use Rattle.base_text.proofs.WrittenLemmas.{lines_back}
use Rattle.machine_faults.specs.Adding.{IsFaultSet, CanHave, no_faults, with_fault, value_at, value_of, is_loop, lower_first, refusal_at, refusal_of, count_of}
use Rattle.machine_faults.specs.Written.{Kinds, AreAscending, AreInOrder, grouped, faults_of, stuck_wire_at, stuck_cross_at, wrong_cell_at, stuck_register_at, bridge_of}
use Rattle.machine_faults.proofs.Adding.{count_more, count_none}
use Rattle.machine_faults.proofs.Names.{AreWords, entry_words}
use Rattle.machine_faults.proofs.Words.{IsTold}
use Rattle.machine_faults.proofs.Lengths.{short_text, enough_bytes}
use Rattle.machine_faults.proofs.Parts.{put_all, AreNew, put_each, AreNewIn, all_filtered, all_weaker, all_new, all_put, failing_new, passing_new, parts_put, found_each, each_put_in, each_new_in, each_in}

more : {A : Type 0} {s t u x y : List A} → s ≡ x → t ≡ s ++ u → u ≡ y → t ≡ x ++ y
more is new also = new ∙ (λ i. is i ++ also i)

-- seven groups, each put behind those before it
pub seven : {A : Type 0} {s1 s2 s3 s4 s5 s6 s7 t2 t3 t4 t5 t6 t7 a b c d e g h : List A}
    → s1 ≡ a → s2 ≡ s1 ++ t2 → t2 ≡ b → s3 ≡ s2 ++ t3 → t3 ≡ c → s4 ≡ s3 ++ t4 → t4 ≡ d → s5 ≡ s4 ++ t5 → t5 ≡ e → s6 ≡ s5 ++ t6 → t6 ≡ g → s7 ≡ s6 ++ t7 → t7 ≡ h
    → s7 ≡ a ++ b ++ c ++ d ++ e ++ g ++ h
seven {a = a} {b = b} {c = c} {d = d} {e = e} {g = g} {h = h} p1 p2 q2 p3 q3 p4 q4 p5 q5 p6 q6 p7 q7 = more (more (more (more (more (more p1 p2 q2) p3 q3) p4 q4) p5 q5) p6 q6) p7 q7

-- ---- faults whose places are free are added

with_more : (f : Faults) (xs ys : List Fault) → with_all f (xs ++ ys) ≡ with_all (with_all f xs) ys
with_more f [] ys = refl
with_more f (x ∷ xs) ys = with_more (with_fault f x) xs ys

not_refused : (m : Shape) (f : Faults) (x : Fault) → is_loop x ≡ false → value_at f x ≡ None → count_of f < most_faults m → refusal_of m f x ≡ None
not_refused m f x apart free few =
    (λ i. if apart i then Some Same else refusal_at (most_faults m) (free i) (value_of x) (count_of f))
    ∙ ap (λ b. if b then None else Some Limit) (lt-ltb (count_of f) (most_faults m) few)

module _ (m : Shape) where
  abbrev AreFree : Faults → List Fault → Type 0
  AreFree f [] = Unit {0}
  AreFree f (x ∷ xs) = CanHave m x × (is_loop x ≡ false) × (value_at f x ≡ None) × AreFree (with_fault f x) xs

  free_more : (f : Faults) (xs ys : List Fault) → AreFree f xs → AreFree (with_all f xs) ys → AreFree f (xs ++ ys)
  free_more f [] ys p q = q
  free_more f (x ∷ xs) ys p q = (p.0, p.1, p.2, free_more (with_fault f x) xs ys p.3 q)

  counted : (f : Faults) (xs : List Fault) → AreFree f xs → count_of (with_all f xs) ≡ count_of f + length xs
  counted f [] p = omega arith
  counted f (x ∷ xs) p =
      let rest = counted (with_fault f x) xs p.3 in
      let one = count_more f x p.2 in
      omega (arith, rest, one)

  added : (f : Faults) (xs : List Fault) → AreFree f xs → count_of f + length xs ≤ most_faults m → AreAdded m f xs
  added f [] p few = tt
  added f (x ∷ xs) p few =
      let one = count_more f x p.2 in
      (p.0, not_refused m f x p.1 p.2 (omega (arith, few)), added (with_fault f x) xs p.3 (omega (arith, one, few)))

  all_of_shape : (f : Faults) (xs : List Fault) → AreFree f xs → AllByRecursion (CanHave m) xs
  all_of_shape f [] p = tt
  all_of_shape f (x ∷ xs) p = (p.0, all_of_shape (with_fault f x) xs p.3)

  -- they are free in a set, and make another of it
  abbrev Makes : Faults → List Fault → Faults → Type 0
  Makes f xs g = AreFree f xs × (with_all f xs ≡ g)

  then_makes : (f g h : Faults) (xs ys : List Fault) → Makes f xs g → Makes g ys h → Makes f (xs ++ ys) h
  then_makes f g h xs ys p q = (
    free_more f xs ys p.0 (subst (λ k. AreFree k ys) (sym p.1) q.0),
    with_more f xs ys ∙ ap (λ k. with_all k ys) p.1 ∙ q.1,
  )

  -- ---- the groups

  wires_make : (f : Faults) (es : List (ℕ × Bool)) → AllByRecursion (λ e. e.0 < wires_of m) es → AreNew f.wires es → Makes f (map stuck_wire_at es) (record f { wires = put_all f.wires es })
  wires_make f [] are new = (tt, refl)
  wires_make f (e ∷ es) are new = let rest = wires_make (record f { wires = maps.insert f.wires e.0 e.1 }) es are.1 new.1 in ((are.0, refl, new.0, rest.0), rest.1)

  crosses_make : (f : Faults) (es : List (ℕ × Bool)) → AllByRecursion (λ e. e.0 < crosses_of m) es → AreNew f.crosses es → Makes f (map stuck_cross_at es) (record f { crosses = put_all f.crosses es })
  crosses_make f [] are new = (tt, refl)
  crosses_make f (e ∷ es) are new = let rest = crosses_make (record f { crosses = maps.insert f.crosses e.0 e.1 }) es are.1 new.1 in ((are.0, refl, new.0, rest.0), rest.1)

  cells_make : (f : Faults) (es : List ((ℕ × ℕ) × Bool)) → AllByRecursion (λ e. (e.0.0 < tables_of m) × (e.0.1 < 64)) es → AreNew f.cells es → Makes f (map wrong_cell_at es) (record f { cells = put_all f.cells es })
  cells_make f [] are new = (tt, refl)
  cells_make f (e ∷ es) are new = let rest = cells_make (record f { cells = maps.insert f.cells e.0 e.1 }) es are.1 new.1 in ((are.0, refl, new.0, rest.0), rest.1)

  registers_make : (f : Faults) (es : List (ℕ × Bool)) → AllByRecursion (λ e. e.0 < tables_of m) es → AreNew f.registers es → Makes f (map stuck_register_at es) (record f { registers = put_all f.registers es })
  registers_make f [] are new = (tt, refl)
  registers_make f (e ∷ es) are new = let rest = registers_make (record f { registers = maps.insert f.registers e.0 e.1 }) es are.1 new.1 in ((are.0, refl, new.0, rest.0), rest.1)

  abbrev IsPair : ℕ × ℕ → Type 0
  IsPair p = (p.0 < wires_of m) × (p.1 < wires_of m) × (p.0 < p.1)

  as_it_is : (p : ℕ × ℕ) → p.0 < p.1 → lower_first p.0 p.1 ≡ p
  as_it_is p lt = ap (λ b. if b then (p.1, p.0) else (p.0, p.1)) (le-ltb p.1 p.0 (omega arith))

  bridges_make : (f : Faults) (ps : List (ℕ × ℕ)) → AllByRecursion IsPair ps → AreNewIn f.bridges ps → Makes f (map bridge_of ps) (record f { bridges = put_each f.bridges ps })
  bridges_make f [] are new = (tt, refl)
  bridges_make f (p ∷ ps) are new =
      let same = as_it_is p are.0.2 in
      let rest = bridges_make (record f { bridges = set.insert f.bridges p }) ps are.1 new.1 in
      let here : Makes (with_fault f (bridge_of p)) (map bridge_of ps) (record f { bridges = put_each (set.insert f.bridges p) ps }) = subst (λ q. Makes (record f { bridges = set.insert f.bridges q }) (map bridge_of ps) (record f { bridges = put_each (set.insert f.bridges p) ps })) (sym same) rest in (
        (
          (are.0.0, are.0.1),
          ne_eqb p.0 p.1 (λ e. omega (arith, are.0.2)),
          ap (λ q. if set.contains f.bridges q then Some true else None) same ∙ ap (λ b. if b then Some true else None) new.0,
          here.0,
        ),
        here.1,
      )

  -- ---- all of them

  module _ (k : Kinds) (a : AreAscending k) (s : IsFaultSet (record { shape = m; faults = faults_of k })) where
    some_from : {X : Type 0} (x : Option X) (v : X) → x ≡ Some v → IsSome x
    some_from None v e = absurd cc
    some_from (Some u) v e = refl

    wires_in : AllByRecursion (λ e. e.0 < wires_of m) k.wires
    wires_in = all_weaker (λ e found. s.faults.wires e.0 (some_from _ e.1 found)) k.wires (found_each nat_cmp_total exact_unsigned k.wires a.wires)

    crosses_in : AllByRecursion (λ e. e.0 < crosses_of m) k.crosses
    crosses_in = all_weaker (λ e found. s.faults.crosses e.0 (some_from _ e.1 found)) k.crosses (found_each nat_cmp_total exact_unsigned k.crosses a.crosses)

    cells_in : AllByRecursion (λ e. (e.0.0 < tables_of m) × (e.0.1 < 64)) k.cells
    cells_in = all_weaker (λ e found. s.faults.cells e.0.0 e.0.1 (some_from _ e.1 found)) k.cells (found_each pairs_total pairs_exact k.cells a.cells)

    registers_in : AllByRecursion (λ e. e.0 < tables_of m) k.registers
    registers_in = all_weaker (λ e found. s.faults.registers e.0 (some_from _ e.1 found)) k.registers (found_each nat_cmp_total exact_unsigned k.registers a.registers)

    bridges_in : AllByRecursion IsPair k.bridges
    bridges_in = all_weaker (λ p there. let h = s.faults.bridges p.0 p.1 there in (h.0, h.1, s.lower_first p.0 p.1 there)) k.bridges (each_in pairs_total pairs_exact k.bridges)

    passing : {A : Type 0} (P : A → Type 0) (p : A → Bool) (xs : List A) → AllByRecursion P xs → AllByRecursion P (filter p xs)
    passing P p xs all = all_weaker (λ x h. h.0) (filter p xs) (all_filtered P p xs all)

    abbrev low : List (ℕ × Bool) → List (ℕ × Bool)
    low es = filter (λ e. not e.1) es

    abbrev high : List (ℕ × Bool) → List (ℕ × Bool)
    high es = filter (λ e. e.1) es

    abbrev made : Faults
    made = record {
      wires = put_all (put_all maps.empty (low k.wires)) (high k.wires);
      crosses = put_all (put_all maps.empty (low k.crosses)) (high k.crosses);
      cells = put_all maps.empty k.cells;
      registers = put_all maps.empty k.registers;
      bridges = put_each set.empty k.bridges;
    }

    all_made : Makes no_faults (grouped k) made
    all_made =
        then_makes _ _ _ _ _ (then_makes _ _ _ _ _ (then_makes _ _ _ _ _ (then_makes _ _ _ _ _ (then_makes _ _ _ _ _ (then_makes _ _ _ _ _
        (wires_make no_faults (low k.wires) (passing (λ e. e.0 < wires_of m) _ k.wires wires_in) (failing_new nat_cmp_total exact_unsigned k.wires a.wires (λ b. b)))
        (wires_make _ (high k.wires) (passing (λ e. e.0 < wires_of m) _ k.wires wires_in) (passing_new nat_cmp_total exact_unsigned k.wires a.wires (λ b. b))))
        (crosses_make _ (low k.crosses) (passing (λ e. e.0 < crosses_of m) _ k.crosses crosses_in) (failing_new nat_cmp_total exact_unsigned k.crosses a.crosses (λ b. b))))
        (crosses_make _ (high k.crosses) (passing (λ e. e.0 < crosses_of m) _ k.crosses crosses_in) (passing_new nat_cmp_total exact_unsigned k.crosses a.crosses (λ b. b))))
        (cells_make _ k.cells cells_in (all_new pairs_total pairs_exact k.cells a.cells)))
        (registers_make _ k.registers registers_in (all_new nat_cmp_total exact_unsigned k.registers a.registers)))
        (bridges_make _ k.bridges bridges_in (each_new_in pairs_total pairs_exact k.bridges a.bridges))

    made_is : made ≡ faults_of k
    made_is = λ i. record {
      wires = parts_put nat_cmp_total exact_unsigned k.wires a.wires (λ b. b) i;
      crosses = parts_put nat_cmp_total exact_unsigned k.crosses a.crosses (λ b. b) i;
      cells = all_put pairs_total pairs_exact k.cells a.cells i;
      registers = all_put nat_cmp_total exact_unsigned k.registers a.registers i;
      bridges = each_put_in pairs_total pairs_exact k.bridges i;
    }

    pub grouped_make : Makes no_faults (grouped k) (faults_of k)
    grouped_make = (all_made.0, all_made.1 ∙ made_is)

    pub few_grouped : length (grouped k) ≤ most_faults m
    few_grouped =
        let n = counted no_faults (grouped k) grouped_make.0 in
        let z = count_none in
        let same = ap count_of grouped_make.1 in
        omega (arith, n, z, same, s.few)

-- ---- the lines

graphic : (b : ℕ) → 35 < b → b < 127 → is_graphic b ≡ true
graphic b p q = (λ i. lt-ltb 32 b (omega arith) i && (not (ne_eqb b 35 (λ e. omega arith) i) && not (ne_eqb b 127 (λ e. omega arith) i)))

plain_graphic : (w : List ℕ) → AllPlain w → list_all is_graphic w ≡ true
plain_graphic [] p = refl
plain_graphic (b ∷ w) p = (λ i. graphic b p.0 p.1 i && plain_graphic w p.2 i)

all_from : {A : Type 0} (P : A → Type 0) (xs : List A) → AllByRecursion P xs → All P xs
all_from P [] p k d lt = absurd (omega arith)
all_from P (x ∷ xs) p zero d lt = p.0
all_from P (x ∷ xs) p (suc k) d lt = all_from P xs p.1 k d (omega arith)

as_words : (ws : List (List ℕ)) → AreWords ws → AllByRecursion text.IsWord ws
as_words [] p = tt
as_words (w ∷ ws) p = ((p.0.0, plain_graphic w p.0.1), as_words ws p.1)

rows_of : (m : Shape) → IsTold m → (xs : List Fault) → AllByRecursion (CanHave m) xs → AllByRecursion (λ words. (0 < length words) × All text.IsWord words) (map (fault_words m) xs)
rows_of m k [] p = tt
rows_of m k (x ∷ xs) p = ((omega arith, all_from text.IsWord (fault_words m x) (as_words (fault_words m x) (entry_words m k x p.0))), rows_of m k xs p.1)

words_numbered : (n : ℕ) (rows : List (List (List ℕ))) → map (λ l. l.words) (numbered n rows) ≡ rows
words_numbered n [] = refl
words_numbered n (r ∷ rows) = ap (λ rs. r ∷ rs) (words_numbered (n + 1) rows)

module _ (m : Shape) (f : Faults) (s : IsFaultSet (record { shape = m; faults = f })) (xs : List Fault) (o : AreInOrder f xs) where
  s' : IsFaultSet (record { shape = m; faults = faults_of o.kinds })
  s' = subst (λ g. IsFaultSet (record { shape = m; faults = g })) (sym o.all) s

  makes : Makes m no_faults xs f
  makes = subst (λ ys. Makes m no_faults ys f) (sym o.groups) (subst (λ g. Makes m no_faults (grouped o.kinds) g) o.all (grouped_make m o.kinds o.ascend s'))

  few_of : length xs ≤ most_faults m
  few_of = subst (λ ys. length ys ≤ most_faults m) (sym o.groups) (few_grouped m o.kinds o.ascend s')

  pub each_of_shape : All (CanHave m) xs
  each_of_shape = all_from (CanHave m) xs (all_of_shape m no_faults xs makes.0)

  -- the lines of these faults are a text of the set
  pub text_is : IsTold m → (bytes : List ℕ) → bytes ≡ written (map (fault_words m) xs) → IsFaultText m bytes f
  text_is k bytes is = record {
    entries = xs;
    rows = ap (λ bs. map (λ l. l.words) (logical_lines false bs)) is
        ∙ ap (map (λ l. l.words)) (lines_back 1 (map (fault_words m) xs) (all_from _ _ (rows_of m k xs (all_of_shape m no_faults xs makes.0))))
        ∙ words_numbered 1 (map (fault_words m) xs);
    added = added m no_faults xs makes.0 (omega (arith, few_of, count_none));
    all = makes.1;
  }

  pub few_bytes : IsTold m → (bytes : List ℕ) → bytes ≡ written (map (fault_words m) xs) → length bytes ≤ most_text m
  few_bytes k bytes is =
      let t = short_text m k xs (all_of_shape m no_faults xs makes.0) in
      let e = ap length is in
      omega (arith, t, few_of, e, enough_bytes m)
