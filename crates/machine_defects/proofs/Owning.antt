-- The owners of the tables' pins are set one by one.
use Rattle.std.proofs.Common.{◌≡◌, ◌≢◌, ℕ, ◌+◌, ◌<◌, ◌≤◌, Option, Some, None, List, length, get_or, set, replicate, sym, ap, ◌∙◌, subst, arith}
use Rattle.std.proofs.lemmas.List.{get_or-set_same, get_or-set_other, get_or_past, length-set, get_or-replicate, length-replicate}
use native.Mathlib.Decide.{ℕ_discrete, dec_lt}
use Rattle.machine_defects.proofs.Vocabulary.{Shape, IsNumbered, wires_of, tables_of, table_wire, AreOwners, AreOwnersBefore}
use Rattle.machine_shape.specs.declared.Table.{Table}

abbrev table : ℕ → Table
table t = record { 0 = t }

module _ (m : Shape) (numbered : IsNumbered m) where
  pub own_more : (owners : List (Option Table)) (t i wire : ℕ) → t < tables_of m → i < 7 → (length owners ≡ wires_of m) × AreOwnersBefore m t i owners → wire ≡ table_wire m t i → wire < wires_of m
      → (length (set owners wire (Some (table t))) ≡ wires_of m) × AreOwnersBefore m t (i + 1) (set owners wire (Some (table t)))
  own_more owners t i wire lt li k at within = (
    length-set owners wire (Some (table t)) ∙ k.0,
    record {
      earlier = λ u j lu lj. apart u j (λ e. let h = numbered.tables_apart u t j i (omega (arith, lu, lt)) lt lj li (e ∙ at) in let no : ⊥ = omega (arith, lu, h.0) in no) ∙ k.1.earlier u j lu lj;
      own = λ j lj. own j lj (ℕ_discrete j i);
      others = λ w u e. other w u e (ℕ_discrete w wire);
    },
  )
    where
      low : wire < length owners
      low = subst (λ n. wire < n) (sym k.0) within

      apart : (u j : ℕ) → table_wire m u j ≢ wire → get_or (set owners wire (Some (table t))) (table_wire m u j) None ≡ get_or owners (table_wire m u j) None
      apart u j ne = get_or-set_other owners wire (table_wire m u j) (Some (table t)) None ne

      own : (j : ℕ) → j < i + 1 → Dec (j ≡ i) → get_or (set owners wire (Some (table t))) (table_wire m t j) None ≡ Some (table t)
      own j lj (yes e) = ap (λ w. get_or (set owners wire (Some (table t))) w None) (ap (table_wire m t) e ∙ sym at) ∙ get_or-set_same owners wire (Some (table t)) None low
      own j lj (no ne) = apart t j (λ e. let h = numbered.tables_apart t t j i lt lt (omega (arith, lj, li)) li (e ∙ at) in ne h.1) ∙ k.1.own j (omega (arith, lj, ne))

      other : (w : ℕ) (u : Table) → get_or (set owners wire (Some (table t))) w None ≡ Some u → Dec (w ≡ wire) → (u.0 < tables_of m) × ((j : ℕ) × (j < 7) × (table_wire m u.0 j ≡ w))
      other w u e (no ne) = k.1.others w u (sym (get_or-set_other owners wire w (Some (table t)) None ne) ∙ e)
      other w u e (yes g) =
          let f : ◌≡◌ {A = Option Table} (Some (table t)) (Some u) = sym (get_or-set_same owners wire (Some (table t)) None low) ∙ ap (λ v. get_or (set owners wire (Some (table t))) v None) (sym g) ∙ e in
          let same : t ≡ u.0 = cc in
          (subst (λ v. v < tables_of m) same lt, (i, li, ap (λ v. table_wire m v i) (sym same) ∙ sym at ∙ sym g))

pub next_owner : (m : Shape) (t : ℕ) (owners : List (Option Table)) → AreOwnersBefore m t 7 owners → AreOwnersBefore m (t + 1) 0 owners
next_owner m t owners k = record {
  earlier = λ u j lu lj. by_place u j lu lj (ℕ_discrete u t);
  own = λ j lj. absurd (let no : ⊥ = omega (arith, lj) in no);
  others = k.others;
}
  where
    by_place : (u j : ℕ) → u < t + 1 → j < 7 → Dec (u ≡ t) → get_or owners (table_wire m u j) None ≡ Some (table u)
    by_place u j lu lj (yes e) = ap (λ v. get_or owners (table_wire m v j) None) e ∙ k.own j lj ∙ ap (λ v. Some (table v)) (sym e)
    by_place u j lu lj (no ne) = k.earlier u j (omega (arith, lu, ne)) lj

pub all_owned : (m : Shape) (t : ℕ) (owners : List (Option Table)) → tables_of m ≤ t → AreOwnersBefore m t 0 owners → AreOwners m owners
all_owned m t owners le k = record { owned = λ u j lu lj. k.earlier u j (omega (arith, lu, le)) lj; others = k.others }

-- at first no wire has an owner
pub none_owned : (m : Shape) (n : ℕ) → AreOwnersBefore m 0 0 (replicate n None)
none_owned m n = record {
  earlier = λ u j lu lj. absurd (let no : ⊥ = omega (arith, lu) in no);
  own = λ j lj. absurd (let no : ⊥ = omega (arith, lj) in no);
  others = λ w t e. absurd (let g : ◌≡◌ {A = Option Table} None (Some t) = sym (nothing w (dec_lt w n)) ∙ e in cc);
}
  where
    nothing : (w : ℕ) → Dec (w < n) → get_or (replicate {A = Option Table} n None) w None ≡ None
    nothing w (yes lt) = get_or-replicate n w None None lt
    nothing w (no ge) = get_or_past (replicate n None) w None (let e = length-replicate {A = Option Table} n None in omega (arith, ge, e))
