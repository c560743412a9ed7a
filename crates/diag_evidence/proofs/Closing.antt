-- Closing a forest's crosspoints and those of walks.
use Rattle.std.proofs.Common.{◌≡◌, ◌<◌, ◌+◌, ℕ, Bool, true, false, ◌||◌, None, Option, List, [], ◌++◌, All, length, get_or, take, refl, sym, ap, ◌∙◌, arith, ◌==◌, if◌then◌else◌, count_by}
use Rattle.diag_evidence.proofs.Vocabulary.{nat_tests, list_any-append, list_any_at, Shape, Cross, crosses_of}
use Rattle.diag_evidence.proofs.Vocabulary.{Setting, LeadsTo-below, Closes, cross_numbers, Lead}
use Rattle.std.proofs.lemmas.List.{get_or-map, length-map, take_more, flat_map_more}
use Rattle.machine_config.specs.Vocabulary.{Configuration, is_closed, among}
use Rattle.machine_config.proofs.Members.{contains_times}
use Rattle.std.specs.FinSet.{contains-from_list_nat}
use Rattle.diag_evidence.specs.Vocabulary.{Trees, is_laid, IsForest, BranchFrom, ClosesAlong, ClosesForest, IsLeadOf, crosses_along, crosses_of_leads}
use Rattle.diag_evidence.proofs.Footing.{pin_below}

-- closing nothing
pub closes_first : (g : Configuration) → Closes [] g g
closes_first g = record { closed = λ x. refl; shape = refl; tables = refl; ticks = refl }

crosses_more : (ls : List Lead) (k : ℕ) (l : Lead) → k < length ls → l ≡ get_or ls k l → crosses_of_leads (take (k + 1) ls) ≡ crosses_of_leads (take k ls) ++ crosses_along l
crosses_more ls k l below at =
    ap crosses_of_leads (take_more ls k l below) ∙ sym (flat_map_more (λ (m : Lead). crosses_along m) [] (take k ls) (get_or ls k l))
    ∙ ap (λ (m : Lead). crosses_of_leads (take k ls) ++ crosses_along m) (sym at)

-- closing one walk more
pub closes_more : (ls : List Lead) (k : ℕ) (l : Lead) {g h i : Configuration} → k < length ls → l ≡ get_or ls k l → Closes (crosses_of_leads (take k ls)) g h → Closes (crosses_along l) h i → Closes (crosses_of_leads (take (k + 1) ls)) g i
closes_more ls k l {g} below at p q = record {
  closed = λ x. q.closed x ∙ ap (λ t. among (crosses_along l) x || t) (p.closed x) ∙ turned (among (crosses_along l) x) (among (crosses_of_leads (take k ls)) x) (is_closed g x)
      ∙ ap (λ t. t || is_closed g x) (sym (ap (λ xs. among xs x) (crosses_more ls k l below at) ∙ list_any-append (λ z. z == x) (crosses_of_leads (take k ls)) (crosses_along l)));
  shape = q.shape ∙ p.shape;
  tables = q.tables ∙ p.tables;
  ticks = q.ticks ∙ p.ticks;
}
  where
    turned : (a b c : Bool) → (a || (b || c)) ≡ ((b || a) || c)
    turned true true c = refl
    turned true false c = refl
    turned false true c = refl
    turned false false c = refl

-- the crosspoints of a walk, one by one
pub crosses_below : {m : Shape} {l : Lead} → IsLeadOf m l → All (λ c. c.0 < crosses_of m) l.crosses.items
crosses_below {m} {l} is k d below =
    let many = length-map l.crosses.items (λ (c : Cross). c.0) in
    let at : get_or (crosses_along l) k 0 ≡ (get_or l.crosses.items k d).0 = get_or-map (λ (c : Cross). c.0) l.crosses.items k d 0 below in
    is.crosses (get_or l.crosses.items k d).0 (list_any_at (λ y. y == (get_or l.crosses.items k d).0) (crosses_along l) k 0 (omega (arith, below, many)) (grind (arith, nat_tests, at)))

-- closing a forest's crosspoints and then those of walks closes just these
pub closed_along : (trees : Trees) (ls : List Lead) (g h : Configuration) → ClosesForest trees g → Closes (crosses_of_leads ls) g h → ClosesAlong trees ls h
closed_along trees ls g h p q = record {
  shape = q.shape ∙ p.shape;
  closed = λ x. q.closed x ∙ ap (λ t. among (crosses_of_leads ls) x || t) (p.closed x) ∙ turned (is_laid trees x) (among (crosses_of_leads ls) x);
  off = λ t. ap (λ ts. get_or {A = Option Setting} ts t None) q.tables ∙ p.off t;
  ticks = q.ticks ∙ p.ticks;
}
  where
    turned : (a b : Bool) → (b || a) ≡ (a || b)
    turned true true = refl
    turned true false = refl
    turned false true = refl
    turned false false = refl

-- where the closed crosspoints are listed once each, a crosspoint is closed exactly where it is among them
pub listed_among : (xs : List Cross) (x : ℕ) (b : Bool) → count_by (λ (c : Cross). c.0 == x) xs ≡ (if b then 1 else 0) → b ≡ among (cross_numbers xs) x
listed_among xs x b e = sym (contains_times xs x b e) ∙ contains-from_list_nat (cross_numbers xs) x

-- walks that branch from a forest are walks of its machine
pub leads_of : (trees : Trees) (ls : List Lead) → IsForest trees → BranchFrom trees ls → All (IsLeadOf trees.shape) ls
leads_of trees ls forest branch i d below = let t = branch.walks i d below in record {
  from = pin_below trees t.first _ forest t.begins;
  to = pin_below trees t.last _ forest t.ends;
  crosses = LeadsTo-below t.leads;
}
