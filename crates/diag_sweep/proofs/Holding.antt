-- The forest that stays from load to load.
use Rattle.std.proofs.Common.{◌≡◌, ℕ, ◌<◌, ◌≤◌, ◌+◌, ◌&&◌, Bool, true, Result, Ok, Err, OnOk, Some, List, [], ◌∷◌, length, take, nat_eq, refl, ap, sym, ◌∙◌, subst, slice_get, arith}
use Rattle.std.specs.{Cmp.Lexicographic.pointwise, Option.option_map}
use Rattle.diag_sweep.proofs.Vocabulary.{false≢true, and_parts, nat_tests, length-map, Cross, among, cross_numbers, Kept, keeps_cross}
use Rattle.diag_sweep.proofs.Vocabulary.{RigState, Advances, advances_itself, advances_then, IsMore, HasRetaken, Field, Table, Hand, IsHand, Goes}
use Rattle.std.proofs.lemmas.Option.{slice_get-map, slice_get_within}
use Rattle.machine_shape.specs.declared.Counts.{Counts}
use Rattle.diag_evidence.specs.Vocabulary.{Trees, KeepsForest}
use Rattle.diag_evidence.proofs.Keeping.{retaken_cross, retaken_shape}
use Rattle.diag_sweep.proofs.Coursing.{each_more, each_whole}
use Rattle.diag_sweep.proofs.Going.{goes_itself, goes_on}

-- what the test of numbers and lists of them shows
one_number : (a b : ℕ) → nat_eq a b ≡ true → a ≡ b
one_number a b e = grind (arith, nat_tests, e)

one_list : (xs ys : List ℕ) → pointwise nat_eq xs ys ≡ true → xs ≡ ys
one_list [] [] e = refl
one_list [] (y ∷ ys) e = absurd (false≢true e)
one_list (x ∷ xs) [] e = absurd (false≢true e)
one_list (x ∷ xs) (y ∷ ys) e =
    let two = and_parts (nat_eq x y) (pointwise nat_eq xs ys) e in
    ap (λ n. n ∷ xs) (one_number x y two.0) ∙ ap (λ l. y ∷ l) (one_list xs ys two.1)

pub same_counts : (a b : Counts) → (nat_eq a.modules b.modules && (nat_eq a.chips b.chips && (nat_eq a.hextants b.hextants && (nat_eq a.tables b.tables && (pointwise nat_eq a.ports b.ports && (pointwise nat_eq a.lines b.lines && nat_eq a.pins b.pins)))))) ≡ true → a ≡ b
same_counts a b e =
    let first = and_parts (nat_eq a.modules b.modules) _ e in
    let second = and_parts (nat_eq a.chips b.chips) _ first.1 in
    let third = and_parts (nat_eq a.hextants b.hextants) _ second.1 in
    let fourth = and_parts (nat_eq a.tables b.tables) _ third.1 in
    let fifth = and_parts (pointwise nat_eq a.ports b.ports) _ fourth.1 in
    let sixth = and_parts (pointwise nat_eq a.lines b.lines) (nat_eq a.pins b.pins) fifth.1 in
    let modules = one_number a.modules b.modules first.0 in
    let chips = one_number a.chips b.chips second.0 in
    let hextants = one_number a.hextants b.hextants third.0 in
    let tables = one_number a.tables b.tables fourth.0 in
    let ports = one_list a.ports b.ports fifth.0 in
    let lines = one_list a.lines b.lines sixth.0 in
    let pins = one_number a.pins b.pins sixth.1 in
    λ i. record { modules = modules i; chips = chips i; hextants = hextants i; tables = tables i; ports = ports i; lines = lines i; pins = pins i }

-- crosspoints of which the first so many were found kept
abbrev pub AreKept : Kept → List ℕ → Type 0
AreKept k xs = (x : ℕ) → among xs x ≡ true → keeps_cross k x ≡ true

pub kept_more : (k : Kept) (xs : List Cross) (n : ℕ) (x : Cross) → slice_get xs n ≡ Some x → AreKept k (take n (cross_numbers xs)) → keeps_cross k x.0 ≡ true → AreKept k (take (n + 1) (cross_numbers xs))
kept_more k xs n x here each one = each_more (λ y. keeps_cross k y ≡ true) (cross_numbers xs) n x.0 below (slice_get-map (λ (c : Cross). c.0) xs n ∙ ap (option_map (λ (c : Cross). c.0)) here) each one
  where
    below : n < length (cross_numbers xs)
    below = subst (λ l. n < l) (sym (length-map xs (λ (c : Cross). c.0))) (slice_get_within xs n x here)

pub kept_whole : (k : Kept) (xs : List Cross) (n : ℕ) → length xs ≤ n → AreKept k (take n (cross_numbers xs)) → AreKept k (cross_numbers xs)
kept_whole k xs n whole each = each_whole (λ y. keeps_cross k y ≡ true) (cross_numbers xs) n (subst (λ l. l ≤ n) (sym (length-map xs (λ (c : Cross). c.0))) whole) each

-- what is held is kept behind tests, and where wires left the set
pub held_more : {k l : Kept} {trees : Trees} → IsMore k l → KeepsForest k trees → KeepsForest l trees
held_more more keeps = record { shape = keeps.shape ∙ sym more.shape; crosses = λ x on. more.crosses x (keeps.crosses x on) }

pub held_same : {k : Kept} {trees new : Trees} → new ≡ trees → KeepsForest k trees → KeepsForest k new
held_same {k} same keeps = subst (KeepsForest k) (sym same) keeps

pub held_retaken : {wires : List Bool} (k l : Kept) (trees : Trees) {T E : Type 0} (r : Result T E) → HasRetaken wires k l → OnOk r (KeepsForest k trees) → OnOk r (KeepsForest l trees)
held_retaken k l trees (Ok v) ret keeps = record { shape = keeps.shape ∙ sym (retaken_shape ret); crosses = λ x on. retaken_cross ret x ∙ keeps.crosses x on }
held_retaken k l trees (Err e) ret keeps = tt

pub held_tested : {k l : Kept} {trees : Trees} {T E : Type 0} (r : Result T E) → IsMore k l → KeepsForest k trees → OnOk r (KeepsForest l trees)
held_tested (Ok v) more keeps = held_more more keeps
held_tested (Err e) more keeps = tt

-- what loads over one forest have made of what is in hand so far
pub record HasHeld (first now : RigState) (j k : Kept) (a : Field) (tables : List Table) (old new : Hand) (trees : Trees) : Type 0 where
  pub hand : IsHand a new
  pub goes : Goes now a tables old new
  pub advances : Advances first now j k
  pub forest : KeepsForest k trees

pub held_none : {r : RigState} {k : Kept} {a : Field} {tables : List Table} {h : Hand} {trees : Trees} → IsHand a h → KeepsForest k trees → HasHeld r r k k a tables h h trees
held_none {r} {k} hand keeps = record { hand = hand; goes = goes_itself hand; advances = advances_itself r k; forest = keeps }

pub held_on : {r s t : RigState} {j k l : Kept} {a : Field} {tables : List Table} {x y z : Hand} {trees new : Trees} → HasHeld r s j k a tables x y trees → Goes t a tables y z → Advances s t k l → KeepsForest l new → HasHeld r t j l a tables x z new
held_on p q on keeps = record { hand = q.hand; goes = goes_on p.goes on q; advances = advances_then p.advances on; forest = keeps }
