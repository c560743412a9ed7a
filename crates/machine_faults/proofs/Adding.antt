-- What stays true of a fault set to which a fault is added.
use Rattle.std.proofs.Common.{◌≡◌, ◌≢◌, ◌<◌, ◌≤◌, ℕ, ◌+◌, ◌==◌, Bool, true, false, Option, Some, None, IsSome, if◌then◌else◌, nat_lt, refl, sym, ap, ◌∙◌, arith, ltb-true, ltb-false}
use Rattle.machine_faults.proofs.Vocabulary.{eqb-false, nat_cmp_total, nat_cmp, exact_unsigned, Shape, wires_of, crosses_of, tables_of}
use Rattle.machine_faults.proofs.Vocabulary.{most_faults, Faults, AreFaultsOf, pair_cmp, is_bridge, Fault, Stuck, CrossStuck, Cell}
use Rattle.machine_faults.proofs.Vocabulary.{Register, Bridge, Same, Limit, pairs_total, pairs_exact}
use Rattle.std.specs.FinMap as maps
use Rattle.std.specs.FinSet as set
use Rattle.machine_faults.specs.Adding.{Faulty, IsFaultSet, CanHave, no_faults, with_fault, value_at, value_of, is_loop, lower_first, refusal_at, refusal_of, count_of}
use Rattle.machine_faults.proofs.Keeping.{all_put, all_added, len_put, len_added}

-- ---- what it is not to be refused

pub record IsFree (most : ℕ) (f : Faults) (x : Fault) : Type 0 where
  pub apart : is_loop x ≡ false
  pub free : value_at f x ≡ None
  pub few : count_of f < most

none_at : (most : ℕ) (there : Option Bool) (value : Bool) (n : ℕ) → refusal_at most there value n ≡ None → (there ≡ None) × (n < most)
none_at most None value n e = elim (nat_lt n most) as (λ b. nat_lt n most ≡ b → refusal_at most None value n ≡ None → (◌≡◌ {A = Option Bool} None None) × (n < most)) [ true ↦ λ lt _. (refl, ltb-true n most lt) | false ↦ λ ge g. absurd (let h : (if false then None else Some Limit) ≡ None = sym (ap (λ b. if b then None else Some Limit) ge) ∙ g in cc) ] refl e
none_at most (Some true) true n e = absurd cc
none_at most (Some true) false n e = absurd cc
none_at most (Some false) true n e = absurd cc
none_at most (Some false) false n e = absurd cc

pub free_from : (m : Shape) (f : Faults) (x : Fault) → refusal_of m f x ≡ None → IsFree (most_faults m) f x
free_from m f x e =
    elim (is_loop x) as (λ b. is_loop x ≡ b → refusal_of m f x ≡ None → IsFree (most_faults m) f x) [
      | true ↦ λ l g. absurd (let h : refusal_of m f x ≡ Some Same = ap (λ b. if b then Some Same else refusal_at (most_faults m) (value_at f x) (value_of x) (count_of f)) l in cc)
      | false ↦ λ l g.
          let h = none_at (most_faults m) (value_at f x) (value_of x) (count_of f) (sym (ap (λ b. if b then Some Same else refusal_at (most_faults m) (value_at f x) (value_of x) (count_of f)) l) ∙ g) in
          record { apart = l; free = h.0; few = h.1 }
    ] refl e

-- ---- how many there are

not_there : (b : Bool) → ◌≡◌ {A = Option Bool} (if b then Some true else None) None → b ≡ false
not_there true e = absurd cc
not_there false e = refl

pub count_more : (f : Faults) (x : Fault) → value_at f x ≡ None → count_of (with_fault f x) ≡ count_of f + 1
count_more f (Stuck wire value) none = let e = len_put nat_cmp_total f.wires wire.0 value none in omega (arith, e)
count_more f (CrossStuck cross closed) none = let e = len_put nat_cmp_total f.crosses cross.0 closed none in omega (arith, e)
count_more f (Cell table address value) none = let e = len_put pairs_total f.cells (table.0, address) value none in omega (arith, e)
count_more f (Register table value) none = let e = len_put nat_cmp_total f.registers table.0 value none in omega (arith, e)
count_more f (Bridge a b) none = let e = len_added pairs_total f.bridges (lower_first a.0 b.0) (not_there _ none) in omega (arith, e)

-- ---- the faults are those of the machine, and a bridge's lower wire is the first

abbrev IsPair : Shape → ℕ × ℕ → Type 0
IsPair m p = (p.0 < wires_of m) × (p.1 < wires_of m) × (p.0 < p.1)

pair_is : (m : Shape) (a b : ℕ) → a < wires_of m → b < wires_of m → (a == b) ≡ false → IsPair m (lower_first a b)
pair_is m a b small also apart =
    let ne : a ≢ b = eqb-false a b apart in
    elim (nat_lt b a) as (λ t. nat_lt b a ≡ t → IsPair m (if t then (b, a) else (a, b))) [
      | true ↦ λ lt. (also, small, ltb-true b a lt)
      | false ↦ λ ge. let le : a ≤ b = ltb-false b a ge in (small, also, omega arith)
    ] refl

pair_of_set : (s : Faulty) → IsFaultSet s → (q : ℕ × ℕ) → set.contains s.faults.bridges q ≡ true → IsPair s.shape q
pair_of_set s k q is = let h = k.faults.bridges q.0 q.1 is in (h.0, h.1, k.lower_first q.0 q.1 is)

bridges_from : (m : Shape) (f : Faults) → ((q : ℕ × ℕ) → set.contains f.bridges q ≡ true → IsPair m q) → (w u : ℕ) → is_bridge f (w, u) ≡ true → (w < wires_of m) × (u < wires_of m) × (w ≢ u)
bridges_from m f all w u is = let h = all (w, u) is in (h.0, h.1, omega arith)

faults_kept : (s : Faulty) (x : Fault) → IsFaultSet s → CanHave s.shape x → is_loop x ≡ false → AreFaultsOf s.shape (with_fault s.faults x)
faults_kept s (Stuck wire value) k is apart = record { wires = all_put nat_cmp_total exact_unsigned s.faults.wires wire.0 value (λ q. q < wires_of s.shape) k.faults.wires is; crosses = k.faults.crosses; cells = k.faults.cells; registers = k.faults.registers; bridges = k.faults.bridges }
faults_kept s (CrossStuck cross closed) k is apart = record { wires = k.faults.wires; crosses = all_put nat_cmp_total exact_unsigned s.faults.crosses cross.0 closed (λ q. q < crosses_of s.shape) k.faults.crosses is; cells = k.faults.cells; registers = k.faults.registers; bridges = k.faults.bridges }
faults_kept s (Cell table address value) k is apart = record { wires = k.faults.wires; crosses = k.faults.crosses; cells = λ t a. all_put pairs_total pairs_exact s.faults.cells (table.0, address) value (λ q. (q.0 < tables_of s.shape) × (q.1 < 64)) (λ q. k.faults.cells q.0 q.1) is (t, a); registers = k.faults.registers; bridges = k.faults.bridges }
faults_kept s (Register table value) k is apart = record { wires = k.faults.wires; crosses = k.faults.crosses; cells = k.faults.cells; registers = all_put nat_cmp_total exact_unsigned s.faults.registers table.0 value (λ q. q < tables_of s.shape) k.faults.registers is; bridges = k.faults.bridges }
faults_kept s (Bridge a b) k is apart = record { wires = k.faults.wires; crosses = k.faults.crosses; cells = k.faults.cells; registers = k.faults.registers; bridges = bridges_from s.shape (with_fault s.faults (Bridge a b)) (all_added pairs_total pairs_exact s.faults.bridges (lower_first a.0 b.0) (IsPair s.shape) (pair_of_set s k) (pair_is s.shape a.0 b.0 is.0 is.1 apart)) }

lower_kept : (s : Faulty) (x : Fault) → IsFaultSet s → CanHave s.shape x → is_loop x ≡ false → (a b : ℕ) → is_bridge (with_fault s.faults x) (a, b) ≡ true → a < b
lower_kept s (Stuck wire value) k is apart = k.lower_first
lower_kept s (CrossStuck cross closed) k is apart = k.lower_first
lower_kept s (Cell table address value) k is apart = k.lower_first
lower_kept s (Register table value) k is apart = k.lower_first
lower_kept s (Bridge a b) k is apart = λ w u there. (all_added pairs_total pairs_exact s.faults.bridges (lower_first a.0 b.0) (IsPair s.shape) (pair_of_set s k) (pair_is s.shape a.0 b.0 is.0 is.1 apart) (w, u) there).2

pub set_kept : (s : Faulty) (x : Fault) → IsFaultSet s → CanHave s.shape x → refusal_of s.shape s.faults x ≡ None → IsFaultSet (record { shape = s.shape; faults = with_fault s.faults x })
set_kept s x k is e =
    let free = free_from s.shape s.faults x e in
    record { faults = faults_kept s x k is free.apart; lower_first = lower_kept s x k is free.apart; few = omega (arith, free.few, count_more s.faults x free.free) }

-- ---- no faults

pub count_none : count_of no_faults ≡ 0
count_none =
    let w = maps.len-empty nat_cmp Bool in
    let c = maps.len-empty pair_cmp Bool in
    let b = set.len-empty pair_cmp in
    omega (arith, w, c, b)

nothing_there : {X : Type 0} (x : Option X) → x ≡ None → IsSome x → ⊥
nothing_there None e is = cc
nothing_there (Some v) e is = cc

none_in : (q : ℕ) → IsSome (maps.get (maps.empty {X = Bool} {R = nat_cmp}) q) → ⊥
none_in q is = nothing_there _ (maps.get-empty nat_cmp q) is

none_at_pair : (q : ℕ × ℕ) → IsSome (maps.get (maps.empty {X = Bool} {R = pair_cmp}) q) → ⊥
none_at_pair q is = nothing_there _ (maps.get-empty pair_cmp q) is

no_bridge : (q : ℕ × ℕ) → set.contains (set.empty {R = pair_cmp}) q ≡ true → ⊥
no_bridge q is = let e : false ≡ true = sym (set.contains-empty pair_cmp q) ∙ is in cc

pub none_kept : (m : Shape) → IsFaultSet (record { shape = m; faults = no_faults })
none_kept m = record {
  faults = record {
    wires = λ q is. absurd (none_in q is);
    crosses = λ q is. absurd (none_in q is);
    cells = λ t a is. absurd (none_at_pair (t, a) is);
    registers = λ q is. absurd (none_in q is);
    bridges = λ w u is. absurd (no_bridge (w, u) is);
  };
  lower_first = λ w u is. absurd (no_bridge (w, u) is);
  few = omega (arith, count_none);
}
