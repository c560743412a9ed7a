-- Configurations after a change.
use Rattle.std.proofs.Common.{◌≡◌, ℕ, ◌<◌, Bool, true, false, not, ◌||◌, ◌&&◌, None, refl, sym, ap, ◌∙◌, subst, arith, ◌==◌, if◌then◌else◌}
use Rattle.machine_config.proofs.Vocabulary.{nat_cmp, eq_by_cmp, nat_cmp_total, Equal-is, false≢true, length-replicate, All-replicate}
use Rattle.machine_config.proofs.Vocabulary.{contains_more, contains_less, Shape, tables_of}
use Rattle.std.specs.FinSet as set_
use Rattle.std.specs.FinSet.{contains-insert, contains-remove, contains-empty, same_set, nat_cmp-IsAntisymmetric}
use Rattle.machine_shape.proofs.HighLimits.{high_limits}
use Rattle.machine_config.specs.Configuration.{Configuration, CellsFit, IsConfiguration, is_closed, cleared, with_closed, with_open}

pub same_number : (a b : ℕ) → eq_by_cmp nat_cmp a b ≡ true → a ≡ b
same_number a b e = nat_cmp-IsAntisymmetric a b ((Equal-is _).0 e)

insert_known : (s : set_.FinSet nat_cmp) (y : ℕ) → set_.contains s y ≡ true → set_.insert s y ≡ s
insert_known s y is = same_set nat_cmp_total nat_cmp-IsAntisymmetric _ _ (λ q. contains-insert nat_cmp_total s y q ∙ found (eq_by_cmp nat_cmp q y) (set_.contains s q) (λ e. ap (set_.contains s) (same_number q y e) ∙ is))
  where
    found : (a b : Bool) → (a ≡ true → b ≡ true) → (a || b) ≡ b
    found true b h = sym (h refl)
    found false b h = refl

remove_unknown : (s : set_.FinSet nat_cmp) (y : ℕ) → set_.contains s y ≡ false → set_.remove s y ≡ s
remove_unknown s y is = same_set nat_cmp_total nat_cmp-IsAntisymmetric _ _ (λ q. contains-remove nat_cmp_total s y q ∙ kept (eq_by_cmp nat_cmp q y) (set_.contains s q) (λ e. ap (set_.contains s) (same_number q y e) ∙ is))
  where
    kept : (a b : Bool) → (a ≡ true → b ≡ false) → (not a && b) ≡ b
    kept true b h = sym (h refl)
    kept false b h = refl

pub insert-remove : (s : set_.FinSet nat_cmp) (y : ℕ) → set_.contains s y ≡ true → set_.insert (set_.remove s y) y ≡ s
insert-remove s y is = same_set nat_cmp_total nat_cmp-IsAntisymmetric _ _ (λ q.
    contains-insert nat_cmp_total (set_.remove s y) y q ∙ ap (λ b. eq_by_cmp nat_cmp q y || b) (contains-remove nat_cmp_total s y q)
    ∙ back_in (eq_by_cmp nat_cmp q y) (set_.contains s q) (λ e. ap (set_.contains s) (same_number q y e) ∙ is))
  where
    back_in : (a b : Bool) → (a ≡ true → b ≡ true) → (a || (not a && b)) ≡ b
    back_in true b h = sym (h refl)
    back_in false b h = refl

remove-insert : (s : set_.FinSet nat_cmp) (y : ℕ) → set_.contains s y ≡ false → set_.remove (set_.insert s y) y ≡ s
remove-insert s y is = same_set nat_cmp_total nat_cmp-IsAntisymmetric _ _ (λ q.
    contains-remove nat_cmp_total (set_.insert s y) y q ∙ ap (λ b. not (eq_by_cmp nat_cmp q y) && b) (contains-insert nat_cmp_total s y q)
    ∙ out_again (eq_by_cmp nat_cmp q y) (set_.contains s q) (λ e. ap (set_.contains s) (same_number q y e) ∙ is))
  where
    out_again : (a b : Bool) → (a ≡ true → b ≡ false) → (not a && (a || b)) ≡ b
    out_again true b h = sym (h refl)
    out_again false b h = refl

module _ (g : Configuration) (x : ℕ) where
  pub closed_already : is_closed g x ≡ true → with_closed g x ≡ g
  closed_already is = ap (λ s. record g { closed = s }) (insert_known g.closed x is)

  pub open_already : is_closed g x ≡ false → with_open g x ≡ g
  open_already is = ap (λ s. record g { closed = s }) (remove_unknown g.closed x is)

  pub opened_again : is_closed g x ≡ false → with_open (with_closed g x) x ≡ g
  opened_again is = ap (λ s. record g { closed = s }) (remove-insert g.closed x is)

  pub closed_again : is_closed g x ≡ true → with_closed (with_open g x) x ≡ g
  closed_again is = ap (λ s. record g { closed = s }) (insert-remove g.closed x is)

-- closed crosspoints stay those of the machine
pub insert_within : (s : set_.FinSet nat_cmp) (c n : ℕ) → ((x : ℕ) → set_.contains s x ≡ true → x < n) → c < n → (x : ℕ) → set_.contains (set_.insert s c) x ≡ true → x < n
insert_within s c n within h x is = by_test (eq_by_cmp nat_cmp x c) refl (sym (contains-insert nat_cmp_total s c x) ∙ is)
  where
    by_test : (t : Bool) → eq_by_cmp nat_cmp x c ≡ t → (t || set_.contains s x) ≡ true → x < n
    by_test true e i = subst (λ k. k < n) (sym (same_number x c e)) h
    by_test false e i = within x i

pub remove_within : (s : set_.FinSet nat_cmp) (c n : ℕ) → ((x : ℕ) → set_.contains s x ≡ true → x < n) → (x : ℕ) → set_.contains (set_.remove s c) x ≡ true → x < n
remove_within s c n within x is = by_test (eq_by_cmp nat_cmp x c) (sym (contains-remove nat_cmp_total s c x) ∙ is)
  where
    by_test : (t : Bool) → (not t && set_.contains s x) ≡ true → x < n
    by_test true i = absurd (false≢true i)
    by_test false i = within x i

pub IsConfiguration-cleared : (m : Shape) → IsConfiguration (cleared m)
IsConfiguration-cleared m = record { crosses = λ x is. absurd (false≢true (sym (contains-empty nat_cmp x) ∙ is)); tables = length-replicate _ _; cells = All-replicate CellsFit (tables_of m) None tt; some_ticks = omega arith; few_ticks = (let high = (high_limits m).ticks.0 in omega (arith, high)) }

-- what is closed after a change
pub is_closed-closed : (g : Configuration) (x y : ℕ) → is_closed (with_closed g x) y ≡ (if y == x then true else is_closed g y)
is_closed-closed g x y = contains_more g.closed x y

pub is_closed-open : (g : Configuration) (x y : ℕ) → is_closed (with_open g x) y ≡ (if y == x then false else is_closed g y)
is_closed-open g x y = contains_less g.closed x y
