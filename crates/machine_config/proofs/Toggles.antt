-- What is stuck acts alike, however it is set.
use Rattle.std.proofs.Common.{◌≡◌, ◌≢◌, ℕ, ◌<◌, ◌≤◌, Bool, true, false, not, ◌||◌, ◌&&◌, Some, None, Option, List, length, get_or, set, refl, sym, ap, ◌∙◌, subst, arith, unwrap_or, if◌then◌else◌}
use Rattle.machine_config.proofs.Vocabulary.{fun_ext, nat_cmp_total, nat_cmp, eq_by_cmp, Setting}
use Rattle.std.proofs.lemmas.List.{get_or-set_same, get_or-set_other, get_or_past, length-set}
use native.Mathlib.Decide.{ℕ_discrete, dec_lt}
use Rattle.std.specs.FinSet.{contains, contains-insert, contains-remove}
use Rattle.machine_meaning.specs.Vocabulary.{Faults, stuck_cross, wrong_cell, stuck_register, stuck_wire, is_bridge, Circuit, Table, Pins}
use Rattle.machine_config.specs.Vocabulary.{Configuration, is_closed, setting_of, with_closed, with_open, with_setting, cell_of, with_cell, with_init, held_by, table_of, table_or_off, circuit_of, IsRun, Runs}
use Rattle.machine_config.proofs.Runs.{Runs-unique}
use Rattle.machine_config.proofs.Marks.{bit_after, tested_other}
use Rattle.machine_config.proofs.Changes.{closed_already, same_number}

stuck_either_way : (o : Option Bool) (v e s : Bool) → (e ≡ true → o ≡ Some v) → unwrap_or o (e || s) ≡ unwrap_or o (not e && s)
stuck_either_way (Some u) v e s h = refl
stuck_either_way None v true s h = cc (h refl)
stuck_either_way None v false s h = refl

-- tables that the faults make alike, in one place of a list
alike_set : (f : Faults) (l : List (Option Setting)) (t : ℕ) (s r : Setting) → table_of f t s ≡ table_of f t r → (u : ℕ) → table_or_off f u (get_or (set l t (Some s)) u None) ≡ table_or_off f u (get_or (set l t (Some r)) u None)
alike_set f l t s r e u = at_or_else (ℕ_discrete u t) (dec_lt t (length l))
  where
    at_or_else : Dec (u ≡ t) → Dec (t < length l) → table_or_off f u (get_or (set l t (Some s)) u None) ≡ table_or_off f u (get_or (set l t (Some r)) u None)
    at_or_else (no n) d = ap (table_or_off f u) (get_or-set_other l t u _ None n ∙ sym (get_or-set_other l t u _ None n))
    at_or_else (yes q) (yes h) = rw q (rw (get_or-set_same, get_or-set_same) (ap Some e))
    at_or_else (yes q) (no h) =
        let short : length l ≤ t = omega arith in
        let same = λ (v : Setting). get_or_past (set l t (Some v)) t None (rw length-set short) in
        rw q (ap (table_or_off f t) (same s ∙ sym (same r)))

module _ (f : Faults) (g : Configuration) where
  -- a circuit by what toggles change
  circuit_by : (ℕ → Bool) → (ℕ → Option Table) → Circuit
  circuit_by conducts table = record { net = record { shape = g.shape; conducts = conducts; is_bridge = is_bridge f }; stuck = stuck_wire f; table = table; ticks = g.ticks }

  pub cross_toggled : (x : ℕ) (v : Bool) → stuck_cross f x ≡ Some v → circuit_of f (with_closed g x) ≡ circuit_of f (with_open g x)
  unfolding circuit_by
  cross_toggled x v stuck =
      ap (λ conducts. circuit_by conducts (λ t. table_or_off f t (setting_of g t))) (fun_ext (λ y.
      ap (unwrap_or (stuck_cross f y)) (contains-insert nat_cmp_total g.closed x y)
      ∙ stuck_either_way (stuck_cross f y) v (eq_by_cmp nat_cmp y x) (contains g.closed y) (λ e. ap (stuck_cross f) (same_number y x e) ∙ stuck)
      ∙ sym (ap (unwrap_or (stuck_cross f y)) (contains-remove nat_cmp_total g.closed x y))))

  pub table_toggled : (t : ℕ) (s r : Setting) → table_of f t s ≡ table_of f t r → circuit_of f (with_setting g t (Some s)) ≡ circuit_of f (with_setting g t (Some r))
  unfolding circuit_by
  table_toggled t s r e = ap (λ table. circuit_by (λ x. unwrap_or (stuck_cross f x) (is_closed g x)) table) (fun_ext (alike_set f g.tables t s r e))

-- the cells other than the one that is set
other_cell : (s : Setting) (a y : ℕ) (b : Bool) → y ≢ a → cell_of (with_cell s a b) y ≡ cell_of s y
other_cell s a y b n = bit_after s.cells a y b ∙ ap (λ t. if t then b else cell_of s y) (tested_other y a n)

cells_alike : (o : Option Bool) (v : Bool) (s : Setting) (a y : ℕ) → Dec (y ≡ a) → (y ≡ a → o ≡ Some v) → unwrap_or o (cell_of (with_cell s a true) y) ≡ unwrap_or o (cell_of (with_cell s a false) y)
cells_alike (Some u) v s a y d h = refl
cells_alike None v s a y (yes e) h = cc (h e)
cells_alike None v s a y (no n) h = other_cell s a y true n ∙ sym (other_cell s a y false n)

-- a table by what toggles change
table_by : Setting → Option Bool → Bool → (ℕ → Bool) → Table
table_by s held first cell = record { cell = cell; latched = s.latched; first = first; held = held }

-- a wrong cell
pub cell_toggled : (f : Faults) (t : ℕ) (s : Setting) (a : ℕ) (v : Bool) → wrong_cell f t a ≡ Some v → table_of f t (with_cell s a true) ≡ table_of f t (with_cell s a false)
unfolding table_by
cell_toggled f t s a v wrong =
    ap (table_by s (held_by f t s) (unwrap_or (held_by f t s) s.init)) (fun_ext (λ y. cells_alike (wrong_cell f t y) v s a y (ℕ_discrete y a) (λ e. ap (wrong_cell f t) e ∙ wrong)))

-- a stuck register of a latched table
pub register_toggled : (f : Faults) (t : ℕ) (s : Setting) (v : Bool) → s.latched ≡ true → stuck_register f t ≡ Some v → table_of f t (with_init s true) ≡ table_of f t (with_init s false)
unfolding table_by
register_toggled f t s v latched stuck =
    let held : held_by f t s ≡ Some v = ap (λ l. if l then stuck_register f t else None) latched ∙ stuck in
    ap (λ b. table_by s (held_by f t s) b (λ a. unwrap_or (wrong_cell f t a) (cell_of s a))) (ap (λ o. unwrap_or o true) held ∙ sym (ap (λ o. unwrap_or o false) held))

free_of : (o : Option Bool) → ((v : Bool) → o ≡ Some v → ⊥) → o ≡ None
free_of None n = refl
free_of (Some v) n = absurd (n v refl)

module _ (f : Faults) (g : Configuration) {drives reads others : List Pins} where
  pub cross_shows : (x : ℕ) → IsRun f (with_closed g x) drives reads → IsRun f (with_open g x) drives others → reads ≢ others → stuck_cross f x ≡ None
  cross_shows x p q n = free_of _ (λ v e. n (Runs-unique _ (subst (λ c. Runs c drives reads) (cross_toggled f g x v e) p) q))

  -- the same where it is closed to begin with
  pub closed_cross_shows : (x : ℕ) → is_closed g x ≡ true → IsRun f g drives reads → IsRun f (with_open g x) drives others → reads ≢ others → stuck_cross f x ≡ None
  closed_cross_shows x is p q n = cross_shows x (subst (λ h. IsRun f h drives reads) (sym (closed_already g x is)) p) q n

  pub cell_shows : (t : ℕ) (s : Setting) (a : ℕ) → IsRun f (with_setting g t (Some (with_cell s a true))) drives reads → IsRun f (with_setting g t (Some (with_cell s a false))) drives others → reads ≢ others → wrong_cell f t a ≡ None
  cell_shows t s a p q n = free_of _ (λ v e. n (Runs-unique _ (subst (λ c. Runs c drives reads) (table_toggled f g t _ _ (cell_toggled f t s a v e)) p) q))

  pub register_shows : (t : ℕ) (s : Setting) → s.latched ≡ true → IsRun f (with_setting g t (Some (with_init s true))) drives reads → IsRun f (with_setting g t (Some (with_init s false))) drives others → reads ≢ others → stuck_register f t ≡ None
  register_shows t s latched p q n = free_of _ (λ v e. n (Runs-unique _ (subst (λ c. Runs c drives reads) (table_toggled f g t _ _ (register_toggled f t s v latched e)) p) q))
