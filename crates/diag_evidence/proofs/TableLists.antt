-- What is closed by lists makes tests of tables.
use Rattle.std.proofs.Common.{◌≡◌, ◌⊎◌, ℕ, Bool, true, false, Some, None, Option, List, refl, sym, ◌∙◌, subst, inl, inr}
use Rattle.diag_evidence.proofs.Vocabulary.{Shape, pin_wire, table_wire, Joined-sym, Setting, LeadsTo-within, LeadsTo-start, LeadsTo-end}
use Rattle.diag_evidence.proofs.Vocabulary.{conducting, Walk, IsRoute, IsCellConfig, cell_setting}
use Rattle.machine_meaning.specs.Vocabulary.{Pins, Faults, stuck_cross, stuck_register, Joined, here, net_of}
use Rattle.machine_config.specs.Vocabulary.{among, IsWithin, AreGroups, Configuration, is_closed, with_setting, IsCellTest, IsDrivenAlone, IsLoose, IsRegisterTest}
use Rattle.diag_evidence.specs.Vocabulary.{Kept, keeps_cross, CellPasses, RegisterPasses, IsTied, IsTableBy, IsCellBy, CellPassesBy, RegisterPassesBy}
use Rattle.diag_evidence.proofs.Advancing.{joined_along}
use Rattle.diag_evidence.proofs.Keeping.{untried_crosses}
use Rattle.diag_evidence.proofs.Lists.{AreOn, all_on, laid_cases, grown}
use Rattle.diag_evidence.proofs.TableTests.{on_after, off_after}

module _ (f : Faults) (g : Configuration) (left right : Walk) (ties : List ℕ) (t cells : ℕ) (l r : ℕ → Bool)
    (config : IsCellConfig g.shape left right ties t cells g) (left_route : IsRoute g.shape left) (right_route : IsRoute g.shape right)
    (lefts_free : (y : ℕ) → among left.crosses y ≡ true → stuck_cross f y ≡ None) (rights_free : (y : ℕ) → among right.crosses y ≡ true → stuck_cross f y ≡ None)
    (p : IsTableBy g.shape f left right ties t l r) where
  listed : AreOn left right ties g
  listed = all_on config.closed

  by_list : (y : ℕ) → (among left.crosses y ≡ true) ⊎ ((among right.crosses y ≡ true) ⊎ (among ties y ≡ true)) → IsWithin g.shape l y ⊎ IsWithin g.shape r y
  by_list y (inl h) = inl (grown left.wires p.left_in (LeadsTo-within left_route.leads y h))
  by_list y (inr (inl h)) = inr (grown right.wires p.right_in (LeadsTo-within right_route.leads y h))
  by_list y (inr (inr h)) = p.ties_in y h

  groups : AreGroups g.shape f (is_closed g) l r
  groups = record {
    within = λ y on. by_list y (laid_cases _ _ _ (sym (config.closed y) ∙ on));
    left_clear = p.left_clear;
    right_clear = p.right_clear;
    apart = p.apart;
  }

  -- a pin is joined to what is tied to the end of its route
  tied_joined : (from : Walk) (w : ℕ) → IsRoute g.shape from → ((y : ℕ) → among from.crosses y ≡ true → is_closed g y ≡ true) → ((y : ℕ) → among from.crosses y ≡ true → stuck_cross f y ≡ None) →
      IsTied g.shape f ties from.end w → Joined (net_of g.shape f (is_closed g)) (pin_wire g.shape from.pin) w
  tied_joined from w route on free tie =
      joined_along (joined_along {net = net_of g.shape f (is_closed g)} here route.leads (λ y is. conducting f g (stuck_cross f y) (is_closed g y) (on y is) (free y is)) from.end (LeadsTo-end route.leads))
      tie.leads (λ y is. let h = tie.free y is in conducting f g (stuck_cross f y) (is_closed g y) (listed.tied y h.0) h.1) w (LeadsTo-end tie.leads)

  led : Joined (net_of g.shape f (is_closed g)) (pin_wire g.shape right.pin) (table_wire g.shape t 6)
  led = tied_joined right (table_wire g.shape t 6) right_route listed.rights rights_free p.output

  pub cell_of_lists : (a : ℕ) (bits : ℕ → Bool) → IsCellBy g.shape f left right ties t a l r bits → IsCellTest f g t a (cell_setting cells) l r bits left.pin right.pin
  cell_of_lists a bits q = record {
    on = config.on;
    off = config.off;
    comb = refl;
    init = refl;
    one = config.ticks;
    k_pin = left_route.pin;
    not_wrong = q.not_wrong;
    groups = groups;
    k_left = p.left_in (pin_wire g.shape left.pin) (LeadsTo-start left_route.leads);
    l_right = p.right_in (pin_wire g.shape right.pin) (LeadsTo-start right_route.leads);
    inputs = λ j h. input j (q.inputs j h);
    number = q.number;
    led = led;
  }
    where
      input : (j : ℕ) → ((bits j ≡ false) × (l (table_wire g.shape t j) ≡ true) × IsTied g.shape f ties left.end (table_wire g.shape t j)) ⊎ ((bits j ≡ true) × IsLoose g.shape f l r (table_wire g.shape t j)) →
          ((bits j ≡ false) × (l (table_wire g.shape t j) ≡ true) × Joined (net_of g.shape f (is_closed g)) (table_wire g.shape t j) (pin_wire g.shape left.pin)) ⊎ ((bits j ≡ true) × IsLoose g.shape f l r (table_wire g.shape t j))
      input j (inl h) = inl (h.0, h.1, Joined-sym (tied_joined left (table_wire g.shape t j) left_route listed.lefts lefts_free h.2))
      input j (inr h) = inr h

  pub register_of_lists : (s : Setting) (drive : Pins) → s.latched ≡ true → stuck_register f t ≡ None → IsDrivenAlone drive left.pin →
      IsRegisterTest f (with_setting g t (Some s)) t s l r drive right.pin
  register_of_lists s drive latched free driven = record {
    on = on_after g t (cell_setting cells) s config.on;
    off = off_after g t (cell_setting cells) s config.on config.off;
    latched = latched;
    not_stuck = free;
    groups = groups;
    l_right = p.right_in (pin_wire g.shape right.pin) (LeadsTo-start right_route.leads);
    quiet = λ j low. subst (λ i. l (pin_wire g.shape i) ≡ true) (sym (driven.alone j low)) (p.left_in (pin_wire g.shape left.pin) (LeadsTo-start left_route.leads));
    led = led;
  }

-- toggles of a cell and of a register between two routes whose crosspoints are kept
module _ (told : Option Faults) (k : Kept) (g : Configuration) (left right : Walk) (ties : List ℕ) (t cells : ℕ) (drive : Pins) (answer : Bool)
    (config : IsCellConfig k.shape left right ties t cells g) (on : IsRoute k.shape left) (off : IsRoute k.shape right)
    (lefts : (y : ℕ) → among left.crosses y ≡ true → keeps_cross k y ≡ true) (rights : (y : ℕ) → among right.crosses y ≡ true → keeps_cross k y ≡ true)
    (driven : IsDrivenAlone drive left.pin) where
  turn : (P : Shape → Type 0) → P k.shape → P g.shape
  turn P p = subst P (sym config.shape) p

  pub cell_passes : (a : ℕ) → CellPasses told g t a drive right.pin answer → CellPassesBy told k left right ties t a answer
  cell_passes a passes = record {
    at = λ f l r bits is h test. passes.at f (cell_setting cells) l r bits left.pin is
        (cell_of_lists f g left right ties t cells l r (turn (λ m. IsCellConfig m left right ties t cells g) config) (turn (λ m. IsRoute m left) on) (turn (λ m. IsRoute m right) off)
        (λ y i. untried_crosses k h y (lefts y i)) (λ y i. untried_crosses k h y (rights y i)) (turn (λ m. IsTableBy m f left right ties t l r) test.table) a bits
        (turn (λ m. IsCellBy m f left right ties t a l r bits) test)) driven;
  }

  pub register_passes : (s : Setting) → s.latched ≡ true → RegisterPasses told (with_setting g t (Some s)) t drive right.pin answer → RegisterPassesBy told k left right ties t answer
  register_passes s latched passes = record {
    at = λ f l r is h test free. passes.at f s l r is
        (register_of_lists f g left right ties t cells l r (turn (λ m. IsCellConfig m left right ties t cells g) config) (turn (λ m. IsRoute m left) on) (turn (λ m. IsRoute m right) off)
        (λ y i. untried_crosses k h y (lefts y i)) (λ y i. untried_crosses k h y (rights y i)) (turn (λ m. IsTableBy m f left right ties t l r) test) s drive latched free driven);
  }
