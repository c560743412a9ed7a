-- An image has one repair plan for a list of defects.
use Rattle.std.proofs.Common.{◌≡◌, ℕ, ◌<◌, Bool, true, false, List, length, get_or, refl, sym, ◌∙◌, subst, arith}
use Rattle.place_repair.proofs.Vocabulary.{nat_cmp_total, same_set, nat_cmp-IsAntisymmetric, false≢true, ext_get_or, Shape, ends_of}
use Rattle.place_repair.proofs.Vocabulary.{Defects, IsFreeWire, ImageValue, Need, Resource, Short, those_unique, Seats, HasWire, IsLowest}
use Rattle.std.specs.FinSet as set
use Rattle.place_plan.specs.declared.short.Resource.TheVariants.{Tables, Pins, Ports, Lines}
use Rattle.place_plan.specs.Room.{HasTerminal, IsFirstShort, IsMet, IsUnmet, IsShortOf, Suffices}
use Rattle.place_plan.proofs.Transfer.{first_on}
use Rattle.place_repair.specs.Plans.{AreSeats, AreNets, AreMoves, IsTerminal, IsKeptWire, IsGoneTable, IsSpareTable, IsSparePin, HasRoom, IsShortPlan, IsFirstShortBy, IsShortHere, Nets, need_of}

pub seats_unique : (d : Defects) (i : ImageValue) (s r : Seats) → AreSeats d i s → AreSeats d i r → s ≡ r
seats_unique d i s r a b = λ z. record {
  tables = record {
    gone = those_unique (IsGoneTable d i) s.tables.gone r.tables.gone a.tables_gone b.tables_gone z;
    spare = those_unique (IsSpareTable d i) s.tables.spare r.tables.spare a.tables_spare b.tables_spare z;
  };
  pins = record {
    gone = (a.pins_gone ∙ sym b.pins_gone) z;
    spare = those_unique (IsSparePin d i) s.pins.spare r.pins.spare a.pins_spare b.pins_spare z;
  };
}

unmet : (q : Need) (short : Short) → IsMet q → IsUnmet q short → ⊥
unmet q short met un = absurd (let l = un.2 in omega (arith, met, l))

same_bool : (a b : Bool) → (a ≡ false → b ≡ false) → (b ≡ false → a ≡ false) → a ≡ b
same_bool true true to from = refl
same_bool true false to from = absurd (false≢true (sym (from refl)))
same_bool false true to from = absurd (false≢true (sym (to refl)))
same_bool false false to from = refl

same_true : (a b : Bool) → (a ≡ true → b ≡ true) → (b ≡ true → a ≡ true) → a ≡ b
same_true true true to from = refl
same_true true false to from = sym (to refl)
same_true false true to from = from refl
same_true false false to from = refl

module _ (d : Defects) (i : ImageValue) (s : Seats) (n k : Nets) (a : AreNets d i s n) (b : AreNets d i s k) where
  lowest_same : n.lowest ≡ k.lowest
  lowest_same = those_unique (IsLowest i.config) n.lowest k.lowest a.numbered.lowest_are b.numbered.lowest_are

  kept_alike : (moves more : List Bool) → AreMoves d i n.lowest moves → AreMoves d i n.lowest more → (j : ℕ) → j < length n.lowest → get_or moves j false ≡ false → get_or more j false ≡ false
  kept_alike moves more p q j l e = by (get_or more j false) refl
    where
      by : (c : Bool) → get_or more j false ≡ c → c ≡ false
      by false f = refl
      by true f = absurd (q.moving j l f (p.kept j l e))

  their_moves : AreMoves d i n.lowest k.moves
  their_moves = subst (λ ws. AreMoves d i ws k.moves) (sym lowest_same) b.moves_are

  moves_same : n.moves ≡ k.moves
  moves_same = ext_get_or false n.moves k.moves (a.moves_are.sized ∙ sym their_moves.sized)
      (λ j l. let h : j < length n.lowest = subst (λ z. j < z) a.moves_are.sized l in
      same_bool (get_or n.moves j false) (get_or k.moves j false) (kept_alike n.moves k.moves a.moves_are their_moves j h) (kept_alike k.moves n.moves their_moves a.moves_are j h))

  kept_wire_to : (w : ℕ) → IsKeptWire i n w → IsKeptWire i k w
  kept_wire_to w (j, st, wire) = (j, (subst (λ ws. j < length ws) lowest_same st.0, subst (λ ms. get_or ms j false ≡ false) moves_same st.1), subst (λ ws. HasWire i.config ws j w) lowest_same wire)

  kept_wire_from : (w : ℕ) → IsKeptWire i k w → IsKeptWire i n w
  kept_wire_from w (j, st, wire) = (j, (subst (λ ws. j < length ws) (sym lowest_same) st.0, subst (λ ms. get_or ms j false ≡ false) (sym moves_same) st.1), subst (λ ws. HasWire i.config ws j w) (sym lowest_same) wire)

  free_to : (w : ℕ) → IsFreeWire n.rest w → IsFreeWire k.rest w
  free_to w free = let r = (a.rest_is.wires w).0 free in (b.rest_is.wires w).1 (r.0, λ kept. r.1 (kept_wire_from w kept))

  free_from : (w : ℕ) → IsFreeWire k.rest w → IsFreeWire n.rest w
  free_from w free = let r = (b.rest_is.wires w).0 free in (a.rest_is.wires w).1 (r.0, λ kept. r.1 (kept_wire_to w kept))

  wires_same : n.rest.wires ≡ k.rest.wires
  wires_same = same_set nat_cmp_total nat_cmp-IsAntisymmetric n.rest.wires k.rest.wires (λ w. same_bool (set.contains n.rest.wires w) (set.contains k.rest.wires w) (free_to w) (free_from w))

  crosses_same : n.rest.crosses ≡ k.rest.crosses
  crosses_same = same_set nat_cmp_total nat_cmp-IsAntisymmetric n.rest.crosses k.rest.crosses (λ x. same_true (set.contains n.rest.crosses x) (set.contains k.rest.crosses x)
      (λ has. let r = (a.rest_is.crosses x).0 has in (b.rest_is.crosses x).1 (r.0, free_to (ends_of i.config.shape x).0 r.1, free_to (ends_of i.config.shape x).1 r.2))
      (λ has. let r = (b.rest_is.crosses x).0 has in (a.rest_is.crosses x).1 (r.0, free_from (ends_of i.config.shape x).0 r.1, free_from (ends_of i.config.shape x).1 r.2)))

  pub rest_same : n.rest ≡ k.rest
  rest_same = λ z. record { wires = wires_same z; crosses = crosses_same z; tables = (a.rest_is.tables ∙ sym b.rest_is.tables) z }

  pub terminal_to : (j w : ℕ) → HasTerminal n.terminals j w → HasTerminal k.terminals j w
  terminal_to j w t = let r = (a.terminals_are j w).0 t in
      (b.terminals_are j w).1 ((subst (λ ws. j < length ws) lowest_same r.0.0, subst (λ ms. get_or ms j false ≡ true) moves_same r.0.1), subst (λ ws. IsTerminal d i s ws j w) lowest_same r.1)

  pub terminal_from : (j w : ℕ) → HasTerminal k.terminals j w → HasTerminal n.terminals j w
  terminal_from j w t = let r = (b.terminals_are j w).0 t in
      (a.terminals_are j w).1 ((subst (λ ws. j < length ws) (sym lowest_same) r.0.0, subst (λ ms. get_or ms j false ≡ true) (sym moves_same) r.0.1), subst (λ ws. IsTerminal d i s ws j w) (sym lowest_same) r.1)

  -- what is short by the one is short by the other
  pub short_to : (r : Resource) (short : Short) → IsShortHere r i s k short → IsShortOf r i.config.shape n.rest (length n.lowest) (HasTerminal n.terminals) (need_of s.tables) (need_of s.pins) short
  short_to r short is =
      first_on i.config.shape n.rest (length n.lowest) (HasTerminal k.terminals) (HasTerminal n.terminals) terminal_from terminal_to (need_of s.tables) (need_of s.pins) short r
      (subst (λ rest. IsShortOf r i.config.shape rest (length n.lowest) (HasTerminal k.terminals) (need_of s.tables) (need_of s.pins) short) (sym rest_same)
      (subst (λ ws. IsShortOf r i.config.shape k.rest (length ws) (HasTerminal k.terminals) (need_of s.tables) (need_of s.pins) short) (sym lowest_same) is))

module _ (never_both : (m : Shape) (d : Defects) (nets : List (List ℕ)) (tables pins : Need) (s : Short) → Suffices m d (length nets) (HasTerminal nets) tables pins → ¬ IsFirstShort m d (length nets) (HasTerminal nets) tables pins s) where
  not_short : (d : Defects) (i : ImageValue) (s : Seats) (n : Nets) (short : Short) → AreNets d i s n → HasRoom i s n →
      IsShortOf short.resource i.config.shape n.rest (length n.lowest) (HasTerminal n.terminals) (need_of s.tables) (need_of s.pins) short → ⊥
  not_short d i s n short nets room is =
      never_both i.config.shape n.rest n.terminals (need_of s.tables) (need_of s.pins) short
      (subst (λ c. Suffices i.config.shape n.rest c (HasTerminal n.terminals) (need_of s.tables) (need_of s.pins)) (sym nets.sized) room)
      (subst (λ c. IsShortOf short.resource i.config.shape n.rest c (HasTerminal n.terminals) (need_of s.tables) (need_of s.pins) short) (sym nets.sized) is)

  pub never_short : (d : Defects) (i : ImageValue) (s : Seats) (n : Nets) (short : Short) → AreSeats d i s → AreNets d i s n → HasRoom i s n → ¬ IsShortPlan d i short
  never_short d i s n short seats nets room plan = by short.resource refl (subst (λ z. IsFirstShortBy short.resource d i z short) (sym (seats_unique d i s plan.seats seats plan.seats_are)) plan.first)
    where
      by : (r : Resource) → short.resource ≡ r → IsFirstShortBy r d i s short → ⊥
      by Tables e first = unmet (need_of s.tables) short room.tables_met first.1
      by Pins e first = unmet (need_of s.pins) short room.pins_met first.2
      by Ports e (k, also, is) = not_short d i s n short nets room (subst (λ r. IsShortOf r i.config.shape n.rest (length n.lowest) (HasTerminal n.terminals) (need_of s.tables) (need_of s.pins) short) (sym e) (short_to d i s n k nets also Ports short is))
      by Lines e (k, also, is) = not_short d i s n short nets room (subst (λ r. IsShortOf r i.config.shape n.rest (length n.lowest) (HasTerminal n.terminals) (need_of s.tables) (need_of s.pins) short) (sym e) (short_to d i s n k nets also Lines short is))
