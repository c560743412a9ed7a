-- What a board comes to, and what is found at one node.
use Rattle.std.proofs.Common.{◌≡◌, ℕ, ◌<◌, ◌≤◌, Bool, true, List, [], ◌∷◌, ◌++◌, length, get_or, map, ◌⊎◌, inl, inr, refl, sym, ap, ◌∙◌, subst}
use Rattle.place_plan.proofs.Vocabulary.{All, Contains, range_with_len, All-contains, All-weaker, All-get_or, All-contains_itself}
use Rattle.place_plan.proofs.Vocabulary.{get_or_past, get_or_read, cases_lt, Shape, wires_of, nodes_of, tap_port, IsPort, HasTaps}
use Rattle.place_plan.proofs.Vocabulary.{HasParents, Defects, DefectList, Ask, Hold, Visit, Own, Child, Outside}
use Rattle.place_plan.proofs.Those.{not_in_nil}
use Rattle.place_plan.specs.declared.{board.Board.Board, search.Assigned.Assigned}
use Rattle.place_plan.specs.Vocabulary.{AreWires, IsAnswer, IsSite, IsAssignment, IsShort, serves_by, IsBoardOf, visit_of, visit_by, pick_of, GoOn, AreThose, AreLists, HasTerminal, at_own, at_child, IsBoard, AreAsks, IsAskOf, IsHeld, IsTapFor, AreAscending, IsFreeLine, list_at}
use Rattle.place_plan.proofs.Ranges.{range_below}
use Rattle.place_plan.proofs.Serving.{choice}

pub board_is : (D : DefectList) (nets : List (List ℕ)) (b : Board) → IsBoardOf D nets b → IsBoard D.shape D.list nets b.crossing.items b.ports.items
board_is D nets b is = record { crossing_are = is.crossing; ports_are = is.ports }

pub lists_ascend : (count : ℕ) (P : ℕ → ℕ → Type 0) (lists : List (List ℕ)) → AreLists count P lists → AreAscending count lists
lists_ascend count P lists are n lt = (are.those n lt).ascending

-- what is read of such lists at a node
pub those_at : (count : ℕ) (P : ℕ → ℕ → Type 0) (lists : List (List ℕ)) (n : ℕ) (found slice : List ℕ) → AreLists count P lists → n < count → found ≡ get_or lists n found → slice ≡ found → AreThose (P n) slice
those_at count P lists n found slice are lt at e =
    let l : n < length lists = subst (λ z. n < z) (sym are.sized) lt in
    subst (AreThose (P n)) (sym (e ∙ get_or_read lists n found l at [])) (are.those n lt)

-- the answer to the same asks over the same lines
pub answer_on : (D : DefectList) (given asks : List Ask) (slice lines : List ℕ) (a b : Assigned) → given ≡ asks → slice ≡ lines → a ≡ b → IsAnswer (serves_by D given) (range_with_len 0 (length given)) slice a → IsAnswer (serves_by D asks) (range_with_len 0 (length asks)) lines b
answer_on D given asks slice lines a b e f g is = subst (IsAnswer (serves_by D asks) (range_with_len 0 (length asks)) lines) g
    (subst (λ (z : List ℕ). IsAnswer (serves_by D asks) (range_with_len 0 (length asks)) z a) f
    (subst (λ (z : List Ask). IsAnswer (serves_by D z) (range_with_len 0 (length z)) slice a) e is))

-- the same asks, by equal boards
pub asks_on : (s m : Shape) (nets x y p q : List (List ℕ)) (n : ℕ) (asks : List Ask) → s ≡ m → x ≡ y → p ≡ q → AreAsks s nets x p n asks → AreAsks m nets y q n asks
asks_on s m nets x y p q n asks e f g are = subst (λ (z : Shape). AreAsks z nets y q n asks) e (subst (λ (z : List (List ℕ)). AreAsks s nets z q n asks) f (subst (λ (z : List (List ℕ)). AreAsks s nets x z n asks) g are))

module _ (m : Shape) (d : Defects) (nets crossing ports : List (List ℕ)) (board : IsBoard m d nets crossing ports) (taps : HasTaps m) (parents : HasParents m) where
  port_within : (c w : ℕ) → c < nodes_of m → IsPort m c w → w < wires_of m
  port_within c w lt is = let p = taps.has_position c w lt (tap_port is) in subst (λ z. z < wires_of m) p.2 (taps.within c p.0 lt p.1)

  held_within : (c k t : ℕ) → c < nodes_of m → IsHeld crossing ports c k t → t < wires_of m
  held_within c k t lt h = port_within c t lt (subst (IsPort m c) h.2.1 (((board.ports_are.those c lt).only h.0 0 h.2.0).0))

  tap_within : (n k w t : ℕ) → n < nodes_of m → w < wires_of m → IsTapFor m crossing ports n k w t → t < wires_of m
  tap_within n k w t lt lw (Own u, at_own e, q) = subst (λ z. z < wires_of m) q lw
  tap_within n k w t lt lw (Child c, at_child b e i, h) = held_within c k t (parents.within c n e) h
  tap_within n k w t lt lw (Outside, at, h) = held_within n k t lt h

  module _ (within : All (AreWires m) nets) (n : ℕ) (lt : n < nodes_of m) (asks : List Ask) (are : AreAsks m nets crossing ports n asks) where
    terminal_within : (k w : ℕ) → HasTerminal nets k w → w < wires_of m
    terminal_within k w has = by (cases_lt k (length nets))
      where
        by : (k < length nets) ⊎ (length nets ≤ k) → w < wires_of m
        by (inl l) = All-contains (λ u. u < wires_of m) (list_at nets k) w (All-get_or (AreWires m) nets k [] l within) has
        by (inr l) = absurd (empty (list_at nets k) (get_or_past nets k [] l) has)
          where
            empty : (xs : List ℕ) → xs ≡ [] → Contains xs w → ⊥
            empty xs e c = not_in_nil w (subst (λ z. Contains z w) e c)

    pub site_of : (lines : List ℕ) → AreWires m lines → IsSite m asks lines
    site_of lines lw = record {
      taps = All-weaker (IsAskOf m nets crossing ports n) (λ a. AreWires m a.taps) (λ a is i u l.
          let t : ℕ = get_or a.taps i u in
          let s = (is t).0 (All-contains_itself a.taps i u l) in
          tap_within n a.net.0 s.0 t lt (terminal_within a.net.0 s.0 s.1) s.2) asks are.each;
      lines_are = lw;
    }

-- who has a line is among those who ask
pub holds_within : (serves : ℕ → ℕ → Bool) (count : ℕ) (lines : List ℕ) (holds : List Hold) → IsAssignment serves (range_with_len 0 count) lines holds → All (λ h. h.ask < count) holds
holds_within serves count lines holds is = All-weaker (λ h. Contains (range_with_len 0 count) h.ask × Contains lines h.line × (serves h.ask h.line ≡ true)) (λ h. h.ask < count) (λ h o. range_below count h.ask o.0) holds is.each

pub set_within : (serves : ℕ → ℕ → Bool) (count : ℕ) (lines set : List ℕ) (need have : ℕ) → IsShort serves (range_with_len 0 count) lines set need have → All (λ i. i < count) set
set_within serves count lines set need have is = All-weaker (Contains (range_with_len 0 count)) (λ i. i < count) (λ i c. range_below count i c) set is.within

map_twice : (n : ℕ) (asks : List Ask) (holds : List Hold) → map (visit_by n asks) holds ≡ map (visit_of n) (map (pick_of asks) holds)
map_twice n asks [] = refl
map_twice n asks (h ∷ hs) = ap (λ vs. visit_by n asks h ∷ vs) (map_twice n asks hs)

pub goes_on : (m : Shape) (d : Defects) (nets crossing ports : List (List ℕ)) (board : IsBoard m d nets crossing ports) (parents : HasParents m) (n : ℕ) (lt : n < nodes_of m) (asks : List Ask) (are : AreAsks m nets crossing ports n asks) (lines : List ℕ) (lines_are : AreThose (IsFreeLine m d n) lines) (holds : List Hold) (old new : List Visit) →
    IsAssignment (serves_by (record { shape = m; list = d }) asks) (range_with_len 0 (length asks)) lines holds → new ≡ old ++ map (visit_by n asks) holds → GoOn m d (length nets) (HasTerminal nets) n old new
goes_on m d nets crossing ports board parents n lt asks are lines lines_are holds old new is e =
    (map (pick_of asks) holds, choice m d nets crossing ports board (λ c i q. parents.within c i q) n lt asks are lines lines_are holds is, e ∙ ap (λ vs. old ++ vs) (map_twice n asks holds))
