use Rattle.place_plan.proofs.Vocabulary.{◌≡◌, ◌<◌, ◌++◌, ℕ, List, map, length, refl, sym, ap, ◌∙◌, subst, All, Shape, nodes_of, Ask, Hold}
use Rattle.place_plan.specs.Vocabulary.{AreWires, IsSite, serves_by, net_in, visit_by, AreThose, HasTerminal, AreShort, CrossesAt, AreAsks, AreAscending, TouchesOf}
use Rattle.place_plan.proofs.Boards.{answer_on, board_is, lists_ascend, asks_on, those_at, site_of, holds_within, set_within, goes_on}
use Rattle.place_plan.proofs.Serving.{shortage}
use Rattle.place_plan.proofs.room.choose_lines.Goals as goal

pub asks_at-requires-clause-touched : goal.asks_at-requires-clause-touched
asks_at-requires-clause-touched c =
    let m = c.args.defects.now.shape in
    let nets : List (List ℕ) = c.args.nets.now in
    subst (λ (z : Shape). AreThose (TouchesOf z nets (length nets) c.args.node) c.as_slice-touched.result.now) (sym c.requires.board.shape)
    (those_at (nodes_of m) (TouchesOf m nets (length nets)) c.args.board.now.touched.items c.args.node _ _ c.requires.board.touched c.requires.node c.index.ensures c.as_slice-touched.ensures)

pub asks_at-requires-clause-ascending : goal.asks_at-requires-clause-ascending
asks_at-requires-clause-ascending c =
    let b = c.args.board.now in
    let m = c.args.defects.now.shape in
    let nets : List (List ℕ) = c.args.nets.now in
    subst (λ (z : Shape). AreAscending (nodes_of z) c.deref.result.now) (sym c.requires.board.shape)
    (subst (AreAscending (nodes_of m)) (sym c.deref.ensures.value) (lists_ascend (nodes_of m) (CrossesAt m (length nets) (HasTerminal nets)) b.crossing.items c.requires.board.crossing))

pub assign-requires-clause-site : goal.assign-requires-clause-site
assign-requires-clause-site c =
    let D = c.args.defects.now in
    let m = D.shape in
    let b = c.args.board.now in
    let nets : List (List ℕ) = c.args.nets.now in
    let are : AreAsks m nets b.crossing.items b.ports.items c.args.node c.in_ok-asks.asks.items = asks_on b.tree.shape m nets c.deref.result.now b.crossing.items c.deref-2.result.now b.ports.items c.args.node c.in_ok-asks.asks.items c.requires.board.shape c.deref.ensures.value c.deref-2.ensures.value (c.in_ok-asks.ensures {u = tt}) in
    let lw : AreWires m c.as_slice.result.now = subst (AreWires m) (sym c.as_slice.ensures) c.in_ok-lines.ensures.within in
    subst (λ (z : List Ask). IsSite m z c.as_slice.result.now) (sym c.deref-3.ensures.value)
    (site_of m D.list nets b.crossing.items b.ports.items (board_is D nets b c.requires.board) (c.the_crosspoints_are_sound.ensures.taps m) (c.the_numbering_is_sound.ensures.parents m) c.requires.within c.args.node c.requires.node c.in_ok-asks.asks.items are c.as_slice.result.now lw)

pub push_visits-requires : goal.push_visits-requires
push_visits-requires c =
    let asks = c.deref-in-Given.result.now in
    let same : c.deref-3.result.now ≡ asks = c.deref-3.ensures.value ∙ sym c.deref-in-Given.ensures.value in
    let is = answer_on c.args.defects.now _ asks c.as_slice.result.now c.as_slice.result.now _ _ same refl c.in-Given.is c.in_ok-holds.ensures in
    subst (All (λ (h : Hold). h.ask < length asks)) (sym c.deref-in-Given-2.ensures.value) (holds_within (serves_by c.args.defects.now asks) (length asks) c.as_slice.result.now c.in-Given.holds.items is)

pub returns-in-Given-clause-given : goal.returns-in-Given-clause-given
returns-in-Given-clause-given c =
    let D = c.args.defects.now in
    let b = c.args.board.now in
    let asks = c.in_ok-asks.asks.items in
    let are = asks_on b.tree.shape D.shape c.args.nets.now _ b.crossing.items _ b.ports.items c.args.node asks c.requires.board.shape c.deref.ensures.value c.deref-2.ensures.value (c.in_ok-asks.ensures {u = tt}) in
    let is = answer_on D _ asks _ c.in_ok-lines.lines _ _ c.deref-3.ensures.value c.as_slice.ensures c.in-Given.is c.in_ok-holds.ensures in
    let pushed : c.push_visits.new.visits.items ≡ c.args.visits.now.items ++ map (visit_by c.args.node c.deref-in-Given.result.now) c.deref-in-Given-2.result.now = c.in_ok-push_visits-in-Given.ensures in
    let e : c.push_visits.new.visits.items ≡ c.args.visits.now.items ++ map (visit_by c.args.node asks) c.in-Given.holds.items = pushed ∙ ap (λ (z : List Ask). c.args.visits.now.items ++ map (visit_by c.args.node z) c.deref-in-Given-2.result.now) c.deref-in-Given.ensures.value ∙ ap (λ (z : List Hold). c.args.visits.now.items ++ map (visit_by c.args.node asks) z) c.deref-in-Given-2.ensures.value in
    goes_on D.shape D.list c.args.nets.now b.crossing.items b.ports.items (board_is D c.args.nets.now b c.requires.board) (c.the_numbering_is_sound.ensures.parents D.shape) c.args.node c.requires.node asks are c.in_ok-lines.lines c.in_ok-lines.ensures.lines c.in-Given.holds.items c.args.visits.now.items c.push_visits.new.visits.items is e

pub nets_of-requires : goal.nets_of-requires
nets_of-requires c =
    let asks = c.deref-in-Lacking.result.now in
    let set = c.in-Lacking.set.items in
    let same : c.deref-3.result.now ≡ asks = c.deref-3.ensures.value ∙ sym c.deref-in-Lacking.ensures.value in
    let is = answer_on c.args.defects.now _ asks c.as_slice.result.now c.as_slice.result.now _ _ same refl c.in-Lacking.is c.in_ok-holds.ensures in
    subst (All (λ i. i < length asks)) (sym c.deref-in-Lacking-2.ensures.value) (set_within (serves_by c.args.defects.now asks) (length asks) c.as_slice.result.now set c.in-Lacking.need c.in-Lacking.have is)

pub returns-clause-short : goal.returns-clause-short
returns-clause-short c =
    let D = c.args.defects.now in
    let m = D.shape in
    let nets : List (List ℕ) = c.args.nets.now in
    let b = c.args.board.now in
    let asks = c.in_ok-asks.asks.items in
    let are : AreAsks m nets b.crossing.items b.ports.items c.args.node asks = asks_on b.tree.shape m nets c.deref.result.now b.crossing.items c.deref-2.result.now b.ports.items c.args.node asks c.requires.board.shape c.deref.ensures.value c.deref-2.ensures.value (c.in_ok-asks.ensures {u = tt}) in
    let is = answer_on D _ asks _ c.in_ok-lines.lines _ _ c.deref-3.ensures.value c.as_slice.ensures c.in-Lacking.is c.in_ok-holds.ensures in
    let made : c.in_ok-nets_of-in-Lacking.field-0 ≡ map (net_in c.deref-in-Lacking.result.now) c.deref-in-Lacking-2.result.now = c.in_ok-nets_of-in-Lacking.ensures in
    let e : c.in_ok-nets_of-in-Lacking.field-0 ≡ map (net_in asks) c.in-Lacking.set.items = made ∙ ap (λ (z : List Ask). map (net_in z) c.deref-in-Lacking-2.result.now) c.deref-in-Lacking.ensures.value ∙ ap (map (net_in asks)) c.deref-in-Lacking-2.ensures.value in (
      refl,
      refl,
      subst (λ z. AreShort m D.list (length nets) (HasTerminal nets) c.args.node z c.in-Lacking.need c.in-Lacking.have) (sym e)
          (shortage m D.list nets b.crossing.items b.ports.items (board_is D nets b c.requires.board) (λ k i q. (c.the_numbering_is_sound.ensures.parents m).within k i q) c.args.node c.requires.node asks are c.in_ok-lines.lines c.in_ok-lines.ensures.lines c.in-Lacking.set.items c.in-Lacking.need c.in-Lacking.have is),
    )
