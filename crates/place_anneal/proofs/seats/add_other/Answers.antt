use Rattle.place_anneal.proofs.Vocabulary.{◌∙◌, ap, get_or, refl, subst, sym, true, AreMarked, HasMark}
use Rattle.place_anneal.proofs.Seating.{marked_more, others_more, unmarked}
use Rattle.place_anneal.proofs.seats.add_other.Goals as goal

pub returns-clause-free : goal.returns-clause-free
returns-clause-free c =
    let D = c.args.defects.now in
    others_more D.shape D.list c.args.seats.now.items c.push.new.self.items c.seat_at.result c.args.table.0
    c.requires.free c.requires.within
    (c.if-not-free_table.ensures.0 refl)
    (unmarked c.args.seats.now.items c.args.marks.now.items c.args.table.0 c.requires.marked
    (ap (λ z. get_or z c.args.table.0 true) (sym c.deref.ensures.value) ∙ sym c.if-is_marked.ensures))
    c.seat_at.ensures (c.in_ok-push.ensures {u = tt}).items

pub returns-clause-marked : goal.returns-clause-marked
returns-clause-marked c =
    let new = c.mark.new.marks.items in
    subst (λ z. AreMarked z new) (sym (c.in_ok-push.ensures {u = tt}).items)
    (marked_more c.args.seats.now.items c.seat_at.result c.args.marks.now.items new c.requires.marked c.mark.ensures.kept
    (subst (λ t. HasMark new t) (sym c.seat_at.ensures) c.mark.ensures.this))
