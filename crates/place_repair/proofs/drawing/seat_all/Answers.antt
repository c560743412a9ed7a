use Rattle.std.proofs.Common.{◌≡◌, ◌<◌, ◌+◌, ℕ, get_or, length, inl, inr, refl, sym, ap, ◌∙◌, subst, arith, is_some}
use Rattle.place_repair.proofs.Vocabulary.{Table, tables_of, Configuration, setting_of, nth_of, IsOn, IsTable, no_table, IsOfFirst}
use Rattle.place_repair.proofs.Redone.{seated_none, seated_more, seated_same}
use Rattle.place_repair.proofs.Marking.{first_none, first_more, first_before, first_last, first_all, all_first}
use Rattle.place_repair.proofs.Using.{listed_on, listed_within, on_is, is_on}
use Rattle.place_repair.proofs.drawing.seat_all.Goals as goal

pub seat-requires-clause-shape : goal.seat-requires-clause-shape
seat-requires-clause-shape c = ap (λ (g : Configuration). g.shape) c.loop-k.invariant.rest ∙ c.requires.shape

pub seat-requires-clause-within : goal.seat-requires-clause-within
seat-requires-clause-within c = listed_within c.args.old.now.config c.tables_on-tables.result.now c.tables_on-tables.ensures c.loop-k.k c.loop-k-test.true c.shape-old.ensures.right

pub seat-requires-clause-on : goal.seat-requires-clause-on
seat-requires-clause-on c = listed_on c.args.old.now.config c.tables_on-tables.result.now c.tables_on-tables.ensures c.loop-k.k c.loop-k-test.true

pub loop-k-init : goal.loop-k-init
loop-k-init c = seated_none c.args.old.now.config c.args.plan.now (IsOfFirst IsTable no_table c.tables_on-tables.result.now 0) c.args.config.now.config (first_none IsTable no_table c.tables_on-tables.result.now)

pub loop-k-preserved : goal.loop-k-preserved
loop-k-preserved c =
    let g = c.args.old.now.config in
    let p = c.args.plan.now in
    let xs = c.tables_on-tables.result.now in
    let k : ℕ = c.loop-k.k in
    let t : ℕ = (get_or xs k no_table).0 in
    let on_at = λ (j : ℕ) (l : j < length xs). listed_on g xs c.tables_on-tables.ensures j l in
    let on : IsOn g t = on_at k c.loop-k-test.true in
    let sized : length c.loop-k.config.config.tables ≡ tables_of g.shape = c.loop-k.invariant.sized ∙ c.shape-shape.ensures.right.tables ∙ ap tables_of c.requires.shape in
    let within : nth_of p.tables.items t < length c.loop-k.config.config.tables = subst (λ n. nth_of p.tables.items t < n) (sym sized) (c.requires.plan.tables_within t (listed_within g xs c.tables_on-tables.ensures k c.loop-k-test.true c.shape-old.ensures.right)) in
    seated_more g p (IsOfFirst IsTable no_table xs k) (IsOfFirst IsTable no_table xs (k + 1)) c.args.config.now.config c.loop-k.config.config c.seat.new.config.config t c.loop-k.invariant c.seat.ensures within
    (λ u first e. c.requires.apart u t (subst (IsOn g) first.2 (on_at first.0 (omega (arith, first.1, c.loop-k-test.true)))) on e)
    (λ u more. elim (first_more IsTable no_table xs k u more) [ inl before ↦ inl before | inr e ↦ inr (sym e) ])
    (first_before IsTable no_table xs k)
    (first_last IsTable no_table xs k t refl)

pub returns : goal.returns
returns c =
    let g = c.args.old.now.config in
    let xs = c.tables_on-tables.result.now in
    seated_same g c.args.plan.now (IsOfFirst IsTable no_table xs c.loop-k.k) (IsOn g) c.args.config.now.config c.loop-k.config.config c.loop-k.invariant
    (λ t on. all_first (λ (x : Table). x.0) xs (λ q. is_some (setting_of g q)) c.tables_on-tables.ensures (λ y z. y ≡ z) no_table c.loop-k.k t (omega arith) t (is_on (setting_of g t) on) refl)
    (λ t first. let r = first_all (λ (x : Table). x.0) xs (λ q. is_some (setting_of g q)) c.tables_on-tables.ensures (λ y z. y ≡ z) no_table c.loop-k.k t (omega arith) (omega arith) first in subst (IsOn g) r.2 (on_is (setting_of g r.0) r.1))
