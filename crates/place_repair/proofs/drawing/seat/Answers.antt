use Rattle.std.proofs.Common.{◌≡◌, ◌<◌, ℕ, length, sym, ap, ◌∙◌, subst, arith}
use Rattle.place_repair.proofs.Vocabulary.{get_or_read, tables_of, Shape, with_setting, nth_of}
use Rattle.place_repair.proofs.Placed.{some_none}
use Rattle.place_repair.proofs.drawing.seat.Goals as goal

pub index-place-requires : goal.index-place-requires
index-place-requires c =
    let sized : length c.args.plan.now.tables.items ≡ tables_of c.args.old.now.config.shape = c.requires.plan.tables_sized in
    let within : c.args.table.0 < tables_of c.args.old.now.config.shape = c.requires.within in
    omega (arith, sized, within)

pub switch_on-requires : goal.switch_on-requires
switch_on-requires c =
    let p = c.args.plan.now in
    let t : ℕ = c.args.table.0 in
    let within : t < length p.tables.items = subst (λ n. t < n) (sym c.requires.plan.tables_sized) c.requires.within in
    let place : c.index-place.result.now ≡ nth_of p.tables.items t = get_or_read p.tables.items _ _ within c.index-place.ensures 0 in
    subst (λ n. n < tables_of c.args.config.now.config.shape) (sym place) (subst (λ (m : Shape). nth_of p.tables.items t < tables_of m) (sym c.requires.shape) (c.requires.plan.tables_within t c.requires.within))

pub returns-in-None : goal.returns-in-None
returns-in-None c = absurd (some_none c.requires.on (sym c.in-None.ensures))

pub returns-in-Some : goal.returns-in-Some
returns-in-Some c =
    let p = c.args.plan.now in
    let t : ℕ = c.args.table.0 in
    let within : t < length p.tables.items = subst (λ n. t < n) (sym c.requires.plan.tables_sized) c.requires.within in
    let place : c.index-place.result.now ≡ nth_of p.tables.items t = get_or_read p.tables.items _ _ within c.index-place.ensures 0 in
    ap (λ r. r.config) c.switch_on.ensures ∙ (λ z. with_setting c.args.config.now.config (place z) (c.in-Some.ensures z))
