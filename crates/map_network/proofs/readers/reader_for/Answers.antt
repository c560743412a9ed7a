use Rattle.map_network.proofs.Vocabulary.{ℕ, ◌≡◌, ◌∙◌, ap, sym, length, subst, arith, MatchOption, CanJoin, all_readers, readers_at, MayPut}
use Rattle.map_network.proofs.ReaderLemmas.{joins, not_one, not_put, length_all}
use Rattle.map_network.proofs.readers.reader_for.Goals as goal
use Rattle.map_network.proofs.readers.reader_for.Goals.{in-Some, in-None}

pub bounds-readers-table : goal.bounds-readers-table
bounds-readers-table c = omega (arith, c.requires.within, ap length c.requires.readers, length_all c.args.network.now)

pub bounds-readers-table-2 : goal.bounds-readers-table-2
bounds-readers-table-2 c = omega (arith, c.requires.within, ap length c.requires.readers, length_all c.args.network.now)

pub returns-then-count-ne1 : goal.returns-then-count-ne1
returns-then-count-ne1 c = not_one c.args.network.now c.args.table c.requires.within (λ one. c.if-count-ne1.true (ap (λ rs. (readers_at rs c.args.table).count) c.requires.readers ∙ one))

pub returns : goal.returns
returns c =
    let one : (readers_at (all_readers c.args.network.now.tables c.args.network.now.outputs) c.args.table).count ≡ 1 = sym (ap (λ rs. (readers_at rs c.args.table).count) c.requires.readers) ∙ c.if-count-ne1.false in
    let last : (readers_at c.args.readers.now c.args.table).last ≡ (readers_at (all_readers c.args.network.now.tables c.args.network.now.outputs) c.args.table).last = ap (λ rs. (readers_at rs c.args.table).last) c.requires.readers in
    elim c.match-joined_at.branch [
      | in-Some w ↦ (let may : MayPut c.args.network.now.tables c.args.table (readers_at c.args.readers.now c.args.table).last = subst (λ ts. MayPut ts c.args.table (readers_at c.args.readers.now c.args.table).last) c.as_slice.ensures w.in-Some.ensures.0 in
          subst (λ o. MatchOption o ((r : ℕ) → CanJoin c.args.network.now c.args.table r → ⊥) (λ reader. CanJoin c.args.network.now c.args.table reader)) (sym w.result-is) (subst (CanJoin c.args.network.now c.args.table) (sym last) (joins c.args.network.now c.args.table c.requires.within (subst (MayPut c.args.network.now.tables c.args.table) last may) one)))
      | in-None w ↦ subst (λ o. MatchOption o ((r : ℕ) → CanJoin c.args.network.now c.args.table r → ⊥) (λ reader. CanJoin c.args.network.now c.args.table reader)) (sym w.result-is) (not_put c.args.network.now c.args.table c.requires.within c.requires.network one (λ may. w.in-None.ensures (subst (λ ts. MayPut ts c.args.table (readers_at c.args.readers.now c.args.table).last) (sym c.as_slice.ensures) (subst (MayPut c.args.network.now.tables c.args.table) (sym last) may))))
    ]
