-- Tables that are kept, and those that aren't.
use Rattle.std.proofs.Common.{◌≡◌, ℕ, ◌+◌, ◌*◌, ◌<◌, ◌≤◌, Bool, true, false, List, length, take, get_or, refl, sym, ap, ◌∙◌, arith, not, ◌==◌, ◌&&◌, if◌then◌else◌}
use Rattle.diag_growth.proofs.Vocabulary.{count_by, false≢true, nat_tests, Table, Kept, IsMore, keeps_cell, keeps_register, how_many}
use Rattle.diag_growth.proofs.Vocabulary.{many_all, many_less, many_more, many_so, keeps_table, fresh_tables, TakesForTable}
use Rattle.std.proofs.lemmas.List.Sums.{count_by_more_no, count_by_more_yes, sum_by-take-le}

-- a cell isn't kept
pub cell_fresh : (k : Kept) (t a : ℕ) → a < 64 → keeps_cell k t a ≡ false → keeps_table k t ≡ false
cell_fresh k t a low off = by_bit (how_many (keeps_cell k t) 64 == 64) refl
  where
    by_bit : (b : Bool) → (how_many (keeps_cell k t) 64 == 64) ≡ b → (b && keeps_register k t) ≡ false
    by_bit true e =
        let few = many_less (keeps_cell k t) 64 a low off in
        let all : how_many (keeps_cell k t) 64 ≡ 64 = grind (arith, nat_tests, e) in absurd (let no : ⊥ = omega (arith, few, all) in no)
    by_bit false e = refl

-- all are
pub cells_kept : (k : Kept) (t : ℕ) → ((a : ℕ) → a < 64 → keeps_cell k t a ≡ true) → keeps_table k t ≡ keeps_register k t
cells_kept k t all = rw (many_so (keeps_cell k t) 64 all) refl

-- what is kept stays kept
both : (a b : Bool) → (a && b) ≡ true → (a ≡ true) × (b ≡ true)
both true b e = (refl, e)
both false b e = absurd (false≢true e)

pub kept_later : {k l : Kept} (t : ℕ) → IsMore k l → keeps_table k t ≡ true → keeps_table l t ≡ true
kept_later {k} {l} t more on =
    let parts = both (how_many (keeps_cell k t) 64 == 64) (keeps_register k t) on in
    let before : how_many (keeps_cell k t) 64 ≡ 64 = (let e = parts.0 in grind (arith, nat_tests, e)) in
    let up = many_more (keeps_cell k t) (keeps_cell l t) 64 (λ a less. more.cells t a) in
    let most = many_all (keeps_cell l t) 64 in
    let all : how_many (keeps_cell l t) 64 ≡ 64 = omega (arith, before, up, most) in
    rw (all, more.registers t parts.1) refl

-- loads for a table
pub takes_kept : {k : Kept} {t before after : ℕ} → after ≡ before → TakesForTable k t before after
takes_kept same = record { most = omega (arith, same); kept = λ e. omega (arith, same) }

pub takes_fresh : {k : Kept} {t before after : ℕ} → keeps_table k t ≡ false → after ≤ before + 130 → TakesForTable k t before after
takes_fresh off most = record { most = most; kept = λ e. absurd (false≢true (sym off ∙ e)) }

-- .. for the first n and one more
pub takes_more : {k l : Kept} (tables : List Table) (i : ℕ) (d : Table) (before : ℕ) {mid after : ℕ} → i < length tables → IsMore k l →
    mid ≤ before + 130 * fresh_tables k (take i tables) → TakesForTable l (get_or tables i d).0 mid after → after ≤ before + 130 * fresh_tables k (take (i + 1) tables)
takes_more {k} {l} tables i d before {mid} {after} less more old new = by_bit (keeps_table k (get_or tables i d).0) refl
  where
    is_fresh : Table → Bool
    is_fresh t = not (keeps_table k t.0)

    by_bit : (b : Bool) → keeps_table k (get_or tables i d).0 ≡ b → after ≤ before + 130 * count_by is_fresh (take (i + 1) tables)
    by_bit true e =
        let count = count_by_more_no is_fresh tables i d less (ap not e) in
        let none = new.kept (kept_later (get_or tables i d).0 more e) in omega (arith, old, none, count)
    by_bit false e =
        let count = count_by_more_yes is_fresh tables i d less (ap not e) in
        let most = new.most in omega (arith, old, most, count)

-- .. for all, of which the first n are some
pub takes_all : (k : Kept) (tables : List Table) (n before : ℕ) {after : ℕ} → after ≤ before + 130 * fresh_tables k (take n tables) → after ≤ before + 130 * fresh_tables k tables
takes_all k tables n before old = let some = sum_by-take-le (λ (t : Table). if not (keeps_table k t.0) then 1 else 0) tables n in omega (arith, old, some)
