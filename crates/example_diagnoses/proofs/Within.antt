-- Tables of a machine.
use Rattle.std.proofs.Common.{◌≡◌, ℕ, ◌<◌, List, ◌∷◌, ◌++◌, [], sym, subst, All}
use Rattle.std.proofs.lemmas.List.Elements.{All-push}
use Rattle.machine_shape.specs.declared.Table.{Table}

-- one table more, whose number is below the bound
pub one_more : (m : ℕ) (old : List Table) (t : Table) (new : List Table) → new ≡ old ++ t ∷ [] → t.0 < m → All (λ (u : Table). u.0 < m) old →
    All (λ (u : Table). u.0 < m) new
one_more m old t new more less all = rw more (All-push (λ (u : Table). u.0 < m) old t all less)
