-- A switched-on table is one of the machine.
use Rattle.std.proofs.Common.{◌≡◌, ◌⊎◌, ℕ, zero, suc, ◌<◌, ◌≤◌, Option, None, length, get_or, replicate, refl, subst, inl, inr, IsSome}
use Rattle.place_repair.proofs.Vocabulary.{cases_lt, get_or_past, tables_of, Setting, Configuration, IsConfiguration, setting_of}

pub some_none : {o : Option Setting} → IsSome o → o ≡ None → ⊥
some_none is e = cc

-- where none is on, none is
pub off_at : (n t : ℕ) (none : Option Setting) → get_or (replicate n none) t none ≡ none
off_at zero t o = refl
off_at (suc n) zero o = refl
off_at (suc n) (suc t) o = off_at n t o

pub on_within : (g : Configuration) → IsConfiguration g → (t : ℕ) → IsSome (setting_of g t) → t < tables_of g.shape
on_within g right t on = by (cases_lt t (length g.tables))
  where
    by : (t < length g.tables) ⊎ (length g.tables ≤ t) → t < tables_of g.shape
    by (inl l) = subst (λ n. t < n) right.tables l
    by (inr l) = absurd (some_none on (get_or_past g.tables t None l))
