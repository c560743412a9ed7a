-- One write after another.
use Rattle.std.proofs.Common.{◌≡◌, ℕ, List, [], ◌∷◌, ◌++◌, Bool, flat_map, Option, None, Some, append-nil, option_map, refl, sym, ap, ◌∙◌, append_assoc, inr, inl, subst, Result, Ok, Err}
use Rattle.cmd_steps.proofs.Vocabulary.{flat_map-append, Wrote, StoreState, row_line, Asks, AsksSome, Stop}

append_twice : (told : Option (List ℕ)) (s t : List ℕ) → option_map (λ w. w ++ t) (option_map (λ w. w ++ s) told) ≡ option_map (λ w. w ++ (s ++ t)) told
append_twice None s t = refl
append_twice (Some w) s t = ap Some (append_assoc w s t)

-- a write of nothing
pub Wrote-none : (a : Option (List ℕ)) → Wrote a a []
Wrote-none None = refl
Wrote-none (Some w) = ap Some (sym (append-nil w))

-- two writes are one of both texts
pub Wrote-then : (a b c : Option (List ℕ)) (s t : List ℕ) → Wrote a b s → Wrote b c t → Wrote a c (s ++ t)
Wrote-then a b c s t first second = second ∙ (ap (option_map (λ w. w ++ t)) first ∙ append_twice a s t)

-- the lines of one more row
pub row_lines-more : (rows : List (List Bool)) (row : List Bool) → flat_map row_line (rows ++ row ∷ []) ≡ flat_map row_line rows ++ row_line row
row_lines-more rows row = rw (flat_map-append row_line rows (row ∷ [])) (ap (λ t. flat_map row_line rows ++ t) (append-nil (row_line row)))

-- all names are some of them
pub asks-all : (names old new : List (List ℕ)) → new ≡ old ++ names → AsksSome names old new
asks-all [] old new all = all ∙ append-nil old
asks-all (name ∷ names) old new all = inr (asks-all names (old ++ name ∷ []) new (all ∙ sym (append_assoc old (name ∷ []) names)))

-- some names, and then some of the next
asks-more : (names more old mid new : List (List ℕ)) → mid ≡ old ++ names → AsksSome more mid new → AsksSome (names ++ more) old new
asks-more [] more old mid new first some = subst (λ t. AsksSome more t new) (first ∙ append-nil old) some
asks-more (name ∷ names) more old mid new first some =
    inr (asks-more names more (old ++ name ∷ []) mid new (first ∙ sym (append_assoc old (name ∷ []) names)) some)

-- no name was asked
asks-none : (names old new : List (List ℕ)) → new ≡ old → AsksSome names old new
asks-none [] old new same = same
asks-none (name ∷ names) old new same = inl same

-- some of the first names are some of all
pub asks-front : (names more old new : List (List ℕ)) → AsksSome names old new → AsksSome (names ++ more) old new
asks-front [] more old new some = asks-none more old new some
asks-front (name ∷ names) more old new (inl same) = inl same
asks-front (name ∷ names) more old new (inr some) = inr (asks-front names more (old ++ name ∷ []) new some)

pub names-both : (names more : List (List ℕ)) (old mid new : StoreState) → mid.asked ≡ old.asked ++ names → new.asked ≡ mid.asked ++ more → new.asked ≡ old.asked ++ (names ++ more)
names-both names more old mid new first second = second ∙ (ap (λ t. t ++ more) first ∙ append_assoc old.asked names more)

-- some names were asked, and then a body asks for more
pub asks-after : {T : Type 0} (names more : List (List ℕ)) (result : Result T Stop) (old mid new : StoreState) → mid.asked ≡ old.asked ++ names → Asks more result mid new → Asks (names ++ more) result old new
asks-after names more (Ok x) old mid new first asks = record { all = names-both names more old mid new first asks.all; some = tt }
asks-after names more (Err stop) old mid new first asks = record { all = tt; some = asks-more names more old.asked mid.asked new.asked first asks.some }
