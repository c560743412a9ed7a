-- A line after the others.
use Rattle.design_blif.proofs.Vocabulary.{Piece, option_to_list, append-nil, LogicalLine, Head, Names, IsNew}
use Rattle.std.proofs.Common.{option_map, ◌≡◌, ℕ, true, List, [], ◌∷◌, ◌++◌, refl, sym, ap, ◌∙◌, append_assoc, inl, inr, ◌⊎◌}
use Rattle.design_blif.specs.declared.head.Head.TheVariants as head
use Rattle.design_blif.specs.Grammar.{Statement, Grouped, kind_of, grouped_behind, grouped, statements_of, is_end, ended_by, last_cover, cover_of, part_on, parts_of, is_some_statement}

-- the last element is changed
abbrev pub onto_last : {X : Type 0} → (X → X) → List X → List X
onto_last f [] = []
onto_last f (x ∷ []) = f x ∷ []
onto_last f (x ∷ y ∷ xs) = x ∷ onto_last f (y ∷ xs)

pub onto_last-at : {X : Type 0} (f : X → X) (x : X) (front : List X) → onto_last f (front ++ x ∷ []) ≡ front ++ f x ∷ []
onto_last-at f x [] = refl
onto_last-at f x (y ∷ []) = refl
onto_last-at f x (y ∷ z ∷ front) = ap (λ xs. y ∷ xs) (onto_last-at f x (z ∷ front))

-- a row goes to the last statement
abbrev pub add_to_last : List Statement → LogicalLine → List Statement
add_to_last statements l = onto_last (λ s. record { head = s.head; rows = s.rows ++ l ∷ [] }) statements

abbrev add_row : Grouped → LogicalLine → Grouped
add_row g l = by g.statements
  where
    by : List Statement → Grouped
    by [] = record { rows = g.rows ++ l ∷ []; statements = [] }
    by (s ∷ statements) = record { rows = g.rows; statements = add_to_last (s ∷ statements) l }

abbrev add_new : Grouped → LogicalLine → Grouped
add_new g l = record { rows = g.rows; statements = g.statements ++ record { head = l; rows = [] } ∷ [] }

in_front-add_row : (a l : LogicalLine) (h : Head) (rows : List LogicalLine) (ss : List Statement) → grouped_behind a h (add_row (record { rows = rows; statements = ss }) l) ≡ add_row (grouped_behind a h (record { rows = rows; statements = ss })) l
in_front-add_row a l head.Passed rows [] = refl
in_front-add_row a l head.Passed rows (s ∷ ss) = refl
in_front-add_row a l head.Row rows [] = refl
in_front-add_row a l head.Row rows (s ∷ ss) = refl
in_front-add_row a l _ rows [] = refl
in_front-add_row a l _ rows (s ∷ ss) = refl

in_front-add_new : (a l : LogicalLine) (h : Head) (g : Grouped) → grouped_behind a h (add_new g l) ≡ add_new (grouped_behind a h g) l
in_front-add_new a l head.Passed g = refl
in_front-add_new a l head.Row g = refl
in_front-add_new a l _ g = refl

in_front-new : (l : LogicalLine) (h : Head) → IsNew h → grouped_behind l h (record { rows = []; statements = [] }) ≡ record { rows = []; statements = record { head = l; rows = [] } ∷ [] }
in_front-new l head.Passed n = absurd n
in_front-new l head.Unknown n = absurd n
in_front-new l head.Row n = absurd n
in_front-new l _ n = refl

pub grouped-passed : (above : List LogicalLine) (l : LogicalLine) → kind_of l ≡ head.Passed → grouped (above ++ l ∷ []) ≡ grouped above
grouped-passed [] l e = rw e refl
grouped-passed (a ∷ above) l e = ap (grouped_behind a (kind_of a)) (grouped-passed above l e)

grouped-row : (above : List LogicalLine) (l : LogicalLine) → kind_of l ≡ head.Row → grouped (above ++ l ∷ []) ≡ add_row (grouped above) l
grouped-row [] l e = rw e refl
grouped-row (a ∷ above) l e = ap (grouped_behind a (kind_of a)) (grouped-row above l e) ∙ in_front-add_row a l (kind_of a) (grouped above).rows (grouped above).statements

grouped-new : (above : List LogicalLine) (l : LogicalLine) → IsNew (kind_of l) → grouped (above ++ l ∷ []) ≡ add_new (grouped above) l
grouped-new [] l n = in_front-new l (kind_of l) n
grouped-new (a ∷ above) l n = ap (grouped_behind a (kind_of a)) (grouped-new above l n) ∙ in_front-add_new a l (kind_of a) (grouped above)

row_added : (g : Grouped) (ss : List Statement) (l : LogicalLine) → (add_row (record { rows = g.rows; statements = ss }) l).statements ≡ add_to_last ss l
row_added g [] l = refl
row_added g (s ∷ ss) l = refl

pub statements-row : (above : List LogicalLine) (l : LogicalLine) → kind_of l ≡ head.Row → statements_of (above ++ l ∷ []) ≡ add_to_last (statements_of above) l
statements-row above l e = ap (λ g. g.statements) (grouped-row above l e) ∙ row_added (grouped above) (statements_of above) l

pub statements-new : (above : List LogicalLine) (l : LogicalLine) → IsNew (kind_of l) → statements_of (above ++ l ∷ []) ≡ statements_of above ++ record { head = l; rows = [] } ∷ []
statements-new above l n = ap (λ g. g.statements) (grouped-new above l n)

-- ---- the last statement

pub last_split : {X : Type 0} (xs : List X) → (xs ≡ []) ⊎ ((front : List X) × (x : X) × (xs ≡ front ++ x ∷ []))
last_split [] = inl refl
last_split {X} (x ∷ xs) = by (last_split xs)
  where
    by : ((xs ≡ []) ⊎ ((front : List X) × (y : X) × (xs ≡ front ++ y ∷ []))) → (x ∷ xs ≡ []) ⊎ ((front : List X) × (y : X) × (x ∷ xs ≡ front ++ y ∷ []))
    by (inl e) = inr ([], x, ap (λ ys. x ∷ ys) e)
    by (inr h) = inr (x ∷ h.0, h.1, ap (λ ys. x ∷ ys) h.2)

module _ (s : Statement) where
  pub add_to_last-at : (front : List Statement) (l : LogicalLine) → add_to_last (front ++ s ∷ []) l ≡ front ++ record { head = s.head; rows = s.rows ++ l ∷ [] } ∷ []
  add_to_last-at front l = onto_last-at (λ s. record { head = s.head; rows = s.rows ++ l ∷ [] }) s front

  pub ended_by-at : (front : List Statement) → ended_by (front ++ s ∷ []) ≡ is_end (kind_of s.head)
  ended_by-at [] = refl
  ended_by-at (t ∷ []) = refl
  ended_by-at (t ∷ u ∷ front) = ended_by-at (u ∷ front)

  pub last_cover-at : (names : List (List ℕ)) (front : List Statement) → last_cover names (front ++ s ∷ []) ≡ cover_of names (kind_of s.head) s
  last_cover-at names [] = refl
  last_cover-at names (t ∷ []) = refl
  last_cover-at names (t ∷ u ∷ front) = last_cover-at names (u ∷ front)

  pub some-at : (front : List Statement) → is_some_statement (front ++ s ∷ []) ≡ true
  some-at [] = refl
  some-at (t ∷ front) = refl

-- the parts but for the cover whose rows go on
abbrev pub closed_on : List (List ℕ) → Head → Statement → List Piece
closed_on names head.Names s = []
closed_on names h s = option_to_list (part_on names h s)

abbrev pub closed_parts : List (List ℕ) → List Statement → List Piece
closed_parts names [] = []
closed_parts names (s ∷ []) = closed_on names (kind_of s.head) s
closed_parts names (s ∷ t ∷ ss) = option_to_list (part_on names (kind_of s.head) s) ++ closed_parts names (t ∷ ss)

pub closed_parts-at : (names : List (List ℕ)) (ss : List Statement) (x : Statement) → closed_parts names (ss ++ x ∷ []) ≡ parts_of names ss ++ closed_on names (kind_of x.head) x
closed_parts-at names [] x = refl
closed_parts-at names (s ∷ []) x = ap (λ ps. ps ++ closed_on names (kind_of x.head) x) (sym (append-nil (option_to_list (part_on names (kind_of s.head) s))))
closed_parts-at names (s ∷ t ∷ ss) x = ap (λ ps. option_to_list (part_on names (kind_of s.head) s) ++ ps) (closed_parts-at names (t ∷ ss) x) ∙ sym (append_assoc (option_to_list (part_on names (kind_of s.head) s)) (parts_of names (t ∷ ss)) (closed_on names (kind_of x.head) x))

one_closed : (names : List (List ℕ)) (h : Head) (s : Statement) → closed_on names h s ++ option_to_list (option_map Names (cover_of names h s)) ≡ option_to_list (part_on names h s) ++ []
one_closed names head.Names s = refl
one_closed names head.Latch s = refl
one_closed names head.Subckt s = refl
one_closed names _ s = refl

pub parts_by_last : (names : List (List ℕ)) (ss : List Statement) → closed_parts names ss ++ option_to_list (option_map Names (last_cover names ss)) ≡ parts_of names ss
parts_by_last names [] = refl
parts_by_last names (s ∷ []) = one_closed names (kind_of s.head) s
parts_by_last names (s ∷ t ∷ ss) = append_assoc (option_to_list (part_on names (kind_of s.head) s)) (closed_parts names (t ∷ ss)) (option_to_list (option_map Names (last_cover names (t ∷ ss)))) ∙ ap (λ ps. option_to_list (part_on names (kind_of s.head) s) ++ ps) (parts_by_last names (t ∷ ss))

-- the rows of a statement that is no cover don't matter
pub closed_on-rows : (names : List (List ℕ)) (h : Head) (l : LogicalLine) (rows more : List LogicalLine) → closed_on names h (record { head = l; rows = rows }) ≡ closed_on names h (record { head = l; rows = more })
closed_on-rows names head.Names l rows more = refl
closed_on-rows names head.Latch l rows more = refl
closed_on-rows names head.Subckt l rows more = refl
closed_on-rows names _ l rows more = refl
