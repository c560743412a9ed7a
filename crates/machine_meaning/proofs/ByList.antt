-- Joined wires are those to which a finite list of wires leads.
use Rattle.std.proofs.Common.{ℕ, List, [], ◌∷◌, ◌++◌, refl, sym, subst}
use Rattle.machine_meaning.specs.Joined.{Net, Joined, here, then, IsWalk, JoinedByList}
use Rattle.machine_meaning.proofs.JoinedLemmas.{Linked-sym, Joined-trans}

-- walks as lists
walk-append : (net : Net) (a b c : ℕ) (ws vs : List ℕ) → IsWalk net a ws b → IsWalk net b vs c → IsWalk net a (ws ++ vs) c
walk-append net a b c [] vs p q = subst (λ x. IsWalk net x vs c) (sym p) q
walk-append net a b c (w ∷ ws) vs p q = (p.0, walk-append net w b c ws vs p.1 q)

pub by_list-trans : (net : Net) (a b c : ℕ) → JoinedByList net a b → JoinedByList net b c → JoinedByList net a c
by_list-trans net a b c p q = (p.0 ++ q.0, walk-append net a b c p.0 q.0 p.1 q.1)

turn : (net : Net) (a b : ℕ) (ws : List ℕ) → IsWalk net a ws b → JoinedByList net b a
turn net a b [] p = ([], sym p)
turn net a b (w ∷ ws) p = by_list-trans net b w a (turn net w b ws p.1) (a ∷ [], (Linked-sym p.0, refl))

pub by_list-sym : (net : Net) (a b : ℕ) → JoinedByList net a b → JoinedByList net b a
by_list-sym net a b p = turn net a b p.0 p.1

-- the two forms say the same
pub list_of : {net : Net} {a b : ℕ} → Joined net a b → JoinedByList net a b
list_of here = ([], refl)
list_of {net} {a} (then {b} {c} j l) = by_list-trans net a b c (list_of j) (c ∷ [], (l, refl))

pub joined_of : (net : Net) (a b : ℕ) (ws : List ℕ) → IsWalk net a ws b → Joined net a b
joined_of net a b [] p = subst (Joined net a) p here
joined_of net a b (w ∷ ws) p = Joined-trans (then here p.0) (joined_of net w b ws p.1)
