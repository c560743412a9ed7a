-- What a search for room gives to a route.
use Rattle.place_route.proofs.Vocabulary.{◌≡◌, refl, subst, Option, None, Some, IfNone, IfSome, IsSome, Shape, IsNumbered, IsTree}
use Rattle.place_route.proofs.Vocabulary.{HasParents, HasTaps, HasCrosses, HasMeanings, HasSites, Defects, Network, Plan, IsLaidBy}
use Rattle.place_plan.specs.{declared.layout.Layout.Layout, Laying.FitsWith, Laying.IsLayout}
use Rattle.place_route.proofs.Drawn.{Numbering}

pub numbering : ((m : Shape) → IsNumbered m) → ((m : Shape) → IsTree m) → ((m : Shape) → HasParents m) → ((m : Shape) → HasMeanings m) → ((m : Shape) → HasTaps m) → ((m : Shape) → HasCrosses m) → ((m : Shape) → HasSites m) → (m : Shape) → Numbering m
numbering numbered tree parents meanings taps crosses sites m = record { numbered = numbered m; tree = tree m; parents = parents m; taps = taps m; crosses = crosses m; sites = sites m; meanings = meanings m }

-- a layout of a plan is one of its nets
pub laid_by : (m : Shape) (d : Defects) (n : Network) (p : Plan) (l : Layout) → IsLayout m d n p l → IsLaidBy m d n p l.nets.items l.ports.items l.visits.items
laid_by m d n p l is = record { few = is.few; nets_are = is.nets; held = is.held; visited = is.visited }

-- where the plan fits there is one
pub some_layout : {A : Type 0} (P : Type 0) (o : Option A) → P → IfNone o (¬ P) → IsSome o
some_layout P None fits none = absurd (none fits)
some_layout P (Some x) fits none = refl

-- and that one is a layout
pub layout_of : (m : Shape) (d : Defects) (n : Network) (p : Plan) (o : Option Layout) (l : Layout) → o ≡ Some l → IfSome o (FitsWith m d n p) → IsLayout m d n p l
layout_of m d n p o l e some = (subst (λ z. IfSome z (FitsWith m d n p)) e some).1
