-- What a course leads to, from what its steps do.
use Rattle.cmd_steps.proofs.Vocabulary.{◌≡◌, ℕ, List, [], ◌++◌, refl, sym, subst, inl, inr, Refusal}
use Rattle.cmd_steps.specs.Vocabulary.{Course, Next, Step, StopsAt, after, write, done, ends, refuses, writes, Leads}

-- a step that stops refuses something
pub stopped : {T : Type 0} (step : Step T) (next : Next) → StopsAt step next → (refusal : Refusal) × (next ≡ refuses refusal) × step.stops refusal
stopped step ends stops = absurd stops
stopped step (refuses refusal) stops = (refusal, refl, stops)
stopped step (writes line) stops = absurd stops

-- where a step stops, it is by such a refusal
pub step-leads : {T : Type 0} (step : Step T) (next_is : Next → Type 0) → ((refusal : Refusal) → step.stops refusal → next_is (refuses refusal)) → (next : Next) → StopsAt step next → next_is next
step-leads step next_is well ends stops = absurd stops
step-leads step next_is well (refuses refusal) stops = well refusal stops
step-leads step next_is well (writes line) stops = absurd stops

-- a step, and what follows
pub after-leads : {T : Type 0} (step : Step T) (here : Type 0) (rest : T → Course) (text_is : List ℕ → Type 0) (next_is : Next → Type 0) → (text_is [] → (refusal : Refusal) → step.stops refusal → next_is (refuses refusal)) → ((x : T) → step.gives x → Leads text_is (rest x) next_is) → Leads text_is (after step here rest) next_is
after-leads step here rest text_is next_is stops gives text next is (inl h) = step-leads step next_is (stops (subst text_is h.0 is)) next h.1
after-leads step here rest text_is next_is stops gives text next is (inr h) = gives h.0 h.1 text next is h.2

-- a line, and what follows on it
pub write-leads : (line : List ℕ) (here : Type 0) (rest : Course) (text_is : List ℕ → Type 0) (next_is : Next → Type 0) → next_is (writes line) → Leads (λ more. text_is (line ++ more)) rest next_is → Leads text_is (write line here rest) next_is
write-leads line here rest text_is next_is at gives text next is (inl h) = subst next_is (sym h.1) at
write-leads line here rest text_is next_is at gives text next is (inr h) = gives h.0 next (subst text_is h.1 is) h.2

-- the end
pub done-leads : (here : Type 0) (text_is : List ℕ → Type 0) (next_is : Next → Type 0) → (text_is [] → next_is ends) → Leads text_is (done here) next_is
done-leads here text_is next_is at text next is h = subst next_is (sym h.1) (at (subst text_is h.0 is))
