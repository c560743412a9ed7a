-- One route against several.
use Rattle.std.proofs.Common.{◌≡◌, ◌≢◌, ◌⊎◌, ◌<◌, ◌+◌, ℕ, zero, suc, Bool, true, false, ◌&&◌, Some, Option, List, [], ◌∷◌, ◌++◌, length, get_or, take, refl, sym, ap, ◌∙◌, subst, inl, inr, arith, ◌==◌, ◌||◌, All}
use Rattle.std.proofs.lemmas.Bool.{false≢true, or_cases, or_left, or_right}
use Rattle.diag_evidence.proofs.Vocabulary.{take_more, flat_map_more, list_any-append, pins_of, Pins, Faults, Shorted, Configuration}
use Rattle.diag_evidence.proofs.Vocabulary.{circuit_of, IsRun, among, apart_passes, apart_separates, Runs-unique, Walk}
use Rattle.diag_evidence.specs.Vocabulary.{Kept, HoldsFor, row_over, ReadsOnce, TellsFromAll, AllApartPasses, IsReady, wires_over}
use Rattle.diag_evidence.proofs.Advancing.{ready_joined}
use Rattle.diag_evidence.proofs.KeptLemmas.{GainHoldsFor, or_swapped, row_holds}

-- the wires of one route more
over_more : (rs : List Walk) (k : ℕ) (s : Walk) → k < length rs → s ≡ get_or rs k s → wires_over (take (k + 1) rs) ≡ wires_over (take k rs) ++ s.wires
over_more rs k s below at =
    ap wires_over (take_more rs k s below) ∙ sym (flat_map_more (λ (r : Walk). r.wires) [] (take k rs) (get_or rs k s))
    ∙ ap (λ (r : Walk). wires_over (take k rs) ++ r.wires) (sym at)

among_more : (rs : List Walk) (k y : ℕ) (s : Walk) → k < length rs → s ≡ get_or rs k s → among (wires_over (take (k + 1) rs)) y ≡ (among (wires_over (take k rs)) y || among s.wires y)
among_more rs k y s below at = ap (λ ws. among ws y) (over_more rs k s below at) ∙ list_any-append (λ z. z == y) (wires_over (take k rs)) s.wires

-- one route more is in a set
pub gathered_next : (rs : List Walk) (k w : ℕ) (s : Walk) (t o : Bool) → k < length rs → s ≡ get_or rs k s → t ≡ (among (wires_over (take k rs)) w || o) →
    (among s.wires w || t) ≡ (among (wires_over (take (k + 1) rs)) w || o)
gathered_next rs k w s t o below at is =
    ap (λ x. among s.wires w || x) is ∙ or_swapped (among s.wires w) (among (wires_over (take k rs)) w) o ∙ ap (λ x. x || o) (sym (among_more rs k w s below at))

-- a wire of one of the routes
pub over_has : (rs : List Walk) (k w : ℕ) (d : Walk) → k < length rs → among (get_or rs k d).wires w ≡ true → among (wires_over rs) w ≡ true
over_has [] k w d below is = absurd (omega arith)
over_has (r ∷ rs) zero w d below is = list_any-append (λ z. z == w) r.wires (wires_over rs) ∙ or_left (among r.wires w) (among (wires_over rs) w) is
over_has (r ∷ rs) (suc k) w d below is = list_any-append (λ z. z == w) r.wires (wires_over rs) ∙ or_right (among r.wires w) (among (wires_over rs) w) (over_has rs k w d (omega arith) is)

-- one of the routes has it
pub record IsOver (rs : List Walk) (w : ℕ) : Type 0 where
  pub place : ℕ
  pub below : place < length rs
  pub has : (d : Walk) → among (get_or rs place d).wires w ≡ true

pub over_of : (rs : List Walk) (w : ℕ) → among (wires_over rs) w ≡ true → IsOver rs w
over_of [] w is = absurd (false≢true is)
over_of (r ∷ rs) w is = by (or_cases (among r.wires w) (among (wires_over rs) w) (sym (list_any-append (λ z. z == w) r.wires (wires_over rs)) ∙ is)) (over_of rs w)
  where
    by : (among r.wires w ≡ true) ⊎ (among (wires_over rs) w ≡ true) → (among (wires_over rs) w ≡ true → IsOver rs w) → IsOver (r ∷ rs) w
    by (inl h) more = record { place = 0; below = omega arith; has = λ d. h }
    by (inr h) more = let p = more h in record { place = suc p.place; below = omega (arith, p.below); has = p.has }

first_of : {r q : Pins} → ◌≡◌ {A = List Pins} (r ∷ []) (q ∷ []) → r ≡ q
first_of e = ap (λ xs. get_or xs 0 []) e

-- the pin of a route reads otherwise than those of others
abbrev pub Differ : Pins → ℕ → List Walk → Type 0
Differ r k rs = All (λ (s : Walk). get_or r k true ≢ get_or r s.pin true) rs

module _ {told : Option Faults} {g : Configuration} {drive reading : Pins} (left : Walk) (rights : List Walk) (p : ReadsOnce told g drive reading) where
  same_reading : (f : Faults) (r : Pins) → told ≡ Some f → IsRun f g (drive ∷ []) (r ∷ []) → reading ≡ r
  same_reading f r t run = first_of (Runs-unique (circuit_of f g) (p.run f t) run)

  pub tells_none : (Differ reading left.pin rights → ⊥) → TellsFromAll told g drive left rights false
  tells_none no_ = record { exact = λ f r t run. ((λ is. absurd (false≢true is)), (λ all. absurd (no_ (subst (λ q. Differ q left.pin rights) (sym (same_reading f r t run)) all)))) }

  pub tells_all : Differ reading left.pin rights → TellsFromAll told g drive left rights true
  tells_all yes_ = record { exact = λ f r t run. ((λ is. subst (λ q. Differ q left.pin rights) (same_reading f r t run) yes_), (λ all. refl)) }

  pub all_pass : left.pin < pins_of g.shape → All (λ (s : Walk). s.pin < pins_of g.shape) rights → (Differ reading left.pin rights → ⊥) → AllApartPasses told g drive left rights false
  all_pass h each no_ = record {
    at = λ f l r t off groups is on driven. absurd (no_ (λ k d below e.
        let both = apart_passes f g l r drive reading left.pin (get_or rights k d).pin off groups h (each k d below) is (on k d below) driven (p.run f t) in
        false≢true (sym both.0 ∙ e ∙ both.1)));
  }

  pub all_gain : (k : Kept) → g.shape ≡ k.shape → IsReady k g left → All (IsReady k g) rights → Differ reading left.pin rights →
      (f : Faults) → told ≡ Some f → HoldsFor k f → GainHoldsFor k (row_over k.trial left.wires (wires_over rights)) f
  all_gain k same ready others differ f t h =
      row_holds k left.wires (wires_over rights) f (λ w u is on. subst (λ m. ¬ Shorted m f w u) same (apart w u is on))
    where
      apart : (w u : ℕ) → among left.wires w ≡ true → among (wires_over rights) u ≡ true → ¬ Shorted g.shape f w u
      apart w u is on =
          let it = over_of rights u on in
          let other = others it.place left it.below in
          apart_separates f g left.pin (get_or rights it.place left).pin w u (p.run f t) (rw same ready.route.pin) (rw same other.route.pin) (differ it.place left it.below)
          (ready_joined f k g left same h ready w is) (ready_joined f k g (get_or rights it.place left) same h other u (it.has left))
