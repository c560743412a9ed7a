-- Marks are true.
use Rattle.std.proofs.Common.{◌≡◌, ◌⊎◌, inl, inr, ℕ, ◌<◌, Bool, true, false, ◌&&◌, ◌||◌, Some, Option, List, All, length, get_or, refl, sym, ap, ◌∙◌, subst, arith, ◌==◌, map}
use Rattle.diag_evidence.proofs.Vocabulary.{IsDistinct, list_any, nat_tests, Pins, Faults, Shorted, IsClear, IsAlone, has_number}
use Rattle.std.proofs.lemmas.Bool.{false≢true, and_parts, or_cases, or_right}
use Rattle.diag_evidence.specs.Vocabulary.{Kept, HoldsFor, IsMore, Trees, IsForest, KnowsForest, is_hung, IsLook, Foot, IsFoot, closes, pin_at, others_part, reads_oddly, reads_alike, shows_unfit, shows_unclear, is_unfit_in, is_unclear_in, MarksUnfit, MarksUnclear, UnfitIf, UnclearIf, AreAllOf, StayMarked, HasMarked}
use Rattle.diag_evidence.proofs.Found.{IsSome_of, some_of}
use Rattle.diag_evidence.proofs.Unfitting.{not_odd, not_alike}

same_number : (a b : ℕ) → (a == b) ≡ true → a ≡ b
same_number a b e = grind (arith, nat_tests, e)

-- what was marked stays so
pub still_unfit : {trees : Trees} {feet : List Foot} {rows : List Pins} {was is were are : List Bool} → HasMarked trees feet rows was is were are → StayMarked was is
still_unfit {trees} {feet} {rows} {was} h w on = h.unfit w ∙ or_right (is_unfit_in trees feet rows w) (has_number was w) on

pub still_unclear : {trees : Trees} {feet : List Foot} {rows : List Pins} {was is were are : List Bool} → HasMarked trees feet rows was is were are → StayMarked were are
still_unclear {trees} {feet} {rows} {were = were} h w on = h.unclear w ∙ or_right (is_unclear_in trees feet rows w) (has_number were w) on

-- marks are true of what is kept later, where that is true only of faults of which it was true before
pub unfit_later : (told : Option Faults) (k l : Kept) (known : ℕ → Bool) (marks : List Bool) → IsMore k l → ((f : Faults) → HoldsFor l f → HoldsFor k f) → UnfitIf told k known marks → UnfitIf told l known marks
unfit_later told k l known marks more before h f is holds w on clear alone =
    h f is (before f holds) w on (subst (λ m. IsClear m f w) more.shape clear) (subst (λ m. IsAlone m f (λ u. known u ≡ true) w) more.shape alone)

pub unclear_later : (told : Option Faults) (k l : Kept) (marks : List Bool) → IsMore k l → ((f : Faults) → HoldsFor l f → HoldsFor k f) → UnclearIf told k marks → UnclearIf told l marks
unclear_later told k l marks more before h f is holds w on clear = h f is (before f holds) w on (subst (λ m. IsClear m f w) more.shape clear)

-- .. and of the same
pub unfit_same : (told : Option Faults) (k l : Kept) (known : ℕ → Bool) (marks : List Bool) → l ≡ k → UnfitIf told k known marks → UnfitIf told l known marks
unfit_same told k l known marks e h = subst (λ n. UnfitIf told n known marks) (sym e) h

pub unclear_same : (told : Option Faults) (k l : Kept) (marks : List Bool) → l ≡ k → UnclearIf told k marks → UnclearIf told l marks
unclear_same told k l marks e h = subst (λ n. UnclearIf told n marks) (sym e) h

-- what a look marks newly, and then another
pub unfit_then : (told : Option Faults) (k : Kept) (trees : Trees) (was some is : List Bool) → MarksUnfit told k trees was some → MarksUnfit told k trees some is → MarksUnfit told k trees was is
unfit_then told k trees was some is first second f e holds w off on = by (has_number some w) refl
  where
    by : (b : Bool) → has_number some w ≡ b → IsClear k.shape f w → ¬ IsAlone k.shape f (λ u. is_hung trees u ≡ true) w
    by true h = first f e holds w off h
    by false h = second f e holds w h on

pub unclear_then : (told : Option Faults) (k : Kept) (were few are : List Bool) → MarksUnclear told k were few → MarksUnclear told k few are → MarksUnclear told k were are
unclear_then told k were few are first second f e holds w off on = by (has_number few w) refl
  where
    by : (b : Bool) → has_number few w ≡ b → ¬ IsClear k.shape f w
    by true h = first f e holds w off h
    by false h = second f e holds w h on

-- where none is marked newly
pub unfit_none : (told : Option Faults) (k : Kept) (trees : Trees) (was : List Bool) → MarksUnfit told k trees was was
unfit_none told k trees was f e holds w off on = absurd (false≢true (sym off ∙ on))

pub unclear_none : (told : Option Faults) (k : Kept) (were : List Bool) → MarksUnclear told k were were
unclear_none told k were f e holds w off on = absurd (false≢true (sym off ∙ on))

-- Where the new marks are true, all are.
pub unfit_all : (told : Option Faults) (k : Kept) (trees : Trees) (was is : List Bool) → MarksUnfit told k trees was is → (known : ℕ → Bool) → AreAllOf trees known → UnfitIf told k known was → UnfitIf told k known is
unfit_all told k trees was is newly known all before f e holds w on clear alone = by (has_number was w) refl
  where
    by : (b : Bool) → has_number was w ≡ b → ⊥
    by true h = before f e holds w h clear alone
    by false h = newly f e holds w h on clear (λ u hung. alone u (all u hung))

pub unclear_all : (told : Option Faults) (k : Kept) (were are : List Bool) → MarksUnclear told k were are → UnclearIf told k were → UnclearIf told k are
unclear_all told k were are newly before f e holds w on = by (has_number were w) refl
  where
    by : (b : Bool) → has_number were w ≡ b → ¬ IsClear k.shape f w
    by true h = before f e holds w h
    by false h = newly f e holds w h on

-- what a look at a forest and feet marks
module _ (told : Option Faults) (k : Kept) (trees : Trees) (feet : List Foot) (rows : List Pins) (forest : IsForest trees) (knows : KnowsForest k trees) (each : All (IsFoot trees) feet)
    (once : IsDistinct (λ a b. a == b) (map (λ (foot : Foot). foot.0.0) feet)) (look : IsLook told trees.shape (closes trees feet) rows) {was is were are : List Bool} (marked : HasMarked trees feet rows was is were are) where
  d : Foot
  d = (record { 0 = 0 }, record { 0 = 0 })

  here : k.shape ≡ look.config.shape
  here = sym knows.keeps.shape ∙ sym look.shape

  pub unfit_new : MarksUnfit told k trees was is
  unfit_new f e holds w off on clear alone = by (or_cases (is_unfit_in trees feet rows w) (has_number was w) (sym (marked.unfit w) ∙ on))
    where
      of_foot : IsSome_of (λ (foot : Foot). (foot.0.0 == w) && shows_unfit trees feet rows foot) feet → ⊥
      of_foot s =
          let foot = get_or feet s.place d in
          let h = and_parts _ _ (s.holds d) in
          let both = and_parts (others_part trees feet rows foot) (reads_oddly trees rows (pin_at trees foot)) h.1 in
          let same = same_number foot.0.0 w h.0 in
          not_odd trees feet rows forest each once look f e k knows holds s.place d s.below both.0
          (subst (λ m. IsClear m f foot.0.0) here (subst (IsClear k.shape f) (sym same) clear))
          (λ u hung. subst (λ m. ¬ Shorted m f foot.0.0 u) here (subst (λ v. ¬ Shorted k.shape f v u) (sym same) (alone u hung))) both.1

      by : (is_unfit_in trees feet rows w ≡ true) ⊎ (has_number was w ≡ true) → ⊥
      by (inl h) = of_foot (some_of _ feet h)
      by (inr h) = false≢true (sym off ∙ h)

  pub unclear_new : MarksUnclear told k were are
  unclear_new f e holds w off on clear = by (or_cases (is_unclear_in trees feet rows w) (has_number were w) (sym (marked.unclear w) ∙ on))
    where
      of_foot : IsSome_of (λ (foot : Foot). (foot.0.0 == w) && shows_unclear trees feet rows foot) feet → ⊥
      of_foot s =
          let foot = get_or feet s.place d in
          let h = and_parts _ _ (s.holds d) in
          let alike = and_parts (shows_unfit trees feet rows foot) (reads_alike rows (pin_at trees foot)) h.1 in
          let both = and_parts (others_part trees feet rows foot) (reads_oddly trees rows (pin_at trees foot)) alike.0 in
          let same = same_number foot.0.0 w h.0 in
          not_alike trees feet rows forest each once look f e k knows holds s.place d s.below both.0 (subst (λ m. IsClear m f foot.0.0) here (subst (IsClear k.shape f) (sym same) clear)) alike.1

      by : (is_unclear_in trees feet rows w ≡ true) ⊎ (has_number were w ≡ true) → ⊥
      by (inl h) = of_foot (some_of _ feet h)
      by (inr h) = false≢true (sym off ∙ h)
