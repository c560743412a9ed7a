-- What a tight list leaves free, and that nothing that could stand can be taken off it.
use Rattle.std.proofs.Common.{◌≡◌, ◌⊎◌, ℕ, ◌<◌, Bool, true, false, Option, Some, None, refl, sym, ◌∙◌, subst, inl, inr, IsSome, unwrap_or}
use Rattle.machine_meaning.proofs.Vocabulary.{false≢true, Shape}
use Rattle.std.specs.FinSet as set
use native.Mathlib.Decide.{dec_lt}
use Rattle.machine_shape.specs.Vocabulary.{IsNumbered, Ends, in_order, turned, ends_of, pin_wire, table_wire, wires_of, crosses_of, tables_of, node_of, IsLine, IsTap, HasHomes}
use Rattle.machine_meaning.specs.Vocabulary.{Faults, AreFaultsOf, stuck_cross, Linked, crossed, bridged, Joined, here, Shorted, net_of, IsSoundWire, IsSoundTable, IsServed, Defects, IsFreeWire, IsFreeCross, IsFreeTable, IsClear, IsOfUse, IsFair, Covers, AreDefectsOf, pin_stands, on_two, IsSeated, IsSoundCrossOf, IsStanding, HasStandingParts, IsFreeWireOf, IsFreeCrossOf, IsAlone, two, IsTight, CouldStand, as_pin, on_feet, IsTakenOff, IsLeast, HasOneFree}
use Rattle.machine_meaning.proofs.JoinedLemmas.{Ends-swap, Joined-sym, Joined-trans}
use Rattle.machine_meaning.proofs.Clear.{clear_of_sound}
use Rattle.machine_meaning.proofs.Seats.{seated_also}
use Rattle.machine_meaning.proofs.ValuesExist.{dec_place}

-- listed or not
is_or : (b : Bool) → (b ≡ false) ⊎ (b ≡ true)
is_or false = inl refl
is_or true = inr refl

free_or : (b : Bool) → (b ≡ true → ⊥) → b ≡ false
free_or false no_ = refl
free_or true no_ = absurd (no_ refl)

listed_or : (b : Bool) → (b ≡ false → ⊥) → b ≡ true
listed_or true no_ = refl
listed_or false no_ = absurd (no_ refl)

module _ (m : Shape) (numbered : IsNumbered m) (d : Defects) (f : Faults) (tight : IsTight m d f) where
  -- a sound wire is free, or shorted to no free wire
  if_alone : (w : ℕ) → IsSoundWire m f w → (IsAlone m f (IsFreeWireOf m d) w → IsFreeWire d w) → IsFreeWire d w
  if_alone w sound h = by (is_or (set.contains d.wires w))
    where
      by : (set.contains d.wires w ≡ false) ⊎ (set.contains d.wires w ≡ true) → IsFreeWire d w
      by (inl e) = e
      by (inr e) = h (λ u free j. false≢true (sym (subst (IsFreeWire d) (sound.alone u j) free.1) ∙ e))

  pub free_standing : {w : ℕ} → IsStanding m f w → IsFreeWireOf m d w
  free_standing (pin_stands k b sound) = (numbered.pins k b, if_alone (pin_wire m k) sound (tight.pins k b (clear_of_sound sound)))
  free_standing (on_two w x y a b sound cx cy ex ey ne p q) =
      let below = numbered.ends x w a cx.0 (Ends-swap ex) in (
        below,
        if_alone w sound (λ alone. tight.wires w below (clear_of_sound sound) alone
            (two x y a b cx.0 cy.0 ex ey ne (free_standing p) (free_standing q) cx.1.not_stuck cy.1.not_stuck)),
      )

  pub unlisted : (x : ℕ) → x < crosses_of m → stuck_cross f x ≡ None → set.contains d.crosses x ≡ false
  unlisted x b e = free_or (set.contains d.crosses x) (λ on. tight.crosses x b on e)

  pub free_cross : (x : ℕ) → IsSoundCrossOf m f x → IsStanding m f (ends_of m x).0 → IsStanding m f (ends_of m x).1 → IsFreeCross m d x
  free_cross x is tap line = record { itself = unlisted x is.0 is.1.not_stuck; tap = (free_standing tap).1; line = (free_standing line).1 }

  -- by its two ends in either order
  cross_between : (x a b : ℕ) → IsSoundCrossOf m f x → Ends (ends_of m x) a b → IsFreeWireOf m d a →
      IsFreeWireOf m d b → IsFreeCrossOf m d x
  cross_between x a b is (in_order s t) p q = (is.0, record { itself = unlisted x is.0 is.1.not_stuck; tap = rw s p.1; line = rw t q.1 })
  cross_between x a b is (turned s t) p q = (is.0, record { itself = unlisted x is.0 is.1.not_stuck; tap = rw s q.1; line = rw t p.1 })

  seated_free : (t : ℕ) → IsSeated m (IsStanding m f) (IsSoundCrossOf m f) t → IsSeated m (IsFreeWireOf m d) (IsFreeCrossOf m d) t
  seated_free t s = seated_also m (IsStanding m f) (IsFreeWireOf m d) (IsSoundCrossOf m f) (IsFreeCrossOf m d)
      (λ w is. free_standing is) cross_between t s

  pub free_table : (t : ℕ) → t < tables_of m → IsSoundTable m f t → IsSeated m (IsStanding m f) (IsSoundCrossOf m f) t → IsFreeTable m d t
  free_table t h sound s = record {
    itself = free_or (set.contains d.tables t) (λ on. tight.tables t h on (seated_free t s)
        (record { cells = sound.cells; register = sound.register }));
    pins = λ k b. (free_standing (s.pins k b)).1;
  }

  pub fair : HasHomes m → HasStandingParts m f → IsFair m d f
  fair homes parts = record {
    wires = λ w h s sound use_. free_home w s sound use_ (homes.home w h);
    crosses = λ x h s sound. unlisted x h sound.not_stuck;
    whole = λ x h s whole. unlisted x h (whole.crosses x h refl);
    tables = λ t h s sound. (free_table t h sound (parts.tables t h s sound)).itself;
  }
    where
      free_home : (w : ℕ) → IsServed m f (node_of m w) → IsSoundWire m f w → IsOfUse m f w →
          IsTap m (node_of m w) w ⊎ IsLine m (node_of m w) w → IsFreeWire d w
      free_home w s sound use_ (inl tap) = (free_standing (parts.taps (node_of m w) w s tap sound)).1
      free_home w s sound use_ (inr line) = (free_standing (parts.lines (node_of m w) w s line sound use_)).1

-- a clear wire that could stand is free where it is shorted to no free wire
module _ (m : Shape) (d : Defects) (f : Faults) (tight : IsTight m d f) where
  could_by : (w : ℕ) → w < wires_of m → IsClear m f w → IsAlone m f (IsFreeWireOf m d) w → CouldStand m d f w → IsFreeWire d w
  could_by w b clear alone (as_pin k h e) = subst (IsFreeWire d) (sym e)
      (tight.pins k h (subst (IsClear m f) e clear) (subst (IsAlone m f (IsFreeWireOf m d)) e alone))
  could_by w b clear alone (on_feet feet) = tight.wires w b clear alone feet

-- Where entries are taken off, what was free stays free.
module _ (m : Shape) (d : Defects) (f : Faults) (tight : IsTight m d f) (less : Defects)
    (off : IsTakenOff m d less) (covers : Covers m less f) where
  still_free : (w : ℕ) → w < wires_of m → IsFreeWire d w → IsFreeWire less w
  still_free w b free = free_or (set.contains less.wires w) (λ on. false≢true (sym free ∙ off.wires w b on))

  -- a listed wire that is taken off is clear, and shorted to no free wire
  alone_off : (w : ℕ) → w < wires_of m → set.contains d.wires w ≡ true → IsFreeWire less w → IsAlone m f (IsFreeWireOf m d) w
  alone_off w b on free u is j =
      let same : w ≡ u = covers.pairs w u b is.0 free (still_free u is.0 is.1) j in
      false≢true (sym (subst (IsFreeWire d) (sym same) is.1) ∙ on)

  pub wire_stays : (w : ℕ) → w < wires_of m → CouldStand m d f w → set.contains d.wires w ≡ true → set.contains less.wires w ≡ true
  wire_stays w b could on = listed_or (set.contains less.wires w) (λ free.
      false≢true (sym (could_by m d f tight w b (covers.wires w b free) (alone_off w b on free) could) ∙ on))

module _ (m : Shape) (numbered : IsNumbered m) (d : Defects) (f : Faults) (are : AreDefectsOf m d) (tight : IsTight m d f) where
  cross_stays : (less : Defects) → IsTakenOff m d less → Covers m less f → (x : ℕ) →
      set.contains d.crosses x ≡ true → set.contains less.crosses x ≡ true
  cross_stays less off covers x on =
      let b = are.crosses x on in
      let tap = still_free m d f tight less off covers (ends_of m x).0 (numbered.ends x _ _ b (in_order refl refl)) (are.taps x on) in
      let line = still_free m d f tight less off covers (ends_of m x).1 (numbered.ends x _ _ b (turned refl refl)) (are.lines x on) in
      listed_or (set.contains less.crosses x) (λ free.
      tight.crosses x b on (covers.crosses x b (record { itself = free; tap = tap; line = line })))

  table_stays : (less : Defects) → IsTakenOff m d less → Covers m less f → (t : ℕ) → IsSeated m (IsFreeWireOf m d) (IsFreeCrossOf m d) t →
      set.contains d.tables t ≡ true → set.contains less.tables t ≡ true
  table_stays less off covers t seated on =
      let b = are.tables t on in
      let pins = λ (k : ℕ) (lt : k < 7).
      still_free m d f tight less off covers (table_wire m t k) (numbered.tables t k b lt) (are.pins t k on lt) in
      listed_or (set.contains less.tables t) (λ free.
      let is : IsFreeTable m less t = record { itself = free; pins = pins } in
      tight.tables t b on seated (record { cells = λ a lt. covers.cells t a b lt is; register = covers.registers t b is }))

  pub least : IsLeast m d f
  least = record {
    wires = λ less off covers. wire_stays m d f tight less off covers;
    unclear = λ less off covers w b not_clear on. listed_or (set.contains less.wires w) (λ free. not_clear (covers.wires w b free));
    crosses = cross_stays;
    tables = table_stays;
  }

-- Faults of a machine short nothing beyond its wires.
module _ (m : Shape) (numbered : IsNumbered m) (f : Faults) (are : AreFaultsOf m f) where
  some_conducts : (o : Option Bool) → unwrap_or o false ≡ true → IsSome o
  some_conducts None e = absurd (false≢true e)
  some_conducts (Some b) e = refl

  shorts_below : (a b : ℕ) → Linked (net_of m f (λ _. false)) a b → a < wires_of m
  shorts_below a b (crossed x on at) = numbered.ends x a b (are.crosses x (some_conducts (stuck_cross f x) on)) at
  shorts_below a b (bridged p is at) = by at
    where
      by : Ends p a b → a < wires_of m
      by (in_order s t) = rw (sym s) (are.bridges p.0 p.1 is).0
      by (turned s t) = rw (sym t) (are.bridges p.0 p.1 is).1

  module _ (d : Defects) (covers : Covers m d f) (tight : IsTight m d f) (w : ℕ)
      (below : w < wires_of m) (clear : IsClear m f w) (could : CouldStand m d f w) where
    dec_free : (u : ℕ) → Dec (IsFreeWireOf m d u)
    dec_free u = by (dec_lt u (wires_of m)) (is_or (set.contains d.wires u))
      where
        by : Dec (u < wires_of m) → (set.contains d.wires u ≡ false) ⊎ (set.contains d.wires u ≡ true) → Dec (IsFreeWireOf m d u)
        by (no far) e = no (λ is. far is.0)
        by (yes b) (inl e) = yes (b, e)
        by (yes b) (inr e) = no (λ is. false≢true (sym is.1 ∙ e))

    the_only : (u : ℕ) → Shorted m f w u → IsFreeWireOf m d u → HasOneFree m d f w
    the_only u j is = record {
      wire = u;
      shorted = j;
      free = is;
      only = λ v k free. covers.pairs v u free.0 is.0 free.1 is.1 (Joined-trans (Joined-sym k) j);
    }

    pub one_free : HasOneFree m d f w
    one_free = by (dec_place (net_of m f (λ _. false)) (crosses_of m) (wires_of m)
        (λ x on. are.crosses x (some_conducts (stuck_cross f x) on)) shorts_below (IsFreeWireOf m d) dec_free w)
      where
        by : Dec ((u : ℕ) × Joined (net_of m f (λ _. false)) w u × IsFreeWireOf m d u) → HasOneFree m d f w
        by (yes s) = the_only s.0 s.1 s.2
        by (no none) = the_only w here (below, could_by m d f tight w below clear (λ u is j. none (u, j, is)) could)
