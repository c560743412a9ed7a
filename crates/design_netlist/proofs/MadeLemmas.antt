-- A design is well made when its parts are.
use Rattle.std.proofs.Common.{◌⊎◌, ℕ, suc, ◌-◌, ◌<◌, ◌≤◌, List, [], ◌∷◌, ◌++◌, length, get_or, map, sym, subst, inl, inr, arith, sum_by, refl, false}
use Rattle.design_netlist.proofs.Vocabulary.{flat_map, cases_lt, Cover, NetlistData, PortDef}
use Rattle.std.proofs.lemmas.List.{get_or-map, get_or_append_left, get_or-append_right, length-map, length-append}
use Rattle.design_netlist.specs.Vocabulary.{cover_at, no_cover, IsCoverOver, word, signal_at, cover_drive, latch_drive, cover_reads, latch_read, cover_characters, IsWellMade, AreWithin, AreLatchesBelow}
use Rattle.design_netlist.proofs.WordLemmas.{within_right}

module _ (count : ℕ) where
  within_append : (xs ys : List PortDef) → AreWithin count xs → AreWithin count ys → AreWithin count (xs ++ ys)
  within_append xs ys p q k lk = by (cases_lt k (length xs))
    where
      by : (k < length xs) ⊎ (length xs ≤ k) → signal_at (xs ++ ys) k < count
      by (inl l) = subst (λ (w : PortDef). w.signal < count) (sym (get_or_append_left xs ys (word 0 0) k l)) (p k l)
      by (inr g) = let l : k - length xs < length ys = omega (arith, length-append xs ys) in subst (λ (w : PortDef). w.signal < count) (sym (get_or-append_right xs ys (length xs) k (word 0 0) refl g)) (q (k - length xs) l)

  within_left : (xs ys : List PortDef) → AreWithin count (xs ++ ys) → AreWithin count xs
  within_left xs ys h k lk = subst (λ (w : PortDef). w.signal < count) (get_or_append_left xs ys (word 0 0) k lk) (h k (omega (arith, length-append xs ys)))

  within_map : {X : Type 0} (f : X → PortDef) (d : X) (xs : List X) → ((k : ℕ) → k < length xs → (f (get_or xs k d)).signal < count) → AreWithin count (map f xs)
  within_map f d xs h k lk = let l : k < length xs = omega (arith, length-map xs f) in subst (λ (w : PortDef). w.signal < count) (sym (get_or-map f xs k d (word 0 0) l)) (h k l)

  of_map : {X : Type 0} (f : X → PortDef) (d : X) (xs : List X) → AreWithin count (map f xs) → (k : ℕ) → k < length xs → (f (get_or xs k d)).signal < count
  of_map f d xs h k lk = subst (λ (w : PortDef). w.signal < count) (get_or-map f xs k d (word 0 0) lk) (h k (omega (arith, length-map xs f)))

  within_inputs : (covers : List Cover) → ((i : ℕ) → i < length covers → IsCoverOver (cover_at covers i) count) → AreWithin count (flat_map cover_reads covers)
  within_inputs [] h = λ k lk. absurd (let no : ⊥ = omega arith in no)
  within_inputs (c ∷ cs) h =
      within_append (cover_reads c) (flat_map cover_reads cs) (within_map (word c.line) 0 c.ins (h 0 (omega arith)).ins) (within_inputs cs (λ i li. h (suc i) (omega arith)))

module _ (d : NetlistData) where
  pub inputs_of : IsWellMade d → AreWithin (length d.names) d.inputs
  inputs_of made = within_left (length d.names) d.inputs (map cover_drive d.covers) (within_left (length d.names) (d.inputs ++ map cover_drive d.covers) (map latch_drive d.latches) made.drives)

  pub outputs_of : IsWellMade d → AreWithin (length d.names) d.outputs
  outputs_of made = within_left (length d.names) d.outputs (flat_map cover_reads d.covers) (within_left (length d.names) (d.outputs ++ flat_map cover_reads d.covers) (map latch_read d.latches) made.reads)

  pub latches_of : IsWellMade d → AreLatchesBelow (length d.names) d.latches
  latches_of made = λ k lk. (
    of_map (length d.names) latch_drive (record { from = 0; out = 0; init = false; line = 0 }) d.latches (within_right (length d.names) (d.inputs ++ map cover_drive d.covers) (map latch_drive d.latches) made.drives) k lk,
    of_map (length d.names) latch_read (record { from = 0; out = 0; init = false; line = 0 }) d.latches (within_right (length d.names) (d.outputs ++ flat_map cover_reads d.covers) (map latch_read d.latches) made.reads) k lk,
  )

  pub made_of : ((i : ℕ) → i < length d.covers → IsCoverOver (cover_at d.covers i) (length d.names)) → AreWithin (length d.names) d.inputs → AreWithin (length d.names) d.outputs → AreLatchesBelow (length d.names) d.latches → length d.names ≤ 65535 → length d.outputs ≤ 16777216 → sum_by cover_characters d.covers ≤ 16777216 → IsWellMade d
  made_of covers inputs outputs latches names few characters = record {
    covers = covers;
    drives = within_append (length d.names) (d.inputs ++ map cover_drive d.covers) (map latch_drive d.latches) (within_append (length d.names) d.inputs (map cover_drive d.covers) inputs (within_map (length d.names) cover_drive no_cover d.covers (λ i li. (covers i li).out))) (within_map (length d.names) latch_drive (record { from = 0; out = 0; init = false; line = 0 }) d.latches (λ k lk. (latches k lk).0));
    reads = within_append (length d.names) (d.outputs ++ flat_map cover_reads d.covers) (map latch_read d.latches) (within_append (length d.names) d.outputs (flat_map cover_reads d.covers) outputs (within_inputs (length d.names) d.covers covers)) (within_map (length d.names) latch_read (record { from = 0; out = 0; init = false; line = 0 }) d.latches (λ k lk. (latches k lk).1));
    names = names;
    outputs = few;
    characters = characters;
  }
