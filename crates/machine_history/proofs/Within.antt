-- What a list covers is left alone, of faults of the machine.
use Rattle.std.proofs.Common.{◌≡◌, ◌⊎◌, ℕ, ◌<◌, ◌≤◌, Bool, true, false, Some, None, Option, ◌++◌, refl, sym, subst, arith, inl, inr, unwrap_or, IsSome}
use Rattle.machine_history.proofs.Vocabulary.{false≢true, cases_lt, All-contains, Shape, in_order, turned, pin_wire, wires_of, crosses_of}
use Rattle.machine_history.proofs.Vocabulary.{tables_of, first_below, is_closed, setting_of, on_below, true_some, LeavesAlone}
use Rattle.machine_meaning.specs.Vocabulary.{Faults, AreFaultsOf, stuck_wire, stuck_cross, Linked, here, then, crossed, bridged, net_of, Shorted, IsClear, Defects, Covers, IsFreeWire}
use Rattle.machine_meaning.proofs.JoinedLemmas.{Joined-sym}
use Rattle.machine_image.specs.Vocabulary.{ImageValue, IsImage, IsFreeImage, Uses, at_pin, at_tap, at_line, at_table}

-- no fault is beyond the machine's wires
module _ (m : Shape) (f : Faults) (faults : AreFaultsOf m f) where
  cross_below : (x : ℕ) (o : Option Bool) → stuck_cross f x ≡ o → unwrap_or o false ≡ true → x < crosses_of m
  cross_below x None e on = absurd (false≢true on)
  cross_below x (Some b) e on = faults.crosses x (rw e refl)

  linked_below : (a b : ℕ) → Linked (net_of m f (λ _. false)) a b → a < wires_of m
  linked_below a b (crossed x on at) = first_below m x a b (cross_below x (stuck_cross f x) refl on) at
  linked_below a b (bridged p is (in_order s t)) = subst (λ w. w < wires_of m) s (faults.bridges p.0 p.1 is).0
  linked_below a b (bridged p is (turned s t)) = subst (λ w. w < wires_of m) t (faults.bridges p.0 p.1 is).1

  no_link : (w b c : ℕ) → wires_of m ≤ w → w ≡ b → Linked (net_of m f (λ _. false)) b c → w ≡ c
  no_link w b c out same l = absurd (let inside = linked_below b c l in let no : ⊥ = omega (arith, out, same, inside) in no)

  pub alone_beyond : {w u : ℕ} → wires_of m ≤ w → Shorted m f w u → w ≡ u
  alone_beyond out here = refl
  alone_beyond out (then j l) = no_link _ _ _ out (alone_beyond out j) l

  pub clear_beyond : (w : ℕ) → wires_of m ≤ w → IsClear m f w
  clear_beyond w out u s = subst (λ v. stuck_wire f v ≡ None) (alone_beyond out s) (by (stuck_wire f w) refl)
    where
      by : (o : Option Bool) → stuck_wire f w ≡ o → stuck_wire f w ≡ None
      by None e = e
      by (Some b) e = absurd (let inside = faults.wires w (rw e refl) in let no : ⊥ = omega (arith, out, inside) in no)

module _ (d : Defects) (i : ImageValue) (f : Faults) (faults : AreFaultsOf i.config.shape f) (is : IsImage i) (free : IsFreeImage d i) (covers : Covers i.config.shape d f) where
  used_free : (w : ℕ) → Uses i w → IsFreeWire d w
  used_free w (at_pin k has e) = rw e (All-contains (λ q. IsFreeWire d (pin_wire i.config.shape q)) (i.inputs ++ i.outputs) k free.pins has)
  used_free w (at_tap x on e) = rw e (free.crosses x on).tap
  used_free w (at_line x on e) = rw e (free.crosses x on).line
  used_free w (at_table t k on h e) = rw e ((free.tables t on).pins k h)

  table_within : (t : ℕ) → IsSome (setting_of i.config t) → t < tables_of i.config.shape
  table_within t on = on_below i.config is.config t (true_some (setting_of i.config t) on)

  not_open : (x : ℕ) → is_closed i.config x ≡ true → stuck_cross f x ≡ Some false → ⊥
  not_open x on e = let sound : stuck_cross f x ≡ None = covers.crosses x (is.config.crosses x on) (free.crosses x on) in cc

  clear : (w : ℕ) → Uses i w → (w < wires_of i.config.shape) ⊎ (wires_of i.config.shape ≤ w) → IsClear i.config.shape f w
  clear w used (inl h) = covers.wires w h (used_free w used)
  clear w used (inr out) = clear_beyond i.config.shape f faults w out

  apart : (w u : ℕ) → Uses i w → Uses i u → Shorted i.config.shape f w u → (w < wires_of i.config.shape) ⊎ (wires_of i.config.shape ≤ w) → (u < wires_of i.config.shape) ⊎ (wires_of i.config.shape ≤ u) → w ≡ u
  apart w u used on s (inl h) (inl l) = covers.pairs w u h l (used_free w used) (used_free u on) s
  apart w u used on s (inl h) (inr out) = sym (alone_beyond i.config.shape f faults out (Joined-sym s))
  apart w u used on s (inr out) at = alone_beyond i.config.shape f faults out s

  pub within_alone : LeavesAlone f i i
  within_alone = record {
    crosses = not_open;
    clear = λ w used. clear w used (cases_lt w (wires_of i.config.shape));
    apart = λ w u used on s. apart w u used on s (cases_lt w (wires_of i.config.shape)) (cases_lt u (wires_of i.config.shape));
    cells = λ t a on h. covers.cells t a (table_within t on) h (free.tables t on);
    registers = λ t s e latched. let on : IsSome (setting_of i.config t) = rw e refl in covers.registers t (table_within t on) (free.tables t on);
  }
