-- What pins read, where nets are laid on free parts.
use Rattle.std.proofs.Common.{◌≡◌, ◌⊎◌, ℕ, ◌+◌, ◌<◌, Bool, true, false, Some, None, Option, List, length, get_or, refl, sym, ap, ◌∙◌, subst, inl, inr, arith}
use Rattle.place_route.proofs.Vocabulary.{false≢true, cases_Bool, drive_on, drive_pin, drive_low, Source, Input, Table, Network, IsNetwork}
use Rattle.place_route.proofs.Vocabulary.{IsSourceOf, bit_of, Plan, net_of, place_of, places, number_of, driver_of, drives}
use Rattle.std.proofs.lemmas.List.{get_or_append_left, get_or-append-add, length-append, length-map}
use Rattle.machine_shape.specs.Vocabulary.{Ends, in_order, turned, ends_of, pin_wire, table_wire, pins_of, tables_of, crosses_of, IsNumbered}
use Rattle.machine_meaning.specs.Vocabulary.{Faults, Joined, here, plain_net, Outputs, Pulls, by_pin, by_table, IsHeld, IsPulled, IsValue, held_0, held_1, pulled, released, Defects, IsFreeWire, IsFreeCross, IsFreeTable, Covers}
use Rattle.machine_meaning.proofs.Values.{IsValue-along}
use Rattle.machine_meaning.proofs.Covered.{none_stuck, joined_plainly}
use Rattle.machine_config.specs.Vocabulary.{Configuration, is_closed, setting_of, circuit_of}
use Rattle.machine_image.proofs.FreeWires.{IsGood, IsOff, joined_too, keeps}
use Rattle.place_route.specs.Layouts.{reader_of, IsLaidOut}

-- sources of one net are one
pub net_of-same : (n : Network) (s r : Source) → IsSourceOf n s → IsSourceOf n r → net_of n s ≡ net_of n r → s ≡ r
net_of-same n (Input k) (Input l) hs hr e = ap Input e
net_of-same n (Input k) (Table l) hs hr e = absurd (omega arith)
net_of-same n (Table k) (Input l) hs hr e = absurd (omega arith)
net_of-same n (Table k) (Table l) hs hr e = ap Table (omega arith)

-- what the network's tables give
abbrev pub given : Plan → Outputs → ℕ → Bool
given p o j = o (place_of p j)

module _ (d : Defects) (n : Network) (p : Plan) (g : Configuration) (has : ℕ → ℕ → Type 0) (f : Faults) (numbered : IsNumbered g.shape) (formed : IsNetwork n) (laid : IsLaidOut d n p g has) (covers : Covers g.shape d f) where
  free : (x : ℕ) → is_closed g x ≡ true → (x < crosses_of g.shape) × IsFreeCross g.shape d x
  free = laid.set.crosses

  within_net : (k : ℕ) (x a b : ℕ) → is_closed g x ≡ true → Ends (ends_of g.shape x) a b → has k a → has k b
  within_net k x a b on (in_order s t) h =
      let one = laid.wired.one_net x on in
      subst (λ l. has l b) (laid.wired.apart _ _ _ (subst (has one.0) s one.1) h) (subst (has one.0) t one.2)
  within_net k x a b on (turned s t) h =
      let one = laid.wired.one_net x on in
      subst (λ l. has l b) (laid.wired.apart _ _ _ (subst (has one.0) t one.2) h) (subst (has one.0) s one.1)

  -- a wire of no net is the end of no closed crosspoint
  alone : (w : ℕ) → ((l : ℕ) → ¬ has l w) → (x a b : ℕ) → is_closed g x ≡ true → Ends (ends_of g.shape x) a b → w ≡ a → w ≡ b
  alone w none x a b on (in_order s t) e = let one = laid.wired.one_net x on in absurd (none one.0 (subst (has one.0) (s ∙ sym e) one.1))
  alone w none x a b on (turned s t) e = let one = laid.wired.one_net x on in absurd (none one.0 (subst (has one.0) (t ∙ sym e) one.2))

  placed : (j : ℕ) → j < length n.tables → j < length (places p)
  placed j h = let e = laid.plan.tables in let l : length (places p) ≡ length p.tables = length-map p.tables number_of in omega arith

  -- the plan's tables and pins are free
  pub table_on : (j : ℕ) → j < length n.tables → IsFreeTable g.shape d (place_of p j)
  table_on j h = laid.plan.tables_free j 0 (placed j h)

  pub table_within : (j : ℕ) → j < length n.tables → place_of p j < tables_of g.shape
  table_within j h = laid.plan.tables_within j 0 (placed j h)

  input_free : (i : ℕ) → i < length p.inputs → IsFreeWire d (pin_wire g.shape (get_or p.inputs i 0))
  input_free i h = subst (λ k. IsFreeWire d (pin_wire g.shape k)) (get_or_append_left p.inputs p.outputs 0 i h) (laid.plan.pins_free i 0 (rw length-append (omega arith)))

  input_within : (i : ℕ) → i < length p.inputs → get_or p.inputs i 0 < pins_of g.shape
  input_within i h = subst (λ k. k < pins_of g.shape) (get_or_append_left p.inputs p.outputs 0 i h) (laid.plan.pins_within i 0 (rw length-append (omega arith)))

  pub output_within : (o : ℕ) → o < length p.outputs → get_or p.outputs o 0 < pins_of g.shape
  output_within o h = subst (λ k. k < pins_of g.shape) (get_or-append-add p.inputs p.outputs o 0) (laid.plan.pins_within (length p.inputs + o) 0 (rw length-append (omega arith)))

  pub driver_good : (s : Source) → IsSourceOf n s → IsGood g.shape d (driver_of g.shape p s)
  driver_good (Input k) h =
      let i : k < length p.inputs = let e = laid.plan.inputs in omega arith in
      record { within = numbered.pins _ (input_within k i); free = input_free k i }
  driver_good (Table j) h = record { within = numbered.tables _ 6 (table_within j h) (omega arith); free = (table_on j h).pins 6 (omega arith) }

  pub pin_good : (j k : ℕ) → j < length n.tables → k < 7 → IsGood g.shape d (reader_of g.shape p j k)
  pin_good j k h l = record { within = numbered.tables _ k (table_within j h) l; free = (table_on j h).pins k l }

  module _ (vector : List Bool) (o : Outputs) where
    -- a place is the driver of a source whose bit is 0
    record IsLow (place : ℕ) : Type 0 where
      source : Source
      of : IsSourceOf n source
      at : driver_of g.shape p source ≡ place
      low : bit_of vector (given p o) source ≡ false

    pulls_low : {place : ℕ} → IsOff g o → Pulls (circuit_of f g) (drive_on (pins_of g.shape) p.inputs vector) o place → IsLow place
    pulls_low off (by_pin k inside e at) =
        let r = drive_low (pins_of g.shape) p.inputs vector k e in
        record { source = Input r.0; of = (let e = laid.plan.inputs in let h = r.1 in omega arith); at = ap (pin_wire g.shape) r.2 ∙ at; low = r.3 }
    pulls_low {place} off (by_table t e at) = by (setting_of g t) refl
      where
        by : (s : Option _) → setting_of g t ≡ s → IsLow place
        by None e' = absurd (false≢true (sym e ∙ off t e'))
        by (Some s) e' =
            let r = laid.set.no_others t (rw e' refl) in
            record { source = Table r.0; of = r.1; at = ap (λ t. table_wire g.shape t 6) r.2 ∙ at; low = ap o r.2 ∙ e }

    -- a good wire is joined to no stuck one
    not_held : {w : ℕ} {b : Bool} → IsGood g.shape d w → IsHeld (circuit_of f g) w b → ⊥
    not_held good h = cc (none_stuck g.shape d f (is_closed g) covers numbered.ends free good.within good.free h.joined, h.stuck)

    -- what pulls a good wire is the driver of a source, and joined to it by closed crosspoints alone
    pulled_plainly : {w : ℕ} → IsOff g o → IsGood g.shape d w → IsPulled (circuit_of f g) (drive_on (pins_of g.shape) p.inputs vector) o w → (s : Source) × IsSourceOf n s × (bit_of vector (given p o) s ≡ false) × Joined (plain_net g.shape (is_closed g)) w (driver_of g.shape p s)
    pulled_plainly {w} off good h =
        let low = pulls_low off h.pulls in
        let other = driver_good low.source low.of in
        (low.source, low.of, low.low, joined_plainly g.shape d f (is_closed g) covers numbered.ends free good.within other.within good.free other.free (subst (Joined _ w) (sym low.at) h.joined))

    -- a source whose bit is 0 pulls its driver
    low_pulls : (s : Source) → IsSourceOf n s → bit_of vector (given p o) s ≡ false → Pulls (circuit_of f g) (drive_on (pins_of g.shape) p.inputs vector) o (driver_of g.shape p s)
    low_pulls (Input k) h e =
        let i : k < length p.inputs = let e = laid.plan.inputs in omega arith in
        by_pin (get_or p.inputs k 0) (input_within k i) (drive_pin (pins_of g.shape) p.inputs vector k i (input_within k i) (λ j l e. laid.wired.apart j k _ (laid.wired.owned j _ (drives (Input j) (let e = laid.plan.inputs in omega arith))) (subst (λ x. has k (pin_wire g.shape x)) (sym e) (laid.wired.owned k _ (drives (Input k) h)))) ∙ e) refl
    low_pulls (Table j) h e = by_table (place_of p j) e refl

    driver_value : (s : Source) (b : Bool) → IsSourceOf n s → IsOff g o → IsValue (circuit_of f g) (drive_on (pins_of g.shape) p.inputs vector) o (driver_of g.shape p s) b → b ≡ bit_of vector (given p o) s
    driver_value s b of off (held_0 h) = absurd (not_held (driver_good s of) h)
    driver_value s b of off (held_1 _ h) = absurd (not_held (driver_good s of) h)
    driver_value s b of off (pulled _ _ h) =
        let r = pulled_plainly off (driver_good s of) h in
        let mine = laid.wired.owned _ _ (drives s of) in
        let both = keeps g.shape (is_closed g) (has (net_of n s)) (within_net (net_of n s)) r.3 mine in
        let same = net_of-same n s r.0 of r.1 (laid.wired.apart _ _ _ both (laid.wired.owned _ _ (drives r.0 r.1))) in
        sym (ap (bit_of vector (given p o)) same ∙ r.2)
    driver_value s b of off (released _ _ never) = by (cases_Bool (bit_of vector (given p o) s))
      where
        by : (bit_of vector (given p o) s ≡ true) ⊎ (bit_of vector (given p o) s ≡ false) → true ≡ bit_of vector (given p o) s
        by (inl e) = sym e
        by (inr e) = absurd (never (record { place = driver_of g.shape p s; joined = here; pulls = low_pulls s of e }))

    -- what is joined to a source's driver by closed crosspoints has the source's bit
    pub read_value : (s : Source) (w : ℕ) (b : Bool) → IsSourceOf n s → IsOff g o → Joined (plain_net g.shape (is_closed g)) (driver_of g.shape p s) w → IsValue (circuit_of f g) (drive_on (pins_of g.shape) p.inputs vector) o w b → b ≡ bit_of vector (given p o) s
    read_value s w b of off j v = driver_value s b of off (IsValue-along (joined_too g.shape (is_closed g) d f covers free j) v)

    -- a good wire of no net is 1
    pub idle_value : (w : ℕ) (b : Bool) → IsGood g.shape d w → ((l : ℕ) → ¬ has l w) → IsOff g o → IsValue (circuit_of f g) (drive_on (pins_of g.shape) p.inputs vector) o w b → b ≡ true
    idle_value w b good none off (held_0 h) = absurd (not_held good h)
    idle_value w b good none off (held_1 _ h) = refl
    idle_value w b good none off (pulled _ _ h) =
        let r = pulled_plainly off good h in
        let at = keeps g.shape (is_closed g) (λ v. w ≡ v) (alone w none) r.3 refl in
        absurd (none _ (subst (has (net_of n r.0)) (sym at) (laid.wired.owned _ _ (drives r.0 r.1))))
    idle_value w b good none off (released _ _ _) = refl
