-- Where tables and pins stand: at one place each, and no two at one.
use Rattle.std.proofs.Common.{◌≡◌, ◌≢◌, ◌⊎◌, ℕ, zero, suc, ◌<◌, ◌≤◌, Bool, true, false, cond, not, List, [], ◌∷◌, ◌++◌, length, get_or, All, refl, sym, ap, ◌∙◌, subst, inl, inr, arith, IsSome, None, Option, ◌↔◌}
use Rattle.std.specs.List.{AllPairs, Contains, filter}
use Rattle.std.specs.FinSet as set
use Rattle.place_repair.proofs.Vocabulary.{false≢true, cases_eq, get_or_default, All-filter, filter_passes, Shape, pin_wire, table_wire}
use Rattle.place_repair.proofs.Vocabulary.{pins_of, tables_of, Defects, IsFreeTable, is_free_table, Setting, setting_of, ImageValue}
use Rattle.place_repair.proofs.Vocabulary.{IsImage, Uses, at_pin, nth_of, IsFreePin, different_at, same_place, Moves, Seats, ArePlaces}
use Rattle.std.proofs.lemmas.List.Kept.{AllPairs-filter}
use Rattle.place_repair.specs.Plans.{is_gone_pin, AreSeats, SitsAt, stays, goes, TableSits, PinSits}
use Rattle.place_repair.proofs.Placed.{on_within}

-- what is known of those that go and of the places for them: `old` are all, of which some go
record IsSound (IsFree old : ℕ → Type 0) (moves : Moves) : Type 0 where
  gone_unfree : (k : ℕ) → k < length moves.gone → ¬ IsFree (nth_of moves.gone k)
  gone_apart : (k l : ℕ) → k < length moves.gone → l < length moves.gone → nth_of moves.gone k ≡ nth_of moves.gone l → k ≡ l
  spare_up : AllPairs (λ a b. a < b) moves.spare
  spare_other : (k t : ℕ) → k < length moves.spare → old t → nth_of moves.spare k ≢ t

module _ (IsFree old : ℕ → Type 0) (moves : Moves) (sound : IsSound IsFree old moves) where
  one_place : (t u v : ℕ) → SitsAt IsFree moves t u → SitsAt IsFree moves t v → u ≡ v
  one_place t u v (stays f e) (stays g h) = sym e ∙ h
  one_place t u v (stays f e) (goes k n s) = absurd (sound.gone_unfree k n.0 (subst IsFree (sym n.1) f))
  one_place t u v (goes k n s) (stays f e) = absurd (sound.gone_unfree k n.0 (subst IsFree (sym n.1) f))
  one_place t u v (goes k n s) (goes l m r) = sym s.1 ∙ ap (nth_of moves.spare) (sound.gone_apart k l n.0 m.0 (n.1 ∙ sym m.1)) ∙ r.1

  one_owner : (t r u : ℕ) → old t → old r → SitsAt IsFree moves t u → SitsAt IsFree moves r u → t ≡ r
  one_owner t r u ot or (stays f e) (stays g h) = e ∙ sym h
  one_owner t r u ot or (stays f e) (goes k n s) = absurd (sound.spare_other k t s.0 ot (s.1 ∙ sym e))
  one_owner t r u ot or (goes k n s) (stays g h) = absurd (sound.spare_other k r s.0 or (s.1 ∙ sym h))
  one_owner t r u ot or (goes k n s) (goes l m q) = sym n.1 ∙ ap (nth_of moves.gone) (same_place moves.spare k l u sound.spare_up s q) ∙ m.1

-- ---- of tables and of pins

pub gone_unfree_pin : (m : Shape) (d : Defects) (p : ℕ) → is_gone_pin m d p ≡ true → ¬ IsFreePin m d p
gone_unfree_pin m d p e f = by (set.contains d.wires (pin_wire m p)) e f
  where
    by : (b : Bool) → not (not b) ≡ true → b ≡ false → ⊥
    by true e f = false≢true (sym f)
    by false e f = false≢true e

pub not_gone_free : (m : Shape) (d : Defects) (p : ℕ) → is_gone_pin m d p ≡ false → IsFreePin m d p
not_gone_free m d p e = by (set.contains d.wires (pin_wire m p)) e
  where
    by : (b : Bool) → not (not b) ≡ false → b ≡ false
    by true e = absurd (false≢true (sym e))
    by false e = refl

pub in_filter : (test : ℕ → Bool) (xs : List ℕ) (x : ℕ) → Contains xs x → test x ≡ true → Contains (filter test xs) x
in_filter test [] x has e = absurd (let no : ⊥ = omega (arith, has.1) in no)
in_filter test (y ∷ ys) x (zero, l, same) e = rw (subst (λ z. test z ≡ true) (sym same) e) (0, omega arith, same)
in_filter test (y ∷ ys) x (suc i, l, same) e = by (test y) (in_filter test ys x (i, omega (arith, l), same) e)
  where
    by : (b : Bool) → Contains (filter test ys) x → Contains (cond b (y ∷ filter test ys) (filter test ys)) x
    by true has = (suc has.0, omega (arith, has.1), has.2)
    by false has = has

some_none : {o : Option Setting} → IsSome o → o ≡ None → ⊥
some_none is e = cc

-- what stands at a place of a list is among those that go, or not
pub search_gone : (xs : List ℕ) (t : ℕ) → ((k : ℕ) × (k < length xs) × (nth_of xs k ≡ t)) ⊎ ((k : ℕ) → k < length xs → nth_of xs k ≢ t)
search_gone [] t = inr (λ k l e. absurd (let no : ⊥ = omega (arith, l) in no))
search_gone (x ∷ xs) t = by (cases_eq x t) (search_gone xs t)
  where
    rest : x ≢ t → ((k : ℕ) → k < length xs → nth_of xs k ≢ t) → (k : ℕ) → k < length (x ∷ xs) → nth_of (x ∷ xs) k ≢ t
    rest ne others zero l e = ne e
    rest ne others (suc k) l e = others k (omega (arith, l)) e

    by : (x ≡ t) ⊎ (x ≢ t) → ((k : ℕ) × (k < length xs) × (nth_of xs k ≡ t)) ⊎ ((k : ℕ) → k < length xs → nth_of xs k ≢ t) → ((k : ℕ) × (k < length (x ∷ xs)) × (nth_of (x ∷ xs) k ≡ t)) ⊎ ((k : ℕ) → k < length (x ∷ xs) → nth_of (x ∷ xs) k ≢ t)
    by (inl e) r = inl (0, omega arith, e)
    by (inr ne) (inl r) = inl (suc r.0, omega (arith, r.1), r.2)
    by (inr ne) (inr others) = inr (rest ne others)

module _ (d : Defects) (i : ImageValue) (is : IsImage i) (s : Seats) (are : AreSeats d i s) where
  abbrev IsOldTable : ℕ → Type 0
  IsOldTable t = IsSome (setting_of i.config t)

  abbrev IsOldPin : ℕ → Type 0
  IsOldPin p = Contains (i.inputs ++ i.outputs) p

  tables_sound : IsSound (IsFreeTable i.config.shape d) IsOldTable s.tables
  tables_sound = record {
    gone_unfree = λ k l. (are.tables_gone.only k 0 l).1;
    gone_apart = λ k l h g e. same_place s.tables.gone k l (nth_of s.tables.gone l) are.tables_gone.ascending (h, e) (g, refl);
    spare_up = are.tables_spare.ascending;
    spare_other = λ k t l on e. some_none on (subst (λ u. setting_of i.config u ≡ None) e (are.tables_spare.only k 0 l).off);
  }

  pub pin_apart : AllPairs (λ a b. a ≢ b) s.pins.gone
  pin_apart = subst (AllPairs (λ a b. a ≢ b)) (sym are.pins_gone) (AllPairs-filter (λ a b. a ≢ b) (is_gone_pin i.config.shape d) (i.inputs ++ i.outputs) is.apart)

  pub pin_within : All (λ p. p < pins_of i.config.shape) s.pins.gone
  pin_within = subst (All (λ p. p < pins_of i.config.shape)) (sym are.pins_gone) (All-filter (is_gone_pin i.config.shape d) (λ p. p < pins_of i.config.shape) (i.inputs ++ i.outputs) is.within)

  pub table_within : All (λ t. t < tables_of i.config.shape) s.tables.gone
  table_within k x l = on_within i.config is.config (get_or s.tables.gone k x) (are.tables_gone.only k x l).0

  pub table_apart : AllPairs (λ a b. a ≢ b) s.tables.gone
  table_apart k l x h g e = (let up = are.tables_gone.ascending k l x h g in absurd (let no : ⊥ = omega (arith, up, e) in no))

  pin_unfree : All (λ p. is_gone_pin i.config.shape d p ≡ true) s.pins.gone
  pin_unfree = subst (All (λ p. is_gone_pin i.config.shape d p ≡ true)) (sym are.pins_gone) (filter_passes (is_gone_pin i.config.shape d) (i.inputs ++ i.outputs))

  pins_sound : IsSound (IsFreePin i.config.shape d) IsOldPin s.pins
  pins_sound = record {
    gone_unfree = λ k l. gone_unfree_pin i.config.shape d (nth_of s.pins.gone k) (pin_unfree k 0 l);
    gone_apart = λ k l h g e. different_at s.pins.gone pin_apart k l h g e;
    spare_up = are.pins_spare.ascending;
    spare_other = λ k p l has e. (are.pins_spare.only k 0 l).unused (at_pin p has (ap (pin_wire i.config.shape) e));
  }

  pub one_table_place : (t u v : ℕ) → TableSits d i s t u → TableSits d i s t v → u ≡ v
  one_table_place = one_place (IsFreeTable i.config.shape d) IsOldTable s.tables tables_sound

  pub one_table_owner : (t r u : ℕ) → IsSome (setting_of i.config t) → IsSome (setting_of i.config r) → TableSits d i s t u → TableSits d i s r u → t ≡ r
  one_table_owner = one_owner (IsFreeTable i.config.shape d) IsOldTable s.tables tables_sound

  pub one_pin_place : (t u v : ℕ) → PinSits d i s t u → PinSits d i s t v → u ≡ v
  one_pin_place = one_place (IsFreePin i.config.shape d) IsOldPin s.pins pins_sound

  pub one_pin_owner : (p q u : ℕ) → Contains (i.inputs ++ i.outputs) p → Contains (i.inputs ++ i.outputs) q → PinSits d i s p u → PinSits d i s q u → p ≡ q
  one_pin_owner = one_owner (IsFreePin i.config.shape d) IsOldPin s.pins pins_sound

  -- where they stand is free and on the machine
  pub table_place_free : (t u : ℕ) → t < tables_of i.config.shape → TableSits d i s t u → (u < tables_of i.config.shape) × IsFreeTable i.config.shape d u
  table_place_free t u l (stays f e) = (subst (λ z. z < tables_of i.config.shape) e l, subst (IsFreeTable i.config.shape d) e f)
  table_place_free t u l (goes k n r) = let spare = are.tables_spare.only k 0 r.0 in (subst (λ z. z < tables_of i.config.shape) r.1 spare.within, subst (IsFreeTable i.config.shape d) r.1 spare.free)

  pub pin_place_free : (p q : ℕ) → p < pins_of i.config.shape → PinSits d i s p q → (q < pins_of i.config.shape) × IsFreePin i.config.shape d q
  pin_place_free p q l (stays f e) = (subst (λ z. z < pins_of i.config.shape) e l, subst (IsFreePin i.config.shape d) e f)
  pin_place_free p q l (goes k n r) = let spare = are.pins_spare.only k 0 r.0 in (subst (λ z. z < pins_of i.config.shape) r.1 spare.within, subst (IsFreePin i.config.shape d) r.1 spare.free)

  -- what stands elsewhere than before stands where nothing is used
  pub table_stays_or : (t u : ℕ) → TableSits d i s t u → (t ≡ u) ⊎ ((k : ℕ) → k < 7 → ¬ Uses i (table_wire i.config.shape u k))
  table_stays_or t u (stays f e) = inl e
  table_stays_or t u (goes k n r) = inr (λ j l used. (are.tables_spare.only k 0 r.0).unused j l (subst (λ z. Uses i (table_wire i.config.shape z j)) (sym r.1) used))

  pub pin_stays_or : (p q : ℕ) → PinSits d i s p q → (p ≡ q) ⊎ (¬ Uses i (pin_wire i.config.shape q))
  pin_stays_or p q (stays f e) = inl e
  pin_stays_or p q (goes k n r) = inr (λ used. (are.pins_spare.only k 0 r.0).unused (subst (λ z. Uses i (pin_wire i.config.shape z)) (sym r.1) used))

  pub free_table_stays : (t u : ℕ) → IsFreeTable i.config.shape d t → TableSits d i s t u → t ≡ u
  free_table_stays t u f (stays g e) = e
  free_table_stays t u f (goes k n r) = absurd ((are.tables_gone.only k 0 n.0).1 (subst (IsFreeTable i.config.shape d) (sym n.1) f))

  pub free_pin_stays : (p q : ℕ) → IsFreePin i.config.shape d p → PinSits d i s p q → p ≡ q
  free_pin_stays p q f (stays g e) = e
  free_pin_stays p q f (goes k n r) = absurd (gone_unfree_pin i.config.shape d (nth_of s.pins.gone k) (pin_unfree k 0 n.0) (subst (IsFreePin i.config.shape d) (sym n.1) f))

  -- ---- by the list of places

  free_or_not : (b : Bool) {P : Type 0} → ((b ≡ true) → P) → (P → b ≡ true) → ¬ ¬ P → P
  free_or_not true to from nn = to refl
  free_or_not false to from nn = absurd (nn (λ p. false≢true (from p)))

  pub table_sits_at : (tests : (t : ℕ) → (is_free_table i.config.shape d t ≡ true) ↔ IsFreeTable i.config.shape d t) (places : List ℕ) → ArePlaces (tables_of i.config.shape) s.tables places → length s.tables.gone ≤ length s.tables.spare →
      (t : ℕ) → IsSome (setting_of i.config t) → t < tables_of i.config.shape → TableSits d i s t (nth_of places t)
  table_sits_at tests places at few t on within = by (search_gone s.tables.gone t)
    where
      by : ((k : ℕ) × (k < length s.tables.gone) × (nth_of s.tables.gone k ≡ t)) ⊎ ((k : ℕ) → k < length s.tables.gone → nth_of s.tables.gone k ≢ t) → TableSits d i s t (nth_of places t)
      by (inl r) = goes r.0 (r.1, r.2) ((omega (arith, r.1, few)), sym (at.put r.0 r.1) ∙ ap (nth_of places) r.2)
      by (inr others) = stays
          (free_or_not (is_free_table i.config.shape d t) (tests t).0 (tests t).1 (λ unfree. let r = are.tables_gone.each t (on, unfree) in others r.0 r.1 (get_or_default s.tables.gone r.0 0 t r.1 ∙ r.2)))
          (sym (at.others t within others))

  pub pin_sits_at : (places : List ℕ) → ArePlaces (pins_of i.config.shape) s.pins places → length s.pins.gone ≤ length s.pins.spare →
      (p : ℕ) → Contains (i.inputs ++ i.outputs) p → p < pins_of i.config.shape → PinSits d i s p (nth_of places p)
  pin_sits_at places at few p has within = by (search_gone s.pins.gone p)
    where
      free : (b : Bool) → is_gone_pin i.config.shape d p ≡ b → ((k : ℕ) → k < length s.pins.gone → nth_of s.pins.gone k ≢ p) → IsFreePin i.config.shape d p
      free false e others = not_gone_free i.config.shape d p e
      free true e others = absurd (let r : Contains s.pins.gone p = subst (λ xs. Contains xs p) (sym are.pins_gone) (in_filter (is_gone_pin i.config.shape d) (i.inputs ++ i.outputs) p has e) in others r.0 r.1 (get_or_default s.pins.gone r.0 0 p r.1 ∙ r.2))

      by : ((k : ℕ) × (k < length s.pins.gone) × (nth_of s.pins.gone k ≡ p)) ⊎ ((k : ℕ) → k < length s.pins.gone → nth_of s.pins.gone k ≢ p) → PinSits d i s p (nth_of places p)
      by (inl r) = goes r.0 (r.1, r.2) ((omega (arith, r.1, few)), sym (at.put r.0 r.1) ∙ ap (nth_of places) r.2)
      by (inr others) = stays (free (is_gone_pin i.config.shape d p) refl others) (sym (at.others p within others))
