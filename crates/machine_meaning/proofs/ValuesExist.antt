-- Each wire of a finite circuit has a value.
use Rattle.std.proofs.Common.{◌≡◌, ◌⊎◌, ℕ, zero, suc, ◌<◌, ◌≤◌, Bool, true, false, Option, Some, None, get_or, refl, sym, ap, ◌∙◌, subst, inl, inr, arith}
use Rattle.std.proofs.lemmas.Bool.{false≢true}
use native.Mathlib.Decide.{ℕ_discrete, dec_lt}
use Rattle.machine_shape.specs.Shape.{Ends, in_order, turned, ends_of, pin_wire, table_wire, pins_of, wires_of, crosses_of, tables_of}
use Rattle.machine_meaning.specs.Vocabulary.{Net, Linked, crossed, bridged, Joined, here, then, Circuit, Outputs, Pins, Pulls, by_pin, by_table, IsHeld, IsPulled, IsValue, held_0, held_1, pulled, released, AreValues, IsFinite}
use Rattle.machine_meaning.proofs.JoinedLemmas.{Joined-trans, Linked-sym}

-- deciding
dec_map : {P Q : Type 0} → (P → Q) → (Q → P) → Dec P → Dec Q
dec_map f g (yes p) = yes (f p)
dec_map f g (no n) = no (λ q. n (g q))

dec_or : {P Q : Type 0} → Dec P → Dec Q → Dec (P ⊎ Q)
dec_or (yes p) d = yes (inl p)
dec_or (no n) (yes q) = yes (inr q)
dec_or {P} {Q} (no n) (no m) = no neither
  where
    neither : P ⊎ Q → ⊥
    neither (inl p) = n p
    neither (inr q) = m q

dec_and : {P Q : Type 0} → Dec P → Dec Q → Dec (P × Q)
dec_and (yes p) (yes q) = yes (p, q)
dec_and (yes p) (no m) = no (λ x. m x.1)
dec_and (no n) d = no (λ x. n x.0)

dec_bool : (a b : Bool) → Dec (a ≡ b)
dec_bool true true = yes refl
dec_bool true false = no (λ e. cc)
dec_bool false true = no (λ e. cc)
dec_bool false false = yes refl

dec_told : (o : Option Bool) (b : Bool) → Dec (o ≡ Some b)
dec_told None b = no (λ e. cc)
dec_told (Some a) b = dec_map (ap Some) (λ e. cc) (dec_bool a b)

-- one of the numbers below n
dec_below : (P : ℕ → Type 0) → ((x : ℕ) → Dec (P x)) → (n : ℕ) → Dec ((x : ℕ) × (x < n) × P x)
dec_below P d zero = no (λ s. omega (arith, s.1))
dec_below P d (suc n) = dec_map there back (dec_or (d n) (dec_below P d n))
  where
    there : P n ⊎ ((x : ℕ) × (x < n) × P x) → (x : ℕ) × (x < suc n) × P x
    there (inl p) = (n, omega arith, p)
    there (inr s) = (s.0, omega (arith, s.1), s.2)

    back : (x : ℕ) × (x < suc n) × P x → P n ⊎ ((x : ℕ) × (x < n) × P x)
    back s = split (ℕ_discrete s.0 n)
      where
        split : Dec (s.0 ≡ n) → P n ⊎ ((x : ℕ) × (x < n) × P x)
        split (yes e) = inl (subst P e s.2)
        split (no m) = inr (s.0, omega (arith, s.1), s.2)

dec_ends : (p : ℕ × ℕ) (a b : ℕ) → Dec (Ends p a b)
dec_ends p a b = dec_map there back (dec_or (dec_and (ℕ_discrete p.0 a) (ℕ_discrete p.1 b)) (dec_and (ℕ_discrete p.0 b) (ℕ_discrete p.1 a)))
  where
    there : ((p.0 ≡ a) × (p.1 ≡ b)) ⊎ ((p.0 ≡ b) × (p.1 ≡ a)) → Ends p a b
    there (inl s) = in_order s.0 s.1
    there (inr s) = turned s.0 s.1

    back : Ends p a b → ((p.0 ≡ a) × (p.1 ≡ b)) ⊎ ((p.0 ≡ b) × (p.1 ≡ a))
    back (in_order s t) = inl (s, t)
    back (turned s t) = inr (s, t)

module _ (net : Net) (k n : ℕ) (crosses : (x : ℕ) → net.conducts x ≡ true → x < k) (wires : (a b : ℕ) → Linked net a b → a < n) where
  dec_linked : (a b : ℕ) → Dec (Linked net a b)
  dec_linked a b = dec_map there back (dec_or (dec_below (λ x. (net.conducts x ≡ true) × Ends (ends_of net.shape x) a b) (λ x. dec_and (dec_bool _ _) (dec_ends _ a b)) k) (dec_or (dec_bool (net.is_bridge (a, b)) true) (dec_bool (net.is_bridge (b, a)) true)))
    where
      there : ((x : ℕ) × (x < k) × ((net.conducts x ≡ true) × Ends (ends_of net.shape x) a b)) ⊎ ((net.is_bridge (a, b) ≡ true) ⊎ (net.is_bridge (b, a) ≡ true)) → Linked net a b
      there (inl s) = crossed s.0 s.2.0 s.2.1
      there (inr (inl e)) = bridged (a, b) e (in_order refl refl)
      there (inr (inr e)) = bridged (b, a) e (turned refl refl)

      back : Linked net a b → ((x : ℕ) × (x < k) × ((net.conducts x ≡ true) × Ends (ends_of net.shape x) a b)) ⊎ ((net.is_bridge (a, b) ≡ true) ⊎ (net.is_bridge (b, a) ≡ true))
      back (crossed x on at) = inl (x, crosses x on, (on, at))
      back (bridged p is (in_order s t)) = inr (inl (subst (λ q. net.is_bridge q ≡ true) (λ i. (s i, t i)) is))
      back (bridged p is (turned s t)) = inr (inr (subst (λ q. net.is_bridge q ≡ true) (λ i. (s i, t i)) is))

  -- a walk whose wires between the ends are below m
  abbrev Via : ℕ → ℕ → ℕ → Type 0
  Via zero a b = (a ≡ b) ⊎ Linked net a b
  Via (suc m) a b = Via m a b ⊎ (Via m a m × Via m m b)

  dec_via : (m a b : ℕ) → Dec (Via m a b)
  dec_via zero a b = dec_or (ℕ_discrete a b) (dec_linked a b)
  dec_via (suc m) a b = dec_or (dec_via m a b) (dec_and (dec_via m a m) (dec_via m m b))

  walk_of : (m a b : ℕ) → Via m a b → Joined net a b
  walk_of zero a b (inl e) = subst (Joined net a) e here
  walk_of zero a b (inr l) = then here l
  walk_of (suc m) a b (inl v) = walk_of m a b v
  walk_of (suc m) a b (inr (v, w)) = Joined-trans (walk_of m a m v) (walk_of m m b w)

  via_link : (m a b : ℕ) → Linked net a b → Via m a b
  via_link zero a b l = inr l
  via_link (suc m) a b l = inl (via_link m a b l)

  via_itself : (m a : ℕ) → Via m a a
  via_itself zero a = inl refl
  via_itself (suc m) a = inl (via_itself m a)

  to_last : (m a : ℕ) → Via (suc m) a m → Via m a m
  to_last m a (inl v) = v
  to_last m a (inr s) = s.0

  from_last : (m b : ℕ) → Via (suc m) m b → Via m m b
  from_last m b (inl v) = v
  from_last m b (inr s) = s.1

  lower : (m a b c : ℕ) → ((x y z : ℕ) → y < m → Via m x y → Via m y z → Via m x z) → b < m → Via (suc m) a b → Via (suc m) b c → Via (suc m) a c
  lower m a b c ih h (inl p) (inl q) = inl (ih a b c h p q)
  lower m a b c ih h (inl p) (inr q) = inr (ih a b m h p q.0, q.1)
  lower m a b c ih h (inr p) (inl q) = inr (p.0, ih m b c h p.1 q)
  lower m a b c ih h (inr p) (inr q) = inr (p.0, q.1)

  either : (m a b c : ℕ) → ((x y z : ℕ) → y < m → Via m x y → Via m y z → Via m x z) → Dec (b ≡ m) → b < suc m → Via (suc m) a b → Via (suc m) b c → Via (suc m) a c
  either m a b c ih (yes e) h v w = inr (to_last m a (subst (Via (suc m) a) e v), from_last m c (subst (λ x. Via (suc m) x c) e w))
  either m a b c ih (no ne) h v w = lower m a b c ih (omega arith) v w

  through : (m a b c : ℕ) → b < m → Via m a b → Via m b c → Via m a c
  through zero a b c h v w = absurd (omega arith)
  through (suc m) a b c h v w = either m a b c (λ x y z. through m x y z) (ℕ_discrete b m) h v w

  via_of : {a b : ℕ} → Joined net a b → Via n a b
  via_of {a} here = via_itself n a
  via_of {a} (then {b} {c} j l) = through n a b c (wires b c l) (via_of j) (via_link n b c l)

  pub dec_joined : (a b : ℕ) → Dec (Joined net a b)
  dec_joined a b = dec_map (walk_of n a b) (λ j. via_of j) (dec_via n a b)

  end_below : {a b : ℕ} → Joined net a b → (a ≡ b) ⊎ (b < n)
  end_below here = inl refl
  end_below (then {b} {c} j l) = inr (wires c b (Linked-sym l))

  -- a place that the wire is joined to
  pub dec_place : (P : ℕ → Type 0) → ((u : ℕ) → Dec (P u)) → (w : ℕ) → Dec ((u : ℕ) × Joined net w u × P u)
  dec_place P d w = dec_map there back (dec_or (d w) (dec_below (λ u. Joined net w u × P u) (λ u. dec_and (dec_joined w u) (d u)) n))
    where
      there : P w ⊎ ((u : ℕ) × (u < n) × (Joined net w u × P u)) → (u : ℕ) × Joined net w u × P u
      there (inl p) = (w, here, p)
      there (inr s) = (s.0, s.2.0, s.2.1)

      at_end : (u : ℕ) → (w ≡ u) ⊎ (u < n) → Joined net w u → P u → P w ⊎ ((u : ℕ) × (u < n) × (Joined net w u × P u))
      at_end u (inl e) j p = inl (subst P (sym e) p)
      at_end u (inr h) j p = inr (u, h, (j, p))

      back : (u : ℕ) × Joined net w u × P u → P w ⊎ ((u : ℕ) × (u < n) × (Joined net w u × P u))
      back s = at_end s.0 (end_below s.1) s.1 s.2

-- a table beyond the machine's gives 1
abbrev AreWithin : Circuit → Outputs → Type 0
AreWithin c outputs = (t : ℕ) → tables_of c.net.shape ≤ t → outputs t ≡ true

module _ (c : Circuit) (finite : IsFinite c) where
  dec_held : (w : ℕ) (b : Bool) → Dec (IsHeld c w b)
  dec_held w b = dec_map (λ s. record { place = s.0; joined = s.1; stuck = s.2 }) (λ h. (h.place, h.joined, h.stuck)) (dec_place c.net (crosses_of c.net.shape) (wires_of c.net.shape) finite.crosses finite.wires (λ u. c.stuck u ≡ Some b) (λ u. dec_told _ b) w)

  dec_pulls : (drive : Pins) (outputs : Outputs) → AreWithin c outputs → (w : ℕ) → Dec (Pulls c drive outputs w)
  dec_pulls drive outputs within w = dec_map there back (dec_or
      (dec_below (λ k. (get_or drive k true ≡ false) × (pin_wire c.net.shape k ≡ w)) (λ k. dec_and (dec_bool _ _) (ℕ_discrete _ _)) (pins_of c.net.shape))
      (dec_below (λ t. (outputs t ≡ false) × (table_wire c.net.shape t 6 ≡ w)) (λ t. dec_and (dec_bool _ _) (ℕ_discrete _ _)) (tables_of c.net.shape)))
    where
      there : ((k : ℕ) × (k < pins_of c.net.shape) × ((get_or drive k true ≡ false) × (pin_wire c.net.shape k ≡ w))) ⊎ ((t : ℕ) × (t < tables_of c.net.shape) × ((outputs t ≡ false) × (table_wire c.net.shape t 6 ≡ w))) → Pulls c drive outputs w
      there (inl s) = by_pin s.0 s.1 s.2.0 s.2.1
      there (inr s) = by_table s.0 s.2.0 s.2.1

      low : (t : ℕ) → outputs t ≡ false → Dec (t < tables_of c.net.shape) → t < tables_of c.net.shape
      low t e (yes h) = h
      low t e (no m) = absurd (false≢true (sym e ∙ within t (omega arith)))

      back : Pulls c drive outputs w → ((k : ℕ) × (k < pins_of c.net.shape) × ((get_or drive k true ≡ false) × (pin_wire c.net.shape k ≡ w))) ⊎ ((t : ℕ) × (t < tables_of c.net.shape) × ((outputs t ≡ false) × (table_wire c.net.shape t 6 ≡ w)))
      back (by_pin k h e at) = inl (k, h, (e, at))
      back (by_table t e at) = inr (t, low t e (dec_lt t (tables_of c.net.shape)), (e, at))

  dec_pulled : (drive : Pins) (outputs : Outputs) → AreWithin c outputs → (w : ℕ) → Dec (IsPulled c drive outputs w)
  dec_pulled drive outputs within w = dec_map (λ s. record { place = s.0; joined = s.1; pulls = s.2 }) (λ h. (h.place, h.joined, h.pulls)) (dec_place c.net (crosses_of c.net.shape) (wires_of c.net.shape) finite.crosses finite.wires (Pulls c drive outputs) (dec_pulls drive outputs within) w)

  decided : {drive : Pins} {outputs : Outputs} {w : ℕ} → Dec (IsHeld c w false) → Dec (IsHeld c w true) → Dec (IsPulled c drive outputs w) → (b : Bool) × IsValue c drive outputs w b
  decided (yes h) d e = (false, held_0 h)
  decided (no n) (yes h) e = (true, held_1 n h)
  decided (no n) (no m) (yes h) = (false, pulled n m h)
  decided (no n) (no m) (no k) = (true, released n m k)

  pub values_exist : (drive : Pins) (outputs : Outputs) → AreWithin c outputs → (v : ℕ → Bool) × AreValues c drive outputs v
  values_exist drive outputs within =
      let one = λ (w : ℕ). decided {drive = drive} {outputs = outputs} {w = w} (dec_held w false) (dec_held w true) (dec_pulled drive outputs within w) in
      ((λ w. (one w).0), (λ w. (one w).1))
