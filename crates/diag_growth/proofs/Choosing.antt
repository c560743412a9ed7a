-- What a search for a place of a table chooses from, and what is chosen.
use Rattle.std.proofs.Common.{◌≡◌, ◌≢◌, ◌⊎◌, ℕ, ◌+◌, ◌<◌, ◌≤◌, Some, None, Option, List, [], ◌∷◌, ◌++◌, length, refl, sym, ap, ◌∙◌, subst, inl, inr, arith, slice_get, IfSome, IfNone}
use Rattle.diag_growth.proofs.Vocabulary.{length_push, Cross, Shape, Wire, Kept, VerifiedWire, get_before, get_last, get_pushed, IsArmTo}
use Rattle.diag_growth.proofs.Vocabulary.{IsFreeArm, IsFarPort, IsMeeting, IsPlaceAt, Arms, Out, Arm}
use native.Mathlib.Decide.{ℕ_discrete}
use Rattle.machine_shape.specs.Vocabulary.{IsTree, lines_of, line_at, table_wire, hextant_of, IsLine, IsPort, HasSites}
use Rattle.diag_growth.specs.Choices.{AreArmsOf, AreInputArms, AreFarsOf, IsOut, AreOuts, IsOutLine, IsTold}
use Rattle.diag_growth.specs.declared.choices.Fars.{Fars}

-- a line of the table's hextant, by what its shape says of the machine's
pub line_there_is : {m n : Shape} {h l : ℕ} (t i : ℕ) → m ≡ n → h ≡ hextant_of m t → l ≡ line_at m h i → l ≡ line_at n (hextant_of n t) i
line_there_is {m} {l = l} t i same hextant at = subst (λ (n : Shape). l ≡ line_at n (hextant_of n t) i) same (at ∙ ap (λ h. line_at m h i) hextant)

-- a port is no line, so what is left out for it is no arm, and no port is left out for a line
pub no_arm_at : {k : Kept} {ss : List VerifiedWire} {h near input : ℕ} → IsTree k.shape → IsPort k.shape h near → ((line : ℕ) → ¬ IsFreeArm k ss h near input near line) → (beside line : ℕ) → ¬ IsFreeArm k ss h near input beside line
no_arm_at {k} {h = h} tree port none beside line a =
    none line (record { is_line = a.is_line; differs = λ e. tree.no_line_is_port h h line a.is_line (subst (IsPort k.shape h) (sym e) port); joins = a.joins })

pub no_far_at : {k : Kept} {without : List VerifiedWire} {h line : ℕ} → IsTree k.shape → IsLine k.shape h line → ((far : ℕ) → ¬ IsFarPort k without h line line far) → (near far : ℕ) → ¬ IsFarPort k without h near line far
no_far_at {k} {h = h} tree is none near far f =
    none far (record { port = f.port; differs = λ e. tree.no_line_is_port h h far (subst (IsLine k.shape h) (sym e) is) f.port; stands = f.stands; meets = f.meets })

-- the arm that is chosen beside a line, and the port that is chosen beside another one
pub arm_chosen : {k : Kept} {ss : List VerifiedWire} {h near input line : ℕ} {a : Arms} {r : Option Arm} → AreArmsOf k ss h near input a → (a.first.line.0 ≢ line → r ≡ Some a.first) → (a.first.line.0 ≡ line → r ≡ a.second) →
    IfSome r (IsArmTo k ss h near input line) × IfNone r ((l : ℕ) → ¬ IsFreeArm k ss h near input line l)
arm_chosen {k} {ss} {h} {near} {input} {line} {a} {r} two first second = by (ℕ_discrete a.first.line.0 line)
  where
    again : a.first.line.0 ≢ line → IsArmTo k ss h near input line a.first
    again d = record {
      free = record { is_line = two.first.free.is_line; differs = d; joins = two.first.free.joins };
      to_line = two.first.to_line;
      to_input = two.first.to_input;
    }

    by : Dec (a.first.line.0 ≡ line) → IfSome r (IsArmTo k ss h near input line) × IfNone r ((l : ℕ) → ¬ IsFreeArm k ss h near input line l)
    by (yes e) = subst (λ (o : Option Arm). IfSome o (IsArmTo k ss h near input line) × IfNone o ((l : ℕ) → ¬ IsFreeArm k ss h near input line l)) (sym (second e))
        (subst (λ b. IfSome a.second (IsArmTo k ss h near input b) × IfNone a.second ((l : ℕ) → ¬ IsFreeArm k ss h near input b l)) e (two.second, two.none))
    by (no d) = subst (λ (o : Option Arm). IfSome o (IsArmTo k ss h near input line) × IfNone o ((l : ℕ) → ¬ IsFreeArm k ss h near input line l)) (sym (first d)) (again d, tt)

pub far_chosen : {k : Kept} {without : List VerifiedWire} {h line near : ℕ} {f : Fars} {r : Option (Wire × Cross)} → AreFarsOf k without h line f → (f.first.0.0 ≢ near → r ≡ Some f.first) → (f.first.0.0 ≡ near → r ≡ f.second) →
    IfSome r (λ g. IsFarPort k without h near line g.0.0 × IsMeeting k g.0.0 line g.1.0) × IfNone r ((far : ℕ) → ¬ IsFarPort k without h near line far)
far_chosen {k} {without} {h} {line} {near} {f} {r} two first second = by (ℕ_discrete f.first.0.0 near)
  where
    again : f.first.0.0 ≢ near → IsFarPort k without h near line f.first.0.0
    again d = record { port = two.first.port; differs = d; stands = two.first.stands; meets = two.first.meets }

    by : Dec (f.first.0.0 ≡ near) → IfSome r (λ g. IsFarPort k without h near line g.0.0 × IsMeeting k g.0.0 line g.1.0) × IfNone r ((far : ℕ) → ¬ IsFarPort k without h near line far)
    by (yes e) = subst (λ (o : Option (Wire × Cross)). IfSome o (λ g. IsFarPort k without h near line g.0.0 × IsMeeting k g.0.0 line g.1.0) × IfNone o ((far : ℕ) → ¬ IsFarPort k without h near line far)) (sym (second e))
        (subst (λ n. IfSome f.second (λ g. IsFarPort k without h n line g.0.0 × IsMeeting k g.0.0 line g.1.0) × IfNone f.second ((far : ℕ) → ¬ IsFarPort k without h n line far)) e (two.second, two.none))
    by (no d) = subst (λ (o : Option (Wire × Cross)). IfSome o (λ g. IsFarPort k without h near line g.0.0 × IsMeeting k g.0.0 line g.1.0) × IfNone o ((far : ℕ) → ¬ IsFarPort k without h near line far)) (sym (first d)) ((again d, two.meets), tt)

-- the arms to one input more
pub input_first : {k : Kept} {ss : List VerifiedWire} {t near : ℕ} → AreInputArms k ss t near 0 []
input_first = record { count = refl; each = λ j a here. none here }
  where
    none : {a : Arms} {P : Type 0} → None ≡ Some a → P
    none e = cc

pub input_next : {k : Kept} {ss : List VerifiedWire} {t near n : ℕ} {arms more : List Arms} {a : Arms} → AreInputArms k ss t near n arms → AreArmsOf k ss (hextant_of k.shape t) near (table_wire k.shape t n) a → more ≡ arms ++ a ∷ [] →
    AreInputArms k ss t near (n + 1) more
input_next {k} {ss} {t} {near} {n} {arms} {more} {a} old is push = record {
  count = let longer = ap length push ∙ length_push arms a in let was = old.count in omega (arith, longer, was);
  each = λ j b here. by j b (get_pushed arms a j b (subst (λ xs. slice_get xs j ≡ Some b) push here));
}
  where
    by : (j : ℕ) (b : Arms) → (slice_get arms j ≡ Some b) ⊎ ((j ≡ length arms) × (a ≡ b)) → AreArmsOf k ss (hextant_of k.shape t) near (table_wire k.shape t j) b
    by j b (inl h) = old.each j b h
    by j b (inr h) = subst (λ i. AreArmsOf k ss (hextant_of k.shape t) near (table_wire k.shape t i) b) (sym (h.0 ∙ old.count))
        (subst (AreArmsOf k ss (hextant_of k.shape t) near (table_wire k.shape t n)) h.1 is)

-- what was found by the names that a table's hextant and its pins have
pub arms_named : {k : Kept} {ss : List VerifiedWire} {near h w : ℕ} {a : Arms} (t j : ℕ) → h ≡ hextant_of k.shape t → w ≡ table_wire k.shape t j → AreArmsOf k ss h near w a →
    AreArmsOf k ss (hextant_of k.shape t) near (table_wire k.shape t j) a
arms_named {k} {ss} {near} {w = w} {a = a} t j node pin is = subst (λ v. AreArmsOf k ss (hextant_of k.shape t) near v a) pin (subst (λ n. AreArmsOf k ss n near w a) node is)

pub fars_named : {k : Kept} {without : List VerifiedWire} {line h : ℕ} {f : Fars} (t : ℕ) → h ≡ hextant_of k.shape t → AreFarsOf k without h line f → AreFarsOf k without (hextant_of k.shape t) line f
fars_named {k} {without} {line} {f = f} t node is = subst (λ n. AreFarsOf k without n line f) node is

-- one line more
pub outs_first : {k : Kept} {ss without : List VerifiedWire} {t : ℕ} → AreOuts k ss without t []
outs_first = record { each = λ j o here. none here }
  where
    none : {o : Out} {P : Type 0} → None ≡ Some o → P
    none e = cc

pub outs_next : {k : Kept} {ss without : List VerifiedWire} {t : ℕ} {outs more : List Out} {o : Out} → AreOuts k ss without t outs → IsOut k ss without t o → more ≡ outs ++ o ∷ [] → AreOuts k ss without t more
outs_next {k} {ss} {without} {t} {outs} {more} {o} old is push = record { each = λ j p here. by j p (get_pushed outs o j p (subst (λ xs. slice_get xs j ≡ Some p) push here)) }
  where
    by : (j : ℕ) (p : Out) → (slice_get outs j ≡ Some p) ⊎ ((j ≡ length outs) × (o ≡ p)) → IsOut k ss without t p
    by j p (inl h) = old.each j p h
    by j p (inr h) = subst (IsOut k ss without t) h.1 is

told_still : {k : Kept} {ss without : List VerifiedWire} {t line : ℕ} {outs more : List Out} (o : Out) → more ≡ outs ++ o ∷ [] → IsTold k ss without t outs line → IsTold k ss without t more line
told_still {outs = outs} o push (inl l) = inl (record { place = l.place; out = l.out; here = subst (λ xs. slice_get xs l.place ≡ Some l.out) (sym push) (get_before outs (o ∷ []) l.place l.out l.here); is = l.is })
told_still o push (inr none) = inr none

pub told_next : {k : Kept} {ss without : List VerifiedWire} {t n : ℕ} {outs more : List Out} (o : Out) (at : ℕ → ℕ) → ((i : ℕ) → i < n → IsTold k ss without t outs (at i)) → o.line.0 ≡ at n → more ≡ outs ++ o ∷ [] →
    (i : ℕ) → i < n + 1 → IsTold k ss without t more (at i)
told_next {k} {ss} {without} {t} {n} {outs} {more} o at old is push i less = by (ℕ_discrete i n)
  where
    by : Dec (i ≡ n) → IsTold k ss without t more (at i)
    by (yes e) = inl (record { place = length outs; out = o; here = subst (λ xs. slice_get xs (length outs) ≡ Some o) (sym push) (get_last outs o); is = is ∙ ap at (sym e) })
    by (no d) = told_still o push (old i (omega (arith, less, d)))

-- all lines of the node
pub all_lines : {m : Shape} (h n : ℕ) (P : ℕ → Type 0) → HasSites m → lines_of m h ≤ n → ((i : ℕ) → i < n → P (line_at m h i)) → (line : ℕ) → IsLine m h line → P line
all_lines {m} h n P law le all line is = let s = law.some_line h line is in let low = s.1 in subst P (sym s.2) (all s.0 (omega (arith, low, le)))

-- over none of the lines there is a place from this port
pub none_near : {k : Kept} {ss without : List VerifiedWire} {near : ℕ} {outs : List Out} (t : ℕ) → ((line : ℕ) → IsLine k.shape (hextant_of k.shape t) line → IsTold k ss without t outs line) →
    ((line : ℕ) → IsOutLine outs line → ¬ IsPlaceAt k ss without t near line) → (line : ℕ) → IsLine k.shape (hextant_of k.shape t) line → ¬ IsPlaceAt k ss without t near line
none_near {k} {ss} {without} {near} {outs} t told none line is = by (told line is)
  where
    by : IsTold k ss without t outs line → ¬ IsPlaceAt k ss without t near line
    by (inl l) = none line l
    by (inr never) = never near
