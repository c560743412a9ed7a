-- The search of a place where a table can be tested.
use Rattle.std.proofs.Common.{◌≡◌, ◌≢◌, ◌⊎◌, ℕ, ◌+◌, ◌<◌, ◌≤◌, true, false, Some, None, List, [], ◌∷◌, ◌++◌, length, refl, sym, ap, ◌∙◌, subst, inl, inr, arith, slice_get}
use Rattle.diag_growth.proofs.Vocabulary.{false≢true, length_push, Shape, Meets, Kept, keeps_cross, VerifiedWire, get_pushed, Arm}
use Rattle.machine_shape.specs.Vocabulary.{ends_of, crosses_of, nodes_of, lines_of, own_ports_of, line_at, port_at, table_wire, hextant_of, IsLine, IsPort, HasCrosses, HasSites}
use Rattle.diag_known.specs.Known.{HasWire, IsKeptCrossOf}
use Rattle.diag_growth.specs.Seating.{IsMeeting, JoinsTaps, IsFreeArm, IsArmTo, AreArmsTo, MissesArm, IsFarPort, IsPlaceAt}

-- what a shape says of the machine's
pub at_shape : (f : Shape → ℕ) {m n : Shape} {l : ℕ} → m ≡ n → l ≡ f m → l ≡ f n
at_shape f {l = l} same is = subst (λ (m : Shape). l ≡ f m) same is

-- the crosspoint of a tap and a line: there is none, or it isn't kept
pub meets_none : (k : Kept) {m : Shape} (tap line : ℕ) → m ≡ k.shape → ((c : ℕ) → c < crosses_of m → ends_of m c ≢ (tap, line)) → ¬ Meets k.shape (IsKeptCrossOf k) tap line
meets_none k {m} tap line e none h = none h.0 (subst (λ s. h.0 < crosses_of s) (sym e) (h.1).0) (subst (λ s. ends_of s h.0 ≡ (tap, line)) (sym e) h.2)

pub meets_lost : (k : Kept) {m : Shape} (tap line c : ℕ) → m ≡ k.shape → HasCrosses k.shape → (c < crosses_of m) × (ends_of m c ≡ (tap, line)) → keeps_cross k c ≡ false → ¬ Meets k.shape (IsKeptCrossOf k) tap line
meets_lost k {m} tap line c e law found lost h =
    let at : ends_of k.shape c ≡ (tap, line) = subst (λ s. ends_of s c ≡ (tap, line)) e found.1 in
    let same : c ≡ h.0 = law.one c h.0 (subst (λ s. c < crosses_of s) e found.0) (h.1).0 (at ∙ sym h.2) in
    false≢true (sym lost ∙ ap (keeps_cross k) same ∙ (h.1).1)

pub meets_kept : (k : Kept) {m : Shape} (tap line c : ℕ) → m ≡ k.shape → (c < crosses_of m) × (ends_of m c ≡ (tap, line)) → keeps_cross k c ≡ true → IsMeeting k tap line c
meets_kept k {m} tap line c e found kept = record {
  kept = (subst (λ s. c < crosses_of s) e found.0, kept);
  ends = subst (λ s. ends_of s c ≡ (tap, line)) e found.1;
}

pub it_meets : {k : Kept} {tap line c : ℕ} → IsMeeting k tap line c → Meets k.shape (IsKeptCrossOf k) tap line
it_meets {c = c} m = (c, m.kept, m.ends)

-- no line that was looked at, and so none of the node
pub no_line_of : {m : Shape} (h n : ℕ) (P : ℕ → Type 0) → HasSites m → lines_of m h ≤ n → ((i : ℕ) → i < n → ¬ P (line_at m h i)) → (line : ℕ) → IsLine m h line → ¬ P line
no_line_of {m} h n P law le none line is p = let s = law.some_line h line is in let low = s.1 in none s.0 (omega (arith, low, le)) (subst P s.2 p)

pub no_port_of : {m : Shape} (h n : ℕ) (P : ℕ → Type 0) → HasSites m → own_ports_of m h ≤ n → ((i : ℕ) → i < n → ¬ P (port_at m h i)) → (port : ℕ) → IsPort m h port → ¬ P port
no_port_of {m} h n P law le none port is p = let s = law.some_port h port is in let low = s.1 in none s.0 (omega (arith, low, le)) (subst P s.2 p)

-- a line of the node by its place, and a port
pub line_there : {m s : Shape} (h i w : ℕ) → HasSites m → s ≡ m → h < nodes_of m → i < lines_of s h → w ≡ line_at s h i → IsLine m h w
line_there {m} {s} h i w law e node low is =
    let below : i < lines_of m h = subst (λ t. i < lines_of t h) e low in
    let at : w ≡ line_at m h i = subst (λ t. w ≡ line_at t h i) e is in
    subst (IsLine m h) (sym at) (law.line h i node below)

pub port_there : {m s : Shape} (h i w : ℕ) → HasSites m → s ≡ m → h < nodes_of m → i < own_ports_of s h → w ≡ port_at s h i → IsPort m h w
port_there {m} {s} h i w law e node low is =
    let below : i < own_ports_of m h = subst (λ t. i < own_ports_of t h) e low in
    let at : w ≡ port_at m h i = subst (λ t. w ≡ port_at t h i) e is in
    subst (IsPort m h) (sym at) (law.port h i node below)

-- an arm over a line that was looked at, or none
pub arm_there : {k : Kept} {ss : List VerifiedWire} {h near input beside line : ℕ} {a : Arm} → IsLine k.shape h line → line ≢ beside → JoinsTaps k ss near input a.line.0 → a.line.0 ≡ line → IsMeeting k near a.line.0 a.to_line.0 →
    IsMeeting k input a.line.0 a.to_input.0 → IsArmTo k ss h near input beside a
arm_there {k} {h = h} {beside = beside} is differs joins same to_line to_input = record {
  free = record { is_line = subst (IsLine k.shape h) (sym same) is; differs = subst (λ l. l ≢ beside) (sym same) differs; joins = joins };
  to_line = to_line;
  to_input = to_input;
}

pub no_arm_beside : {k : Kept} {ss : List VerifiedWire} {h near input beside line : ℕ} → line ≡ beside → ¬ IsFreeArm k ss h near input beside line
no_arm_beside e a = a.differs e

pub no_arm_over : {k : Kept} {ss : List VerifiedWire} {h near input beside line : ℕ} → ¬ JoinsTaps k ss near input line → ¬ IsFreeArm k ss h near input beside line
no_arm_over none a = none a.joins

-- one arm more
pub arms_first : {k : Kept} {ss : List VerifiedWire} {t near beside : ℕ} → AreArmsTo k ss t near beside 0 []
arms_first = record { count = refl; each = λ j a here. none here }
  where
    none : {a : Arm} {P : Type 0} → None ≡ Some a → P
    none e = cc

pub arms_next : {k : Kept} {ss : List VerifiedWire} {t near beside n : ℕ} {arms more : List Arm} {a : Arm} → AreArmsTo k ss t near beside n arms → IsArmTo k ss (hextant_of k.shape t) near (table_wire k.shape t n) beside a → more ≡ arms ++ a ∷ [] →
    AreArmsTo k ss t near beside (n + 1) more
arms_next {k} {ss} {t} {near} {beside} {n} {arms} {more} {a} old is push = record {
  count = let longer = ap length push ∙ length_push arms a in let was = old.count in omega (arith, longer, was);
  each = λ j b here. by j b (get_pushed arms a j b (subst (λ xs. slice_get xs j ≡ Some b) push here));
}
  where
    by : (j : ℕ) (b : Arm) → (slice_get arms j ≡ Some b) ⊎ ((j ≡ length arms) × (a ≡ b)) → IsArmTo k ss (hextant_of k.shape t) near (table_wire k.shape t j) beside b
    by j b (inl h) = old.each j b h
    by j b (inr h) = subst (λ i. IsArmTo k ss (hextant_of k.shape t) near (table_wire k.shape t i) beside b) (sym (h.0 ∙ old.count))
        (subst (IsArmTo k ss (hextant_of k.shape t) near (table_wire k.shape t n) beside) h.1 is)

-- a port that was looked at
pub no_far_near : {k : Kept} {without : List VerifiedWire} {h near line far : ℕ} → far ≡ near → ¬ IsFarPort k without h near line far
no_far_near e f = f.differs e

pub no_far_out : {k : Kept} {without : List VerifiedWire} {h near line far : ℕ} → ¬ HasWire without far → ¬ IsFarPort k without h near line far
no_far_out out f = out f.stands

pub no_far_apart : {k : Kept} {without : List VerifiedWire} {h near line far : ℕ} → ¬ Meets k.shape (IsKeptCrossOf k) far line → ¬ IsFarPort k without h near line far
no_far_apart none f = none f.meets

pub far_there : {k : Kept} {without : List VerifiedWire} {h near line far c : ℕ} → IsPort k.shape h far → far ≢ near → HasWire without far → IsMeeting k far line c → IsFarPort k without h near line far
far_there port differs stands meets = record { port = port; differs = differs; stands = stands; meets = it_meets meets }

-- over this near port and this line there is no place
pub no_place_unknown : {k : Kept} {ss without : List VerifiedWire} {t near line : ℕ} → ¬ HasWire ss line → ¬ IsPlaceAt k ss without t near line
no_place_unknown out p = out p.known

pub no_place_output : {k : Kept} {ss without : List VerifiedWire} {t near line w : ℕ} → w ≡ table_wire k.shape t 6 → ¬ Meets k.shape (IsKeptCrossOf k) w line → ¬ IsPlaceAt k ss without t near line
no_place_output {k} {line = line} e none p = none (subst (λ v. Meets k.shape (IsKeptCrossOf k) v line) (sym e) p.output)

pub no_place_far : {k : Kept} {ss without : List VerifiedWire} {t near line h : ℕ} → h ≡ hextant_of k.shape t → ((far : ℕ) → ¬ IsFarPort k without h near line far) → ¬ IsPlaceAt k ss without t near line
no_place_far {k} {without = without} {near = near} {line = line} e none p = none p.far (subst (λ h. IsFarPort k without h near line p.far) (sym e) p.is_far)

pub no_place_arms : {k : Kept} {ss without : List VerifiedWire} {t near line : ℕ} → MissesArm k ss t near line → ¬ IsPlaceAt k ss without t near line
no_place_arms misses p = let arm = p.inputs misses.input misses.within in misses.none arm.0 arm.1

-- an arm to the input at a place, and that there is none
pub arm_of : {k : Kept} {ss : List VerifiedWire} {near beside h w : ℕ} {a : Arm} (t j : ℕ) → h ≡ hextant_of k.shape t → w ≡ table_wire k.shape t j → IsArmTo k ss h near w beside a →
    IsArmTo k ss (hextant_of k.shape t) near (table_wire k.shape t j) beside a
arm_of {k} {ss} {near} {beside} {w = w} {a = a} t j node pin is = subst (λ v. IsArmTo k ss (hextant_of k.shape t) near v beside a) pin (subst (λ n. IsArmTo k ss n near w beside a) node is)

pub misses_at : {k : Kept} {ss : List VerifiedWire} {t near beside h w : ℕ} (j : ℕ) → j < 6 → h ≡ hextant_of k.shape t → w ≡ table_wire k.shape t j → ((line : ℕ) → ¬ IsFreeArm k ss h near w beside line) → MissesArm k ss t near beside
misses_at {k} {ss} {t} {near} {beside} {h} {w} j below node pin none = record {
  input = j;
  within = below;
  none = λ line. subst (λ v. ¬ IsFreeArm k ss (hextant_of k.shape t) near v beside line) pin (subst (λ n. ¬ IsFreeArm k ss n near w beside line) node (none line));
}

-- what was found by the names that a table's hextant and its output have
pub far_of : {k : Kept} {without : List VerifiedWire} {near line far h : ℕ} (t : ℕ) → h ≡ hextant_of k.shape t → IsFarPort k without h near line far → IsFarPort k without (hextant_of k.shape t) near line far
far_of {k} {without} {near} {line} {far} t node is = subst (λ n. IsFarPort k without n near line far) node is

pub meeting_of : {k : Kept} {line x w : ℕ} (t : ℕ) → w ≡ table_wire k.shape t 6 → IsMeeting k w line x → IsMeeting k (table_wire k.shape t 6) line x
meeting_of {k} {line} {x} t pin is = subst (λ v. IsMeeting k v line x) pin is

-- a line of a table's hextant by its place, and a port
pub line_of : {m s : Shape} {h i w : ℕ} (t : ℕ) → s ≡ m → HasSites m → h ≡ hextant_of s t → h < nodes_of s → i < lines_of s h → w ≡ line_at s h i → IsLine m (hextant_of m t) w
line_of {m} {s} {h} {i} {w} t e law node within low is =
    subst (λ n. IsLine m n w) (subst (λ (z : Shape). h ≡ hextant_of z t) e node) (line_there h i w law e (subst (λ (z : Shape). h < nodes_of z) e within) low is)

pub port_of : {m s : Shape} {h i w : ℕ} (t : ℕ) → s ≡ m → HasSites m → h ≡ hextant_of s t → h < nodes_of s → i < own_ports_of s h → w ≡ port_at s h i → IsPort m (hextant_of m t) w
port_of {m} {s} {h} {i} {w} t e law node within low is =
    subst (λ n. IsPort m n w) (subst (λ (z : Shape). h ≡ hextant_of z t) e node) (port_there h i w law e (subst (λ (z : Shape). h < nodes_of z) e within) low is)
