-- What a purse holds at first, and as it is settled.
use Rattle.std.proofs.Common.{◌≡◌, ◌≢◌, ℕ, ◌+◌, ◌*◌, ◌<◌, ◌≤◌, Bool, true, false, not, ◌&&◌, List, length, refl, sym, ap, ◌∙◌, subst, arith, slice_set}
use Rattle.diag_sweep.proofs.Vocabulary.{false≢true, and_parts, get_or-set_other, get_or_past, length-set, has_number, size_of, crosses_of}
use Rattle.diag_sweep.proofs.Vocabulary.{Kept, keeps_cross, how_many, pins_in, KnownWires, Field, many_more, many_size, Pays, is_undecided}
use Rattle.diag_sweep.proofs.Vocabulary.{undecided, IsFunded, IsHand, Settles, in_hand, DefectMarks, LoadBudget}
use native.Mathlib.Decide.{ℕ_discrete, dec_lt}
use Rattle.base_bits.proofs.NumbersLemmas.{size_of-taken}

pub size_undecided : (k : Kept) (b : DefectMarks) (a : Field) (set : List Bool) → length set ≡ length a.crosses → ((x : ℕ) → has_number set x ≡ (has_number a.crosses x && is_undecided k b x)) → size_of set ≡ undecided k b a
size_undecided k b a set len has = sym (many_size set) ∙ ap (how_many (has_number set)) len ∙ same (length a.crosses)
  where
    same : (n : ℕ) → how_many (has_number set) n ≡ how_many (λ x. has_number a.crosses x && is_undecided k b x) n
    same n = ap (λ (p : ℕ → Bool). how_many p n) (λ i x. has x i)

-- a number that is taken out
pub taken_other : (set : List Bool) (x y : ℕ) → y ≢ x → has_number (slice_set set x false) y ≡ has_number set y
taken_other set x y n = get_or-set_other set x y false false n

pub settled : {k : Kept} {b : DefectMarks} {old : LoadBudget} {x most : ℕ} → x < length old.unsettled → has_number old.unsettled x ≡ true → is_undecided k b x ≡ false → old.most ≤ most → most ≤ old.most + 2 →
    Settles k b old (record { most = most; unsettled = slice_set old.unsettled x false })
settled {k} {b} {old} {x} {most} within on decided low high = record {
  len = length-set old.unsettled x false;
  most = low;
  within = (let less = size_of-taken old.unsettled x within on in omega (arith, less, high));
  whole = λ y was is. by y was is (ℕ_discrete y x);
}
  where
    by : (y : ℕ) → has_number old.unsettled y ≡ true → is_undecided k b y ≡ true → Dec (y ≡ x) → has_number (slice_set old.unsettled x false) y ≡ true
    by y was is (yes e) = absurd (false≢true (sym decided ∙ subst (λ i. is_undecided k b i ≡ true) e is))
    by y was is (no n) = taken_other old.unsettled x y n ∙ was

pub settles_itself : (k : Kept) (b : DefectMarks) (p : LoadBudget) → Settles k b p p
settles_itself k b p = record { len = refl; most = omega arith; within = omega arith; whole = λ x on is. on }

pub settles_then : {k : Kept} {b : DefectMarks} {x y z : LoadBudget} → Settles k b x y → Settles k b y z → Settles k b x z
settles_then p q = record {
  len = q.len ∙ p.len;
  most = (let first = p.most in let next = q.most in omega (arith, first, next));
  within = (let first = p.within in let next = q.within in omega (arith, first, next));
  whole = λ x on is. q.whole x (p.whole x on is) is;
}

-- a purse that was settled so far
pub record HasSettled (k : Kept) (b : DefectMarks) (old new : LoadBudget) : Type 0 where
  pub budget : length new.unsettled ≡ crosses_of k.shape
  pub settles : Settles k b old new

pub settled_none : {k : Kept} {b : DefectMarks} {p : LoadBudget} → length p.unsettled ≡ crosses_of k.shape → HasSettled k b p p
settled_none {k} {b} {p} budget = record { budget = budget; settles = settles_itself k b p }

pub settled_on : {k : Kept} {b : DefectMarks} {x y z : LoadBudget} → HasSettled k b x y → Settles k b y z → HasSettled k b x z
settled_on p q = record { budget = q.len ∙ p.budget; settles = settles_then p.settles q }

pub funded_first : {k : Kept} {b : DefectMarks} {a : Field} {loads most : ℕ} {set : List Bool} (pins : ℕ) (known : KnownWires) → length set ≡ length a.crosses → ((x : ℕ) → has_number set x ≡ (has_number a.crosses x && is_undecided k b x)) → loads ≤ most → most ≤ loads + pins →
    IsFunded (loads + (pins + 2 * undecided k b a)) a (in_hand k known b (record { most = most; unsettled = set }) loads)
funded_first {k} {b} {a} {set = set} pins known len has low high = record {
  paid = low;
  within = (let same = size_undecided k b a set len has in omega (arith, same, high));
  whole = λ x on is. has x ∙ ap (λ (t : Bool). t && is_undecided k b x) on ∙ is;
}

-- a set that is made number by number
pub made_next : (old new : List Bool) (x : ℕ) (p : ℕ → Bool) → ((y : ℕ) → y < x → has_number old y ≡ p y) → has_number new x ≡ p x → ((y : ℕ) → y ≢ x → has_number new y ≡ has_number old y) → (y : ℕ) → y < x + 1 → has_number new y ≡ p y
made_next old new x p has this others y less = by (ℕ_discrete y x)
  where
    by : Dec (y ≡ x) → has_number new y ≡ p y
    by (yes e) = subst (λ i. has_number new i ≡ p i) (sym e) this
    by (no n) = others y n ∙ has y (omega (arith, less, n))

pub rest_next : (old new : List Bool) (x : ℕ) → ((y : ℕ) → x ≤ y → has_number old y ≡ false) → ((y : ℕ) → y ≢ x → has_number new y ≡ has_number old y) → (y : ℕ) → x + 1 ≤ y → has_number new y ≡ false
rest_next old new x rest others y less = others y (λ e. let no : ⊥ = omega (arith, less, e) in no) ∙ rest y (omega (arith, less))

-- all numbers were looked at
pub made_all : (set crosses : List Bool) (q : ℕ → Bool) (n : ℕ) → length crosses ≤ n → ((y : ℕ) → y < n → has_number set y ≡ (has_number crosses y && q y)) → ((y : ℕ) → n ≤ y → has_number set y ≡ false) → (y : ℕ) → has_number set y ≡ (has_number crosses y && q y)
made_all set crosses q n whole has rest y = by (dec_lt y n)
  where
    by : Dec (y < n) → has_number set y ≡ (has_number crosses y && q y)
    by (yes h) = has y h
    by (no h) = rest y (omega (arith, h)) ∙ sym (ap (λ (t : Bool). t && q y) (get_or_past crosses y false (omega (arith, h, whole))))

-- the same purse
pub funded_by : {limit : ℕ} {a : Field} {k : Kept} {known : KnownWires} {b : DefectMarks} {loads : ℕ} {x y : LoadBudget} → y ≡ x → IsFunded limit a (in_hand k known b x loads) → IsFunded limit a (in_hand k known b y loads)
funded_by {limit} {a} {k} {known} {b} {loads} e f = subst (λ (z : LoadBudget). IsFunded limit a (in_hand k known b z loads)) (sym e) f

-- what the purse has paid for in the end
pub pays : (k : Kept) (b : DefectMarks) (before : ℕ) {l : Kept} {c : DefectMarks} {a : Field} {known : KnownWires} {budget : LoadBudget} {after : ℕ} → IsHand a (in_hand l known c budget after) → IsFunded (before + (pins_in k.shape a + 2 * undecided k b a)) a (in_hand l known c budget after) → Pays a k b before l c after
pays k b before {l} {c} {a} {budget = budget} hand f =
    let paid = f.paid in let within = f.within in
    let few : undecided l c a ≤ size_of budget.unsettled = subst (λ n. undecided l c a ≤ n) (ap (how_many (has_number budget.unsettled)) (hand.field.crosses ∙ sym hand.budget) ∙ many_size budget.unsettled)
    (many_more (λ x. has_number a.crosses x && is_undecided l c x) (has_number budget.unsettled) (length a.crosses) (λ x less on. let two = and_parts (has_number a.crosses x) (is_undecided l c x) on in f.whole x two.0 two.1)) in
    omega (arith, paid, within, few)

pub pays_nothing : (a : Field) (k : Kept) (b : DefectMarks) (loads : ℕ) → Pays a k b loads k b loads
pays_nothing a k b loads = omega arith
