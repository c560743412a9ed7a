-- What stays as more is kept.
use Rattle.std.proofs.Common.{◌≡◌, ◌≢◌, ◌⊎◌, inl, inr, ◌<◌, ◌+◌, ◌*◌, ℕ, Bool, true, false, not, ◌&&◌, ◌||◌, Some, None, Option, List, length, refl, sym, ap, ◌∙◌, subst, arith, ◌==◌, nat_lt, slice_set, unwrap_or}
use Rattle.diag_evidence.proofs.Vocabulary.{false≢true, and_parts, or_cases, or_right, nat_tests, has_number, RigState}
use Rattle.machine_meaning.specs.Vocabulary.{IsClear, Shorted, Faults, stuck_cross, wrong_cell, stuck_register}
use Rattle.diag_evidence.specs.Kept.{Kept, keeps_cross, keeps_wire, is_apart, on_trial, in_row, keeps_pair, keeps_cell, keeps_register, untried, HoldsFor, HoldsUntried, KeepsNothing, IsMore, Gain, Gains, KeepsTrial, Advances, AdvancesButPairs, IsButPairs, IsMoreButPairs, CanSettle, HasSettled, HasRetaken, with_trial}
use Rattle.diag_evidence.proofs.KeptLemmas.{more_itself, IsPair, of_set, of_row, of_other, pair_of, pair_is, pair_differs, pair_apart, has_apart, mark_set, tried_is, tried_only, tried_none, same_trial, no_mark}

pub more_then : {k l n : Kept} → IsMore k l → IsMore l n → IsMore k n
more_then p q = record {
  shape = q.shape ∙ p.shape;
  crosses = λ x is. q.crosses x (p.crosses x is);
  wires = λ w is. q.wires w (p.wires w is);
  apart = λ w is. q.apart w (p.apart w is);
  cells = λ t a is. q.cells t a (p.cells t a is);
  registers = λ t is. q.registers t (p.registers t is);
}

pub advances_itself : (s : RigState) (k : Kept) → Advances s s k k
advances_itself s k = record { machine = refl; later = omega arith; counted = omega arith; few = λ n k h. h; more = more_itself k; narrows = λ f e. e; tells = λ t. t; explained = λ f e h. h }

pub advances_then : {a b c : RigState} {k l n : Kept} → Advances a b k l → Advances b c l n → Advances a c k n
advances_then p q = record {
  machine = q.machine ∙ p.machine;
  later = omega (arith, p.later, q.later);
  counted = omega (arith, p.counted, q.counted);
  few = λ n k h. q.few n k (p.few n k h);
  more = more_then p.more q.more;
  narrows = λ f e. p.narrows f (q.narrows f e);
  tells = λ t. q.tells (p.tells t);
  explained = λ f e h. q.explained f e (p.explained f (q.narrows f e) h);
}

-- of told faults, where they are these
pub of_told : {f : Faults} (P : Faults → Type 0) → P f → (h : Faults) → Some f ≡ Some h → P h
of_told {f} P p h same = subst P (ap (λ o. unwrap_or o f) same) p

-- a kept pair is of two different wires, in either order
pub pair_turned : (k : Kept) (a b : ℕ) → keeps_pair k a b ≡ keeps_pair k b a
pair_turned k a b = by (keeps_pair k a b) (keeps_pair k b a) refl refl
  where
    turn : {a b : ℕ} → IsPair k a b → IsPair k b a
    turn (of_set p q) = of_set q p
    turn (of_row p q) = of_other p q
    turn (of_other p q) = of_row p q

    over : (a b : ℕ) → keeps_pair k a b ≡ true → keeps_pair k b a ≡ true
    over a b is = pair_of k b a (λ e. pair_differs k a b is (sym e)) (turn (pair_is k a b is))

    by : (s t : Bool) → keeps_pair k a b ≡ s → keeps_pair k b a ≡ t → keeps_pair k a b ≡ keeps_pair k b a
    by true t e f = e ∙ sym (over a b e)
    by false true e f = absurd (false≢true (sym e ∙ over b a f))
    by false false e f = e ∙ sym f

pub no_pair_itself : (k : Kept) (a : ℕ) → keeps_pair k a a ≡ false
no_pair_itself k a = by (keeps_pair k a a) refl
  where
    by : (t : Bool) → keeps_pair k a a ≡ t → keeps_pair k a a ≡ false
    by true e = absurd (pair_differs k a a e refl)
    by false e = e

-- where nothing is kept, it is true
pub nothing_holds : (k : Kept) (f : Faults) → KeepsNothing k → HoldsFor k f
nothing_holds k f n = record {
  crosses = λ x is. absurd (false≢true (sym (n.crosses x) ∙ is));
  wires = λ w is. absurd (false≢true (sym (n.wires w) ∙ is));
  pairs = λ a b is. absurd (false≢true (sym (n.pairs a b) ∙ is));
  cells = λ t a is. absurd (false≢true (sym (n.cells t a) ∙ is));
  registers = λ t is. absurd (false≢true (sym (n.registers t) ∙ is));
}

-- the same facts with no wire on trial
pub untried_apart : (k : Kept) (w : ℕ) → is_apart (untried k) w ≡ is_apart k w
unfolding is_apart
untried_apart k w = refl

untried_cross : (k : Kept) (x : ℕ) → keeps_cross (untried k) x ≡ keeps_cross k x
unfolding keeps_cross
untried_cross k x = refl

untried_wire : (k : Kept) (w : ℕ) → keeps_wire (untried k) w ≡ keeps_wire k w
unfolding keeps_wire
untried_wire k w = refl

untried_cell : (k : Kept) (t a : ℕ) → keeps_cell (untried k) t a ≡ keeps_cell k t a
unfolding keeps_cell
untried_cell k t a = refl

untried_register : (k : Kept) (t : ℕ) → keeps_register (untried k) t ≡ keeps_register k t
unfolding keeps_register
untried_register k t = refl

-- of them each kept pair is of the set
pub untried_pair : (k : Kept) (a b : ℕ) → keeps_pair (untried k) a b ≡ true → (is_apart k a ≡ true) × (is_apart k b ≡ true)
untried_pair k a b is = by (pair_is (untried k) a b is)
  where
    by : IsPair (untried k) a b → (is_apart k a ≡ true) × (is_apart k b ≡ true)
    by (of_set p q) = (sym (untried_apart k a) ∙ p, sym (untried_apart k b) ∙ q)
    by (of_row p q) = absurd (false≢true (sym (tried_none (untried k) a refl) ∙ p))
    by (of_other p q) = absurd (false≢true (sym (tried_none (untried k) b refl) ∙ p))

-- where wires of two sets are kept pairs, so are those of a larger one
apart_pair : (k l : Kept) (a b : ℕ) → ((w : ℕ) → is_apart k w ≡ true → is_apart l w ≡ true) → keeps_pair (untried k) a b ≡ true → keeps_pair l a b ≡ true
apart_pair k l a b more is = let p = untried_pair k a b is in pair_apart l a b (pair_differs (untried k) a b is) (more a p.0) (more b p.1)

-- what is kept is true with no wire on trial
pub holds_untried : {k : Kept} {f : Faults} → HoldsFor k f → HoldsUntried k f
holds_untried {k} {f} h = record {
  crosses = λ x is. h.crosses x (sym (untried_cross k x) ∙ is);
  wires = λ w is. h.wires w (sym (untried_wire k w) ∙ is);
  pairs = λ a b is. h.pairs a b (apart_pair k k a b (λ w on. on) is);
  cells = λ t a is. h.cells t a (sym (untried_cell k t a) ∙ is);
  registers = λ t is. h.registers t (sym (untried_register k t) ∙ is);
}

-- so are facts about it
pub untried_crosses : (k : Kept) {f : Faults} → HoldsUntried k f → (x : ℕ) → keeps_cross k x ≡ true → stuck_cross f x ≡ None
untried_crosses k h x is = h.crosses x (untried_cross k x ∙ is)

pub untried_wires : (k : Kept) {f : Faults} → HoldsUntried k f → (w : ℕ) → keeps_wire k w ≡ true → IsClear k.shape f w
untried_wires k h w is = h.wires w (untried_wire k w ∙ is)

pub untried_pairs : (k : Kept) {f : Faults} → HoldsUntried k f → (a b : ℕ) → a ≢ b → is_apart k a ≡ true → is_apart k b ≡ true → ¬ Shorted k.shape f a b
untried_pairs k h a b n p q = h.pairs a b (pair_apart (untried k) a b n (untried_apart k a ∙ p) (untried_apart k b ∙ q))

pub untried_cells : (k : Kept) {f : Faults} → HoldsUntried k f → (t a : ℕ) → keeps_cell k t a ≡ true → wrong_cell f t a ≡ None
untried_cells k h t a is = h.cells t a (untried_cell k t a ∙ is)

pub untried_registers : (k : Kept) {f : Faults} → HoldsUntried k f → (t : ℕ) → keeps_register k t ≡ true → stuck_register f t ≡ None
untried_registers k h t is = h.registers t (untried_register k t ∙ is)

-- what is kept later is true only of faults of which it was true before, the row of the wire on trial left out
pub holds_earlier : {k l : Kept} {f : Faults} → IsMore k l → HoldsUntried l f → HoldsUntried k f
holds_earlier {k} {l} {f} more h = record {
  crosses = λ x is. untried_crosses l h x (more.crosses x (sym (untried_cross k x) ∙ is));
  wires = λ w is. subst (λ m. IsClear m f w) more.shape (untried_wires l h w (more.wires w (sym (untried_wire k w) ∙ is)));
  pairs = λ a b is. let p = untried_pair k a b is in
      subst (λ m. ¬ Shorted m f a b) more.shape (untried_pairs l h a b (pair_differs (untried k) a b is) (more.apart a p.0) (more.apart b p.1));
  cells = λ t a is. untried_cells l h t a (more.cells t a (sym (untried_cell k t a) ∙ is));
  registers = λ t is. untried_registers l h t (more.registers t (sym (untried_register k t) ∙ is));
}

-- pairs of the set stay so
pub untried_later : {k l : Kept} (a b : ℕ) → IsMore k l → keeps_pair (untried k) a b ≡ true → keeps_pair (untried l) a b ≡ true
untried_later {k} {l} a b more is = let p = untried_pair k a b is in
    pair_apart (untried l) a b (pair_differs (untried k) a b is) (untried_apart l a ∙ more.apart a p.0) (untried_apart l b ∙ more.apart b p.1)

-- two different wires of the set, with no wire on trial
pub untried_two : (k : Kept) (a b : ℕ) → a ≢ b → is_apart k a ≡ true → is_apart k b ≡ true → keeps_pair (untried k) a b ≡ true
untried_two k a b n p q = pair_apart (untried k) a b n (untried_apart k a ∙ p) (untried_apart k b ∙ q)

-- a call that makes no load
pub advances_still : (s : RigState) (k l : Kept) → IsMore k l → ((f : Faults) → HoldsFor k f → HoldsFor l f) → Advances s s k l
advances_still s k l more explained = record { machine = refl; later = omega arith; counted = omega arith; few = λ n k h. h; more = more; narrows = λ f e. e; tells = λ t. t; explained = λ f e h. explained f h }

-- the set, and the wire on trial, through calls
pub trial_itself : (k : Kept) → KeepsTrial k k
trial_itself k = record { apart = λ w. refl; trial = refl; row = λ w is. is }

pub trial_then : {k l n : Kept} → KeepsTrial k l → KeepsTrial l n → KeepsTrial k n
trial_then p q = record { apart = λ w. q.apart w ∙ p.apart w; trial = q.trial ∙ p.trial; row = λ w is. q.row w (p.row w is) }

-- .. and a pair of the wire on trial
pub trial_pair : {k l : Kept} (a b : ℕ) → KeepsTrial k l → keeps_pair k a b ≡ true → keeps_pair l a b ≡ true
trial_pair {k} {l} a b t is = pair_of l a b (pair_differs k a b is) (by (pair_is k a b is))
  where
    by : IsPair k a b → IsPair l a b
    by (of_set p q) = of_set (t.apart a ∙ p) (t.apart b ∙ q)
    by (of_row p q) = of_row (same_trial k l a t.trial ∙ p) (t.row b q)
    by (of_other p q) = of_other (same_trial k l b t.trial ∙ p) (t.row a q)

-- a gain by which none joins the set
pub trial_by_gain : (gain : Gain) (k l : Kept) → Gains gain k l → ((w : ℕ) → gain.apart w ≡ false) → KeepsTrial k l
trial_by_gain gain k l g none = record {
  apart = λ w. g.apart w ∙ ap (λ t. t || is_apart k w) (none w);
  trial = g.trial;
  row = λ w is. g.row w ∙ or_right (gain.row w) (in_row k w) is;
}

-- A wire is put on trial.
module _ (k : Kept) (w : ℕ) where
  begun_more : IsMore k (with_trial k w)
  unfolding keeps_cross keeps_wire is_apart keeps_cell keeps_register
  begun_more = record { shape = refl; crosses = λ x is. is; wires = λ w is. is; apart = λ w is. is; cells = λ t a is. is; registers = λ t is. is }

  no_row : (u : ℕ) → in_row (with_trial k w) u ≡ false
  unfolding in_row
  no_row u = no_mark _ u

  begun_set : (u : ℕ) → is_apart (with_trial k w) u ≡ is_apart k u
  unfolding is_apart
  begun_set u = refl

  begun_pair : (a b : ℕ) → keeps_pair (with_trial k w) a b ≡ true → keeps_pair k a b ≡ true
  begun_pair a b is = by (pair_is (with_trial k w) a b is)
    where
      by : IsPair (with_trial k w) a b → keeps_pair k a b ≡ true
      by (of_set p q) = pair_apart k a b (pair_differs (with_trial k w) a b is) (sym (begun_set a) ∙ p) (sym (begun_set b) ∙ q)
      by (of_row p q) = absurd (false≢true (sym (no_row b) ∙ q))
      by (of_other p q) = absurd (false≢true (sym (no_row a) ∙ q))

  begun_holds : (f : Faults) → HoldsFor k f → HoldsFor (with_trial k w) f
  unfolding keeps_cross keeps_wire keeps_cell keeps_register
  begun_holds f h = record { crosses = h.crosses; wires = h.wires; pairs = λ a b is. h.pairs a b (begun_pair a b is); cells = h.cells; registers = h.registers }

-- .. under another name
pub more_begun : (k : Kept) {l : Kept} (w : ℕ) → l ≡ with_trial k w → IsMore k l
more_begun k w e = subst (λ (n : Kept). IsMore k n) (sym e) (begun_more k w)

pub begun_apart : (k : Kept) {l : Kept} {w : ℕ} → l ≡ with_trial k w → (u : ℕ) → is_apart l u ≡ is_apart k u
begun_apart k {w = w} e u = ap (λ (n : Kept). is_apart n u) e ∙ begun_set k w u

pub holds_begun : (k : Kept) {l : Kept} (w : ℕ) → l ≡ with_trial k w → (f : Faults) → HoldsFor k f → HoldsFor l f
holds_begun k w e f h = subst (λ (n : Kept). HoldsFor n f) (sym e) (begun_holds k w f h)

-- The wire on trial comes into the set.
module _ {k l : Kept} (s : HasSettled k l) where
  settled_tried : (u : ℕ) → on_trial l u ≡ on_trial k u
  settled_tried u = same_trial k l u (ap (λ (n : Kept). n.trial) s.is)

  settled_row : (u : ℕ) → in_row l u ≡ in_row k u
  unfolding in_row
  settled_row u = ap (λ (n : Kept). has_number n.row u) s.is

  settled_cross : (x : ℕ) → keeps_cross l x ≡ keeps_cross k x
  unfolding keeps_cross
  settled_cross x = ap (λ (n : Kept). has_number n.crosses x) s.is

  settled_wire : (w : ℕ) → keeps_wire l w ≡ keeps_wire k w
  unfolding keeps_wire
  settled_wire w = ap (λ (n : Kept). has_number n.wires w) s.is

  settled_cell : (t a : ℕ) → keeps_cell l t a ≡ keeps_cell k t a
  unfolding keeps_cell
  settled_cell t a = ap (λ (n : Kept). nat_lt a 64 && has_number n.cells (64 * t + a)) s.is

  settled_register : (t : ℕ) → keeps_register l t ≡ keeps_register k t
  unfolding keeps_register
  settled_register t = ap (λ (n : Kept). has_number n.registers t) s.is

  settled_shape : l.shape ≡ k.shape
  settled_shape = ap (λ (n : Kept). n.shape) s.is

  was : (u : ℕ) → is_apart l u ≡ true → (s.can.wire ≡ u) ⊎ (is_apart k u ≡ true)
  was u is = by (or_cases (s.can.wire == u) (is_apart k u) (sym (s.apart u) ∙ is))
    where
      by : ((s.can.wire == u) ≡ true) ⊎ (is_apart k u ≡ true) → (s.can.wire ≡ u) ⊎ (is_apart k u ≡ true)
      by (inl h) = inl (grind (arith, nat_tests, h))
      by (inr h) = inr h

  both : (a b : ℕ) → a ≢ b → (s.can.wire ≡ a) ⊎ (is_apart k a ≡ true) → (s.can.wire ≡ b) ⊎ (is_apart k b ≡ true) → IsPair k a b
  both a b n (inl e) (inl f) = absurd (n (sym e ∙ f))
  both a b n (inl e) (inr f) = of_row (ap (on_trial k) (sym e) ∙ tried_is k s.can.wire s.can.tried) (s.can.row b f (λ same. n (sym e ∙ sym same)))
  both a b n (inr e) (inl f) = of_other (ap (on_trial k) (sym f) ∙ tried_is k s.can.wire s.can.tried) (s.can.row a e (λ same. n (same ∙ f)))
  both a b n (inr e) (inr f) = of_set e f

  settled_pair : (a b : ℕ) → keeps_pair l a b ≡ true → keeps_pair k a b ≡ true
  settled_pair a b is = pair_of k a b (pair_differs l a b is) (by (pair_is l a b is))
    where
      by : IsPair l a b → IsPair k a b
      by (of_set p q) = both a b (pair_differs l a b is) (was a p) (was b q)
      by (of_row p q) = of_row (sym (settled_tried a) ∙ p) (sym (settled_row b) ∙ q)
      by (of_other p q) = of_other (sym (settled_tried b) ∙ p) (sym (settled_row a) ∙ q)

  pub more_settled : IsMore k l
  more_settled = record {
    shape = settled_shape;
    crosses = λ x is. settled_cross x ∙ is;
    wires = λ w is. settled_wire w ∙ is;
    apart = λ u is. s.apart u ∙ or_right (s.can.wire == u) (is_apart k u) is;
    cells = λ t a is. settled_cell t a ∙ is;
    registers = λ t is. settled_register t ∙ is;
  }

  pub holds_settled : (f : Faults) → HoldsFor k f → HoldsFor l f
  holds_settled f h = record {
    crosses = λ x is. h.crosses x (sym (settled_cross x) ∙ is);
    wires = λ w is. subst (λ m. IsClear m f w) (sym settled_shape) (h.wires w (sym (settled_wire w) ∙ is));
    pairs = λ a b is. subst (λ m. ¬ Shorted m f a b) (sym settled_shape) (h.pairs a b (settled_pair a b is));
    cells = λ t a is. h.cells t a (sym (settled_cell t a) ∙ is);
    registers = λ t is. h.registers t (sym (settled_register t) ∙ is);
  }

-- by the marks in place
pub settles : (k : Kept) (w : ℕ) → k.trial ≡ Some w → w < length k.apart → ((u : ℕ) → has_number k.apart u ≡ true → u ≢ w → has_number k.row u ≡ true) → HasSettled k (record k { apart = slice_set k.apart w true })
unfolding is_apart in_row
settles k w tried below row = record {
  can = record { wire = w; tried = tried; row = row };
  apart = λ u. mark_set k.apart w u below;
  is = refl;
}

-- .. and not where one of the set isn't in the row, or no wire is on trial
pub settles_not : (k : Kept) (w u : ℕ) → k.trial ≡ Some w → has_number k.apart u ≡ true → u ≢ w → has_number k.row u ≡ false → CanSettle k → ⊥
unfolding is_apart in_row
settles_not k w u tried on differ off can = false≢true (sym off ∙ can.row u on (λ e. differ (e ∙ some_same (sym can.tried ∙ tried))))
  where
    some_same : {x y : ℕ} → ◌≡◌ {A = Option ℕ} (Some x) (Some y) → x ≡ y
    some_same e = cc

pub settles_none : (k : Kept) → k.trial ≡ None → CanSettle k → ⊥
settles_none k none can = (let no : ◌≡◌ {A = Option ℕ} None (Some can.wire) = sym none ∙ can.tried in cc)

pub retakes : (k : Kept) (wires both : List Bool) → ((u : ℕ) → has_number both u ≡ (has_number wires u && has_number k.apart u)) → HasRetaken wires k (record k { apart = both; trial = None })
unfolding is_apart
retakes k wires both same = record { apart = same; is = refl }

-- Wires are taken out of the set.
module _ {k l : Kept} {wires : List Bool} (r : HasRetaken wires k l) where
  retaken_was : (w : ℕ) → is_apart l w ≡ true → is_apart k w ≡ true
  retaken_was w is = (and_parts (has_number wires w) (is_apart k w) (sym (r.apart w) ∙ is)).1

  retaken_pair : (a b : ℕ) → keeps_pair l a b ≡ true → keeps_pair k a b ≡ true
  retaken_pair a b is = by (pair_is l a b is)
    where
      none : l.trial ≡ None
      none = ap (λ (n : Kept). n.trial) r.is

      by : IsPair l a b → keeps_pair k a b ≡ true
      by (of_set p q) = pair_apart k a b (pair_differs l a b is) (retaken_was a p) (retaken_was b q)
      by (of_row p q) = absurd (false≢true (sym (tried_none l a none) ∙ p))
      by (of_other p q) = absurd (false≢true (sym (tried_none l b none) ∙ p))

  pub retaken_cross : (x : ℕ) → keeps_cross l x ≡ keeps_cross k x
  unfolding keeps_cross
  retaken_cross x = ap (λ (n : Kept). has_number n.crosses x) r.is

  pub retaken_wire : (w : ℕ) → keeps_wire l w ≡ keeps_wire k w
  unfolding keeps_wire
  retaken_wire w = ap (λ (n : Kept). has_number n.wires w) r.is

  retaken_cell : (t a : ℕ) → keeps_cell l t a ≡ keeps_cell k t a
  unfolding keeps_cell
  retaken_cell t a = ap (λ (n : Kept). nat_lt a 64 && has_number n.cells (64 * t + a)) r.is

  retaken_register : (t : ℕ) → keeps_register l t ≡ keeps_register k t
  unfolding keeps_register
  retaken_register t = ap (λ (n : Kept). has_number n.registers t) r.is

  pub retaken_shape : l.shape ≡ k.shape
  retaken_shape = ap (λ (n : Kept). n.shape) r.is

  pub holds_retaken : (f : Faults) → HoldsFor k f → HoldsFor l f
  holds_retaken f h = record {
    crosses = λ x is. h.crosses x (sym (retaken_cross x) ∙ is);
    wires = λ w is. subst (λ m. IsClear m f w) (sym retaken_shape) (h.wires w (sym (retaken_wire w) ∙ is));
    pairs = λ a b is. subst (λ m. ¬ Shorted m f a b) (sym retaken_shape) (h.pairs a b (retaken_pair a b is));
    cells = λ t a is. h.cells t a (sym (retaken_cell t a) ∙ is);
    registers = λ t is. h.registers t (sym (retaken_register t) ∙ is);
  }

  -- what was kept earlier stays so, where the wires that were of the set then are among these
  pub retaken_still : {j : Kept} → IsMore j k → ((w : ℕ) → is_apart j w ≡ true → has_number wires w ≡ true) → IsMore j l
  retaken_still more all = record {
    shape = retaken_shape ∙ more.shape;
    crosses = λ x is. retaken_cross x ∙ more.crosses x is;
    wires = λ w is. retaken_wire w ∙ more.wires w is;
    apart = λ w is. r.apart w ∙ and_true (has_number wires w) (is_apart k w) (all w is) (more.apart w is);
    cells = λ t a is. retaken_cell t a ∙ more.cells t a is;
    registers = λ t is. retaken_register t ∙ more.registers t is;
  }
    where
      and_true : (x y : Bool) → x ≡ true → y ≡ true → (x && y) ≡ true
      and_true x y e f = rw (e, f) refl

  -- where the wires that were of the set are among these, all that was kept stays so
  pub more_retaken : ((w : ℕ) → is_apart k w ≡ true → has_number wires w ≡ true) → IsMore k l
  more_retaken all = retaken_still (more_itself k) all

-- What stays but for pairs.
module _ (k : Kept) {l : Kept} (is : IsButPairs k l) where
  pub but_shape : l.shape ≡ k.shape
  but_shape = ap (λ (n : Kept). n.shape) is

  pub but_cross : (x : ℕ) → keeps_cross l x ≡ keeps_cross k x
  unfolding keeps_cross
  but_cross x = ap (λ (n : Kept). has_number n.crosses x) is

  pub but_wire : (w : ℕ) → keeps_wire l w ≡ keeps_wire k w
  unfolding keeps_wire
  but_wire w = ap (λ (n : Kept). has_number n.wires w) is

  but_cell : (t a : ℕ) → keeps_cell l t a ≡ keeps_cell k t a
  unfolding keeps_cell
  but_cell t a = ap (λ (n : Kept). nat_lt a 64 && has_number n.cells (64 * t + a)) is

  but_register : (t : ℕ) → keeps_register l t ≡ keeps_register k t
  unfolding keeps_register
  but_register t = ap (λ (n : Kept). has_number n.registers t) is

  -- calls, and then such a change of which nothing is told that isn't true
  pub advances_but : {r s : RigState} {j : Kept} → ((f : Faults) → HoldsFor k f → HoldsFor l f) → Advances r s j k → AdvancesButPairs r s j l
  advances_but explained p = record {
    machine = p.machine;
    later = p.later;
    counted = p.counted;
    few = p.few;
    more = record {
      shape = but_shape ∙ p.more.shape;
      crosses = λ x on. but_cross x ∙ p.more.crosses x on;
      wires = λ w on. but_wire w ∙ p.more.wires w on;
      cells = λ t a on. but_cell t a ∙ p.more.cells t a on;
      registers = λ t on. but_register t ∙ p.more.registers t on;
    };
    narrows = p.narrows;
    tells = p.tells;
    explained = λ f e h. explained f (p.explained f e h);
  }

pub more_rest : {k l : Kept} → IsMore k l → IsMoreButPairs k l
more_rest more = record { shape = more.shape; crosses = more.crosses; wires = more.wires; cells = more.cells; registers = more.registers }

pub advances_rest : {r s : RigState} {k l : Kept} → Advances r s k l → AdvancesButPairs r s k l
advances_rest p = record { machine = p.machine; later = p.later; counted = p.counted; few = p.few; more = more_rest p.more; narrows = p.narrows; tells = p.tells; explained = p.explained }

pub rest_itself : (r : RigState) (k : Kept) → AdvancesButPairs r r k k
rest_itself r k = advances_rest (advances_itself r k)

pub rest_then : {a b c : RigState} {k l n : Kept} → AdvancesButPairs a b k l → AdvancesButPairs b c l n → AdvancesButPairs a c k n
rest_then p q = record {
  machine = q.machine ∙ p.machine;
  later = omega (arith, p.later, q.later);
  counted = omega (arith, p.counted, q.counted);
  few = λ n k h. q.few n k (p.few n k h);
  more = record {
    shape = q.more.shape ∙ p.more.shape;
    crosses = λ x on. q.more.crosses x (p.more.crosses x on);
    wires = λ w on. q.more.wires w (p.more.wires w on);
    cells = λ t a on. q.more.cells t a (p.more.cells t a on);
    registers = λ t on. q.more.registers t (p.more.registers t on);
  };
  narrows = λ f e. p.narrows f (q.narrows f e);
  tells = λ t. q.tells (p.tells t);
  explained = λ f e h. q.explained f e (p.explained f (q.narrows f e) h);
}

pub retaken_but : {k l : Kept} {wires : List Bool} → HasRetaken wires k l → IsButPairs k l
retaken_but {k} {l} r = subst (λ (n : Kept). n ≡ record k { apart = n.apart; trial = n.trial }) (sym r.is) refl
