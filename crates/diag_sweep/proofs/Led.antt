-- What a load of walks leaves.
use Rattle.std.proofs.Common.{◌≡◌, ◌⊎◌, inl, inr, ℕ, ◌+◌, ◌≤◌, Bool, true, false, not, ◌&&◌, ◌||◌, Result, Ok, Err, List, [], ◌∷◌, length, refl, sym, ap, ◌∙◌, subst, ◌==◌, OnOk, OnErr}
use Rattle.diag_sweep.proofs.Vocabulary.{false≢true, or_cases, and_parts, or_left, or_right, list_any-append, has_number, Pins, among}
use Rattle.diag_sweep.proofs.Vocabulary.{Faults, Explains, RigState, ForEach, Lead, of_told, trial_by_gain, KnownWires, Field, CanLead}
use Rattle.diag_sweep.proofs.Vocabulary.{MarksSome, MarksIn, TrueIf, GoesYet, IsHand, in_hand, DefectMarks, LoadBudget}
use Rattle.std.proofs.lemmas.List.Concat.{flat_map-cons}
use Rattle.diag_evidence.specs.Vocabulary.{Kept, HoldsFor, IsMore, KeepsSet, keeps_cross, ShowsLed, StuckIf, Trees, arrives, held_up_at, is_only_unkept, crosses_along, crosses_of_leads, led_over, these_crosses}
use Rattle.diag_sweep.proofs.Going.{goes_tested}
use Rattle.diag_sweep.proofs.Marking.{true_later, some_itself}

not_kept : (b : Bool) → not b ≡ true → b ≡ false
not_kept true e = absurd (false≢true e)
not_kept false e = refl

-- a crosspoint that is held up is of a walk, and isn't kept
record IsHeldUp (k : Kept) (ls : List Lead) (x : ℕ) : Type 0 where
  on : among (crosses_of_leads ls) x ≡ true
  loose : keeps_cross k x ≡ false

held_up : (k : Kept) (rows : List Pins) (ls : List Lead) (x : ℕ) → held_up_at k rows ls x ≡ true → IsHeldUp k ls x
held_up k rows [] x on = absurd (false≢true on)
held_up k rows (l ∷ ls) x on = by (held_up k rows ls x) (or_cases (not (arrives rows l) && is_only_unkept k (crosses_along l) x) (held_up_at k rows ls x) on)
  where
    whole : among (crosses_of_leads (l ∷ ls)) x ≡ (among (crosses_along l) x || among (crosses_of_leads ls) x)
    whole = ap (λ xs. among xs x) (flat_map-cons (λ (m : Lead). crosses_along m) l ls) ∙ list_any-append (λ z. z == x) (crosses_along l) (crosses_of_leads ls)

    by : (held_up_at k rows ls x ≡ true → IsHeldUp k ls x) → ((not (arrives rows l) && is_only_unkept k (crosses_along l) x) ≡ true) ⊎ (held_up_at k rows ls x ≡ true) → IsHeldUp k (l ∷ ls) x
    by later (inl here) =
        let only = (and_parts (not (arrives rows l)) (is_only_unkept k (crosses_along l) x) here).1 in
        let two = and_parts (among (crosses_along l) x) _ only in
        record { on = whole ∙ or_left (among (crosses_along l) x) (among (crosses_of_leads ls) x) two.0; loose = not_kept (keeps_cross k x) (and_parts (not (keeps_cross k x)) _ two.1).0 }
    by later (inr more) = record { on = whole ∙ or_right (among (crosses_along l) x) (among (crosses_of_leads ls) x) (later more).on; loose = (later more).loose }

-- by one look, what is held up by it is marked, and what was marked
pub record MarksHeldUp (k : Kept) (ls : List Lead) (was is : List Bool) : Type 0 where
  pub rows : List Pins
  pub marks : (x : ℕ) → has_number is x ≡ (held_up_at k rows ls x || has_number was x)

pub where_done : {T E P Q : Type 0} (r : Result T E) → OnOk r P → (P → Q) → OnOk r Q
where_done (Ok v) p more = more p
where_done (Err e) p more = tt

stuck_marks : (a : Field) (k l : Kept) (trees : Trees) (ls : List Lead) (was is : List Bool) {T E : Type 0} (r : Result T E) → CanLead k a trees ls → length is ≡ length was →
    OnOk r (MarksHeldUp k ls was is) → OnErr r (is ≡ was) → MarksSome (λ x. has_number a.crosses x ≡ true) was is
stuck_marks a k l trees ls was is (Ok v) c len led same = record {
  len = len;
  stays = λ x on. led.marks x ∙ or_right (held_up_at k led.rows ls x) (has_number was x) on;
  within = λ x on. by x (or_cases (held_up_at k led.rows ls x) (has_number was x) (sym (led.marks x) ∙ on));
}
  where
    by : (x : ℕ) → (held_up_at k led.rows ls x ≡ true) ⊎ (has_number was x ≡ true) → (has_number was x ≡ true) ⊎ (has_number a.crosses x ≡ true)
    by x (inl new) = let h = held_up k led.rows ls x new in inr (c.tries x h.on h.loose)
    by x (inr on) = inl on
stuck_marks a k l trees ls was is (Err e) c len led same = subst (MarksSome (λ x. has_number a.crosses x ≡ true) was) (sym same) (some_itself _ was)

-- no wire joins the set by it
pub led_set : {trees : Trees} {ls : List Lead} {before after : RigState} {k l : Kept} {was is : List Bool} → ShowsLed trees ls before after k l was is → KeepsSet k l
led_set {ls = ls} {k = k} {l = l} led = (trial_by_gain (these_crosses (led_over led.rows ls)) k l led.gains (λ w. refl)).apart

pub lead_goes : {now : RigState} {a : Field} {k l : Kept} {known : KnownWires} {bad : DefectMarks} {budget : LoadBudget} {before after : ℕ} {trees : Trees} {ls : List Lead} {stuck : List Bool} {T E : Type 0} (r : Result T E) →
    IsHand a (in_hand k known bad budget before) → CanLead k a trees ls → before + 1 ≤ budget.most → after ≤ before + 1 → IsMore k l → ((f : Faults) → Explains f now → HoldsFor k f → HoldsFor l f) → length stuck ≡ length bad.stuck →
    OnOk r (MarksHeldUp k ls bad.stuck stuck) → OnErr r (stuck ≡ bad.stuck) → ForEach now (λ told. StuckIf told k bad.stuck → StuckIf told l stuck) →
    GoesYet now a [] (in_hand k known bad budget before) (in_hand l known (record bad { stuck = stuck }) budget after)
lead_goes {now} {a} {k} {l} {known} {bad} {budget} {before} {after} {trees} {ls} {stuck} r hand course can took more explained len led same true_ = goes_tested 1 hand can took more marked holds
  where
    marked : MarksIn a [] bad (record bad { stuck = stuck })
    marked = record {
      stuck = stuck_marks a k l trees ls bad.stuck stuck r course len led same;
      unfit = some_itself _ bad.unfit;
      unclear = some_itself _ bad.unclear;
      wrong = some_itself _ bad.wrong;
    }

    holds : ForEach now (λ told. TrueIf told k known.steps bad → TrueIf told l known.steps (record bad { stuck = stuck }))
    holds s x t = record {
      at = λ f e. let both = (true_later more (of_told (λ g. HoldsFor k g → HoldsFor l g) (explained s x)) (λ u on. on) t).at f e in (
        both.0,
        record {
          stuck = true_ s x (λ f e h. (t.at f e).1.stuck) f e both.0;
          unfit = both.1.unfit;
          unclear = both.1.unclear;
          wrong = both.1.wrong;
        },
      );
    }
