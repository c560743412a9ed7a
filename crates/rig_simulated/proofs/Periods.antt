-- Ticks that lead back are made over and over.
use Rattle.std.proofs.Common.{◌≡◌, ◌⊎◌, inl, inr, ℕ, zero, suc, ◌+◌, ◌-◌, ◌*◌, ◌/◌, ◌%◌, ◌<◌, ◌≤◌, Bool, List, length, get_or, set, map, refl, sym, ap, ◌∙◌, subst, add-one, arith}
use Rattle.std.proofs.Math.Nat.{mod-add-div'}
use Rattle.rig_simulated.proofs.Vocabulary.{cases_eq, Faults, ClassNode, Gate, level_at, ticked, IsTick, HaveTicked, not_yet, once_more}
use Rattle.rig_simulated.proofs.Vocabulary.{AreAlike, given_by, AreGiven, HasCome, HasComeIfKept, KeepsPast, SkipsTicks}
use Rattle.std.proofs.lemmas.List.{get_or-map, get_or_default, get_or-set_same, get_or-set_other, length-map, length-set, same_lists}
use Rattle.rig_simulated.specs.declared.past.Past.{Past}
use Rattle.rig_simulated.proofs.Eventing.{alike_same, alike_on, alike_map}
use Rattle.rig_simulated.proofs.Levels.{no_gate}
use Rattle.rig_simulated.proofs.Twins.{all_further, twin_is}

module _ {f : Faults} {knots : List ClassNode} {low : List Bool} where
  -- ticks are those of the same tables
  ticked_alike : {old : List Gate} {n : ℕ} {new : List Gate} → HaveTicked f knots low old n new → AreAlike old new
  ticked_alike {old = old} not_yet = alike_same old
  ticked_alike {old = old} (once_more {mid = mid} {new = new} h t) = alike_on old mid new (ticked_alike h) (alike_map (ticked f (level_at knots low t.marks)) (λ x. refl) mid new t.next)

  -- ticks after ticks
  pub ticks_then : {m : ℕ} {old mid : List Gate} {n : ℕ} {new : List Gate} → HaveTicked f knots low old m mid → HaveTicked f knots low mid n new → HaveTicked f knots low old (n + m) new
  ticks_then {m} {old = old} {mid = mid} h not_yet = subst (λ k. HaveTicked f knots low old k mid) (let e : m ≡ 0 + m = omega arith in e) h
  ticks_then {m} {old = old} h (once_more {n = n} {new = new} g t) = subst (λ k. HaveTicked f knots low old k new) (let e : suc (n + m) ≡ suc n + m = omega arith in e) (once_more (ticks_then h g) t)

  -- ticks that lead back do so over and over
  back_again : {p : ℕ} {gates : List Gate} → HaveTicked f knots low gates p gates → (q : ℕ) → HaveTicked f knots low gates (q * p) gates
  back_again {p} {gates} h zero = subst (λ k. HaveTicked f knots low gates k gates) (let e : 0 ≡ 0 * p = omega arith in e) not_yet
  back_again {p} {gates} h (suc q) = subst (λ k. HaveTicked f knots low gates k gates) (let e : q * p + p ≡ suc q * p = omega arith in e) (ticks_then h (back_again h q))

-- the same tables that give the same are the same
same_again : (xs ys : List Gate) → AreAlike xs ys → map given_by xs ≡ map given_by ys → xs ≡ ys
same_again xs ys alike gives = same_lists xs ys (sym alike.len) each
  where
    each : (k : ℕ) (d : Gate) → k < length xs → get_or xs k d ≡ get_or ys k d
    each k d h =
        let l : k < length ys = (let e = alike.len in omega (arith, h, e)) in
        let x = get_or-map given_by xs k d d.output h in
        let y = get_or-map given_by ys k d d.output l in
        sym (twin_is (get_or xs k d) (get_or ys k d) (alike.each k d h) (sym y ∙ ap (λ bs. get_or bs k d.output) (sym gives) ∙ x))

-- what is left of the ticks leads to where all lead
pub skips : (p : Past) (made ticks : ℕ) (now : List Gate) → 0 < p.at → p.at < made → made ≤ ticks → p.outputs.items ≡ map given_by now → SkipsTicks p made ticks ((ticks - made) % (made - p.at)) now
skips p made ticks now some before within again f knots low first end led past rest =
    let come = past some in
    let same : come.tables ≡ now = same_again come.tables now (ticked_alike come.on) (sym come.outputs ∙ again) in
    let period : come.since ≡ made - p.at = (let e = come.count in omega (arith, e, before)) in
    let back : HaveTicked f knots low now (made - p.at) now = subst (λ n. HaveTicked f knots low now n now) period (subst (λ gs. HaveTicked f knots low gs come.since now) same come.on) in
    let q : ℕ = (ticks - made) / (made - p.at) in
    let r : ℕ = (ticks - made) % (made - p.at) in
    let split : r + q * (made - p.at) ≡ ticks - made = mod-add-div' (ticks - made) (made - p.at) in
    let all : r + q * (made - p.at) + made ≡ ticks = omega (arith, split, within) in
    subst (λ n. HaveTicked f knots low first n end) all (ticks_then led (ticks_then (back_again back q) rest))

-- what is kept now
pub kept_now : (old new : Past) (made : ℕ) (now : List Gate) → (new ≡ old) ⊎ ((new.at ≡ made) × (new.outputs.items ≡ map given_by now)) → KeepsPast old new made now
kept_now old new made now (inl same) f knots low first led past = subst (λ p. HasComeIfKept f knots low first p made now) (sym same) past
kept_now old new made now (inr is) f knots low first led past = λ some. record {
  tables = now;
  since = 0;
  led = subst (λ n. HaveTicked f knots low first n now) (sym is.0) led;
  on = not_yet;
  count = (let e = is.0 in omega (arith, e));
  outputs = is.1;
}

-- what was kept still is
pub kept_still : (old new : Past) (made : ℕ) (now : List Gate) → new.outputs ≡ old.outputs → new.at ≡ old.at → KeepsPast old new made now
kept_still old new made now outputs at f knots low first led past = λ some.
    let come = past (omega (arith, some, at)) in
    record {
      tables = come.tables;
      since = come.since;
      led = subst (λ n. HaveTicked f knots low first n come.tables) (sym at) come.led;
      on = come.on;
      count = (let e = come.count in omega (arith, e, at));
      outputs = ap (λ v. v.items) outputs ∙ come.outputs;
    }

pub kept_then : (old mid new : Past) (made : ℕ) (now : List Gate) → KeepsPast old mid made now → KeepsPast mid new made now → KeepsPast old new made now
kept_then old mid new made now a b f knots low first led past = b f knots low first led (a f knots low first led past)

-- after a tick more
pub past_on : (f : Faults) (knots : List ClassNode) (low : List Bool) (first mid new : List Gate) (p : Past) (made : ℕ) → HasComeIfKept f knots low first p made mid → IsTick f knots low mid new → HasComeIfKept f knots low first p (made + 1) new
past_on f knots low first mid new p made past t = λ some.
    let come = past some in
    record {
      tables = come.tables;
      since = suc come.since;
      led = come.led;
      on = once_more come.on t;
      count = (let e = come.count in omega (arith, e));
      outputs = come.outputs;
    }

pub past_none : (f : Faults) (knots : List ClassNode) (low : List Bool) (first : List Gate) (p : Past) (made : ℕ) (now : List Gate) → p.at ≡ 0 → HasComeIfKept f knots low first p made now
past_none f knots low first p made now none = λ some. absurd (omega (arith, some, none))

-- ---- what tables give, one after the other

pub given_none : (gates : List Gate) (outputs : List Bool) → length outputs ≡ length gates → AreGiven 0 gates outputs
given_none gates outputs len = record { len = len; each = λ k b d h. absurd (omega (arith, h)) }

pub given_set : (n : ℕ) (gates : List Gate) (outputs : List Bool) (e : Gate) → AreGiven n gates outputs → n < length gates → AreGiven (n + 1) gates (set outputs n (get_or gates n e).output)
given_set n gates outputs e are within = record { len = length-set outputs n _ ∙ are.len; each = λ k b d h. by k b d h (cases_eq k n) }
  where
    here : n < length outputs
    here = let l = are.len in omega (arith, l, within)

    by : (k : ℕ) (b : Bool) (d : Gate) → k < n + 1 → (k ≡ n) ⊎ (k ≡ n → ⊥) → get_or (set outputs n (get_or gates n e).output) k b ≡ (get_or gates k d).output
    by k b d h (inl q) = ap (λ j. get_or (set outputs n (get_or gates n e).output) j b) q ∙ get_or-set_same outputs n (get_or gates n e).output b here ∙ ap (λ (x : Gate). x.output) (get_or_default gates n e d within ∙ ap (λ j. get_or gates j d) (sym q))
    by k b d h (inr other) = get_or-set_other outputs n k (get_or gates n e).output b other ∙ are.each k b d (omega (arith, h, other))

pub given_more : (n : ℕ) (gates : List Gate) (outputs : List Bool) (c : Bool) (e : Gate) → AreGiven n gates outputs → n < length gates → get_or outputs n c ≡ (get_or gates n e).output → AreGiven (n + 1) gates outputs
given_more n gates outputs c e are within same = record { len = are.len; each = λ k b d h. by k b d h (cases_eq k n) }
  where
    here : n < length outputs
    here = let l = are.len in omega (arith, l, within)

    by : (k : ℕ) (b : Bool) (d : Gate) → k < n + 1 → (k ≡ n) ⊎ (k ≡ n → ⊥) → get_or outputs k b ≡ (get_or gates k d).output
    by k b d h (inl q) = ap (λ j. get_or outputs j b) q ∙ get_or_default outputs n b c here ∙ same ∙ ap (λ (x : Gate). x.output) (get_or_default gates n e d within ∙ ap (λ j. get_or gates j d) (sym q))
    by k b d h (inr other) = are.each k b d (omega (arith, h, other))

pub given_all : (n : ℕ) (gates : List Gate) (outputs : List Bool) → AreGiven n gates outputs → length gates ≤ n → outputs ≡ map given_by gates
given_all n gates outputs are all = same_lists outputs (map given_by gates) (are.len ∙ sym (length-map gates given_by)) each
  where
    each : (k : ℕ) (b : Bool) → k < length outputs → get_or outputs k b ≡ get_or (map given_by gates) k b
    each k b h =
        let l : k < length gates = (let e = are.len in omega (arith, h, e)) in
        are.each k b no_gate (omega (arith, l, all)) ∙ sym (get_or-map given_by gates k no_gate b l)

-- a tick more, and what is left of them
module _ {f : Faults} {knots : List ClassNode} {low : List Bool} {first : List Gate} {made : ℕ} {now : List Gate} (led : HaveTicked f knots low first made now) where
  -- where a tick changes nothing, neither do those that are left
  pub ticked_at_rest : {ticks : ℕ} → made < ticks → IsTick f knots low now now → HaveTicked f knots low first ticks now
  ticked_at_rest {ticks} less still =
      subst (λ n. HaveTicked f knots low first n now) (let all : ticks - made + made ≡ ticks = omega (arith, less) in all) (all_further (ticks - made) led still)

  module _ {next : List Gate} (t : IsTick f knots low now next) where
    pub ticked_more : HaveTicked f knots low first (made + 1) next
    ticked_more = subst (λ n. HaveTicked f knots low first n next) (sym (add-one made)) (once_more led t)

    pub ticked_when_same : {ticks : ℕ} → made < ticks → next ≡ now → HaveTicked f knots low first ticks next
    ticked_when_same {ticks} less same = subst (HaveTicked f knots low first ticks) (sym same) (ticked_at_rest less (subst (IsTick f knots low now) same t))

    module _ (p : Past) (past : HasComeIfKept f knots low first p made now) where
      pub past_kept : (q : Past) → KeepsPast p q (made + 1) next → HasComeIfKept f knots low first q (made + 1) next
      past_kept q keeps = keeps f knots low first ticked_more (past_on f knots low first now next p made past t)

      pub ticked_by_skip : {ticks left : ℕ} {end : List Gate} → SkipsTicks p (made + 1) ticks left next → HaveTicked f knots low next left end → HaveTicked f knots low first ticks end
      ticked_by_skip {end = end} skip rest = skip f knots low first end ticked_more (past_on f knots low first now next p made past t) rest
