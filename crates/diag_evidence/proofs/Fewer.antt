-- Few cycles for each load.
use Rattle.std.proofs.Common.{◌≡◌, ◌∙◌, ◌⊎◌, ⊎_elim, ℕ, ◌+◌, ◌*◌, ◌^◌, ◌-◌, ◌<◌, ◌≤◌, min, max, Option, None, Some, option_map, Result, Ok, Err, OnOk, OnErr, refl, sym, ap, subst, arith}
use Rattle.diag_evidence.proofs.Vocabulary.{option_map_or, cases_lt, min-eq_left, min-eq_right, le-max_left, mul-add, none-some, Shape}
use Rattle.diag_evidence.proofs.Vocabulary.{pins_of, Asked, Machine, RigState, cycles_made, FewCycles, HasFew, TakesFewCycles, most_cycles}
use Rattle.base_io.specs.Counts.{next_count}
use Rattle.rig.specs.declared.rig.RigFail.{RigFail}

-- a count that has room to grow has grown by one
grown : (n k : ℕ) → k ≡ next_count n → k + 1 < 2 ^ 64 → k ≡ n + 1
grown n k is room = ⊎_elim
    (λ less. let full : min (n + 1) (2 ^ 64 - 1) ≡ n + 1 = min-eq_left (omega (arith, less)) in is ∙ full)
    (λ more. let full : min (n + 1) (2 ^ 64 - 1) ≡ 2 ^ 64 - 1 = min-eq_right (omega (arith, more)) in absurd (let no : ⊥ = omega (arith, is, full, room) in no))
    (cases_lt (n + 1) (2 ^ 64 - 1))

-- with at most w cycles more and one load more
one-more : (c d k n m w x y : ℕ) → c + k ≤ n + x → d ≤ c + m → m ≤ w → y ≡ x + w → d + k ≤ n + y
one-more c d k n m w x y before made few is = omega (arith, before, made, few, is)

-- a load with at most so many cycles
pub few_load : (a c : RigState) (m : ℕ) → c.machine ≡ a.machine → c.loads ≡ next_count a.loads → cycles_made c ≤ cycles_made a + m → m ≤ most_cycles a.machine → FewCycles a c
few_load a c m same counted made few n k h = record {
  at = λ room.
      let w = most_cycles a.machine in
      let next = grown a.loads c.loads counted room in
      let whole : most_cycles c.machine * c.loads ≡ w * a.loads + w * 1 = (λ i. most_cycles (same i) * next i) ∙ mul-add w a.loads 1 in
      let one : w * 1 ≡ w = omega arith in
      one-more (cycles_made a) (cycles_made c) k n m w (w * a.loads) (most_cycles c.machine * c.loads) (h.at (omega (arith, room, next))) made few (omega (arith, whole, one));
}

-- no load and no cycle
pub few_still : (a c : RigState) → c.machine ≡ a.machine → c.loads ≡ a.loads → cycles_made c ≤ cycles_made a → FewCycles a c
few_still a c same counted made n k h = record {
  at = λ room.
      let whole : most_cycles c.machine * c.loads ≡ most_cycles a.machine * a.loads = λ i. most_cycles (same i) * counted i in
      one-more (cycles_made a) (cycles_made c) k n 0 0 (most_cycles a.machine * a.loads) (most_cycles c.machine * c.loads) (h.at (omega (arith, room, counted)))
      (omega (arith, made)) (omega arith) (omega (arith, whole));
}

-- a session begins, or none does
pub few_begin : (a c : RigState) (r : Result (Unit {0}) RigFail) → c.machine ≡ a.machine → OnOk r (c.loads ≡ next_count a.loads) → OnErr r (c.loads ≡ a.loads) → cycles_made c ≡ cycles_made a → FewCycles a c
few_begin a c (Ok x) same counted not_counted made = few_load a c 0 same counted (omega (arith, made)) (omega arith)
few_begin a c (Err e) same counted not_counted made = few_still a c same not_counted (omega (arith, made))

-- what they come to
pub few_cycles : (a c : RigState) → c.machine ≡ a.machine → FewCycles a c → TakesFewCycles a c
few_cycles a c same few room =
    let w = most_cycles a.machine in
    let begin_ : HasFew (cycles_made a) (w * a.loads) a = record { at = λ _. as-many (cycles_made a) (w * a.loads) } in
    subst (λ (m : Machine). cycles_made c + w * a.loads ≤ cycles_made a + most_cycles m * c.loads) same ((few (cycles_made a) (w * a.loads) begin_).at room)
  where
    as-many : (c x : ℕ) → c + x ≤ c + x
    as-many c x = omega arith

-- ---- how many a load of the attached machine may have

most-at : (o : Option Asked) (m : Shape) → option_map (λ (a : Asked). a.shape) o ≡ Some m → option_map_or (λ (a : Asked). max 65 (pins_of a.shape + 1)) o 0 ≡ max 65 (pins_of m + 1)
most-at None m is = absurd (none-some m is)
most-at (Some a) m is = ap (λ (o : Option Shape). option_map_or (λ (s : Shape). max 65 (pins_of s + 1)) o 0) is

pub most_two : (o : Option Asked) (m : Shape) → option_map (λ (a : Asked). a.shape) o ≡ Some m → (n : ℕ) → n ≤ 65 → n ≤ option_map_or (λ (a : Asked). max 65 (pins_of a.shape + 1)) o 0
most_two o m is n few = let all = most-at o m is in let low = le-max_left 65 (pins_of m + 1) in omega (arith, all, low, few)

pub most_look : (o : Option Asked) (m : Shape) → option_map (λ (a : Asked). a.shape) o ≡ Some m → (n : ℕ) → n ≤ max 65 (pins_of m + 1) → n ≤ option_map_or (λ (a : Asked). max 65 (pins_of a.shape + 1)) o 0
most_look o m is n few = let all = most-at o m is in omega (arith, all, few)
