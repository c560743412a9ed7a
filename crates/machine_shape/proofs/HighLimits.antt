-- What a small shape keeps, and how high the limits are that go by the shape.
use Rattle.std.proofs.Common.{◌≡◌, ℕ, ◌≤◌, ◌&&◌, Bool, true, false, if◌then◌else◌, nat_le, arith}
use Rattle.machine_shape.proofs.Vocabulary.{and_parts, and_from, leb-true, le-leb, cases_Bool, ⊎_elim, Counts, Shape}
use Rattle.machine_shape.specs.declared.LimitedCount.{LimitedCount}
use Rattle.machine_shape.specs.declared.LimitedCount.TheVariants as which
use Rattle.machine_shape.specs.Vocabulary.{HasHighLimits, amount_of, most_of_large, most_of_small, is_small, levels_from, most_closed, most_faults, most_repaired, most_text, most_ticks}
use Rattle.machine_shape.proofs.Taps.{ports_in_size}

-- what the test of small counts says
pub small_is : (c : Counts) → is_small c ≡ true → (amount_of c which.Tables ≤ 4096) × (amount_of c which.Wires ≤ 16384) × (amount_of c which.Crosspoints ≤ 4194304)
unfolding is_small
small_is c h =
    let one = and_parts (nat_le (amount_of c which.Tables) 4096) (nat_le (amount_of c which.Wires) 16384 && nat_le (amount_of c which.Crosspoints) 4194304) h in
    let two = and_parts (nat_le (amount_of c which.Wires) 16384) (nat_le (amount_of c which.Crosspoints) 4194304) one.1 in
    (leb-true _ 4096 one.0, leb-true _ 16384 two.0, leb-true _ 4194304 two.1)

pub small_from : (c : Counts) → amount_of c which.Tables ≤ 4096 → amount_of c which.Wires ≤ 16384 → amount_of c which.Crosspoints ≤ 4194304 → is_small c ≡ true
unfolding is_small
small_from c t w x =
    and_from (nat_le (amount_of c which.Tables) 4096) (nat_le (amount_of c which.Wires) 16384 && nat_le (amount_of c which.Crosspoints) 4194304) (le-leb _ 4096 t)
    (and_from (nat_le (amount_of c which.Wires) 16384) (nat_le (amount_of c which.Crosspoints) 4194304) (le-leb _ 16384 w) (le-leb _ 4194304 x))

-- the pins of a machine are among its wires
pub pins_fit : (c : Counts) → amount_of c which.Pins ≤ amount_of c which.Wires
unfolding levels_from
pins_fit c = ports_in_size (levels_from c)

pub small_within : (c : Counts) → is_small c ≡ true → (kind : LimitedCount) → amount_of c kind ≤ most_of_small kind
small_within c h which.Tables = (small_is c h).0
small_within c h which.Wires = (small_is c h).1
small_within c h which.Crosspoints = (small_is c h).2
small_within c h which.Pins = let w = (small_is c h).1 in let p = pins_fit c in omega (arith, w, p)

pub within_small : (c : Counts) → ((kind : LimitedCount) → amount_of c kind ≤ most_of_small kind) → is_small c ≡ true
within_small c h = small_from c (h which.Tables) (h which.Wires) (h which.Crosspoints)

-- the limits of the others, one by one
pub counts_within : (c : Counts) → amount_of c which.Tables ≤ 65536 → amount_of c which.Wires ≤ 1310720 → amount_of c which.Crosspoints ≤ 268435456 → (is_small c ≡ false → amount_of c which.Pins ≤ 8192) →
    is_small c ≡ false → (kind : LimitedCount) → amount_of c kind ≤ most_of_large kind
counts_within c t w x p large which.Tables = t
counts_within c t w x p large which.Wires = w
counts_within c t w x p large which.Crosspoints = x
counts_within c t w x p large which.Pins = p large

-- of a shape
pub pins_few : (m : Shape) → m.counts.pins ≤ 16384
pins_few m = ⊎_elim
    (λ (s : is_small m.counts ≡ true). small_within m.counts s which.Pins)
    (λ (s : is_small m.counts ≡ false). let p = m.few_pins s in omega (arith, p))
    (cases_Bool (is_small m.counts))

pub large_within : (m : Shape) → is_small m.counts ≡ false → (kind : LimitedCount) → amount_of m.counts kind ≤ most_of_large kind
large_within m = counts_within m.counts m.few_tables m.few_wires m.few_crosses m.few_pins

-- one of two numbers
between : (b : Bool) (low high : ℕ) → low ≤ high → (low ≤ (if b then low else high)) × ((if b then low else high) ≤ high)
between true low high h = (omega arith, h)
between false low high h = (h, omega arith)

pub high_limits : (m : Shape) → HasHighLimits m
unfolding most_ticks most_closed most_repaired most_faults most_text
high_limits m = record {
  ticks = between (is_small m.counts) 4096 65535 (omega arith);
  closed = between (is_small m.counts) 1048576 3670016 (omega arith);
  repaired = between (is_small m.counts) 1000000 1048576 (omega arith);
  faults = between (is_small m.counts) 65536 16777216 (omega arith);
  text = between (is_small m.counts) 16777216 1073741824 (omega arith);
}
