-- Which numbers are wrong in a field.
use Rattle.machine_image.proofs.Vocabulary.{◌≡◌, ℕ, List, ◌<◌, ◌≤◌, true, false, Some, None, arith, ◌≢◌, ◌==◌, nat_tests, list_any}
use Rattle.machine_image.specs.Faults.{pin_fault, magic_fault, count_fault, ticks_fault, most_fault, closed_fault, above_fault}
use Rattle.machine_image.specs.declared.kind.ImageKind.TheVariants as kind

pub magic_wrong : (n : ℕ) → n ≢ 6072350112935135025 → magic_fault n ≡ Some kind.Magic
magic_wrong n h = grind (arith, nat_tests, h)

pub count_wrong : (due n : ℕ) → n ≢ due → count_fault due n ≡ Some kind.Shape
count_wrong due n h = grind (arith, nat_tests, h)

pub no_ticks : (most n : ℕ) → n ≡ 0 → ticks_fault most n ≡ Some kind.Range
no_ticks most n h = grind (arith, nat_tests, h)

pub many_ticks : (most n : ℕ) → most < n → ticks_fault most n ≡ Some kind.Range
many_ticks most n h = grind (arith, nat_tests, h)

pub most_wrong : (most n : ℕ) → most < n → most_fault most n ≡ Some kind.Range
most_wrong most n h = grind (arith, nat_tests, h)

pub many_closed : (most crosses n : ℕ) → crosses < n → closed_fault most crosses n ≡ Some kind.Range
many_closed most crosses n h = grind (arith, nat_tests, h)

pub too_many_closed : (most crosses n : ℕ) → most < n → closed_fault most crosses n ≡ Some kind.Range
too_many_closed most crosses n h = grind (arith, nat_tests, h)

pub not_below : (count least n : ℕ) → count ≤ n → above_fault count least n ≡ Some kind.Range
not_below count least n h = grind (arith, nat_tests, h)

pub not_above : (count least n : ℕ) → n < count → n < least → above_fault count least n ≡ Some kind.Order
not_above count least n h lower = grind (arith, nat_tests, h, lower)

pub no_pin : (pins : ℕ) (before : List ℕ) (n : ℕ) → pins ≤ n → pin_fault pins before n ≡ Some kind.Range
no_pin pins before n h = grind (arith, nat_tests, h)

pub pin_again : (pins : ℕ) (before : List ℕ) (n : ℕ) → n < pins → list_any (λ p. p == n) before ≡ true → pin_fault pins before n ≡ Some kind.Order
pin_again pins before n h is = rw is (grind (arith, nat_tests, h))

-- ---- and which are right

pub magic_right : (n : ℕ) → magic_fault n ≡ None → n ≡ 6072350112935135025
magic_right n h = grind (arith, nat_tests, h)

pub count_right : (due n : ℕ) → count_fault due n ≡ None → n ≡ due
count_right due n h = grind (arith, nat_tests, h)

pub ticks_right : (most n : ℕ) → ticks_fault most n ≡ None → (1 ≤ n) × (n ≤ most)
ticks_right most n h = grind (arith, nat_tests, h)

pub most_right : (most n : ℕ) → most_fault most n ≡ None → n ≤ most
most_right most n h = grind (arith, nat_tests, h)

pub closed_right : (most crosses n : ℕ) → closed_fault most crosses n ≡ None → (n ≤ crosses) × (n ≤ most)
closed_right most crosses n h = grind (arith, nat_tests, h)

pub above_right : (count least n : ℕ) → above_fault count least n ≡ None → (n < count) × (least ≤ n)
above_right count least n h = grind (arith, nat_tests, h)

pub pin_right : (pins : ℕ) (before : List ℕ) (n : ℕ) → pin_fault pins before n ≡ None → (n < pins) × (list_any (λ p. p == n) before ≡ false)
pin_right pins before n h = grind (arith, nat_tests, h)
