-- The generated design's netlist is sound.
use Rattle.std.proofs.Common.{◌≡◌, ◌∙◌, ℕ, zero, suc, ◌<◌, ◌-◌, ◌==◌, nat_lt, true, [], length, slice_index_or, refl, sym, ap, arith, if◌then◌else◌}
use Rattle.cmd_bench.proofs.Vocabulary.{Contains, eqb-true, ltb-true, bench_cover, bench_draft}
use Rattle.design_netlist.specs.Vocabulary.{cover_at, IsCoverOver, IsOnCycle, drive_words, reads_of, signal_at, IsDriven, IsWellMade, IsChecked}
use Rattle.cmd_bench.proofs.Below.{each_below}

abbrev driven_at : ℕ → ℕ
driven_at k = signal_at (drive_words bench_draft) k

abbrev read_at : ℕ → ℕ
read_at k = signal_at (reads_of bench_draft) k

-- the place of the word that drives a signal
abbrev place_of : ℕ → ℕ
place_of s = if s == 2 then 17 else if nat_lt s 2 then s else s - 1

drives : length (drive_words bench_draft) ≡ 18
drives = refl

reads : length (reads_of bench_draft) ≡ 20
reads = refl

names : length bench_draft.names ≡ 18
names = refl

placed : (k : ℕ) → k < 18 → (place_of (driven_at k) == k) ≡ true
placed = each_below 18 (λ k. place_of (driven_at k) == k) refl

driven_within : (k : ℕ) → k < 18 → nat_lt (driven_at k) 18 ≡ true
driven_within = each_below 18 (λ k. nat_lt (driven_at k) 18) refl

read_within : (k : ℕ) → k < 20 → nat_lt (read_at k) 18 ≡ true
read_within = each_below 20 (λ k. nat_lt (read_at k) 18) refl

place_within : (k : ℕ) → k < 20 → nat_lt (place_of (read_at k)) 18 ≡ true
place_within = each_below 20 (λ k. nat_lt (place_of (read_at k)) 18) refl

read_is_driven : (k : ℕ) → k < 20 → (driven_at (place_of (read_at k)) == read_at k) ≡ true
read_is_driven = each_below 20 (λ k. driven_at (place_of (read_at k)) == read_at k) refl

cover_ins : (k : ℕ) → k < 2 → slice_index_or bench_cover.ins k 0 < 18
cover_ins zero less = omega arith
cover_ins (suc zero) less = omega arith
cover_ins (suc (suc k)) less = absurd (omega arith)

cover_rows : (k : ℕ) → k < 2 → length (slice_index_or bench_cover.rows k []) ≡ 2
cover_rows zero less = refl
cover_rows (suc zero) less = refl
cover_rows (suc (suc k)) less = absurd (omega arith)

covers : (i : ℕ) → i < 1 → IsCoverOver (cover_at bench_draft.covers i) 18
covers zero less = record { out = omega arith; ins = cover_ins; rows = cover_rows }
covers (suc i) less = absurd (omega arith)

made : IsWellMade bench_draft
made = record {
  covers = covers;
  drives = λ k less. ltb-true _ _ (driven_within k less);
  reads = λ k less. ltb-true _ _ (read_within k less);
  names = omega arith;
  outputs = omega arith;
  characters = omega arith;
}

once : (j k : ℕ) → j < k → k < 18 → driven_at j ≡ driven_at k → ⊥
once j k less within same =
    let a : place_of (driven_at j) ≡ j = eqb-true _ _ (placed j (omega (arith, less, within))) in
    let b : place_of (driven_at k) ≡ k = eqb-true _ _ (placed k within) in
    let e : j ≡ k = sym a ∙ ap place_of same ∙ b in
    omega (arith, less, e)

driven : (k : ℕ) → k < 20 → IsDriven bench_draft (read_at k)
driven k less = (place_of (read_at k), ltb-true _ _ (place_within k less), eqb-true _ _ (read_is_driven k less))

not_read : (k : ℕ) → k < 2 → slice_index_or bench_cover.ins k 1 ≡ 1 → ⊥
not_read zero less e = omega (arith, e)
not_read (suc zero) less e = omega (arith, e)
not_read (suc (suc k)) less e = omega (arith, less)

own : (j : ℕ) → j < 1 → Contains bench_cover.ins (cover_at bench_draft.covers j).out → ⊥
own zero less has = not_read has.0 has.1 has.2
own (suc j) less has = omega (arith, less)

acyclic : (i : ℕ) → i < 1 → IsOnCycle bench_draft.covers i → ⊥
acyclic zero less cycle = own cycle.0 cycle.1.driver cycle.1.input
acyclic (suc i) less cycle = omega (arith, less)

pub is_checked : IsChecked bench_draft
is_checked = record { made = made; once = once; driven = driven; acyclic = acyclic }
