-- Words that nothing drives.
use Rattle.std.proofs.Common.{◌≡◌, ℕ, ◌<◌, true, not, List, Option, None, Some, refl, sym, ap, ◌∙◌, arith, inl, inr, length, fold, is_some}
use Rattle.design_flatten.proofs.Vocabulary.{All, cases_lt, NetlistData, PortDef, not_itself, first_same, IsUndrivenIn}
use Rattle.std.proofs.lemmas.List.{take_all}
use Rattle.design_netlist.specs.Vocabulary.{IsBefore, IsFirst, word, word_at, signal_at, line_at, drive_words, reads_of, IsChecked, place_at, AreFirstWords, sooner}
use Rattle.design_netlist.proofs.WordLemmas.{IsFree, place, place_first, at_place, fold_place}
use Rattle.design_flatten.proofs.CountLemmas.{NoneDoubled, NoneUndriven}

-- ---- words that nothing drives

module _ (drives reads : List PortDef) (firsts : List (Option ℕ)) (count : ℕ) (table : AreFirstWords drives (length drives) count firsts) (below : All (λ (w : PortDef). w.signal < count) reads) where
  abbrev HasFirst : ℕ → Option ℕ → Type 0
  HasFirst s found = IsFirst (line_at drives) (length drives) (λ k. signal_at drives k ≡ s) found

  abbrev IsDrivenBy : ℕ → Type 0
  IsDrivenBy s = (j : ℕ) × (j < length drives) × (signal_at drives j ≡ s)

  free_of : (s : ℕ) (found : Option ℕ) → HasFirst s found → not (is_some found) ≡ true → IsDrivenBy s → ⊥
  free_of s None h e driven = h driven.0 driven.1 driven.2
  free_of s (Some j) h e driven = cc

  of_free : (s : ℕ) (found : Option ℕ) → HasFirst s found → (IsDrivenBy s → ⊥) → not (is_some found) ≡ true
  of_free s None h undriven = refl
  of_free s (Some j) h undriven = absurd (undriven (j, h.0, h.1))

  at : (k : ℕ) → k < length reads → HasFirst (signal_at reads k) (place_at firsts (signal_at reads k))
  at k lk = table (signal_at reads k) (below k (word 0 0) lk)

  undriven_of : (found : Option ℕ) → IsFirst (line_at reads) (length reads) (IsFree firsts reads) found → IsFirst (line_at reads) (length reads) (IsUndrivenIn drives reads) found
  undriven_of found h =
      first_same (line_at reads) (IsFree firsts reads) (IsUndrivenIn drives reads) (length reads) found
      (λ k lk. free_of (signal_at reads k) (place_at firsts (signal_at reads k)) (at k lk))
      (λ k lk. of_free (signal_at reads k) (place_at firsts (signal_at reads k)) (at k lk))
      h

  result_is : fold (sooner firsts) None reads ≡ at_place firsts reads (place firsts reads (length reads))
  result_is = ap (λ ws. fold (sooner firsts) None ws) (sym (take_all (length reads) reads (omega arith))) ∙ fold_place firsts reads (length reads) (omega arith)

  pub undriven_word : (w : PortDef) → Some w ≡ fold (sooner firsts) None reads → (k : ℕ) × IsFirst (line_at reads) (length reads) (IsUndrivenIn drives reads) (Some k) × (w ≡ word_at reads k)
  undriven_word w e = by (place firsts reads (length reads)) (e ∙ result_is) (place_first firsts reads (length reads))
    where
      by : (p : Option ℕ) → Some w ≡ at_place firsts reads p → IsFirst (line_at reads) (length reads) (IsFree firsts reads) p → (k : ℕ) × IsFirst (line_at reads) (length reads) (IsUndrivenIn drives reads) (Some k) × (w ≡ word_at reads k)
      by None f h = absurd cc
      by (Some k) f h = (k, undriven_of (Some k) h, let g : w ≡ word_at reads k = cc in g)

  pub none_undriven : None ≡ fold (sooner firsts) None reads → IsFirst (line_at reads) (length reads) (IsUndrivenIn drives reads) None
  none_undriven e = by (place firsts reads (length reads)) (e ∙ result_is) (place_first firsts reads (length reads))
    where
      by : (p : Option ℕ) → None ≡ at_place firsts reads p → IsFirst (line_at reads) (length reads) (IsFree firsts reads) p → IsFirst (line_at reads) (length reads) (IsUndrivenIn drives reads) None
      by None f h = undriven_of None h
      by (Some k) f h = absurd cc

-- ---- of a checked netlist

pub once_none : (d : NetlistData) → IsChecked d → NoneDoubled (drive_words d)
once_none d checked k lk dbl = elim (cases_lt dbl.0 k) [
  | inl lt ↦ checked.once dbl.0 k lt lk dbl.3
  | inr le ↦ elim (cases_lt k dbl.0) [
    | inl lt ↦ checked.once k dbl.0 lt dbl.1 (sym dbl.3)
    | inr ge ↦
        let same : dbl.0 ≡ k = omega arith in
        let before : IsBefore (line_at (drive_words d)) k k = rw same at dbl.2 in
        not_itself (line_at (drive_words d)) k before
  ]
]

pub driven_none : (d : NetlistData) → IsChecked d → NoneUndriven (drive_words d) (reads_of d)
driven_none d checked k lk undriven = undriven (checked.driven k lk)
