-- What the steps of the check find.
use Rattle.std.proofs.Common.{◌≡◌, ℕ, ◌+◌, ◌<◌, ◌≤◌, true, not, List, ◌++◌, Option, None, Some, refl, sym, ap, subst, ◌∙◌, arith, inl, inr, ◌⊎◌, length, get_or, map, fold, is_some}
use Rattle.design_netlist.proofs.Vocabulary.{cases_lt, Cover, NetlistData, PortDef}
use Rattle.std.proofs.lemmas.List.{get_or-map, get_or_append_left, get_or-append-add, length-map, length-append, take_all}
use Rattle.design_netlist.specs.declared.checks.Found.TheVariants.{Undriven, Cyclic}
use Rattle.design_netlist.specs.Vocabulary.{IsBefore, IsFirst, cover_at, no_cover, word, word_at, signal_at, line_at, cover_drive, latch_drive, drive_words, reads_of, IsDriven, IsWellMade, IsChecked, IsDoubledIn, IsUndriven, IsFirstDoubled, IsFirstUndriven, place_at, AreFirstWords, sooner, IsDrivenOnce, IsFoundIn}
use Rattle.design_netlist.proofs.ListLemmas.{few_numbers}
use Rattle.design_netlist.proofs.OrderLemmas.{first_same}
use Rattle.design_netlist.proofs.WordLemmas.{IsFree, place, place_first, at_place, fold_place}

-- where the output of a cover stands among the words that drive
module _ (d : NetlistData) where
  pub cover_place : (i : ℕ) → i < length d.covers → length d.inputs + i < length (drive_words d)
  cover_place i li =
      omega (arith, length-append (d.inputs ++ map cover_drive d.covers) (map latch_drive d.latches), length-append d.inputs (map cover_drive d.covers), length-map d.covers cover_drive)

  pub cover_word : (i : ℕ) → i < length d.covers → word_at (drive_words d) (length d.inputs + i) ≡ cover_drive (cover_at d.covers i)
  cover_word i li =
      get_or_append_left (d.inputs ++ map cover_drive d.covers) (map latch_drive d.latches) (word 0 0) (length d.inputs + i) (omega (arith, length-append d.inputs (map cover_drive d.covers), length-map d.covers cover_drive))
      ∙ get_or-append-add d.inputs (map cover_drive d.covers) i (word 0 0)
      ∙ get_or-map cover_drive d.covers i no_cover (word 0 0) li

  pub cover_signal : (i : ℕ) → i < length d.covers → signal_at (drive_words d) (length d.inputs + i) ≡ (cover_at d.covers i).out
  cover_signal i li = ap (λ (w : PortDef). w.signal) (cover_word i li)

  pub outs_apart : ((j k : ℕ) → j < k → k < length (drive_words d) → signal_at (drive_words d) j ≡ signal_at (drive_words d) k → ⊥) → (i j : ℕ) → i < j → j < length d.covers → (cover_at d.covers i).out ≡ (cover_at d.covers j).out → ⊥
  outs_apart once i j lt lj e = once (length d.inputs + i) (length d.inputs + j) (omega arith) (cover_place j lj) (cover_signal i (omega arith) ∙ e ∙ sym (cover_signal j lj))

-- covers that drive different signals are no more than the signals
pub few_covers : (covers : List Cover) (signals : ℕ) → ((i : ℕ) → i < length covers → (cover_at covers i).out < signals) → ((i j : ℕ) → i < j → j < length covers → (cover_at covers i).out ≡ (cover_at covers j).out → ⊥) → length covers ≤ signals
few_covers covers signals below apart =
    let outs : List ℕ = map (λ (c : Cover). c.out) covers in
    let len : length outs ≡ length covers = length-map covers (λ (c : Cover). c.out) in
    let few : length outs ≤ signals = few_numbers signals outs (λ k lk. subst (λ x. x < signals) (sym (out_at k (omega arith))) (below k (omega arith))) (λ i j lt lj e. apart i j lt (omega arith) (sym (out_at i (omega arith)) ∙ e ∙ out_at j (omega arith))) in
    omega arith
  where
    out_at : (k : ℕ) → k < length covers → get_or (map (λ (c : Cover). c.out) covers) k 0 ≡ (cover_at covers k).out
    out_at k lk = get_or-map (λ (c : Cover). c.out) covers k no_cover 0 lk

module _ (d : NetlistData) where
  pub once_of : IsFirstDoubled d None → (j k : ℕ) → j < k → k < length (drive_words d) → signal_at (drive_words d) j ≡ signal_at (drive_words d) k → ⊥
  once_of none j k lt lk e =
      elim (cases_lt (line_at (drive_words d) k) (line_at (drive_words d) j)) [
        | inl l ↦ none j (omega arith) (k, lk, inl l, sym e)
        | inr l ↦ none k lk (j, omega arith, upper (cases_lt (line_at (drive_words d) j) (line_at (drive_words d) k)) l lt, e)
      ]
    where
      upper : (line_at (drive_words d) j < line_at (drive_words d) k) ⊎ (line_at (drive_words d) k ≤ line_at (drive_words d) j) → line_at (drive_words d) j ≤ line_at (drive_words d) k → j < k → IsBefore (line_at (drive_words d)) j k
      upper (inl a) l lt = inl a
      upper (inr a) l lt = inr (omega arith, lt)

  pub found_doubled : (words : List PortDef) → words ≡ drive_words d → (k : ℕ) → IsFirst (line_at words) (length words) (IsDoubledIn words) (Some k) → IsFirstDoubled d (Some k)
  found_doubled words e k h =
      let P : List PortDef → Type 0 = λ ws. IsFirst (line_at ws) (length ws) (IsDoubledIn ws) (Some k) in
      subst P e h

  pub none_doubled : (words : List PortDef) → words ≡ drive_words d → IsFirst (line_at words) (length words) (IsDoubledIn words) None → IsFirstDoubled d None
  none_doubled words e h =
      let P : List PortDef → Type 0 = λ ws. IsFirst (line_at ws) (length ws) (IsDoubledIn ws) None in
      subst P e h

  module _ (made : IsWellMade d) (firsts : List (Option ℕ)) (words : List PortDef) (are_words : words ≡ drive_words d) (count : ℕ) (same : count ≡ length d.names) (table : AreFirstWords words (length words) count firsts) where
    are : AreFirstWords (drive_words d) (length (drive_words d)) (length d.names) firsts
    are =
        let P : List PortDef → Type 0 = λ ws. AreFirstWords ws (length ws) count firsts in
        λ s ls. subst P are_words table s (omega arith)

    free_of : (s : ℕ) (found : Option ℕ) → IsFirst (line_at (drive_words d)) (length (drive_words d)) (λ k. signal_at (drive_words d) k ≡ s) found → not (is_some found) ≡ true → IsDriven d s → ⊥
    free_of s None h e driven = h driven.0 driven.1 driven.2
    free_of s (Some j) h e driven = cc

    of_free : (s : ℕ) (found : Option ℕ) → IsFirst (line_at (drive_words d)) (length (drive_words d)) (λ k. signal_at (drive_words d) k ≡ s) found → (IsDriven d s → ⊥) → not (is_some found) ≡ true
    of_free s None h undriven = refl
    of_free s (Some j) h undriven = absurd (undriven (j, h.0, h.1))

    driven_of : (s : ℕ) (found : Option ℕ) → IsFirst (line_at (drive_words d)) (length (drive_words d)) (λ k. signal_at (drive_words d) k ≡ s) found → (not (is_some found) ≡ true → ⊥) → IsDriven d s
    driven_of s None h e = absurd (e refl)
    driven_of s (Some j) h e = (j, h.0, h.1)

    first_undriven_of : (found : Option ℕ) → IsFirst (line_at (reads_of d)) (length (reads_of d)) (IsFree firsts (reads_of d)) found → IsFirstUndriven d found
    first_undriven_of found h =
        first_same (line_at (reads_of d)) (IsFree firsts (reads_of d)) (IsUndriven d) (length (reads_of d)) found
        (λ k lk. free_of (signal_at (reads_of d) k) (place_at firsts (signal_at (reads_of d) k)) (are (signal_at (reads_of d) k) (made.reads k lk)))
        (λ k lk. of_free (signal_at (reads_of d) k) (place_at firsts (signal_at (reads_of d) k)) (are (signal_at (reads_of d) k) (made.reads k lk)))
        h

    result_is : fold (sooner firsts) None (reads_of d) ≡ at_place firsts (reads_of d) (place firsts (reads_of d) (length (reads_of d)))
    result_is = ap (λ ws. fold (sooner firsts) None ws) (sym (take_all (length (reads_of d)) (reads_of d) (omega arith))) ∙ fold_place firsts (reads_of d) (length (reads_of d)) (omega arith)

    pub found_undriven : (w : PortDef) → Some w ≡ fold (sooner firsts) None (reads_of d) → IsFirstDoubled d None → IsFoundIn d (Undriven w)
    found_undriven w e none = by (place firsts (reads_of d) (length (reads_of d))) (e ∙ result_is) (place_first firsts (reads_of d) (length (reads_of d)))
      where
        by : (p : Option ℕ) → Some w ≡ at_place firsts (reads_of d) p → IsFirst (line_at (reads_of d)) (length (reads_of d)) (IsFree firsts (reads_of d)) p → IsFoundIn d (Undriven w)
        by None f h = absurd cc
        by (Some k) f h = (none, k, first_undriven_of (Some k) h, let g : w ≡ word_at (reads_of d) k = cc in g)

    none_free : None ≡ fold (sooner firsts) None (reads_of d) → IsFirst (line_at (reads_of d)) (length (reads_of d)) (IsFree firsts (reads_of d)) None
    none_free e = by (place firsts (reads_of d) (length (reads_of d))) (e ∙ result_is) (place_first firsts (reads_of d) (length (reads_of d)))
      where
        by : (p : Option ℕ) → None ≡ at_place firsts (reads_of d) p → IsFirst (line_at (reads_of d)) (length (reads_of d)) (IsFree firsts (reads_of d)) p → IsFirst (line_at (reads_of d)) (length (reads_of d)) (IsFree firsts (reads_of d)) None
        by None f h = h
        by (Some k) f h = absurd cc

    pub driven_once : IsFirstDoubled d None → None ≡ fold (sooner firsts) None (reads_of d) → IsDrivenOnce d
    driven_once none e = record {
      made = made;
      undoubled = none;
      once = once_of none;
      complete = first_undriven_of None (none_free e);
      driven = λ k lk. driven_of (signal_at (reads_of d) k) (place_at firsts (signal_at (reads_of d) k)) (are (signal_at (reads_of d) k) (made.reads k lk)) (λ f. none_free e k lk f);
    }

  pub not_checked : (w : PortDef) → IsFoundIn d (Cyclic w) → IsChecked d → ⊥
  not_checked w found is = is.acyclic found.1 found.2.0 found.2.1
