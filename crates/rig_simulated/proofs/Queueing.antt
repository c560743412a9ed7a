-- Places are listed, each once.
use Rattle.std.proofs.Common.{◌≡◌, ◌⊎◌, inl, inr, ⊎_elim, ℕ, ◌+◌, ◌*◌, ◌<◌, ◌≤◌, Bool, true, false, cond, List, length, get_or, set, sym, ap, ◌∙◌, subst, arith}
use Rattle.std.specs.List.{count_by}
use Rattle.rig_simulated.proofs.Vocabulary.{false≢true, cases_eq, cases_lt, false_from_ne_true, get_or-set_other, get_or-set_same}
use Rattle.rig_simulated.proofs.Vocabulary.{length-set, get_or_default, Queue, is_marked, IsDue, IsQueue, KeepsMarks}
use Rattle.std.proofs.lemmas.List.Sums.{sum_by-set, sum_by-le, count_by-le-length}

abbrev counted : Bool → ℕ
counted b = cond b 1 0

-- one mark more
pub count_more : (marks : List Bool) (place : ℕ) → place < length marks → is_marked marks place ≡ false → count_by (λ b. b) (set marks place true) ≡ count_by (λ b. b) marks + 1
count_more marks place h none =
    let s = sum_by-set counted marks place true false h in
    let z : counted (get_or marks place false) ≡ 0 = ap counted none in
    omega (arith, s, z)

-- so there is room for it
pub count_room : (marks : List Bool) (place : ℕ) → place < length marks → is_marked marks place ≡ false → count_by (λ b. b) marks < length marks
count_room marks place h none =
    let s = count_more marks place h none in
    let l = count_by-le-length (λ b. b) (set marks place true) in
    let e = length-set marks place true in
    omega (arith, s, l, e)

pub marks_set : (marks : List Bool) (place : ℕ) → KeepsMarks marks (set marks place true) ⊎ (length marks ≤ place)
marks_set marks place = ⊎_elim (λ h. inl (λ k e. by h k e (cases_eq k place))) (λ h. inr h) (cases_lt place (length marks))
  where
    by : place < length marks → (k : ℕ) → is_marked marks k ≡ true → (k ≡ place) ⊎ (k ≡ place → ⊥) → is_marked (set marks place true) k ≡ true
    by h k e (inl same) = ap (is_marked (set marks place true)) same ∙ get_or-set_same marks place true false h
    by h k e (inr other) = get_or-set_other marks place k true false other ∙ e

module _ (q : Queue) (is : IsQueue q) (place : ℕ) (h : place < length q.marks.items) where
  pub marks_kept : KeepsMarks q.marks.items (set q.marks.items place true)
  marks_kept = ⊎_elim (λ f. f) (λ l. absurd (omega arith)) (marks_set q.marks.items place)

  pub place_marked : is_marked (set q.marks.items place true) place ≡ true
  place_marked = get_or-set_same q.marks.items place true false h

  module _ (none : is_marked q.marks.items place ≡ false) where
    pub has_room : q.count < length q.due.items
    has_room = let r = count_room q.marks.items place h none in omega (arith, r, is.count, is.room)

    pub queue_more : (p : Queue) → p.due.items ≡ set q.due.items q.count place → p.marks.items ≡ set q.marks.items place true → p.count ≡ q.count + 1 → IsQueue p
    queue_more p due marks count = record {
      room = ap length due ∙ length-set q.due.items q.count place ∙ is.room ∙ sym (ap length marks ∙ length-set q.marks.items place true);
      count = count ∙ ap (λ n. n + 1) is.count ∙ sym (count_more q.marks.items place h none) ∙ ap (count_by (λ b. b)) (sym marks);
      within = λ i l. subst (λ ms. get_or p.due.items i 0 < length ms) (sym marks) (subst (λ ds. get_or ds i 0 < length (set q.marks.items place true)) (sym due) (within i l (cases_eq i q.count)));
      listed = λ k e. subst (λ ds. IsDue ds p.count k) (sym due) (subst (λ n. IsDue (set q.due.items q.count place) n k) (sym count) (listed k (ap (λ ms. is_marked ms k) (sym marks) ∙ e) (cases_eq k place)));
    }
      where
        within : (i : ℕ) → i < p.count → (i ≡ q.count) ⊎ (i ≡ q.count → ⊥) → get_or (set q.due.items q.count place) i 0 < length (set q.marks.items place true)
        within i l (inl same) =
            let at : get_or (set q.due.items q.count place) i 0 ≡ place = ap (λ j. get_or (set q.due.items q.count place) j 0) same ∙ get_or-set_same q.due.items q.count place 0 has_room in
            let e = length-set q.marks.items place true in
            omega (arith, at, e, h)
        within i l (inr other) =
            let at : get_or (set q.due.items q.count place) i 0 ≡ get_or q.due.items i 0 = get_or-set_other q.due.items q.count i place 0 other in
            let e = length-set q.marks.items place true in
            let w = is.within i (omega (arith, l, count, other)) in
            omega (arith, at, e, w)

        listed : (k : ℕ) → is_marked (set q.marks.items place true) k ≡ true → (k ≡ place) ⊎ (k ≡ place → ⊥) → IsDue (set q.due.items q.count place) (q.count + 1) k
        listed k e (inl same) = record { at = q.count; below = omega arith; is = get_or-set_same q.due.items q.count place 0 has_room ∙ sym same }
        listed k e (inr other) =
            let d = is.listed k (sym (get_or-set_other q.marks.items place k true false other) ∙ e) in
            record { at = d.at; below = (let b = d.below in omega (arith, b)); is = get_or-set_other q.due.items q.count d.at place 0 (λ s. absurd (let b = d.below in omega (arith, b, s))) ∙ d.is }

-- a place stands among the listed ones from the ith on
abbrev pub IsLeft : List ℕ → ℕ → ℕ → ℕ → Type 0
IsLeft due i n k = (at : ℕ) × (i ≤ at) × (at < n) × (get_or due at 0 ≡ k)

abbrev pub AreLeft : List ℕ → ℕ → ℕ → List Bool → Type 0
AreLeft due i n marks = (k : ℕ) → is_marked marks k ≡ true → IsLeft due i n k

pub left_first : (q : Queue) → IsQueue q → AreLeft q.due.items 0 q.count q.marks.items
left_first q is k e = let d = is.listed k e in (d.at, omega arith, d.below, d.is)

-- a mark less
pub left_less : (due : List ℕ) (i n : ℕ) (marks : List Bool) (place : ℕ) → AreLeft due i n marks → place ≡ get_or due i 0 → place < length marks → AreLeft due (i + 1) n (set marks place false)
left_less due i n marks place left is h k e = by (cases_eq k place)
  where
    by : (k ≡ place) ⊎ (k ≡ place → ⊥) → IsLeft due (i + 1) n k
    by (inl same) = absurd (false≢true (sym (get_or-set_same marks place false false h) ∙ ap (is_marked (set marks place false)) (sym same) ∙ e))
    by (inr other) =
        let d = left k (sym (get_or-set_other marks place k false false other) ∙ e) in
        let later : i + 1 ≤ d.0 = ⊎_elim (λ s. absurd (other (sym d.3 ∙ ap (λ j. get_or due j 0) s ∙ sym is))) (λ s. (let f = d.1 in omega (arith, f, s))) (cases_eq d.0 i) in
        (d.0, later, d.2, d.3)

pub none_left : (due : List ℕ) (i n : ℕ) (marks : List Bool) → n ≤ i → AreLeft due i n marks → (k : ℕ) → is_marked marks k ≡ false
none_left due i n marks h left k = false_from_ne_true (is_marked marks k) (λ e. let d = left k e in let f = d.1 in let b = d.2 in omega (arith, f, b, h))

-- where there are no marks none is counted
pub none_counted : (marks : List Bool) → ((k : ℕ) → is_marked marks k ≡ false) → count_by (λ b. b) marks ≡ 0
none_counted marks none =
    let l = sum_by-le counted 0 marks (λ k d h. (let z : counted (get_or marks k d) ≡ 0 = ap counted (get_or_default marks k d false h ∙ none k) in omega (arith, z))) in
    let z : length marks * 0 ≡ 0 = omega arith in
    omega (arith, l, z)

pub emptied : (q p : Queue) → IsQueue q → p.due.items ≡ q.due.items → length p.marks.items ≡ length q.marks.items → p.count ≡ 0 → ((k : ℕ) → is_marked p.marks.items k ≡ false) → IsQueue p
emptied q p is due len count none = record {
  room = ap length due ∙ is.room ∙ sym len;
  count = count ∙ sym (none_counted p.marks.items none);
  within = λ i l. absurd (omega (arith, l, count));
  listed = λ k e. absurd (false≢true (sym (none k) ∙ e));
}

pub count_within : (q : Queue) → IsQueue q → q.count ≤ length q.due.items
count_within q is = let l = count_by-le-length (λ b. b) q.marks.items in let c = is.count in let r = is.room in omega (arith, l, c, r)

-- a place that is read from the list
pub due_place : (q : Queue) → IsQueue q → (i x : ℕ) → i < q.count → x ≡ get_or q.due.items i x → (x ≡ get_or q.due.items i 0) × (x < length q.marks.items)
due_place q is i x h e =
    let l = count_within q is in
    let s : x ≡ get_or q.due.items i 0 = e ∙ get_or_default q.due.items i x 0 (omega (arith, h, l)) in
    (s, (let w = is.within i h in omega (arith, s, w)))

-- with no marks
pub queue_none : (q : Queue) → length q.due.items ≡ length q.marks.items → q.count ≡ 0 → ((k : ℕ) → is_marked q.marks.items k ≡ false) → IsQueue q
queue_none q len count none = record {
  room = len;
  count = count ∙ sym (none_counted q.marks.items none);
  within = λ i l. absurd (omega (arith, l, count));
  listed = λ k e. absurd (false≢true (sym (none k) ∙ e));
}
