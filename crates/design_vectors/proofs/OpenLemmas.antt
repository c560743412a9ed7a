-- Bytes that end no vector's line: each vector that is still to come ends its line behind them.
use Rattle.std.proofs.Common.{◌≡◌, ℕ, ◌+◌, ◌≤◌, Bool, true, false, List, [], ◌∷◌, ◌++◌, length, get_or, refl, sym, ap, subst, ◌∙◌, arith, append_assoc, nat_le, Option, None, Some, if◌then◌else◌}
use Rattle.std.specs.List.{AllByRecursion}
use Rattle.design_vectors.proofs.Vocabulary.{append-nil, VectorKind, VectorReading, says_next, AreOpen}
use Rattle.design_vectors.specs.Vectors.{PhysicalLine, numbered_lines, put_before, shown, is_line_feed, byte_fault, end_fault, fault_or, line_fault, line_says, lines_say, bits_of, SaidVectors, VectorLine, nothing_said}
use Rattle.design_vectors.proofs.TextLemmas.{put_before-twice, put_before-nil, shown-nil}

pub all-more : {X : Type 0} (P Q : X → Type 0) (xs : List X) → ((x : X) → P x → Q x) → AllByRecursion P xs → AllByRecursion Q xs
all-more P Q [] more h = tt
all-more P Q (x ∷ xs) more h = (more x h.0, all-more P Q xs more h.1)

-- ---- where lines end

abbrev EndFrom : ℕ → SaidVectors → Type 0
EndFrom k said = AllByRecursion (λ (v : VectorLine). k ≤ v.next_at) said.vectors

line-late : (width number next_at k : ℕ) (fault : Option VectorKind) (bytes : List ℕ) (later : SaidVectors) → k ≤ next_at → EndFrom k later → EndFrom k (line_says width number next_at fault bytes later)
line-late width number next_at k (Some kind) bytes later le h = tt
line-late width number next_at k None [] later le h = h
line-late width number next_at k None (b ∷ bs) later le h = (le, h)

-- a first line, and the lines behind it
first-late : (width k : ℕ) (front : List ℕ) (l : PhysicalLine) (ls : List PhysicalLine) → k ≤ l.next_at → EndFrom k (lines_say width ls) → EndFrom k (lines_say width (put_before front (l ∷ ls)))
unfolding lines_say
first-late width k front l ls le h = line-late width l.number l.next_at k (line_fault width l.is_cut (shown (front ++ l.bytes))) (shown (front ++ l.bytes)) (lines_say width ls) le h

none-late : (width k : ℕ) → EndFrom k (lines_say width [])
unfolding lines_say
none-late width k = tt

-- no line ends before the bytes that are looked at
lines-late : (width limit k number at : ℕ) (front bytes : List ℕ) → k ≤ at → EndFrom k (lines_say width (put_before front (numbered_lines limit number at bytes)))
unfolding numbered_lines
lines-late width limit k number at front [] le = first-late width k front (record { number = number; bytes = []; next_at = at; is_cut = false }) [] le (none-late width k)
lines-late width limit k number at front (b ∷ bs) le =
    by (nat_le limit at) (is_line_feed b)
    (subst (λ (ls : List PhysicalLine). EndFrom k (lines_say width ls)) (put_before-nil (numbered_lines limit (number + 1) (at + 1) bs)) (lines-late width limit k (number + 1) (at + 1) [] bs (omega (arith, le))))
    (lines-late width limit k number (at + 1) (front ++ b ∷ []) bs (omega (arith, le)))
  where
    by : (c d : Bool) → EndFrom k (lines_say width (numbered_lines limit (number + 1) (at + 1) bs)) → EndFrom k (lines_say width (put_before (front ++ b ∷ []) (numbered_lines limit number (at + 1) bs))) → EndFrom k (lines_say width (put_before front (if c then record { number = number; bytes = []; next_at = at; is_cut = true } ∷ [] else if d then record { number = number; bytes = []; next_at = at + 1; is_cut = false } ∷ numbered_lines limit (number + 1) (at + 1) bs else put_before (b ∷ []) (numbered_lines limit number (at + 1) bs))))
    by true d next more = first-late width k front (record { number = number; bytes = []; next_at = at; is_cut = true }) [] le (none-late width k)
    by false true next more = first-late width k front (record { number = number; bytes = []; next_at = at + 1; is_cut = false }) (numbered_lines limit (number + 1) (at + 1) bs) (omega (arith, le)) next
    by false false next more = subst (λ (ls : List PhysicalLine). EndFrom k (lines_say width ls)) (sym (put_before-twice front (b ∷ []) (numbered_lines limit number (at + 1) bs))) more

-- a line that the limit cuts has a fault
cut-says : (width number next_at : ℕ) (o : Option VectorKind) (s : List ℕ) (later : SaidVectors) → (line_says width number next_at (fault_or o (end_fault width true s)) s later).vectors ≡ []
unfolding end_fault
cut-says width number next_at (Some kind) s later = refl
cut-says width number next_at None s later = refl

first-cut : (width : ℕ) (front : List ℕ) (l : PhysicalLine) → l.is_cut ≡ true → (lines_say width (put_before front (l ∷ []))).vectors ≡ []
unfolding lines_say
first-cut width front l is = rw is (cut-says width l.number l.next_at (byte_fault width (shown (front ++ l.bytes))) (shown (front ++ l.bytes)) nothing_said)

-- where a byte follows, each line ends behind it
lines-later : (width limit number at b : ℕ) (front bs : List ℕ) → EndFrom (at + 1) (lines_say width (put_before front (numbered_lines limit number at (b ∷ bs))))
unfolding numbered_lines
lines-later width limit number at b front bs = by (nat_le limit at) (is_line_feed b)
  where
    by : (c d : Bool) → EndFrom (at + 1) (lines_say width (put_before front (if c then record { number = number; bytes = []; next_at = at; is_cut = true } ∷ [] else if d then record { number = number; bytes = []; next_at = at + 1; is_cut = false } ∷ numbered_lines limit (number + 1) (at + 1) bs else put_before (b ∷ []) (numbered_lines limit number (at + 1) bs))))
    by true d = subst (λ (vs : List VectorLine). AllByRecursion (λ (v : VectorLine). at + 1 ≤ v.next_at) vs) (sym (first-cut width front (record { number = number; bytes = []; next_at = at; is_cut = true }) refl)) tt
    by false true = first-late width (at + 1) front (record { number = number; bytes = []; next_at = at + 1; is_cut = false }) (numbered_lines limit (number + 1) (at + 1) bs) (omega arith)
        (subst (λ (ls : List PhysicalLine). EndFrom (at + 1) (lines_say width ls)) (put_before-nil (numbered_lines limit (number + 1) (at + 1) bs)) (lines-late width limit (at + 1) (number + 1) (at + 1) [] bs (omega arith)))
    by false false = subst (λ (ls : List PhysicalLine). EndFrom (at + 1) (lines_say width ls)) (sym (put_before-twice front (b ∷ []) (numbered_lines limit number (at + 1) bs))) (lines-late width limit (at + 1) number (at + 1) (front ++ b ∷ []) bs (omega arith))

-- ---- the end of the file, and a line feed there

-- what a file says that ends here, and the same with a line feed more
abbrev ending : (width limit number at : ℕ) → (front : List ℕ) → List VectorLine
ending width limit number at front = (lines_say width (put_before front (numbered_lines limit number at []))).vectors

abbrev fed_ending : (width limit number at : ℕ) → (front : List ℕ) → List VectorLine
fed_ending width limit number at front = (lines_say width (put_before front (numbered_lines limit number at (10 ∷ [])))).vectors

empty-says : (width number next_at : ℕ) (fault : Option VectorKind) (later : SaidVectors) → later.vectors ≡ [] → (line_says width number next_at fault [] later).vectors ≡ []
empty-says width number next_at (Some kind) later none = refl
empty-says width number next_at None later none = none

-- an empty line, before lines that say no vector
first-empty : (width : ℕ) (l : PhysicalLine) (ls : List PhysicalLine) → l.bytes ≡ [] → (lines_say width ls).vectors ≡ [] → (lines_say width (l ∷ ls)).vectors ≡ []
unfolding lines_say
first-empty width l ls is none = by (shown l.bytes) (ap shown is ∙ shown-nil)
  where
    by : (s : List ℕ) → s ≡ [] → (line_says width l.number l.next_at (line_fault width l.is_cut s) s (lines_say width ls)).vectors ≡ []
    by s e = subst (λ (t : List ℕ). (line_says width l.number l.next_at (line_fault width l.is_cut t) t (lines_say width ls)).vectors ≡ []) (sym e)
        (empty-says width l.number l.next_at (line_fault width l.is_cut []) (lines_say width ls) none)

no-lines : (width : ℕ) → (lines_say width []).vectors ≡ []
unfolding lines_say
no-lines width = refl

nothing-ends : (width limit number at : ℕ) → (lines_say width (numbered_lines limit number at [])).vectors ≡ []
unfolding numbered_lines
nothing-ends width limit number at = first-empty width (record { number = number; bytes = []; next_at = at; is_cut = false }) [] refl (no-lines width)

nothing-fed : (width limit number at : ℕ) → (lines_say width (numbered_lines limit number at (10 ∷ []))).vectors ≡ []
unfolding numbered_lines
nothing-fed width limit number at = by (nat_le limit at) (nothing-ends width limit (number + 1) (at + 1))
  where
    by : (c : Bool) → (lines_say width (numbered_lines limit (number + 1) (at + 1) [])).vectors ≡ [] → (lines_say width (if c then record { number = number; bytes = []; next_at = at; is_cut = true } ∷ [] else record { number = number; bytes = []; next_at = at + 1; is_cut = false } ∷ numbered_lines limit (number + 1) (at + 1) [])).vectors ≡ []
    by true later = first-empty width (record { number = number; bytes = []; next_at = at; is_cut = true }) [] refl (no-lines width)
    by false later = first-empty width (record { number = number; bytes = []; next_at = at + 1; is_cut = false }) (numbered_lines limit (number + 1) (at + 1) []) refl later

abbrev line_of : List Bool → ℕ → VectorLine
line_of bits next_at = record { bits = bits; next_at = next_at }

line-alike : (width number next_at : ℕ) (fault : Option VectorKind) (bytes : List ℕ) (later other : SaidVectors) → later.vectors ≡ other.vectors → (line_says width number next_at fault bytes later).vectors ≡ (line_says width number next_at fault bytes other).vectors
line-alike width number next_at (Some kind) bytes later other same = refl
line-alike width number next_at None [] later other same = same
line-alike width number next_at None (b ∷ bs) later other same = ap (λ (vs : List VectorLine). line_of (bits_of width (b ∷ bs)) next_at ∷ vs) same

first-alike : (width : ℕ) (front : List ℕ) (l : PhysicalLine) (ls others : List PhysicalLine) → (lines_say width ls).vectors ≡ (lines_say width others).vectors → (lines_say width (put_before front (l ∷ ls))).vectors ≡ (lines_say width (put_before front (l ∷ others))).vectors
unfolding lines_say
first-alike width front l ls others same = line-alike width l.number l.next_at (line_fault width l.is_cut (shown (front ++ l.bytes))) (shown (front ++ l.bytes)) (lines_say width ls) (lines_say width others) same

-- behind a line feed one more says nothing
abbrev SayAlike : (width : ℕ) → (front : List ℕ) → List PhysicalLine → List PhysicalLine → Type 0
SayAlike width front ls others = (lines_say width (put_before front ls)).vectors ≡ (lines_say width (put_before front others)).vectors

feed-says : (width limit number at : ℕ) (front bytes : List ℕ) → SayAlike width front (numbered_lines limit number at (bytes ++ 10 ∷ [])) (numbered_lines limit number at (bytes ++ 10 ∷ 10 ∷ []))
unfolding numbered_lines
feed-says width limit number at front [] = by (nat_le limit at)
  where
    by : (c : Bool) → SayAlike width front (if c then record { number = number; bytes = []; next_at = at; is_cut = true } ∷ [] else record { number = number; bytes = []; next_at = at + 1; is_cut = false } ∷ numbered_lines limit (number + 1) (at + 1) []) (if c then record { number = number; bytes = []; next_at = at; is_cut = true } ∷ [] else record { number = number; bytes = []; next_at = at + 1; is_cut = false } ∷ numbered_lines limit (number + 1) (at + 1) (10 ∷ []))
    by true = refl
    by false = first-alike width front (record { number = number; bytes = []; next_at = at + 1; is_cut = false }) (numbered_lines limit (number + 1) (at + 1) []) (numbered_lines limit (number + 1) (at + 1) (10 ∷ []))
        (nothing-ends width limit (number + 1) (at + 1) ∙ sym (nothing-fed width limit (number + 1) (at + 1)))
feed-says width limit number at front (b ∷ bytes) =
    by (nat_le limit at) (is_line_feed b) (feed-says width limit (number + 1) (at + 1) [] bytes) (feed-says width limit number (at + 1) (front ++ b ∷ []) bytes)
  where
    plain : (ls others : List PhysicalLine) → SayAlike width [] ls others → (lines_say width ls).vectors ≡ (lines_say width others).vectors
    plain ls others h =
        ap (λ (l : List PhysicalLine). (lines_say width l).vectors) (sym (put_before-nil ls)) ∙ (h ∙ ap (λ (l : List PhysicalLine). (lines_say width l).vectors) (put_before-nil others))

    by : (c d : Bool) → SayAlike width [] (numbered_lines limit (number + 1) (at + 1) (bytes ++ 10 ∷ [])) (numbered_lines limit (number + 1) (at + 1) (bytes ++ 10 ∷ 10 ∷ [])) → SayAlike width (front ++ b ∷ []) (numbered_lines limit number (at + 1) (bytes ++ 10 ∷ [])) (numbered_lines limit number (at + 1) (bytes ++ 10 ∷ 10 ∷ [])) →
        SayAlike width front (if c then record { number = number; bytes = []; next_at = at; is_cut = true } ∷ [] else if d then record { number = number; bytes = []; next_at = at + 1; is_cut = false } ∷ numbered_lines limit (number + 1) (at + 1) (bytes ++ 10 ∷ []) else put_before (b ∷ []) (numbered_lines limit number (at + 1) (bytes ++ 10 ∷ []))) (if c then record { number = number; bytes = []; next_at = at; is_cut = true } ∷ [] else if d then record { number = number; bytes = []; next_at = at + 1; is_cut = false } ∷ numbered_lines limit (number + 1) (at + 1) (bytes ++ 10 ∷ 10 ∷ []) else put_before (b ∷ []) (numbered_lines limit number (at + 1) (bytes ++ 10 ∷ 10 ∷ [])))
    by true d next more = refl
    by false true next more = first-alike width front (record { number = number; bytes = []; next_at = at + 1; is_cut = false }) (numbered_lines limit (number + 1) (at + 1) (bytes ++ 10 ∷ [])) (numbered_lines limit (number + 1) (at + 1) (bytes ++ 10 ∷ 10 ∷ []))
        (plain (numbered_lines limit (number + 1) (at + 1) (bytes ++ 10 ∷ [])) (numbered_lines limit (number + 1) (at + 1) (bytes ++ 10 ∷ 10 ∷ [])) next)
    by false false next more =
        let says : List PhysicalLine → List VectorLine = λ ls. (lines_say width ls).vectors in
        ap says (put_before-twice front (b ∷ []) (numbered_lines limit number (at + 1) (bytes ++ 10 ∷ []))) ∙ (more ∙ sym (ap says (put_before-twice front (b ∷ []) (numbered_lines limit number (at + 1) (bytes ++ 10 ∷ 10 ∷ [])))))

-- a line that says a vector says another place with a line feed more
ends-apart : (width number at : ℕ) (fault : Option VectorKind) (bytes : List ℕ) (later : SaidVectors) → (line_says width number at fault bytes nothing_said).vectors ≡ (line_says width number (at + 1) fault bytes later).vectors → (line_says width number at fault bytes nothing_said).vectors ≡ []
ends-apart width number at (Some kind) bytes later same = refl
ends-apart width number at None [] later same = refl
ends-apart width number at None (b ∷ bs) later same =
    let end : at ≡ at + 1 = ap (λ (vs : List VectorLine). (get_or vs 0 (record { bits = []; next_at = 0 })).next_at) same in
    absurd (let never : ⊥ = omega (arith, end) in never)

fed-apart : (width limit number at : ℕ) (front : List ℕ) → ending width limit number at front ≡ fed_ending width limit number at front → ending width limit number at front ≡ []
unfolding numbered_lines lines_say
fed-apart width limit number at front same = by (nat_le limit at) same
  where
    by : (c : Bool) → (lines_say width (put_before front (record { number = number; bytes = []; next_at = at; is_cut = false } ∷ []))).vectors ≡ (lines_say width (put_before front (if c then record { number = number; bytes = []; next_at = at; is_cut = true } ∷ [] else record { number = number; bytes = []; next_at = at + 1; is_cut = false } ∷ numbered_lines limit (number + 1) (at + 1) []))).vectors → (lines_say width (put_before front (record { number = number; bytes = []; next_at = at; is_cut = false } ∷ []))).vectors ≡ []
    by true e = e ∙ first-cut width front (record { number = number; bytes = []; next_at = at; is_cut = true }) refl
    by false e = ends-apart width number at (line_fault width false (shown (front ++ []))) (shown (front ++ [])) (lines_say width (numbered_lines limit (number + 1) (at + 1) [])) e

-- ---- bytes that end no vector's line

-- the line of a vector ends behind so many bytes; or with them, where the file does, and no line feed does so
pub record IsLate (place : ℕ) (bytes rest : List ℕ) (v : VectorLine) : Type 0 where
  pub from : place ≤ v.next_at
  pub last : v.next_at ≡ place → rest ≡ []
  pub unfed : v.next_at ≡ place → (front : List ℕ) → bytes ≡ front ++ 10 ∷ [] → ⊥
  pub some : v.next_at ≡ place → bytes ≡ [] → ⊥

later-late : (place b : ℕ) (bytes bs : List ℕ) (v : VectorLine) → place + 1 ≤ v.next_at → IsLate place bytes (b ∷ bs) v
later-late place b bytes bs v le = record {
  from = omega (arith, le);
  last = λ e. absurd (let never : ⊥ = omega (arith, e, le) in never);
  unfed = λ e front is. omega (arith, e, le);
  some = λ e is. omega (arith, e, le);
}

-- at the end of the file
all-last : (place : ℕ) (bytes : List ℕ) (vs : List VectorLine) → AllByRecursion (λ (v : VectorLine). place ≤ v.next_at) vs → ((front : List ℕ) → bytes ≡ front ++ 10 ∷ [] → vs ≡ []) → (bytes ≡ [] → vs ≡ []) → AllByRecursion (IsLate place bytes []) vs
all-last place bytes [] h unfed some = tt
all-last place bytes (v ∷ vs) h unfed some = all-more (λ (x : VectorLine). place ≤ x.next_at) (IsLate place bytes []) (v ∷ vs) (λ x le. record {
  from = le;
  last = λ _. refl;
  unfed = λ _ front is. let none = unfed front is in absurd (cc);
  some = λ _ is. let none = some is in absurd (cc);
}) h

module _ (r : VectorReading) (bytes : List ℕ) (open_ : AreOpen r bytes) where
  vectors-of : (rest : List ℕ) → (says_next r (bytes ++ rest)).vectors ≡ (lines_say r.width (put_before open_.front (numbered_lines r.limit open_.number open_.at rest))).vectors
  vectors-of rest = ap (λ (s : SaidVectors). s.vectors) (open_.says rest)

  -- none stands in them alone
  none-fed : (front : List ℕ) → bytes ≡ front ++ 10 ∷ [] → (says_next r (bytes ++ [])).vectors ≡ []
  none-fed front is =
      let next : List ℕ → List VectorLine = λ l. (says_next r l).vectors in
      let nil : List PhysicalLine → List VectorLine = λ ls. (lines_say r.width ls).vectors in
      let lines : List ℕ → List PhysicalLine = λ l. numbered_lines r.limit r.line r.at l in
      let fed : bytes ++ 10 ∷ [] ≡ front ++ 10 ∷ 10 ∷ [] = ap (λ (l : List ℕ). l ++ 10 ∷ []) is ∙ append_assoc front (10 ∷ []) (10 ∷ []) in
      let plain : bytes ++ [] ≡ front ++ 10 ∷ [] = append-nil bytes ∙ is in
      let alike : next (bytes ++ []) ≡ next (bytes ++ 10 ∷ []) =
      ap next plain ∙ (ap nil (sym (put_before-nil (lines (front ++ 10 ∷ [])))) ∙ (feed-says r.width r.limit r.line r.at [] front
      ∙ (ap nil (put_before-nil (lines (front ++ 10 ∷ 10 ∷ []))) ∙ ap next (sym fed)))) in
      vectors-of [] ∙ fed-apart r.width r.limit open_.number open_.at open_.front (sym (vectors-of []) ∙ (alike ∙ vectors-of (10 ∷ [])))

  none-empty : bytes ≡ [] → (says_next r (bytes ++ [])).vectors ≡ []
  none-empty is = ap (λ (l : List ℕ). (says_next r (l ++ [])).vectors) is ∙ nothing-ends r.width r.limit r.line r.at

  pub open-late : (rest : List ℕ) → AllByRecursion (IsLate (r.at + length bytes) bytes rest) (says_next r (bytes ++ rest)).vectors
  open-late [] =
      let from : EndFrom open_.at (says_next r (bytes ++ [])) = subst (λ (s : SaidVectors). EndFrom open_.at s) (sym (open_.says [])) (lines-late r.width r.limit open_.at open_.number open_.at open_.front [] (omega arith)) in
      let at : EndFrom (r.at + length bytes) (says_next r (bytes ++ [])) = subst (λ (k : ℕ). EndFrom k (says_next r (bytes ++ []))) open_.behind from in
      all-last (r.at + length bytes) bytes (says_next r (bytes ++ [])).vectors at none-fed none-empty
  open-late (b ∷ bs) =
      let from : EndFrom (open_.at + 1) (says_next r (bytes ++ b ∷ bs)) = subst (λ (s : SaidVectors). EndFrom (open_.at + 1) s) (sym (open_.says (b ∷ bs))) (lines-later r.width r.limit open_.number open_.at b open_.front bs) in
      let at : EndFrom ((r.at + length bytes) + 1) (says_next r (bytes ++ b ∷ bs)) = subst (λ (k : ℕ). EndFrom (k + 1) (says_next r (bytes ++ b ∷ bs))) open_.behind from in
      all-more (λ (v : VectorLine). (r.at + length bytes) + 1 ≤ v.next_at) (IsLate (r.at + length bytes) bytes (b ∷ bs)) (says_next r (bytes ++ b ∷ bs)).vectors (λ v le. later-late (r.at + length bytes) b bytes bs v le) at
