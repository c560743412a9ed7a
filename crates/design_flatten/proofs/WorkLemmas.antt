-- Frames and the lines that are left.
use Rattle.std.proofs.Common.{◌≡◌, ℕ, zero, suc, ◌+◌, ◌-◌, ◌<◌, ◌≤◌, ◌||◌, Bool, true, false, cond, List, [], ◌∷◌, ◌++◌, Option, Some, None, length, map, refl, ap, sym, ◌∙◌, subst, arith, append_assoc, length-append, drop, get_or, take, add-one, inl, inr}
use Rattle.design_flatten.proofs.Vocabulary.{Bor, option_or, bytes_eq, drop-cons, get_or-append_seam, cases_lt, or_parts, Signal, PairDef}
use Rattle.design_flatten.proofs.Vocabulary.{Model, Lean, Refusal, Memory, Limit}
use Rattle.std.proofs.lemmas.List.{length-map, map_push, take_more, append-nil, drop-map, get_or_append_left}
use Rattle.design_flatten.specs.declared.{placed.PlacedPart.PlacedPart, frames.Frame.Frame, frames.Found.Found}
use Rattle.design_flatten.specs.declared.placed.PlacedPart.TheVariants as placed
use Rattle.design_flatten.specs.declared.work.Origin.{Origin as Kept}
use Rattle.design_flatten.specs.Vocabulary.{Pair, Part, InputPart, OutputPart, CoverPart, LatchPart, UsePart, Line, is_use, pair_of, with_place, next_place, with_places, line_in, lean_in, place_of, part_of, IsOver, is_over, given, ModelPlace, becomes, pair_through, through, part_through, lines_at, at_first, first_model, without_ports, model_named, replace, replace_first, after, is_left, IsSubstituted, first_use, origin_of, way_to, left_from, left_in, left_of, AreFrames, use_line, IsPlaced, IsOverIn, IsOrigin, AreOrigins, IsRefused}
use Rattle.design_flatten.specs.Given.{looked_up}
use Rattle.design_flatten.proofs.SignalsLemmas.{over_more}
use Rattle.design_flatten.proofs.BodyLemmas.{lean_plain}
use Rattle.design_flatten.proofs.SubstitutionLemmas.{stays_after}

-- ---- what is given

-- a pair more
given_push : (pairs : List (Pair Signal)) (p : Pair Signal) (w : List ℕ) → given (pairs ++ p ∷ []) w ≡ cond (bytes_eq p.formal w) (Some p.actual) (given pairs w)
given_push [] p w = refl
given_push (q ∷ pairs) p w = rw (given_push pairs p w) (by (bytes_eq p.formal w))
  where
    by : (b : Bool) → option_or (cond b (Some p.actual) (given pairs w)) (cond (bytes_eq q.formal w) (Some q.actual) None) ≡ cond b (Some p.actual) (option_or (given pairs w) (cond (bytes_eq q.formal w) (Some q.actual) None))
    by true = refl
    by false = refl

pub given_more : (f : ℕ → Signal) (ps : List (Bor PairDef)) (i : ℕ) (d : Bor PairDef) (w : List ℕ) → i < length ps →
    given (map (pair_through f) (map (λ p. pair_of p.now) (take (i + 1) ps))) w ≡ cond (bytes_eq (get_or ps i d).now.formal w) (Some (f (get_or ps i d).now.actual)) (given (map (pair_through f) (map (λ p. pair_of p.now) (take i ps))) w)
given_more f ps i d w lt =
    let pair : Bor PairDef → Pair ℕ = λ p. pair_of p.now in
    ap (λ xs. given (map (pair_through f) (map pair xs)) w) (take_more ps i d lt)
    ∙ ap (λ xs. given (map (pair_through f) xs) w) (map_push pair (take i ps) (get_or ps i d))
    ∙ ap (λ xs. given xs w) (map_push (pair_through f) (map pair (take i ps)) (pair (get_or ps i d)))
    ∙ given_push (map (pair_through f) (map pair (take i ps))) (pair_through f (pair (get_or ps i d))) w

-- ---- the next line of a frame

plain_place : (k : ℕ) (p : Part ℕ) → is_use p ≡ false → (with_place k p ≡ p) × (next_place k p ≡ k)
plain_place k (InputPart s) h = (refl, refl)
plain_place k (OutputPart s) h = (refl, refl)
plain_place k (CoverPart out ins rows off) h = (refl, refl)
plain_place k (LatchPart from out init control) h = (refl, refl)
plain_place k (UsePart m pairs way) h = absurd cc

module _ (way : List ℕ) (f : Frame) (k : ℕ) (o : Lean) (lt : k < length f.lines.now) (is : o ≡ get_or f.lines.now k o) where
  abbrev T : Line ℕ → Line Signal
  T = through (place_of f.given way) f.names.now

  cut : drop k (map lean_in f.lines.now) ≡ lean_in o ∷ drop (k + 1) (map lean_in f.lines.now)
  cut =
      drop-map lean_in k f.lines.now
      ∙ ap (map lean_in) (drop-cons f.lines.now k o lt ∙ ap (λ x. x ∷ drop (suc k) f.lines.now) (sym is) ∙ ap (λ n. o ∷ drop n f.lines.now) (sym (add-one k)))
      ∙ ap (λ xs. lean_in o ∷ xs) (sym (drop-map lean_in (k + 1) f.lines.now))

  pub next_plain : is_use (line_in o.line).part ≡ false → left_from way f k f.uses ≡ T (line_in o.line) ∷ left_from way f (k + 1) f.uses
  next_plain none =
      let p = plain_place f.uses (line_in o.line).part none in
      ap (λ ls. map T (with_places f.uses ls)) (cut ∙ ap (λ l. l ∷ drop (k + 1) (map lean_in f.lines.now)) (lean_plain o none))
      ∙ (λ i. T (record { number = o.line.number; part = p.0 i }) ∷ map T (with_places (p.1 i) (drop (k + 1) (map lean_in f.lines.now))))

  pub next_use : (m : List ℕ) (ps : List (Pair ℕ)) → (lean_in o).part ≡ UsePart m ps [] → left_from way f k f.uses ≡ use_line o.line.number m (map (pair_through (becomes (place_of f.given []) f.names.now)) ps) (way ++ f.uses ∷ []) ∷ left_from way f (k + 1) (f.uses + 1)
  next_use m ps e =
      ap (λ ls. map T (with_places f.uses ls)) cut
      ∙ ap (λ p. T (record { number = o.line.number; part = with_place f.uses p }) ∷ map T (with_places (next_place f.uses p) (drop (k + 1) (map lean_in f.lines.now)))) e

drop_past : {A : Type 0} (xs : List A) (k : ℕ) → length xs ≤ k → drop k xs ≡ []
drop_past [] zero h = refl
drop_past [] (suc k) h = refl
drop_past (x ∷ xs) zero h = absurd (let no : ⊥ = omega arith in no)
drop_past (x ∷ xs) (suc k) h = drop_past xs k (omega arith)

-- behind the last line nothing is left
pub nothing_left : (way : List ℕ) (f : Frame) (k : ℕ) → length f.lines.now ≤ k → left_from way f k f.uses ≡ []
nothing_left way f k le = ap (λ ls. map (through (place_of f.given way) f.names.now) (with_places f.uses ls)) (drop_past (map lean_in f.lines.now) k (omega (arith, le, length-map f.lines.now lean_in)))

-- ---- the first line that uses a model

passed : (ms : List Model) (k : ℕ) (l : Line Signal) (front now later to : List (Line Signal)) → is_left (l ∷ front) ≡ false → (is_left front ≡ false → later ≡ to) → replace ms k l l.part now later ≡ l ∷ to
passed ms k l front now later to h e = by l.part h
  where
    by : (p : Part Signal) → (is_use p || is_left front) ≡ false → replace ms k l p now later ≡ l ∷ to
    by (UsePart o ps w) h = absurd cc
    by (InputPart s) h = ap (λ xs. l ∷ xs) (e h)
    by (OutputPart s) h = ap (λ xs. l ∷ xs) (e h)
    by (CoverPart out ins rows off) h = ap (λ xs. l ∷ xs) (e h)
    by (LatchPart from out init control) h = ap (λ xs. l ∷ xs) (e h)

replaces : (ms : List Model) (k : ℕ) (front : List (Line Signal)) (n : ℕ) (m : List ℕ) (pairs : List (Pair Signal)) (way : List ℕ) (rest : List (Line Signal)) → is_left front ≡ false → replace_first ms k (front ++ use_line n m pairs way ∷ rest) ≡ front ++ (without_ports (lines_at (model_named ms m) (record { used = k; way = way; actuals = given pairs })) ++ rest)
replaces ms k [] n m pairs way rest h = refl
replaces ms k (l ∷ front) n m pairs way rest h = passed ms k l front (front ++ use_line n m pairs way ∷ rest) _ _ h (replaces ms k front n m pairs way rest)

-- what stands in front stays
kept : (ms : List Model) (k : ℕ) (front back : List (Line Signal)) → is_left front ≡ false → replace_first ms k (front ++ back) ≡ front ++ replace_first ms k back
kept ms k [] back h = refl
kept ms k (l ∷ front) back h = passed ms k l front (front ++ back) _ _ h (kept ms k front back)

first_of : (ms : List Model) (front : List (Line Signal)) (n : ℕ) (m : List ℕ) (pairs : List (Pair Signal)) (way : List ℕ) (rest : List (Line Signal)) → is_left front ≡ false → first_use ms (front ++ use_line n m pairs way ∷ rest) ≡ record { model = model_named ms m; way = way }
first_of ms [] n m pairs way rest h = refl
first_of ms (l ∷ front) n m pairs way rest h = by l.part h (first_of ms front n m pairs way rest)
  where
    by : (p : Part Signal) → (is_use p || is_left front) ≡ false → (is_left front ≡ false → first_use ms (front ++ use_line n m pairs way ∷ rest) ≡ record { model = model_named ms m; way = way }) → first_use ms (record { number = l.number; part = p } ∷ front ++ use_line n m pairs way ∷ rest) ≡ record { model = model_named ms m; way = way }
    by (UsePart o ps w) h later = absurd cc
    by (InputPart s) h later = later h
    by (OutputPart s) h later = later h
    by (CoverPart out ins rows off) h later = later h
    by (LatchPart from out init control) h later = later h

pub left_after : (front lines : List (Line Signal)) → is_left front ≡ false → is_left (front ++ lines) ≡ is_left lines
left_after [] lines h = refl
left_after (l ∷ front) lines h =
    let both = or_parts (is_use l.part) (is_left front) h in
    ap (λ b. b || is_left (front ++ lines)) both.0 ∙ left_after front lines both.1

pub none_in : (p : PlacedPart) → is_use (part_of p) ≡ false
none_in (placed.Input s) = refl
none_in (placed.Output s) = refl
none_in (placed.Cover out ins cover) = refl
none_in (placed.Latch from out init control) = refl

kept_after : (ms : List Model) (k : ℕ) (front back : List (Line Signal)) → is_left front ≡ false → after ms k ≡ front ++ back → (j : ℕ) → (rest : List (Line Signal)) × (after ms (j + k) ≡ front ++ rest)
unfolding after
kept_after ms k front back h e zero = let n : 0 + k ≡ k = omega arith in (back, ap (after ms) n ∙ e)
kept_after ms k front back h e (suc j) =
    let r = kept_after ms k front back h e j in
    let n : suc j + k ≡ suc (j + k) = omega arith in
    (replace_first ms (suc (j + k)) r.0, ap (after ms) n ∙ ap (replace_first ms (suc (j + k))) r.1 ∙ kept ms (suc (j + k)) front r.0 h)

-- a front that is over is over in every substituted design
over_in_all : (ms : List Model) (k : ℕ) (front back : List (Line Signal)) → is_left front ≡ false → is_over front ≡ true → after ms k ≡ front ++ back → (n : ℕ) (lines : List (Line Signal)) → IsSubstituted ms n lines → is_over lines ≡ true
over_in_all ms k front back h over e n lines s = elim (cases_lt n k) [
  | inl lt ↦
      let same : (k - n) + n ≡ k = omega arith in
      let none : is_left (after ms n) ≡ false = ap is_left (sym s.reached) ∙ s.none_left in
      let is : lines ≡ front ++ back = s.reached ∙ sym (stays_after ms n none (k - n)) ∙ ap (after ms) same ∙ e in
      rw is (over_more front back over)
  | inr le ↦
      let same : (n - k) + k ≡ n = omega arith in
      let r = kept_after ms k front back h e (n - k) in
      let is : lines ≡ front ++ r.0 = s.reached ∙ ap (after ms) (sym same) ∙ r.1 in
      rw is (over_more front r.0 over)
]

-- one left after the most replacements is left before
pub not_within : (ms : List Model) (k : ℕ) → is_left (after ms k) ≡ true → (n : ℕ) (lines : List (Line Signal)) → n ≤ k → IsSubstituted ms n lines → is_over lines ≡ true
not_within ms k left n lines le s =
    let same : (k - n) + n ≡ k = omega arith in
    let none : is_left (after ms n) ≡ false = ap is_left (sym s.reached) ∙ s.none_left in
    let no : false ≡ true = sym none ∙ ap is_left (sym (stays_after ms n none (k - n)) ∙ ap (after ms) same) ∙ left in
    absurd cc

-- ---- the whole

left_push : (ms : List Model) (fs : List Frame) (f : Frame) → left_of ms (fs ++ f ∷ []) ≡ left_in (way_to ms f.given.used) f ++ left_of ms fs
left_push ms [] f = sym (append-nil (left_in (way_to ms f.given.used) f))
left_push ms (g ∷ fs) f = rw (left_push ms fs f) (append_assoc (left_in (way_to ms f.given.used) f) (left_of ms fs) (left_in (way_to ms g.given.used) g))

-- what is given shows only in the names
same_given : (m : Model) (k : ℕ) (way : List ℕ) (one other : List ℕ → Option Signal) → ((w : List ℕ) → one w ≡ other w) → lines_at m (record { used = k; way = way; actuals = one }) ≡ lines_at m (record { used = k; way = way; actuals = other })
same_given m k way one other h = ap (λ (act : List ℕ → Option Signal). lines_at m (record { used = k; way = way; actuals = act })) (λ i w. h w i)

module _ (ms : List Model) (k : ℕ) (before : List (Line Signal)) (fs : List Frame) (f : Frame) (now : after ms k ≡ before ++ left_of ms (fs ++ f ∷ [])) where
  abbrev way : List ℕ
  way = way_to ms f.given.used

  in_front : after ms k ≡ (before ++ left_in way f) ++ left_of ms fs
  in_front = now ∙ ap (λ xs. before ++ xs) (left_push ms fs f) ∙ sym (append_assoc before (left_in way f) (left_of ms fs))

  -- a frame has ended
  pub ended : (placed : List (Line Signal)) → before ++ left_in way f ≡ placed → after ms k ≡ placed ++ left_of ms fs
  ended placed e = in_front ∙ ap (λ xs. xs ++ left_of ms fs) e

  -- a limit is passed
  pub refused : (e : Refusal) → IsOverIn (before ++ left_in way f) e → IsRefused ms e
  refused Memory h = tt
  refused Limit h = λ n lines le s. over_in_all ms k h.0 (h.1 ++ left_of ms fs) h.3 h.4 (in_front ∙ ap (λ xs. xs ++ left_of ms fs) h.2 ∙ append_assoc h.0 h.1 (left_of ms fs)) n lines s

  module _ (placed : List (Line Signal)) (u : Found) (number : ℕ) (pairs : List (Pair Signal)) (none : is_left placed ≡ false)
      (same : (w : List ℕ) → looked_up u.given w ≡ given pairs w)
      (e : before ++ left_in way f ≡ placed ++ use_line number u.model.now pairs (way ++ f.uses ∷ []) ∷ left_from way f u.next (f.uses + 1)) where
    abbrev rest : List (Line Signal)
    rest = left_from way f u.next (f.uses + 1) ++ left_of ms fs

    use_first : after ms k ≡ placed ++ use_line number u.model.now pairs (way ++ f.uses ∷ []) ∷ rest
    use_first = in_front ∙ ap (λ xs. xs ++ left_of ms fs) e ∙ append_assoc placed (use_line number u.model.now pairs (way ++ f.uses ∷ []) ∷ left_from way f u.next (f.uses + 1)) (left_of ms fs)

    -- one is left
    pub is_left_now : is_left (after ms k) ≡ true
    is_left_now = ap is_left use_first ∙ left_after placed (use_line number u.model.now pairs (way ++ f.uses ∷ []) ∷ rest) none

    -- what it leads to
    pub origin_is : origin_of ms (suc k) ≡ record { model = model_named ms u.model.now; way = way ++ f.uses ∷ [] }
    origin_is = ap (first_use ms) use_first ∙ first_of ms placed number u.model.now pairs (way ++ f.uses ∷ []) rest none

    -- a line is replaced
    pub replaced_more : (f2 g : Frame) → f2 ≡ record f { next = u.next; uses = f.uses + 1 } → g.given ≡ u.given → u.given.used ≡ k + 1
        → ((w : List ℕ) → left_in w g ≡ without_ports (lines_at (model_named ms u.model.now) (place_of u.given w)))
        → after ms (k + 1) ≡ placed ++ left_of ms ((fs ++ f2 ∷ []) ++ g ∷ [])
    unfolding after
    replaced_more f2 g fe ge used body =
        let m = model_named ms u.model.now in
        let w = way_to ms g.given.used in
        let n : g.given.used ≡ suc k = ap (λ x. x.used) ge ∙ used ∙ add-one k in
        let to : way ++ f.uses ∷ [] ≡ w = sym (ap (λ x. way_to ms x) n ∙ ap (λ o. o.way) origin_is) in
        let lines : without_ports (lines_at m (record { used = suc k; way = way ++ f.uses ∷ []; actuals = given pairs })) ≡ left_in w g =
        ap without_ports (same_given m (suc k) (way ++ f.uses ∷ []) (given pairs) (looked_up u.given) (λ x. sym (same x)))
        ∙ (λ i. without_ports (lines_at m (record { used = sym (used ∙ add-one k) i; way = to i; actuals = looked_up u.given })))
        ∙ sym (body w) in
        let old : left_from way f u.next (f.uses + 1) ++ left_of ms fs ≡ left_of ms (fs ++ f2 ∷ []) = sym (left_push ms fs f2 ∙ ap (λ x. left_in (way_to ms x.given.used) x ++ left_of ms fs) fe) in
        ap (after ms) (add-one k) ∙ ap (replace_first ms (suc k)) use_first
        ∙ replaces ms (suc k) placed number u.model.now pairs (way ++ f.uses ∷ []) rest none
        ∙ ap (λ xs. placed ++ xs) ((λ i. lines i ++ old i) ∙ sym (left_push ms (fs ++ f2 ∷ []) g))

pub frames_push : (n : ℕ) (fs : List Frame) (f : Frame) → AreFrames n fs → f.given.used ≤ n → f.uses ≤ n → AreFrames n (fs ++ f ∷ [])
frames_push n [] f h used uses = (used, uses, tt)
frames_push n (g ∷ fs) f h used uses = (h.0, h.1, frames_push n fs f h.2 used uses)

pub frames_pop : (n : ℕ) (fs : List Frame) (f : Frame) → AreFrames n (fs ++ f ∷ []) → AreFrames n fs × (f.given.used ≤ n) × (f.uses ≤ n)
frames_pop n [] f h = (tt, h.0, h.1)
frames_pop n (g ∷ fs) f h = let rest = frames_pop n fs f h.2 in ((h.0, h.1, rest.0), rest.1, rest.2)

pub frames_more : (n : ℕ) (fs : List Frame) → AreFrames n fs → AreFrames (n + 1) fs
frames_more n [] h = tt
frames_more n (f ∷ fs) h = let a = h.0 in let b = h.1 in (omega arith, omega arith, frames_more n fs h.2)

-- the first model
pub starts : (ms : List Model) (f : Frame) → f.given.used ≡ 0 → left_in [] f ≡ lines_at (first_model ms) at_first → after ms 0 ≡ left_of ms ([] ++ f ∷ [])
unfolding after
starts ms f used lines = sym (ap (λ w. left_in w f) (ap (way_to ms) used) ∙ lines)

-- ---- what is kept of the lines that were replaced

pub first_origin : (ms : List Model) (o : Kept) → o.names.now ≡ (first_model ms).names → AreOrigins ms ([] ++ o ∷ [])
first_origin ms o h zero d lt = h
first_origin ms o h (suc k) d lt = absurd (omega arith)

pub origins_push : (ms : List Model) (os : List Kept) (o : Kept) (k : ℕ) → length os ≡ k + 1 → AreOrigins ms os → IsOrigin ms (suc k) o → AreOrigins ms (os ++ o ∷ [])
origins_push ms os o k len h new j d lt = elim (cases_lt j (length os)) [
  | inl old ↦ subst (IsOrigin ms j) (sym (get_or_append_left os (o ∷ []) d j old)) (h j d old)
  | inr le ↦
      let last : j ≡ length os = omega (arith, lt, length-append os (o ∷ [])) in
      let is : suc k ≡ j = omega (arith, last, len) in
      subst (λ i. IsOrigin ms i (get_or (os ++ o ∷ []) j d)) is (subst (IsOrigin ms (suc k)) (sym (ap (λ i. get_or (os ++ o ∷ []) i d) last ∙ get_or-append_seam os o [] d)) new)
]

-- no frame is left
pub all_placed : (ms : List Model) (k : ℕ) (placed : List (Line Signal)) (fs : List Frame) → is_left placed ≡ false → after ms k ≡ placed ++ left_of ms fs → length fs ≡ 0 → IsSubstituted ms k placed
all_placed ms k placed [] none now e = record { reached = sym (now ∙ append-nil placed); none_left = none }
all_placed ms k placed (f ∷ fs) none now e = absurd (omega arith)

-- ---- by what was found

pub placed_none : (way : List ℕ) (k : ℕ) (f : Frame) (before placed : List (Line Signal)) (r : Option Found) → r ≡ None → IsPlaced way k f before placed r → IsPlaced way k f before placed None
placed_none way k f before placed r e h = subst (λ r. IsPlaced way k f before placed r) e h

pub placed_some : (way : List ℕ) (k : ℕ) (f : Frame) (before placed : List (Line Signal)) (r : Option Found) (u : Found) → r ≡ Some u → IsPlaced way k f before placed r → IsPlaced way k f before placed (Some u)
placed_some way k f before placed r u e h = subst (λ r. IsPlaced way k f before placed r) e h

-- a line that is refused
pub refused_line : (e : Refusal) (before : List (Line Signal)) (l : Line Signal) (all back : List (Line Signal)) → is_left before ≡ false → is_use l.part ≡ false → all ≡ before ++ l ∷ back → IsOver (before ++ l ∷ []) e → IsOverIn all e
refused_line Memory before l all back none plain d h = tt
refused_line Limit before l all back none plain d h =
    (before ++ l ∷ [], back, d ∙ sym (append_assoc before (l ∷ []) back), left_after before (l ∷ []) none ∙ ap (λ b. b || false) plain, h)

pub plain_through : (at : ModelPlace) (names : List (List ℕ)) (l : Line ℕ) → is_use l.part ≡ false → is_use (through at names l).part ≡ false
plain_through at names l h = by l.part h
  where
    by : (p : Part ℕ) → is_use p ≡ false → is_use (part_through at (becomes at names) p) ≡ false
    by (InputPart s) h = refl
    by (OutputPart s) h = refl
    by (CoverPart out ins rows off) h = refl
    by (LatchPart from out init control) h = refl
    by (UsePart m pairs w) h = h
