-- The tables whose inputs changed are evaluated, and no others.
use Rattle.std.proofs.Common.{◌≡◌, ◌≢◌, ◌⊎◌, inl, inr, ⊎_elim, ℕ, ◌+◌, ◌<◌, Bool, true, false, ◌||◌, cond, List, length, get_or, set, map, replicate, refl, sym, ap, ◌∙◌, subst, arith, slice_index}
use Rattle.std.specs.List.{All, Contains}
use Rattle.rig_simulated.proofs.Vocabulary.{false≢true, cases_eq, cases_Bool, false_from_ne_true, Faults, number_of, ClassNode, Gate, Queue}
use Rattle.rig_simulated.proofs.Vocabulary.{Flip, Events, knot_at, is_low, Fits, level_of, level_at, address_by, cell_by, ticked, IsTick}
use Rattle.rig_simulated.proofs.Vocabulary.{AreCounted, giving, HasGiven, is_marked, IsDue, IsQueue, KeepsMarks, StartsAt, AreReaders}
use Rattle.std.proofs.lemmas.List.{get_or-set_other, get_or-set_same, length-set, get_or_default, get_or-map, length-map, same_lists}
use Rattle.rig_simulated.specs.declared.readers.Readers.{Readers}
use Rattle.rig_simulated.specs.Events.{IsStill, AreStill, AreFlips, HasFlip, HaveFlips, AreAlike, ArePut, PutFlips, InputsKept, IsSound, AreEvents}
use Rattle.rig_simulated.proofs.Levels.{no_gate, six_alike}
use Rattle.rig_simulated.proofs.Twins.{twin_is}
use Rattle.rig_simulated.proofs.Pulling.{clear_before, marked_by_counts}

no_flip : Flip
no_flip = record { place = 0; output = false }

-- the same tables
pub alike_same : (xs : List Gate) → AreAlike xs xs
alike_same xs = record { len = refl; each = λ k d h. refl }

pub alike_on : (xs ys zs : List Gate) → AreAlike xs ys → AreAlike ys zs → AreAlike xs zs
alike_on xs ys zs a b = record {
  len = b.len ∙ a.len;
  each = λ k d h. b.each k d (let l = a.len in omega (arith, h, l)) ∙ ap (giving (get_or zs k d).output) (a.each k d h);
}

alike_by : (o : Bool) (x y : Gate) → y ≡ giving o x → y ≡ giving y.output x
alike_by o x y e = e ∙ ap (λ b. giving b x) (sym (ap (λ (z : Gate). z.output) e))

-- what the table at a place is, once it gives this
module _ (place : ℕ) (o : Bool) (xs ys : List Gate) (h : place < length xs) (g : HasGiven place o xs ys) where
  pub given_len : length ys ≡ length xs
  given_len = ap length (g no_gate) ∙ length-set xs place _

  pub given_here : (d : Gate) → get_or ys place d ≡ giving o (get_or xs place d)
  given_here d = ap (λ zs. get_or zs place d) (g d) ∙ get_or-set_same xs place (giving o (get_or xs place d)) d h

  pub given_there : (k : ℕ) (d : Gate) → (k ≡ place → ⊥) → get_or ys k d ≡ get_or xs k d
  given_there k d other = ap (λ zs. get_or zs k d) (g d) ∙ get_or-set_other xs place k (giving o (get_or xs place d)) d other

  pub alike_given : AreAlike xs ys
  alike_given = record { len = given_len; each = λ k d l. by k d (cases_eq k place) }
    where
      by : (k : ℕ) (d : Gate) → (k ≡ place) ⊎ (k ≡ place → ⊥) → get_or ys k d ≡ giving (get_or ys k d).output (get_or xs k d)
      by k d (inl same) = subst (λ i. get_or ys i d ≡ giving (get_or ys i d).output (get_or xs i d)) (sym same) (alike_by o (get_or xs place d) (get_or ys place d) (given_here d))
      by k d (inr other) = alike_by (get_or xs k d).output (get_or xs k d) (get_or ys k d) (given_there k d other)

-- what holds of tables whatever they give
module _ (xs ys : List Gate) (alike : AreAlike xs ys) where
  within_old : (k : ℕ) → k < length ys → k < length xs
  within_old k h = let l = alike.len in omega (arith, h, l)

  pub alike_ins : (k : ℕ) (d : Gate) → k < length xs → (get_or ys k d).ins ≡ (get_or xs k d).ins
  alike_ins k d h = ap (λ (x : Gate). x.ins) (alike.each k d h)

  pub alike_out : (k : ℕ) (d : Gate) → k < length xs → (get_or ys k d).out ≡ (get_or xs k d).out
  alike_out k d h = ap (λ (x : Gate). x.out) (alike.each k d h)

  pub alike_outs : (n : ℕ) → All (λ (x : Gate). x.out < n) xs → All (λ (x : Gate). x.out < n) ys
  alike_outs n are k d h = let w = are k d (within_old k h) in let e = alike_out k d (within_old k h) in omega (arith, w, e)

  pub alike_fits : (t n : ℕ) → All (Fits t n) xs → All (Fits t n) ys
  alike_fits t n are k d h = subst (Fits t n) (sym (alike.each k d (within_old k h))) (let x = are k d (within_old k h) in record { table = x.table; ins = x.ins; out = x.out })

  pub alike_readers : (r : Readers) → AreReaders xs r → AreReaders ys r
  alike_readers r are = record {
    sorted = are.sorted;
    within = λ k d h. (let w = are.within k d h in let l = alike.len in omega (arith, w, l));
    listed = λ k j d h m. subst (λ (is : List ℕ). Contains r.list.items (record { class = slice_index is j; place = k })) (sym (alike_ins k d (within_old k h))) (are.listed k j d (within_old k h) m);
    len = are.len ∙ sym alike.len;
    starts = λ k d h. subst (λ (o : ℕ). StartsAt r.list.items o (slice_index r.starts.items k)) (sym (alike_out k d (within_old k h))) (are.starts k d (within_old k h));
  }

pub alike_map : (step : Gate → Gate) → ((x : Gate) → step x ≡ giving (step x).output x) → (xs ys : List Gate) → ys ≡ map step xs → AreAlike xs ys
alike_map step only xs ys e = record {
  len = ap length e ∙ length-map xs step;
  each = λ k d h. (let s : get_or ys k d ≡ step (get_or xs k d) = ap (λ zs. get_or zs k d) e ∙ get_or-map step xs k d d h in alike_by (step (get_or xs k d)).output (get_or xs k d) (get_or ys k d) (s ∙ only (get_or xs k d)));
}

-- a table more has changed
pub sound_given : (place : ℕ) (o : Bool) (xs ys : List Gate) (r : Readers) (p q : Queue) (pulls old : List ℕ) (low new : List Bool) → place < length xs → HasGiven place o xs ys → IsSound xs r p old low → IsQueue q → length q.marks.items ≡ length p.marks.items → length new ≡ length low → AreCounted ys pulls new → IsSound ys r q pulls new
sound_given place o xs ys r p q pulls old low new h g is queue marks len counted =
    let a = alike_given place o xs ys h g in
    record {
      readers = alike_readers xs ys a r is.readers;
      queue = queue;
      marks = marks ∙ is.marks ∙ sym a.len;
      outs = subst (λ n. All (λ (x : Gate). x.out < n) ys) (sym len) (alike_outs xs ys a (length low) is.outs);
      counted = counted;
    }

-- a class's level hangs on its own mark
level_there : (knots : List ClassNode) (pins low new : List Bool) (r : ℕ) → is_low new r ≡ is_low low r → level_at knots pins new r ≡ level_at knots pins low r
level_there knots pins low new r e = ap (λ b. level_of (knot_at knots r).held (is_low pins r || b)) e

-- where the level stays, and where those that read the class are listed
module _ (xs : List Gate) (place class : ℕ) (d : Gate) (marks : List Bool) (knots : List ClassNode) (pins low new : List Bool) (is : class ≡ (get_or xs place d).out) (others : (c : ℕ) (e : Gate) → c ≢ (get_or xs place e).out → is_low new c ≡ is_low low c) where
  elsewhere : (c : ℕ) → (c ≡ class → ⊥) → level_at knots pins new c ≡ level_at knots pins low c
  elsewhere c other = level_there knots pins low new c (others c d (λ q. other (q ∙ sym is)))

  pub inputs_same : level_at knots pins new class ≡ level_at knots pins low class → InputsKept xs marks (level_at knots pins low) (level_at knots pins new)
  inputs_same same k j e h m none = by (cases_eq c class)
    where
      c : ℕ
      c = slice_index (get_or xs k e).ins j

      by : (c ≡ class) ⊎ (c ≡ class → ⊥) → level_at knots pins new c ≡ level_at knots pins low c
      by (inl q) = subst (λ r. level_at knots pins new r ≡ level_at knots pins low r) (sym q) same
      by (inr other) = elsewhere c other

  pub inputs_listed : (r : Readers) → AreReaders xs r → ((k : ℕ) → Contains r.list.items (record { class = class; place = k }) → is_marked marks k ≡ true) → InputsKept xs marks (level_at knots pins low) (level_at knots pins new)
  inputs_listed r are marked k j e h m none = by (cases_eq c class)
    where
      c : ℕ
      c = slice_index (get_or xs k e).ins j

      by : (c ≡ class) ⊎ (c ≡ class → ⊥) → level_at knots pins new c ≡ level_at knots pins low c
      by (inl same) = absurd (false≢true (sym none ∙ marked k (subst (λ (n : ℕ). Contains r.list.items (record { class = n; place = k })) same (are.listed k j e h m))))
      by (inr other) = elsewhere c other

unmarked_before : (old new : List Bool) → KeepsMarks old new → (k : ℕ) → is_marked new k ≡ false → is_marked old k ≡ false
unmarked_before old new kept k e = false_from_ne_true (is_marked old k) (λ t. false≢true (sym e ∙ kept k t))

pub inputs_on : (xs ys : List Gate) (old new : List Bool) (low mid end : ℕ → Bool) → AreAlike xs ys → KeepsMarks old new → InputsKept xs old low mid → InputsKept ys new mid end → InputsKept xs new low end
inputs_on xs ys old new low mid end alike kept a b k j d h m e =
    let two = b k j d (let l = alike.len in omega (arith, h, l)) m e in
    let one = a k j d h m (unmarked_before old new kept k e) in
    subst (λ (is : List ℕ). end (slice_index is j) ≡ mid (slice_index is j)) (alike_ins xs ys alike k d h) two ∙ one

-- what changes
module _ (f : Faults) (level : ℕ → Bool) where
  pub ticked_only : (x : Gate) → ticked f level x ≡ giving (ticked f level x).output x
  ticked_only x = refl

  pub still_if : (x : Gate) → (ticked f level x).output ≡ x.output → IsStill f level x
  still_if x e = twin_is x (ticked f level x) refl e

  module _ (old : List Gate) (flips : List Flip) (n : ℕ) (new : List Gate) (put : ArePut f level old flips n new) where
    -- the next one changes
    module _ (place : ℕ) (o : Bool) (end : List Gate) (len : length new ≡ length old) (within : place < length old) (gives : (d : Gate) → o ≡ (ticked f level (get_or old place d)).output) (g : HasGiven place o new end) where
      inside : place < length new
      inside = omega (arith, within, len)

      now : (d : Gate) → get_or end place d ≡ ticked f level (get_or old place d)
      now d = given_here place o new end inside g d ∙ ⊎_elim
          (λ e. ap (giving o) e ∙ ap (λ b. giving b (ticked f level (get_or old place d))) (gives d))
          (λ e. ap (giving o) e ∙ ap (λ b. giving b (get_or old place d)) (gives d))
          (put.each place d within)

      pub put_more : ((d : Flip) → (get_or flips n d).place ≡ place) → ArePut f level old flips (n + 1) end
      put_more is = record { each = λ k d h. each k d h (cases_eq k place); put = λ k d h p. puts k d h p (cases_eq k place) }
        where
          each : (k : ℕ) (d : Gate) → k < length old → (k ≡ place) ⊎ (k ≡ place → ⊥) → (get_or end k d ≡ ticked f level (get_or old k d)) ⊎ (get_or end k d ≡ get_or old k d)
          each k d h (inl same) = inl (subst (λ i. get_or end i d ≡ ticked f level (get_or old i d)) (sym same) (now d))
          each k d h (inr other) = subst (λ (z : Gate). (z ≡ ticked f level (get_or old k d)) ⊎ (z ≡ get_or old k d)) (sym (given_there place o new end inside g k d other)) (put.each k d h)

          puts : (k : ℕ) (d : Gate) → k < length old → HasFlip flips (n + 1) k → (k ≡ place) ⊎ (k ≡ place → ⊥) → get_or end k d ≡ ticked f level (get_or old k d)
          puts k d h p (inl same) = subst (λ i. get_or end i d ≡ ticked f level (get_or old i d)) (sym same) (now d)
          puts k d h p (inr other) =
              given_there place o new end inside g k d other
              ∙ put.put k d h (record { at = p.at; below = ⊎_elim (λ e. absurd (other (sym (p.is no_flip) ∙ ap (λ i. (get_or flips i no_flip).place) e ∙ is no_flip))) (λ e. let b = p.below in omega (arith, b, e)) (cases_eq p.at n); is = p.is })

  pub put_none : (old : List Gate) (flips : List Flip) → ArePut f level old flips 0 old
  put_none old flips = record { each = λ k d h. inr refl; put = λ k d h p. absurd (let b = p.below in omega (arith, b)) }

-- the next flip of a list
pub put_next : (f : Faults) (level : ℕ → Bool) (old : List Gate) (flips : List Flip) (all j : ℕ) (new end : List Gate) (x : Flip) → x ≡ get_or flips j x → j < all → j < length flips → length new ≡ length old → AreFlips f level old flips all →
    ArePut f level old flips j new → HasGiven x.place x.output new end → ArePut f level old flips (j + 1) end
put_next f level old flips all j new end x e lt h len are put g =
    put_more f level old flips j new put x.place x.output end len
    (subst (λ (y : Flip). y.place < length old) (sym e) (are.within j x lt))
    (λ d. ap (λ (y : Flip). y.output) e ∙ are.output j x d lt ∙ ap (λ (y : Flip). (ticked f level (get_or old y.place d)).output) (sym e))
    g (λ d. ap (λ (y : Flip). y.place) (get_or_default flips j d x h ∙ sym e))

pub put_first : (old : List Gate) (flips : List Flip) (all : ℕ) → PutFlips old flips all 0 old
put_first old flips all f level are = put_none f level old flips

-- the tables that are listed are evaluated one after the other
module _ (f : Faults) (level : ℕ → Bool) (gates : List Gate) where
  pub flips_none : (flips : List Flip) → AreFlips f level gates flips 0
  flips_none flips = record { within = λ j d h. absurd (omega (arith, h)); output = λ j d e h. absurd (omega (arith, h)) }

  pub due_none : (due : List ℕ) (flips : List Flip) (n : ℕ) → HaveFlips f level gates due 0 flips n
  due_none due flips n k d h p = absurd (let b = p.below in omega (arith, b))

  module _ (due : List ℕ) (i n : ℕ) (flips : List Flip) (have : HaveFlips f level gates due i flips n) (place : ℕ) (here_ : place ≡ get_or due i 0) where
    earlier : (k : ℕ) → (p : IsDue due (i + 1) k) → (k ≡ place) ⊎ IsDue due i k
    earlier k p = ⊎_elim
        (λ e. inl (sym p.is ∙ ap (λ j. get_or due j 0) e ∙ sym here_))
        (λ e. inr (record { at = p.at; below = (let b = p.below in omega (arith, b, e)); is = p.is }))
        (cases_eq p.at i)

    pub due_still : ((d : Gate) → IsStill f level (get_or gates place d)) → HaveFlips f level gates due (i + 1) flips n
    due_still still k d h p = ⊎_elim (λ e. inr (subst (λ j. IsStill f level (get_or gates j d)) (sym e) (still d))) (have k d h) (earlier k p)

    pub due_flips : (x : Flip) → x.place ≡ place → n < length flips → HaveFlips f level gates due (i + 1) (set flips n x) (n + 1)
    due_flips x at room k d h p = ⊎_elim
        (λ e. inl (record { at = n; below = omega arith; is = λ b. ap (λ (y : Flip). y.place) (get_or-set_same flips n x b room) ∙ at ∙ sym e }))
        (λ q. ⊎_elim
        (λ (m : HasFlip flips n k). inl (record { at = m.at; below = (let b = m.below in omega (arith, b)); is = λ b. ap (λ (y : Flip). y.place) (get_or-set_other flips n m.at x b (λ e. absurd (let l = m.below in omega (arith, l, e)))) ∙ m.is b }))
        (λ s. inr s)
        (have k d h q))
        (earlier k p)

  pub flips_more : (flips : List Flip) (n : ℕ) (x : Flip) → AreFlips f level gates flips n → n < length flips → x.place < length gates → ((e : Gate) → x.output ≡ (ticked f level (get_or gates x.place e)).output) → AreFlips f level gates (set flips n x) (n + 1)
  flips_more flips n x are room within output = record { within = λ j d h. by_within j d h (cases_eq j n); output = λ j d e h. by_output j d e h (cases_eq j n) }
    where
      by_within : (j : ℕ) (d : Flip) → j < n + 1 → (j ≡ n) ⊎ (j ≡ n → ⊥) → (get_or (set flips n x) j d).place < length gates
      by_within j d h (inl same) = subst (λ (y : Flip). y.place < length gates) (sym (ap (λ i. get_or (set flips n x) i d) same ∙ get_or-set_same flips n x d room)) within
      by_within j d h (inr other) = subst (λ (y : Flip). y.place < length gates) (sym (get_or-set_other flips n j x d other)) (are.within j d (omega (arith, h, other)))

      by_output : (j : ℕ) (d : Flip) (e : Gate) → j < n + 1 → (j ≡ n) ⊎ (j ≡ n → ⊥) → (get_or (set flips n x) j d).output ≡ (ticked f level (get_or gates (get_or (set flips n x) j d).place e)).output
      by_output j d e h (inl same) = subst (λ (y : Flip). y.output ≡ (ticked f level (get_or gates y.place e)).output) (sym (ap (λ i. get_or (set flips n x) i d) same ∙ get_or-set_same flips n x d room)) (output e)
      by_output j d e h (inr other) = subst (λ (y : Flip). y.output ≡ (ticked f level (get_or gates y.place e)).output) (sym (get_or-set_other flips n j x d other)) (are.output j d e (omega (arith, h, other)))

  -- then all tables are what a tick makes of them
  pub put_is_map : (new : List Gate) (flips : List Flip) (n count : ℕ) (due : List ℕ) (marks : List Bool) → length new ≡ length gates → ArePut f level gates flips n new → HaveFlips f level gates due count flips n →
      ((k : ℕ) → is_marked marks k ≡ true → IsDue due count k) → AreStill f level gates marks → new ≡ map (ticked f level) gates
  put_is_map new flips n count due marks len put have listed still =
      same_lists new (map (ticked f level) gates) (len ∙ sym (length-map gates (ticked f level)))
      (λ k d h. (let l : k < length gates = omega (arith, h, len) in by k d l (cases_Bool (is_marked marks k)) ∙ sym (get_or-map (ticked f level) gates k d d l)))
    where
      at_rest : (k : ℕ) (d : Gate) → k < length gates → IsStill f level (get_or gates k d) → get_or new k d ≡ ticked f level (get_or gates k d)
      at_rest k d l s = ⊎_elim (λ e. e) (λ e. e ∙ sym s) (put.each k d l)

      by : (k : ℕ) (d : Gate) → k < length gates → (is_marked marks k ≡ true) ⊎ (is_marked marks k ≡ false) → get_or new k d ≡ ticked f level (get_or gates k d)
      by k d l (inl e) = ⊎_elim (put.put k d l) (at_rest k d l) (have k d l (listed k e))
      by k d l (inr e) = at_rest k d l (still k d l e)

cond_twice : (b o c : Bool) → cond b (cond b o c) c ≡ cond b o c
cond_twice true o c = refl
cond_twice false o c = refl

-- a table that was evaluated and of which no input changes is still
again : (f : Faults) (la lb : ℕ → Bool) (x : Gate) → address_by lb x.ins ≡ address_by la x.ins → IsStill f lb (ticked f la x)
again f la lb x e =
    still_if f lb (ticked f la x)
    (ap (λ a. cond x.setting.latched (cond x.setting.latched x.output (cell_by f x (address_by la x.ins))) (cell_by f x a)) e
    ∙ cond_twice x.setting.latched x.output (cell_by f x (address_by la x.ins)))

-- once those that are listed are put, all are what a tick makes of them
pub put_all : {q : Queue} (f : Faults) (level : ℕ → Bool) (old new : List Gate) (flips : List Flip) (n : ℕ) → IsQueue q → AreAlike old new → ArePut f level old flips n new → HaveFlips f level old q.due.items q.count flips n → AreStill f level old q.marks.items → new ≡ map (ticked f level) old
put_all {q} f level old new flips n is alike put have still = put_is_map f level old new flips n q.count q.due.items q.marks.items alike.len put have is.listed still

pub still_after : (f : Faults) (knots : List ClassNode) (pins low end : List Bool) (old new : List Gate) (marks : List Bool) → new ≡ map (ticked f (level_at knots pins low)) old → InputsKept old marks (level_at knots pins low) (level_at knots pins end) → AreStill f (level_at knots pins end) new marks
still_after f knots pins low end old new marks e kept k d h none =
    subst (IsStill f lb) (sym (ap (λ zs. get_or zs k d) e ∙ get_or-map (ticked f la) old k d d l))
    (again f la lb x (ap number_of (six_alike (λ j. lb (get_or x.ins j 0)) (λ j. la (get_or x.ins j 0)) (λ j m. kept k j d l m none))))
  where
    la : ℕ → Bool
    la = level_at knots pins low

    lb : ℕ → Bool
    lb = level_at knots pins end

    x : Gate
    x = get_or old k d

    l : k < length old
    l = let s = ap length e ∙ length-map old (ticked f la) in omega (arith, h, s)

-- a tick of these tables
pub tick_by_counts : (f : Faults) (knots : List ClassNode) (pins low : List Bool) (pulls : List ℕ) (old new : List Gate) → AreCounted old pulls low → All (λ (x : Gate). x.out < length low) old → new ≡ map (ticked f (level_at knots pins low)) old → IsTick f knots pins old new
tick_by_counts f knots pins low pulls old new counted outs e = record {
  clear = replicate (length low) false;
  is_clear = clear_before old pulls low counted;
  marks = low;
  marked = marked_by_counts old pulls low counted outs;
  next = e;
}

-- where none is listed nothing changes
pub none_marked : (q : Queue) → IsQueue q → q.count ≡ 0 → (k : ℕ) → is_marked q.marks.items k ≡ false
none_marked q is none k = false_from_ne_true (is_marked q.marks.items k) (λ e. let d = is.listed k e in let b = d.below in omega (arith, b, none))

pub all_still : (f : Faults) (level : ℕ → Bool) (gates : List Gate) (marks : List Bool) → AreStill f level gates marks → ((k : ℕ) → is_marked marks k ≡ false) → gates ≡ map (ticked f level) gates
all_still f level gates marks still none =
    same_lists gates (map (ticked f level) gates) (sym (length-map gates (ticked f level)))
    (λ k d h. sym (get_or-map (ticked f level) gates k d d h ∙ still k d h (none k)))

pub tick_at_rest : {q : Queue} {r : Readers} {pulls : List ℕ} (f : Faults) (knots : List ClassNode) (pins low : List Bool) (now : List Gate) → IsSound now r q pulls low → AreStill f (level_at knots pins low) now q.marks.items → q.count ≡ 0 → IsTick f knots pins now now
tick_at_rest {q = q} {pulls = pulls} f knots pins low now sound still none =
    tick_by_counts f knots pins low pulls now now sound.counted sound.outs (all_still f (level_at knots pins low) now q.marks.items still (none_marked q sound.queue none))

-- where all are listed it doesn't matter what they give
pub all_marked : (f : Faults) (level : ℕ → Bool) (gates : List Gate) (marks : List Bool) → length marks ≡ length gates → ((k : ℕ) → k < length marks → is_marked marks k ≡ true) → AreStill f level gates marks
all_marked f level gates marks len all k d h none = absurd (false≢true (sym none ∙ all k (omega (arith, h, len))))

pub events_stay : (xs ys : List Gate) (e : Events) → AreAlike xs ys → AreEvents xs e → AreEvents ys e
events_stay xs ys e alike are = record {
  readers = alike_readers xs ys alike e.readers are.readers;
  queue = are.queue;
  marks = are.marks ∙ sym alike.len;
  flips = are.flips ∙ sym alike.len;
}
