-- Reading on: more bytes from the store, then the unread ones.
use Rattle.std.proofs.Common.{◌≡◌, ◌⊎◌, ℕ, ◌+◌, ◌-◌, ◌<◌, ◌≤◌, Bool, true, false, List, [], ◌++◌, length, take, drop, Option, None, Some, IfSome, option_map, refl, sym, ap, subst, ◌∙◌, inl, inr, arith, append_assoc, Err, IsSome}
use Rattle.std.specs.Option.{option_map_or}
use Rattle.std.proofs.Math.Seq.{take-add, take-append-add, take-append_seam}
use Rattle.design_vectors.proofs.Vocabulary.{length-drop, append-nil, drop-append-le, drop-drop, length-append, length-take-le, VectorKind}
use Rattle.design_vectors.proofs.Vocabulary.{Step, Onward, Vector, Fault, PartLine, IsSound, front_of, begun, says_on, EndsAs, EndSays}
use Rattle.base_io.specs.Store.{StoreState, StorePlace, moved, place_of, rest_of}
use Rattle.design_vectors.specs.declared.vectors.VectorsFail.{VectorsFail, TheVariants.Text, TheVariants.Failed}
use Rattle.design_vectors.specs.Vectors.{PhysicalLine, numbered_lines, put_before, shown, byte_fault, lines_say, SaidVectors, nothing_said, with_vector, bits_of, vector_size}
use Rattle.design_vectors.specs.Readings.{bytes_ahead, says_next, said_ahead, NextGives, NextFails, HasMoved, AreOpen, AskedOpen, HasAsked, StaysWithin, GivesUnread, IsFaultOf}
use Rattle.design_vectors.specs.Steps.{reading_of, IsRefilled, IsStoreFail, HasReadOn, answer_of, LineGives, LineFails, HasAnswered, IsWaiting, GoesOn}
use Rattle.design_vectors.proofs.FeedLemmas.{rest-moved}
use Rattle.design_vectors.proofs.TextLemmas.{put_before-nil, no_byte_fault}
use Rattle.design_vectors.proofs.LineLemmas.{ended}

-- options

if-all : {X : Type 0} (P : X → Type 0) (o : Option X) → ((x : X) → P x) → IfSome o P
if-all P None h = tt
if-all P (Some x) h = h x

map-same : {X Y : Type 0} (f g : X → Y) (o : Option X) → IfSome o (λ x. f x ≡ g x) → option_map f o ≡ option_map g o
map-same f g None h = refl
map-same f g (Some x) h = ap Some h

map-if : {X Y : Type 0} (f g : X → Y) (y : Y) (o p : Option X) → option_map f o ≡ option_map g p → IfSome p (λ x. g x ≡ y) →
    IfSome o (λ x. f x ≡ y)
map-if f g y None p e h = tt
map-if f g y (Some x) None e h = absurd (cc)
map-if f g y (Some x) (Some z) e h = cc

map-holds : {X Y : Type 0} (f g : X → Y) (P : Y → Type 0) (o p : Option X) → option_map f o ≡ option_map g p → IfSome p (λ x. P (g x)) →
    IfSome o (λ x. P (f x))
map-holds f g P None p e h = tt
map-holds f g P (Some x) None e h = absurd (cc)
map-holds f g P (Some x) (Some z) e h = let same : g z ≡ f x = cc in subst P same h

-- places

moved-none : (current : Option StorePlace) → current ≡ moved current 0
moved-none None = refl
moved-none (Some p) = let e : p.at ≡ p.at + 0 = omega arith in ap (λ (n : ℕ). Some (record { name = p.name; at = n })) e

moved-twice : (current : Option StorePlace) (m n : ℕ) → moved (moved current m) n ≡ moved current (m + n)
moved-twice None m n = refl
moved-twice (Some p) m n = let e : p.at + m + n ≡ p.at + (m + n) = omega arith in ap (λ (k : ℕ). Some (record { name = p.name; at = k })) e

none-moved : (current : Option StorePlace) (n : ℕ) → IsSome current → current ≡ moved current n → n ≡ 0
none-moved None n h e = absurd (let some = h in cc)
none-moved (Some p) n h e = let at : p.at ≡ p.at + n = ap (λ (o : Option StorePlace). option_map_or (λ (q : StorePlace). q.at) o 0) e in omega (arith, at)

-- where the store is asked next
asked-next : (current : Option StorePlace) (n : ℕ) → option_map (λ (p : StorePlace). p.at) (moved current n) ≡ option_map (λ k. k + n) (option_map (λ (p : StorePlace). p.at) current)
asked-next None n = refl
asked-next (Some p) n = refl

still-open : (current : Option StorePlace) (n : ℕ) → IsSome current → IsSome (moved current n)
still-open None n h = h
still-open (Some p) n h = h

both-within : (told : Option (List ℕ)) (m n : ℕ) → IfSome told (λ rest. m ≤ length rest) →
    IfSome (option_map (λ (bytes : List ℕ). drop m bytes) told) (λ rest. n ≤ length rest) → IfSome told (λ rest. m + n ≤ length rest)
both-within None m n h k = tt
both-within (Some rest) m n h k = omega (arith, length-drop m rest)

-- what is before the reader, when it took some of it
ahead-drop : (told : Option (List ℕ)) (fresh rest : List ℕ) (n : ℕ) → n ≤ length fresh → rest ≡ drop n fresh →
    option_map (λ (t : List ℕ). rest ++ t) told ≡ option_map (λ (bytes : List ℕ). drop n bytes) (option_map (λ (t : List ℕ). fresh ++ t) told)
ahead-drop None fresh rest n within is = refl
ahead-drop (Some t) fresh rest n within is = ap Some (ap (λ (r : List ℕ). r ++ t) is ∙ sym (drop-append-le n fresh t within))

drop-twice : (told : Option (List ℕ)) (m n k : ℕ) → m + n ≡ k → option_map (λ (bytes : List ℕ). drop n bytes) (option_map (λ (bytes : List ℕ). drop m bytes) told) ≡ option_map (λ (bytes : List ℕ). drop k bytes) told
drop-twice None m n k e = refl
drop-twice (Some bytes) m n k e = ap Some (drop-drop n m bytes ∙ ap (λ (i : ℕ). drop i bytes) e)

none-dropped : (told : Option (List ℕ)) → told ≡ option_map (λ (bytes : List ℕ). drop 0 bytes) told
none-dropped None = refl
none-dropped (Some bytes) = refl

-- where everything stands

pub moves-on : (old line new : PartLine) (unread left fresh rest : List ℕ) (more : Bool) (count : ℕ) (before mid after : StoreState) →
    mid.contents ≡ before.contents → old.at ≤ line.at → HasMoved (reading_of old unread) (reading_of line left) before mid →
    IsRefilled more left fresh mid after → line.at + count ≡ new.at → count ≤ length fresh → rest ≡ drop count fresh →
    HasMoved (reading_of old unread) (reading_of new rest) before after
moves-on old line new unread left fresh rest more count before mid after contents from h r at within is =
    let size : length rest ≡ length fresh - count = ap length is ∙ length-drop count fresh in
    record {
      count = h.count + r.count;
      place = r.place ∙ ap (λ (c : Option StorePlace). moved c r.count) h.place ∙ moved-twice before.current h.count r.count;
      bytes = omega (arith, h.bytes, r.bytes, size);
      ahead =
          let further : (line.at - old.at) + count ≡ new.at - old.at = omega (arith, from, at) in
          ahead-drop (rest_of after) fresh rest count within is
          ∙ ap (option_map (λ (bytes : List ℕ). drop count bytes)) (sym r.ahead ∙ h.ahead)
          ∙ drop-twice (bytes_ahead unread before) (line.at - old.at) count (new.at - old.at) further;
      within = both-within (rest_of before) h.count r.count h.within
          (subst (λ (told : Option (List ℕ)). IfSome told (λ rest. r.count ≤ length rest))
          (rest-moved before mid h.count contents h.place) r.within);
    }

-- what is undecided

open-of : (old line : PartLine) (unread bytes : List ℕ) → front_of old ≡ [] → IsSound line → line.width ≡ old.width →
    line.limit ≡ old.limit → line.at ≡ old.at + length bytes → ((rest : List ℕ) → says_on old (bytes ++ rest) ≡ says_on line rest) →
    AreOpen (reading_of old unread) bytes
open-of old line unread bytes none sound w l at says =
    let left : shown (front_of line) ≡ line.shown = ap shown (sym (append-nil (front_of line))) ∙ ended line sound in
    record {
      number = line.number;
      at = line.at;
      front = front_of line;
      right = ap (byte_fault old.width) left ∙ ap (λ (width : ℕ). byte_fault width line.shown) (sym w)
          ∙ no_byte_fault line.width line.shown sound.right sound.room;
      behind = at;
      says = λ rest.
          let lines : List PhysicalLine = numbered_lines old.limit old.number old.at (bytes ++ rest) in
          sym (ap (λ (f : List ℕ). lines_say old.width (put_before f lines)) none ∙ ap (lines_say old.width) (put_before-nil lines)) ∙
          says rest ∙
          rw (w, l) refl;
    }

if-more : {X : Type 0} (P Q : X → Type 0) (o : Option X) → IfSome o P → ((x : X) → P x → Q x) → IfSome o Q
if-more P Q None h more = tt
if-more P Q (Some x) h more = more x h

if-both : {X : Type 0} (P Q : X → Type 0) (o : Option X) → IfSome o P → IfSome o Q → IfSome o (λ x. P x × Q x)
if-both P Q None h k = tt
if-both P Q (Some x) h k = (h, k)

a-piece : (current : Option StorePlace) (n c : ℕ) → c ≤ 65536 →
    IfSome (moved (moved current n) c) (λ p. IfSome current (λ q. p.at ≤ q.at + n + 65536))
a-piece None n c le = tt
a-piece (Some q) n c le = omega arith

-- the bytes that were unread, and those that the store gave, are unread now
fresh-is : (told : Option (List ℕ)) (left fresh : List ℕ) (c : ℕ) → length left + c ≡ length fresh →
    option_map (λ (rest : List ℕ). left ++ rest) told ≡
    option_map (λ (rest : List ℕ). fresh ++ rest) (option_map (λ (bytes : List ℕ). drop c bytes) told) →
    IfSome told (λ rest. left ++ take c rest ≡ fresh)
fresh-is None left fresh c size e = tt
fresh-is (Some rest) left fresh c size e =
    let same : left ++ rest ≡ fresh ++ drop c rest = (let s : Some (left ++ rest) ≡ Some (fresh ++ drop c rest) = e in cc) in
    sym (take-append-add left rest c) ∙ ap (take (length left + c)) same ∙ ap (λ n. take n (fresh ++ drop c rest)) size
    ∙ take-append_seam fresh (drop c rest)

-- the loop

pub goes-start : (line : PartLine) (unread : List ℕ) (store : StoreState) → IsSome store.current →
    GoesOn line unread line unread store store
goes-start line unread store open_ = record {
  says = refl;
  width = refl;
  limit = refl;
  moves = record {
    count = 0;
    place = moved-none store.current;
    bytes = omega arith;
    ahead = (let none : line.at - line.at ≡ 0 = omega arith in none-dropped (bytes_ahead unread store) ∙ ap (λ (n : ℕ). option_map (λ (bytes : List ℕ). drop n bytes) (bytes_ahead unread store)) (sym none));
    within =
        if-all (λ (rest : List ℕ). 0 ≤ length rest) (rest_of store) (λ rest. omega arith);
  };
  open_ = λ _. inl (refl, λ _. refl);
  reads = if-all (λ told. (rest : List ℕ) → says_on line ((unread ++ take 0 told) ++ rest) ≡ says_on line (unread ++ rest))
      (rest_of store) (λ told rest. ap (λ (l : List ℕ). says_on line (l ++ rest)) (append-nil unread));
  from = omega arith;
  onward = inl refl;
  contents = refl;
  asked = refl;
  later = omega arith;
  current = open_;
}

module _ (old line : PartLine) (unread left fresh : List ℕ) (before mid after : StoreState) (h : GoesOn old unread line left before mid)
    (contents : after.contents ≡ mid.contents) (asked : after.asked ≡ mid.asked) (later : mid.failures ≤ after.failures) where
  -- what the line says with the fresh bytes
  says-fresh : (more : Bool) → IsRefilled more left fresh mid after →
      option_map (says_on old) (bytes_ahead unread before) ≡ option_map (says_on line) (bytes_ahead fresh after)
  says-fresh more r = h.says ∙ ap (option_map (says_on line)) r.ahead

  map-rest : (f g : List ℕ → SaidVectors) (rest : List ℕ) (told : Option (List ℕ)) → ((t : List ℕ) → f (fresh ++ t) ≡ g (rest ++ t)) →
      option_map f (option_map (λ t. fresh ++ t) told) ≡ option_map g (option_map (λ t. rest ++ t) told)
  map-rest f g rest None e = refl
  map-rest f g rest (Some t) e = ap Some (e t)

  if-rest : (Q : List ℕ → Type 0) (told : Option (List ℕ)) → ((t : List ℕ) → Q (fresh ++ t)) →
      IfSome (option_map (λ t. fresh ++ t) told) Q
  if-rest Q None e = tt
  if-rest Q (Some t) e = e t

  -- where nothing is unread any more, what the line was read from is undecided
  opens : front_of old ≡ [] → IsSound line → left ≡ [] →
      IsWaiting old unread line left before mid ⊎ AskedOpen (reading_of old unread) before mid → AreOpen (reading_of old unread) unread
  opens none sound empty (inl w) = open-of old line unread unread none sound h.width h.limit
      (let P : Option StorePlace → Type 0 = λ c. IsSome c in
      let still : before.current ≡ moved before.current h.moves.count = sym (ap (λ (s : StoreState). s.current) w.0) ∙ h.moves.place in
      let count = none-moved before.current h.moves.count (subst P (ap (λ (s : StoreState). s.current) w.0) h.current) still in
      let left_size : length left ≡ 0 = ap length empty in
      omega (arith, h.moves.bytes, count, left_size))
      (λ rest. w.1 rest ∙ ap (λ (l : List ℕ). says_on line (l ++ rest)) empty)
  opens none sound empty (inr a) = a.unread

  opens-last : front_of old ≡ [] → IsSound line → left ≡ [] →
      IfSome (rest_of before) (λ told. AreOpen (reading_of old unread) (unread ++ take h.moves.count told))
  opens-last none sound empty =
      let left_size : length left ≡ 0 = ap length empty in
      if-more (λ told. ((rest : List ℕ) → says_on old ((unread ++ take h.moves.count told) ++ rest) ≡ says_on line (left ++ rest)) × (h.moves.count ≤ length told))
      (λ told. AreOpen (reading_of old unread) (unread ++ take h.moves.count told)) (rest_of before)
      (if-both (λ told. (rest : List ℕ) → says_on old ((unread ++ take h.moves.count told) ++ rest) ≡ says_on line (left ++ rest)) (λ told. h.moves.count ≤ length told) (rest_of before) h.reads h.moves.within)
      (λ told both. open-of old line unread (unread ++ take h.moves.count told) none sound h.width h.limit
      (let all : length (unread ++ take h.moves.count told) ≡ length unread + h.moves.count = length-append unread (take h.moves.count told) ∙ ap (λ (n : ℕ). length unread + n) (length-take-le h.moves.count told both.1) in
      omega (arith, h.moves.bytes, left_size, all))
      (λ rest. both.0 rest ∙ ap (λ (l : List ℕ). says_on line (l ++ rest)) empty))

  -- the store was asked with nothing unread
  asked-at : after.read_at ≡ place_of mid → after.read_at ≡ option_map (λ n. n + h.moves.count) (place_of before)
  asked-at at = at ∙ ap (option_map (λ (p : StorePlace). p.at)) h.moves.place ∙ asked-next before.current h.moves.count

  asked-open : front_of old ≡ [] → IsSound line → length fresh ≤ 65536 → left ≡ [] → after.read_at ≡ place_of mid → (more : Bool) →
      IsRefilled more left fresh mid after → AskedOpen (reading_of old unread) before after
  asked-open none sound few empty at more r = record {
    unread = opens none sound empty (h.open_ none);
    count = h.moves.count;
    within = h.moves.within;
    read_at = asked-at at;
    last = opens-last none sound empty;
    piece = subst (λ (c : Option StorePlace). IfSome c (λ p. IfSome before.current (λ q. p.at ≤ q.at + h.moves.count + 65536)))
        (sym (r.place ∙ ap (λ (c : Option StorePlace). moved c r.count) h.moves.place))
        (a-piece before.current h.moves.count r.count (omega (arith, r.bytes)));
  }

  -- the store was asked, if at all, while the line was undecided
  open-now : front_of old ≡ [] → IsSound line → length fresh ≤ 65536 → (more : Bool) → IsRefilled more left fresh mid after →
      ((after ≡ before) × ((rest : List ℕ) → says_on old (unread ++ rest) ≡ says_on line (fresh ++ rest)))
      ⊎ AskedOpen (reading_of old unread) before after
  open-now none sound few more r = by (h.open_ none) r.late
    where
      by : IsWaiting old unread line left before mid ⊎ AskedOpen (reading_of old unread) before mid →
          ((after ≡ mid) × (fresh ≡ left)) ⊎ ((left ≡ []) × (after.read_at ≡ place_of mid)) →
          ((after ≡ before) × ((rest : List ℕ) → says_on old (unread ++ rest) ≡ says_on line (fresh ++ rest)))
          ⊎ AskedOpen (reading_of old unread) before after
      by w (inr empty) = inr (asked-open none sound few empty.0 empty.1 more r)
      by (inl w) (inl same) = inl (same.0 ∙ w.0, λ rest. w.1 rest ∙ ap (λ (l : List ℕ). says_on line (l ++ rest)) (sym same.1))
      by (inr a) (inl same) = inr (subst (λ (s : StoreState). AskedOpen (reading_of old unread) before s) (sym same.0) a)

  asked-now : front_of old ≡ [] → IsSound line → length fresh ≤ 65536 → (more : Bool) → IsRefilled more left fresh mid after →
      HasAsked (reading_of old unread) before after
  asked-now none sound few more r = by (open-now none sound few more r)
    where
      by : ((after ≡ before) × ((rest : List ℕ) → says_on old (unread ++ rest) ≡ says_on line (fresh ++ rest)))
          ⊎ AskedOpen (reading_of old unread) before after → HasAsked (reading_of old unread) before after
      by (inl w) = inl w.0
      by (inr a) = inr a

  open-on : (new : PartLine) (rest : List ℕ) → ((t : List ℕ) → says_on line (fresh ++ t) ≡ says_on new (rest ++ t)) →
      ((after ≡ before) × ((t : List ℕ) → says_on old (unread ++ t) ≡ says_on line (fresh ++ t)))
      ⊎ AskedOpen (reading_of old unread) before after →
      IsWaiting old unread new rest before after ⊎ AskedOpen (reading_of old unread) before after
  open-on new rest says (inl w) = inl (w.0, λ t. w.1 t ∙ says t)
  open-on new rest says (inr a) = inr a

  -- what the line was read from, with the fresh bytes
  reads-on : (new : PartLine) (rest : List ℕ) (count : ℕ) → ((t : List ℕ) → says_on line (fresh ++ t) ≡ says_on new (rest ++ t)) →
      (told : Option (List ℕ)) → IfSome told (λ bytes. (t : List ℕ) →
      says_on old ((unread ++ take h.moves.count bytes) ++ t) ≡ says_on line (left ++ t)) →
      IfSome (option_map (λ (bytes : List ℕ). drop h.moves.count bytes) told) (λ bytes. left ++ take count bytes ≡ fresh) →
      IfSome told (λ bytes. (t : List ℕ) → says_on old ((unread ++ take (h.moves.count + count) bytes) ++ t) ≡ says_on new (rest ++ t))
  reads-on new rest count says None r f = tt
  reads-on new rest count says (Some bytes) r f = λ t.
      let next : List ℕ = take count (drop h.moves.count bytes) in
      let all : (unread ++ take (h.moves.count + count) bytes) ++ t ≡ (unread ++ take h.moves.count bytes) ++ (next ++ t) =
      ap (λ (l : List ℕ). (unread ++ l) ++ t) (take-add h.moves.count count bytes)
      ∙ ap (λ (l : List ℕ). l ++ t) (sym (append_assoc unread (take h.moves.count bytes) next))
      ∙ append_assoc (unread ++ take h.moves.count bytes) next t in
      ap (says_on old) all ∙ r (next ++ t) ∙ ap (says_on line) (sym (append_assoc left next t) ∙ ap (λ (l : List ℕ). l ++ t) f) ∙ says t

  reads-now : (new : PartLine) (rest : List ℕ) (more : Bool) (r : IsRefilled more left fresh mid after) →
      ((t : List ℕ) → says_on line (fresh ++ t) ≡ says_on new (rest ++ t)) →
      IfSome (rest_of before) (λ bytes. (t : List ℕ) →
      says_on old ((unread ++ take (h.moves.count + r.count) bytes) ++ t) ≡ says_on new (rest ++ t))
  reads-now new rest more r says =
      let given = fresh-is (rest_of mid) left fresh r.count r.bytes
      (r.ahead ∙ ap (option_map (λ (t : List ℕ). fresh ++ t)) (rest-moved mid after r.count contents r.place)) in
      reads-on new rest r.count says (rest_of before) h.reads
      (subst (λ (told : Option (List ℕ)). IfSome told (λ bytes. left ++ take r.count bytes ≡ fresh))
      (rest-moved before mid h.moves.count h.contents h.moves.place) given)

  pub goes-on : (new : PartLine) (rest : List ℕ) → IsSound line → length fresh ≤ 65536 → IsRefilled true left fresh mid after →
      HasReadOn Onward line fresh new rest → GoesOn old unread new rest before after
  unfolding moves-on
  goes-on new rest sound few r s = record {
    says = says-fresh true r ∙ map-rest (says_on line) (says_on new) rest (rest_of after) s.says;
    width = s.width ∙ h.width;
    limit = s.limit ∙ h.limit;
    moves = moves-on old line new unread left fresh rest true s.count before mid after h.contents h.from h.moves r s.at s.within s.rest;
    open_ = λ none. open-on new rest s.says (open-now none sound few true r);
    reads = reads-now new rest true r s.says;
    from = (let grown = s.grows refl r.fed in omega (arith, h.from, grown.0));
    onward = inr (let grown = s.grows refl r.fed in (omega (arith, h.from, grown.0), grown.1));
    contents = contents ∙ h.contents;
    asked = asked ∙ h.asked;
    later = omega (arith, h.later);
    current = let P : Option StorePlace → Type 0 = λ c. IsSome c in subst P (sym r.place) (still-open mid.current r.count h.current);
  }

  -- the store went on to the fresh bytes
  stays-within : (more : Bool) → IsRefilled more left fresh mid after → StaysWithin before after
  stays-within more r =
      let m = moves-on old line line unread left fresh fresh more 0 before mid after h.contents h.from h.moves r (omega arith)
      (omega arith) refl in
      record { count = m.count; place = m.place; within = m.within }

  -- a fault of the fresh bytes, which the store isn't far beyond
  abbrev FaultHere : ℕ → VectorKind → SaidVectors → Type 0
  FaultHere number kind said = IsFaultOf number kind (line.at + length fresh) said

  fault-ahead : (more : Bool) (number : ℕ) (kind : VectorKind) → IsRefilled more left fresh mid after →
      IfSome (bytes_ahead fresh after) (λ bytes. FaultHere number kind (says_on line bytes)) →
      LineFails (Text number kind) old unread before after
  fault-ahead more number kind r here =
      let m = moves-on old line line unread left fresh fresh more 0 before mid after h.contents h.from h.moves r (omega arith)
      (omega arith) refl in (
        m.count,
        m.place,
        subst (λ (n : ℕ). IfSome (bytes_ahead unread before) (λ bytes. IsFaultOf number kind n (says_on old bytes))) (sym m.bytes)
            (map-holds (says_on old) (says_on line) (FaultHere number kind) (bytes_ahead unread before) (bytes_ahead fresh after) (says-fresh more r) here),
      )

  answers-fault : (more : Bool) (new : PartLine) (rest : List ℕ) (kind : VectorKind) → IsSound line → length fresh ≤ 65536 → IsRefilled more left fresh mid after → new.width ≡ old.width → new.limit ≡ old.limit →
      IfSome (bytes_ahead fresh after) (λ bytes. FaultHere new.number kind (says_on line bytes)) → HasAnswered (answer_of (Fault kind) new.number) old unread new rest before after
  answers-fault more new rest kind sound few r width limit fault = record {
    gives = tt;
    refused = fault-ahead more new.number kind r fault;
    width = width;
    limit = limit;
    current = tt;
    moves = tt;
    onward = λ _. tt;
    stopped = stays-within more r;
    open_ = λ none. asked-now none sound few more r;
    contents = contents ∙ h.contents;
    asked = asked ∙ h.asked;
    later = omega (arith, h.later);
  }

  pub answers-read : (step : Step) (new : PartLine) (rest : List ℕ) → IsSound line → length fresh ≤ 65536 → (step ≡ Onward → ⊥) →
      IsRefilled true left fresh mid after → HasReadOn step line fresh new rest →
      HasAnswered (answer_of step new.number) old unread new rest before after
  answers-read Onward new rest sound few ne r s = absurd (ne refl)
  answers-read Vector new rest sound few ne r s = record {
    gives = (
      s.full,
      says-fresh true r ∙ map-rest (says_on line)
          (λ bytes. with_vector (bits_of new.width new.shown) new.at (says_on (begun new) bytes)) rest (rest_of after) s.says,
    );
    refused = tt;
    width = s.width ∙ h.width;
    limit = s.limit ∙ h.limit;
    current = let P : Option StorePlace → Type 0 = λ c. IsSome c in subst P (sym r.place) (still-open mid.current r.count h.current);
    moves = moves-on old line new unread left fresh rest true s.count before mid after h.contents h.from h.moves r s.at s.within s.rest;
    onward = λ _. (let whole = s.whole refl in (omega (arith, h.from, whole.0), whole.1));
    stopped = tt;
    open_ = λ none. asked-now none sound few true r;
    contents = contents ∙ h.contents;
    asked = asked ∙ h.asked;
    later = omega (arith, h.later);
  }
  answers-read (Fault kind) new rest sound few ne r s = answers-fault true new rest kind sound few r (s.width ∙ h.width) (s.limit ∙ h.limit)
      (if-rest (λ bytes. FaultHere new.number kind (says_on line bytes)) (rest_of after) (λ t. let d = s.says t in record { end = d.0; is = d.2; near = omega (arith, d.1, few) }))

  -- at the end of the file nothing is ahead
  nothing-ahead : IsRefilled false left fresh mid after → IfSome (bytes_ahead fresh after) (λ bytes. bytes ≡ [])
  nothing-ahead r = subst (λ (told : Option (List ℕ)). IfSome told (λ bytes. bytes ≡ [])) r.ahead
      (rw (r.ended refl).0 (at (rest_of mid) r.fed))
    where
      at : (told : Option (List ℕ)) → IfSome told (λ rest. rest ≡ []) → IfSome (option_map (λ t. [] ++ t) told) (λ bytes. bytes ≡ [])
      at None e = tt
      at (Some t) e = e

  if-nothing : (f : List ℕ → SaidVectors) (said : SaidVectors) (ahead : Option (List ℕ)) → IfSome ahead (λ bytes. bytes ≡ []) →
      f [] ≡ said → IfSome ahead (λ bytes. f bytes ≡ said)
  if-nothing f said None h e = tt
  if-nothing f said (Some bytes) h e = ap f h ∙ e

  if-nothing-holds : (Q : List ℕ → Type 0) (ahead : Option (List ℕ)) → IfSome ahead (λ bytes. bytes ≡ []) → Q [] → IfSome ahead Q
  if-nothing-holds Q None h here = tt
  if-nothing-holds Q (Some bytes) h here = subst Q (sym h) here

  if-nothing-same : (f g : List ℕ → SaidVectors) (ahead : Option (List ℕ)) → IfSome ahead (λ bytes. bytes ≡ []) → f [] ≡ g [] →
      IfSome ahead (λ bytes. f bytes ≡ g bytes)
  if-nothing-same f g None h e = tt
  if-nothing-same f g (Some bytes) h e = ap f h ∙ e ∙ ap g (sym h)

  -- a line with a vector on it has bytes
  further : old.shown ≡ [] → length line.shown ≡ vector_size line.width →
      ((line.shown ≡ old.shown) ⊎ ((old.at < line.at) × (line.at ≤ line.limit))) → (old.at < line.at) × (line.at ≤ line.limit)
  further none ends (inl same) = let size : length line.shown ≡ 0 = ap length (same ∙ none) in absurd (omega (arith, ends, size))
  further none ends (inr h) = h

  pub answers-end : (step : Step) → IsSound line → length fresh ≤ 65536 → IsRefilled false left fresh mid after → EndsAs step line →
      EndSays step line → HasAnswered (answer_of step line.number) old unread line fresh before after
  answers-end Onward sound few r ends says = record {
    gives = map-if (says_on old) (says_on line) nothing_said (bytes_ahead unread before) (bytes_ahead fresh after) (says-fresh false r)
        (if-nothing (says_on line) nothing_said (bytes_ahead fresh after) (nothing-ahead r) says);
    refused = tt;
    width = h.width;
    limit = h.limit;
    current = let P : Option StorePlace → Type 0 = λ c. IsSome c in subst P (sym r.place) (still-open mid.current r.count h.current);
    moves = moves-on old line line unread left fresh fresh false 0 before mid after h.contents h.from h.moves r (omega arith) (omega arith) refl;
    onward = λ _. tt;
    stopped = tt;
    open_ = λ none. asked-now none sound few false r;
    contents = contents ∙ h.contents;
    asked = asked ∙ h.asked;
    later = omega (arith, h.later);
  }
  answers-end Vector sound few r ends says = record {
    gives = (
      ends,
      says-fresh false r ∙ map-same (says_on line)
          (λ bytes. with_vector (bits_of line.width line.shown) line.at (says_on (begun line) bytes)) (bytes_ahead fresh after)
          (if-nothing-same (says_on line) (λ bytes. with_vector (bits_of line.width line.shown) line.at (says_on (begun line) bytes))
          (bytes_ahead fresh after) (nothing-ahead r) says),
    );
    refused = tt;
    width = h.width;
    limit = h.limit;
    current = let P : Option StorePlace → Type 0 = λ c. IsSome c in subst P (sym r.place) (still-open mid.current r.count h.current);
    moves = moves-on old line line unread left fresh fresh false 0 before mid after h.contents h.from h.moves r (omega arith) (omega arith) refl;
    onward = λ none. further none ends h.onward;
    stopped = tt;
    open_ = λ none. asked-now none sound few false r;
    contents = contents ∙ h.contents;
    asked = asked ∙ h.asked;
    later = omega (arith, h.later);
  }
  answers-end (Fault kind) sound few r ends says = answers-fault false line fresh kind sound few r h.width h.limit
      (if-nothing-holds (λ bytes. FaultHere line.number kind (says_on line bytes)) (bytes_ahead fresh after) (nothing-ahead r) (record { end = line.at; is = says; near = omega (arith, few) }))

  -- the store's refusal
  pub answers-failed : (e : VectorsFail) → IsSound line → left ≡ [] → IsStoreFail e mid after →
      HasAnswered (Err e) old unread line fresh before after
  answers-failed (Text number kind) sound empty fault = absurd fault
  answers-failed Failed sound empty fault = record {
    gives = tt;
    refused = record { closed = fault.0.closed; rose = omega (arith, h.later, fault.0.rose) };
    width = h.width;
    limit = h.limit;
    current = tt;
    moves = tt;
    onward = λ _. tt;
    stopped = tt;
    open_ = λ none. inr (record {
      unread = opens none sound empty (h.open_ none);
      count = h.moves.count;
      within = h.moves.within;
      read_at = asked-at fault.1;
      last = opens-last none sound empty;
      piece = subst (λ (c : Option StorePlace). IfSome c (λ p. IfSome before.current (λ q. p.at ≤ q.at + h.moves.count + 65536)))
          (sym fault.0.closed) tt;
    });
    contents = contents ∙ h.contents;
    asked = asked ∙ h.asked;
    later = omega (arith, h.later);
  }

-- from a line's beginning to the reader between two lines

begun-says : (line : PartLine) (unread bytes : List ℕ) → says_next (reading_of line unread) bytes ≡ says_on (begun line) bytes
begun-says line unread bytes = sym (ap (lines_say line.width) (put_before-nil (numbered_lines line.limit line.number line.at bytes)))

map-twice : {X Y Z : Type 0} (f : Y → Z) (g : X → Y) (o : Option X) → option_map (λ x. f (g x)) o ≡ option_map f (option_map g o)
map-twice f g None = refl
map-twice f g (Some x) = refl

next-says : (said : SaidVectors) (line : PartLine) (unread : List ℕ) (before : StoreState) →
    IfSome (bytes_ahead unread before) (λ bytes. says_on (begun line) bytes ≡ said) →
    IfSome (said_ahead (reading_of line unread) before) (λ s. s ≡ said)
next-says said line unread before says = by (bytes_ahead unread before) says
  where
    by : (ahead : Option (List ℕ)) → IfSome ahead (λ bytes. says_on (begun line) bytes ≡ said) →
        IfSome (option_map (says_next (reading_of line unread)) ahead) (λ s. s ≡ said)
    by None h = tt
    by (Some bytes) h = begun-says line unread bytes ∙ h

pub next-gives : (more : Bool) (row : List Bool) (line new : PartLine) (unread left : List ℕ) (before after : StoreState) →
    LineGives more (begun line) unread new left before after →
    (more ≡ true → length new.shown ≡ vector_size new.width → row ≡ bits_of new.width new.shown) →
    NextGives more row (reading_of line unread) (reading_of new left) before after
next-gives true row line new unread left before after gives is =
    let spelled : row ≡ bits_of new.width new.shown = is refl gives.0 in
    let from : option_map (says_next (reading_of line unread)) (bytes_ahead unread before) ≡
    option_map (says_on (begun line)) (bytes_ahead unread before) =
    map-same (says_next (reading_of line unread)) (says_on (begun line)) (bytes_ahead unread before)
    (if-all (λ bytes. says_next (reading_of line unread) bytes ≡ says_on (begun line) bytes) (bytes_ahead unread before)
    (begun-says line unread)) in
    let to : option_map (λ bytes. with_vector (bits_of new.width new.shown) new.at (says_on (begun new) bytes)) (bytes_ahead left after) ≡
    option_map (λ bytes. with_vector row new.at (says_next (reading_of new left) bytes)) (bytes_ahead left after) =
    map-same (λ bytes. with_vector (bits_of new.width new.shown) new.at (says_on (begun new) bytes))
    (λ bytes. with_vector row new.at (says_next (reading_of new left) bytes)) (bytes_ahead left after)
    (if-all (λ bytes. with_vector (bits_of new.width new.shown) new.at (says_on (begun new) bytes) ≡
    with_vector row new.at (says_next (reading_of new left) bytes)) (bytes_ahead left after)
    (λ bytes. ap (λ (bits : List Bool). with_vector bits new.at (says_on (begun new) bytes)) (sym spelled)
    ∙ ap (with_vector row new.at) (sym (begun-says new left bytes)))) in
    from ∙ gives.1 ∙ to ∙ map-twice (with_vector row new.at) (says_next (reading_of new left)) (bytes_ahead left after)
next-gives false row line new unread left before after gives is = next-says nothing_said line unread before gives

pub next-fails : (e : VectorsFail) (line : PartLine) (unread : List ℕ) (before after : StoreState) →
    LineFails e (begun line) unread before after → NextFails e (reading_of line unread) before after
next-fails (Text number kind) line unread before after fails = (fails.0, fails.1, by (bytes_ahead unread before) fails.2)
  where
    by : (ahead : Option (List ℕ)) → IfSome ahead (λ bytes. IsFaultOf number kind (line.at + length unread + fails.0) (says_on (begun line) bytes)) →
        IfSome (option_map (says_next (reading_of line unread)) ahead) (IsFaultOf number kind (line.at + length unread + fails.0))
    by None h = tt
    by (Some bytes) h = subst (IsFaultOf number kind (line.at + length unread + fails.0)) (sym (begun-says line unread bytes)) h
next-fails Failed line unread before after fails = fails

-- a vector's line that the unread bytes end

given-here : (line new : PartLine) (unread left : List ℕ) (told : Option (List ℕ)) → HasReadOn Vector (begun line) unread new left →
    option_map (says_on (begun line)) (option_map (λ rest. unread ++ rest) told) ≡
    option_map (λ bytes. with_vector (bits_of new.width new.shown) new.at (says_on (begun new) bytes)) (option_map (λ rest. left ++ rest) told)
given-here line new unread left None h = refl
given-here line new unread left (Some rest) h = ap Some (h.says rest)

pub gives-unread : (row : List Bool) (line new : PartLine) (unread left : List ℕ) → length left ≤ 65536 →
    HasReadOn Vector (begun line) unread new left → (length new.shown ≡ vector_size new.width → row ≡ bits_of new.width new.shown) →
    GivesUnread row (reading_of line unread) (reading_of new left)
gives-unread row line new unread left few h is = record {
  gives = λ store. next-gives true row line new unread left store store (h.full, given-here line new unread left (rest_of store) h) (λ _. is);
  moves = λ store. record {
    count = 0;
    place = moved-none store.current;
    bytes = (let size : length left ≡ length unread - h.count = ap length h.rest ∙ length-drop h.count unread in omega (arith, h.within, size, h.at));
    ahead = (let further : h.count ≡ new.at - line.at = omega (arith, h.at) in ahead-drop (rest_of store) unread left h.count h.within h.rest ∙ ap (λ (n : ℕ). option_map (λ (bytes : List ℕ). drop n bytes) (bytes_ahead unread store)) further);
    within = if-all (λ (rest : List ℕ). 0 ≤ length rest) (rest_of store) (λ rest. omega arith);
  };
  unread = few;
  further = h.whole refl;
}
