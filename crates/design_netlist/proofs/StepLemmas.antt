-- What the steps of the search write, and what is left to do.
use Rattle.std.proofs.Common.{◌≡◌, ℕ, zero, suc, ◌+◌, ◌-◌, ◌<◌, ◌≤◌, List, [], ◌∷◌, ◌++◌, Option, None, Some, length, get_or, take, refl, sym, ap, subst, ◌∙◌, arith, get_or-set_same, append_assoc, append-nil, replicate, slice_set}
use Rattle.design_netlist.proofs.Vocabulary.{get_or_default_zero, Cover, State, New, Open, Done, Group}
use Rattle.std.proofs.lemmas.List.{get_or-take, get_or-set_other, length-append, length-set, length-take, length-replicate, get_or_append_left, get_or-append-add, take_more}
use Rattle.std.proofs.Math.Seq.{get_or-append_seam}
use Rattle.design_netlist.specs.Vocabulary.{cover_at, Reads, driver_at, IsDriver, AreDrivers, number_at, state_at, start_at, waits_at, and_target, targets, cost, work, IsClosed, IsOpened, IsFront, IsSearch, AreHandled, IsListed, IsJoinedOn, LeadsTo, AreNumbered}
use Rattle.design_netlist.proofs.SearchLemmas.{closed_keeps, closed_handled, closed_costs, closed_seen, closed_listed, opened_listed, opened_seen, opened_keeps, opened_handled}

pub targets-push : (drivers : List (Option ℕ)) (xs : List ℕ) (y : ℕ) → targets drivers (xs ++ y ∷ []) ≡ targets drivers xs ++ and_target (driver_at drivers y) []
targets-push drivers [] y = refl
targets-push drivers (x ∷ xs) y = ap (λ ds. and_target (driver_at drivers x) ds) (targets-push drivers xs y) ∙ by (driver_at drivers x)
  where
    by : (o : Option ℕ) → and_target o (targets drivers xs ++ and_target (driver_at drivers y) []) ≡ and_target o (targets drivers xs) ++ and_target (driver_at drivers y) []
    by None = refl
    by (Some d) = refl

pub length-targets : (drivers : List (Option ℕ)) (xs : List ℕ) → length (targets drivers xs) ≤ length xs
length-targets drivers [] = omega arith
length-targets drivers (x ∷ xs) = by (driver_at drivers x) (length-targets drivers xs)
  where
    by : (o : Option ℕ) → length (targets drivers xs) ≤ length xs → length (and_target o (targets drivers xs)) ≤ length (x ∷ xs)
    by None h = omega arith
    by (Some d) h = omega arith

pub target_is : (drivers : List (Option ℕ)) (xs : List ℕ) (k : ℕ) → k < length (targets drivers xs) → (j : ℕ) × (j < length xs) × (driver_at drivers (number_at xs j) ≡ Some (number_at (targets drivers xs) k))
target_is drivers [] k lt = absurd (omega arith)
target_is drivers (x ∷ xs) k lt = by (driver_at drivers x) refl k lt (λ i li. target_is drivers xs i li)
  where
    by : (o : Option ℕ) → driver_at drivers x ≡ o → (k : ℕ) → k < length (and_target o (targets drivers xs)) → ((i : ℕ) → i < length (targets drivers xs) → (j : ℕ) × (j < length xs) × (driver_at drivers (number_at xs j) ≡ Some (number_at (targets drivers xs) i))) → (j : ℕ) × (j < length (x ∷ xs)) × (driver_at drivers (number_at (x ∷ xs) j) ≡ Some (number_at (and_target o (targets drivers xs)) k))
    by None e k l more = let r = more k l in (suc r.0, omega (arith, r.1), r.2)
    by (Some d) e zero l more = (0, omega arith, e)
    by (Some d) e (suc k) l more = let r = more k (omega arith) in (suc r.0, omega (arith, r.1), r.2)

pub is_target : (drivers : List (Option ℕ)) (xs : List ℕ) (j d : ℕ) → j < length xs → driver_at drivers (number_at xs j) ≡ Some d → (k : ℕ) × (k < length (targets drivers xs)) × (number_at (targets drivers xs) k ≡ d)
is_target drivers [] j d lt e = absurd (omega arith)
is_target drivers (x ∷ xs) zero d lt e = by (driver_at drivers x) e
  where
    by : (o : Option ℕ) → o ≡ Some d → (k : ℕ) × (k < length (and_target o (targets drivers xs))) × (number_at (and_target o (targets drivers xs)) k ≡ d)
    by None f = absurd (cc)
    by (Some c) f = (0, omega arith, cc)
is_target drivers (x ∷ xs) (suc j) d lt e = by (driver_at drivers x) (is_target drivers xs j d (omega arith) e)
  where
    by : (o : Option ℕ) → (k : ℕ) × (k < length (targets drivers xs)) × (number_at (targets drivers xs) k ≡ d) → (k : ℕ) × (k < length (and_target o (targets drivers xs))) × (number_at (and_target o (targets drivers xs)) k ≡ d)
    by None r = r
    by (Some c) r = (suc r.0, omega (arith, r.1), r.2)

module _ (covers : List Cover) (drivers : List (Option ℕ)) (are : AreDrivers covers drivers) where
  pub reads_driver : (i k d : ℕ) → i < length covers → k < length (cover_at covers i).ins → driver_at drivers (number_at (cover_at covers i).ins k) ≡ Some d → Reads covers i d
  reads_driver i k d li lk e =
      let h = subst (λ o. IsDriver covers (number_at (cover_at covers i).ins k) o) e (are.drives (number_at (cover_at covers i).ins k) (are.ins i k li lk)) in
      record { reader = li; driver = h.0; input = (k, lk, get_or_default_zero (cover_at covers i).ins k (cover_at covers d).out lk ∙ sym h.1) }

  pub driver_of : (j : ℕ) → j < length covers → driver_at drivers (cover_at covers j).out ≡ Some j
  driver_of j lj = by (driver_at drivers (cover_at covers j).out) (are.drives (cover_at covers j).out (are.outs j lj))
    where
      by : (o : Option ℕ) → IsDriver covers (cover_at covers j).out o → o ≡ Some j
      by None h = absurd (h j lj refl)
      by (Some d) h = ap (λ x. Some x) (sym (h.2 j lj refl))

  pub reads_target : (i : ℕ) → i < length covers → (k : ℕ) → k < length (targets drivers (cover_at covers i).ins) → Reads covers i (number_at (targets drivers (cover_at covers i).ins) k)
  reads_target i li k lk = let r = target_is drivers (cover_at covers i).ins k lk in reads_driver i r.0 (number_at (targets drivers (cover_at covers i).ins) k) li r.1 r.2

  pub read_at : (i j : ℕ) → Reads covers i j → (k : ℕ) × (k < length (cover_at covers i).ins) × (driver_at drivers (number_at (cover_at covers i).ins k) ≡ Some j)
  read_at i j r =
      let at = r.input in
      (at.0, at.1, ap (λ x. driver_at drivers x) (sym (get_or_default_zero (cover_at covers i).ins at.0 (cover_at covers j).out at.1) ∙ at.2) ∙ driver_of j r.driver)

  pub all_targets : (i j : ℕ) → Reads covers i j → (k : ℕ) × (k < length (targets drivers (cover_at covers i).ins)) × (number_at (targets drivers (cover_at covers i).ins) k ≡ j)
  all_targets i j r = let a = read_at i j r in is_target drivers (cover_at covers i).ins a.0 j a.1 a.2

-- what is left falls
pub work_falls : (s s' : List State) (cs : List Cover) → length s' ≡ length s → ((u : ℕ) (c : Cover) → cost (state_at s' u) c ≤ cost (state_at s u) c) → work s' cs ≤ work s cs
work_falls [] [] cs e h = omega arith
work_falls [] (y ∷ ys) cs e h = absurd (omega arith)
work_falls (x ∷ xs) [] cs e h = absurd (omega arith)
work_falls (x ∷ xs) (y ∷ ys) [] e h = omega arith
work_falls (x ∷ xs) (y ∷ ys) (c ∷ cs) e h =
    let one : cost y c ≤ cost x c = h 0 c in
    let more : work ys cs ≤ work xs cs = work_falls xs ys cs (omega arith) (λ u d. h (suc u) d) in
    omega arith

pub work_open : (s : List State) (cs : List Cover) (c p : ℕ) → c < length s → c < length cs → state_at s c ≡ New → work (slice_set s c (Open p)) cs + (length (cover_at cs c).ins + 2) ≡ work s cs
work_open [] cs c p lt l e = absurd (omega arith)
work_open (x ∷ xs) [] c p lt l e = absurd (omega arith)
work_open (x ∷ xs) (d ∷ ds) zero p lt l e = let f : cost x d ≡ length d.ins + 2 = ap (λ y. cost y d) e in omega arith
work_open (x ∷ xs) (d ∷ ds) (suc c) p lt l e = let f = work_open xs ds c p (omega arith) (omega arith) e in omega (arith, f)

pub front_take : {X : Type 0} (d : X) (xs : List X) (n : ℕ) → n ≤ length xs → IsFront d xs (take n xs) n
front_take d xs n le = record { within = le; len = omega (arith, length-take n xs); same = λ i li. get_or-take n xs i d li }

module _ (covers : List Cover) (drivers : List (Option ℕ)) (are : AreDrivers covers drivers) where
  pub opening_is : (c : ℕ) (states : List State) (path : List ℕ) (groups : List Group) (waiting : List ℕ) → c < length covers → length states ≡ length covers → IsOpened covers c states (slice_set states c (Open (length path))) path (path ++ c ∷ []) groups (groups ++ record { start = length path; waits = length waiting } ∷ []) waiting (waiting ++ targets drivers (cover_at covers c).ins)
  opening_is c states path groups waiting lc e = record {
    len = length-set states c (Open (length path));
    itself = get_or-set_same states c (Open (length path)) New (omega arith);
    other = λ u ne. get_or-set_other states c u (Open (length path)) New ne;
    path_len = length-append path (c ∷ []);
    path_old = λ p lp. get_or_append_left path (c ∷ []) 0 p lp;
    path_new = get_or-append_seam path c [] 0;
    groups_len = length-append groups _;
    start_old = λ i li. ap (λ (g : Group). g.start) (get_or_append_left groups _ _ i li);
    waits_old = λ i li. ap (λ (g : Group). g.waits) (get_or_append_left groups _ _ i li);
    start_new = ap (λ (g : Group). g.start) (get_or-append_seam groups _ [] _);
    waits_new = ap (λ (g : Group). g.waits) (get_or-append_seam groups _ [] _);
    waiting_len = omega (arith, length-append waiting (targets drivers (cover_at covers c).ins));
    waiting_old = λ w lw. get_or_append_left waiting _ 0 w lw;
    waiting_new = λ w le lw. subst (λ x. Reads covers c x) (sym (at w le)) (reads_target covers drivers are c lc (w - length waiting) (omega (arith, length-append waiting (targets drivers (cover_at covers c).ins))));
    waiting_all = λ v r. (let a = all_targets covers drivers are c v r in (length waiting + a.0, omega arith, omega (arith, a.1, length-append waiting (targets drivers (cover_at covers c).ins)), get_or-append-add waiting _ a.0 0 ∙ a.2));
  }
    where
      at : (w : ℕ) → length waiting ≤ w → number_at (waiting ++ targets drivers (cover_at covers c).ins) w ≡ number_at (targets drivers (cover_at covers c).ins) (w - length waiting)
      at w le = ap (λ x. number_at (waiting ++ targets drivers (cover_at covers c).ins) x) (back w le) ∙ get_or-append-add waiting _ (w - length waiting) 0
        where
          back : (w : ℕ) → length waiting ≤ w → w ≡ length waiting + (w - length waiting)
          back w le = omega arith

pub more_some : (drivers : List (Option ℕ)) (ins : List ℕ) (k d : ℕ) (base cur new : List ℕ) → k < length ins → driver_at drivers (number_at ins k) ≡ Some d → cur ≡ base ++ targets drivers (take k ins) → new ≡ cur ++ d ∷ [] → new ≡ base ++ targets drivers (take (k + 1) ins)
more_some drivers ins k d base cur new lt e f g =
    g ∙ ap (λ xs. xs ++ d ∷ []) f ∙ append_assoc base (targets drivers (take k ins)) (d ∷ []) ∙ ap (λ xs. base ++ xs) (sym (ap (λ xs. targets drivers xs) (take_more ins k 0 lt) ∙ targets-push drivers (take k ins) (number_at ins k) ∙ ap (λ o. targets drivers (take k ins) ++ and_target o []) e))

pub more_none : (drivers : List (Option ℕ)) (ins : List ℕ) (k : ℕ) (base cur new : List ℕ) → k < length ins → driver_at drivers (number_at ins k) ≡ None → cur ≡ base ++ targets drivers (take k ins) → new ≡ cur → new ≡ base ++ targets drivers (take (k + 1) ins)
more_none drivers ins k base cur new lt e f g =
    g ∙ f ∙ ap (λ xs. base ++ xs) (sym (ap (λ xs. targets drivers xs) (take_more ins k 0 lt) ∙ targets-push drivers (take k ins) (number_at ins k) ∙ ap (λ o. targets drivers (take k ins) ++ and_target o []) e ∙ append-nil (targets drivers (take k ins))))

-- the last group was closed
module _ (covers : List Cover) (states : List State) (path : List ℕ) (groups : List Group) (waiting : List ℕ) (count : ℕ) (s : IsSearch covers states path groups waiting count) (all : AreHandled covers states path groups waiting (length covers))
    (states' : List State) (path' : List ℕ) (groups' : List Group) (start count' : ℕ) (some : 0 < length groups) (at : start_at groups (length groups - 1) ≡ start) (visited : length waiting ≤ waits_at groups (length groups - 1))
    (num : IsClosed start (length path) count states states' path) (pe : path' ≡ take start path) (ge : groups' ≡ take (length groups - 1) groups) (ce : count' + start ≡ count + length path) where
  low : start_at groups (length groups - 1) < length path
  low = s.starts (length groups - 1) (omega arith)

  later : count < count'
  later = let l = low in omega arith

  closing : IsClosed (start_at groups (length groups - 1)) (length path) count states states' path
  closing = subst (λ x. IsClosed x (length path) count states states' path) (sym at) num

  shorter : IsFront 0 path path' (start_at groups (length groups - 1))
  shorter = subst (λ xs. IsFront 0 path xs (start_at groups (length groups - 1))) (sym (pe ∙ ap (λ x. take x path) (sym at))) (front_take 0 path (start_at groups (length groups - 1)) (let l = low in omega arith))

  fewer : IsFront (record { start = 0; waits = 0 }) groups groups' (length groups - 1)
  fewer = subst (λ xs. IsFront (record { start = 0; waits = 0 }) groups xs (length groups - 1)) (sym ge) (front_take (record { start = 0; waits = 0 }) groups (length groups - 1) (omega arith))

  pub close_keeps : IsSearch covers states' path' groups' waiting count'
  close_keeps = closed_keeps covers states path groups waiting count s states' path' groups' count' some later visited closing shorter fewer all

  pub close_handled : AreHandled covers states' path' groups' waiting (length covers)
  close_handled = closed_handled covers states path groups waiting count s states' path' groups' count' some later visited closing shorter fewer all

  pub close_seen : (u : ℕ) → state_at states' u ≡ New → state_at states u ≡ New
  close_seen = closed_seen covers states path groups waiting count s states' path' groups' count' some later visited closing shorter fewer

  pub close_listed : (order order' : List ℕ) → length order ≡ count → IsListed covers states order → IsJoinedOn path order order' start (length path) → IsListed covers states' order'
  close_listed order order' cnt li jo = closed_listed covers states path groups waiting count s states' path' groups' count' some later visited closing shorter fewer order order' cnt li (subst (λ x. IsJoinedOn path order order' x (length path)) (sym at) jo)

  pub close_less : work states' covers + length waiting + length groups' < work states covers + length waiting + length groups
  close_less =
      let w = work_falls states states' covers num.len (closed_costs covers states path groups waiting count s states' path' groups' count' some later visited closing shorter fewer) in
      let l = fewer.len in
      omega arith

-- a cover was opened
module _ (covers : List Cover) (drivers : List (Option ℕ)) (are : AreDrivers covers drivers) (states : List State) (path : List ℕ) (groups : List Group) (waiting : List ℕ) (count : ℕ) (s : IsSearch covers states path groups waiting count) (c : ℕ) (all : AreHandled covers states path groups waiting c)
    (lc : c < length covers) (fresh : state_at states c ≡ New) (led : LeadsTo covers path c)
    (states' : List State) (path' : List ℕ) (groups' : List Group) (waiting' : List ℕ)
    (se : states' ≡ slice_set states c (Open (length path))) (pe : path' ≡ path ++ c ∷ []) (ge : groups' ≡ groups ++ record { start = length path; waits = length waiting } ∷ []) (we : waiting' ≡ waiting ++ targets drivers (cover_at covers c).ins) where
  opening : IsOpened covers c states states' path path' groups groups' waiting waiting'
  opening = subst (λ x. IsOpened covers c states x path path' groups groups' waiting waiting') (sym se) (subst (λ x. IsOpened covers c states (slice_set states c (Open (length path))) path x groups groups' waiting waiting') (sym pe) (subst (λ x. IsOpened covers c states (slice_set states c (Open (length path))) path (path ++ c ∷ []) groups x waiting waiting') (sym ge) (subst (λ x. IsOpened covers c states (slice_set states c (Open (length path))) path (path ++ c ∷ []) groups (groups ++ record { start = length path; waits = length waiting } ∷ []) waiting x) (sym we) (opening_is covers drivers are c states path groups waiting lc s.len))))

  pub open_keeps : IsSearch covers states' path' groups' waiting' count
  open_keeps = opened_keeps covers states path groups waiting count s c states' path' groups' waiting' lc fresh led opening

  pub open_handled : AreHandled covers states' path' groups' waiting' (length covers)
  open_handled = opened_handled covers states path groups waiting count s c states' path' groups' waiting' lc fresh led opening all

  pub open_seen : (u : ℕ) → state_at states' u ≡ New → state_at states u ≡ New
  open_seen = opened_seen covers states path groups waiting count s c states' path' groups' waiting' lc fresh led opening

  pub open_itself : state_at states' c ≡ New → ⊥
  open_itself e = let f : Open (length path) ≡ New = sym opening.itself ∙ e in cc

  pub open_listed : (order : List ℕ) → IsListed covers states order → IsListed covers states' order
  open_listed order li = opened_listed covers states path groups waiting count s c states' path' groups' waiting' lc fresh led opening order li

  pub open_less : work states' covers + length waiting' + length groups' < work states covers + length waiting + length groups
  open_less =
      let lt : c < length states = omega (arith, s.len) in
      let w : work states' covers + (length (cover_at covers c).ins + 2) ≡ work states covers = ap (λ x. work x covers + (length (cover_at covers c).ins + 2)) se ∙ work_open states covers c (length path) lt lc fresh in
      let a : length waiting' ≡ length waiting + length (targets drivers (cover_at covers c).ins) = ap length we ∙ length-append waiting (targets drivers (cover_at covers c).ins) in
      let b : length (targets drivers (cover_at covers c).ins) ≤ length (cover_at covers c).ins = length-targets drivers (cover_at covers c).ins in
      let g : length groups' ≡ length groups + 1 = opening.groups_len in
      omega arith

-- all that the opening of a cover keeps and does
pub record HasOpened (covers : List Cover) (order : List ℕ) (c : ℕ) (states states' : List State) (path' : List ℕ) (groups groups' : List Group) (waiting waiting' : List ℕ) : Type 0 where
  pub keeps : IsSearch covers states' path' groups' waiting' (length order)
  pub handled : AreHandled covers states' path' groups' waiting' (length covers)
  pub listed : IsListed covers states' order
  pub less : work states' covers + length waiting' + length groups' < work states covers + length waiting + length groups
  pub seen : (u : ℕ) → state_at states' u ≡ New → state_at states u ≡ New
  pub itself : state_at states' c ≡ New → ⊥

pub has_opened : (covers : List Cover) (drivers : List (Option ℕ)) (states : List State) (path : List ℕ) (groups : List Group) (waiting order : List ℕ) (c : ℕ) (states' : List State) (path' : List ℕ) (groups' : List Group) (waiting' : List ℕ) (start waits : ℕ) (cover : Cover) (ins : List ℕ) →
    AreDrivers covers drivers → IsSearch covers states path groups waiting (length order) → AreHandled covers states path groups waiting c → IsListed covers states order → c < length covers → state_at states c ≡ New → LeadsTo covers path c →
    start ≡ length path → waits ≡ length waiting → cover ≡ cover_at covers c → ins ≡ cover.ins →
    states' ≡ slice_set states c (Open start) → path' ≡ path ++ c ∷ [] → groups' ≡ groups ++ record { start = start; waits = waits } ∷ [] → waiting' ≡ waiting ++ targets drivers ins → HasOpened covers order c states states' path' groups groups' waiting waiting'
has_opened covers drivers states path groups waiting order c states' path' groups' waiting' start waits cover ins are s all li lc fresh led pi wi ci ii se pe ge we = record {
  keeps = open_keeps covers drivers are states path groups waiting (length order) s c all lc fresh led states' path' groups' waiting' se' pe ge' we';
  handled = open_handled covers drivers are states path groups waiting (length order) s c all lc fresh led states' path' groups' waiting' se' pe ge' we';
  listed = open_listed covers drivers are states path groups waiting (length order) s c all lc fresh led states' path' groups' waiting' se' pe ge' we' order li;
  less = open_less covers drivers are states path groups waiting (length order) s c all lc fresh led states' path' groups' waiting' se' pe ge' we';
  seen = open_seen covers drivers are states path groups waiting (length order) s c all lc fresh led states' path' groups' waiting' se' pe ge' we';
  itself = open_itself covers drivers are states path groups waiting (length order) s c all lc fresh led states' path' groups' waiting' se' pe ge' we';
}
  where
    se' : states' ≡ slice_set states c (Open (length path))
    se' = se ∙ ap (λ x. slice_set states c (Open x)) pi

    ge' : groups' ≡ groups ++ record { start = length path; waits = length waiting } ∷ []
    ge' = ge ∙ ap (λ x. groups ++ record { start = x; waits = waits } ∷ []) pi ∙ ap (λ x. groups ++ record { start = length path; waits = x } ∷ []) wi

    we' : waiting' ≡ waiting ++ targets drivers (cover_at covers c).ins
    we' = we ∙ ap (λ x. waiting ++ targets drivers x) (ii ∙ ap (λ (x : Cover). x.ins) ci)

pub none_yet : (covers : List Cover) (states : List State) → length states ≡ length covers → ((u : ℕ) → state_at states u ≡ New) → IsSearch covers states [] [] [] 0
none_yet covers states e new = record {
  len = e;
  within = λ p lp. absurd (omega arith);
  opens = λ p lp. absurd (omega arith);
  opened = λ u p h. absurd (let f : New ≡ Open p = sym (new u) ∙ h in cc);
  dones = λ u k h. absurd (let f : New ≡ Done k = sym (new u) ∙ h in cc);
  closed = λ u v k h r. absurd (let f : New ≡ Done k = sym (new u) ∙ h in cc);
  together = λ u v k h g. absurd (let f : New ≡ Done k = sym (new u) ∙ h in cc);
  along = λ p q le lq. absurd (omega arith);
  rooted = λ q lq. absurd (omega arith);
  sorted = λ i j lt lj. absurd (omega arith);
  starts = λ i li. absurd (omega arith);
  waits = λ i li. absurd (omega arith);
  sources = λ w lw. absurd (omega arith);
}

-- where no group is left
module _ (covers : List Cover) (states : List State) (path : List ℕ) (groups : List Group) (waiting : List ℕ) (count : ℕ) (s : IsSearch covers states path groups waiting count) (ended : groups ≡ []) where
  empty : (p : ℕ) → p < length path → ⊥
  empty p lp = let r = s.rooted p lp in let e : length groups ≡ 0 = ap length ended in omega (arith, r.1)

  pub no_one_leads : (c : ℕ) → LeadsTo covers path c
  no_one_leads c = λ p lp. absurd (empty p lp)

  pub all_numbered : ((u : ℕ) → u < length covers → state_at states u ≡ New → ⊥) → AreNumbered covers states
  all_numbered seen = record { len = s.len; each = λ u lu. by u lu (state_at states u) refl; top = (count, s.dones); closed = s.closed; together = s.together }
    where
      by : (u : ℕ) → u < length covers → (x : State) → state_at states u ≡ x → (k : ℕ) × (state_at states u ≡ Done k)
      by u lu New e = absurd (seen u lu e)
      by u lu (Open p) e = absurd (empty p (s.opened u p e).0)
      by u lu (Done k) e = (k, e)

all_new : (n u : ℕ) → get_or (replicate n New) u New ≡ New
all_new zero u = refl
all_new (suc n) zero = refl
all_new (suc n) (suc u) = all_new n u

module _ (covers : List Cover) (states : List State) (path : List ℕ) (groups : List Group) (waiting order : List ℕ) (se : states ≡ replicate (length covers) New) (pe : path ≡ []) (ge : groups ≡ []) (we : waiting ≡ []) (oe : order ≡ []) where
  at_first : (u : ℕ) → state_at states u ≡ New
  at_first u = ap (λ x. state_at x u) se ∙ all_new (length covers) u

  pub start_keeps : IsSearch covers states path groups waiting (length order)
  start_keeps = subst (λ x. IsSearch covers states x groups waiting (length order)) (sym pe) (subst (λ x. IsSearch covers states [] x waiting (length order)) (sym ge) (subst (λ x. IsSearch covers states [] [] x (length order)) (sym we) (subst (λ x. IsSearch covers states [] [] [] (length x)) (sym oe) (none_yet covers states (ap length se ∙ length-replicate (length covers) New) at_first))))

  pub start_listed : IsListed covers states order
  start_listed = record {
    within = λ k lk. absurd (let e : length order ≡ 0 = ap length oe in omega arith);
    numbered = λ k lk. absurd (let e : length order ≡ 0 = ap length oe in omega arith);
    first = λ u k e. absurd (let f : New ≡ Done k = sym (at_first u) ∙ e in cc);
    apart = λ j k lt lk e. absurd (let f : length order ≡ 0 = ap length oe in omega arith);
  }

  pub start_handled : (spare : ℕ) → AreHandled covers states path groups waiting spare
  start_handled spare = λ q v lq r. absurd (let e : length path ≡ 0 = ap length pe in omega arith)
