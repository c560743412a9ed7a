-- What reading a text line by line makes of it.
use Rattle.std.proofs.Common.{◌≡◌, ◌≢◌, ◌<◌, ℕ, true, false, None, Some, Option, Result, Ok, Err, List, [], ◌∷◌, ◌++◌, length, map, get_or, refl, sym, ap, ◌∙◌, subst, append_assoc, append-nil, MatchOption, MatchResult, IfSome, IfNone, IfOk, IfErr}
use Rattle.machine_faults.proofs.Vocabulary.{list_any, map-append, Shape, ends_of, wires_of, crosses_of, wire_name, HasNames, IsNumbered}
use Rattle.machine_faults.proofs.Vocabulary.{Faults, in_order, turned, Fault, Stuck, CrossStuck, Cell, Register, Bridge, Head, Faulty}
use Rattle.machine_faults.proofs.Vocabulary.{CanHave, IsRefusal, no_faults, with_fault, refusal_of, word_of, follow_of, has_wires}
use Rattle.machine_faults.proofs.Vocabulary.{has_cross, end_names, head_of, rest_of, fault_words, with_all, AreAdded, IsFaultText}
use Rattle.machine_shape.specs.declared.Cross.{Cross}
use Rattle.base_text.specs.declared.lines.LineFault.{LineFault}
use Rattle.base_text.specs.declared.lines.LineFault.TheVariants as line
use Rattle.base_text.specs.Vocabulary.{IsFaultAt as IsFaultAtLine, LogicalLine, logical_lines, is_bad_line, is_bad}
use Rattle.machine_faults.specs.declared.{fault.AddFault.AddFault, kind.FaultsKind.FaultsKind}
use Rattle.machine_faults.specs.declared.fault.AddFault.TheVariants as add
use Rattle.machine_faults.specs.declared.kind.FaultsKind.TheVariants as kind
use Rattle.machine_faults.specs.declared.kind.FaultsFault.{FaultsFault, TheVariants.At, TheVariants.Memory}
use Rattle.machine_faults.specs.Refusals.{IsRestFault, IsNoEntry, IsLineFault, IsFirstFault, IsFirst, GivesOrLacks, Takes, told_of, line_told, AreWireNames}
use Rattle.machine_faults.specs.Refusals.{IsNoEntry.formless, IsNoEntry.formed, IsLineFault.bad, IsLineFault.no_entry, IsLineFault.refused}
use Rattle.machine_faults.proofs.Words.{one_head, one_fault, right_size, tap_in, line_in, IsTold}
use Rattle.machine_faults.proofs.Names.{good_entry}

-- ---- crosspoints

pub cross_is : (m : Shape) (tap line : ℕ) (r : Option Cross) → HasNames m → IsNumbered m → tap < wires_of m → line < wires_of m → IfSome r (λ c. (c.0 < crosses_of m) × (ends_of m c.0 ≡ (tap, line))) → IfNone r ((c : ℕ) → c < crosses_of m → ends_of m c ≢ (tap, line))
    → MatchOption r ((x : ℕ) → x < crosses_of m → end_names m x ≢ wire_name m tap ∷ wire_name m line ∷ []) (λ x. (x.0 < crosses_of m) × (end_names m x.0 ≡ wire_name m tap ∷ wire_name m line ∷ []))
cross_is m tap line (Some c) names numbered p q found none = (found.0, ap (λ (e : ℕ × ℕ). wire_name m e.0 ∷ wire_name m e.1 ∷ []) found.1)
cross_is m tap line None names numbered p q found none = λ x lt e.
    let t = names.one_wire (ends_of m x).0 tap (numbered.ends x (ends_of m x).0 (ends_of m x).1 lt (in_order refl refl)) p (ap (λ ws. get_or ws 0 []) e) in
    let l = names.one_wire (ends_of m x).1 line (numbered.ends x (ends_of m x).1 (ends_of m x).0 lt (turned refl refl)) q (ap (λ ws. get_or ws 1 []) e) in
    none x lt (λ i. (t i, l i))

-- ---- the words of one line

module _ (m : Shape) (first : List ℕ) (rest words : List (List ℕ)) (parts : first ∷ rest ≡ words) where
  pub headless : ((h : Head) → word_of h ≢ first) → IsNoEntry m words kind.Word
  headless none = formless (λ h r f. none h (ap (λ ws. get_or ws 0 []) (f.all ∙ sym parts)))

  pub too_short : (h : Head) → word_of h ≡ first → length rest ≢ follow_of h → IsNoEntry m words kind.Word
  too_short h is size = formless (λ g r f.
      let both : word_of g ∷ r ≡ first ∷ rest = f.all ∙ sym parts in
      let same : g ≡ h = one_head g h (ap (λ ws. get_or ws 0 []) both ∙ sym is) in
      let tails : r ≡ rest = cc in
      size (ap length (sym tails) ∙ f.size ∙ ap follow_of same))

  pub read_form : (h : Head) → word_of h ≡ first → length rest ≡ follow_of h → (r : Result Fault FaultsKind) → MatchResult r (λ x. CanHave m x × (fault_words m x ≡ word_of h ∷ rest)) (IsRestFault m h rest) → MatchResult r (λ x. CanHave m x × (fault_words m x ≡ words)) (IsNoEntry m words)
  read_form h is size (Ok x) got = (got.0, got.1 ∙ ap (λ w. w ∷ rest) is ∙ parts)
  read_form h is size (Err k) got = formed h rest (record { all = ap (λ w. w ∷ rest) is ∙ parts; size = size }) got

-- ---- lines one after another

pub with_all_more : (f : Faults) (xs : List Fault) (x : Fault) → with_all f (xs ++ x ∷ []) ≡ with_fault (with_all f xs) x
with_all_more f [] x = refl
with_all_more f (y ∷ xs) x = with_all_more (with_fault f y) xs x

pub added_more : (m : Shape) (f : Faults) (xs : List Fault) (x : Fault) → AreAdded m f xs → CanHave m x → refusal_of m (with_all f xs) x ≡ None → AreAdded m f (xs ++ x ∷ [])
added_more m f [] x all is free = (is, free, tt)
added_more m f (y ∷ xs) x all is free = (all.0, all.1, added_more m (with_fault f y) xs x all.2 is free)

-- what is read so far: these lines are left, and the set has the entries of those above
pub record IsReadTo (m : Shape) (lines left : List LogicalLine) (s : Faulty) : Type 0 where
  pub shape : s.shape ≡ m
  pub above : List LogicalLine
  pub entries : List Fault
  pub parts : above ++ left ≡ lines
  pub rows : map (λ l. l.words) above ≡ map (fault_words m) entries
  pub added : AreAdded m no_faults entries
  pub all : with_all no_faults entries ≡ s.faults

pub begins : (m : Shape) (lines left : List LogicalLine) (s : Faulty) → left ≡ lines → s ≡ record { shape = m; faults = no_faults } → IsReadTo m lines left s
begins m lines left s e is = record { shape = ap (λ v. v.shape) is; above = []; entries = []; parts = e; rows = refl; added = tt; all = sym (ap (λ v. v.faults) is) }

module _ (m : Shape) (lines left rest : List LogicalLine) (l : LogicalLine) (s : Faulty) (k : IsReadTo m lines left s) (next : left ≡ l ∷ rest) where
  pub goes_on : (t : Faulty) → Takes s l (Ok tt) t → IsReadTo m lines rest t
  goes_on t took = record {
    shape = ap (λ v. v.shape) took.4 ∙ k.shape;
    above = k.above ++ l ∷ [];
    entries = k.entries ++ took.0 ∷ [];
    parts = append_assoc k.above (l ∷ []) rest ∙ ap (λ ls. k.above ++ ls) (sym next) ∙ k.parts;
    rows = map-append (λ (r : LogicalLine). r.words) k.above (l ∷ []) ∙ (λ i. k.rows i ++ sym (subst (λ n. fault_words n took.0 ≡ l.words) k.shape took.1) i ∷ []) ∙ sym (map-append (fault_words m) k.entries (took.0 ∷ []));
    added = added_more m no_faults k.entries took.0 k.added (subst (λ n. CanHave n took.0) k.shape took.2) (subst (λ f. refusal_of m f took.0 ≡ None) (sym k.all) (subst (λ n. refusal_of n s.faults took.0 ≡ None) k.shape took.3));
    all = with_all_more no_faults k.entries took.0 ∙ ap (λ f. with_fault f took.0) k.all ∙ sym (ap (λ v. v.faults) took.4);
  }

  first_at : (number : ℕ) (k' : FaultsKind) → (number ≡ l.number) × IsLineFault s.shape s.faults l k' → IsFirstFault m lines number k'
  first_at number k' h = record {
    above = k.above;
    line = l;
    below = rest;
    parts = ap (λ ls. k.above ++ ls) (sym next) ∙ k.parts;
    entries = k.entries;
    rows = k.rows;
    added = k.added;
    here = sym h.0;
    fault = subst (λ f. IsLineFault m f l k') (sym k.all) (subst (λ n. IsLineFault n s.faults l k') k.shape h.1);
  }

  pub stops : (e : FaultsFault) (t : Faulty) → Takes s l (Err e) t → IsFirst m lines e
  stops Memory t took = tt
  stops (At number k') t took = first_at number k' took

  pub stops_bad : (number : ℕ) → (l.number ≡ number) × (is_bad_line l ≡ true) → IsFirstFault m lines number kind.Byte
  stops_bad number h = first_at number kind.Byte (sym h.0, bad h.1)

pub stops_at : (m : Shape) (lines left : List LogicalLine) (s : Faulty) (e : LineFault) → IsReadTo m lines left s → IsFaultAtLine left e → IsFirst m lines (line_told e)
stops_at m lines left s line.Memory k h = tt
stops_at m lines [] s (line.BadByte number) k h = absurd h
stops_at m lines (l ∷ rest) s (line.BadByte number) k h = stops_bad m lines (l ∷ rest) rest l s k refl number h

pub ends : (m : Shape) (bytes : List ℕ) (left : List LogicalLine) (s : Faulty) → IsReadTo m (logical_lines false bytes) left s → left ≡ [] → IsFaultText m bytes s.faults
ends m bytes left s k none = record {
  entries = k.entries;
  rows = ap (map (λ (r : LogicalLine). r.words)) (sym k.parts ∙ ap (λ ls. k.above ++ ls) none ∙ append-nil k.above) ∙ k.rows;
  added = k.added;
  all = k.all;
}

-- ---- what a refusal of the set is told

pub refusal_told : (m : Shape) (s : Faulty) (l : LogicalLine) (x : Fault) (why : AddFault) (t : Faulty) → is_bad_line l ≡ false → fault_words s.shape x ≡ l.words → CanHave s.shape x → IsRefusal (refusal_of s.shape s.faults x) why → Takes s l (Err (told_of l.number why)) t
refusal_told m s l x add.Memory t sound w is r = tt
refusal_told m s l x add.Same t sound w is r = (refl, refused x add.Same sound w is r)
refusal_told m s l x add.Doubled t sound w is r = (refl, refused x add.Doubled sound w is r)
refusal_told m s l x add.Against t sound w is r = (refl, refused x add.Against sound w is r)
refusal_told m s l x add.Limit t sound w is r = (refl, refused x add.Limit sound w is r)

-- the same where the entry was read at this shape, of these words
pub refusal_at_line : (s : Faulty) (l : LogicalLine) (x : Fault) (why : AddFault) (t : Faulty) (n : Shape) (words : List (List ℕ)) (number : ℕ) (e : FaultsFault) → n ≡ s.shape → words ≡ l.words → number ≡ l.number → e ≡ told_of number why → is_bad_line l ≡ false → CanHave n x × (fault_words n x ≡ words) → IsRefusal (refusal_of s.shape s.faults x) why → Takes s l (Err e) t
refusal_at_line s l x why t n words number e shape same here told sound got r =
    subst (λ f. Takes s l (Err f) t) (sym (told ∙ ap (λ k. told_of k why) here))
    (refusal_told s.shape s l x why t sound (subst (λ m. fault_words m x ≡ words) shape got.1 ∙ same) (subst (λ m. CanHave m x) shape got.0) r)

pub no_entry_at_line : (s : Faulty) (l : LogicalLine) (n : Shape) (words : List (List ℕ)) (k : FaultsKind) → n ≡ s.shape → words ≡ l.words → is_bad_line l ≡ false → IsNoEntry n words k → IsLineFault s.shape s.faults l k
no_entry_at_line s l n words k shape same sound none = no_entry sound (subst (λ m. IsNoEntry m l.words k) shape (subst (λ ws. IsNoEntry n ws k) same none))

-- ---- a text of faults is read

wires_named : (m : Shape) → IsTold m → (x : Fault) → CanHave m x → has_wires (head_of x) ≡ true → AreWireNames m (rest_of m x)
wires_named m k (Stuck w v) p h = ((w.0, p, refl), tt)
wires_named m k (CrossStuck x c) p h = (((ends_of m x.0).0, tap_in m k x.0 p, refl), (((ends_of m x.0).1, line_in m k x.0 p, refl), tt))
wires_named m k (Cell t a v) p h = absurd cc
wires_named m k (Register t v) p h = absurd cc
wires_named m k (Bridge a b) p h = ((a.0, p.0, refl), ((b.0, p.1, refl), tt))

cross_there : (m : Shape) (x : Fault) → CanHave m x → has_cross (head_of x) ≡ true → ((y : ℕ) → y < crosses_of m → end_names m y ≢ rest_of m x) → ⊥
cross_there m (Stuck w false) p h none = cc
cross_there m (Stuck w true) p h none = cc
cross_there m (CrossStuck x c) p h none = none x.0 p refl
cross_there m (Cell t a v) p h none = cc
cross_there m (Register t v) p h none = cc
cross_there m (Bridge a b) p h none = cc

rest_right : (m : Shape) → IsTold m → (x : Fault) → CanHave m x → (k' : FaultsKind) → IsRestFault m (head_of x) (rest_of m x) k' → ⊥
rest_right m k x p kind.Wire f = f.1 (wires_named m k x p f.0)
rest_right m k x p kind.Cross f = cross_there m x p f.0 f.2
rest_right m k x p kind.Cell f = f.1 x p refl
rest_right m k x p kind.Register f = f.1 x p refl
rest_right m k x p _ f = f

entry_right : (m : Shape) → IsTold m → (x : Fault) → CanHave m x → (k' : FaultsKind) → IsNoEntry m (fault_words m x) k' → ⊥
entry_right m k x p k' (formless none) = none (head_of x) (rest_of m x) (record { all = refl; size = right_size m x })
entry_right m k x p k' (formed h rest f r) =
    let same : h ≡ head_of x = one_head h (head_of x) (ap (λ ws. get_or ws 0 []) f.all) in
    let tails : rest ≡ rest_of m x = cc (f.all) in
    rest_right m k x p k' (subst (λ t. IsRestFault m (head_of x) t k') tails (subst (λ g. IsRestFault m g rest k') same r))

line_right : (m : Shape) → IsTold m → (f : Faults) (l : LogicalLine) (x : Fault) → l.words ≡ fault_words m x → CanHave m x → refusal_of m f x ≡ None → (k' : FaultsKind) → IsLineFault m f l k' → ⊥
line_right m k f l x w p free k' (bad b) = let e : true ≡ false = sym b ∙ ap (list_any (list_any is_bad)) w ∙ good_entry m k x p in cc
line_right m k f l x w p free k' (no_entry sound n) = entry_right m k x p k' (subst (λ ws. IsNoEntry m ws k') w n)
line_right m k f l x w p free k' (refused y why sound v q r) =
    let same : y ≡ x = one_fault m k y x q p (v ∙ w) in
    let e : ◌≡◌ {A = Option AddFault} None (Some why) = sym free ∙ ap (refusal_of m f) (sym same) ∙ r in
    cc

no_first : (m : Shape) → IsTold m → (f : Faults) (above : List LogicalLine) (l : LogicalLine) (below : List LogicalLine) (es fs : List Fault) (k' : FaultsKind) → map (λ (r : LogicalLine). r.words) (above ++ l ∷ below) ≡ map (fault_words m) fs → map (λ (r : LogicalLine). r.words) above ≡ map (fault_words m) es → AreAdded m f es → AreAdded m f fs → IsLineFault m (with_all f es) l k' → ⊥
no_first m k f [] l below [] [] k' all rows p q h = cc
no_first m k f [] l below [] (x ∷ fs) k' all rows p q h = line_right m k f l x (cc) q.0 q.1 k' h
no_first m k f [] l below (e ∷ es) fs k' all rows p q h = cc
no_first m k f (a ∷ above) l below [] fs k' all rows p q h = cc
no_first m k f (a ∷ above) l below (e ∷ es) [] k' all rows p q h = cc
no_first m k f (a ∷ above) l below (e ∷ es) (x ∷ fs) k' all rows p q h =
    let heads : fault_words m x ≡ fault_words m e = cc in
    let same : x ≡ e = one_fault m k x e q.0 p.0 heads in
    no_first m k (with_fault f e) above l below es fs k' (cc) (cc) p.2 (subst (λ y. AreAdded m (with_fault f y) fs) same q.2) h

one_list : (m : Shape) → IsTold m → (f g : Faults) (es fs : List Fault) → map (fault_words m) es ≡ map (fault_words m) fs → AreAdded m f es → AreAdded m g fs → es ≡ fs
one_list m k f g [] [] e p q = refl
one_list m k f g [] (x ∷ fs) e p q = absurd cc
one_list m k f g (x ∷ es) [] e p q = absurd cc
one_list m k f g (x ∷ es) (y ∷ fs) e p q =
    let heads : fault_words m x ≡ fault_words m y = cc in
    let tails : map (fault_words m) es ≡ map (fault_words m) fs = cc in
    let same = one_fault m k x y p.0 q.0 heads in
    let others = one_list m k (with_fault f x) (with_fault g y) es fs tails p.2 q.2 in
    (λ i. same i ∷ others i)

same_faults : (m : Shape) → IsTold m → (bytes : List ℕ) (f g : Faults) → IsFaultText m bytes f → IsFaultText m bytes g → f ≡ g
same_faults m k bytes f g s t = sym s.all ∙ ap (with_all no_faults) (one_list m k no_faults no_faults s.entries t.entries (sym s.rows ∙ t.rows) s.added t.added) ∙ t.all

pub only_is : (m : Shape) → IsTold m → (bytes : List ℕ) (r : Result Faulty FaultsFault) → IfOk r (λ s. (s.shape ≡ m) × IsFaultText m bytes s.faults) → IfErr r (IsFirst m (logical_lines false bytes)) → (f : Faults) → IsFaultText m bytes f → GivesOrLacks (record { shape = m; faults = f }) r
only_is m k bytes (Ok s) got first f t = let same = same_faults m k bytes s.faults f got.1 t in (λ i. record { shape = got.0 i; faults = same i })
only_is m k bytes (Err Memory) got first f t = tt
only_is m k bytes (Err (At number k')) got first f t = no_first m k no_faults first.above first.line first.below first.entries t.entries k' (ap (map (λ (r : LogicalLine). r.words)) first.parts ∙ t.rows) first.rows first.added t.added first.fault
