-- The rules on lines that use models are kept exactly where no line has a fault.
use Rattle.std.proofs.Common.{◌≡◌, ℕ, suc, Bool, true, false, not, cond, ◌||◌, List, [], ◌∷◌, Option, Some, None, map, refl, sym, arith, IsSome}
use Rattle.design_flatten.proofs.Vocabulary.{All, AllPairs, option_or, bytes_eq, or_parts, not-false, true_from_ne_false, All-nil, All-cons}
use Rattle.design_flatten.proofs.Vocabulary.{All-head, All-tail, bytes_eq-Decides, Model}
use Rattle.std.proofs.lemmas.List.Kept.{AllPairs-cons}
use Rattle.design_flatten.specs.Vocabulary.{Pair, model_named, use_at, is_among, input_names, port_names, formals_of, IsRightlyGiven, IsRecursive, KeepsRules, IsUnknown, first_wrong, first_missing, formal_fault, wrong_formal, IsWronglyGiven, IsFirstUse}

abbrev Differ : List ℕ → List ℕ → Type 0
Differ f g = f ≡ g → ⊥

-- names of the ports, none of which stands earlier or twice
record AreFormals (ports earlier formals : List (List ℕ)) : Type 0 where
  ports_are : All (λ f. is_among ports f ≡ true) formals
  fresh : All (λ f. is_among earlier f ≡ false) formals
  once : AllPairs Differ formals

no_pairs : AllPairs Differ []
no_pairs i j d lt room = absurd (omega (arith, room))

none_if : (b : Bool) (f : List ℕ) (later : Option (List ℕ)) → cond b (Some f) later ≡ None → (b ≡ false) × (later ≡ None)
none_if true f later h = absurd cc
none_if false f later h = (refl, h)

unequal : (f g : List ℕ) → bytes_eq g f ≡ false → Differ f g
unequal f g h e = let same : bytes_eq g f ≡ true = (bytes_eq-Decides g f).1 (sym e) in cc

unequal_bytes : (f g : List ℕ) → Differ f g → (b : Bool) → bytes_eq g f ≡ b → b ≡ false
unequal_bytes f g h true e = absurd (h (sym ((bytes_eq-Decides g f).0 e)))
unequal_bytes f g h false e = refl

-- none of them is this one, and none stands earlier
apart : (f : List ℕ) (earlier fs : List (List ℕ)) → All (λ g. is_among (f ∷ earlier) g ≡ false) fs → All (Differ f) fs × All (λ g. is_among earlier g ≡ false) fs
apart f earlier [] h = (All-nil (Differ f), All-nil (λ g. is_among earlier g ≡ false))
apart f earlier (g ∷ fs) h =
    let P = λ (x : List ℕ). is_among (f ∷ earlier) x ≡ false in
    let first = or_parts (bytes_eq g f) (is_among earlier g) (All-head P g fs h) in
    let rest = apart f earlier fs (All-tail P g fs h) in
    (All-cons (Differ f) g fs (unequal f g first.0) rest.0, All-cons (λ x. is_among earlier x ≡ false) g fs first.1 rest.1)

together : (f : List ℕ) (earlier fs : List (List ℕ)) → All (Differ f) fs → All (λ g. is_among earlier g ≡ false) fs → All (λ g. is_among (f ∷ earlier) g ≡ false) fs
together f earlier [] h k = All-nil (λ g. is_among (f ∷ earlier) g ≡ false)
together f earlier (g ∷ fs) h k =
    let Q = λ (x : List ℕ). is_among earlier x ≡ false in
    let one : bytes_eq g f ≡ false = unequal_bytes f g (All-head (Differ f) g fs h) (bytes_eq g f) refl in
    let other : is_among earlier g ≡ false = All-head Q g fs k in
    All-cons (λ x. is_among (f ∷ earlier) x ≡ false) g fs (rw (one, other) refl) (together f earlier fs (All-tail (Differ f) g fs h) (All-tail Q g fs k))

first_pairs : (f : List ℕ) (fs : List (List ℕ)) → AllPairs Differ (f ∷ fs) → All (Differ f) fs
first_pairs f fs h = λ k d lt. h 0 (suc k) d (omega arith) (omega (arith, lt))

later_pairs : (f : List ℕ) (fs : List (List ℕ)) → AllPairs Differ (f ∷ fs) → AllPairs Differ fs
later_pairs f fs h = λ i j d lt room. h (suc i) (suc j) d (omega (arith, lt)) (omega (arith, room))

module _ (ports : List (List ℕ)) where
  abbrev IsPort : List ℕ → Type 0
  IsPort f = is_among ports f ≡ true

  formals_right : (formals earlier : List (List ℕ)) → first_wrong ports earlier formals ≡ None → AreFormals ports earlier formals
  formals_right [] earlier h = record { ports_are = All-nil IsPort; fresh = All-nil (λ f. is_among earlier f ≡ false); once = no_pairs }
  formals_right (f ∷ fs) earlier h =
      let p = none_if (not (is_among ports f) || is_among earlier f) f (first_wrong ports (f ∷ earlier) fs) h in
      let q = or_parts (not (is_among ports f)) (is_among earlier f) p.0 in
      let rest = formals_right fs (f ∷ earlier) p.1 in
      let r = apart f earlier fs rest.fresh in
      record {
        ports_are = All-cons IsPort f fs (not-false (is_among ports f) q.0) rest.ports_are;
        fresh = All-cons (λ g. is_among earlier g ≡ false) f fs q.1 r.1;
        once = AllPairs-cons Differ f fs r.0 rest.once;
      }

  formals_free : (formals earlier : List (List ℕ)) → AreFormals ports earlier formals → first_wrong ports earlier formals ≡ None
  formals_free [] earlier h = refl
  formals_free (f ∷ fs) earlier h =
      let Q = λ (x : List ℕ). is_among earlier x ≡ false in
      let port : is_among ports f ≡ true = All-head IsPort f fs h.ports_are in
      let new : is_among earlier f ≡ false = All-head Q f fs h.fresh in
      let rest : AreFormals ports (f ∷ earlier) fs = record {
        ports_are = All-tail IsPort f fs h.ports_are;
        fresh = together f earlier fs (first_pairs f fs h.once) (All-tail Q f fs h.fresh);
        once = later_pairs f fs h.once;
      } in
      rw (port, new) (formals_free fs (f ∷ earlier) rest)

module _ (formals : List (List ℕ)) where
  abbrev IsGiven : List ℕ → Type 0
  IsGiven i = is_among formals i ≡ true

  inputs_given : (inputs : List (List ℕ)) → first_missing formals inputs ≡ None → All IsGiven inputs
  inputs_given [] h = All-nil IsGiven
  inputs_given (i ∷ inputs) h = by (is_among formals i) refl (inputs_given inputs) h
    where
      by : (b : Bool) → is_among formals i ≡ b → (first_missing formals inputs ≡ None → All IsGiven inputs) → cond b (first_missing formals inputs) (Some i) ≡ None → All IsGiven (i ∷ inputs)
      by true e rest k = All-cons IsGiven i inputs e (rest k)
      by false e rest k = absurd cc

  none_missing : (inputs : List (List ℕ)) → All IsGiven inputs → first_missing formals inputs ≡ None
  none_missing [] h = refl
  none_missing (i ∷ inputs) h =
      let first : is_among formals i ≡ true = All-head IsGiven i inputs h in
      rw first (none_missing inputs (All-tail IsGiven i inputs h))

no_first : (first later : Option (List ℕ)) → option_or first later ≡ None → (first ≡ None) × (later ≡ None)
no_first None later h = (refl, h)
no_first (Some f) later h = absurd cc

given_right : (m : Model) (pairs : List (Pair ℕ)) → formal_fault m pairs ≡ None → IsRightlyGiven m pairs
given_right m pairs h =
    let p = no_first (first_wrong (port_names m) [] (formals_of pairs)) (first_missing (formals_of pairs) (input_names m)) h in
    let formals = formals_right (port_names m) (formals_of pairs) [] p.0 in
    record { ports = formals.ports_are; once = formals.once; inputs = inputs_given (formals_of pairs) (input_names m) p.1 }

none_earlier : (fs : List (List ℕ)) → All (λ f. is_among [] f ≡ false) fs
none_earlier [] = All-nil (λ f. is_among [] f ≡ false)
none_earlier (f ∷ fs) = All-cons (λ g. is_among [] g ≡ false) f fs refl (none_earlier fs)

given_free : (m : Model) (pairs : List (Pair ℕ)) → IsRightlyGiven m pairs → formal_fault m pairs ≡ None
given_free m pairs h =
    let formals : AreFormals (port_names m) [] (formals_of pairs) = record { ports_are = h.ports; fresh = none_earlier (formals_of pairs); once = h.once } in
    let first : first_wrong (port_names m) [] (formals_of pairs) ≡ None = formals_free (port_names m) (formals_of pairs) [] formals in
    rw first (none_missing (formals_of pairs) (input_names m) h.inputs)

-- ---- all lines

is_none : (o : Option (List ℕ)) → (IsSome o → ⊥) → o ≡ None
is_none None h = refl
is_none (Some f) h = absurd (h refl)

not_some : (o : Option (List ℕ)) → o ≡ None → IsSome o → ⊥
not_some None e h = absurd cc
not_some (Some f) e h = absurd cc

module _ (models : List Model) where
  pub keeps : IsFirstUse models (IsUnknown models) None → IsFirstUse models (IsWronglyGiven models) None → IsFirstUse models (IsRecursive models) None → KeepsRules models
  keeps known given ends = record {
    known = λ k lt. true_from_ne_false (is_among (map (λ m. m.name) models) (use_at models k).model) (known k lt);
    given = λ k lt. given_right (model_named models (use_at models k).model) (use_at models k).pairs (is_none (wrong_formal models k) (given k lt));
    ends = ends;
  }

  pub all_known : KeepsRules models → IsFirstUse models (IsUnknown models) None
  all_known rules k lt h = let known : is_among (map (λ m. m.name) models) (use_at models k).model ≡ true = rules.known k lt in cc

  pub all_given : KeepsRules models → IsFirstUse models (IsWronglyGiven models) None
  all_given rules k lt = not_some (wrong_formal models k) (given_free (model_named models (use_at models k).model) (use_at models k).pairs (rules.given k lt))
