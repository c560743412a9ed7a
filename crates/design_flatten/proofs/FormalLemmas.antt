-- What the lines that use models give.
use Rattle.std.proofs.Common.{◌≡◌, ℕ, ◌+◌, ◌<◌, true, false, not, cond, List, [], ◌∷◌, ◌++◌, Some, None, length, map, refl, ap, ◌∙◌, ◌||◌, get_or, take, drop, add-one}
use Rattle.design_flatten.proofs.Vocabulary.{bytes_eq, option_or, drop-cons, or_comm, PairDef, Model, take_more, map-append}
use Rattle.design_flatten.specs.Vocabulary.{pair_of, is_among, port_names, input_names, first_wrong, first_missing, with_name, with_names, formals_in}
use Rattle.design_flatten.proofs.NameLemmas.{among-push, among_set, with_names-append}

-- lists with the same names have the same wrong formal
pub same_wrong : (ports others earlier sooner formals : List (List ℕ)) → ((w : List ℕ) → is_among ports w ≡ is_among others w) → ((w : List ℕ) → is_among earlier w ≡ is_among sooner w) → first_wrong ports earlier formals ≡ first_wrong others sooner formals
same_wrong ports others earlier sooner [] p e = refl
same_wrong ports others earlier sooner (f ∷ formals) p e =
    (λ i. cond (not (p f i) || e f i) (Some f) (same_wrong ports others (f ∷ earlier) (f ∷ sooner) formals p (λ w. ap (λ b. bytes_eq w f || b) (e w)) i))

pub same_missing : (formals others inputs : List (List ℕ)) → ((w : List ℕ) → is_among formals w ≡ is_among others w) → first_missing formals inputs ≡ first_missing others inputs
same_missing formals others [] e = refl
same_missing formals others (i ∷ inputs) e = λ j. cond (e i j) (same_missing formals others inputs e j) (Some i)

-- one formal more that is right
pub right_one : (ports set : List (List ℕ)) (f : List ℕ) (formals : List (List ℕ)) → is_among ports f ≡ true → is_among set f ≡ false → first_wrong ports (with_name set f) formals ≡ first_wrong ports set (f ∷ formals)
right_one ports set f formals p e =
    rw (p, e) (same_wrong ports ports (set ++ f ∷ []) (f ∷ set) formals (λ w. refl) (λ w. among-push set f w ∙ or_comm (is_among set w) (bytes_eq w f)))

pub wrong_one : (ports set : List (List ℕ)) (f : List ℕ) (formals : List (List ℕ)) → (not (is_among ports f) || is_among set f) ≡ true → first_wrong ports set (f ∷ formals) ≡ Some f
wrong_one ports set f formals h = ap (λ b. cond b (Some f) (first_wrong ports (f ∷ set) formals)) h

pub formals_left : (pairs : List PairDef) (i : ℕ) (d : PairDef) → i < length pairs → formals_in (drop i pairs) ≡ (get_or pairs i d).formal ∷ formals_in (drop (i + 1) pairs)
formals_left pairs i d lt = rw (add-one, drop-cons pairs i d) refl

pub formals_taken : (pairs : List PairDef) (i : ℕ) (d : PairDef) → i < length pairs → formals_in (take (i + 1) pairs) ≡ formals_in (take i pairs) ++ (get_or pairs i d).formal ∷ []
formals_taken pairs i d lt = ap formals_in (take_more pairs i d lt) ∙ ap (map (λ q. q.formal)) (map-append pair_of (take i pairs) (get_or pairs i d ∷ [])) ∙ map-append (λ q. q.formal) (map pair_of (take i pairs)) (pair_of (get_or pairs i d) ∷ [])

pub set_more : (names : List (List ℕ)) (n : List ℕ) → with_names [] (names ++ n ∷ []) ≡ with_name (with_names [] names) n
set_more names n = with_names-append names (n ∷ []) []

fault-same : (m : Model) (ports given formals : List (List ℕ)) → ports ≡ with_names [] (port_names m) → first_wrong ports [] formals ≡ first_wrong (port_names m) [] formals
fault-same m ports given formals p = same_wrong ports (port_names m) [] [] formals (λ w. ap (λ ns. is_among ns w) p ∙ among_set (port_names m) w) (λ w. refl)

pub fault_wrong : (m : Model) (ports formals : List (List ℕ)) (f : List ℕ) → ports ≡ with_names [] (port_names m) → Some f ≡ first_wrong ports [] formals → Some f ≡ option_or (first_wrong (port_names m) [] formals) (first_missing formals (input_names m))
fault_wrong m ports formals f p e = ap (λ o. option_or o (first_missing formals (input_names m))) (e ∙ fault-same m ports [] formals p)

pub fault_missing : (m : Model) (ports given formals : List (List ℕ)) → ports ≡ with_names [] (port_names m) → None ≡ first_wrong ports [] formals → given ≡ with_names [] formals → first_missing given (input_names m) ≡ option_or (first_wrong (port_names m) [] formals) (first_missing formals (input_names m))
fault_missing m ports given formals p e g =
    same_missing given formals (input_names m) (λ w. ap (λ ns. is_among ns w) g ∙ among_set formals w)
    ∙ ap (λ o. option_or o (first_missing formals (input_names m))) (e ∙ fault-same m ports [] formals p)
