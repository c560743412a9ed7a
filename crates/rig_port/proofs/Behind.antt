-- Which machines may stand behind what was said.
use Rattle.std.proofs.Common.{◌≡◌, ℕ, List, [], ◌∷◌, ◌++◌, All, refl, sym, ap, ◌∙◌, subst, Option, None, Some, Bool, true, false}
use Rattle.rig_port.proofs.Vocabulary.{All-append, All-cons, All-nil, append_assoc, append-nil, flat_map-append, Shape, Faults, Device, Check}
use Rattle.rig_port.proofs.Vocabulary.{Answers, IsRequestOf, Said, Sent, answered, said_if}
use Rattle.rig_port.specs.Transcripts.{and_said, and_sent, HasSaid, MayStand, Behind, IsAmong, neither, both, passed, GoOn, GoOnFor}

-- the device between two parts of what was said
said_split : (xs ys : List Said) (d : Device) (c : Check) (e : Device) (k : Check) → HasSaid d c (xs ++ ys) e k
    → (f : Device) × (b : Check) × HasSaid d c xs f b × HasSaid f b ys e k
said_split [] ys d c e k h = (d, c, (refl, refl), h)
said_split (x ∷ xs) ys d c e k h = let rest = said_split xs ys h.0 h.1 e k h.3 in (rest.0, rest.1, (h.0, h.1, h.2, rest.2), rest.3)

pub said_shape : (xs : List Said) (d : Device) (c : Check) (e : Device) (k : Check) → HasSaid d c xs e k → e.shape ≡ d.shape
said_shape [] d c e k h = ap (λ (d : Device). d.shape) (sym h.0)
said_shape (x ∷ xs) d c e k h = said_shape xs h.0 h.1 e k h.3 ∙ h.2.shape

said_faults : (xs : List Said) (d : Device) (c : Check) (e : Device) (k : Check) → HasSaid d c xs e k → e.faults ≡ d.faults
said_faults [] d c e k h = ap (λ (d : Device). d.faults) (sym h.0)
said_faults (x ∷ xs) d c e k h = said_faults xs h.0 h.1 e k h.3 ∙ h.2.faults

said_last : (request line : List ℕ) (d : Device) (c : Check) (e : Device) (k : Check) → HasSaid d c (record { request = request; line = line } ∷ []) e k → Answers d c request line e k
said_last request line d c e k h = subst (λ (b : Check). Answers d c request line e b) h.3.1 (subst (λ (f : Device). Answers d c request line f h.1) h.3.0 h.2)

pub stands_shape : (m : Shape) (f : Faults) (talk : List Said) (e : Device) (k : Check) → MayStand m f talk e k → e.shape ≡ m
stands_shape m f talk e k s = said_shape talk s.first s.check e k s.said ∙ s.shape

pub stands_faults : (m : Shape) (f : Faults) (talk : List Said) (e : Device) (k : Check) → MayStand m f talk e k → e.faults ≡ f
stands_faults m f talk e k s = said_faults talk s.first s.check e k s.said ∙ s.faults

stands_split : (m : Shape) (f : Faults) (xs ys : List Said) (e : Device) (k : Check) → MayStand m f (xs ++ ys) e k
    → (d : Device) × (c : Check) × MayStand m f xs d c × HasSaid d c ys e k
stands_split m f xs ys e k s =
    let mid = said_split xs ys s.first s.check e k s.said in
    (mid.0, mid.1, record { first = s.first; check = s.check; shape = s.shape; faults = s.faults; said = mid.2 }, mid.3)

-- devices of one machine
abbrev pub SameMachine : Device → Device → Type 0
SameMachine d e = (e.shape ≡ d.shape) × (e.faults ≡ d.faults)

abbrev pub told_as : Shape → Faults → Option (Shape × Faults)
told_as m f = Some (m, f)

pub machine_of : (d e : Device) → SameMachine d e → told_as e.shape e.faults ≡ told_as d.shape d.faults
machine_of d e s = ap (λ (m : Shape). told_as m e.faults) s.0 ∙ ap (λ (f : Faults). told_as d.shape f) s.1

same_machine : (m : Shape) (f : Faults) (xs ys : List Said) (d : Device) (c : Check) (e : Device) (k : Check) → MayStand m f xs d c → MayStand m f ys e k → SameMachine d e
same_machine m f xs ys d c e k s t =
    (stands_shape m f ys e k t ∙ sym (stands_shape m f xs d c s), stands_faults m f ys e k t ∙ sym (stands_faults m f xs d c s))

-- behind one request more
pub behind_one : (R : Device → Check → Device → Check → Type 0) (was now : List Said) (request line : List ℕ) → now ≡ and_said was request line
    → ((d : Device) (c : Check) (e : Device) (k : Check) → Answers d c request line e k → R d c e k) → Behind R was now
behind_one R was now request line is to = λ m f e k s.
    let mid = stands_split m f was (record { request = request; line = line } ∷ []) e k (subst (λ t. MayStand m f t e k) is s) in
    (mid.0, mid.1, mid.2, to mid.0 mid.1 e k (said_last request line mid.0 mid.1 e k mid.3))

-- behind none
pub behind_none : (R : Device → Check → Device → Check → Type 0) (talk : List Said) → ((d : Device) (c : Check) → R d c d c) → Behind R talk talk
behind_none R talk to = λ m f e k s. (e, k, s, to e k)

-- whatever was said
abbrev pub Anyhow : Device → Check → Device → Check → Type 0
Anyhow d c e k = Unit {0}

pub behind_all : {m : Shape} (a b : List Said) (x y : List Sent) → GoOn m a b x y → Behind Anyhow a b
behind_all a b x y g = λ m f e k s.
    let mid = stands_split m f a g.more e k (subst (λ t. MayStand m f t e k) g.taken_is s) in
    (mid.0, mid.1, mid.2, tt)

pub behind_same : (a b : List Said) → b ≡ a → Behind Anyhow a b
behind_same a b is = subst (λ (t : List Said). Behind Anyhow a t) (sym is) (behind_none Anyhow a (λ _ _. tt))

-- what was said behind what was said
pub behind_more : (R S T : Device → Check → Device → Check → Type 0) (a b z : List Said) → Behind R a b → Behind S b z
    → ((d : Device) (c : Check) (e : Device) (k : Check) (x : Device) (y : Check) → SameMachine d e → SameMachine d x → R d c e k → S e k x y → T d c x y) → Behind T a z
behind_more R S T a b z r s to = λ m f x y st.
    let e = s m f x y st in
    let d = r m f e.0 e.1 e.2 in
    (d.0, d.1, d.2, to d.0 d.1 e.0 e.1 x y (same_machine m f a b d.0 d.1 e.0 e.1 d.2 e.2) (same_machine m f a z d.0 d.1 x y d.2 st) d.3 e.3)

pub behind_so : (R T : Device → Check → Device → Check → Type 0) (a b : List Said) → Behind R a b
    → ((d : Device) (c : Check) (e : Device) (k : Check) → SameMachine d e → R d c e k → T d c e k) → Behind T a b
behind_so R T a b r to = λ m f e k st. let d = r m f e k st in (d.0, d.1, d.2, to d.0 d.1 e k (same_machine m f a b d.0 d.1 e k d.2 st) d.3)

among_more : {a b c d : List Said} → IsAmong a b → IsAmong c d → IsAmong (a ++ c) (b ++ d)
among_more neither q = q
among_more (both s p) q = both s (among_more p q)
among_more (passed s p) q = passed s (among_more p q)

-- the requests to a machine of this shape
abbrev pub AreRequestsOf : Shape → List Sent → Type 0
AreRequestsOf m sent = All (λ s. IsRequestOf m s.request) sent

none_sent : (m : Shape) → AreRequestsOf m []
none_sent m = All-nil (λ (s : Sent). IsRequestOf m s.request)

one_sent : (m : Shape) (s : Sent) → IsRequestOf m s.request → AreRequestsOf m (s ∷ [])
one_sent m s is = All-cons (λ (s : Sent). IsRequestOf m s.request) s [] is (none_sent m)

more_sent : (m : Shape) (xs ys : List Sent) → AreRequestsOf m xs → AreRequestsOf m ys → AreRequestsOf m (xs ++ ys)
more_sent m xs ys p q = All-append (λ (s : Sent). IsRequestOf m s.request) xs ys p q

pub answered_more : (xs ys : List Sent) → answered (xs ++ ys) ≡ answered xs ++ answered ys
answered_more xs ys = flat_map-append (λ (s : Sent). said_if s.request s.line) xs ys

pub nothing_said : (m : Shape) (a : List Said) (x : List Sent) → GoOn m a a x x
nothing_said m a x = record { more = []; all = []; taken_is = sym (append-nil a); heard_is = sym (append-nil x); among = neither; requests = none_sent m }

-- one that was taken
pub said_one : (m : Shape) (a b : List Said) (x y : List Sent) (request line : List ℕ) → IsRequestOf m request → b ≡ and_said a request line → y ≡ and_sent x request (Some line) → GoOn m a b x y
said_one m a b x y request line form is heard =
    let s : Said = record { request = request; line = line } in
    let t : Sent = record { request = request; line = Some line } in
    record { more = s ∷ []; all = t ∷ []; taken_is = is; heard_is = heard; among = both s neither; requests = one_sent m t form }

-- one that was heard, and not taken
pub said_wrong : (m : Shape) (a b : List Said) (x y : List Sent) (request line : List ℕ) → IsRequestOf m request → b ≡ a → y ≡ and_sent x request (Some line) → GoOn m a b x y
said_wrong m a b x y request line form is heard =
    let s : Said = record { request = request; line = line } in
    let t : Sent = record { request = request; line = Some line } in
    record { more = []; all = t ∷ []; taken_is = is ∙ sym (append-nil a); heard_is = heard; among = passed s neither; requests = one_sent m t form }

-- one that nothing answered
pub said_alone : (m : Shape) (a b : List Said) (x y : List Sent) (request : List ℕ) → IsRequestOf m request → b ≡ a → y ≡ and_sent x request None → GoOn m a b x y
said_alone m a b x y request form is heard =
    let t : Sent = record { request = request; line = None } in
    record { more = []; all = t ∷ []; taken_is = is ∙ sym (append-nil a); heard_is = heard; among = neither; requests = one_sent m t form }

pub said_none : (m : Shape) (a b : List Said) (x y : List Sent) → b ≡ a → y ≡ x → GoOn m a b x y
said_none m a b x y is same =
    record { more = []; all = []; taken_is = is ∙ sym (append-nil a); heard_is = same ∙ sym (append-nil x); among = neither; requests = none_sent m }

pub said_more : {m n : Shape} (a b z : List Said) (x y w : List Sent) → n ≡ m → GoOn m a b x y → GoOn n b z y w → GoOn m a z x w
said_more {m} {n} a b z x y w same p q = record {
  more = p.more ++ q.more;
  all = p.all ++ q.all;
  taken_is = q.taken_is ∙ ap (λ t. t ++ q.more) p.taken_is ∙ append_assoc a p.more q.more;
  heard_is = q.heard_is ∙ ap (λ t. t ++ q.all) p.heard_is ∙ append_assoc x p.all q.all;
  among = subst (λ (t : List Said). IsAmong (p.more ++ q.more) t) (sym (answered_more p.all q.all)) (among_more p.among q.among);
  requests = more_sent m p.all q.all p.requests (subst (λ (s : Shape). AreRequestsOf s q.all) same q.requests);
}

-- one that was heard, and taken or not
pub said_maybe : (right : Bool) (m : Shape) (a b : List Said) (x y : List Sent) (request line taken : List ℕ) → IsRequestOf m request → (right ≡ true → line ≡ taken)
    → (right ≡ true → b ≡ and_said a request taken) → (right ≡ false → b ≡ a) → y ≡ and_sent x request (Some line) → GoOn m a b x y
said_maybe true m a b x y request line taken form same is left heard = said_one m a b x y request line form (is refl ∙ ap (and_said a request) (sym (same refl))) heard
said_maybe false m a b x y request line taken form same is left heard = said_wrong m a b x y request line form (left refl) heard

none_among : (xs : List Said) → IsAmong [] xs
none_among [] = neither
none_among (x ∷ xs) = passed x (none_among xs)

-- all was heard alone
pub heard_only : (m : Shape) (a b : List Said) (x y : List Sent) → GoOn m a b x y → GoOn m [] [] x y
heard_only m a b x y g = record { more = []; all = g.all; taken_is = refl; heard_is = g.heard_is; among = none_among (answered g.all); requests = g.requests }

-- of the machine that was found
pub said_found : (found : Option Shape) (m : Shape) (a b : List Said) (x y : List Sent) → found ≡ Some m → GoOn m a b x y → GoOnFor found a b x y
said_found found m a b x y at g = subst (λ (o : Option Shape). GoOnFor o a b x y) (sym at) g
