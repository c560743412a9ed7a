-- The field of an image has its skeleton, and no more than so much.
use Rattle.std.proofs.Common.{◌≡◌, ◌≢◌, ℕ, zero, suc, ◌*◌, ◌<◌, ◌≤◌, if◌then◌else◌, Bool, true, false, Some, None, Option, List, [], ◌∷◌, All, length, get_or, refl, sym, ap, ◌∙◌, subst, arith, slice_get, ◌==◌}
use Rattle.diag_check.proofs.Vocabulary.{count_by, slice_get_within, slice_get-get_or, has_number, size_of, Shape, Cross, Wire, is_closed}
use Rattle.diag_check.proofs.Vocabulary.{ImageValue, Uses, IsInvolved, by_wire, IsWideEnough, Field, Gets, width_of, IsAmong, IsOfSide}
use Rattle.diag_check.proofs.Vocabulary.{HasFirstTwo, IsPickedAt, ArePickedUpTo, IsMet, AreMet, IsOwn, own_pin, own_port, HasSkeleton}
use Rattle.diag_check.proofs.Vocabulary.{AreUsed, AreInvolved, Frame, Picks, Own, Lines, to_set, marked_within}
use Rattle.machine_shape.specs.Vocabulary.{IsTree, HasMeetings, HasParents, HasSites, wires_of, nodes_of, node_of, parent_of, IsLine, IsPort, IsTap, tap_pin, tap_port, tap_child, itself, below}
use Rattle.diag_check.specs.Fields.{IsFewFor, IsCrossBefore, IsBetween, IsPicksOf, ArePicksOf, of_own, of_lines, IsPickOf, IsJointOf, own_joint, up_joint, OfMarked, IsCrossOf, IsHungAt, on_line, on_port, IsHungOn}
use Rattle.diag_check.proofs.Counting.{list_fits}
use Rattle.diag_check.proofs.Wholly.{involved_too}

-- the numbers of the first two wires of a list
abbrev first_pair : List Wire → ℕ × ℕ
first_pair [] = (0, 0)
first_pair (x ∷ []) = (0, 0)
first_pair (x ∷ y ∷ ws) = (x.0, y.0)

record IsPairOf (ws : List Wire) (p : ℕ × ℕ) : Type 0 where
  first : IsAmong ws p.0
  second : IsAmong ws p.1
  differ : p.0 ≢ p.1

pair_of : (ws : List Wire) → HasFirstTwo ws → IsPairOf ws (first_pair ws)
pair_of [] h = absurd (let e = h.first in cc)
pair_of (x ∷ []) h = absurd (let e = h.second in cc)
pair_of (x ∷ y ∷ ws) h = record {
  first = record { place = 0; wire = x; here = refl; is = refl };
  second = record { place = 1; wire = y; here = refl; is = refl };
  differ = λ e. h.differ (let a : x ≡ h.one = (let f = h.first in cc) in let b : y ≡ h.two = (let s = h.second in cc) in ap (λ (z : Wire). z.0) (sym a) ∙ e ∙ ap (λ (z : Wire). z.0) b);
}

get_some : {A : Type 0} (xs : List A) (k : ℕ) → k < length xs → (x : A) × (slice_get xs k ≡ Some x)
get_some [] k l = absurd (let no : ⊥ = omega (arith, l) in no)
get_some (x ∷ xs) zero l = (x, refl)
get_some (x ∷ xs) (suc k) l = get_some xs k (omega (arith, l))

-- the first two of each node's ports, and of its lines
abbrev pairs_of : (Picks → List Wire) → Option Picks → ℕ × ℕ
pairs_of f None = (0, 0)
pairs_of f (Some p) = first_pair (f p)

pairs_at : (f : Picks → List Wire) (o : Option Picks) (p : Picks) → o ≡ Some p → pairs_of f o ≡ first_pair (f p)
pairs_at f o p e = ap (pairs_of f) e

abbrev picks_own : Picks → List Wire
picks_own p = p.own.items

abbrev picks_lines : Picks → List Wire
picks_lines p = p.lines.items

-- wires picked at most so often
pub picks_few : (m : Shape) (nodes : List Bool) (f : Frame) (most : ℕ) → f.most ≡ most → ArePickedUpTo m nodes most (nodes_of m) f.picks.items → ArePicksOf m f
picks_few m nodes f most e are = record { len = are.len; each = each }
  where
    at_most : (b : Bool) → (if b then most else 0) ≤ f.most
    at_most true = omega (arith, e)
    at_most false = omega arith

    each : (k : ℕ) (p : Picks) → slice_get f.picks.items k ≡ Some p → IsPicksOf m f.most p
    each k p here =
        let at = are.each k p here in
        let few = at_most (has_number nodes k) in
        record {
          own = all_of p.own.items (λ j w h. (at.own.of_side.each j w h).below);
          lines = all_of p.lines.items (λ j w h. (at.lines.of_side.each j w h).below);
          few_own = (let h = at.own.few in omega (arith, h, few));
          few_lines = (let h = at.lines.few in omega (arith, h, few));
        }
      where
        all_of : (ws : List Wire) → ((j : ℕ) (w : Wire) → slice_get ws j ≡ Some w → w.0 < wires_of m) → All (λ w. w.0 < wires_of m) ws
        all_of ws h j d l = h j (get_or ws j d) (slice_get-get_or ws j d l)

module _ (i : ImageValue) (tree : IsTree i.config.shape) (parents : HasParents i.config.shape) (meetings : HasMeetings i.config.shape) (sites : HasSites i.config.shape) (used nodes : List Bool) (are : AreUsed i used) (involved : AreInvolved i nodes)
    (wide : IsWideEnough i.config.shape i) (most : ℕ) (some : 2 ≤ most) (picks : List Picks) (picked : ArePickedUpTo i.config.shape nodes most (nodes_of i.config.shape) picks) (a : Field)
    (has_picks : (w : ℕ) → OfMarked nodes (IsPickOf picks) (nodes_of i.config.shape) w → has_number a.wires w ≡ true)
    (has_used : (w : ℕ) → has_number used w ≡ true → has_number a.wires w ≡ true)
    (has_joints : (x : ℕ) → OfMarked nodes (IsJointOf i.config.shape picks) (nodes_of i.config.shape) x → has_number a.crosses x ≡ true)
    (has_hung : (x : ℕ) → OfMarked used (IsHungOn i.config.shape picks) (wires_of i.config.shape) x → has_number a.crosses x ≡ true)
    (has_closed : (x : ℕ) → is_closed i.config x ≡ true → has_number a.crosses x ≡ true) where
  abbrev m : Shape
  m = i.config.shape

  abbrev ports : ℕ → ℕ × ℕ
  ports n = pairs_of picks_own (slice_get picks n)

  abbrev lines : ℕ → ℕ × ℕ
  lines n = pairs_of picks_lines (slice_get picks n)

  -- what is known of the picks of an involved node
  record IsAt (n : ℕ) : Type 0 where
    picks_here : Picks
    here : slice_get picks n ≡ Some picks_here
    within : n < nodes_of m
    marked : has_number nodes n ≡ true
    own_pair : IsPairOf picks_here.own.items (ports n)
    line_pair : IsPairOf picks_here.lines.items (lines n)
    is_own : (w : ℕ) → IsAmong picks_here.own.items w → IsOwn m n w
    is_line : (w : ℕ) → IsAmong picks_here.lines.items w → IsLine m n w

  own_of : (n w : ℕ) → n < nodes_of m → IsOfSide m Own n w → IsOwn m n w
  own_of zero w l s = own_pin s.position refl s.within s.is
  own_of (suc n) w l s = own_port (subst (IsPort m (suc n)) (sym s.is) (sites.port (suc n) s.position l s.within))

  line_of : (n w : ℕ) → n < nodes_of m → IsOfSide m Lines n w → IsLine m n w
  line_of n w l s = subst (IsLine m n) (sym s.is) (sites.line n s.position l s.within)

  own_wide : (n : ℕ) → IsInvolved i n → 2 ≤ width_of m Own n
  own_wide zero is = wide.pins
  own_wide (suc n) is = wide.ports (suc n) (omega arith) is

  at_node : (n : ℕ) → IsInvolved i n → IsAt n
  at_node n is =
      let marked = involved.all n is in
      let within : n < nodes_of m = (let l = marked_within nodes n marked in let len = involved.len in omega (arith, l, len)) in
      let p = get_some picks n (let len = picked.len in omega (arith, within, len)) in
      let at = subst (λ b. IsPickedAt m n (if b then most else 0) p.0) marked (picked.each n p.0 p.1) in
      record {
        picks_here = p.0;
        here = p.1;
        within = within;
        marked = marked;
        own_pair = subst (IsPairOf p.0.own.items) (sym (pairs_at picks_own (slice_get picks n) p.0 p.1)) (pair_of p.0.own.items (at.own.two some (own_wide n is)));
        line_pair = subst (IsPairOf p.0.lines.items) (sym (pairs_at picks_lines (slice_get picks n) p.0 p.1)) (pair_of p.0.lines.items (at.lines.two some (wide.lines n is)));
        is_own = λ w g. own_of n w within (subst (IsOfSide m Own n) g.is (at.own.of_side.each g.place g.wire g.here));
        is_line = λ w g. line_of n w within (subst (IsOfSide m Lines n) g.is (at.lines.of_side.each g.place g.wire g.here));
      }

  own_in : (n w : ℕ) (at : IsAt n) → IsAmong at.picks_here.own.items w → has_number a.wires w ≡ true
  own_in n w at g = has_picks w (record { place = n; early = at.within; marked = at.marked; is = record { picks_here = at.picks_here; here = at.here; is = of_own g } })

  line_in : (n w : ℕ) (at : IsAt n) → IsAmong at.picks_here.lines.items w → has_number a.wires w ≡ true
  line_in n w at g = has_picks w (record { place = n; early = at.within; marked = at.marked; is = record { picks_here = at.picks_here; here = at.here; is = of_lines g } })

  tap_of : (n w : ℕ) → IsOwn m n w → IsTap m n w
  tap_of n w (own_pin k z l e) = tap_pin k z l e
  tap_of n w (own_port p) = tap_port p

  -- a tap and a line of one node meet where the crosspoints of these taps with these lines are marked
  met : (n t l : ℕ) (ts ls : List Wire) → IsAmong ts t → IsAmong ls l → IsTap m n t → IsLine m n l → ((x : ℕ) → IsBetween m ts ls (length ts) x → has_number a.crosses x ≡ true) → IsMet m a.crosses t l
  met n t l ts ls g h tap line marks =
      let x = meetings.meet n t l tap line in
      record {
        cross = x.0;
        ends = x.2;
        marked = marks x.0 (record {
          place = g.place;
          tap = g.wire;
          early = slice_get_within ts g.place g.wire g.here;
          here = g.here;
          cross = record {
            place = h.place;
            line = h.wire;
            early = slice_get_within ls h.place h.wire h.here;
            here = h.here;
            cross = record { within = x.1; tap = ap (λ p. p.0) x.2 ∙ sym g.is; line = ap (λ p. p.1) x.2 ∙ sym h.is };
          };
        });
      }

  all_met : (n : ℕ) (ts ls : List Wire) (p q : ℕ × ℕ) → IsPairOf ts p → IsPairOf ls q → ((w : ℕ) → IsAmong ts w → IsTap m n w) → ((w : ℕ) → IsAmong ls w → IsLine m n w) → ((x : ℕ) → IsBetween m ts ls (length ts) x → has_number a.crosses x ≡ true) → AreMet m a.crosses p q
  all_met n ts ls p q g h taps ls_are marks = record {
    first_first = met n p.0 q.0 ts ls g.first h.first (taps p.0 g.first) (ls_are q.0 h.first) marks;
    first_second = met n p.0 q.1 ts ls g.first h.second (taps p.0 g.first) (ls_are q.1 h.second) marks;
    second_first = met n p.1 q.0 ts ls g.second h.first (taps p.1 g.second) (ls_are q.0 h.first) marks;
    second_second = met n p.1 q.1 ts ls g.second h.second (taps p.1 g.second) (ls_are q.1 h.second) marks;
  }

  own_met : (n : ℕ) → IsAt n → AreMet m a.crosses (ports n) (lines n)
  own_met n at = all_met n at.picks_here.own.items at.picks_here.lines.items (ports n) (lines n) at.own_pair at.line_pair (λ w g. tap_of n w (at.is_own w g)) at.is_line
      (λ x b. has_joints x (record { place = n; early = at.within; marked = at.marked; is = own_joint at.picks_here at.here b }))

  up_tap : (n p w : ℕ) → parent_of m n ≡ Some p → IsOwn m n w → IsTap m p w
  up_tap n p w e (own_pin k z l s) = absurd (let no : None ≡ Some p = sym parents.root ∙ ap (parent_of m) (sym z) ∙ e in cc)
  up_tap n p w e (own_port o) = tap_child n e o

  up_met : (n p : ℕ) → parent_of m n ≡ Some p → IsAt n → IsAt p → AreMet m a.crosses (ports n) (lines p)
  up_met n p e at up = all_met p at.picks_here.own.items up.picks_here.lines.items (ports n) (lines p) at.own_pair up.line_pair (λ w g. up_tap n p w e (at.is_own w g)) up.is_line
      (λ x b. has_joints x (record { place = n; early = at.within; marked = at.marked; is = up_joint at.picks_here up.picks_here p at.here e up.here b }))

  used_at : (w : ℕ) → Uses i w → IsAt (node_of m w)
  used_at w uses = at_node (node_of m w) (by_wire w uses itself)

  used_within : (w : ℕ) → Uses i w → w < wires_of m
  used_within w uses = let l = marked_within used w (are.all w uses) in let len = are.len in omega (arith, l, len)

  -- a tap and a line of a used wire's node meet where their crosspoint is one that hangs the wire
  hung_met : (w t l : ℕ) (uses : Uses i w) → IsTap m (node_of m w) t → IsLine m (node_of m w) l → ((x : ℕ) → IsCrossOf m t l x → IsHungAt m (used_at w uses).picks_here w x) → IsMet m a.crosses t l
  hung_met w t l uses tap line hangs =
      let at = used_at w uses in
      let x = meetings.meet (node_of m w) t l tap line in
      record {
        cross = x.0;
        ends = x.2;
        marked = has_hung x.0 (record {
          place = w;
          early = used_within w uses;
          marked = are.all w uses;
          is = record {
            picks_here = at.picks_here;
            here = at.here;
            is = hangs x.0 (record { within = x.1; tap = ap (λ e. e.0) x.2; line = ap (λ e. e.1) x.2 });
          };
        });
      }

  -- a used line meets the node's picked ports, a used tap its picked lines
  line_met : (w p : ℕ) (uses : Uses i w) → IsLine m (node_of m w) w → IsAmong (used_at w uses).picks_here.own.items p → IsMet m a.crosses p w
  line_met w p uses line g = hung_met w p w uses (tap_of (node_of m w) p ((used_at w uses).is_own p g)) line (λ x c. on_port (record {
    place = g.place;
    tap = g.wire;
    early = slice_get_within (used_at w uses).picks_here.own.items g.place g.wire g.here;
    here = g.here;
    cross = record { within = c.within; tap = c.tap ∙ sym g.is; line = c.line };
  }))

  tap_met : (w l : ℕ) (uses : Uses i w) → IsTap m (node_of m w) w → IsAmong (used_at w uses).picks_here.lines.items l → IsMet m a.crosses w l
  tap_met w l uses tap g = hung_met w w l uses tap ((used_at w uses).is_line l g) (λ x c. on_line (record {
    place = g.place;
    line = g.wire;
    early = slice_get_within (used_at w uses).picks_here.lines.items g.place g.wire g.here;
    here = g.here;
    cross = record { within = c.within; tap = c.tap; line = c.line ∙ sym g.is };
  }))

  pub skeleton : HasSkeleton i a
  skeleton = record {
    lines = lines;
    ports = ports;
    two_lines = λ n is. (let at = at_node n is in (
      record { differ = at.line_pair.differ; first = line_in n _ at at.line_pair.first; second = line_in n _ at at.line_pair.second },
      at.is_line _ at.line_pair.first,
      at.is_line _ at.line_pair.second,
    ));
    two_ports = λ n is. (let at = at_node n is in (
      record { differ = at.own_pair.differ; first = own_in n _ at at.own_pair.first; second = own_in n _ at at.own_pair.second },
      at.is_own _ at.own_pair.first,
      at.is_own _ at.own_pair.second,
    ));
    own = λ n is. own_met n (at_node n is);
    above = λ n p is e. up_met n p e (at_node n is) (at_node p (involved_too i (below itself e) is));
    used = λ w uses. has_used w (are.all w uses);
    used_lines = λ w uses line. (line_met w _ uses line (used_at w uses).own_pair.first, line_met w _ uses line (used_at w uses).own_pair.second);
    used_taps = λ w uses tap. (tap_met w _ uses tap (used_at w uses).line_pair.first, tap_met w _ uses tap (used_at w uses).line_pair.second);
    closed = has_closed;
  }

-- each crosspoint of a list is one of it
each_listed : (xs : List Cross) → All (λ (c : Cross). IsCrossBefore xs (length xs) c.0) xs
each_listed xs j d l = record { place = j; cross = get_or xs j d; early = l; here = slice_get-get_or xs j d l; is = refl }

-- the steps in which a field is marked
pub record IsBuilt (i : ImageValue) (used nodes : List Bool) (f : Frame) (closed : List Cross) (a b c : Field) (mid : List Bool) : Type 0 where
  pub picks : Gets (OfMarked nodes (IsPickOf f.picks.items) (nodes_of i.config.shape)) (2 * f.most * size_of nodes) a.wires b.wires
  pub joints : Gets (OfMarked nodes (IsJointOf i.config.shape f.picks.items) (nodes_of i.config.shape)) (2 * f.most * f.most * size_of nodes) a.crosses b.crosses
  pub wires : Gets (OfMarked used (λ k w. w ≡ k) (wires_of i.config.shape)) (size_of used) b.wires c.wires
  pub hung : Gets (OfMarked used (IsHungOn i.config.shape f.picks.items) (wires_of i.config.shape)) (2 * f.most * size_of used) b.crosses mid
  pub closings : Gets (IsCrossBefore closed (length closed)) (length closed) mid c.crosses

module _ (i : ImageValue) (used nodes : List Bool) (f : Frame) (closed : List Cross) (a b c : Field) (mid : List Bool) (built : IsBuilt i used nodes f closed a b c mid)
    (counts : (x : ℕ) → count_by (λ (y : Cross). y.0 == x) closed ≡ (if is_closed i.config x then 1 else 0)) (most : ℕ) (is : f.most ≡ most) where
  pub built_few : size_of a.wires ≡ 0 → size_of a.crosses ≡ 0 → IsFewFor i nodes used most c
  built_few no_wires no_crosses = record {
    wires = (let one = built.picks.few in let other = built.wires.few in let e : 2 * f.most * size_of nodes ≡ 2 * most * size_of nodes = ap (λ z. 2 * z * size_of nodes) is in omega (arith, one, other, e, no_wires));
    crosses = λ xs each.
        let one = built.joints.few in
        let other = built.hung.few in
        let last = built.closings.few in
        let fits = list_fits (λ (y : Cross). y.0) closed (is_closed i.config) counts xs each in
        let e : 2 * f.most * f.most * size_of nodes ≡ 2 * most * most * size_of nodes = ap (λ z. 2 * z * z * size_of nodes) is in
        let g : 2 * f.most * size_of used ≡ 2 * most * size_of used = ap (λ z. 2 * z * size_of used) is in
        omega (arith, one, other, last, fits, e, g, no_crosses);
  }

  pub built_skeleton : IsTree i.config.shape → HasParents i.config.shape → HasMeetings i.config.shape → HasSites i.config.shape → AreUsed i used → AreInvolved i nodes → 2 ≤ most → ArePickedUpTo i.config.shape nodes most (nodes_of i.config.shape) f.picks.items → IsWideEnough i.config.shape i → HasSkeleton i c
  built_skeleton tree parents meetings sites are involved some picked wide = skeleton i tree parents meetings sites used nodes are involved wide most some f.picks.items picked c
      (λ w o. built.wires.stays w (built.picks.all w o))
      (λ w h. built.wires.all w (record { place = w; early = (let l = marked_within used w h in let len = are.len in omega (arith, l, len)); marked = h; is = refl }))
      (λ x o. built.closings.stays x (built.hung.stays x (built.joints.all x o)))
      (λ x o. built.closings.stays x (built.hung.all x o))
      (λ x e. built.closings.all x (to_set (λ (y : Cross). y.0) closed (is_closed i.config) counts (IsCrossBefore closed (length closed)) (each_listed closed) x e))

-- the steps of the code, over the shape that it was lent
pub built_of : (i : ImageValue) (m : Shape) (e : m ≡ i.config.shape) (used nodes : List Bool) (f : Frame) (closed : List Cross) (a b c : Field) (mid : List Bool) →
    Gets (OfMarked nodes (IsPickOf f.picks.items) (nodes_of m)) (2 * f.most * size_of nodes) a.wires b.wires → Gets (OfMarked nodes (IsJointOf m f.picks.items) (nodes_of m)) (2 * f.most * f.most * size_of nodes) a.crosses b.crosses →
    Gets (OfMarked used (λ k w. w ≡ k) (wires_of m)) (size_of used) b.wires c.wires → Gets (OfMarked used (IsHungOn m f.picks.items) (wires_of m)) (2 * f.most * size_of used) b.crosses mid →
    Gets (IsCrossBefore closed (length closed)) (length closed) mid c.crosses → IsBuilt i used nodes f closed a b c mid
built_of i m e used nodes f closed a b c mid picks joints wires hung closings = record {
  picks = subst (λ (s : Shape). Gets (OfMarked nodes (IsPickOf f.picks.items) (nodes_of s)) (2 * f.most * size_of nodes) a.wires b.wires) e picks;
  joints = subst (λ (s : Shape). Gets (OfMarked nodes (IsJointOf s f.picks.items) (nodes_of s)) (2 * f.most * f.most * size_of nodes) a.crosses b.crosses) e joints;
  wires = subst (λ (s : Shape). Gets (OfMarked used (λ k w. w ≡ k) (wires_of s)) (size_of used) b.wires c.wires) e wires;
  hung = subst (λ (s : Shape). Gets (OfMarked used (IsHungOn s f.picks.items) (wires_of s)) (2 * f.most * size_of used) b.crosses mid) e hung;
  closings = closings;
}

pub picked_over : (m n : Shape) (nodes : List Bool) (most : ℕ) (picks : List Picks) → m ≡ n → ArePickedUpTo m nodes most (nodes_of m) picks → ArePickedUpTo n nodes most (nodes_of n) picks
picked_over m n nodes most picks e = subst (λ (s : Shape). ArePickedUpTo s nodes most (nodes_of s) picks) e
