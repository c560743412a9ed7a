-- Parts of served nodes stand, and their tables are seated.
use Rattle.machine_meaning.proofs.Vocabulary.{◌≡◌, ◌≢◌, ◌⊎◌, ℕ, zero, suc, ◌<◌, Some, refl, sym, ap, ◌∙◌, subst, inl, inr, arith, Shape}
use Rattle.machine_shape.specs.Vocabulary.{IsNumbered, IsTree, HasCrosses, HasParents, HasMeetings, Ends, in_order, ends_of, pin_wire, table_wire, pins_of, crosses_of, tables_of, nodes_of, hextant_of, parent_of, IsLine, IsPort, IsTap, tap_pin, tap_port, tap_child, tap_table, itself, HasHomes}
use Rattle.machine_meaning.specs.Vocabulary.{Faults, IsSoundWire, IsSoundCross, IsSoundTable, IsWholeLine, HasTwo, IsServed, IsOfUse, HasServed, StandsBy, pin_stands, on_two, IsOutside, StandsWithout, Meets, IsSeated, IsSoundCrossOf, IsStanding, HasStandingParts}
use Rattle.machine_meaning.proofs.JoinedLemmas.{Ends-swap}
use Rattle.machine_shape.proofs.Hextants.{below_the_root}
use Rattle.machine_meaning.proofs.Serving.{zero_or, sound_cross}
use Rattle.machine_meaning.proofs.Fairness.{two_of_use}

above_zero : (n : ℕ) → n ≢ 0 → 0 < n
above_zero zero other = absurd (other refl)
above_zero (suc n) other = omega arith

module _ (m : Shape) (numbered : IsNumbered m) (tree : IsTree m) (parents : HasParents m) (crosses : HasCrosses m)
    (meetings : HasMeetings m)
    (homes : HasHomes m) (served : HasServed m) where
  -- a sound tap meets a whole line
  meets : (f : Faults) (n t l : ℕ) → IsTap m n t → IsLine m n l → IsSoundWire m f t → IsWholeLine m f l → Meets m (IsSoundCrossOf m f) t l
  meets f n t l tap line sound whole =
      let x = meetings.meet n t l tap line in (x.0, (x.1, sound_cross m f x.0 t l x.1 x.2 sound whole), x.2)

  ends_are : (x t l : ℕ) → ends_of m x ≡ (t, l) → Ends (ends_of m x) t l
  ends_are x t l e = in_order (ap (λ p. p.0) e) (ap (λ p. p.1) e)

  -- Take wires that have the sound taps and the whole lines of served nodes in front of a bound.
  module _ (f : Faults) (bound : ℕ) (W : ℕ → Type 0)
      (taps_in : (n w : ℕ) → n < bound → IsServed m f n → IsTap m n w → IsSoundWire m f w → W w)
      (lines_in : (n l : ℕ) → n < bound → IsServed m f n → IsLine m n l → IsWholeLine m f l → W l) where
    abbrev Stand : ℕ → Type 0
    Stand w = StandsBy m W (IsSoundCrossOf m f) w

    -- two taps, or whole lines, of a node that stand
    abbrev TwoTaps : ℕ → Type 0
    TwoTaps n = HasTwo (λ w. IsTap m n w × IsSoundWire m f w × Stand w)

    abbrev TwoLines : ℕ → Type 0
    TwoLines n = HasTwo (λ l. IsLine m n l × IsWholeLine m f l × Stand l)

    -- a line that meets two taps that stand, and a tap that meets two such lines
    line_on : (n l : ℕ) → n < bound → IsServed m f n → IsLine m n l → IsWholeLine m f l → TwoTaps n → Stand l
    line_on n l lt s line whole o =
        let x = meets f n o.one l o.first.0 line o.first.1 whole in
        let y = meets f n o.two l o.second.0 line o.second.1 whole in
        on_two l x.0 y.0 o.one o.two (lines_in n l lt s line whole) x.1 y.1 (ends_are x.0 _ _ x.2)
        (ends_are y.0 _ _ y.2) o.different o.first.2 o.second.2

    tap_on : (n w : ℕ) → n < bound → IsServed m f n → IsTap m n w → IsSoundWire m f w → TwoLines n → Stand w
    tap_on n w lt s tap sound o =
        let x = meets f n w o.one tap o.first.0 sound o.first.1 in
        let y = meets f n w o.two tap o.second.0 sound o.second.1 in
        on_two w x.0 y.0 o.one o.two (taps_in n w lt s tap sound) x.1 y.1 (Ends-swap (ends_are x.0 _ _ x.2))
        (Ends-swap (ends_are y.0 _ _ y.2)) o.different o.first.2 o.second.2

    two_lines : (n : ℕ) → n < bound → IsServed m f n → TwoTaps n → TwoLines n
    two_lines n lt s o =
        let l = s.lines n itself in
        record {
          one = l.one;
          two = l.two;
          different = l.different;
          first = (l.first.0, l.first.1, line_on n l.one lt s l.first.0 l.first.1 o);
          second = (l.second.0, l.second.1, line_on n l.two lt s l.second.0 l.second.1 o);
        }

    -- the sound taps of the node above stand
    abbrev AreAboveIn : ℕ → Type 0
    AreAboveIn n = (p : ℕ) → parent_of m n ≡ Some p → (w : ℕ) → IsTap m p w → IsSoundWire m f w → Stand w

    two_taps : (n : ℕ) → n < bound → n < nodes_of m → IsServed m f n → AreAboveIn n → TwoTaps n
    two_taps n lt h s up = by (zero_or n)
      where
        pin_of : (k : ℕ) → n ≡ 0 → k < pins_of m → IsSoundWire m f (pin_wire m k) → Stand (pin_wire m k)
        pin_of k z b sound = pin_stands k b (taps_in n (pin_wire m k) lt s (tap_pin k z b refl) sound)

        by : (n ≡ 0) ⊎ (n ≢ 0) → TwoTaps n
        by (inl z) = record {
          one = pin_wire m s.pins.one;
          two = pin_wire m s.pins.two;
          different = λ e. s.pins.different (numbered.pins_apart _ _ s.pins.first.0 s.pins.second.0 e);
          first = (tap_pin s.pins.one z s.pins.first.0 refl, s.pins.first.1, pin_of s.pins.one z s.pins.first.0 s.pins.first.1);
          second = (tap_pin s.pins.two z s.pins.second.0 refl, s.pins.second.1, pin_of s.pins.two z s.pins.second.0 s.pins.second.1);
        }
        by (inr other) =
            let o = s.ports n itself other in
            let p = parents.others n (above_zero n other) h in
            record {
              one = o.one;
              two = o.two;
              different = o.different;
              first = (tap_port o.first.0, o.first.1, up p.0 p.1 o.one (tap_child n p.1 o.first.0) o.first.1);
              second = (tap_port o.second.0, o.second.1, up p.0 p.1 o.two (tap_child n p.1 o.second.0) o.second.1);
            }

    up_from : (k n : ℕ) → ((p : ℕ) → p < k → p < bound → IsServed m f p → (w : ℕ) → IsTap m p w → IsSoundWire m f w → Stand w) →
        n < suc k → n < bound → IsServed m f n → AreAboveIn n
    up_from k n up lt b s p e = let a = parents.before n p e in up p (omega arith) (omega arith) (served.above f n p e s)

    taps_by : (k n : ℕ) → n < k → n < bound → IsServed m f n → (w : ℕ) → IsTap m n w → IsSoundWire m f w → Stand w
    taps_by zero n lt b s w tap sound = absurd (omega arith)
    taps_by (suc k) n lt b s w tap sound =
        tap_on n w b s tap sound (two_lines n b s (two_taps n b (homes.tap_node n w tap) s (up_from k n (λ p. taps_by k p) lt b s)))

    taps_stand : (n : ℕ) → n < bound → IsServed m f n → (w : ℕ) → IsTap m n w → IsSoundWire m f w → Stand w
    taps_stand n b s w tap sound = taps_by (suc n) n (omega arith) b s w tap sound

    lines_stand : (n : ℕ) → n < bound → n < nodes_of m → IsServed m f n → (l : ℕ) → IsLine m n l → IsWholeLine m f l → Stand l
    lines_stand n b h s l line whole = line_on n l b s line whole
        (two_taps n b h s (λ p e. let a = parents.before n p e in taps_stand p (omega arith) (served.above f n p e s)))

  -- over all nodes, and sound wires
  module _ (f : Faults) where
    tap_stands : (n w : ℕ) → IsServed m f n → IsTap m n w → IsSoundWire m f w → IsStanding m f w
    tap_stands n w s tap sound =
        taps_stand f (nodes_of m) (IsSoundWire m f) (λ k u b o t h. h) (λ k u b o t h. h.sound) n (homes.tap_node n w tap) s w tap sound

    whole_stands : (n l : ℕ) → IsServed m f n → IsLine m n l → IsWholeLine m f l → IsStanding m f l
    whole_stands n l s line whole = lines_stand f (nodes_of m) (IsSoundWire m f) (λ k u b o t h. h) (λ k u b o t h. h.sound) n
        (meetings.line_within n l line) (meetings.line_within n l line) s l line whole

    -- the tap of a sound crosspoint of a line
    tap_of : (n l x : ℕ) → IsServed m f n → IsLine m n l → (x < crosses_of m) × ((ends_of m x).1 ≡ l) × IsSoundCross m f x →
        IsStanding m f (ends_of m x).0
    tap_of n l x s line is = tap_stands n (ends_of m x).0 s
        (subst (λ k. IsTap m k (ends_of m x).0) (homes.cross_of_line n l x is.0 is.1 line) (meetings.tap x is.0)) is.2.tap

    line_stands : (n l : ℕ) → IsServed m f n → IsLine m n l → IsSoundWire m f l → IsOfUse m f l → IsStanding m f l
    line_stands n l s line sound use_ =
        let o = two_of_use m tree f n l line use_ in
        on_two l o.one o.two (ends_of m o.one).0 (ends_of m o.two).0 sound (o.first.0, o.first.2) (o.second.0, o.second.2)
        (in_order refl o.first.1) (in_order refl o.second.1)
        (λ e. o.different (crosses.one o.one o.two o.first.0 o.second.0 (λ i. (e i, (o.first.1 ∙ sym o.second.1) i))))
        (tap_of n l o.one s line o.first) (tap_of n l o.two s line o.second)

    module _ (t : ℕ) (h : t < tables_of m) (s : IsServed m f (hextant_of m t)) (right : IsSoundTable m f t) where
      abbrev H : ℕ
      H = hextant_of m t

      -- taps and lines of the nodes in front of the hextant are outside it
      tap_outside : (n w : ℕ) → n < H → IsTap m n w → IsOutside m H w
      tap_outside n w lt tap = record { no_line = homes.no_tap_is_line n H w tap; no_pin = λ u k b e c. by_tap u k b e c tap }
        where
          by_tap : (u k : ℕ) → u < tables_of m → hextant_of m u ≡ H → k < 7 → IsTap m n w → w ≢ table_wire m u k
          by_tap u k b e c (tap_pin j z g at) is = numbered.no_pin_is_table j u k g b c (sym at ∙ is)
          by_tap u k b e c (tap_port p) is = tree.no_table_is_port u k n b c (subst (IsPort m n) is p)
          by_tap u k b e c (tap_child i up p) is = tree.no_table_is_port u k i b c (subst (IsPort m i) is p)
          by_tap u k b e c (tap_table v j g at d is_v) is =
              let same = (numbered.tables_apart v u j k g b d c (sym is_v ∙ is)).0 in
              let node : n ≡ H = sym at ∙ ap (hextant_of m) same ∙ e in omega arith

      line_outside : (n l : ℕ) → n < H → IsLine m n l → IsOutside m H l
      line_outside n l lt line = record {
        no_line = λ other. let node : n ≡ H = sym (tree.line_node n l line) ∙ tree.line_node H l other in omega arith;
        no_pin = λ u k b e c is. tree.no_table_is_line u k n b c (subst (IsLine m n) is line);
      }

      port_without : (w : ℕ) → IsPort m H w → IsSoundWire m f w → StandsWithout m (IsStanding m f) (IsSoundCrossOf m f) H w
      port_without w port sound =
          let p = parents.others H (above_zero H (below_the_root m t h)) (parents.hextant_within t h) in
          taps_stand f H (λ u. IsStanding m f u × IsOutside m H u)
          (λ n u lt o tap is. (tap_stands n u o tap is, tap_outside n u lt tap))
          (λ n u lt o line is. (whole_stands n u o line is, line_outside n u lt line))
          p.0 (parents.before H p.0 p.1) (served.above f H p.0 p.1 s) w (tap_child H p.1 port) sound

      table_tap : (k : ℕ) → k < 7 → IsTap m H (table_wire m t k)
      table_tap k b = tap_table t k h refl b refl

      seated : IsSeated m (IsStanding m f) (IsSoundCrossOf m f) t
      seated =
          let o = s.ports H itself (below_the_root m t h) in
          let l = s.lines H itself in
          record {
            pins = λ k b. tap_stands H (table_wire m t k) s (table_tap k b) (right.pins k b);
            near = o.one;
            far = o.two;
            line = l.one;
            near_port = o.first.0;
            far_port = o.second.0;
            different = o.different;
            near_stands = port_without o.one o.first.0 o.first.1;
            far_stands = port_without o.two o.second.0 o.second.1;
            out = (
              l.first.0,
              whole_stands H l.one s l.first.0 l.first.1,
              meets f H o.two l.one (tap_port o.second.0) l.first.0 o.second.1 l.first.1,
              meets f H (table_wire m t 6) l.one (table_tap 6 (omega arith)) l.first.0 (right.pins 6 (omega arith)) l.first.1,
            );
            inputs = λ k b. (
              l.two,
              l.second.0,
              whole_stands H l.two s l.second.0 l.second.1,
              (λ e. l.different (sym e)),
              meets f H o.one l.two (tap_port o.first.0) l.second.0 o.first.1 l.second.1,
              meets f H (table_wire m t k) l.two (table_tap k (omega arith)) l.second.0 (right.pins k (omega arith)) l.second.1,
            );
          }

    pub has_standing : HasStandingParts m f
    has_standing = record {
      pins = λ k h sound. pin_stands k h sound;
      taps = tap_stands;
      ports = λ n w s port sound. tap_stands n w s (tap_port port) sound;
      whole = whole_stands;
      lines = line_stands;
      tables = λ t h s right. seated t h s right;
    }
