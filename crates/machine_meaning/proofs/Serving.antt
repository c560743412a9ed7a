-- What is so in served nodes, and on machines without faults.
use Rattle.machine_meaning.proofs.Vocabulary.{◌≡◌, ◌≢◌, ◌⊎◌, ℕ, zero, suc, ◌<◌, Some, refl, sym, ap, ◌∙◌, subst, inl, inr, arith, Shape}
use Rattle.machine_shape.specs.Vocabulary.{IsNumbered, IsTree, HasMeanings, HasCrosses, HasParents, HasMeetings, HasSites, ends_of, pin_wire, pins_of, wires_of, crosses_of, nodes_of, lines_of, own_ports_of, line_at, port_at, node_of, node_of_cross, parent_of, IsLine, IsTap, tap_pin, tap_port, IsAbove, itself, below, IsAmple}
use Rattle.machine_meaning.specs.Vocabulary.{Faults, IsFaultless, IsSoundWire, IsSoundCross, IsWholeLine, HasTwo, IsServed, Defects, IsOfUse, IsFair, IsEmptyOf, HasServed}
use Rattle.machine_shape.proofs.Ample.{two_of, two_pins}
use Rattle.machine_meaning.proofs.Faultless.{all_sound}
use Rattle.machine_shape.proofs.Totals.{other_ports}

pub zero_or : (n : ℕ) → (n ≡ 0) ⊎ (n ≢ 0)
zero_or zero = inl refl
zero_or (suc n) = inr (λ e. omega arith)

module _ (m : Shape) where
  pub sound_cross : (f : Faults) (x t l : ℕ) → x < crosses_of m → ends_of m x ≡ (t, l) → IsSoundWire m f t → IsWholeLine m f l → IsSoundCross m f x
  sound_cross f x t l h e sound whole =
      let to_t : t ≡ (ends_of m x).0 = sym (ap (λ p. p.0) e) in
      let to_l : l ≡ (ends_of m x).1 = sym (ap (λ p. p.1) e) in
      record { not_stuck = whole.crosses x h (sym to_l); tap = subst (IsSoundWire m f) to_t sound; line = subst (IsSoundWire m f) to_l whole.sound }

module _ (m : Shape) (numbered : IsNumbered m) (tree : IsTree m) (meanings : HasMeanings m) (parents : HasParents m) (crosses : HasCrosses m) (meetings : HasMeetings m) (sites : HasSites m) where
  above_trans : {a c n : ℕ} → parent_of m c ≡ Some n → IsAbove m a n → IsAbove m a c
  above_trans e h = below h e

  served_above : (f : Faults) (c n : ℕ) → parent_of m c ≡ Some n → IsServed m f c → IsServed m f n
  served_above f c n e s = record { pins = s.pins; lines = λ k h. s.lines k (below h e); ports = λ k h ne. s.ports k (below h e) ne }

  two_taps : (f : Faults) (n : ℕ) → IsServed m f n → HasTwo (λ w. IsTap m n w × IsSoundWire m f w)
  two_taps f n s = by (zero_or n)
    where
      by : (n ≡ 0) ⊎ (n ≢ 0) → HasTwo (λ w. IsTap m n w × IsSoundWire m f w)
      by (inl z) = record {
        one = pin_wire m s.pins.one;
        two = pin_wire m s.pins.two;
        different = λ e. s.pins.different (numbered.pins_apart _ _ s.pins.first.0 s.pins.second.0 e);
        first = (tap_pin s.pins.one z s.pins.first.0 refl, s.pins.first.1);
        second = (tap_pin s.pins.two z s.pins.second.0 refl, s.pins.second.1);
      }
      by (inr other) = let p = s.ports n itself other in record { one = p.one; two = p.two; different = p.different; first = (tap_port p.first.0, p.first.1); second = (tap_port p.second.0, p.second.1) }

  use_of_whole : (f : Faults) (n l : ℕ) → IsServed m f n → IsLine m n l → IsWholeLine m f l → IsOfUse m f l
  use_of_whole f n l s line whole = record {
    crosses = λ _. record {
      one = one.0;
      two = two.0;
      different = λ e. o.different (ap (λ p. p.0) (sym one.2 ∙ ap (ends_of m) e ∙ two.2));
      first = (one.1, ap (λ p. p.1) one.2, sound_cross m f one.0 o.one l one.1 one.2 o.first.1 whole);
      second = (two.1, ap (λ p. p.1) two.2, sound_cross m f two.0 o.two l two.1 two.2 o.second.1 whole);
    };
  }
    where
      o : HasTwo (λ w. IsTap m n w × IsSoundWire m f w)
      o = two_taps f n s

      one : (x : ℕ) × (x < crosses_of m) × (ends_of m x ≡ (o.one, l)) × (node_of_cross m x ≡ n)
      one = meetings.meet n o.one l o.first.0 line

      two : (x : ℕ) × (x < crosses_of m) × (ends_of m x ≡ (o.two, l)) × (node_of_cross m x ≡ n)
      two = meetings.meet n o.two l o.second.0 line

  -- the nodes above a node are nodes
  above_below : {k n : ℕ} → IsAbove m k n → n < nodes_of m → k < nodes_of m
  above_below itself h = h
  above_below (below {p = p} {k = k} a e) h = above_below a (let b = parents.before k p e in omega arith)

  module _ (ample : IsAmple m.counts) where
    -- each node is served where the first two pins and the first two ports and lines of each node are as they should be
    pub served_by_first : (f : Faults) → ((k : ℕ) → k < 2 → k < pins_of m → IsSoundWire m f (pin_wire m k)) →
        ((n k : ℕ) → n < nodes_of m → k < 2 → k < lines_of m n → IsWholeLine m f (line_at m n k)) →
        ((n k : ℕ) → n < nodes_of m → k < 2 → k < own_ports_of m n → IsSoundWire m f (port_at m n k)) →
        (n : ℕ) → n < nodes_of m → IsServed m f n
    served_by_first f pins lines ports n h = record {
      pins = record {
        one = 0;
        two = 1;
        different = λ e. omega arith;
        first = (let b = two_pins m ample in omega arith, pins 0 (omega arith) (let b = two_pins m ample in omega arith));
        second = (two_pins m ample, pins 1 (omega arith) (two_pins m ample));
      };
      lines = λ k a. let b = above_below a h in let t = (two_of m ample k b).1 in record {
        one = line_at m k 0;
        two = line_at m k 1;
        different = λ e. let u = sites.lines_ascend k 0 1 (omega arith) in omega arith;
        first = (sites.line k 0 b (omega arith), lines k 0 b (omega arith) (omega arith));
        second = (sites.line k 1 b t, lines k 1 b (omega arith) t);
      };
      ports = λ k a other. let b = above_below a h in let t = (two_of m ample k b).0 in let s = other_ports m k other in record {
        one = port_at m k 0;
        two = port_at m k 1;
        different = λ e. let u = sites.ports_ascend k 0 1 (omega arith) in omega arith;
        first = (sites.port k 0 b (omega arith), ports k 0 b (omega arith) (omega arith));
        second = (sites.port k 1 b (omega arith), ports k 1 b (omega arith) (omega arith));
      };
    }

  module _ (f : Faults) (none : IsFaultless f) where
    whole_all : (l : ℕ) → IsWholeLine m f l
    whole_all l = record { sound = all_sound none l; crosses = λ x h e. none.crosses x }

    served_all : IsAmple m.counts → (n : ℕ) → n < nodes_of m → IsServed m f n
    served_all ample n h = served_by_first ample f (λ k a b. all_sound none _) (λ i k a b c. whole_all _) (λ i k a b c. all_sound none _) n h

    module _ (served : (n : ℕ) → n < nodes_of m → IsServed m f n) (d : Defects) (fair : IsFair m d f) where
      use_all : (w : ℕ) → w < wires_of m → IsOfUse m f w
      use_all w h = record { crosses = λ line. (use_of_whole f (node_of m w) w (served (node_of m w) (parents.node_within w h)) line (whole_all w)).crosses line }

      nothing : IsEmptyOf m d
      nothing = record {
        wires = λ w h. fair.wires w h (served _ (parents.node_within w h)) (all_sound none w) (use_all w h);
        crosses = λ x h. fair.crosses x h (served _ (crosses.node x h)) (record { not_stuck = none.crosses x; tap = all_sound none _; line = all_sound none _ });
        tables = λ t h. fair.tables t h (served _ (parents.hextant_within t h)) (record { cells = λ a b. none.cells t a; register = none.registers t; pins = λ k b. all_sound none _ });
      }

  pub has_served : HasServed m
  has_served = record {
    above = served_above;
    taps = λ f n h. two_taps f n;
    whole = use_of_whole;
    ample = λ f none ample. served_all f none ample;
    empty = λ f d none served fair. nothing f none served d fair;
  }
