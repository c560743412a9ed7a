-- What is short at a node, and what is the first to be short.
use Rattle.std.proofs.Common.{◌≡◌, ℕ, ◌<◌, ◌≤◌, List, length, refl, sym, subst, arith}
use Rattle.place_plan.proofs.Vocabulary.{Shape, nodes_of, Defects, Need, Resource, Tables, Pins, Ports, Lines, Short}
use Rattle.place_plan.specs.declared.short.Room.{Room, TheVariants.Enough, TheVariants.Lacks}
use Rattle.place_plan.specs.Vocabulary.{AreThose, CrossesAt, IsFreePort, ArePorts, PortsSuffice, AreShort, IsMet, IsShortOf, IsLackOf, LinesAreShort, NodeIsShort, NodeIsShortOf, SufficeBefore, IsFirstLack, IsNodesRoom, IsRoom}

module _ (m : Shape) (d : Defects) (count : ℕ) (terminal : ℕ → ℕ → Type 0) where
  pub lack_is : (n : ℕ) (s : Short) (crossing ports : List ℕ) → AreThose (CrossesAt m count terminal n) crossing → AreThose (IsFreePort m d n) ports → IsLackOf n (length crossing) (length ports) s → NodeIsShort m d count terminal n s
  lack_is n s crossing ports cross these is = record {
    node = is.1;
    short = subst (λ r. NodeIsShortOf r m d count terminal s) (sym is.0)
        (subst (λ z. ArePorts m d count terminal z s.need s.have) (sym is.1) (record { crossing = crossing; ports = ports; are_crossing = cross; are_ports = these; need_is = is.2; have_is = is.3 }), fewer is.2 is.3 is.5, is.4);
  }
    where
      fewer : s.need ≡ length crossing → s.have ≡ length ports → length ports < length crossing → s.have < s.need
      fewer a b c = omega arith

  pub ports_do : (n : ℕ) (crossing ports : List ℕ) → AreThose (CrossesAt m count terminal n) crossing → AreThose (IsFreePort m d n) ports → length crossing ≤ length ports → PortsSuffice m d count terminal n
  ports_do n crossing ports cross these le = record { need = length crossing; have = length ports; are = record { crossing = crossing; ports = ports; are_crossing = cross; are_ports = these; need_is = refl; have_is = refl }; met = le }

  pub lines_lack : (n : ℕ) (s : Short) → PortsSuffice m d count terminal n → LinesAreShort m d count terminal n s → NodeIsShort m d count terminal n s
  lines_lack n s ports is = record {
    node = is.1;
    short = subst (λ r. NodeIsShortOf r m d count terminal s) (sym is.0)
        (subst (PortsSuffice m d count terminal) (sym is.1) ports, subst (λ z. AreShort m d count terminal z s.nets s.need s.have) (sym is.1) is.2);
  }

  pub first_lack : (n : ℕ) (s : Short) → n < nodes_of m → SufficeBefore m d count terminal n → NodeIsShort m d count terminal n s → IsFirstLack m d count terminal s
  first_lack n s lt before is = record { within = subst (λ z. z < nodes_of m) (sym is.node) lt; before = subst (SufficeBefore m d count terminal) (sym is.node) before; short = is.short }

  first_of : (tables pins : Need) (s : Short) → IsMet tables → IsMet pins → IsFirstLack m d count terminal s → (r : Resource) → NodeIsShortOf r m d count terminal s → IsShortOf r m d count terminal tables pins s
  first_of tables pins s t p is Tables short = absurd short
  first_of tables pins s t p is Pins short = absurd short
  first_of tables pins s t p is Ports short = ((t, p, is.within, is.before), short)
  first_of tables pins s t p is Lines short = ((t, p, is.within, is.before), short.0, short.1)

  pub room_is : (tables pins : Need) (r : Room) → IsMet tables → IsMet pins → IsNodesRoom m d count terminal r → IsRoom m d count terminal tables pins r
  room_is tables pins (Enough ports visits) t p is = (record { tables_met = t; pins_met = p; nodes_met = is.suffice }, is.ports_are, is.visits_are)
  room_is tables pins (Lacks s) t p is = first_of tables pins s t p is s.resource is.short
