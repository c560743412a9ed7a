-- What the search for cycles finds.
use Rattle.std.specs.Prelude.{List, None, Some, length}
use Rattle.design_netlist.specs.declared.{netlist_data.Cover.Cover, cycles.Sorted.TheVariants.Order, cycles.Sorted.TheVariants.Cyclic}
use Rattle.design_netlist.specs.{declared.cycles.Sorted.Sorted, Orders.IsFirst, Covers.cover_line, Covers.IsOnCycle, Valuations.IsOrder}

-- no cover is on a cycle, and each stands after those that it reads; or the first cover on a cycle
abbrev pub AreSorted : List Cover → Sorted → Type 0
AreSorted covers (Order order) = IsFirst (cover_line covers) (length covers) (IsOnCycle covers) None × IsOrder covers order.items
AreSorted covers (Cyclic cover) = IsFirst (cover_line covers) (length covers) (IsOnCycle covers) (Some cover)
