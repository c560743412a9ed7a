-- The search's state, as the code has it.
use Rattle.std.specs.Prelude.{ℕ, ◌≡◌, ◌<◌, ◌≤◌, ◌+◌, ◌-◌, List, length}
use Rattle.design_netlist.specs.declared.{netlist_data.Cover.Cover, search.Group.Group, search.Search.Search}
use Rattle.design_netlist.specs.Searches.{IsSearch, AreHandled, IsListed, work, start_at, waits_at}
use Rattle.design_netlist.specs.{Valuations.number_at, Covers.Reads}

pub record IsSearching (covers : List Cover) (s : Search) (spare : ℕ) : Type 0 where
  pub keeps : IsSearch covers s.states.items s.path.items s.groups.items s.waiting.items (length s.order.items)
  pub listed : IsListed covers s.states.items s.order.items
  pub handled : AreHandled covers s.states.items s.path.items s.groups.items s.waiting.items spare

-- it falls at each step
abbrev pub left_of : List Cover → Search → ℕ
left_of covers s = work s.states.items covers + length s.waiting.items + length s.groups.items

pub record IsLastOf (groups : List Group) (group : Group) : Type 0 where
  pub some : 0 < length groups
  pub start : start_at groups (length groups - 1) ≡ group.start
  pub waits : waits_at groups (length groups - 1) ≡ group.waits

abbrev pub IsLast : Search → Group → Type 0
IsLast s group = IsLastOf s.groups.items group

-- the cover is read from the last group
abbrev pub IsReadFromLast : List Cover → Search → ℕ → Type 0
IsReadFromLast covers s c =
    (q : ℕ) × (q < length s.path.items) × (start_at s.groups.items (length s.groups.items - 1) ≤ q)
    × Reads covers (number_at s.path.items q) c
