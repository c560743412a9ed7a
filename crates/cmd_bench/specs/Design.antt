-- The netlist of the generated design.
use Rattle.std.specs.Prelude.{ℕ, ◌+◌, false, List, [], ◌∷◌, ◌++◌, map, codes}
use Rattle.std.specs.{List.range_with_len, Fmt.decimal}
use Rattle.design_netlist.specs.declared.netlist_data.{NetlistData.NetlistData, Cover.Cover, Lit.TheVariants.Zero, Lit.TheVariants.One}
use Rattle.design_netlist.specs.{declared.netlist_data.LatchDef.LatchDef, Drafts.word}

-- the input, what it and the last latch give together, the last latch, and the other latches in their order
abbrev pub bench_names : List (List ℕ)
bench_names = codes "x" ∷ codes "f" ∷ codes "s15" ∷ map (λ k. codes "s" ++ decimal k) (range_with_len 0 15)

-- one of the input and the last latch is 1, and the other is 0
abbrev pub bench_cover : Cover
bench_cover = record { out = 1; ins = 0 ∷ 2 ∷ []; rows = (One ∷ Zero ∷ []) ∷ (Zero ∷ One ∷ []) ∷ []; off = false; line = 4 }

abbrev pub latch_from : (from out line : ℕ) → LatchDef
latch_from from out line = record { from = from; out = out; init = false; line = line }

-- the latch that takes the signal of one of the first fourteen on to the next
abbrev pub bench_latch : ℕ → LatchDef
bench_latch k = latch_from (k + 3) (k + 4) (k + 8)

abbrev pub bench_latches : List LatchDef
bench_latches = latch_from 1 3 7 ∷ map bench_latch (range_with_len 0 14) ++ latch_from 17 2 22 ∷ []

-- one input, two outputs, one cover and sixteen latches
abbrev pub bench_draft : NetlistData
bench_draft = record {
  names = bench_names;
  inputs = word 2 0 ∷ [];
  outputs = word 3 1 ∷ word 3 2 ∷ [];
  covers = bench_cover ∷ [];
  latches = bench_latches;
}
