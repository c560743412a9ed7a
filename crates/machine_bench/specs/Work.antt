-- A machine, and a design for it.
use Rattle.std.specs.Prelude.{ℕ, ◌+◌, List, [], ◌∷◌, ◌++◌, codes}
use Rattle.std.specs.{List.flat_map, List.range_with_len, Fmt.decimal}
use Rattle.machine_shape.specs.declared.Counts.{Counts}

abbrev pub bench_counts : Counts
bench_counts =
    record { modules = 2; chips = 2; hextants = 4; tables = 8; ports = 24 ∷ 24 ∷ 24 ∷ []; lines = 32 ∷ 32 ∷ 32 ∷ 32 ∷ []; pins = 28 }

abbrev pub line : List ℕ → List ℕ
line text = text ++ 10 ∷ []

-- the latch that takes s0 on to s1, and so on
abbrev pub latch_line : ℕ → List ℕ
latch_line k = line (codes ".latch s" ++ decimal k ++ codes " s" ++ decimal (k + 1) ++ codes " 0")

-- the design: a shift register of sixteen latches, which takes in the exclusive or of the input and its own end
abbrev pub bench_design : List ℕ
bench_design =
    line (codes ".model bench") ++ line (codes ".inputs x") ++ line (codes ".outputs f s15")
    ++ line (codes ".names x s15 f") ++ line (codes "10 1") ++ line (codes "01 1")
    ++ line (codes ".latch f s0 0") ++ flat_map latch_line (range_with_len 0 15) ++ line (codes ".end")
