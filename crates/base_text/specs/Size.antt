-- How long a text may be.
use Rattle.std.specs.Prelude.{ℕ}

-- The most bytes of a text or an image: 16 MiB.
abbrev pub most_bytes : ℕ
most_bytes = 16777216
