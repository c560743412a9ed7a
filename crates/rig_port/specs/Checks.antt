-- The running check of a talk: two bytes of all bodies since the machine was attached.
use Rattle.std.specs.Prelude.{ℕ, ◌+◌, ◌%◌, List, [], ◌∷◌, fold}
use Rattle.rig_port.specs.declared.check.Check.{Check}

-- as a talk begins
abbrev pub fresh_check : Check
fresh_check = record { plain = 1; weighted = 0 }

-- a byte is added to the plain sum, and then this sum to the weighted one, in which an earlier byte counts more
abbrev pub after_byte : Check → ℕ → Check
after_byte c byte = record { plain = (c.plain + byte) % 256; weighted = (c.weighted + (c.plain + byte) % 256) % 256 }

-- behind a body
abbrev pub after : Check → List ℕ → Check
after c body = fold after_byte c body

-- how it stands in a line
abbrev pub check_bytes : Check → List ℕ
check_bytes c = c.weighted ∷ c.plain ∷ []
