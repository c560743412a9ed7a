-- The generator: a state, from which each draw makes the next and its answer.
use Rattle.std.specs.Prelude.{ℕ, zero, suc, ◌+◌, ◌*◌, ◌/◌, ◌%◌, ◌^◌}

-- the state after one draw
abbrev pub next_state : ℕ → ℕ
next_state s = (s * 6364136223846793005 + 1442695040888963407) % 2 ^ 64

-- what a draw of m answers by the state after it: a number below m
abbrev pub answer : ℕ → ℕ → ℕ
answer m s = (s / 2 ^ 33) % m

-- what a draw of a part of m answers by the state after it: the state's upper half, as so many of 2 ^ 32, of m
abbrev pub portion_of : ℕ → ℕ → ℕ
portion_of m s = s / 2 ^ 32 * m % 2 ^ 64 / 2 ^ 32

-- the state after n draws
abbrev pub state_after : ℕ → ℕ → ℕ
state_after zero s = s
state_after (suc n) s = next_state (state_after n s)

-- what the n-th draw after a state, from 1 on, answers where it is one of m
abbrev pub nth_draw : ℕ → ℕ → ℕ → ℕ
nth_draw n m s = answer m (state_after n s)
