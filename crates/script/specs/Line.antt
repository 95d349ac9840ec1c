-- The line buffer: what it holds, and what each byte of the input makes of it.
use Rattle.std.specs.Prelude.{ℕ, Bool, true, cond, List, [], ◌∷◌, ◌++◌, length, take, ◌==◌, nat_lt}
use Rattle.script.specs.declared.line.Line.{Line}
use Rattle.script.specs.declared.line.Took.{Took}
use Rattle.script.specs.declared.line.Took.TheVariants.{More, Whole, Long}

-- the bytes of the line so far
abbrev pub held : Line → List ℕ
held l = take l.len l.bytes

-- a line has begun once it has a byte
abbrev pub begun : Line → Bool
begun l = nat_lt 0 (length (held l))

-- a line has room for 8,191 bytes before its newline
abbrev pub full : Line → Bool
full l = l.len == 8191

-- a newline is not held, and neither is a byte for which there is no room
abbrev pub bytes_after : Line → ℕ → List ℕ
bytes_after l byte = cond (byte == 10) (held l) (cond (full l) (held l) (held l ++ byte ∷ []))

-- the line is too long once a byte found no room
abbrev pub over_after : Line → ℕ → Bool
over_after l byte = cond (byte == 10) l.over (cond (full l) true l.over)

-- a newline ends the line
abbrev pub took : Line → ℕ → Took
took l byte = cond (byte == 10) (cond l.over Long Whole) More
