-- The limits that this checker sets itself and that definitions use.
use Rattle.std.specs.Prelude.{ℕ}

-- the largest allowed size of an input in bytes
abbrev pub input_limit : ℕ
input_limit = 268435456

-- the most links in a chain of origins
abbrev pub chain_limit : ℕ
chain_limit = 8

-- the greatest depth of types nested by value
abbrev pub depth_limit : ℕ
depth_limit = 512

-- the greatest weight of a type
abbrev pub weight_limit : ℕ
weight_limit = 1048576

-- the capacity of a sink in memory, in bytes
abbrev pub sink_room : ℕ
sink_room = 1048576
