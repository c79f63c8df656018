-- The limit on the functions of a generated library.
use Rattle.std.specs.Prelude.{ℕ}

-- the most functions of a generated library
abbrev pub most_functions : ℕ
most_functions = 50000
