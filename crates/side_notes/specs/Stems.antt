-- Names without what counts them.
use Rattle.std.specs.Prelude.{ℕ, Bool, ◌==◌, ◌&&◌, ◌||◌, nat_le, if◌then◌else◌, List, [], ◌∷◌}

-- a digit or an underscore (ASCII)
abbrev pub is_counting : ℕ → Bool
is_counting byte = (nat_le 48 byte && nat_le byte 57) || byte == 95

-- a byte in front of a stem: where nothing is left behind a digit or an underscore, nothing is left of it
abbrev pub stem_with : ℕ → List ℕ → List ℕ
stem_with byte [] = if is_counting byte then [] else byte ∷ []
stem_with byte (b ∷ bs) = byte ∷ b ∷ bs

-- the name without the digits and the underscores at its end
unfoldable pub stem : List ℕ → List ℕ
stem [] = []
stem (byte ∷ bytes) = stem_with byte (stem bytes)
