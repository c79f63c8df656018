-- The printed form of exports and names. The bytes of a name need not be text.
use Rattle.std.specs.Prelude.{ℕ, Bool, ◌==◌, nat_le, not, ◌&&◌, if◌then◌else◌, List, [], ◌∷◌, ◌++◌, flat_map, Option, Some, None, codes}
use Rattle.hex.specs.Hex.{encode_lower}
use Rattle.abi_types.specs.Exports.{PlainExport}

-- whether a byte is printed as itself: a visible ASCII character other than the backslash
abbrev pub is_plain : ℕ → Bool
is_plain b = nat_le 0x21 b && nat_le b 0x7e && not (b == 0x5c)

-- a byte as itself, or as `\x` and two hexadecimal digits
abbrev pub shown_byte : ℕ → List ℕ
shown_byte b = if is_plain b then b ∷ [] else 0x5c ∷ 0x78 ∷ encode_lower (b ∷ [])

abbrev pub shown : List ℕ → List ℕ
shown name = flat_map shown_byte name

-- the mark of a version: one `@` where it is hidden, two where it is the default one of its name
abbrev pub version_mark : Bool → List ℕ
version_mark hidden = if hidden then codes "@" else codes "@@"

abbrev pub shown_version : Bool → Option (List ℕ) → List ℕ
shown_version hidden None = []
shown_version hidden (Some version) = version_mark hidden ++ shown version

-- the label of an export: its name, and its version if any
abbrev pub label : PlainExport → List ℕ
label e = shown e.name ++ shown_version e.hidden e.version
