-- When bytes pass a property.
use Rattle.std.specs.Prelude.{not, ℕ, Bool, true, false, if◌then◌else◌, List}
use Rattle.std.specs.Str.{bytes_eq}
use Rattle.suppression_text.specs.declared.key.Key.{Key}
use Rattle.suppression_text.specs.declared.key.Key.TheVariants.{NameNotRegexp}
use Rattle.suppression_text.specs.Keys.{has_pattern}
use Rattle.suppression_text.specs.Patterns.{is_found}

-- the pattern must not match
abbrev pub is_negated : Key → Bool
is_negated NameNotRegexp = true
is_negated key = false

-- Bytes pass a pattern if it matches anywhere in them, or, for `name_not_regexp`, if it does not. They pass any other value if they
-- are equal to it.
unfoldable pub passes : Key → List ℕ → List ℕ → Bool
passes key value bytes =
    if has_pattern key then (if is_negated key then not (is_found value bytes) else is_found value bytes)
    else bytes_eq value bytes
