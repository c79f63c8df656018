-- What the code compares bytes with.
use Rattle.std.specs.Prelude.{ℕ, Bool, true, false, List}
use Rattle.suppression_text.specs.declared.property.Value.{Value}
use Rattle.suppression_text.specs.declared.property.Value.TheVariants.{Text, Pattern}

-- the text of a value
abbrev pub value_text : Value → List ℕ
value_text (Text bytes) = bytes.now
value_text (Pattern text) = text

abbrev pub is_pattern_value : Value → Bool
is_pattern_value (Text bytes) = false
is_pattern_value (Pattern text) = true
