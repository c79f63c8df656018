-- How the code tests bytes for the value of a property.
use Rattle.std.specs.Prelude.{ℕ, Bool, true, false, List}
use Rattle.suppression_text.specs.declared.property.Probe.{Probe}
use Rattle.suppression_text.specs.declared.property.Probe.TheVariants.{Equal, PatternMatch}

-- the text of the value
abbrev pub probe_text : Probe → List ℕ
probe_text (Equal bytes) = bytes.now
probe_text (PatternMatch text) = text

abbrev pub is_pattern_probe : Probe → Bool
is_pattern_probe (Equal bytes) = false
is_pattern_probe (PatternMatch text) = true
