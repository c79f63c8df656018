use Rattle.std.proofs.Common.{◌≡◌, map, take, true, All}
use Rattle.std.specs.Str.{is_utf8}
use Rattle.suppression_text.proofs.pattern_set.texts_in.Given as goal

-- the texts so far
abbrev pub invariant-loop-bytes : goal.invariant-loop-bytes
invariant-loop-bytes l = (map (λ text. text.now) l.texts.items ≡ map (λ bytes. bytes.now) (take l.bytes-index l.all)) × All (λ text. is_utf8 text.now ≡ true) l.texts.items
