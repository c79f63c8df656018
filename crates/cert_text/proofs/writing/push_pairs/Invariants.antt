use Rattle.std.proofs.Common.{◌≡◌, ◌++◌, take, map}
use Rattle.cert_text.specs.declared.line.Version.TheVariants.{Two}
use Rattle.cert_text.specs.Grammar.{lined, spelling, pair_of}
use Rattle.cert_text.proofs.writing.push_pairs.Given as goal

abbrev pub invariant-loop-pair : goal.invariant-loop-pair
invariant-loop-pair l = l.text.items ≡ l.fn.text.items ++ lined (map (spelling Two) (map pair_of (take l.pair-index l.pairs)))
