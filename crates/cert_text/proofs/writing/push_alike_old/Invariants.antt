use Rattle.std.proofs.Common.{◌≡◌, ◌++◌, take, map}
use Rattle.cert_text.specs.declared.line.Version.TheVariants.{Two}
use Rattle.cert_text.specs.Grammar.{lined, spelling, alike_old_of}
use Rattle.cert_text.proofs.writing.push_alike_old.Given as goal

abbrev pub invariant-loop-line : goal.invariant-loop-line
invariant-loop-line l = l.text.items ≡ l.fn.text.items ++ lined (map (spelling Two) (map alike_old_of (take l.line-index l.lines)))
