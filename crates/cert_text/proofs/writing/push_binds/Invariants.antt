use Rattle.std.proofs.Common.{◌≡◌, ◌++◌, take, map}
use Rattle.cert_text.specs.declared.line.Version.TheVariants.{Two}
use Rattle.cert_text.specs.Grammar.{lined, spelling, bind_of}
use Rattle.cert_text.proofs.writing.push_binds.Given as goal

abbrev pub invariant-loop-bind : goal.invariant-loop-bind
invariant-loop-bind l = l.text.items ≡ l.fn.text.items ++ lined (map (spelling Two) (map bind_of (take l.bind-index l.binds)))
