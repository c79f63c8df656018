use Rattle.std.proofs.Common.{map, take, string_bytes}
use Rattle.explain.proofs.NameLemmas.{SoFar}
use Rattle.explain.proofs.tags.push_names.Given as goal

abbrev pub invariant-loop-name : goal.invariant-loop-name
invariant-loop-name l = SoFar l.first (take l.name-index (map (λ name. name.now) l.names)) (string_bytes l.fn.text) (string_bytes l.text) l.is_first
