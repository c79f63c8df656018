-- The dimensions so far.
use Rattle.std.proofs.Common.{◌≡◌, ◌++◌, take, string_bytes}
use Rattle.std.specs.List.{flat_map}
use Rattle.type_notes.specs.Texts.{dimension_of, dimension_text}
use Rattle.type_notes.proofs.dimensions.push_dimensions.Given as goal

abbrev pub invariant-loop-k : goal.invariant-loop-k
invariant-loop-k l = string_bytes l.text ≡ string_bytes l.fn.text ++ flat_map (λ s. dimension_text (dimension_of l.dwarf.tree s)) (take l.k l.subranges)
