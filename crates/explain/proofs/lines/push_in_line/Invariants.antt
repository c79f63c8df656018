use Rattle.std.proofs.Common.{◌≡◌, ◌++◌, string_bytes, flat_map}
use Rattle.explain.specs.Lines.{shown_char}
use Rattle.explain.proofs.lines.push_in_line.Given as goal

abbrev pub invariant-loop-c : goal.invariant-loop-c
invariant-loop-c l = string_bytes l.text ≡ string_bytes l.fn.text ++ flat_map shown_char l.yielded
