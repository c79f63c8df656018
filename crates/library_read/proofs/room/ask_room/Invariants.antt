use Rattle.std.proofs.Common.{take}
use Rattle.abi_base.specs.declared.limit.Limit.TheVariants.{Letters, Parts}
use Rattle.abi_base.proofs.lemmas.Budgets.{SpentOn}
use Rattle.library_read.specs.Limits.{letters_held, parts_held}
use Rattle.library_read.proofs.room.ask_room.Given as goal

abbrev pub invariant-loop-number : goal.invariant-loop-number
invariant-loop-number g l = record {
  parts : SpentOn Parts l.bytes parts_held (take l.number l.graph) l.parts;
  letters : SpentOn Letters l.bytes letters_held (take l.number l.graph) l.letters;
}
