use Rattle.std.proofs.Common.{subst, sym, IfOk, map, string_bytes}
use Rattle.commands.specs.Commands.{plain_file}
use Rattle.explain.specs.Notes.{TellsCompared}
use Rattle.explain.proofs.notes.on_remark.Goals as goal

pub returns-in-Some-clause-tells : goal.returns-in-Some-clause-tells
returns-in-Some-clause-tells c =
    subst (λ o. IfOk c.on_both.result (λ notes. TellsCompared o (map plain_file c.args.files.now) (map string_bytes notes.items))) (sym c.in-Some.is) c.on_both.ensures.tells
