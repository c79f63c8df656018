use Rattle.std.proofs.Common.{subst, sym, IfOk, map, string_bytes}
use Rattle.commands.specs.Commands.{plain_file}
use Rattle.explain.specs.Notes.{Tells}
use Rattle.explain.proofs.notes.notes_on.Goals as goal

pub returns-in-Judged-clause-tells : goal.returns-in-Judged-clause-tells
returns-in-Judged-clause-tells c =
    subst (λ o. IfOk c.on_verdict.result (λ notes. Tells o c.args.bytes.now c.args.reason.now (map plain_file c.args.files.now) (map string_bytes notes.items))) (sym c.in-Judged.is) c.on_verdict.ensures.tells
