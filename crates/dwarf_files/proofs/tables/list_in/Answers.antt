use Rattle.std.proofs.Common.{sym, Some, None}
use Rattle.dwarf_files.proofs.ListLemmas.{list_end}
use Rattle.dwarf_files.proofs.tables.list_in.Goals as goal

pub returns-in-Err-Some : goal.returns-in-Err-Some
returns-in-Err-Some c =
    list_end c.args.files c.args.bytes.now c.items.place (Some c.in-Err-Some.after) c.items.entries _ (sym (rw c.in-Err-Some.field-0-is at c.in-Err-Some.ensures.read)) c.items.invariant

pub returns-in-Err-None : goal.returns-in-Err-None
returns-in-Err-None c =
    list_end c.args.files c.args.bytes.now c.items.place None c.items.entries _ (sym (rw c.in-Err-None.field-0-is at c.in-Err-None.ensures.read)) c.items.invariant
