-- The answers of the readers of entries, as steps.
use Rattle.std.specs.Prelude.{Option, Some, None, Result, Ok, Err}
use Rattle.abi_base.specs.declared.fault.Fault.{Fault}
use Rattle.dwarf_text.specs.declared.ranges.entry.Entry.{Entry as EntryRead}
use Rattle.dwarf_text.specs.ranges.RangeLists.{State, Entry}

abbrev pub seen_entry : Result EntryRead Fault → Result (Entry × State) Fault
seen_entry (Ok e) = Ok (e.start, (e.after, e.base))
seen_entry (Err f) = Err f

abbrev pub seen_step : Result (Option EntryRead) Fault → Result (Entry × State) (Option Fault)
seen_step (Ok (Some e)) = Ok (e.start, (e.after, e.base))
seen_step (Ok None) = Err None
seen_step (Err f) = Err (Some f)
