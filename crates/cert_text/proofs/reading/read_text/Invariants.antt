-- What was read stands before the place.
use Rattle.std.proofs.Common.{◌-◌, length}
use Rattle.cert_text.proofs.ReadingLemmas.{IsReading}
use Rattle.cert_text.proofs.reading.read_text.Given as goal

abbrev pub invariant-lines : goal.invariant-lines
invariant-lines l = IsReading l.version l.bytes l.at l.number l.before l.draft

abbrev pub decreases-lines : goal.decreases-lines
decreases-lines l = length l.initial.bytes - l.at
