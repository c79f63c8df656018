use Rattle.std.proofs.Common.{sym, subst, ◌∙◌, arith, ◌<◌, ◌+◌, ◌^◌, length, ap}
use Rattle.cert_text.specs.Faults.{end_fault}
use Rattle.cert_text.specs.Grammar.{IsSpelledIn}
use Rattle.cert_text.specs.Steps.{Accepts, StandsAt}
use Rattle.cert_text.proofs.ReadingLemmas.{IsReading, started, went_on}
use Rattle.cert_text.proofs.EndLemmas.{certified, rest_fault, finished}
use Rattle.cert_text.proofs.reading.read_text.Goals as goal

pub lines-init : goal.lines-init
lines-init c = rw c.new-draft.ensures (started c.args.version c.args.bytes.now _ _ _ _ c.in_ok-head.ensures)

pub lines-preserved : goal.lines-preserved
lines-preserved c =
    rw c.in_ok-put.ensures.added (went_on c.args.version c.args.bytes.now c.lines.at _ c.lines.number c.lines.before c.lines.draft _ c.in_ok-line.line c.lines.invariant c.in-Some.ensures.1 (rw c.line_at.ensures at c.in_ok-line.ensures))

pub finish-requires : goal.finish-requires
finish-requires c =
    let short : length c.args.bytes.now + 1 < 2 ^ 64 = omega arith in
    certified c.args.version c.args.bytes.now c.lines.at c.lines.number c.lines.before c.lines.draft short c.lines.invariant

pub returns-in-Some-fault_at_end-clause-fault : goal.returns-in-Some-fault_at_end-clause-fault
returns-in-Some-fault_at_end-clause-fault c =
    rest_fault c.args.version c.args.bytes.now c.lines.at c.lines.number c.lines.before c.lines.draft c.lines.invariant c.in_default.ensures
    ∙ ap (end_fault c.lines.number c.lines.before) (sym c.from.ensures) ∙ sym c.in-Some-fault_at_end.ensures

pub returns-in-None-clause-spelled : goal.returns-in-None-clause-spelled
returns-in-None-clause-spelled c =
    let short : length c.args.bytes.now + 1 < 2 ^ 64 = omega arith in
    rw c.finish.ensures (finished c.args.version c.args.bytes.now c.lines.at c.lines.number c.lines.before c.lines.draft short c.lines.invariant (ap (end_fault c.lines.number c.lines.before) (sym c.from.ensures) ∙ sym c.in-None.ensures))

pub returns-in-None-clause-fault : goal.returns-in-None-clause-fault
returns-in-None-clause-fault c =
    rest_fault c.args.version c.args.bytes.now c.lines.at c.lines.number c.lines.before c.lines.draft c.lines.invariant c.in_default.ensures
    ∙ ap (end_fault c.lines.number c.lines.before) (sym c.from.ensures) ∙ sym c.in-None.ensures

pub returns-in-None-clause-room : goal.returns-in-None-clause-room
returns-in-None-clause-room c =
    let kept = c.lines.invariant in
    rw c.finish.ensures (omega (arith, kept.size, kept.room, kept.inside))
