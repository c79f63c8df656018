use Rattle.std.proofs.Common.{◌≡◌, ◌≢◌, ◌∙◌, ℕ, List, [], Option, Some, ap, map}
use Rattle.std.specs.Prelude.{codes}
use Rattle.abi_base.specs.Causes.{is_listed}
use Rattle.abi_base.specs.contracts.memory.MemInputsInputs.TheImpl.{ghosts as M}
use Rattle.abi_base.specs.Limits.{sink_room}
use Rattle.test_memory.proofs.Answering.{exact, is_other, no_option_new, no_option_old}
use Rattle.test_memory.proofs.memory.check_in_memory.Goals as goal

pub returns : goal.returns
returns c =
    let run = c.run-ended.ensures in
    let old_told = c.new-inputs.ensures.told (codes "old") ∙ c.in_ok-files.ensures.old in
    let new_told = c.new-inputs.ensures.told (codes "new") ∙ c.in_ok-files.ensures.new in
    let unfailing = λ (k : ℕ). c.new-inputs.ensures.calls k ∙ ap (λ (l : List ℕ). Some (is_listed l 0 k)) c.new.ensures.items in
    let unfailing_sink = λ (k : ℕ). c.in_ok-sink.ensures.calls k ∙ ap (λ (l : List ℕ). Some (is_listed l 0 k)) c.new-2.ensures.items in
    let is = c.check_takes_two_files.ensures (codes "old") (codes "new") no_option_old no_option_new in
    let both = exact M.told M.faults M.given M.started _ c.new-4.result.items _ c.new-inputs.result c.run-ended.new.inputs c.args.old.items c.args.new.items c.run-ended.result.outcome _ _ _
    run.complete (run.steady_inputs unfailing) (run.steady_sink sink_room unfailing_sink c.in_ok-sink.ensures.room) c.new-4.ensures.items is c.no_rules_are_readable.ensures.readable
    old_told new_told c.new-inputs.ensures.faults c.in_ok-sink.ensures.faults (is_other _ c.in_default.not-NoMemory) in
    record { yes = λ fits. (both fits).0; no = λ fits. (both fits).1 }
