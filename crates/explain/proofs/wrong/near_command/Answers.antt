use Rattle.std.proofs.Common.{◌∙◌, ap, arith, option_map, sym}
use Rattle.explain.specs.NearCommands.{command_names}
use Rattle.explain.proofs.NearLemmas.{edits_are, left, named, offered, taken}
use Rattle.explain.proofs.wrong.near_command.Goals as goal
use Rattle.explain.proofs.wrong.near_command.Goals.{in-Some+in_ok-edits+then-edits-least, in-Some+in_ok-edits+else-edits-least, in_default}

pub loop-index-preserved : goal.loop-index-preserved
loop-index-preserved c =
    elim c.match-command_name.branch [
      | in-Some+in_ok-edits+then-edits-least w ↦
          taken c.args.word.now command_names c.loop-index.index c.loop-index.least _ w.in_ok-edits.edits _ _ w.in-Some.name.now c.loop-index.invariant
          (sym c.command_name.ensures ∙ ap (option_map (λ name. name.now)) w.in-Some.is)
          (edits_are _ _ _ _ _ w.in_ok-edits.ensures.value w.as_bytes.ensures.value w.as_bytes-in-Some.ensures.value)
          w.if-edits-least.true (ap (option_map (λ name. name.now)) w.found-is) w.least-is
      | in-Some+in_ok-edits+else-edits-least w ↦
          left c.args.word.now command_names c.loop-index.index c.loop-index.least _ w.in_ok-edits.edits _ _ w.in-Some.name.now c.loop-index.invariant
          (sym c.command_name.ensures ∙ ap (option_map (λ name. name.now)) w.in-Some.is)
          (edits_are _ _ _ _ _ w.in_ok-edits.ensures.value w.as_bytes.ensures.value w.as_bytes-in-Some.ensures.value)
          w.if-edits-least.false (ap (option_map (λ name. name.now)) w.found-is) w.least-is
      | in_default w ↦
          absurd (named c.loop-index.index (omega arith) (sym c.command_name.ensures ∙ ap (option_map (λ name. name.now)) w.in_default.is))
    ]

pub returns : goal.returns
returns c = offered c.args.word.now c.loop-index.index c.loop-index.least _ (omega arith) c.loop-index.invariant
