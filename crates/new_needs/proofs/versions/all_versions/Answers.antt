use Rattle.std.proofs.Common.{◌∙◌, sym, ap}
use Rattle.std.specs.Option.{option_map}
use Rattle.elf_needs.specs.Plain.{needed, plain_need}
use Rattle.new_needs.specs.Versions.{plain_versions}
use Rattle.new_needs.proofs.AllNeeds.{all_added, all_passed}
use Rattle.new_needs.proofs.versions.all_versions.Goals as goal
use Rattle.new_needs.proofs.versions.all_versions.Goals.{in-Some+in_ok-push, in_default}

pub loop-index-preserved : goal.loop-index-preserved
loop-index-preserved c =
    elim c.match-need_of.branch [
      | in-Some+in_ok-push w ↦
          all_added (needed c.args.needs.now) c.loop-index.index c.loop-index.all.items c.loop-index.invariant c.match-need_of.all.items w.in-Some.need
          (sym (ap (option_map plain_need) w.in-Some.is) ∙ c.need_of.ensures) (ap (λ v. v.items) w.all-is ∙ w.in_ok-push.ensures.items)
      | in_default w ↦
          ap (λ v. plain_versions v.items) w.all-is
          ∙ all_passed (needed c.args.needs.now) c.loop-index.index c.loop-index.all.items c.loop-index.invariant (sym (ap (option_map plain_need) w.in_default.is) ∙ c.need_of.ensures)
    ]
