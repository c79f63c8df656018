use Rattle.std.proofs.Common.{◌∙◌, ap}
use Rattle.std.specs.Prelude.{not}
use Rattle.std.specs.Option.{option_copied}
use Rattle.abi_types.specs.Plain.{plain_export}
use Rattle.elf_bind.proofs.Standing.{said_bare, added_bare, said_paired, added_paired}
use Rattle.elf_bind.proofs.duplicates.stood_before.Goals as goal
use Rattle.elf_bind.proofs.duplicates.stood_before.Goals.{in-None+in_ok-is_new-in-None, in-Some+in_ok-is_new-in-Some}

pub returns-clause-says : goal.returns-clause-says
returns-clause-says c before so_far =
    elim c.match-export.branch [
      | in-None+in_ok-is_new-in-None w ↦
          ap not w.is_new-is
          ∙ said_bare c.args.unversioned.now c.args.versioned.now before (plain_export c.args.export.now) so_far w.in_ok-is_new-in-None.is_new c.code_of-code.result c.code_of-code.ensures (ap option_copied w.in-None.is)
          w.in_ok-is_new-in-None.ensures.added
      | in-Some+in_ok-is_new-in-Some w ↦
          ap not w.is_new-is
          ∙ said_paired c.args.unversioned.now c.args.versioned.now before (plain_export c.args.export.now) so_far w.in_ok-is_new-in-Some.is_new c.code_of-code.result w.in-Some.version.now c.code_of-code.ensures (ap option_copied w.in-Some.is)
          w.in_ok-is_new-in-Some.ensures.added
    ]

pub returns-clause-adds : goal.returns-clause-adds
returns-clause-adds c before so_far =
    elim c.match-export.branch [
      | in-None+in_ok-is_new-in-None w ↦
          rw (w.unversioned-is, w.versioned-is)
          (added_bare c.args.unversioned.now c.args.versioned.now before (plain_export c.args.export.now) so_far w.insert.new.self c.code_of-code.result c.code_of-code.ensures (ap option_copied w.in-None.is) w.in_ok-is_new-in-None.ensures.updates.0)
      | in-Some+in_ok-is_new-in-Some w ↦
          rw (w.unversioned-is, w.versioned-is)
          (added_paired c.args.unversioned.now c.args.versioned.now before (plain_export c.args.export.now) so_far w.insert-in-Some.new.self c.code_of-code.result w.in-Some.version.now c.code_of-code.ensures (ap option_copied w.in-Some.is)
          w.in_ok-is_new-in-Some.ensures.updates.0)
    ]
