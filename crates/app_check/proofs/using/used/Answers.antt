use Rattle.std.proofs.Common.{ℕ, ◌∙◌, sym, ap, List, Option}
use Rattle.std.specs.List.{list_any}
use Rattle.std.specs.Option.{option_copied}
use Rattle.std.proofs.lemmas.List.{length-map}
use Rattle.abi_types.specs.declared.export.Export.{Export}
use Rattle.abi_types.specs.Plain.{plain_export, plain_exports}
use Rattle.elf_bind.specs.Binding.{bind_each}
use Rattle.app_check.specs.Plain.{plain_imports}
use Rattle.app_check.specs.Used.{is_at}
use Rattle.app_check.proofs.Places.{all_used}
use Rattle.app_check.proofs.using.used.Goals as goal

pub returns-clause-used : goal.returns-clause-used
returns-clause-used c =
    c.in_ok-used.ensures.read
    ∙ all_used (option_copied c.args.soname) (plain_imports c.args.imports.now) (plain_exports c.args.old.now) (plain_exports c.in_ok-wanted.wanted.items) c.in_ok-places.places c.in_ok-found.found _
    c.in_ok-wanted.ensures.read
    (c.in_ok-places.ensures.places ∙ ap (λ (l : List Export). bind_each (plain_exports l) (plain_exports c.args.old.now)) c.deref.ensures.value)
    (λ k. c.in_ok-found.ensures.read k ∙ ap (λ (l : List (Option ℕ)). list_any (is_at k) l) c.as_slice.ensures)
    (sym (length-map c.args.old.now plain_export))
