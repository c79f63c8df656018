-- One more export is bound, and at the end all are.
use Rattle.std.proofs.Common.{ℕ, List, Option, map, take, take_all, ap, sym, ◌∙◌, ◌++◌, ◌∷◌, [], arith}
use Rattle.std.proofs.lemmas.List.{length-map, map-append}
use Rattle.abi_base.proofs.lemmas.Lists.{take-map_more}
use Rattle.abi_types.specs.Exports.{PlainExport}
use Rattle.abi_types.specs.Plain.{plain_export, plain_exports}
use Rattle.elf_bind.specs.Binding.{bind_each, bind_to}
use Rattle.elf_bind.proofs.binding.bind_all.Goals as goal

pub loop-export-preserved : goal.loop-export-preserved
loop-export-preserved c =
    let all = plain_exports c.args.offered.now in
    let i = c.loop-export.export-index in
    record {
      places =
          c.in_ok-push.ensures.ok
          ∙ ap (λ (l : List (Option ℕ)). l ++ c.in_ok-place.place ∷ []) c.loop-export.invariant.places
          ∙ ap (λ (o : Option ℕ). bind_each (take i (plain_exports c.args.wanted.now)) all ++ o ∷ []) c.in_ok-place.ensures.place
          ∙ sym (ap (map (bind_to all)) (take-map_more plain_export c.args.wanted.now i _ c.loop-export-test.true) ∙ map-append (bind_to all) (take i (plain_exports c.args.wanted.now)) (_ ∷ []));
      known = c.in_ok-place.ensures.known;
    }

pub returns-clause-places : goal.returns-clause-places
returns-clause-places c =
    c.loop-export.invariant.places
    ∙ ap (λ (l : List PlainExport). bind_each l (plain_exports c.args.offered.now))
    (take_all c.loop-export.export-index (plain_exports c.args.wanted.now) (omega (arith, c.loop-export-test.false, length-map c.args.wanted.now plain_export)))
