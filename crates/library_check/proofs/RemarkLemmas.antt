-- Counts of exports as plain data.
use Rattle.std.proofs.Common.{◌≡◌, ◌+◌, ◌∙◌, ℕ, Bool, cond, List, [], ◌∷◌, map, count_by, refl, sym, ap}
use Rattle.std.proofs.lemmas.List.Sums.{sum_by-cons}
use Rattle.abi_types.specs.declared.export.Export.{Export}
use Rattle.abi_types.specs.Exports.{PlainExport}
use Rattle.abi_types.specs.Plain.{plain_export, plain_exports}

pub counted_plain : (p : PlainExport → Bool) (exports : List Export) → count_by p (plain_exports exports) ≡ count_by (λ (e : Export). p (plain_export e)) exports
counted_plain p [] = refl
counted_plain p (e ∷ exports) =
    sum_by-cons (λ y. cond (p y) 1 0) (plain_export e) (map plain_export exports) ∙ ap (λ (n : ℕ). cond (p (plain_export e)) 1 0 + n) (counted_plain p exports)
    ∙ sym (sum_by-cons (λ (x : Export). cond (p (plain_export x)) 1 0) e exports)
