-- What exports bind to.
use Rattle.std.proofs.Common.{◌≡◌, ℕ, Some, sym, ◌∙◌, ap, slice_get, None, Option, refl}
use Rattle.std.specs.Prelude.{option_and_then}
use Rattle.std.proofs.lemmas.Option.{none-some}
use Rattle.abi_types.specs.Exports.{PlainExport}
use Rattle.elf_bind.specs.Binding.{bind_to}
use Rattle.cert_check.specs.Compatible.{Sides, bound}

-- what an export binds to is one of the new library's
pub bound_place : (s : Sides) (e f : PlainExport) → bound s e ≡ Some f → (place : ℕ) × (slice_get s.new.exports place ≡ Some f)
bound_place s e f binds = go (bind_to s.new.exports e) refl where
  go : (o : Option ℕ) → bind_to s.new.exports e ≡ o → (place : ℕ) × (slice_get s.new.exports place ≡ Some f)
  go None is = absurd (none-some f (sym (ap (option_and_then (slice_get s.new.exports)) is) ∙ binds))
  go (Some place) is = (place, sym (ap (option_and_then (slice_get s.new.exports)) is) ∙ binds)
