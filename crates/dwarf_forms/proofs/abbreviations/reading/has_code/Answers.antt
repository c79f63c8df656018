use Rattle.std.proofs.Common.{◌∙◌, ap}
use Rattle.std.specs.Prelude.{is_some, ◌==◌}
use Rattle.dwarf_forms.proofs.abbreviations_lemmas.PlacesLemmas.{copied_is_some, any_found}
use Rattle.dwarf_forms.proofs.abbreviations.reading.has_code.Goals as goal

pub returns : goal.returns
returns c = c.is_some.ensures ∙ copied_is_some c.find.result ∙ ap is_some (rw c.new.ensures at c.find.ensures) ∙ any_found (λ a. a.code == c.args.code) c.args.seen.now
