-- `layout`: what it reads and says. It is done with the layout of the structure with this tag, where each bit has its row, or
-- refused if there is no such structure.
use Rattle.std.specs.Prelude.{◌≡◌, ℕ, List, [], ◌∷◌, Option, None, codes}
use Rattle.std.specs.List.{concat}
use Rattle.abi_base.specs.declared.limit.Limit.{Limit}
use Rattle.abi_base.specs.declared.remark.Remark.{Remark}
use Rattle.commands.specs.Commands.{Asked, Wanted, named}
use Rattle.commands.specs.Texts.{newline}
use Rattle.commands.specs.declared.input.Input.TheVariants.{Library}
use Rattle.commands.specs.declared.verdict.Verdict.{Verdict}
use Rattle.commands.specs.declared.verdict.Verdict.TheVariants.{Yes, No, Refused, Done}
use Rattle.library_read.specs.Faults.{library_fault}
use Rattle.library_layout.specs.Covers.{CoversEachBit}
use Rattle.library_layout.specs.Layouts.{HasNoTag, IsLayoutText}
use Rattle.library_layout.specs.Limits.{LayoutPasses}

-- the library with this name, which must have no fault at all
abbrev pub layout_inputs : List ℕ → List Wanted
layout_inputs library = record { which = Library; source = named library; fault_in = library_fault } ∷ []

-- what is asked of it, whatever its name is
abbrev pub layout_asks : List Asked
layout_asks = (Library, library_fault) ∷ []

-- the line about a tag that no structure has
abbrev pub no_tag_text : List ℕ
no_tag_text = concat (codes "refused 85 NoTag 0" ∷ newline ∷ [])

abbrev pub LayoutSays : List ℕ → List ℕ → Verdict → List ℕ → Type 0
LayoutSays library tag Done text = IsLayoutText library tag text × CoversEachBit library tag text
LayoutSays library tag Refused text = HasNoTag library tag × (text ≡ no_tag_text)
LayoutSays library tag Yes text = ⊥
LayoutSays library tag No text = ⊥

abbrev pub layout_passes : List ℕ → List (List ℕ) → Limit → Type 0
layout_passes tag (library ∷ []) limit = LayoutPasses library tag limit
layout_passes tag all limit = ⊥

abbrev pub layout_says : List ℕ → List (List ℕ) → Verdict → Option Remark → List ℕ → Type 0
layout_says tag (library ∷ []) v untyped text = LayoutSays library tag v text × (untyped ≡ None)
layout_says tag all v untyped text = ⊥
