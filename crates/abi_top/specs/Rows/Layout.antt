-- `layout`: what `run` promises of it.
use Rattle.std.specs.Prelude.{ℕ, List, [], ◌∷◌}
use Rattle.abi_top.specs.Calls.{Call, Reads}
use Rattle.cli_args.specs.Commands.{layout}
use Rattle.library_layout.specs.Command.{layout_inputs, no_tag_text}
use Rattle.library_layout.specs.Covers.{CoversEachBit}
use Rattle.library_layout.specs.Layouts.{HasNoTag, IsLayoutText}

-- the command is `layout` with a name and a tag, and P holds for the readable library with this name and for the tag
abbrev pub OnLayout : Call → (List ℕ → List ℕ → Type 0) → Type 0
OnLayout call P = (name tag library : List ℕ) × Reads call (layout name tag) (layout_inputs name) (library ∷ []) × P library tag

-- ---- where P holds for the text that was appended

-- refused: no structure of the library has the tag
abbrev pub LayoutRefused : Call → (List ℕ → Type 0) → Type 0
LayoutRefused call P = OnLayout call (λ library tag. HasNoTag library tag × P no_tag_text)

-- Done: the text is the layout of the structure with the tag. Without an overlap and without a member that ends outside, each bit below
-- the size of the structure lies in exactly one member, hole or padding; any such clash is named by a row.
abbrev pub LayoutDone : Call → (List ℕ → Type 0) → Type 0
LayoutDone call P = OnLayout call (λ library tag.
    (text : List ℕ) × IsLayoutText library tag text × CoversEachBit library tag text × P text)
