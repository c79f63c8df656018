-- What a library passes where it is read, or where a structure is laid out, it passes for the layout.
use Rattle.std.proofs.Common.{◌≡◌, ℕ, List, [], ◌∷◌, length, ap, ◌∙◌, subst, inl, inr}
use Rattle.abi_base.specs.Outcome.{OnLimit}
use Rattle.abi_base.specs.declared.fault.NoMemory.{NoMemory}
use Rattle.abi_base.proofs.lemmas.Outcomes.{on_limit_weaker}
use Rattle.abi_types.specs.Graphs.{view_at}
use Rattle.abi_types.specs.Types.{PlainNode, PlainView}
use Rattle.abi_types.specs.Libraries.{PlainLibrary}
use Rattle.commands.specs.Faults.{StopsAt, StopsOn}
use Rattle.commands.specs.declared.input.Input.TheVariants.{Library}
use Rattle.commands.specs.declared.stop.Stop.{Stop}
use Rattle.commands.proofs.lemmas.Stops.{stops_here}
use Rattle.library_read.specs.Faults.{library_fault}
use Rattle.library_read.specs.Libraries.{library_of}
use Rattle.library_read.specs.Limits.{LibraryPasses}
use Rattle.type_print.specs.Structures.{IsFirstTagged}
use Rattle.library_layout.specs.Command.{layout_asks, layout_passes}
use Rattle.library_layout.specs.Limits.{LayoutPasses, LettersPass, TagPasses}

pub tag_passes : (nodes : List PlainNode) (tag : List ℕ) (number bytes : ℕ) (view : PlainView) (e : NoMemory) → IsFirstTagged nodes tag number → view ≡ view_at nodes number
    → OnLimit e (LettersPass view.parts bytes) → OnLimit e (TagPasses nodes tag bytes)
tag_passes nodes tag number bytes view e tagged is h =
    on_limit_weaker e (LettersPass (view_at nodes number).parts bytes) (TagPasses nodes tag bytes) (λ l p. (number, tagged, p))
    (subst (λ (v : PlainView). OnLimit e (LettersPass v.parts bytes)) is h)

-- what stops the reading of the library stops the command
pub reading_passes : (library tag : List ℕ) (s : Stop) → StopsOn Library (library_fault library) (LibraryPasses library) s → StopsAt layout_asks (layout_passes tag) (library ∷ []) s
reading_passes library tag s h = stops_here Library library_fault [] (layout_passes tag) library [] (LibraryPasses library) (λ l p. inl p) s h

pub tag_passes_in : (library tag : List ℕ) (read : PlainLibrary) (nodes : List PlainNode) (bytes : ℕ) (e : NoMemory) → read ≡ library_of library → nodes ≡ read.graph → bytes ≡ length library
    → OnLimit e (TagPasses nodes tag bytes) → OnLimit e (LayoutPasses library tag)
tag_passes_in library tag read nodes bytes e is graph size h =
    let one = subst (λ (ns : List PlainNode). OnLimit e (TagPasses ns tag bytes)) (graph ∙ ap (λ (r : PlainLibrary). r.graph) is) h in
    on_limit_weaker e (TagPasses (library_of library).graph tag (length library)) (LayoutPasses library tag) (λ l p. inr p)
    (subst (λ (n : ℕ). OnLimit e (TagPasses (library_of library).graph tag n)) size one)
