-- The notes, the objects of the inputs and the facts about types among the members of a document.
use Rattle.std.proofs.Common.{◌≡◌, ◌∙◌, ℕ, List, refl, ap}
use Rattle.std.specs.Prelude.{codes}
use Rattle.commands.specs.Commands.{PlainFile}
use Rattle.commands.specs.declared.outcome.Outcome.{Outcome}
use Rattle.serde_json.specs.Data.{Data, Members, array, object, put}
use Rattle.serde_json.specs.Find.{get_member}
use Rattle.serde_json.specs.View.{items_of}
use Rattle.document_head.specs.Heads.{HasMember, with_all}
use Rattle.document_head.specs.Inputs.{AddsInputs, HasFacts, HasInputs, Shown, facts_value}
use Rattle.document_head.specs.Notes.{AddsNotes, HasSentences}
use Rattle.document_head.proofs.HeadLemmas.{inputs_put, kept_member, missing_put, notes_put, places_put, side_notes_put, types_put}

-- all of them, by what was there before
both : (outcome : Outcome) (shown : Shown) (files : List PlainFile) (text : List ℕ) (side : Data) (old noted new : Members)
    → (notes : AddsNotes outcome files text side old noted) → (adds : AddsInputs outcome shown files noted new)
    → new ≡ put (codes "inputs") (array (items_of adds.values)) (put (codes "types") (facts_value outcome adds.types) (put (codes "places") (facts_value outcome adds.places) (put (codes "side_notes") side (put (codes "notes") notes.notes old))))
both outcome shown files text side old noted new notes adds =
    adds.is ∙ ap (λ (ms : Members). put (codes "inputs") (array (items_of adds.values)) (put (codes "types") (facts_value outcome adds.types) (put (codes "places") (facts_value outcome adds.places) ms))) notes.is

pub side_notes_member : (command : List ℕ) (outcome : Outcome) (shown : Shown) (files : List PlainFile) (text : List ℕ) (value side : Data) (old noted new : Members)
    → AddsNotes outcome files text side old noted → AddsInputs outcome shown files noted new
    → HasMember (codes "side_notes") side (object (with_all command outcome value new))
side_notes_member command outcome shown files text value side old noted new notes adds =
    kept_member (codes "side_notes") side command outcome value new refl refl refl refl refl refl refl
    (ap (λ ms. get_member (codes "side_notes") ms) (both outcome shown files text side old noted new notes adds)
    ∙ side_notes_put (array (items_of adds.values)) (facts_value outcome adds.types) (facts_value outcome adds.places) side notes.notes old)

pub missing_member : (command : List ℕ) (outcome : Outcome) (shown : Shown) (files : List PlainFile) (text : List ℕ) (value side missing : Data) (empty old noted new : Members)
    → old ≡ put (codes "missing_side_notes") missing empty
    → AddsNotes outcome files text side old noted → AddsInputs outcome shown files noted new
    → HasMember (codes "missing_side_notes") missing (object (with_all command outcome value new))
missing_member command outcome shown files text value side missing empty old noted new first notes adds =
    kept_member (codes "missing_side_notes") missing command outcome value new refl refl refl refl refl refl refl
    (ap (λ ms. get_member (codes "missing_side_notes") ms)
    (both outcome shown files text side old noted new notes adds
    ∙ ap (λ (ms : Members). put (codes "inputs") (array (items_of adds.values)) (put (codes "types") (facts_value outcome adds.types) (put (codes "places") (facts_value outcome adds.places) (put (codes "side_notes") side (put (codes "notes") notes.notes ms))))) first)
    ∙ missing_put (array (items_of adds.values)) (facts_value outcome adds.types) (facts_value outcome adds.places) side notes.notes missing empty)

pub notes_member : (command : List ℕ) (outcome : Outcome) (shown : Shown) (files : List PlainFile) (text : List ℕ) (value side : Data) (old noted new : Members)
    → AddsNotes outcome files text side old noted → AddsInputs outcome shown files noted new
    → HasSentences outcome files text (object (with_all command outcome value new))
notes_member command outcome shown files text value side old noted new notes adds = (
  notes.notes,
  notes.are,
  kept_member (codes "notes") notes.notes command outcome value new refl refl refl refl refl refl refl
      (ap (λ ms. get_member (codes "notes") ms) (both outcome shown files text side old noted new notes adds)
      ∙ notes_put (array (items_of adds.values)) (facts_value outcome adds.types) (facts_value outcome adds.places) side notes.notes old),
)

pub inputs_member : (command : List ℕ) (outcome : Outcome) (shown : Shown) (files : List PlainFile) (value : Data) (old new : Members)
    → AddsInputs outcome shown files old new → HasInputs shown files (object (with_all command outcome value new))
inputs_member command outcome shown files value old new adds = (
  adds.values,
  adds.are,
  kept_member (codes "inputs") (array (items_of adds.values)) command outcome value new refl refl refl refl refl refl refl
      (ap (λ ms. get_member (codes "inputs") ms) adds.is ∙ inputs_put (array (items_of adds.values)) (facts_value outcome adds.types) (facts_value outcome adds.places) old),
)

pub types_member : (command : List ℕ) (outcome : Outcome) (shown : Shown) (files : List PlainFile) (value : Data) (old new : Members)
    → AddsInputs outcome shown files old new → HasFacts (codes "types") outcome (object (with_all command outcome value new))
types_member command outcome shown files value old new adds = (
  adds.types,
  kept_member (codes "types") (facts_value outcome adds.types) command outcome value new refl refl refl refl refl refl refl
      (ap (λ ms. get_member (codes "types") ms) adds.is ∙ types_put (array (items_of adds.values)) (facts_value outcome adds.types) (facts_value outcome adds.places) old),
)

pub places_member : (command : List ℕ) (outcome : Outcome) (shown : Shown) (files : List PlainFile) (value : Data) (old new : Members)
    → AddsInputs outcome shown files old new → HasFacts (codes "places") outcome (object (with_all command outcome value new))
places_member command outcome shown files value old new adds = (
  adds.places,
  kept_member (codes "places") (facts_value outcome adds.places) command outcome value new refl refl refl refl refl refl refl
      (ap (λ ms. get_member (codes "places") ms) adds.is ∙ places_put (array (items_of adds.values)) (facts_value outcome adds.types) (facts_value outcome adds.places) old),
)
