-- The notes in a document: the sentences beside the answer.
use Rattle.std.specs.Prelude.{◌≡◌, ℕ, List, [], ◌∷◌, ◌++◌, Option, Some, None, codes, map}
use Rattle.commands.specs.Commands.{PlainFile}
use Rattle.commands.specs.declared.outcome.Outcome.{Outcome}
use Rattle.explain.specs.Notes.{Tells}
use Rattle.explain.specs.OtherInputs.{TellsOtherInput, other_input}
use Rattle.serde_json.specs.Data.{Data, Members, array, string, put}
use Rattle.serde_json.specs.View.{items_of}
use Rattle.document_head.specs.Heads.{HasMember}

-- one note, or none
abbrev pub noted : Option (List ℕ) → List (List ℕ)
noted None = []
noted (Some note) = note ∷ []

-- The sentences beside an answer: the notes on how the run ended, by the bytes of the input that has a fault, and the sentence on an
-- input that is not the one of its certificate, if the text says so.
pub record AreSentences (outcome : Outcome) (files : List PlainFile) (text : List ℕ) (sentences : List (List ℕ)) : Type 0 where
  pub bytes : List ℕ
  pub notes : List (List ℕ)
  pub tells : Tells outcome bytes (codes "reading failed") files notes
  pub other : Option (List ℕ)
  pub tells_other : TellsOtherInput files (other_input text) other
  pub are : sentences ≡ notes ++ noted other

-- texts as an array
abbrev pub texts_array : List (List ℕ) → Data
texts_array texts = array (items_of (map string texts))

-- the value is the array of these sentences
abbrev pub IsSentences : Outcome → List PlainFile → (text : List ℕ) → Data → Type 0
IsSentences outcome files text value = (sentences : List (List ℕ)) × AreSentences outcome files text sentences × (value ≡ texts_array sentences)

-- the member `notes` of a document
abbrev pub HasSentences : Outcome → List PlainFile → (text : List ℕ) (document : Data) → Type 0
HasSentences outcome files text document = (value : Data) × IsSentences outcome files text value × HasMember (codes "notes") value document

-- what the code adds, the last member first
pub record AddsNotes (outcome : Outcome) (files : List PlainFile) (text : List ℕ) (side_notes : Data) (old new : Members) : Type 0 where
  pub notes : Data
  pub are : IsSentences outcome files text notes
  pub is : new ≡ put (codes "side_notes") side_notes (put (codes "notes") notes old)
