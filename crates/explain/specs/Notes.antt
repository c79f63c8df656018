-- The notes beside an answer, and which of them belong to which outcome.
use Rattle.std.specs.Prelude.{◌≡◌, ◌≢◌, ◌⊎◌, ◌==◌, ℕ, List, [], ◌∷◌, ◌++◌, All, Contains, Option, Some, None, codes, if◌then◌else◌}
use Rattle.std.specs.Str.{bytes_eq}
use Rattle.abi_base.specs.declared.remark.Remark.{Remark}
use Rattle.abi_base.specs.declared.remark.SizedExports.{SizedExports}
use Rattle.commands.specs.Commands.{PlainFile}
use Rattle.commands.specs.declared.input.Input.{Input}
use Rattle.commands.specs.declared.input.Input.TheVariants.{Old, New, Certificate, Certificate1, Certificate2, First, Last}
use Rattle.explain.specs.Limits.{memory_sentence}
use Rattle.commands.specs.declared.outcome.Outcome.{Outcome}
use Rattle.commands.specs.declared.outcome.Outcome.TheVariants.{Judged, Unreadable, ReadFault, Help, Usage, NoMemory, WriteFault}
use Rattle.commands.specs.declared.verdict.Verdict.{Verdict}
use Rattle.commands.specs.declared.verdict.Verdict.TheVariants.{Yes, No, Done, Refused}
use Rattle.explain.specs.Sentences.{SaysFault, loses_types, lost_words, refused_words, said_of, sizeless_words, uncomposed_words, untyped_words}

-- the input was read under this name
abbrev pub IsReadUnder : List PlainFile → Input → List ℕ → Type 0
IsReadUnder files which name = Contains files (which, name)

-- the input was not read under a name
abbrev pub IsUnnamed : List PlainFile → Input → Type 0
IsUnnamed files which = All (λ (file : PlainFile). file.0 ≢ which) files

-- P holds for a name under which the input was read, or there is none and Q holds
abbrev pub OnName : List PlainFile → Input → (List ℕ → Type 0) → Type 0 → Type 0
OnName files which P Q = ((name : List ℕ) × IsReadUnder files which name × P name) ⊎ (IsUnnamed files which × Q)

-- the note on a library, if some of its exports have no type
abbrev pub untyped_notes : List ℕ → SizedExports → List (List ℕ)
untyped_notes path exports = if exports.untyped == 0 then [] else said_of path (untyped_words exports) ∷ []

-- the notes on two libraries; a library that is compared with itself is noted once
abbrev pub both_untyped : Remark → List ℕ → List ℕ → List (List ℕ)
both_untyped remark old new = untyped_notes old remark.old ++ (if bytes_eq old new then [] else untyped_notes new remark.new)

-- the note on a new library, if it lost all types
abbrev pub lost_notes : Remark → (old new : List ℕ) → List (List ℕ)
lost_notes remark old new = if loses_types remark then said_of new (lost_words old) ∷ [] else []

-- the note on a library, if none of its exports has a size
abbrev pub sizeless_notes : List ℕ → SizedExports → List (List ℕ)
sizeless_notes path exports = if exports.all == 0 then said_of path sizeless_words ∷ [] else []

-- the notes on what was compared without types
abbrev pub compared_notes : Remark → (old new : List ℕ) → List (List ℕ)
compared_notes remark old new = both_untyped remark old new ++ lost_notes remark old new ++ sizeless_notes old remark.old

-- there is one note, and P holds for it
abbrev pub IsOne : List (List ℕ) → (List ℕ → Type 0) → Type 0
IsOne notes P = (note : List ℕ) × (notes ≡ note ∷ []) × P note

-- the note on two certificates that do not compose
abbrev pub TellsUncomposed : List PlainFile → List (List ℕ) → Type 0
TellsUncomposed files notes = OnName files Certificate1 (λ one. OnName files Certificate2 (λ two. OnName files First (λ first. OnName files Last (λ last.
    notes ≡ said_of one (uncomposed_words two first last) ∷ []) (notes ≡ [])) (notes ≡ [])) (notes ≡ [])) (notes ≡ [])

-- the notes on a refusal: on the certificate, or on both; a tag that no structure has is not noted here
abbrev pub TellsRefused : List PlainFile → List (List ℕ) → Type 0
TellsRefused files notes = OnName files Certificate (λ certificate. OnName files Old (λ old. OnName files New (λ new.
    notes ≡ said_of certificate (refused_words old new) ∷ []) (notes ≡ [])) (notes ≡ [])) (TellsUncomposed files notes)

-- the notes on two compared libraries
abbrev pub TellsCompared : Option Remark → List PlainFile → List (List ℕ) → Type 0
TellsCompared (Some remark) files notes = OnName files Old (λ old. OnName files New (λ new. notes ≡ compared_notes remark old new) (notes ≡ [])) (notes ≡ [])
TellsCompared None files notes = notes ≡ []

-- the notes on a verdict
abbrev pub TellsJudged : Verdict → Option Remark → List PlainFile → List (List ℕ) → Type 0
TellsJudged Refused remark files notes = TellsRefused files notes
TellsJudged Yes remark files notes = TellsCompared remark files notes
TellsJudged No remark files notes = TellsCompared remark files notes
TellsJudged Done remark files notes = TellsCompared remark files notes

-- The notes on an outcome: on exports without a type, on a refused certificate, on the fault of an input with these bytes, or on the
-- cause of a failure. `reason` says why the reading of an input failed.
abbrev pub Tells : Outcome → (bytes reason : List ℕ) → List PlainFile → List (List ℕ) → Type 0
Tells (Judged verdict remark) bytes reason files notes = TellsJudged verdict remark files notes
Tells (Unreadable which fault) bytes reason files notes = OnName files which (λ path. IsOne notes (SaysFault path fault bytes)) (notes ≡ [])
Tells (ReadFault which) bytes reason files notes = OnName files which (λ path. notes ≡ said_of path reason ∷ []) (notes ≡ [])
Tells (NoMemory cause) bytes reason files notes = notes ≡ memory_sentence cause ∷ []
Tells WriteFault bytes reason files notes = notes ≡ codes "writing failed" ∷ []
Tells Help bytes reason files notes = notes ≡ []
Tells Usage bytes reason files notes = notes ≡ []
