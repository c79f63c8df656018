-- The notes on needs, one after another.
use Rattle.std.proofs.Common.{◌≡◌, ◌<◌, ◌+◌, ℕ, List, [], ◌∷◌, ◌++◌, length, map, take, get_or, Option, sym, ◌∙◌, ap}
use Rattle.std.specs.Prelude.{codes}
use Rattle.std.proofs.lemmas.List.{append_assoc, map-append, take_more}
use Rattle.new_needs.specs.declared.kept.Needed.{Needed}
use Rattle.new_needs.specs.Needed.{PlainNeeded, PlainNeeds}
use Rattle.new_needs.specs.Plain.{plain_all, plain_needed}
use Rattle.type_notes.specs.declared.note.Note.{Note}
use Rattle.type_notes.specs.declared.note.NoteKind.TheVariants.{NeedsLibrary, NeedsVersion, NeedsSymbol}
use Rattle.side_notes.specs.declared.counts.Counts.{Counts}
use Rattle.side_notes.specs.AllNotes.{AreOfFiles, AreWithNeeds, needs_where}
use Rattle.side_notes.specs.CountsOfFiles.{counts_in}
use Rattle.side_notes.specs.Needs.{need_note, needs_notes, notes_on}

-- the notes on the first items of a list, with one more
pub notes_more : (f : PlainNeeded → Note) (list : List Needed) (i : ℕ) (d : Needed) (first before more : List Note) → i < length list
    → before ≡ first ++ map f (plain_all (take i list)) → more ≡ before ++ f (plain_needed (get_or list i d)) ∷ [] → more ≡ first ++ map f (plain_all (take (i + 1) list))
notes_more f list i d first before more lt so_far grown =
    let x : PlainNeeded = plain_needed (get_or list i d) in
    let step : map f (plain_all (take (i + 1) list)) ≡ map f (plain_all (take i list)) ++ f x ∷ [] =
    ap (λ (l : List Needed). map f (plain_all l)) (take_more list i d lt) ∙ ap (map f) (map-append plain_needed (take i list) (get_or list i d ∷ []))
    ∙ map-append f (plain_all (take i list)) (x ∷ []) in
    grown ∙ ap (λ (l : List Note). l ++ f x ∷ []) so_far ∙ append_assoc first (map f (plain_all (take i list))) (f x ∷ []) ∙ ap (λ (l : List Note). first ++ l) (sym step)

-- the notes of each kind, one kind after another
pub three_kinds : (before one two three : List Note) (needs : PlainNeeds) → one ≡ before ++ map (need_note NeedsLibrary (codes " of ")) needs.files
    → two ≡ one ++ map (need_note NeedsVersion (codes " of ")) needs.versions → three ≡ two ++ map (need_note NeedsSymbol (codes "@")) needs.symbols
    → three ≡ before ++ notes_on needs
unfolding notes_on
three_kinds before one two three needs files versions symbols =
    let a : List Note = map (need_note NeedsLibrary (codes " of ")) needs.files in
    let b : List Note = map (need_note NeedsVersion (codes " of ")) needs.versions in
    let d : List Note = map (need_note NeedsSymbol (codes "@")) needs.symbols in
    symbols ∙ ap (λ (l : List Note). l ++ d) versions ∙ ap (λ (l : List Note). (l ++ b) ++ d) files
    ∙ append_assoc (before ++ a) b d ∙ append_assoc before a (b ++ d) ∙ ap (λ (l : List Note). before ++ l) (sym (append_assoc a b d))

-- the notes on files, and then those on needs
pub with_needs : (old new rules : List ℕ) (before notes : List Note) (counts : Option Counts) → AreOfFiles old new rules before → counts ≡ counts_in old new rules
    → notes ≡ before ++ needs_where counts (needs_notes old new) → AreWithNeeds old new rules notes
with_needs old new rules before notes counts are counted is = record {
  before = before;
  are_before = are;
  are = is ∙ ap (λ (c : Option Counts). before ++ needs_where c (needs_notes old new)) counted;
}
