-- The first notes of a kind, one note after another.
use Rattle.std.proofs.Common.{◌≡◌, ◌<◌, ◌≤◌, ◌+◌, ℕ, true, false, ◌&&◌, if◌then◌else◌, List, [], ◌∷◌, ◌++◌, length, take, get_or, refl, sym, ◌∙◌, ap, inl, inr, ⊎_elim, min, arith}
use Rattle.std.specs.Prelude.{filter, flat_map, nat_lt}
use Rattle.std.proofs.lemmas.Bool.{cases_Bool, cases_lt, lt-ltb}
use Rattle.std.proofs.lemmas.List.{append-nil, append_assoc, length-append, length-take, take_all, take_more, take-append-le}
use Rattle.std.proofs.lemmas.List.Elements.{filter-append}
use Rattle.type_notes.specs.declared.note.Note.{Note}
use Rattle.type_notes.specs.declared.note.NoteKind.{NoteKind}
use Rattle.side_notes.specs.NoteTexts.{counted_to, first_lines, first_of, is_of, line_if, note_line}

-- the first ten of a list with one more item
first_push : (xs : List Note) (note : Note) → take 10 (xs ++ note ∷ []) ≡ take 10 xs ++ (if nat_lt (length (take 10 xs)) 10 then note ∷ [] else [])
first_push xs note = ⊎_elim
    (λ (few : length xs < 10).
    let all : take 10 xs ≡ xs = take_all 10 xs (omega arith) in
    let room : nat_lt (length xs) 10 ≡ true = lt-ltb (length xs) 10 few in
    let whole : take 10 (xs ++ note ∷ []) ≡ xs ++ note ∷ [] = take_all 10 (xs ++ note ∷ []) (let e = length-append xs (note ∷ []) in omega (arith, e)) in
    rw (all, room) whole)
    (λ (many : 10 ≤ length xs).
    let same : take 10 (xs ++ note ∷ []) ≡ take 10 xs = take-append-le 10 xs (note ∷ []) many in
    let full : length (take 10 xs) ≡ 10 = length-take 10 xs ∙ (let e : min 10 (length xs) ≡ 10 = omega arith in e) in
    let none : nat_lt (length (take 10 xs)) 10 ≡ false = ap (λ n. nat_lt n 10) full in
    rw none (same ∙ sym (append-nil (take 10 xs))))
    (cases_lt (length xs) 10)

abbrev one_more : NoteKind → ℕ → Note → List Note
one_more kind so_far note = if is_of kind note && nat_lt so_far 10 then note ∷ [] else []

first_of_push : (kind : NoteKind) (xs : List Note) (note : Note) → first_of kind (xs ++ note ∷ []) ≡ first_of kind xs ++ one_more kind (length (first_of kind xs)) note
first_of_push kind xs note = ap (take 10) (filter-append (is_of kind) xs (note ∷ [])) ∙ elim (cases_Bool (is_of kind note)) [
  | inl passes ↦ rw passes (first_push (filter (is_of kind) xs) note)
  | inr fails ↦ rw fails (ap (take 10) (append-nil (filter (is_of kind) xs)) ∙ sym (append-nil (first_of kind xs)))
]

lines_of_one : (kind : NoteKind) (so_far : ℕ) (note : Note) → flat_map note_line (one_more kind so_far note) ≡ line_if kind so_far note
lines_of_one kind so_far note = elim (cases_Bool (is_of kind note && nat_lt so_far 10)) [
  | inl passes ↦ rw passes (append-nil (note_line note))
  | inr fails ↦ rw fails refl
]

count_of_one : (kind : NoteKind) (so_far : ℕ) (note : Note) → so_far + length (one_more kind so_far note) ≡ counted_to kind so_far note
count_of_one kind so_far note = elim (cases_Bool (is_of kind note && nat_lt so_far 10)) [
  | inl passes ↦ rw passes refl
  | inr fails ↦ rw fails (omega arith)
]

flat_map-append : (f : Note → List ℕ) (xs ys : List Note) → flat_map f (xs ++ ys) ≡ flat_map f xs ++ flat_map f ys
flat_map-append f [] ys = refl
flat_map-append f (x ∷ xs) ys = ap (λ (zs : List ℕ). f x ++ zs) (flat_map-append f xs ys) ∙ sym (append_assoc (f x) (flat_map f xs) (flat_map f ys))

pub lines_more : (kind : NoteKind) (notes : List Note) (i : ℕ) (note : Note) (start text after : List ℕ) (so_far : ℕ) → i < length notes → note ≡ get_or notes i note
    → text ≡ start ++ first_lines kind (take i notes) → so_far ≡ length (first_of kind (take i notes)) → after ≡ text ++ line_if kind so_far note
    → after ≡ start ++ first_lines kind (take (i + 1) notes)
lines_more kind notes i note start text after so_far lt at is count grows =
    let xs = take i notes in
    let more : take (i + 1) notes ≡ xs ++ note ∷ [] = take_more notes i note lt ∙ ap (λ (x : Note). xs ++ x ∷ []) (sym at) in
    let one = ap (flat_map note_line) (first_of_push kind xs note) ∙ flat_map-append note_line (first_of kind xs) (one_more kind (length (first_of kind xs)) note)
    ∙ ap (λ (ls : List ℕ). first_lines kind xs ++ ls) (lines_of_one kind (length (first_of kind xs)) note) in
    grows ∙ ap (λ (t : List ℕ). t ++ line_if kind so_far note) is ∙ append_assoc start (first_lines kind xs) (line_if kind so_far note)
    ∙ ap (λ n. start ++ (first_lines kind xs ++ line_if kind n note)) count
    ∙ ap (λ (ls : List ℕ). start ++ ls) (sym one ∙ sym (ap (first_lines kind) more))

pub count_more : (kind : NoteKind) (notes : List Note) (i : ℕ) (note : Note) (so_far after : ℕ) → i < length notes → note ≡ get_or notes i note
    → so_far ≡ length (first_of kind (take i notes)) → after ≡ counted_to kind so_far note → after ≡ length (first_of kind (take (i + 1) notes))
count_more kind notes i note so_far after lt at count is =
    let xs = take i notes in
    let more : take (i + 1) notes ≡ xs ++ note ∷ [] = take_more notes i note lt ∙ ap (λ (x : Note). xs ++ x ∷ []) (sym at) in
    let one = ap length (first_of_push kind xs note) ∙ length-append (first_of kind xs) (one_more kind (length (first_of kind xs)) note) ∙ count_of_one kind (length (first_of kind xs)) note in
    is ∙ ap (λ n. counted_to kind n note) count ∙ sym (ap (λ (zs : List Note). length (first_of kind zs)) more ∙ one)
