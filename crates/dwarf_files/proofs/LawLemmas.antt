-- What follows from the definition of a file's name.
use Rattle.std.proofs.Common.{◌≡◌, ◌≢◌, ◌⊎◌, ℕ, ◌+◌, false, List, [], ◌∷◌, ◌++◌, take, Option, Some, None, refl, sym, ap, arith, inl, inr}
use Rattle.std.specs.Prelude.{◌==◌, ◌&&◌}
use Rattle.std.proofs.lemmas.List.{take-append-le}
use Rattle.std.proofs.lemmas.Option.{same_Some}
use Rattle.abi_base.specs.Numbers.{number_at}
use Rattle.abi_base.proofs.lemmas.Cases.{option_cases, bool_cases}
use Rattle.dwarf_forms.specs.declared.values.Value.{Value}
use Rattle.dwarf_forms.specs.declared.values.Value.TheVariants as value
use Rattle.dwarf_files.proofs.FrontLemmas.{head_front}
use Rattle.dwarf_files.specs.declared.entries.Entry.{Entry}
use Rattle.dwarf_files.specs.declared.heads.Head.{Head}
use Rattle.dwarf_files.specs.Heads.{unit_end_of, length_place_of, lengths_of, head_of}
use Rattle.dwarf_files.specs.Names.{PlainHeader, directory_of, file_of, text_of, number_of_directory, directory_text_of, joined, whole_directory_of, name_by, name_of, header_by, file_name_of}
use Rattle.dwarf_files.specs.Standing.{Stands, IsDirectory, IsMadeOfTexts, IsMadeOfTextsAt}

-- ---- the places of the parts of a name

text_stands : (h : PlainHeader) (path : Option Value) (text : List ℕ) → text_of h path ≡ Some text → Stands h text
text_stands h (Some (value.Inline place)) text e = (place, inl e)
text_stands h (Some (value.StrOffset place)) text e = (place, inr (inl e))
text_stands h (Some (value.LineOffset place)) text e = (place, inr (inr e))
text_stands h (Some (value.Address n)) text e = absurd cc
text_stands h (Some (value.AddressIndex n)) text e = absurd cc
text_stands h (Some (value.Unsigned n)) text e = absurd cc
text_stands h (Some (value.Signed n)) text e = absurd cc
text_stands h (Some (value.Wide n)) text e = absurd cc
text_stands h (Some (value.Block n m)) text e = absurd cc
text_stands h (Some (value.StrIndex n)) text e = absurd cc
text_stands h (Some (value.Flag n)) text e = absurd cc
text_stands h (Some (value.Reference n)) text e = absurd cc
text_stands h (Some (value.Signature n)) text e = absurd cc
text_stands h (Some (value.SectionOffset n)) text e = absurd cc
text_stands h (Some (value.RangeIndex n)) text e = absurd cc
text_stands h (Some (value.LocationIndex n)) text e = absurd cc
text_stands h None text e = absurd cc

directory_text_stands : (h : PlainHeader) (n : ℕ) (text : List ℕ) → directory_text_of h n ≡ Some text → (text ≡ []) ⊎ Stands h text
unfolding directory_text_of
directory_text_stands h n text e =
    bool_cases (h.version == 4 && n == 0)
    (λ is. inl (sym (same_Some [] text (rw is at e))))
    (λ is. let e1 = rw is at e in
    option_cases (directory_of h n) (λ no. absurd (let g = rw no at e1 in cc))
    (λ entry so. inr (text_stands h entry.path text (rw so at e1))))

below_stands : (h : PlainHeader) (n : ℕ) (text : List ℕ) → (n == 0) ≡ false → directory_text_of h n ≡ Some text → Stands h text
unfolding directory_text_of
below_stands h n text other e =
    let is : (h.version == 4 && n == 0) ≡ false = grind (arith, other) in
    let e1 = rw is at e in
    option_cases (directory_of h n) (λ no. absurd (let g = rw no at e1 in cc))
    (λ entry so. text_stands h entry.path text (rw so at e1))

directory_stands : (h : PlainHeader) (n : ℕ) (directory : List ℕ) → whole_directory_of h n ≡ Some directory → IsDirectory h directory
unfolding whole_directory_of
directory_stands h n directory e =
    option_cases (directory_text_of h 0) (λ no. absurd (let g = rw no at e in cc)) (λ first is.
    let e1 = rw is at e in
    let there = directory_text_stands h 0 first is in
    bool_cases (n == 0)
    (λ zero. (first, there, inl (sym (same_Some first directory (rw zero at e1)))))
    (λ other. let e2 = rw other at e1 in
    option_cases (directory_text_of h n) (λ no. absurd (let g = rw no at e2 in cc)) (λ below so.
    (first, there, inr (below, below_stands h n below other so, sym (same_Some (joined first below) directory (rw so at e2)))))))

name_stands : (h : PlainHeader) (entry : Entry) (name : List ℕ) → name_by h entry ≡ Some name → IsMadeOfTexts h name
unfolding name_by
name_stands h entry name e =
    option_cases (text_of h entry.path) (λ no. absurd (let g = rw no at e in cc)) (λ own ia.
    let e1 = rw ia at e in
    option_cases (number_of_directory entry.directory) (λ no. absurd (let g = rw no at e1 in cc)) (λ number ib.
    let e2 = rw ib at e1 in
    option_cases (whole_directory_of h number) (λ no. absurd (let g = rw no at e2 in cc)) (λ directory ic.
    record {
      own = own;
      directory = directory;
      stands = text_stands h entry.path own ia;
      is_directory = directory_stands h number directory ic;
      is = sym (same_Some (joined directory own) name (rw ic at e2));
    })))

pub made_of_texts : (line str line_str : List ℕ) (at n : ℕ) (name : List ℕ) → file_name_of line str line_str at n ≡ Some name → IsMadeOfTextsAt line str line_str at name
unfolding file_name_of name_of
made_of_texts line str line_str at n name e =
    option_cases (head_of line at) (λ no. absurd (let g = rw no at e in cc)) (λ head is.
    let e1 = rw is at e in
    option_cases (file_of (header_by line str line_str head) n) (λ no. absurd (let g = rw no at e1 in cc)) (λ entry so.
    (head, is, name_stands (header_by line str line_str head) entry name (rw so at e1))))

pub absolute_stays : (directory others : List ℕ) → joined directory (47 ∷ others) ≡ 47 ∷ others
unfolding joined
absolute_stays directory others = refl

-- ---- headers that give no name

no_head : (line str line_str : List ℕ) (at n : ℕ) → head_of line at ≡ None → file_name_of line str line_str at n ≡ None
unfolding file_name_of
no_head line str line_str at n is = rw is refl

pub no_dwarf64 : (line str line_str : List ℕ) (at n : ℕ) → number_at 4 line at ≡ Some 0xffff_ffff → file_name_of line str line_str at n ≡ None
unfolding head_of
no_dwarf64 line str line_str at n is =
    let unit : unit_end_of line at ≡ None = rw is refl in
    let none : head_of line at ≡ None = rw unit refl in
    no_head line str line_str at n none

no_version_place : (version at : ℕ) → version ≢ 4 → version ≢ 5 → length_place_of version at ≡ None
no_version_place version at a b =
    let not_4 : (version == 4) ≡ false = grind arith in
    let not_5 : (version == 5) ≡ false = grind arith in
    rw (not_4, not_5) refl

pub no_other_version : (line str line_str : List ℕ) (at n version : ℕ) → number_at 2 line (at + 4) ≡ Some version → version ≢ 4 → version ≢ 5 → file_name_of line str line_str at n ≡ None
unfolding head_of
no_other_version line str line_str at n version is a b =
    let place = no_version_place version at a b in
    option_cases (unit_end_of line at)
    (λ no. let none : head_of line at ≡ None = rw no refl in no_head line str line_str at n none)
    (λ end so. let none : head_of line at ≡ None = rw (so, is, place) refl in no_head line str line_str at n none)

no_file_0 : (h : PlainHeader) → h.version ≡ 4 → name_of h 0 ≡ None
unfolding name_of file_of
no_file_0 h is = rw is refl

version_is : (line : List ℕ) (at version : ℕ) (head : Head) → number_at 2 line (at + 4) ≡ Some version → head_of line at ≡ Some head → head.version ≡ version
unfolding head_of
version_is line at version head is e =
    option_cases (unit_end_of line at) (λ no. absurd (let g = rw no at e in cc)) (λ end ia.
    let e1 = rw (ia, is) at e in
    option_cases (length_place_of version at) (λ no. absurd (let g = rw no at e1 in cc)) (λ place ib.
    let e2 = rw ib at e1 in
    option_cases (lengths_of line place end) (λ no. absurd (let g = rw no at e2 in cc)) (λ lengths ic.
    let made : Head = record { version = version; tables = lengths.0; end = lengths.1 } in
    sym (ap (λ (x : Head). x.version) (same_Some made head (rw ic at e2))))))

pub no_first_file : (line str line_str : List ℕ) (at : ℕ) → number_at 2 line (at + 4) ≡ Some 4 → file_name_of line str line_str at 0 ≡ None
unfolding file_name_of
no_first_file line str line_str at is =
    option_cases (head_of line at) (λ no. rw no refl)
    (λ head so. rw so (no_file_0 (header_by line str line_str head) (version_is line at 4 head is so)))

-- ---- the bytes after a header

pub same_header : (line other str line_str : List ℕ) (at n : ℕ) (head : Head) → head_of line at ≡ Some head → head_of other at ≡ Some head → take head.end line ≡ take head.end other
    → file_name_of line str line_str at n ≡ file_name_of other str line_str at n
unfolding file_name_of
same_header line other str line_str at n head is so same = rw (is, so, same) refl

pub appended : (line others str line_str : List ℕ) (at n : ℕ) (name : List ℕ) → file_name_of line str line_str at n ≡ Some name → file_name_of (line ++ others) str line_str at n ≡ Some name
unfolding file_name_of
appended line others str line_str at n name h =
    option_cases (head_of line at) (λ no. absurd (let g = rw no at h in cc)) (λ head is.
    let front = head_front line others at head is in
    let same = take-append-le head.end line others front.0 in
    rw (front.1, same) (rw is at h))
