-- What follows from the definition of an entry's place.
use Rattle.std.proofs.Common.{◌≡◌, ◌≢◌, ◌⊎◌, ℕ, List, Option, Some, None, refl, sym, ap, subst, arith, inl, inr, ◌∙◌}
use Rattle.std.specs.Prelude.{◌==◌}
use Rattle.std.proofs.lemmas.Option.{same_Some}
use Rattle.abi_base.proofs.lemmas.Cases.{option_cases, bool_cases}
use Rattle.dwarf_tree.specs.Trees.{PlainTree, entry_at, entry_of, own_of, root_of}
use Rattle.dwarf_files.specs.Names.{file_name_of, joined}
use Rattle.entry_places.specs.declared.coordinates.Coordinates.{Coordinates}
use Rattle.entry_places.specs.Coordinates.{DebugBytes, PlainPlace, entries_in, number_of, section_offset_of, if_given, coordinates_of, directory_of, in_directory, file_of, place_of}
use Rattle.entry_places.specs.Made.{IsMade}

-- ---- entries without a place

no_coordinates : (s : DebugBytes) (offset : ℕ) → coordinates_of (entries_in s) offset ≡ None → place_of s offset ≡ None
unfolding place_of
no_coordinates s offset is = rw is refl

without_entry : (t : PlainTree) (offset : ℕ) → entry_of t offset ≡ None → coordinates_of t offset ≡ None
unfolding coordinates_of
without_entry t offset is = rw is refl

without_file : (t : PlainTree) (offset e : ℕ) → entry_of t offset ≡ Some e → own_of t e 0x3a ≡ None → coordinates_of t offset ≡ None
unfolding coordinates_of
without_file t offset e is none = rw (is, none) refl

without_line : (t : PlainTree) (offset e : ℕ) → entry_of t offset ≡ Some e → own_of t e 0x3b ≡ None → coordinates_of t offset ≡ None
unfolding coordinates_of
without_line t offset e is none =
    option_cases (number_of (own_of t e 0x3a)) (λ no. rw (is, no) refl) (λ file so. rw (is, so, none) refl)

at_line_0 : (t : PlainTree) (offset e : ℕ) → entry_of t offset ≡ Some e → number_of (own_of t e 0x3b) ≡ Some 0 → coordinates_of t offset ≡ None
unfolding coordinates_of
at_line_0 t offset e is zero =
    option_cases (number_of (own_of t e 0x3a)) (λ no. rw (is, no) refl) (λ file so. rw (is, so, zero) refl)

pub no_entry : (s : DebugBytes) (offset : ℕ) → entry_of (entries_in s) offset ≡ None → place_of s offset ≡ None
no_entry s offset is = no_coordinates s offset (without_entry (entries_in s) offset is)

pub no_file : (s : DebugBytes) (offset e : ℕ) → entry_of (entries_in s) offset ≡ Some e → own_of (entries_in s) e 0x3a ≡ None → place_of s offset ≡ None
no_file s offset e is none = no_coordinates s offset (without_file (entries_in s) offset e is none)

pub no_line : (s : DebugBytes) (offset e : ℕ) → entry_of (entries_in s) offset ≡ Some e → own_of (entries_in s) e 0x3b ≡ None → place_of s offset ≡ None
no_line s offset e is none = no_coordinates s offset (without_line (entries_in s) offset e is none)

pub line_0 : (s : DebugBytes) (offset e : ℕ) → entry_of (entries_in s) offset ≡ Some e → number_of (own_of (entries_in s) e 0x3b) ≡ Some 0 → place_of s offset ≡ None
line_0 s offset e is zero = no_coordinates s offset (at_line_0 (entries_in s) offset e is zero)

-- ---- what a place is made of

-- what the entry says
record Says (t : PlainTree) (offset : ℕ) (c : Coordinates) : Type 0 where
  pub e : ℕ
  pub begins : entry_of t offset ≡ Some e
  pub file : number_of (own_of t e 0x3a) ≡ Some c.file
  pub line : number_of (own_of t e 0x3b) ≡ Some c.line
  pub given : c.line ≢ 0
  pub unit : (entry_at t e).unit ≡ c.unit

given_one : (n line : ℕ) → if_given n ≡ Some line → (n ≡ line) × (line ≢ 0)
given_one n line h =
    bool_cases (n == 0)
    (λ zero. absurd (let g = rw zero at h in cc))
    (λ other. let same = same_Some n line (rw other at h) in (same, rw (sym same) (grind arith)))

says : (t : PlainTree) (offset : ℕ) (c : Coordinates) → coordinates_of t offset ≡ Some c → Says t offset c
unfolding coordinates_of
says t offset c h =
    option_cases (entry_of t offset) (λ no. absurd (let g = rw no at h in cc)) (λ e begins.
    let h1 = rw begins at h in
    option_cases (number_of (own_of t e 0x3a)) (λ no. absurd (let g = rw no at h1 in cc)) (λ file fi.
    let h2 = rw fi at h1 in
    option_cases (number_of (own_of t e 0x3b)) (λ no. absurd (let g = rw no at h2 in cc)) (λ number nu.
    let h3 = rw nu at h2 in
    option_cases (if_given number) (λ no. absurd (let g = rw no at h3 in cc)) (λ line li.
    let made : Coordinates = record { file = file; line = line; unit = (entry_at t e).unit } in
    let same = same_Some made c (rw li at h3) in
    let given = given_one number line li in
    subst (Says t offset) same
    (record { e = e; begins = begins; file = fi; line = nu ∙ ap (λ (n : ℕ). Some n) given.0; given = given.1; unit = refl })))))

-- what the unit says
record Names (s : DebugBytes) (t : PlainTree) (unit number : ℕ) (file : List ℕ) : Type 0 where
  pub root : ℕ
  pub program : ℕ
  pub name : List ℕ
  pub begins : root_of t unit ≡ Some root
  pub stands : section_offset_of (own_of t root 0x10) ≡ Some program
  pub named : file_name_of s.line s.str s.line_str program number ≡ Some name
  pub is : (file ≡ name) ⊎ ((directory : List ℕ) × (directory_of s t unit ≡ Some directory) × (file ≡ joined directory name))

inside : (known : Option (List ℕ)) (name file : List ℕ) → in_directory known name ≡ file
    → (file ≡ name) ⊎ ((directory : List ℕ) × (known ≡ Some directory) × (file ≡ joined directory name))
inside None name file h = inl (sym h)
inside (Some directory) name file h = inr (directory, refl, sym h)

names : (s : DebugBytes) (t : PlainTree) (unit number : ℕ) (file : List ℕ) → file_of s t unit number ≡ Some file → Names s t unit number file
unfolding file_of
names s t unit number file h =
    option_cases (root_of t unit) (λ no. absurd (let g = rw no at h in cc)) (λ root begins.
    let h1 = rw begins at h in
    option_cases (section_offset_of (own_of t root 0x10)) (λ no. absurd (let g = rw no at h1 in cc)) (λ program stands.
    let h2 = rw stands at h1 in
    option_cases (file_name_of s.line s.str s.line_str program number) (λ no. absurd (let g = rw no at h2 in cc)) (λ name named.
    record {
      root = root;
      program = program;
      name = name;
      begins = begins;
      stands = stands;
      named = named;
      is = inside (directory_of s t unit) name file (same_Some (in_directory (directory_of s t unit) name) file (rw named at h2));
    })))

made_by : (s : DebugBytes) (offset : ℕ) (c : Coordinates) (file : List ℕ) → Says (entries_in s) offset c → Names s (entries_in s) c.unit c.file file
    → IsMade s offset (record { file = file; line = c.line })
made_by s offset c file said named =
    record {
      e = said.e;
      root = named.root;
      number = c.file;
      program = named.program;
      name = named.name;
      begins = said.begins;
      file = said.file;
      line = said.line;
      given = said.given;
      unit = rw said.unit named.begins;
      stands = named.stands;
      named = named.named;
      is = rw said.unit named.is;
    }

pub made : (s : DebugBytes) (offset : ℕ) (place : PlainPlace) → place_of s offset ≡ Some place → IsMade s offset place
unfolding place_of
made s offset place h =
    option_cases (coordinates_of (entries_in s) offset) (λ no. absurd (let g = rw no at h in cc)) (λ c is.
    let h1 = rw is at h in
    option_cases (file_of s (entries_in s) c.unit c.file) (λ no. absurd (let g = rw no at h1 in cc)) (λ file so.
    let whole : PlainPlace = record { file = file; line = c.line } in
    subst (IsMade s offset) (same_Some whole place (rw so at h1))
    (made_by s offset c file (says (entries_in s) offset c is) (names s (entries_in s) c.unit c.file file so))))
