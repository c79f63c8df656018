-- Entries of directories and files by their numbers, and names by a header that is whole.
use Rattle.std.proofs.Common.{◌≡◌, ◌+◌, ℕ, List, Option, Some, None, length, refl, sym, ap, ap₂}
use Rattle.std.specs.Prelude.{slice_get}
use Rattle.std.proofs.lemmas.Option.{same_Some}
use Rattle.abi_base.proofs.lemmas.Cases.{option_cases}
use Rattle.dwarf_files.specs.declared.entries.Entry.{Entry}
use Rattle.dwarf_files.specs.Heads.{head_of}
use Rattle.dwarf_files.specs.Names.{PlainHeader, directories_of, files_of, place_of, directory_of, file_of, name_of, header_by, file_name_of}
use Rattle.std.specs.Option.{option_map_or}
use Rattle.dwarf_files.specs.Programs.{LineProgram, name_in, header_of, listed, entry_count_of}
use Rattle.dwarf_files.specs.Steps.{◌>>=◌}

listed_at : (place : ℕ) (table : Option (List Entry × ℕ)) (entries : List Entry) → listed table ≡ Some entries → slice_get entries place ≡ (table >>= λ r. slice_get r.0 place)
listed_at place None entries is = absurd cc
listed_at place (Some r) entries is = ap (λ (xs : List Entry). slice_get xs place) (sym (same_Some r.0 entries is))

module _ (h : PlainHeader) (n : ℕ) where
  pub no_directory : None ≡ place_of h.version n → None ≡ directory_of h n
  unfolding directory_of
  no_directory is = rw (sym is) refl

  pub no_file : None ≡ place_of h.version n → None ≡ file_of h n
  unfolding file_of
  no_file is = rw (sym is) refl

  pub directory_is : (place : ℕ) (directories : List Entry) → listed (directories_of h) ≡ Some directories → Some place ≡ place_of h.version n → slice_get directories place ≡ directory_of h n
  unfolding directory_of
  directory_is place directories are is = rw (sym is) (listed_at place (directories_of h) directories are)

  pub file_is : (place : ℕ) (files : List Entry) → listed (files_of h) ≡ Some files → Some place ≡ place_of h.version n → slice_get files place ≡ file_of h n
  unfolding file_of
  file_is place files are is = rw (sym is) (listed_at place (files_of h) files are)

-- ---- names by a whole header

no_files : (h : PlainHeader) (n : ℕ) → files_of h ≡ None → name_of h n ≡ None
unfolding name_of file_of
no_files h n none = cases (place_of h.version n) refl
  where
    cases : (o : Option ℕ) → place_of h.version n ≡ o → name_of h n ≡ None
    cases None is = rw is refl
    cases (Some place) is = rw (is, none) refl

program_cases : (p : LineProgram) (n : ℕ) (whole : Option PlainHeader) → header_of p ≡ whole → (whole >>= λ h. name_of h n) ≡ name_in p n
unfolding header_of file_name_of
program_cases p n whole is =
    option_cases (head_of p.line p.at)
    (λ no. rw no (rw no at (ap (λ (o : Option PlainHeader). o >>= λ h. name_of h n) (sym is))))
    (λ head so. let h : PlainHeader = header_by p.line p.str p.line_str head in
    option_cases (files_of h)
    (λ no. let none = no_files h n no in rw (so, none) (rw (so, no) at (ap (λ (o : Option PlainHeader). o >>= λ h. name_of h n) (sym is))))
    (λ files there. rw so (rw (so, there) at (ap (λ (o : Option PlainHeader). o >>= λ h. name_of h n) (sym is)))))

pub no_name : (p : LineProgram) (n : ℕ) → None ≡ header_of p → None ≡ name_in p n
no_name p n is = program_cases p n None (sym is)

pub name_is : (p : LineProgram) (n : ℕ) (h : PlainHeader) → Some h ≡ header_of p → name_of h n ≡ name_in p n
name_is p n h is = program_cases p n (Some h) (sym is)

-- ---- how many entries there are

pub count_is : (h : PlainHeader) (directories files : List Entry) → listed (directories_of h) ≡ Some directories → listed (files_of h) ≡ Some files → length directories + length files ≡ entry_count_of h
count_is h directories files are others = sym (ap₂ (λ (a b : Option (List Entry)). option_map_or length a 0 + option_map_or length b 0) are others)
