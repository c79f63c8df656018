-- Names of sections: whether one ends, what it begins with and what it is, told without its end.
use Rattle.std.proofs.Common.{◌≡◌, ℕ, ◌+◌, ◌-◌, ◌<◌, ◌≤◌, Bool, true, false, List, length, take, drop, get_or, Option, Some, None, refl, sym, ◌∙◌, ap, inl, inr, arith, length-drop}
use Rattle.std.specs.Prelude.{is_none, min, ◌==◌, ◌&&◌, ◌||◌, ◌/◌, ◌%◌, slice_get, position}
use Rattle.std.specs.List.{position_or_len}
use Rattle.std.specs.Option.{option_map, option_map_or}
use Rattle.std.specs.Str.{bytes_eq}
use Rattle.std.proofs.lemmas.Bool.{cases_Bool, cases_lt, lt-ltb}
use Rattle.std.proofs.lemmas.Grind.{common_steps}
use Rattle.std.proofs.lemmas.List.{length-take, get_or-drop}
use Rattle.std.proofs.lemmas.List.Quantifiers.{position-Some}
use Rattle.std.proofs.lemmas.List.Sums.{fails_before_first}
use Rattle.std.proofs.lemmas.Option.{slice_get_within, get_or_from_slice_get, slice_get-get_or}
use Rattle.std.proofs.lemmas.Slice.Eq.{bytes_eq-Decides}
use Rattle.abi_base.specs.Numbers.{is_zero, text_at}
use Rattle.elf.specs.declared.file.records.SectionHeader.{SectionHeader}
use Rattle.elf.specs.declared.file.records.SectionTable.{SectionTable}
use Rattle.elf.specs.file.Elf.{table, section, contents, section_name, compressed_fault, starts, is_compressed}
use Rattle.abi_base.specs.Elf.{shf_compressed, debug_prefix, zdebug_prefix}

-- a text ends where a 0 byte stands behind its place
pub ends_before : (names : List ℕ) (at k : ℕ) → slice_get names k ≡ Some 0 → at ≤ k → is_none (text_at names at) ≡ false
unfolding text_at
ends_before names at k zero le =
    let rest = drop at names in
    let inside : k < length names = slice_get_within names k 0 zero in
    let there : get_or rest (k - at) 1 ≡ 0 = get_or-drop at names (k - at) 1 ∙ (let same : at + (k - at) ≡ k = omega (arith, le) in rw same (get_or_from_slice_get names k 0 1 zero)) in
    let first : position_or_len is_zero rest ≤ k - at = elim (cases_lt (k - at) (position_or_len is_zero rest)) [
      | inl early ↦
          let fails : is_zero (get_or rest (k - at) 1) ≡ false = fails_before_first is_zero rest (k - at) 1 early in
          absurd (let two : true ≡ false = rw there at fails in cc)
      | inr late ↦ late
    ] in
    let within : position_or_len is_zero rest < length rest = omega (arith, first, inside, le, length-drop at names) in
    rw (lt-ltb (position_or_len is_zero rest) (length rest) within) refl

-- behind a text stands a 0 byte
pub ends_behind : (names name : List ℕ) (at : ℕ) → option_map_or is_zero (slice_get names (at + length name)) false ≡ false
    → option_map_or (λ n. bytes_eq n name) (text_at names at) false ≡ false
unfolding text_at
ends_behind names name at other = cases (position is_zero (drop at names)) refl
  where
    cases : (p : Option ℕ) → position is_zero (drop at names) ≡ p → option_map_or (λ n. bytes_eq n name) (option_map (λ len. take len (drop at names)) (position is_zero (drop at names))) false ≡ false
    cases None is = rw is refl
    cases (Some len) is = rw is (elim (cases_Bool (bytes_eq (take len (drop at names)) name)) [
      | inl same ↦
          let found = position-Some is_zero (drop at names) len 1 is in
          let equal : take len (drop at names) ≡ name = (bytes_eq-Decides (take len (drop at names)) name).0 same in
          let long : length name ≡ len = ap length (sym equal) ∙ length-take len (drop at names) ∙ omega (arith, found.0) in
          let byte : is_zero (get_or names (at + len) 1) ≡ true = rw (get_or-drop at names len 1) at found.1 in
          let inside : at + len < length names = omega (arith, found.0, length-drop at names) in
          absurd (let two : true ≡ false = rw (long, slice_get-get_or names (at + len) 1 inside, byte) at other in cc)
      | inr differs ↦ differs
    ])

starts_more : (k : ℕ) (rest prefix : List ℕ) → starts (take k rest) prefix ≡ true → starts rest prefix ≡ true
starts_more k rest prefix passes =
    let same : take (length prefix) (take k rest) ≡ prefix = (bytes_eq-Decides (take (length prefix) (take k rest)) prefix).0 passes in
    let whole : take (length prefix) rest ≡ prefix = elim (cases_lt k (length prefix)) [
      | inl short ↦ absurd (let long : min (length prefix) (min k (length rest)) ≡ length prefix = grind (arith, common_steps, same) in omega (arith, long, short))
      | inr le ↦ let less : min (length prefix) k ≡ length prefix = omega (arith, le) in grind (arith, common_steps, same, less)
    ] in
    (bytes_eq-Decides (take (length prefix) rest) prefix).1 whole

or_true : (a : Bool) → (a || true) ≡ true
or_true true = refl
or_true false = refl

more : (a b d c e : Bool) → (a ≡ true → c ≡ true) → (d ≡ true → e ≡ true) → ((a && b) || d) ≡ true → ((c && b) || e) ≡ true
more true true d c e f g h = rw (f refl) refl
more true false true c e f g h = rw (g refl) (or_true (c && false))
more true false false c e f g h = absurd cc
more false b true c e f g h = rw (g refl) (or_true (c && b))
more false b false c e f g h = absurd cc

compressed_more : (k flags : ℕ) (rest : List ℕ) → is_compressed (take k rest) flags ≡ true → is_compressed rest flags ≡ true
compressed_more k flags rest passes =
    more (starts (take k rest) debug_prefix) ((flags / shf_compressed) % 2 == 1) (starts (take k rest) zdebug_prefix) (starts rest debug_prefix) (starts rest zdebug_prefix)
    (starts_more k rest debug_prefix) (starts_more k rest zdebug_prefix) passes

-- what begins with a prefix still does with more bytes behind
pub plain_before : (names : List ℕ) (at flags : ℕ) → is_compressed (drop at names) flags ≡ false → option_map_or (λ n. is_compressed n flags) (text_at names at) false ≡ false
unfolding text_at
plain_before names at flags plain = cases (position is_zero (drop at names)) refl
  where
    cases : (p : Option ℕ) → position is_zero (drop at names) ≡ p → option_map_or (λ n. is_compressed n flags) (option_map (λ len. take len (drop at names)) (position is_zero (drop at names))) false ≡ false
    cases None is = rw is refl
    cases (Some len) is = rw is (elim (cases_Bool (is_compressed (take len (drop at names)) flags)) [
      | inl passes ↦ absurd (let two : true ≡ false = sym (compressed_more len flags (drop at names) passes) ∙ plain in cc)
      | inr differs ↦ differs
    ])

-- a section without a name that is compressed has no fault
pub plain_fault : (f names rest : List ℕ) (i : ℕ) (header : SectionHeader) (sections : SectionTable) → sections ≡ table f → names ≡ contents f sections.names → header ≡ section f i
    → rest ≡ drop header.name names → is_compressed rest header.flags ≡ false → None ≡ compressed_fault f i
unfolding compressed_fault section_name
plain_fault f names rest i header sections t n h r plain =
    let raw : is_compressed (drop (section f i).name (contents f (table f).names)) (section f i).flags ≡ false = rw (r, h, n, t) at plain in
    rw (plain_before (contents f (table f).names) (section f i).name (section f i).flags raw) refl

-- a byte that was read and is 0
pub zero_at : (names : List ℕ) (k : ℕ) → k < length names → get_or names k 0 ≡ 0 → slice_get names k ≡ Some 0
zero_at names k inside is = slice_get-get_or names k 0 inside ∙ ap Some is
