-- Exports that are given their types, and the entries that these are.
use Rattle.std.proofs.Common.{◌≡◌, ◌<◌, ◌≤◌, ◌+◌, ◌*◌, ℕ, zero, suc, Bool, true, false, cond, List, [], ◌∷◌, length, map, get_or, Option, Some, None, refl, sym, ap, ◌∙◌, arith}
use Rattle.std.specs.Prelude.{slice_get, find, All, Contains}
use Rattle.std.specs.List.{filter_map, cons_option, range_with_len}
use Rattle.std.specs.Option.{option_map, option_map_or}
use Rattle.std.proofs.lemmas.List.Elements.{All-nil, All-cons, All-contains}
use Rattle.std.proofs.lemmas.Option.{slice_get-map}
use Rattle.abi_base.proofs.lemmas.Options.{some_same}
use Rattle.abi_base.proofs.lemmas.Contained.{at_front, in_rest}
use Rattle.abi_base.specs.Elf.{sym_size}
use Rattle.abi_base.specs.Limits.{input_limit}
use Rattle.abi_types.specs.Exports.{PlainExport}
use Rattle.abi_types.specs.Libraries.{AreNumbered}
use Rattle.abi_types.specs.Limits.{symbol_limit}
use Rattle.dwarf_entries.specs.Addresses.{is_typed_at, typed_of}
use Rattle.dwarf_entries.specs.Debug.{PlainDwarf}
use Rattle.elf.specs.file.Elf.{section_view}
use Rattle.elf.specs.symbols.Symbols.{symbol_fault, symbol_table, symbols_of}
use Rattle.library_read.specs.Debug.{debug_of}
use Rattle.library_read.specs.Exports.{entry_for, has_address, typed, roots_among, typed_exports_of, untyped_exports_of, symbol_versions}
use Rattle.library_read.proofs.DebugLemmas.{contents-small}
use Rattle.library_read.proofs.NumberLemmas.{exports-numbered}

-- ---- the order of exports stays

typed-symbol : (d : PlainDwarf) (e : PlainExport) → (typed d e).symbol ≡ e.symbol
unfolding typed
typed-symbol d e = refl

pub record IsMapped {X Y : Type 0} (f : X → Y) (o : Option X) (y : Y) : Type 0 where
  pub from : X
  pub there : o ≡ Some from
  pub is : f from ≡ y

pub mapped : {X Y : Type 0} (f : X → Y) (o : Option X) (y : Y) → option_map f o ≡ Some y → IsMapped f o y
mapped f None y is = absurd cc
mapped f (Some x) y is = record { from = x; there = refl; is = cc }

typed-from : (d : PlainDwarf) (es : List PlainExport) (k : ℕ) (e : PlainExport) → slice_get (map (typed d) es) k ≡ Some e → IsMapped (typed d) (slice_get es k) e
typed-from d es k e at = mapped (typed d) (slice_get es k) e (sym (slice_get-map (typed d) es k) ∙ at)

symbol-from : (d : PlainDwarf) (o : Option PlainExport) (e : PlainExport) (is : IsMapped (typed d) o e) → e.symbol ≡ is.from.symbol
symbol-from d o e is = ap (λ (x : PlainExport). x.symbol) (sym is.is) ∙ typed-symbol d is.from

pub typed-numbered : (d : PlainDwarf) (es : List PlainExport) → AreNumbered es → AreNumbered (map (typed d) es)
typed-numbered d es numbered = record {
  ascend = λ j k e g lt at there.
      let first = typed-from d es j e at in
      let second = typed-from d es k g there in
      omega (arith, numbered.ascend j k first.from second.from lt first.there second.there, symbol-from d (slice_get es j) e first, symbol-from d (slice_get es k) g second);
  below = λ k e at.
      let first = typed-from d es k e at in
      omega (arith, numbered.below k first.from first.there, symbol-from d (slice_get es k) e first);
}

-- ---- there are few symbols

table-small : (f : List ℕ) (o : Option ℕ) → length (option_map_or (λ s. s.bytes) (option_map (section_view f) o) []) ≤ length f
table-small f None = omega arith
table-small f (Some i) = contents-small f i

-- what the law of symbols promises
abbrev pub FillTheirTable : Type 0
FillTheirTable = (f : List ℕ) → symbol_fault f ≡ None → sym_size * length (symbols_of f) ≡ length (symbol_table f)

symbols-few : FillTheirTable → (f : List ℕ) → length f ≤ input_limit → symbol_fault f ≡ None → length (symbols_of f) ≤ symbol_limit
unfolding symbol_limit
symbols-few whole f small none =
    let table : length (symbol_table f) ≤ length f = table-small f _ in
    omega (arith, whole f none, table)

abbrev pub AreNumberedByPlace : Type 0
AreNumberedByPlace = (f : List ℕ) → map (λ s. s.number) (symbols_of f) ≡ range_with_len 0 (length (symbols_of f))

pub file-numbered : FillTheirTable → AreNumberedByPlace → (f : List ℕ) → length f ≤ input_limit → symbol_fault f ≡ None → AreNumbered (typed_exports_of f)
unfolding typed_exports_of untyped_exports_of
file-numbered whole places f small none =
    typed-numbered (debug_of f) (untyped_exports_of f) (exports-numbered (symbol_versions f) (symbols_of f) (symbols-few whole f small none) (places f))

-- ---- the entries of exports are roots

given_first : {X Y : Type 0} (h : X → Option Y) (x : X) (y : Y) (ys : List Y) → h x ≡ Some y → Contains (cons_option (h x) ys) y
given_first h x y ys is = rw is (at_front y ys)

given_later : {Y : Type 0} (o : Option Y) (y : Y) (ys : List Y) → Contains ys y → Contains (cons_option o ys) y
given_later None y ys has = has
given_later (Some x) y ys has = in_rest x ys y has

-- what is given at a place of a list is among all that is given
pub given-at : {X Y : Type 0} (h : X → Option Y) (xs : List X) (k : ℕ) (d : X) (y : Y) → k < length xs → h (get_or xs k d) ≡ Some y → Contains (filter_map h xs) y
given-at h [] k d y lt is = absurd (omega arith)
given-at h (x ∷ xs) zero d y lt is = given_first h x y (filter_map h xs) is
given-at h (x ∷ xs) (suc k) d y lt is = given_later (h x) y (filter_map h xs) (given-at h xs k d y (omega arith) is)

-- and nothing else is
given_step : {Y : Type 0} (P : Y → Type 0) (o : Option Y) (ys : List Y) → ((y : Y) → o ≡ Some y → P y) → All P ys → All P (cons_option o ys)
given_step P None ys each all = all
given_step P (Some y) ys each all = All-cons P y ys (each y refl) all

pub given-all : {X Y : Type 0} (h : X → Option Y) (P : Y → Type 0) → ((x : X) (y : Y) → h x ≡ Some y → P y) → (xs : List X) → All P (filter_map h xs)
given-all h P each [] = All-nil P
given-all h P each (x ∷ xs) = given_step P (h x) (filter_map h xs) (each x) (given-all h P each xs)

-- the entry that stands for an address is an entry
found_step : (b : Bool) (a n i : ℕ) (rest : Option ℕ) → cond b (Some a) rest ≡ Some i → (rest ≡ Some i → i < a + 1 + n) → i < a + suc n
found_step true a n i rest is later = let same : a ≡ i = some_same a i is in omega arith
found_step false a n i rest is later = omega (arith, later is)

find-inside : (p : ℕ → Bool) (a n i : ℕ) → find p (range_with_len a n) ≡ Some i → i < a + n
find-inside p a zero i is = absurd cc
find-inside p a (suc n) i is = found_step (p a) a n i (find p (range_with_len (a + 1) n)) is (find-inside p (a + 1) n i)

typed-inside : (d : PlainDwarf) (address t : ℕ) → typed_of d address ≡ Some t → t < length d.tree.entries
unfolding typed_of
typed-inside d address t is = omega (arith, find-inside (is_typed_at d address) 0 (length d.tree.entries) t is)

entry_if : (d : PlainDwarf) (b : Bool) (address t : ℕ) → cond b (typed_of d address) None ≡ Some t → t < length d.tree.entries
entry_if d true address t is = typed-inside d address t is
entry_if d false address t is = absurd cc

pub entry-inside : (d : PlainDwarf) (e : PlainExport) (t : ℕ) → entry_for d e ≡ Some t → t < length d.tree.entries
unfolding entry_for
entry-inside d e t is = entry_if d (has_address e) e.value t is

pub roots-all : (d : PlainDwarf) (es : List PlainExport) → All (λ (e : ℕ). e < length d.tree.entries) (roots_among d es)
unfolding roots_among
roots-all d es = given-all (entry_for d) (λ (e : ℕ). e < length d.tree.entries) (entry-inside d) es

pub roots-inside : (d : PlainDwarf) (es : List PlainExport) (t : ℕ) → Contains (roots_among d es) t → t < length d.tree.entries
roots-inside d es t has = All-contains (λ (e : ℕ). e < length d.tree.entries) (roots_among d es) t (roots-all d es) has
