-- Exports stand in the order of their symbols.
use Rattle.std.proofs.Common.{◌≡◌, ◌<◌, ◌≤◌, ◌+◌, ℕ, zero, suc, Bool, true, false, cond, List, [], ◌∷◌, length, map, Option, Some, None, refl, sym, ap, ◌∙◌, arith, subst}
use Rattle.std.specs.Prelude.{◌==◌, ◌&&◌, not, slice_get, All}
use Rattle.std.specs.List.{cons_option, range_with_len}
use Rattle.std.proofs.lemmas.List.Elements.{All-nil, All-cons, All-get_or}
use Rattle.std.proofs.lemmas.Option.{slice_get_within, get_or_from_slice_get}
use Rattle.abi_base.specs.GnuVersions.{ver_ndx_local}
use Rattle.abi_types.specs.Exports.{PlainExport}
use Rattle.abi_types.specs.Libraries.{AreNumbered}
use Rattle.abi_types.specs.Limits.{symbol_limit}
use Rattle.elf.specs.symbols.Symbols.{PlainSymbol, is_exported}
use Rattle.elf.specs.versions.Versions.{PlainVersion, version_in}
use Rattle.elf_bind.specs.Exports.{export_of, export_with, exports_with, is_marker}

-- ---- what an export is made of

-- an export is that of a symbol and its version
pub record IsMadeOf (s : PlainSymbol) (e : PlainExport) : Type 0 where
  pub version : PlainVersion
  pub is : e ≡ export_with s version

made_if : (b : Bool) (s : PlainSymbol) (v : PlainVersion) (e : PlainExport) → cond b (Some (export_with s v)) None ≡ Some e → IsMadeOf s e
made_if true s v e is = record { version = v; is = cc }
made_if false s v e is = absurd cc

pub made_of : (s : PlainSymbol) (v : Option PlainVersion) (e : PlainExport) → export_of s v ≡ Some e → IsMadeOf s e
made_of s None e is = absurd cc
made_of s (Some v) e is = made_if (is_exported s && not (v.index == ver_ndx_local) && not (is_marker s v)) s v e is

made-number : (s : PlainSymbol) (e : PlainExport) → IsMadeOf s e → e.symbol ≡ s.number
made-number s e made = ap (λ (x : PlainExport). x.symbol) made.is

-- ---- the numbers

-- the symbols of exports rise, and none is below a bound
pub RiseFrom : ℕ → List PlainExport → Type 0
RiseFrom low [] = Unit {0}
RiseFrom low (e ∷ es) = (low ≤ e.symbol) × RiseFrom (e.symbol + 1) es

rise-weaker : (low high : ℕ) (es : List PlainExport) → low ≤ high → RiseFrom high es → RiseFrom low es
unfolding RiseFrom
rise-weaker low high [] le rise = tt
rise-weaker low high (e ∷ es) le rise = (omega (arith, rise.0), rise.1)

rise-at : (low : ℕ) (es : List PlainExport) (k : ℕ) (e : PlainExport) → RiseFrom low es → slice_get es k ≡ Some e → low ≤ e.symbol
unfolding RiseFrom
rise-at low [] k e rise at = absurd cc
rise-at low (x ∷ xs) zero e rise at = let same : x ≡ e = cc in omega (arith, rise.0, ap (λ (y : PlainExport). y.symbol) same)
rise-at low (x ∷ xs) (suc k) e rise at = omega (arith, rise.0, rise-at (x.symbol + 1) xs k e rise.1 at)

rise-apart : (low : ℕ) (es : List PlainExport) (j k : ℕ) (e g : PlainExport) → RiseFrom low es → j < k → slice_get es j ≡ Some e → slice_get es k ≡ Some g → e.symbol < g.symbol
unfolding RiseFrom
rise-apart low [] j k e g rise lt at there = absurd cc
rise-apart low (x ∷ xs) j zero e g rise lt at there = absurd (omega arith)
rise-apart low (x ∷ xs) zero (suc k) e g rise lt at there = let same : x ≡ e = cc in omega (arith, rise-at (x.symbol + 1) xs k g rise.1 there, ap (λ (y : PlainExport). y.symbol) same)
rise-apart low (x ∷ xs) (suc j) (suc k) e g rise lt at there = rise-apart (x.symbol + 1) xs j k e g rise.1 (omega arith) at there

-- ---- exports of symbols that are numbered by their places

abbrev AreNumberedFrom : ℕ → List PlainSymbol → Type 0
AreNumberedFrom low symbols = map (λ (s : PlainSymbol). s.number) symbols ≡ range_with_len low (length symbols)

heads_same : (x y : ℕ) (xs ys : List ℕ) → x ∷ xs ≡ y ∷ ys → (x ≡ y) × (xs ≡ ys)
heads_same x y xs ys is = (cc, cc)

module _ (versions : List (Option PlainVersion)) where
  export_for : PlainSymbol → Option PlainExport
  export_for s = export_of s (version_in versions s.number)

  rise-step : (s : PlainSymbol) (low : ℕ) (es : List PlainExport) (o : Option PlainExport) → s.number ≡ low → ((e : PlainExport) → o ≡ Some e → IsMadeOf s e) → RiseFrom (low + 1) es → RiseFrom low (cons_option o es)
  unfolding RiseFrom
  rise-step s low es None number made rise = rise-weaker low (low + 1) es (omega arith) rise
  rise-step s low es (Some e) number made rise =
      let symbol : e.symbol ≡ low = made-number s e (made e refl) ∙ number in
      (omega (arith, symbol), subst (λ (n : ℕ). RiseFrom (n + 1) es) (sym symbol) rise)

  pub exports-rise : (low : ℕ) (symbols : List PlainSymbol) → AreNumberedFrom low symbols → RiseFrom low (exports_with symbols versions)
  unfolding RiseFrom
  exports-rise low [] numbered = tt
  exports-rise low (s ∷ symbols) numbered =
      let parts = heads_same s.number low (map (λ (s : PlainSymbol). s.number) symbols) (range_with_len (low + 1) (length symbols)) numbered in
      rise-step s low (exports_with symbols versions) (export_of s (version_in versions s.number)) parts.0 (made_of s (version_in versions s.number)) (exports-rise (low + 1) symbols parts.1)

  below-step : (s : PlainSymbol) (high : ℕ) (es : List PlainExport) (o : Option PlainExport) → s.number < high → ((e : PlainExport) → o ≡ Some e → IsMadeOf s e) → All (λ (e : PlainExport). e.symbol < high) es → All (λ (e : PlainExport). e.symbol < high) (cons_option o es)
  below-step s high es None number made below = below
  below-step s high es (Some e) number made below =
      let symbol = made-number s e (made e refl) in
      All-cons (λ (e : PlainExport). e.symbol < high) e es (omega (arith, symbol)) below

  exports-below : (low high : ℕ) (symbols : List PlainSymbol) → low + length symbols ≤ high → AreNumberedFrom low symbols → All (λ (e : PlainExport). e.symbol < high) (exports_with symbols versions)
  exports-below low high [] le numbered = All-nil (λ (e : PlainExport). e.symbol < high)
  exports-below low high (s ∷ symbols) le numbered =
      let parts = heads_same s.number low (map (λ (s : PlainSymbol). s.number) symbols) (range_with_len (low + 1) (length symbols)) numbered in
      below-step s high (exports_with symbols versions) (export_of s (version_in versions s.number)) (omega (arith, parts.0)) (made_of s (version_in versions s.number)) (exports-below (low + 1) high symbols (omega arith) parts.1)

  pub exports-numbered : (symbols : List PlainSymbol) → length symbols ≤ symbol_limit → AreNumberedFrom 0 symbols → AreNumbered (exports_with symbols versions)
  exports-numbered symbols few numbered =
      let rise = exports-rise 0 symbols numbered in
      let below = exports-below 0 symbol_limit symbols (omega arith) numbered in
      record {
        ascend = λ j k e g lt at there. rise-apart 0 (exports_with symbols versions) j k e g rise lt at there;
        below = λ k e at. all_at (λ (e : PlainExport). e.symbol < symbol_limit) (exports_with symbols versions) k e below at;
      }
    where
      all_at : (P : PlainExport → Type 0) (es : List PlainExport) (k : ℕ) (e : PlainExport) → All P es → slice_get es k ≡ Some e → P e
      all_at P es k e all at = subst P (get_or_from_slice_get es k e e at) (All-get_or P es k e (slice_get_within es k e at) all)
