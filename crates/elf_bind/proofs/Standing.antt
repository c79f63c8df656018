-- The names and versions of exports, as one more is added to them.
use Rattle.std.proofs.Common.{◌≡◌, ℕ, ◌+◌, ◌<◌, Bool, true, false, cond, List, [], ◌∷◌, ◌++◌, length, take, drop, get_or, Option, Some, None, refl, sym, ◌∙◌, ap, subst, arith}
use Rattle.std.specs.Prelude.{not, ◌||◌, ◌&&◌}
use Rattle.std.specs.Borrow.{Bor}
use Rattle.std.specs.BTreeSet.{IsEmpty}
use Rattle.std.specs.List.{list_any}
use Rattle.std.specs.Ordering.{is_eq}
use Rattle.std.specs.Str.{bytes_eq}
use Rattle.std.proofs.lemmas.List.Folds.{list_any-append}
use Rattle.std.proofs.lemmas.Grind.{common_steps}
use Rattle.abi_base.proofs.lemmas.Bools.{cond_last}
use Rattle.abi_base.proofs.lemmas.Lists.{take-map_more, drop-map_more}
use Rattle.abi_base.specs.declared.fault.FaultKind.TheVariants as kind
use Rattle.abi_base.specs.Outcome.{fault_if, first}
use Rattle.abi_types.specs.declared.export.Export.{Export}
use Rattle.abi_types.specs.Exports.{PlainExport}
use Rattle.abi_types.specs.Plain.{plain_export, plain_exports}
use Rattle.elf_bind.specs.Exports.{duplicate_faults, is_same, same_name}
use Rattle.elf_bind.specs.EarlierExports.{Names, Versioned, has_code, has_code_version, has_name, has_version, is_like, EarlierExports}
use Rattle.elf_bind.specs.NameOrder.{code_of, name_cmp, version_cmp}
use Rattle.elf_bind.proofs.NameOrderLemmas.{same_name_where_equal, same_version_where_equal}
use Rattle.elf_bind.proofs.lemmas.Names.{turned}

not_not : (b : Bool) → not (not b) ≡ b
not_not true = refl
not_not false = refl

and_true : (b : Bool) → (b && true) ≡ b
and_true true = refl
and_true false = refl

or_nothing : (b c : Bool) → (b || ((c && false) || false)) ≡ b
or_nothing true c = refl
or_nothing false true = refl
or_nothing false false = refl

-- what an insert gives
abbrev pub AddsName : Names → Names → ℕ → PlainExport → Type 0
AddsName names next code e = (q : ℕ × Bor (List ℕ)) → has_code next q.0 q.1.now ≡ cond (is_eq (name_cmp code e.name q.0 q.1.now)) true (has_code names q.0 q.1.now)

abbrev pub AddsVersion : Versioned → Versioned → ℕ → List ℕ → List ℕ → Type 0
AddsVersion names next code name version =
    (q : ℕ × Bor (List ℕ) × Bor (List ℕ)) → has_code_version next q.0 q.1.now q.2.now ≡ cond (is_eq (version_cmp code name version q.0 q.1.now q.2.now)) true (has_code_version names q.0 q.1.now q.2.now)

abbrev pub borrowed : List ℕ → Bor (List ℕ)
borrowed name = record { ref_ptr = (0, 0); now = name }

module _ (unversioned : Names) (versioned : Versioned) (before : List PlainExport) (e : PlainExport) (so_far : EarlierExports unversioned versioned before) where
  one_more : (name : List ℕ) (version : Option (List ℕ)) → list_any (is_like name version) (before ++ e ∷ []) ≡ (list_any (is_like name version) before || (is_like name version e || false))
  one_more name version = list_any-append (is_like name version) before (e ∷ [])

  -- ---- an export without a version

  pub said_bare : (is_new : Bool) (code : ℕ) → code ≡ code_of e.name → e.version ≡ None → is_new ≡ not (has_code unversioned code e.name) → not is_new ≡ list_any (is_same e) before
  said_bare is_new code coded none is =
      ap not is ∙ not_not (has_code unversioned code e.name) ∙ ap (λ (c : ℕ). has_code unversioned c e.name) coded ∙ so_far.bare e.name ∙ ap (λ (v : Option (List ℕ)). list_any (is_like e.name v) before) (sym none)

  pub added_bare : (next : Names) (code : ℕ) → code ≡ code_of e.name → e.version ≡ None → AddsName unversioned next code e → EarlierExports next versioned (before ++ e ∷ [])
  added_bare next code coded none adds = record {
    bare = λ name.
        adds (code_of name, borrowed name) ∙ ap (λ (b : Bool). cond b true (has_name unversioned name)) (same_name_where_equal code e.name name coded)
        ∙ cond_last (bytes_eq e.name name) (has_name unversioned name)
        ∙ ap (λ (b : Bool). b || (bytes_eq e.name name || false)) (so_far.bare name)
        ∙ ap (λ (b : Bool). list_any (is_like name None) before || (b || false)) (turned e.name name ∙ sym (and_true (bytes_eq name e.name)) ∙ ap (λ (v : Option (List ℕ)). bytes_eq name e.name && same_name None v) (sym none))
        ∙ sym (one_more name None);
    paired = λ name version.
        so_far.paired name version ∙ sym (or_nothing (list_any (is_like name (Some version)) before) (bytes_eq name e.name))
        ∙ ap (λ (v : Option (List ℕ)). list_any (is_like name (Some version)) before || ((bytes_eq name e.name && same_name (Some version) v) || false)) (sym none)
        ∙ sym (one_more name (Some version));
  }

  -- ---- an export with a version

  pub said_paired : (is_new : Bool) (code : ℕ) (version : List ℕ) → code ≡ code_of e.name → e.version ≡ Some version → is_new ≡ not (has_code_version versioned code e.name version) → not is_new ≡ list_any (is_same e) before
  said_paired is_new code version coded some is =
      ap not is ∙ not_not (has_code_version versioned code e.name version) ∙ ap (λ (c : ℕ). has_code_version versioned c e.name version) coded ∙ so_far.paired e.name version ∙ ap (λ (v : Option (List ℕ)). list_any (is_like e.name v) before) (sym some)

  pub added_paired : (next : Versioned) (code : ℕ) (version : List ℕ) → code ≡ code_of e.name → e.version ≡ Some version → AddsVersion versioned next code e.name version → EarlierExports unversioned next (before ++ e ∷ [])
  added_paired next code version coded some adds = record {
    bare = λ name.
        so_far.bare name ∙ sym (or_nothing (list_any (is_like name None) before) (bytes_eq name e.name))
        ∙ ap (λ (v : Option (List ℕ)). list_any (is_like name None) before || ((bytes_eq name e.name && same_name None v) || false)) (sym some)
        ∙ sym (one_more name None);
    paired = λ name other.
        adds (code_of name, borrowed name, borrowed other) ∙ ap (λ (b : Bool). cond b true (has_version versioned name other)) (same_version_where_equal code e.name version name other coded)
        ∙ cond_last (bytes_eq e.name name && bytes_eq version other) (has_version versioned name other)
        ∙ ap (λ (b : Bool). b || ((bytes_eq e.name name && bytes_eq version other) || false)) (so_far.paired name other)
        ∙ ap (λ (b : Bool). list_any (is_like name (Some other)) before || ((b && bytes_eq version other) || false)) (turned e.name name)
        ∙ ap (λ (b : Bool). list_any (is_like name (Some other)) before || ((bytes_eq name e.name && b) || false)) (turned version other)
        ∙ ap (λ (v : Option (List ℕ)). list_any (is_like name (Some other)) before || ((bytes_eq name e.name && same_name (Some other) v) || false)) (sym some)
        ∙ sym (one_more name (Some other));
  }

-- ---- the exports one by one

pub record Unlike (exports : List Export) (i : ℕ) (unversioned : Names) (versioned : Versioned) : Type 0 where
  pub stood : EarlierExports unversioned versioned (take i (plain_exports exports))
  pub judged : first (duplicate_faults (take i (plain_exports exports)) (drop i (plain_exports exports))) ≡ first (duplicate_faults [] (plain_exports exports))

no_name : (names : Names) → IsEmpty names → (name : List ℕ) → has_name names name ≡ false
no_name names empty name = grind (arith, common_steps)

no_version : (names : Versioned) → IsEmpty names → (name version : List ℕ) → has_version names name version ≡ false
no_version names empty name version = grind (arith, common_steps)

pub none_yet : (exports : List Export) (unversioned : Names) (versioned : Versioned) → IsEmpty unversioned → IsEmpty versioned → Unlike exports 0 unversioned versioned
none_yet exports unversioned versioned bare paired = record {
  stood = record {
    bare = λ name. no_name unversioned bare name;
    paired = λ name version. no_version versioned paired name version;
  };
  judged = refl;
}

module _ (exports : List Export) (i : ℕ) (d : Export) (inside : i < length exports) where
  abbrev pub this : PlainExport
  this = plain_export (get_or exports i d)

  abbrev pub earlier : List PlainExport
  earlier = take i (plain_exports exports)

  here : (b : Bool) → b ≡ list_any (is_same this) earlier → first (duplicate_faults earlier (drop i (plain_exports exports)))
      ≡ first (fault_if b kind.DuplicateExport this.symbol ∷ duplicate_faults (earlier ++ this ∷ []) (drop (i + 1) (plain_exports exports)))
  here b is =
      ap (λ (l : List PlainExport). first (duplicate_faults earlier l)) (drop-map_more plain_export exports i d inside)
      ∙ ap (λ (c : Bool). first (fault_if c kind.DuplicateExport this.symbol ∷ duplicate_faults (earlier ++ this ∷ []) (drop (i + 1) (plain_exports exports)))) (sym is)

  pub duplicate_here : (unversioned : Names) (versioned : Versioned) → Unlike exports i unversioned versioned → true ≡ list_any (is_same this) earlier
      → Some (record { kind = kind.DuplicateExport; at = this.symbol }) ≡ first (duplicate_faults [] (plain_exports exports))
  duplicate_here unversioned versioned so_far is = sym (here true is) ∙ so_far.judged

  pub none_here : (unversioned next_unversioned : Names) (versioned next_versioned : Versioned) → Unlike exports i unversioned versioned → false ≡ list_any (is_same this) earlier
      → EarlierExports next_unversioned next_versioned (earlier ++ this ∷ []) → Unlike exports (i + 1) next_unversioned next_versioned
  none_here unversioned next_unversioned versioned next_versioned so_far is stood =
      let more = take-map_more plain_export exports i d inside in
      record {
        stood = subst (λ (l : List PlainExport). EarlierExports next_unversioned next_versioned l) (sym more) stood;
        judged = ap (λ (l : List PlainExport). first (duplicate_faults l (drop (i + 1) (plain_exports exports)))) more ∙ sym (here false is) ∙ so_far.judged;
      }
