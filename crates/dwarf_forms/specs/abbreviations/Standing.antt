-- The contents of `.debug_abbrev` as a relation between bytes and abbreviations, independent of any reader (DWARF 5,
-- section 7.5.3 "Abbreviations Tables").
use Rattle.std.specs.Prelude.{◌≡◌, ◌≢◌, ◌<◌, ℕ, ◌+◌, length, List, [], ◌∷◌, slice_get, Some, AllPairs}
use Rattle.dwarf_forms.specs.declared.abbreviations.abbrev.Spec.{Spec}
use Rattle.dwarf_forms.specs.declared.abbreviations.abbrev.Abbrev.{Abbrev}
use Rattle.abi_base.specs.Leb.{uleb_at}
use Rattle.dwarf_forms.specs.abbreviations.Abbrevs.{implicit_at, children_of, specs_run}

-- The bytes at an offset are an attribute specification, with a constant where the form has one.
pub record PairAt (bytes : List ℕ) (at : ℕ) (pair : Spec) (after : ℕ) : Type 0 where
  pub form_at : ℕ
  pub value_at : ℕ
  pub attribute : uleb_at bytes at ≡ Some (pair.attribute, form_at)
  pub form : uleb_at bytes form_at ≡ Some (pair.form, value_at)
  pub has_attribute : pair.attribute ≢ 0
  pub has_form : pair.form ≢ 0
  pub value : implicit_at bytes pair.form value_at ≡ Some (pair.implicit, after)

-- the pair 0 0, which ends the attribute specifications of an abbreviation
pub record NoPairAt (bytes : List ℕ) (at after : ℕ) : Type 0 where
  pub form_at : ℕ
  pub attribute : uleb_at bytes at ≡ Some (0, form_at)
  pub form : uleb_at bytes form_at ≡ Some (0, after)

-- attribute specifications one after the other, then 0 0
abbrev pub PairsAt : List ℕ → ℕ → List Spec → ℕ → Type 0
PairsAt bytes at [] after = NoPairAt bytes at after
PairsAt bytes at (pair ∷ others) after = (next : ℕ) × PairAt bytes at pair next × PairsAt bytes next others after

-- an abbreviation: its code, its tag, the byte for children, then its attribute specifications
pub record AbbrevAt (bytes : List ℕ) (at : ℕ) (made : Abbrev) (after : ℕ) : Type 0 where
  pub tag_at : ℕ
  pub children_at : ℕ
  pub code : uleb_at bytes at ≡ Some (made.code, tag_at)
  pub has_code : made.code ≢ 0
  pub tag : uleb_at bytes tag_at ≡ Some (made.tag, children_at)
  pub children : children_of (slice_get bytes children_at) ≡ Some made.children
  pub place : made.specs_from ≡ children_at + 1
  pub pairs : PairsAt bytes made.specs_from made.specs after

-- abbreviations one after the other, up to an offset
abbrev pub FollowAt : List ℕ → ℕ → List Abbrev → ℕ → Type 0
FollowAt bytes at [] after = at ≡ after
FollowAt bytes at (made ∷ others) after = (next : ℕ) × AbbrevAt bytes at made next × FollowAt bytes next others after

-- no two abbreviations share a code
abbrev pub CodesApart : List Abbrev → Type 0
CodesApart abbrevs = AllPairs (λ a b. a.code ≢ b.code) abbrevs

-- a whole table: abbreviations with distinct codes, then a code 0
pub record TableAt (bytes : List ℕ) (at : ℕ) (abbrevs : List Abbrev) : Type 0 where
  pub end_at : ℕ
  pub after : ℕ
  pub follow : FollowAt bytes at abbrevs end_at
  pub end : uleb_at bytes end_at ≡ Some (0, after)
  pub apart : CodesApart abbrevs

-- The attribute specifications of an abbreviation are at the offset that it gives, inside the section.
pub record HasPairs (bytes : List ℕ) (made : Abbrev) : Type 0 where
  pub inside : made.specs_from < length bytes
  pub pairs : (specs_run bytes made.specs_from).items ≡ made.specs
