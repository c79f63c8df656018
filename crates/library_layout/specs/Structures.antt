-- The layout of a structure in a graph, and the structures of a graph by tag.
use Rattle.std.specs.Prelude.{◌≡◌, ◌≢◌, ◌<◌, ◌≤◌, ◌&&◌, ℕ, Bool, true, false, List, [], length, All, Contains, IsSomeAnd, Option, Some, None, nat_eq, take}
use Rattle.std.specs.List.{AllPairs}
use Rattle.std.specs.Str.{bytes_eq}
use Rattle.abi_types.specs.declared.kind.Kind.{Kind}
use Rattle.abi_types.specs.declared.kind.Kind.TheVariants as kind
use Rattle.abi_types.specs.Types.{PlainNode, PlainView}
use Rattle.abi_types.specs.Graphs.{view_at}
use Rattle.strsim.specs.Edits.{levenshtein_row}
use Rattle.type_print.specs.declared.row.LayoutRow.{LayoutRow}
use Rattle.type_print.specs.Laws.{CoverEachBitOnce, IsClean, NameClashes}
use Rattle.type_print.specs.Structures.{bits_at, has_layout, is_structure, members_at, AreRowsAt, IsFirstTagged}
use Rattle.type_print.specs.Texts.{layout_text}
use Rattle.library_layout.specs.declared.near.Near.{Near}
use Rattle.library_layout.specs.declared.others.OtherTag.{OtherTag}
use Rattle.library_layout.specs.declared.others.OtherTag.TheVariants.{Union, Enumeration}

-- the text is that of the layout of the structure with a definition, the tag and the earliest entry
pub record IsLayoutIn (nodes : List PlainNode) (tag text : List ℕ) : Type 0 where
  pub number : ℕ
  pub tagged : IsFirstTagged nodes tag number
  pub rows : List LayoutRow
  pub laid : AreRowsAt nodes number rows
  pub is : text ≡ layout_text (view_at nodes number) rows

-- The text is that of the rows of the structure. If none of them is an overlap or a member that ends outside, each bit below the
-- size is in exactly one row, and no row reaches past the size. If members overlap or one ends outside, there is a row for it.
pub record IsCoverIn (nodes : List PlainNode) (tag text : List ℕ) : Type 0 where
  pub number : ℕ
  pub tagged : IsFirstTagged nodes tag number
  pub rows : List LayoutRow
  pub is : text ≡ layout_text (view_at nodes number) rows
  pub covered : IsClean rows → CoverEachBitOnce (bits_at nodes number) rows
  pub clashes : NameClashes (members_at nodes number) (bits_at nodes number) rows

-- ---- tags

-- a structure with a definition has the tag
pub record IsTagIn (nodes : List PlainNode) (tag : List ℕ) : Type 0 where
  pub number : ℕ
  pub inside : number < length nodes
  pub tagged : has_layout (view_at nodes number) tag ≡ true

-- the type is a structure with this tag and without a definition
abbrev pub is_declaration : PlainView → List ℕ → Bool
is_declaration v tag = is_structure v.kind && v.declared_only && bytes_eq v.tag tag

-- a structure without a definition has the tag
pub record IsDeclaredIn (nodes : List PlainNode) (tag : List ℕ) : Type 0 where
  pub number : ℕ
  pub inside : number < length nodes
  pub declared : is_declaration (view_at nodes number) tag ≡ true

-- ---- tags of other types

-- the type is of this kind and has this tag, with a definition or without
abbrev pub is_kind : OtherTag → Kind → Bool
is_kind Union kind.Union = true
is_kind Union other = false
is_kind Enumeration kind.Enumeration = true
is_kind Enumeration other = false

abbrev pub is_other : PlainView → OtherTag → List ℕ → Bool
is_other v other tag = is_kind other v.kind && bytes_eq v.tag tag

-- a union has the tag, or an enumeration
pub record HasOtherIn (nodes : List PlainNode) (other : OtherTag) (tag : List ℕ) : Type 0 where
  pub number : ℕ
  pub inside : number < length nodes
  pub tagged : is_other (view_at nodes number) other tag ≡ true

-- which of these has the tag: a union before an enumeration
abbrev pub IsOtherIn : List PlainNode → List ℕ → Option OtherTag → Type 0
IsOtherIn nodes tag (Some Union) = HasOtherIn nodes Union tag
IsOtherIn nodes tag (Some Enumeration) = HasOtherIn nodes Enumeration tag × ¬ HasOtherIn nodes Union tag
IsOtherIn nodes tag None = ¬ HasOtherIn nodes Union tag × ¬ HasOtherIn nodes Enumeration tag

-- ---- new tags

-- a structure with a definition has the tag, which is none of these
pub record IsNewTagIn (nodes : List PlainNode) (tags : List (List ℕ)) (tag : List ℕ) : Type 0 where
  pub there : IsTagIn nodes tag
  pub new : ¬ Contains tags tag

-- structures with definitions have the tags, and no two of these are the same
pub record AreTagsIn (nodes : List PlainNode) (tags : List (List ℕ)) : Type 0 where
  pub there : All (IsTagIn nodes) tags
  pub apart : AllPairs (λ a b. a ≢ b) tags

-- ---- near tags

-- the distance between two tags: the least number of bytes to insert, to delete or to substitute on the way from the first 64 bytes
-- of one to the first 64 bytes of the other (Levenshtein)
abbrev pub distance : (tag other : List ℕ) → ℕ
distance tag other = levenshtein_row nat_eq (take 64 tag) (take 64 other) (length (take 64 other))

-- the tag is as near to the wanted one as the other tag, or nearer
abbrev pub IsAsNear : (wanted tag other : List ℕ) → Type 0
IsAsNear wanted tag other = distance tag wanted ≤ distance other wanted

-- a structure with a definition has the tag, which is not empty and none of these
abbrev pub IsLeftOut : List PlainNode → List (List ℕ) → List ℕ → Type 0
IsLeftOut nodes tags tag = IsNewTagIn nodes tags tag × (tag ≢ [])

-- The tags are in order of their distance from the wanted one, and no tag that is left out is nearer than any of these. A tag is left
-- out only if there are five.
pub record AreNearestIn (nodes : List PlainNode) (wanted : List ℕ) (tags : List (List ℕ)) : Type 0 where
  pub ordered : AllPairs (IsAsNear wanted) tags
  pub nearer : (other : List ℕ) → IsLeftOut nodes tags other → All (λ tag. IsAsNear wanted tag other) tags
  pub full : (other : List ℕ) → IsLeftOut nodes tags other → length tags ≡ 5

-- if a type is a structure with a definition and a tag that is not empty, its tag is one of these or that of what was found
abbrev pub PassesType : PlainView → List (List ℕ) → Option Near → Type 0
PassesType v tags found =
    (other : List ℕ) → has_layout v other ≡ true → other ≢ [] → ¬ Contains tags other → IsSomeAnd found (λ near. near.tag.now ≡ other)

-- a tag was found that is as near as each one that is left out
abbrev pub IsNearestBeside : List PlainNode → List ℕ → List (List ℕ) → Option (List ℕ) → Type 0
IsNearestBeside nodes wanted tags found =
    (other : List ℕ) → IsLeftOut nodes tags other → IsSomeAnd found (λ tag. IsAsNear wanted tag other)
