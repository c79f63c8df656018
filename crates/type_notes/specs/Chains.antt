-- The chain of entries from a type to the type for which it stands. Links are typedefs (DWARF 5, section 5.4 "Typedef Entries"),
-- qualified types (section 5.3 "Type Modifier Entries"), variables, and types that name a type unit by its signature.
use Rattle.std.specs.Prelude.{ℕ, zero, suc, ◌+◌, ◌==◌, ◌&&◌, ◌||◌, Bool, true, false, Some, None}
use Rattle.abi_base.specs.Limits.{depth_limit}
use Rattle.dwarf_tree.specs.Trees.{PlainTree, entry_of}
use Rattle.dwarf_entries.specs.Addresses.{tag_at}
use Rattle.type_reach.specs.declared.role.Role.{Role}
use Rattle.type_reach.specs.declared.role.Role.TheVariants as role
use Rattle.type_reach.specs.References.{Type_, role_of, type_of}

-- a link of the chain leads on to its type
abbrev pub led_on : Role → ℕ → Type_ → Type_
led_on role.Wrapper e further = further
led_on _ e further = Some e

-- The type at the end of the chain, which is void or an entry of another role, within this many entries. No library that can be read
-- has a longer chain.
unfoldable pub behind : PlainTree → ℕ → Type_ → Type_
behind t zero r = None
behind t (suc n) None = None
behind t (suc n) (Some e) = led_on (role_of t e) e (behind t n (type_of t e))

-- the entry at the end of the chain from the type at an offset
abbrev pub core_at : PlainTree → ℕ → Type_
core_at t offset = behind t (depth_limit + 1) (entry_of t offset)

-- an entry leads on to the type that has its qualifiers: an array is `const` if its elements are
abbrev pub leads_further : Role → Bool
leads_further role.Wrapper = true
leads_further role.Array = true
leads_further _ = false

-- within this many entries, the chain has an entry with this tag, also behind the elements of an array
unfoldable pub is_passed : PlainTree → ℕ → ℕ → Type_ → Bool
is_passed t tag zero r = false
is_passed t tag (suc n) None = false
is_passed t tag (suc n) (Some e) = leads_further (role_of t e) && (tag_at t e == tag || is_passed t tag n (type_of t e))

-- the type of an entry has the qualifier with this tag; an array has it if its elements do
abbrev pub has_qualifier : PlainTree → ℕ → ℕ → Bool
has_qualifier t tag e = is_passed t tag (depth_limit + 1) (type_of t e)
