-- The sorts and names of parts.
use Rattle.std.specs.Prelude.{ℕ, Bool, List, []}
use Rattle.std.specs.declared.cmp.Ordering.{Ordering}
use Rattle.abi_types.specs.declared.sort.Sort.{Sort}
use Rattle.abi_types.specs.declared.sort.Sort.TheVariants as sort
use Rattle.abi_types.specs.contracts.sort.SortPartialEq.TheImpl.{ghosts}
use Rattle.abi_types.specs.contracts.sort.SortOrd.TheImpl as ord
use Rattle.abi_types.specs.Types.{PlainPart, Member, Enumerator, Target, Element, Outcome, Param}

abbrev pub sort_of : PlainPart → Sort
sort_of (Member name bit width to) = sort.Member
sort_of (Enumerator name value) = sort.Enumerator
sort_of (Target to) = sort.Target
sort_of (Element to) = sort.Element
sort_of (Outcome to) = sort.Outcome
sort_of (Param to) = sort.Param

-- the name of a part, empty where its sort has none
abbrev pub name_of : PlainPart → List ℕ
name_of (Member name bit width to) = name
name_of (Enumerator name value) = name
name_of other = []

-- the comparison of sorts that the code derives
abbrev pub same_sort : Sort → Sort → Bool
same_sort = ghosts.eq

-- the order of sorts that the code derives
abbrev pub sort_cmp : Sort → Sort → Ordering
sort_cmp = ord.ghosts.cmp
