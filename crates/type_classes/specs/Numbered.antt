-- Shapes, numbered by the first node of each.
use Rattle.std.specs.Prelude.{◌≡◌, ◌<◌, ◌↔◌, ℕ, Bool, List, length, Option, Contains}
use Rattle.std.specs.Global.{Vec}
use Rattle.std.specs.declared.cmp.Ordering.{Ordering}
use Rattle.std.specs.Ordering.{is_eq, nat_cmp, ordering_then}
use Rattle.std.specs.Cmp.Lexicographic.{slice_cmp}
use Rattle.std.specs.BTreeMap.{BTreeMap, get_by}
use Rattle.abi_types.specs.Types.{PlainNode}
use Rattle.abi_types.specs.Graphs.{node_at}
use Rattle.abi_types.specs.ClassLooks.{Look, shape_of}
use Rattle.type_classes.specs.declared.spelling.Spelling.{Spelling}
use Rattle.type_classes.specs.Shapes.{spelled, letters_of}

-- the spelling of a look
pub record IsSpellingOf (s : Spelling) (l : Look) : Type 0 where
  pub numbers : s.numbers.items ≡ spelled l
  pub letters : s.letters.items ≡ letters_of l

-- two spellings have the same numbers and letters
pub record AreOneSpelling (s t : Spelling) : Type 0 where
  pub numbers : s.numbers.items ≡ t.numbers.items
  pub letters : s.letters.items ≡ t.letters.items

-- the order of spellings: by their numbers, and those of the same numbers by their letters
abbrev pub spelling_cmp : Spelling → Spelling → Ordering
spelling_cmp s t = ordering_then (slice_cmp nat_cmp s.numbers.items t.numbers.items) (slice_cmp nat_cmp s.letters.items t.letters.items)

abbrev pub same_spelling : Spelling → Spelling → Bool
same_spelling s t = is_eq (spelling_cmp s t)

-- numbers of spellings
abbrev pub Numbers : Type 0
Numbers = BTreeMap Spelling ℕ

-- the number of a spelling
abbrev pub number_in : Numbers → Spelling → Option ℕ
number_in numbers s = get_by (spelling_cmp s) numbers

-- the pairs are those of all nodes, and their numbers are equal exactly where the shapes are
pub record IsNumbered (nodes : List PlainNode) (pairs : Vec (ℕ × ℕ)) : Type 0 where
  pub of_nodes : (k x : ℕ) → Contains pairs.items (k, x) → x < length nodes
  pub all_nodes : (x : ℕ) → x < length nodes → (k : ℕ) × Contains pairs.items (k, x)
  pub shapes : (j k x y : ℕ) → Contains pairs.items (j, x) → Contains pairs.items (k, y) → (j ≡ k) ↔ (shape_of (node_at nodes x) ≡ shape_of (node_at nodes y))
