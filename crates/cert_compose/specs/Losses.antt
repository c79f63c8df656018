-- Tests for the entries of the first library whose types are lost if the middle library is skipped.
use Rattle.std.specs.Prelude.{◌≡◌, ◌≤◌, ◌<◌, ◌&&◌, not, is_none, ℕ, Bool, true, false, if◌then◌else◌, List, [], ◌∷◌, flat_map, length, min, Option, Some, None, MatchOption}
use Rattle.std.specs.List.{list_all, Contains}
use Rattle.abi_types.specs.Types.{PlainView, PlainNode}
use Rattle.abi_types.specs.Graphs.{node_of, node_at, view_at}
use Rattle.pair_rules.specs.declared.rules.Broken.{Broken}
use Rattle.pair_rules.specs.TypeRules.{breaks}
use Rattle.cert_text.specs.Certs.{PairLine}
use Rattle.cert_check.specs.Accepted.{line_of, class_in}
use Rattle.cert_compose.specs.Chains.{PlainChain}
use Rattle.cert_compose.specs.Between.{hides}
use Rattle.cert_compose.specs.Joins.{through}

abbrev pub are_none : List Broken → Bool
are_none [] = true
are_none (b ∷ bs) = false

abbrev pub no_breaks : PlainView → PlainView → Bool
no_breaks v w = are_none (breaks v w)

abbrev pub keeps_views : PlainView → PlainView → PlainView → Bool
keeps_views v u w = not (hides v u w) && no_breaks v w

abbrev pub keeps_nodes : PlainChain → Option ℕ → Option ℕ → Option ℕ → Bool
keeps_nodes ch (Some e) (Some f) (Some g) = keeps_views (view_at ch.first.graph e) (view_at ch.middle.graph f) (view_at ch.last.graph g)
keeps_nodes ch a b c = true

-- the types of three entries are kept, or some entry has no node
unfoldable pub keeps_entries : PlainChain → ℕ → ℕ → ℕ → Bool
keeps_entries ch e f g = keeps_nodes ch (node_of ch.first.graph e) (node_of ch.middle.graph f) (node_of ch.last.graph g)

abbrev pub keeps_new : PlainChain → ℕ → ℕ → PairLine → Bool
keeps_new ch e f line = keeps_entries ch e f line.1

-- all types to which a line of the first certificate leads are kept, if its old entry has no alike line
unfoldable pub line_keeps : PlainChain → List (ℕ × ℕ) → PairLine → Bool
line_keeps ch middles line =
    if is_none (line_of ch.one.alike_old line.0)
    then list_all (keeps_new ch line.0 line.1) (through ch.other.alike_new ch.other.pairs middles line.0 line.1 line.2)
    else true

abbrev pub loses : PlainChain → List (ℕ × ℕ) → PairLine → Bool
loses ch middles line = not (line_keeps ch middles line)

abbrev pub lost_by : PlainChain → List (ℕ × ℕ) → PairLine → List ℕ
lost_by ch middles line = if loses ch middles line then line.0 ∷ [] else []

-- the old entries of the lines that lose a type
unfoldable pub lost_entries : PlainChain → List (ℕ × ℕ) → List PairLine → List ℕ
lost_entries ch middles lines = flat_map (lost_by ch middles) lines

-- ---- the least entry

-- the representative of a node is among these entries
abbrev pub IsLostIn : List PlainNode → List (ℕ × ℕ) → List ℕ → ℕ → Type 0
IsLostIn nodes alike lost i = Contains lost (class_in nodes alike i)

-- the least entry of a node whose representative is among these entries
pub record IsLeastLost (nodes : List PlainNode) (alike : List (ℕ × ℕ)) (lost : List ℕ) (count at : ℕ) : Type 0 where
  pub node : ℕ
  pub inside : node < count
  pub is_lost : IsLostIn nodes alike lost node
  pub entry : at ≡ (node_at nodes node).entry
  pub least : (i : ℕ) → i < count → IsLostIn nodes alike lost i → at ≤ (node_at nodes i).entry

-- the least entry so far, after one more entry that may count
abbrev pub next_least : Option ℕ → ℕ → Bool → Option ℕ
next_least found entry false = found
next_least None entry true = Some entry
next_least (Some before) entry true = Some (min before entry)

abbrev pub FindsLeast : List PlainNode → List (ℕ × ℕ) → List ℕ → ℕ → Option ℕ → Type 0
FindsLeast nodes alike lost count found = MatchOption found ((i : ℕ) → i < count → IsLostIn nodes alike lost i → ⊥) (λ at. IsLeastLost nodes alike lost count at)

-- the least entry of a node of the first library whose representative is on a line that loses a type
abbrev pub FindsLeastEntry : PlainChain → List (ℕ × ℕ) → Option ℕ → Type 0
FindsLeastEntry ch middles found = FindsLeast ch.first.graph ch.one.alike_old (lost_entries ch middles ch.one.pairs) (length ch.first.graph) found
