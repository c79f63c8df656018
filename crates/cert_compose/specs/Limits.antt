-- The limits that the composition of two certificates passes, from the lines of both and the types of the libraries.
use Rattle.std.specs.Prelude.{◌≡◌, ◌<◌, ◌⊎◌, ◌↔◌, ◌==◌, ℕ, ◌+◌, ◌-◌, ◌^◌, min, if◌then◌else◌, List, length, Option, Some, None}
use Rattle.std.specs.List.{Contains, sum_by}
use Rattle.abi_base.specs.Budgets.{allowed}
use Rattle.abi_base.specs.declared.limit.Limit.{Limit}
use Rattle.abi_base.specs.declared.limit.Limit.TheVariants.{PairLines, PairParts}
use Rattle.abi_base.specs.Outcome.{OnLimit}
use Rattle.abi_types.specs.Graphs.{node_of, view_at}
use Rattle.cert_text.specs.Certs.{Ascend, PairLine}
use Rattle.pair_rules.specs.Weights.{pair_weight, weight_allowed}
use Rattle.cert_compose.specs.Chains.{PlainChain}
use Rattle.cert_compose.specs.Middles.{IsMiddle, both_cmp}
use Rattle.cert_compose.specs.declared.refusal.ComposeRefusal.{ComposeRefusal}
use Rattle.cert_compose.specs.declared.refusal.ComposeRefusal.TheVariants.{Between, NoMemory}

-- ---- what is compared and looked at

abbrev pub weight_to : PlainChain → ℕ → Option ℕ → ℕ
weight_to ch old None = 0
weight_to ch old (Some new) = pair_weight (view_at ch.first.graph old) (view_at ch.last.graph new)

abbrev pub weight_from : PlainChain → ℕ → Option ℕ → ℕ
weight_from ch new None = 0
weight_from ch new (Some old) = weight_to ch old (node_of ch.last.graph new)

-- how much the first and the last type of two entries count that are compared: nothing where a library has no such type
abbrev pub types_weight : PlainChain → ℕ → ℕ → ℕ
types_weight ch old new = weight_from ch new (node_of ch.first.graph old)

-- the looks at a line of the second certificate, and the parts that are compared there: nothing unless it begins with this entry
abbrev pub second_looks : ℕ → PairLine → ℕ
second_looks entry second = if second.0 == entry then 1 else 0

abbrev pub second_parts : PlainChain → ℕ → ℕ → PairLine → ℕ
second_parts ch old entry second = if second.0 == entry then types_weight ch old second.1 else 0

-- those at all lines of the second certificate
abbrev pub seconds_looks : PlainChain → ℕ → ℕ
seconds_looks ch entry = sum_by (second_looks entry) ch.other.pairs

abbrev pub seconds_parts : PlainChain → ℕ → ℕ → ℕ
seconds_parts ch old entry = sum_by (second_parts ch old entry) ch.other.pairs

-- those of a line of the first certificate at a middle type, if the line ends with its first representative: one look at the type, and
-- those at the lines of the second certificate that begin with the other one
abbrev pub middle_looks : PlainChain → PairLine → ℕ × ℕ → ℕ
middle_looks ch line middle = if middle.0 == line.1 then 1 + seconds_looks ch middle.1 else 0

abbrev pub middle_parts : PlainChain → PairLine → ℕ × ℕ → ℕ
middle_parts ch line middle = if middle.0 == line.1 then seconds_parts ch line.0 middle.1 else 0

-- those of a line of the first certificate at all middle types
abbrev pub line_looks : PlainChain → List (ℕ × ℕ) → PairLine → ℕ
line_looks ch middles line = sum_by (middle_looks ch line) middles

abbrev pub line_parts : PlainChain → List (ℕ × ℕ) → PairLine → ℕ
line_parts ch middles line = sum_by (middle_parts ch line) middles

-- those of all lines
abbrev pub all_looks : PlainChain → List (ℕ × ℕ) → ℕ
all_looks ch middles = sum_by (line_looks ch middles) ch.one.pairs

abbrev pub all_parts : PlainChain → List (ℕ × ℕ) → ℕ
all_parts ch middles = sum_by (line_parts ch middles) ch.one.pairs

-- the pair lines of both certificates, as a number of 38 bits
abbrev pub lines_units : PlainChain → ℕ
lines_units ch = min (length ch.one.pairs + length ch.other.pairs) (2 ^ 38 - 1)

-- there are more looks than the lines of both certificates allow, or more parts than the types of both libraries allow
abbrev pub JoinsPass : PlainChain → List (ℕ × ℕ) → Limit → Type 0
JoinsPass ch middles l =
    ((l ≡ PairLines) × (allowed PairLines (lines_units ch) < all_looks ch middles))
    ⊎ ((l ≡ PairParts) × (weight_allowed ch.first.graph ch.last.graph < all_parts ch middles))

-- both representatives of each middle type, each pair once, in ascending order
pub record AreMiddles (ch : PlainChain) (middles : List (ℕ × ℕ)) : Type 0 where
  pub ascend : Ascend both_cmp middles
  pub exact : (middle : ℕ × ℕ) → Contains middles middle ↔ IsMiddle ch middle

-- The limit that the composition of two certificates passes: the one on joined lines, or the one on parts of pairs of types.
abbrev pub CompositionPasses : PlainChain → Limit → Type 0
CompositionPasses ch l = (middles : List (ℕ × ℕ)) × AreMiddles ch middles × JoinsPass ch middles l

-- what holds of the limit, if two certificates are not composed since a count would pass one
abbrev pub OnRefusal : ComposeRefusal → (Limit → Type 0) → Type 0
OnRefusal (Between lost) P = Unit {0}
OnRefusal (NoMemory cause) P = OnLimit cause P
