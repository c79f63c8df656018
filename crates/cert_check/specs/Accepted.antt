-- When a certificate is accepted: a list of places in order, each with its condition.
use Rattle.std.specs.Prelude.{◌≡◌, ◌+◌, ◌==◌, ◌&&◌, ℕ, Bool, true, false, List, [], ◌∷◌, ◌++◌, length, map, flat_map, find, slice_get, option_map, unwrap_or, Option, Some, None, Result, Ok, Err}
use Rattle.std.specs.List.{range_with_len, list_any, AllByRecursion}
use Rattle.std.specs.Bool.{beq}
use Rattle.abi_types.specs.declared.kind.Way.TheVariants.{Direct}
use Rattle.abi_types.specs.Types.{PlainNode}
use Rattle.abi_types.specs.Exports.{PlainExport}
use Rattle.abi_types.specs.Graphs.{node_at, node_of}
use Rattle.pair_rules.specs.Steps.{Triple, is_marked, breaks_of, step}
use Rattle.abi_types.specs.ClassLooks.{look_of}
use Rattle.pair_rules.specs.Stable.{classed}
use Rattle.cert_text.specs.Certs.{PlainCert, PairLine, is_pointer}
use Rattle.cert_check.specs.declared.refused.RefusedKind.TheVariants as kind
use Rattle.cert_check.specs.declared.refused.Refused.{Refused}
use Rattle.abi_types.specs.Limits.{symbol_limit}
use Rattle.abi_types.specs.declared.library.Marks.{Marks}
use Rattle.abi_types.specs.Libraries.{PlainLibrary}
use Rattle.cert_check.specs.Compatible.{Sides, sides, IsCompared, bound, KeepsExport, is_typed, task_of}

-- two libraries and marks, and a certificate for them
pub record Case : Type 0 where
  pub sides : Sides
  pub cert : PlainCert

abbrev pub asked : PlainLibrary → PlainLibrary → Marks → PlainCert → Case
asked old new marks cert = record { sides = sides old new marks; cert = cert }

-- ---- the meaning of lines

abbrev pub second : ℕ × ℕ → ℕ
second line = line.1

-- the second number of the line that begins with this number
unfoldable pub line_of : List (ℕ × ℕ) → ℕ → Option ℕ
line_of lines n = option_map second (find (λ line. line.0 == n) lines)

-- the representative of an entry: what its alike line names, else itself
abbrev pub rep : List (ℕ × ℕ) → ℕ → ℕ
rep lines e = unwrap_or (line_of lines e) e

-- two pair lines are equal
abbrev pub same_line : PairLine → PairLine → Bool
same_line x y = x.0 == y.0 && x.1 == y.1 && beq (is_pointer x.2) (is_pointer y.2)

unfoldable pub is_line : List PairLine → PairLine → Bool
is_line lines x = list_any (same_line x) lines

-- the representative of the entry of a node
abbrev pub class_in : List PlainNode → List (ℕ × ℕ) → ℕ → ℕ
class_in nodes lines i = rep lines (node_at nodes i).entry

abbrev pub old_class : Case → ℕ → ℕ
old_class c = class_in c.sides.old.graph c.cert.alike_old

abbrev pub new_class : Case → ℕ → ℕ
new_class c = class_in c.sides.new.graph c.cert.alike_new

abbrev pub listed : Case → Triple → Bool
listed c x = is_line c.cert.pairs (x.old, x.new, x.way)

-- ---- the conditions

-- the bind lines with a symbol number are right: a compared export with it binds, and its line names the symbol to which; and the
-- number on a line is that of a compared export
pub record HasBinding (c : Case) (symbol : ℕ) (e : PlainExport) : Type 0 where
  pub partner : PlainExport
  pub binds : bound c.sides e ≡ Some partner
  pub says : line_of c.cert.binds symbol ≡ Some partner.symbol

pub record KeepsBinding (c : Case) (symbol : ℕ) : Type 0 where
  pub bound : (k : ℕ) (e : PlainExport) → IsCompared c.sides k e → e.symbol ≡ symbol → HasBinding c symbol e
  pub owned : (j : ℕ) → line_of c.cert.binds symbol ≡ Some j → (k : ℕ) × (e : PlainExport) × IsCompared c.sides k e × (e.symbol ≡ symbol)

-- a compared export and the one to which it binds keep the rules of exports
abbrev pub KeepsRules : Case → ℕ → Type 0
KeepsRules c k = (e f : PlainExport) → IsCompared c.sides k e → bound c.sides e ≡ Some f → KeepsExport e f

-- Both are entries of the graph, and the second has no alike line. The labels are equal, and so are the views except for the nodes
-- that parts name; those at one position have the same representative.
pub record IsAlikeLine (nodes : List PlainNode) (lines : List (ℕ × ℕ)) (line : ℕ × ℕ) : Type 0 where
  pub one : ℕ
  pub other : ℕ
  pub stands : node_of nodes line.0 ≡ Some one
  pub for_it : node_of nodes line.1 ≡ Some other
  pub own : line_of lines line.1 ≡ None
  pub looks : look_of (class_in nodes lines) (node_at nodes one) ≡ look_of (class_in nodes lines) (node_at nodes other)

abbrev pub KeepsAlike : List PlainNode → List (ℕ × ℕ) → ℕ → Type 0
KeepsAlike nodes lines k = (line : ℕ × ℕ) → slice_get lines k ≡ Some line → IsAlikeLine nodes lines line

-- the representatives of a typed pair have a line
abbrev pub KeepsRoot : Case → ℕ → Type 0
KeepsRoot c k = (e f : PlainExport) → IsCompared c.sides k e → bound c.sides e ≡ Some f → is_typed e ≡ true → is_typed f ≡ true →
    is_line c.cert.pairs (rep c.cert.alike_old e.entry, rep c.cert.alike_new f.entry, Direct) ≡ true

-- the triple has the nodes and the way of the pair line
pub record IsOf (c : Case) (line : PairLine) (x : Triple) : Type 0 where
  pub old : node_of c.sides.old.graph line.0 ≡ Some x.old
  pub new : node_of c.sides.new.graph line.1 ≡ Some x.new
  pub way : x.way ≡ line.2

-- both are entries of the graphs, and either the old one is marked at the line's way or no rule is broken
pub record KeepsLine (c : Case) (line : PairLine) : Type 0 where
  pub triple : Triple
  pub is : IsOf c line triple
  pub keeps : is_marked (task_of c.sides) triple.old triple.way ≡ false → breaks_of (task_of c.sides) triple ≡ []

abbrev pub KeepsRule : Case → ℕ → Type 0
KeepsRule c k = (line : PairLine) → slice_get c.cert.pairs k ≡ Some line → KeepsLine c line

-- each triple to which a step leads from the nodes of the line has a line by its representatives; no step leads from a marked node
abbrev pub KeepsPartners : Case → ℕ → Type 0
KeepsPartners c k = (line : PairLine) → slice_get c.cert.pairs k ≡ Some line → (x y : Triple) (i : ℕ) → IsOf c line x → step (task_of c.sides) x i ≡ Some y →
    listed c (classed (old_class c) (new_class c) y) ≡ true

-- ---- places

pub data Place : Type 0 where
  OldDigest : Place
  NewDigest : Place
  RulesDigest : Place
  Sonames : Place
  Binding : (symbol : ℕ) → Place
  Rules : (export : ℕ) → Place
  AlikeOld : (number : ℕ) → Place
  AlikeNew : (number : ℕ) → Place
  Root : (export : ℕ) → Place
  Rule : (number : ℕ) → Place
  Partners : (number : ℕ) → Place

-- the condition of a place
abbrev pub Keeps : Case → Place → Type 0
Keeps c OldDigest = c.cert.old_digest ≡ c.sides.old.digest
Keeps c NewDigest = c.cert.new_digest ≡ c.sides.new.digest
Keeps c RulesDigest = c.cert.rules_digest ≡ c.sides.marks.digest
Keeps c Sonames = c.sides.old.soname ≡ c.sides.new.soname
Keeps c (Binding symbol) = KeepsBinding c symbol
Keeps c (Rules export) = KeepsRules c export
Keeps c (AlikeOld number) = KeepsAlike c.sides.old.graph c.cert.alike_old number
Keeps c (AlikeNew number) = KeepsAlike c.sides.new.graph c.cert.alike_new number
Keeps c (Root export) = KeepsRoot c export
Keeps c (Rule number) = KeepsRule c number
Keeps c (Partners number) = KeepsPartners c number

abbrev pub each : (ℕ → Place) → ℕ → List Place
each place count = map place (range_with_len 0 count)

abbrev pub both : ℕ → List Place
both number = Rule number ∷ Partners number ∷ []

unfoldable pub binding_places : List Place
binding_places = each Binding symbol_limit

unfoldable pub pair_places : ℕ → List Place
pair_places count = flat_map both (range_with_len 0 count)

abbrev pub joined : {X : Type 0} → List (List X) → List X
joined [] = []
joined (xs ∷ xss) = xs ++ joined xss

abbrev pub heads : List Place
heads = OldDigest ∷ NewDigest ∷ RulesDigest ∷ Sonames ∷ []

-- all places, group by group, in the order of the checks
abbrev pub groups : Case → List (List Place)
groups c =
    heads
    ∷ binding_places
    ∷ each Rules (length c.sides.old.exports)
    ∷ each AlikeOld (length c.cert.alike_old)
    ∷ each AlikeNew (length c.cert.alike_new)
    ∷ each Root (length c.sides.old.exports)
    ∷ pair_places (length c.cert.pairs)
    ∷ []

unfoldable pub places : Case → List Place
places c = joined (groups c)

abbrev pub IsAccepted : Case → Type 0
IsAccepted c = AllByRecursion (Keeps c) (places c)

-- ---- the refusal

-- the symbol number of an old export
abbrev pub symbol_of : Option PlainExport → ℕ
symbol_of None = 0
symbol_of (Some e) = e.symbol

abbrev pub refused : Case → Place → Refused
refused c OldDigest = record { kind = kind.OtherInput; at = 2 }
refused c NewDigest = record { kind = kind.OtherInput; at = 3 }
refused c RulesDigest = record { kind = kind.OtherInput; at = 4 }
refused c Sonames = record { kind = kind.Soname; at = 0 }
refused c (Binding symbol) = record { kind = kind.Bindings; at = symbol }
refused c (Rules export) = record { kind = kind.ExportRule; at = symbol_of (slice_get c.sides.old.exports export) }
refused c (AlikeOld number) = record { kind = kind.Alike; at = 5 + length c.cert.binds + number }
refused c (AlikeNew number) = record { kind = kind.Alike; at = 5 + length c.cert.binds + length c.cert.alike_old + number }
refused c (Root export) = record { kind = kind.Root; at = symbol_of (slice_get c.sides.old.exports export) }
refused c (Rule number) = record { kind = kind.Rule; at = 5 + length c.cert.binds + length c.cert.alike_old + length c.cert.alike_new + number }
refused c (Partners number) = record { kind = kind.Partner; at = 5 + length c.cert.binds + length c.cert.alike_old + length c.cert.alike_new + number }

-- this is the first place that fails
pub record IsFirstFailing (c : Case) (asked : List Place) (place : Place) : Type 0 where
  pub before : List Place
  pub after : List Place
  pub stands : asked ≡ before ++ place ∷ after
  pub kept : AllByRecursion (Keeps c) before
  pub fails : Keeps c place → ⊥

-- The result is Ok exactly if all conditions hold, else the refusal of the first place that fails.
abbrev pub Settles : Case → List Place → Result Unit Refused → Type 0
Settles c asked (Ok x) = AllByRecursion (Keeps c) asked
Settles c asked (Err answer) = (place : Place) × IsFirstFailing c asked place × (answer ≡ refused c place)
