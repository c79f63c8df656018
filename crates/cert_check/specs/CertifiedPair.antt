-- The input of a check, as a case.
use Rattle.std.specs.Prelude.{◌≡◌, ◌<◌, ℕ, Bool, true, List, length, Some}
use Rattle.abi_types.specs.declared.kind.Way.{Way}
use Rattle.abi_types.specs.Types.{PlainNode, PlainView}
use Rattle.abi_types.specs.Graphs.{part_at, to_of}
use Rattle.pair_rules.specs.Steps.{Triple, next_of}
use Rattle.pair_rules.specs.Stable.{classed}
use Rattle.cert_check.specs.declared.certified_pair.CertifiedPair.{CertifiedPair}
use Rattle.cert_check.specs.Compatible.{sides}
use Rattle.cert_check.specs.Accepted.{Case, listed, old_class, new_class, is_line, rep}
use Rattle.abi_types.specs.declared.kind.Way.TheVariants.{Direct}
use Rattle.abi_types.specs.Exports.{PlainExport}

abbrev pub case_of : CertifiedPair → Case
case_of g = record { sides = sides g.old.now g.new.now g.marks.now; cert = g.cert.now }

-- the triple has a line by its representatives
abbrev pub has_line : Case → Triple → Bool
has_line c x = listed c (classed (old_class c) (new_class c) x)

-- all nodes that parts of the view name are in the list
abbrev pub NamesNodes : List PlainNode → PlainView → Type 0
NamesNodes nodes v = (k to : ℕ) → to_of (part_at v k) ≡ Some to → to < length nodes

-- the triple to which the old part at a position leads has a line, if it leads to one
abbrev pub LeadsToLine : Case → PlainView → PlainView → Way → ℕ → Type 0
LeadsToLine c v w way i = (y : Triple) → next_of v w way i ≡ Some y → has_line c y ≡ true

abbrev pub LeadsToLines : Case → PlainView → PlainView → Way → Type 0
LeadsToLines c v w way = (i : ℕ) → LeadsToLine c v w way i

-- the types of two exports have a pair line by their representatives, by value
abbrev pub has_root_line : Case → PlainExport → PlainExport → Bool
has_root_line c e f = is_line c.cert.pairs (rep c.cert.alike_old e.entry, rep c.cert.alike_new f.entry, Direct)
