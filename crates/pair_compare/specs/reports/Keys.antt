-- What distinguishes rows on types, as keys of a set.
use Rattle.std.specs.Prelude.{ℕ, ◌==◌, Bool, ◌&&◌, List, Vec}
use Rattle.std.specs.Str.{bytes_eq}
use Rattle.std.specs.declared.alloc.Global.{Global}
use Rattle.abi_types.specs.Rules.{rule_place}
use Rattle.pair_rules.specs.Steps.{Task}
use Rattle.pair_compare.specs.reports.Findings.{Finding, detail_at}

-- the number of a rule, an old node and a new one, and a detail
abbrev pub PlainKey : Type 0
PlainKey = ℕ × ℕ × ℕ × List ℕ

abbrev pub plain_key : ℕ × ℕ × ℕ × Vec ℕ Global → PlainKey
plain_key k = (k.0, k.1, k.2, k.3.items)

abbrev pub key_of : Task → Finding → PlainKey
key_of t f = (rule_place f.broken.rule, f.old, f.new, detail_at t f.old f.new f.broken)

abbrev pub same_key : PlainKey → PlainKey → Bool
same_key k q = k.0 == q.0 && k.1 == q.1 && k.2 == q.2 && bytes_eq k.3 q.3
