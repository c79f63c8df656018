-- When a certificate of version 1 is accepted. Its pairs have no ways: an old node is marked or not for both ways, and the partners
-- of a pair have a line whichever way leads to them.
use Rattle.std.specs.Prelude.{◌≡◌, ◌<◌, ℕ, Bool, true, false, [], Some, Contains, slice_index_or}
use Rattle.abi_types.specs.Exports.{PlainExport}
use Rattle.abi_types.specs.Graphs.{node_of, view_at, part_at, to_of}
use Rattle.abi_types.specs.Limits.{symbol_limit}
use Rattle.pair_rules.specs.TypeRules.{breaks}
use Rattle.pair_rules.specs.Partners.{IsPartner}
use Rattle.cert_text.specs.Certs.{PlainCert1, with_ways, migrated}
use Rattle.cert_check.specs.Compatible.{Sides, IsCompared, bound, is_typed}
use Rattle.cert_check.specs.Accepted.{Case, KeepsBinding, KeepsRules, KeepsAlike, class_in, rep}

-- the rules mark the same nodes at both ways
abbrev pub AreOneMark : Sides → Type 0
AreOneMark s = s.marks.pointer ≡ s.marks.direct

-- the old node is marked
abbrev pub is_marked_any : Sides → ℕ → Bool
is_marked_any s a = slice_index_or s.marks.direct a false

-- the same case with all pairs by value, which decides everything except the pair lines
abbrev pub case_1 : Sides → PlainCert1 → Case
case_1 s c = record { sides = s; cert = with_ways c }

-- the case with the certificate of version 2 that means the same
abbrev pub migrated_case : Sides → PlainCert1 → Case
migrated_case s c = record { sides = s; cert = migrated c }

-- the representatives of a typed pair have a line
abbrev pub KeepsRoot1 : Sides → PlainCert1 → ℕ → Type 0
KeepsRoot1 s c k = (e f : PlainExport) → IsCompared s k e → bound s e ≡ Some f → is_typed e ≡ true → is_typed f ≡ true →
    Contains c.pairs (rep c.alike_old e.entry, rep c.alike_new f.entry)

-- both are entries of the graphs, and either the old one is marked or no rule is broken
pub record KeepsLine1 (s : Sides) (line : ℕ × ℕ) : Type 0 where
  pub old : ℕ
  pub new : ℕ
  pub old_is : node_of s.old.graph line.0 ≡ Some old
  pub new_is : node_of s.new.graph line.1 ≡ Some new
  pub keeps : is_marked_any s old ≡ false → breaks (view_at s.old.graph old) (view_at s.new.graph new) ≡ []

-- either the old one is marked, or the nodes that matching parts name have a line by their representatives
abbrev pub KeepsPartners1 : Sides → PlainCert1 → ℕ × ℕ → Type 0
KeepsPartners1 s c line = (old new i j a b : ℕ) → node_of s.old.graph line.0 ≡ Some old → node_of s.new.graph line.1 ≡ Some new → is_marked_any s old ≡ false
    → IsPartner (view_at s.old.graph old) (view_at s.new.graph new) i j
    → to_of (part_at (view_at s.old.graph old) i) ≡ Some a → to_of (part_at (view_at s.new.graph new) j) ≡ Some b
    → Contains c.pairs (class_in s.old.graph c.alike_old a, class_in s.new.graph c.alike_new b)

pub record IsAccepted1 (s : Sides) (c : PlainCert1) : Type 0 where
  pub old_digest : c.old_digest ≡ s.old.digest
  pub new_digest : c.new_digest ≡ s.new.digest
  pub rules_digest : c.rules_digest ≡ s.marks.digest
  pub sonames : s.old.soname ≡ s.new.soname
  pub bindings : (symbol : ℕ) → symbol < symbol_limit → KeepsBinding (case_1 s c) symbol
  pub rules : (k : ℕ) → KeepsRules (case_1 s c) k
  pub alike_old : (k : ℕ) → KeepsAlike s.old.graph c.alike_old k
  pub alike_new : (k : ℕ) → KeepsAlike s.new.graph c.alike_new k
  pub roots : (k : ℕ) → KeepsRoot1 s c k
  pub lines : (line : ℕ × ℕ) → Contains c.pairs line → KeepsLine1 s line
  pub partners : (line : ℕ × ℕ) → Contains c.pairs line → KeepsPartners1 s c line
