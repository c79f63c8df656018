-- The certificate of two libraries.
use Rattle.std.specs.Prelude.{◌≡◌, ◌<◌, ℕ, length}
use Rattle.abi_types.specs.declared.kind.Way.{Way}
use Rattle.abi_types.specs.Graphs.{IsGraph}
use Rattle.abi_types.specs.Libraries.{IsLibrary}
use Rattle.pair_rules.specs.Steps.{Task, is_marked}
use Rattle.type_classes.specs.Alike.{AreAlike}
use Rattle.cert_text.specs.Certs.{PlainCert}
use Rattle.cert_check.specs.Compatible.{Sides, task_of}
use Rattle.pair_compare.specs.certificates.Lines.{bind_lines, AreAlikeLines, ArePairLines}

-- It names the two libraries and the rule file, and lists what each compared export binds to, which entries are alike, and which
-- types are reached in place of which.
pub record IsCertificateOf (s : Sides) (c : PlainCert) : Type 0 where
  pub old_digest : c.old_digest ≡ s.old.digest
  pub new_digest : c.new_digest ≡ s.new.digest
  pub rules_digest : c.rules_digest ≡ s.marks.digest
  pub binds : c.binds ≡ bind_lines s
  pub alike_old : AreAlikeLines s.old.graph c.alike_old
  pub alike_new : AreAlikeLines s.new.graph c.alike_new
  pub pairs : ArePairLines (task_of s) c.pairs

-- what the types of libraries and of graphs guarantee
pub record AreLibraries (s : Sides) : Type 0 where
  pub old : IsLibrary s.old.exports s.old.graph
  pub new : IsLibrary s.new.exports s.new.graph
  pub old_graph : IsGraph s.old.graph
  pub new_graph : IsGraph s.new.graph

-- old nodes that are alike are marked alike at each way
abbrev pub AreMarkedAlike : Task → Type 0
AreMarkedAlike t = (a b : ℕ) (way : Way) → a < length t.old → b < length t.old → AreAlike t.old a b → is_marked t a way ≡ is_marked t b way
