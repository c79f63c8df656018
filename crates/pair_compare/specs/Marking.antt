-- What is marked in an old library.
use Rattle.std.specs.Prelude.{◌≡◌, false, [], length, replicate}
use Rattle.sha2.specs.Sha256.{sha256}
use Rattle.abi_types.specs.declared.library.Marks.{Marks}
use Rattle.abi_types.specs.Libraries.{PlainLibrary}
use Rattle.pair_rules.specs.Stable.{AreEven}
use Rattle.cert_check.specs.Compatible.{sides, task_of}

-- Each export and each node of the old library has a mark, and old nodes with equal labels are marked alike at each way.
pub record AreMarksOf (old : PlainLibrary) (marks : Marks) : Type 0 where
  pub exports : length marks.exports ≡ length old.exports
  pub direct : length marks.direct ≡ length old.graph
  pub pointer : length marks.pointer ≡ length old.graph
  pub even : (new : PlainLibrary) → AreEven (task_of (sides old new marks))

-- the marks of an empty rule file: nothing is marked
unfoldable pub no_marks : PlainLibrary → Marks
no_marks old = record {
  digest = sha256 [];
  exports = replicate (length old.exports) false;
  direct = replicate (length old.graph) false;
  pointer = replicate (length old.graph) false;
}
