-- Stored results for nodes.
use Rattle.std.specs.Prelude.{◌≡◌, ℕ, Bool, List, Some, None, slice_index_or}
use Rattle.abi_types.specs.Types.{PlainNode}
use Rattle.psabi.specs.declared.class.Class.{Class}
use Rattle.psabi.specs.declared.found.Found.{Found}
use Rattle.psabi.specs.Alignment.{align_of}
use Rattle.psabi.specs.Classes.{classes_of}
use Rattle.psabi.specs.Past.{ends_past}

abbrev pub nothing_found : Found
nothing_found = record { align = None; ends_past = None; classes = None }

-- the results for node i are right
pub record IsRightOf (nodes : List PlainNode) (i : ℕ) (x : Found) : Type 0 where
  pub align : (a : ℕ) → x.align ≡ Some a → a ≡ align_of nodes i
  pub past : (b : Bool) → x.ends_past ≡ Some b → b ≡ ends_past nodes i
  pub classes : (cs : List Class) → x.classes ≡ Some cs → cs ≡ classes_of nodes i

-- the results at each number are right for the node with that number
pub record IsRight (nodes : List PlainNode) (found : List Found) : Type 0 where
  pub right : (i : ℕ) → IsRightOf nodes i (slice_index_or found i nothing_found)
