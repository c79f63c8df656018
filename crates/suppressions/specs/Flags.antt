-- What a list of sections suppresses in a library. The list may be a part of a rule file.
use Rattle.std.specs.Prelude.{◌≡◌, ◌||◌, Bool, List, [], ◌∷◌, length, map}
use Rattle.abi_types.specs.declared.kind.Way.{Way}
use Rattle.abi_types.specs.declared.kind.Way.TheVariants.{Direct, Pointer}
use Rattle.abi_types.specs.Libraries.{PlainLibrary}
use Rattle.abi_types.specs.Types.{PlainNode}
use Rattle.suppression_text.specs.Rules.{PlainSection}
use Rattle.suppressions.specs.declared.marking.Flags.{Flags}
use Rattle.suppressions.specs.Meaning.{drops, marks_names}

-- for each node, whether the sections mark it, if a program reaches it in this way
abbrev pub node_flags : List PlainSection → PlainLibrary → Way → List Bool
node_flags sections old way = map (λ (n : PlainNode). marks_names sections old.soname way n.labels) old.graph

-- the flags are what the sections suppress in the library
pub record AreFlags (sections : List PlainSection) (old : PlainLibrary) (flags : Flags) : Type 0 where
  pub exports : flags.exports ≡ map (drops sections old.soname) old.exports
  pub direct : flags.direct ≡ node_flags sections old Direct
  pub pointer : flags.pointer ≡ node_flags sections old Pointer

-- for each position, whether the flag there is set in one of the two lists
unfoldable pub either : List Bool → List Bool → List Bool
either [] others = []
either (one ∷ ones) [] = []
either (one ∷ ones) (other ∷ others) = (one || other) ∷ either ones others

-- the lists of both have the same lengths
pub record AreOfOneSize (one other : Flags) : Type 0 where
  pub exports : length one.exports ≡ length other.exports
  pub direct : length one.direct ≡ length other.direct
  pub pointer : length one.pointer ≡ length other.pointer

-- each flag is set exactly if it is set in one of the two
pub record AreEither (one other flags : Flags) : Type 0 where
  pub exports : flags.exports ≡ either one.exports other.exports
  pub direct : flags.direct ≡ either one.direct other.direct
  pub pointer : flags.pointer ≡ either one.pointer other.pointer
