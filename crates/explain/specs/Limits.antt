-- The sentence on memory and limits.
use Rattle.std.specs.Prelude.{◌++◌, ℕ, List, codes}
use Rattle.abi_base.specs.declared.fault.NoMemory.{NoMemory}
use Rattle.abi_base.specs.declared.fault.NoMemory.TheVariants.{Allocation, Past}
use Rattle.abi_base.specs.declared.limit.Limit.{Limit}
use Rattle.abi_base.specs.declared.limit.Limit.TheVariants as limit

-- what a limit counts, in words
abbrev pub limit_words : Limit → List ℕ
limit_words limit.Symbols = codes "dynamic symbols"
limit_words limit.VersionDefinitions = codes "version definitions"
limit_words limit.VersionNeeds = codes "version needs"
limit_words limit.ImportNeeds = codes "version needs"
limit_words limit.NeededFiles = codes "work and bytes of notes"
limit_words limit.ExportNames = codes "names of exports"
limit_words limit.DeclaredNames = codes "names under which exports are declared"
limit_words limit.RangeLists = codes "range lists"
limit_words limit.Abbreviations = codes "abbreviation tables"
limit_words limit.Attributes = codes "attributes of a unit"
limit_words limit.Types = codes "types that exports reach"
limit_words limit.Members = codes "members and parameters"
limit_words limit.Enumerators = codes "enumerators"
limit_words limit.Parts = codes "parts by which types are compared"
limit_words limit.Letters = codes "letters of the names of types and parts"
limit_words limit.TypeNames = codes "names of types"
limit_words limit.Leaves = codes "steps to the leaves of types passed by value"
limit_words limit.Pairs = codes "pairs of types"
limit_words limit.PairParts = codes "parts of pairs of types"
limit_words limit.Breaks = codes "broken rules of types"
limit_words limit.Report = codes "bytes of a report"
limit_words limit.SourcePlaces = codes "bytes of a report"
limit_words limit.TypedefNames = codes "bytes of a report"
limit_words limit.Listing = codes "bytes of a listing"
limit_words limit.LayoutNames = codes "bytes of a listing"
limit_words limit.Soname = codes "bytes of a soname"
limit_words limit.Patterns = codes "weight of patterns"
limit_words limit.PatternClasses = codes "weight of patterns"
limit_words limit.PatternLetters = codes "weight of patterns"
limit_words limit.BlockSections = codes "weight of patterns"
limit_words limit.PairLines = codes "pair lines of a composed certificate"
limit_words limit.ComposedLines = codes "pair lines of a composed certificate"
limit_words limit.Certificate = codes "bytes of a composed certificate"
limit_words limit.Notes = codes "work and bytes of notes"
limit_words limit.IdleSections = codes "tests of sections"
limit_words limit.AffectedExports = codes "exports that reach a break"
limit_words limit.AffectedSteps = codes "exports that reach a break"

-- what is said when memory runs out, or when a count would pass a limit
abbrev pub memory_sentence : NoMemory → List ℕ
memory_sentence Allocation = codes "out of memory"
memory_sentence (Past limit) = codes "past the limit on " ++ limit_words limit ++ codes " (LIMITS in abi(1))"
