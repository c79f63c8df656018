-- The rules: the place of each in the order of rules, its word, and its name.
use Rattle.std.specs.Prelude.{ℕ, List, [], ◌∷◌, codes}
use Rattle.abi_types.specs.declared.rule.Rule.{Rule}
use Rattle.abi_types.specs.declared.rule.Rule.TheVariants.{LibrarySoname, ExportPresence, ExportVersion, ExportKind, ExportSize, ExportType, KindOfType, TypeSize, ScalarGroup, TypeAlignment, DeclarationTag, MemberPresence, MemberOffset, BitFieldWidth, EnumeratorPresence, EnumeratorValue, ElementCount, ParameterCount, VariadicArguments, PassingPlace}

-- the entry of a rule in the table: its place in the order of rules, counted from 0; the word for it in printed text; the plain name of its break
pub record Entry : Type 0 where
  pub place : ℕ
  pub word : List ℕ
  pub name : List ℕ

abbrev pub entry : ℕ → List ℕ → List ℕ → Entry
entry place word name = record { place = place; word = word; name = name }

-- rules of exports first, each group by its numbers
abbrev pub entry_of : Rule → Entry
entry_of LibrarySoname = entry 0 (codes "X1") (codes "soname changed")
entry_of ExportPresence = entry 1 (codes "X2") (codes "export gone")
entry_of ExportVersion = entry 2 (codes "X3") (codes "version gone")
entry_of ExportKind = entry 3 (codes "X4") (codes "symbol kind changed")
entry_of ExportSize = entry 4 (codes "X5") (codes "object size changed")
entry_of ExportType = entry 5 (codes "X6") (codes "type information gone")
entry_of KindOfType = entry 6 (codes "L1") (codes "kind of type changed")
entry_of TypeSize = entry 7 (codes "L2") (codes "size changed")
entry_of ScalarGroup = entry 8 (codes "L3") (codes "sort of scalar changed")
entry_of TypeAlignment = entry 9 (codes "L4") (codes "alignment changed")
entry_of DeclarationTag = entry 10 (codes "L5") (codes "tag changed")
entry_of MemberPresence = entry 11 (codes "L6") (codes "member gone")
entry_of MemberOffset = entry 12 (codes "L7") (codes "member moved")
entry_of BitFieldWidth = entry 13 (codes "L8") (codes "bit field width changed")
entry_of EnumeratorPresence = entry 14 (codes "L9") (codes "enumerator gone")
entry_of EnumeratorValue = entry 15 (codes "L10") (codes "enumerator value changed")
entry_of ElementCount = entry 16 (codes "L11") (codes "element count changed")
entry_of ParameterCount = entry 17 (codes "L12") (codes "parameter count changed")
entry_of VariadicArguments = entry 18 (codes "L13") (codes "variadic arguments changed")
entry_of PassingPlace = entry 19 (codes "L14") (codes "passing place changed")

abbrev pub rule_place : Rule → ℕ
rule_place rule = (entry_of rule).place

abbrev pub rule_word : Rule → List ℕ
rule_word rule = (entry_of rule).word

abbrev pub rule_name : Rule → List ℕ
rule_name rule = (entry_of rule).name

-- all rules, each at its place
unfoldable pub all_rules : List Rule
all_rules = LibrarySoname ∷ ExportPresence ∷ ExportVersion ∷ ExportKind ∷ ExportSize ∷ ExportType ∷ KindOfType ∷ TypeSize ∷ ScalarGroup ∷ TypeAlignment ∷ DeclarationTag ∷ MemberPresence ∷ MemberOffset ∷ BitFieldWidth ∷ EnumeratorPresence ∷ EnumeratorValue ∷ ElementCount ∷ ParameterCount ∷ VariadicArguments ∷ PassingPlace ∷ []
