-- Subjects: what sections are matched with. A subject is an export, or a name of a type with how a program reaches the type.
use Rattle.std.specs.Prelude.{ℕ, List, [], Option, Some, None, codes}
use Rattle.abi_types.specs.declared.export.SymbolKind.{SymbolKind}
use Rattle.abi_types.specs.declared.export.SymbolKind.TheVariants.{NoType, Object, Func, Common, Tls, Ifunc}
use Rattle.abi_types.specs.declared.kind.LabelKind.{LabelKind}
use Rattle.abi_types.specs.declared.kind.LabelKind.TheVariants as label
use Rattle.abi_types.specs.declared.kind.Way.{Way}
use Rattle.abi_types.specs.declared.kind.Way.TheVariants.{Direct, Pointer}
use Rattle.abi_types.specs.Exports.{PlainExport}
use Rattle.abi_types.specs.Types.{PlainLabel}
use Rattle.suppression_text.specs.declared.key.SectionKind.{SectionKind}
use Rattle.suppression_text.specs.declared.key.SectionKind.TheVariants.{Functions, Variables, Types}
use Rattle.suppression_text.specs.declared.key.Key.{Key}
use Rattle.suppression_text.specs.declared.key.Key.TheVariants.{Label, Name, NameRegexp, NameNotRegexp, SymbolName, SymbolNameRegexp, SymbolVersion, SymbolVersionRegexp, SonameRegexp, TypeKind, AccessedThrough}

-- the kind of sections that can match it, and the bytes that properties test, if it has them
pub record PlainSubject : Type 0 where
  pub kind : SectionKind
  pub name : List ℕ
  pub symbol : Option (List ℕ)
  pub version : Option (List ℕ)
  pub soname : Option (List ℕ)
  pub type_kind : Option (List ℕ)
  pub way : Option (List ℕ)

-- the bytes that a property tests
abbrev pub asked : PlainSubject → Key → Option (List ℕ)
asked s Label = None
asked s Name = Some s.name
asked s NameRegexp = Some s.name
asked s NameNotRegexp = Some s.name
asked s SymbolName = s.symbol
asked s SymbolNameRegexp = s.symbol
asked s SymbolVersion = s.version
asked s SymbolVersionRegexp = s.version
asked s SonameRegexp = s.soname
asked s TypeKind = s.type_kind
asked s AccessedThrough = s.way

-- ---- exports

-- Sections on functions can match functions and symbols without a type. Sections on variables can match all others.
abbrev pub section_of_symbol : SymbolKind → SectionKind
section_of_symbol Func = Functions
section_of_symbol Ifunc = Functions
section_of_symbol NoType = Functions
section_of_symbol Object = Variables
section_of_symbol Common = Variables
section_of_symbol Tls = Variables

-- an export of a library that has this soname
abbrev pub export_subject : Option (List ℕ) → PlainExport → PlainSubject
export_subject soname e = record {
  kind = section_of_symbol e.kind;
  name = e.declared;
  symbol = Some e.name;
  version = e.version;
  soname = soname;
  type_kind = None;
  way = None;
}

-- what all exports of a kind share
abbrev pub kind_subject : Option (List ℕ) → SectionKind → PlainSubject
kind_subject soname kind = record { kind = kind; name = []; symbol = None; version = None; soname = soname; type_kind = None; way = None }

-- ---- types

abbrev pub label_word : LabelKind → List ℕ
label_word label.Structure = codes "struct"
label_word label.Union = codes "union"
label_word label.Enumeration = codes "enum"
label_word label.Typedef = codes "typedef"
label_word label.Builtin = codes "builtin"

abbrev pub accessed_through_word : Way → List ℕ
accessed_through_word Direct = codes "direct"
accessed_through_word Pointer = codes "pointer"

-- a name of a type of a library that has this soname; a program reaches the type in this way
abbrev pub label_subject : Option (List ℕ) → Way → PlainLabel → PlainSubject
label_subject soname way l = record {
  kind = Types;
  name = l.name;
  symbol = None;
  version = None;
  soname = soname;
  type_kind = Some (label_word l.kind);
  way = Some (accessed_through_word way);
}

-- ---- without names

-- the subject without its names
abbrev pub unnamed : PlainSubject → PlainSubject
unnamed s = record s { name = []; symbol = None; version = None }
