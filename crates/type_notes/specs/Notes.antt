-- The kinds of notes in plain words, and what they weigh.
use Rattle.std.specs.Prelude.{ℕ, List, codes}
use Rattle.type_notes.specs.declared.note.NoteKind.{NoteKind}
use Rattle.type_notes.specs.declared.note.NoteKind.TheVariants.{ArrayDimensions, MemberInPadding, UnionWithoutMembers, TagOrName, ParameterName, Qualifiers, Prototype, Endianity, CallingConvention, AddressClass, NoReturn, Packing, EnumeratorSign, DefinedElsewhere, ThreadObject, ObjectQualifiers, ExportAdded, VersionAdded, Successor, AffectedExport, NeedsLibrary, NeedsVersion, NeedsSymbol, IdleSection}
use Rattle.type_notes.specs.declared.note.NoteWeight.{NoteWeight}
use Rattle.type_notes.specs.declared.note.NoteWeight.TheVariants.{CanBreakCallers, OnlyTold}

abbrev pub kind_name : NoteKind → List ℕ
kind_name ArrayDimensions = codes "array dimensions"
kind_name MemberInPadding = codes "member in padding"
kind_name UnionWithoutMembers = codes "union without members"
kind_name TagOrName = codes "name of type"
kind_name ParameterName = codes "parameter name"
kind_name Qualifiers = codes "qualifiers"
kind_name Prototype = codes "prototype"
kind_name Endianity = codes "endianity"
kind_name CallingConvention = codes "calling convention"
kind_name AddressClass = codes "address class"
kind_name NoReturn = codes "no return"
kind_name Packing = codes "packing"
kind_name EnumeratorSign = codes "enumerator sign"
kind_name DefinedElsewhere = codes "defined elsewhere"
kind_name ThreadObject = codes "thread-local object"
kind_name ObjectQualifiers = codes "object qualifiers"
kind_name ExportAdded = codes "export added"
kind_name VersionAdded = codes "version added"
kind_name Successor = codes "likely successor"
kind_name AffectedExport = codes "affected export"
kind_name NeedsLibrary = codes "needs library"
kind_name NeedsVersion = codes "needs version"
kind_name NeedsSymbol = codes "needs symbol"
kind_name IdleSection = codes "idle section"

-- A difference in what callers were compiled with can break them: the dimensions of an array, a member in padding, a union without
-- members, the byte order, the calling convention, the address class, packing, the sign of enumerators, a definition elsewhere, the
-- size of a thread-local object, and the qualifiers of an object. A note of another kind is only told.
abbrev pub weight_of : NoteKind → NoteWeight
weight_of ArrayDimensions = CanBreakCallers
weight_of MemberInPadding = CanBreakCallers
weight_of UnionWithoutMembers = CanBreakCallers
weight_of TagOrName = OnlyTold
weight_of ParameterName = OnlyTold
weight_of Qualifiers = OnlyTold
weight_of Prototype = OnlyTold
weight_of Endianity = CanBreakCallers
weight_of CallingConvention = CanBreakCallers
weight_of AddressClass = CanBreakCallers
weight_of NoReturn = OnlyTold
weight_of Packing = CanBreakCallers
weight_of EnumeratorSign = CanBreakCallers
weight_of DefinedElsewhere = CanBreakCallers
weight_of ThreadObject = CanBreakCallers
weight_of ObjectQualifiers = CanBreakCallers
weight_of ExportAdded = OnlyTold
weight_of VersionAdded = OnlyTold
weight_of Successor = OnlyTold
weight_of AffectedExport = OnlyTold
weight_of NeedsLibrary = OnlyTold
weight_of NeedsVersion = OnlyTold
weight_of NeedsSymbol = OnlyTold
weight_of IdleSection = OnlyTold
