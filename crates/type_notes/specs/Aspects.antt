-- The aspects in which entries are compared that no rule judges.
use Rattle.std.specs.Prelude.{ℕ, Bool, ◌==◌, ◌&&◌, if◌then◌else◌, List, [], ◌∷◌}
use Rattle.abi_base.specs.Dwarf.{dw_tag_variable}
use Rattle.type_reach.specs.declared.role.Role.{Role}
use Rattle.type_reach.specs.declared.role.Role.TheVariants as role
use Rattle.type_reach.specs.contracts.role.RolePartialEq.TheImpl.{ghosts}
use Rattle.type_notes.specs.declared.note.NoteKind.{NoteKind}
use Rattle.type_notes.specs.declared.note.NoteKind.TheVariants as kind
use Rattle.type_notes.specs.declared.aspect.Aspect.{Aspect}
use Rattle.type_notes.specs.declared.aspect.Aspect.TheVariants.{Dimensions, Prototyped, CallingConvention, AddressClass, NoReturn, ParameterNames, Endianity, Sign, Const, Volatile, Restrict, Atomic, ConstObject, VolatileObject}

-- the kind of notes on an aspect
abbrev pub kind_of : Aspect → NoteKind
kind_of Dimensions = kind.ArrayDimensions
kind_of Prototyped = kind.Prototype
kind_of CallingConvention = kind.CallingConvention
kind_of AddressClass = kind.AddressClass
kind_of NoReturn = kind.NoReturn
kind_of ParameterNames = kind.ParameterName
kind_of Endianity = kind.Endianity
kind_of Sign = kind.EnumeratorSign
kind_of Const = kind.Qualifiers
kind_of Volatile = kind.Qualifiers
kind_of Restrict = kind.Qualifiers
kind_of Atomic = kind.Qualifiers
kind_of ConstObject = kind.ObjectQualifiers
kind_of VolatileObject = kind.ObjectQualifiers

-- equality of roles, as the code derives it
abbrev pub same_role : Role → Role → Bool
same_role = ghosts.eq

-- the aspects of an entry of a role, in order; other roles have none
abbrev pub aspects_of : Role → List Aspect
aspects_of role.Array = Dimensions ∷ []
aspects_of role.Function = Prototyped ∷ CallingConvention ∷ AddressClass ∷ NoReturn ∷ ParameterNames ∷ []
aspects_of role.Base = Endianity ∷ []
aspects_of role.Enumeration = Sign ∷ []
aspects_of role.Pointer = AddressClass ∷ Const ∷ Volatile ∷ Restrict ∷ Atomic ∷ []
aspects_of _ = []

-- the aspects of two entries of one role; entries of different roles have none
abbrev pub aspects_between : Role → Role → List Aspect
aspects_between old new = if same_role old new then aspects_of old else []

-- the aspects of two objects, by the tags of the entries (DWARF 5, section 4.1 "Data Object Entries"); other entries have none
abbrev pub object_aspects : ℕ → ℕ → List Aspect
object_aspects old new = if old == dw_tag_variable && new == dw_tag_variable then ConstObject ∷ VolatileObject ∷ [] else []
