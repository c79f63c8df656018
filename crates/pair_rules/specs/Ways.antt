-- The way in which a part is reached.
use Rattle.abi_types.specs.declared.kind.Way.{Way}
use Rattle.abi_types.specs.declared.kind.Way.TheVariants.{Direct, Pointer}
use Rattle.abi_types.specs.Types.{PlainPart, Member, Enumerator, Target, Element, Outcome, Param}

-- The way in which the type that a part names is reached, given the `way` of the part's type: a target through its pointer, a
-- result and a parameter by value from their call, and members and elements in the way of what contains them.
abbrev pub after : Way → PlainPart → Way
after way (Member name bit width to) = way
after way (Enumerator name value) = way
after way (Target to) = Pointer
after way (Element to) = way
after way (Outcome to) = Direct
after way (Param to) = Direct
