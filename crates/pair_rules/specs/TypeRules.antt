-- The rules on an old type and the new type in its place. `v` is the old type, and `w` the new one.
use Rattle.std.specs.Prelude.{◌≡◌, ◌<◌, ℕ, ◌*◌, ◌^◌, ◌%◌, ◌==◌, Bool, true, false, not, ◌&&◌, ◌||◌, if◌then◌else◌, List, [], ◌∷◌, length, map, filter, flat_map, count_by, slice_get, Option, Some, None, is_none, is_some, MatchBool}
use Rattle.std.specs.List.{range_with_len}
use Rattle.std.specs.Option.{option_map}
use Rattle.std.specs.Str.{bytes_eq}
use Rattle.std.specs.Bool.{beq}
use Rattle.abi_types.specs.declared.kind.Kind.{Kind}
use Rattle.abi_types.specs.declared.kind.Kind.TheVariants as kind
use Rattle.abi_types.specs.declared.place.Place.{Place}
use Rattle.abi_types.specs.declared.rule.Rule.{Rule}
use Rattle.abi_types.specs.declared.rule.Rule.TheVariants.{KindOfType, TypeSize, ScalarGroup, TypeAlignment, DeclarationTag, MemberPresence, MemberOffset, BitFieldWidth, EnumeratorPresence, EnumeratorValue, ElementCount, ParameterCount, VariadicArguments, PassingPlace}
use Rattle.abi_types.specs.Types.{PlainPart, Member, Enumerator, Outcome, PlainView}
use Rattle.abi_types.specs.Forms.{is_scalar, has_elements, is_function, is_member, is_enumerator, is_param}
use Rattle.abi_types.specs.Graphs.{part_at}
use Rattle.pair_rules.specs.declared.rules.Broken.{Broken}
use Rattle.pair_rules.specs.Matching.{number_of, match_of}
use Rattle.pair_rules.specs.Same.{same_kind, same_group, same_place}

-- ---- the types that each rule compares

-- the kinds whose sizes are compared: all except void, pointers and functions
abbrev pub has_size : Kind → Bool
has_size kind.Void = false
has_size kind.Pointer = false
has_size kind.Function = false
has_size other = true

-- the kinds whose explicit alignments are compared: all except void and functions
abbrev pub has_alignment : Kind → Bool
has_alignment kind.Void = false
has_alignment kind.Function = false
has_alignment other = true

-- one of the types is a declaration without a definition
abbrev pub is_declaration : PlainView → PlainView → Bool
is_declaration v w = v.declared_only || w.declared_only

-- both types have definitions and the same kind
abbrev pub are_compared : PlainView → PlainView → Bool
are_compared v w = same_kind v.kind w.kind && not (is_declaration v w)

-- ---- the values of parts

abbrev pub is_outcome : PlainPart → Bool
is_outcome (Outcome to) = true
is_outcome other = false

-- the offset of a member in bits, and its width if it is a bit field, else 0
abbrev pub bit_of : PlainPart → ℕ
bit_of (Member name bit width to) = bit
bit_of other = 0

abbrev pub width_of : PlainPart → ℕ
width_of (Member name bit width to) = width
width_of other = 0

abbrev pub value_of : PlainPart → ℕ
value_of (Enumerator name value) = value
value_of other = 0

-- a value, truncated to this many bytes
unfoldable pub in_bytes : ℕ → ℕ → ℕ
in_bytes size value = value % 2 ^ (8 * size)

abbrev pub bit_at : PlainView → ℕ → ℕ
bit_at v i = bit_of (part_at v i)

abbrev pub width_at : PlainView → ℕ → ℕ
width_at v i = width_of (part_at v i)

-- the value of an enumerator, in the bytes of its enumeration
abbrev pub value_at : PlainView → ℕ → ℕ
value_at v i = in_bytes v.size (value_of (part_at v i))

-- a number of the old part differs from that of its match, if it has a match
abbrev pub differs : ℕ → Option ℕ → Bool
differs old (Some new) = not (old == new)
differs old None = false

-- the value in a type for the match of an old part, if that has a match
abbrev pub matched : (PlainView → ℕ → ℕ) → PlainView → PlainView → ℕ → Option ℕ
matched said v w i = option_map (said w) (match_of v w i)

abbrev pub params_of : PlainView → ℕ
params_of v = count_by is_param v.parts

-- both places exist and differ
abbrev pub places_differ : Option Place → Option Place → Bool
places_differ (Some a) (Some b) = not (same_place a b)
places_differ a b = false

-- the places of the old parameter at position i and of the new parameter with its number differ, if both types have such a
-- parameter and a place for it
abbrev pub param_moved : PlainView → PlainView → ℕ → Bool
param_moved v w i =
    is_some (match_of v w i) && places_differ (slice_get v.call.params (number_of v i)) (slice_get w.call.params (number_of v i))

-- ---- the rules

-- whether two types break a rule on whole types
unfoldable pub breaks_whole : Rule → PlainView → PlainView → Bool
-- their kinds differ
breaks_whole KindOfType v w = not (same_kind v.kind w.kind)
-- their sizes differ
breaks_whole TypeSize v w = has_size v.kind && not (v.size == w.size)
-- the groups of two scalars differ
breaks_whole ScalarGroup v w = is_scalar v.kind && not (same_group v.group w.group)
-- their explicit alignments differ
breaks_whole TypeAlignment v w = has_alignment v.kind && not (v.align == w.align)
-- their tags differ
breaks_whole DeclarationTag v w = not (bytes_eq v.tag w.tag)
-- the counts of two arrays or vectors differ
breaks_whole ElementCount v w = has_elements v.kind && not (v.count == w.count)
-- two functions have different numbers of parameters
breaks_whole ParameterCount v w = is_function v.kind && not (params_of v == params_of w)
-- one function takes variable arguments, and the other does not
breaks_whole VariadicArguments v w = is_function v.kind && not (beq v.variadic w.variadic)
breaks_whole other v w = false

-- whether two types break a rule on parts, at part i of the old one
unfoldable pub breaks_part : Rule → PlainView → PlainView → ℕ → Bool
-- a member has no match
breaks_part MemberPresence v w i = is_member (part_at v i) && is_none (match_of v w i)
-- a matched member has another offset in bits
breaks_part MemberOffset v w i = is_member (part_at v i) && differs (bit_at v i) (matched bit_at v w i)
-- a matched member has another width as a bit field, where 0 means that it is not one
breaks_part BitFieldWidth v w i = is_member (part_at v i) && differs (width_at v i) (matched width_at v w i)
-- an enumerator has no match
breaks_part EnumeratorPresence v w i = is_enumerator (part_at v i) && is_none (match_of v w i)
-- a matched enumerator has another value, each in the bytes of its own enumeration
breaks_part EnumeratorValue v w i = is_enumerator (part_at v i) && differs (value_at v i) (matched value_at v w i)
-- the place of the result differs, or that of a parameter of both
breaks_part PassingPlace v w i =
    (is_outcome (part_at v i) && not (same_place v.call.outcome w.call.outcome)) || (is_param (part_at v i) && param_moved v w i)
breaks_part other v w i = false

-- ---- all broken rules

abbrev pub speaks_of_parts : Rule → Bool
speaks_of_parts MemberPresence = true
speaks_of_parts MemberOffset = true
speaks_of_parts BitFieldWidth = true
speaks_of_parts EnumeratorPresence = true
speaks_of_parts EnumeratorValue = true
speaks_of_parts PassingPlace = true
speaks_of_parts other = false

-- the rules on two definitions of the same kind
abbrev pub definition_rules : List Rule
definition_rules =
    TypeSize ∷ ScalarGroup ∷ TypeAlignment ∷ MemberPresence ∷ MemberOffset ∷ BitFieldWidth ∷ EnumeratorPresence ∷ EnumeratorValue ∷ ElementCount ∷ ParameterCount ∷ VariadicArguments ∷ PassingPlace ∷ []

-- The rules to check, in order: on two kinds only L1; on a declaration and a type of its kind only the tags; on two definitions of
-- the same kind all others.
abbrev pub rules_asked : PlainView → PlainView → List Rule
rules_asked v w = if not (same_kind v.kind w.kind) then KindOfType ∷ [] else (if is_declaration v w then DeclarationTag ∷ [] else definition_rules)

-- a rule broken at a part, or at 0 for a rule on whole types
abbrev pub broken_at : Rule → ℕ → Broken
broken_at rule i = record { rule = rule; part = i }

-- the breaks of a rule by two types, in order of the old parts
unfoldable pub broken : PlainView → PlainView → Rule → List Broken
broken v w rule =
    if speaks_of_parts rule then map (broken_at rule) (filter (breaks_part rule v w) (range_with_len 0 (length v.parts)))
    else (if breaks_whole rule v w then broken_at rule 0 ∷ [] else [])

-- the rules that two types break, ordered by rule and then by old part
unfoldable pub breaks : PlainView → PlainView → List Broken
breaks v w = flat_map (broken v w) (rules_asked v w)

-- A rule on parts is broken at an existing part. Any other rule is broken by whole types, and its position is 0.
abbrev pub IsBroken : PlainView → PlainView → Broken → Type 0
IsBroken v w b =
    MatchBool (speaks_of_parts b.rule)
    ((b.part < length v.parts) × (breaks_part b.rule v w b.part ≡ true))
    ((b.part ≡ 0) × (breaks_whole b.rule v w ≡ true))
