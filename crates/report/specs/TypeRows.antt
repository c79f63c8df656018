-- What a row on two types says, rule by rule: the old and the new state, the part of which the rule speaks, and the old and the new value.
-- `v` is the old type, `w` the new one, and i the position of the old part of which the rule speaks.
use Rattle.std.specs.Prelude.{ℕ, List, [], ◌∷◌, unwrap_or, codes, decimal}
use Rattle.std.specs.List.{concat}
use Rattle.abi_types.specs.declared.rule.Rule.{Rule}
use Rattle.abi_types.specs.declared.rule.Rule.TheVariants.{KindOfType, TypeSize, ScalarGroup, TypeAlignment, DeclarationTag, MemberPresence, MemberOffset, BitFieldWidth, EnumeratorPresence, EnumeratorValue, ElementCount, ParameterCount, VariadicArguments, PassingPlace}
use Rattle.abi_types.specs.Types.{PlainView}
use Rattle.abi_types.specs.Graphs.{part_at}
use Rattle.pair_rules.specs.Matching.{number_of}
use Rattle.pair_rules.specs.TypeRules.{bit_at, width_at, value_at, matched, params_of}
use Rattle.report.specs.declared.value.Value.{Value}
use Rattle.report.specs.declared.value.Value.TheVariants.{Nothing, Bytes, Bits, Count, Number, Word}
use Rattle.report.specs.Details.{shown_or_none, part_change, places_change}
use Rattle.report.specs.Places.{place_text}
use Rattle.report.specs.Steps.{part_name, step_text}
use Rattle.report.specs.Values.{tag_value, place_of}
use Rattle.report.specs.Words.{kind_of_type, group_word, yes_or_no, changed}

-- the old and the new state
unfoldable pub type_detail : Rule → PlainView → PlainView → ℕ → List ℕ
type_detail KindOfType v w i = changed (codes "kind") (kind_of_type v.kind) (kind_of_type w.kind)
type_detail TypeSize v w i = changed (codes "size") (decimal v.size) (decimal w.size)
type_detail ScalarGroup v w i = changed (codes "scalar") (group_word v.group) (group_word w.group)
type_detail TypeAlignment v w i = changed (codes "alignment") (decimal v.align) (decimal w.align)
type_detail DeclarationTag v w i = changed (codes "tag") (shown_or_none v.tag) (shown_or_none w.tag)
type_detail MemberPresence v w i = concat (codes "member " ∷ part_name v i ∷ codes " gone" ∷ [])
type_detail MemberOffset v w i = part_change (codes "member ") (codes " at bit ") bit_at v w i
type_detail BitFieldWidth v w i = part_change (codes "member ") (codes " width ") width_at v w i
type_detail EnumeratorPresence v w i = concat (codes "enumerator " ∷ part_name v i ∷ codes " gone" ∷ [])
type_detail EnumeratorValue v w i = part_change (codes "enumerator ") (codes " ") value_at v w i
type_detail ElementCount v w i = changed (codes "count") (decimal v.count) (decimal w.count)
type_detail ParameterCount v w i = changed (codes "parameters") (decimal (params_of v)) (decimal (params_of w))
type_detail VariadicArguments v w i = changed (codes "variadic") (yes_or_no v.variadic) (yes_or_no w.variadic)
type_detail PassingPlace v w i = places_change (part_at v i) (number_of v i) v w
type_detail other v w i = []

-- the printed name of a member or an enumerator, a parameter by its number, or the result; empty if the rule speaks of no part
unfoldable pub part_of : Rule → PlainView → ℕ → List ℕ
part_of MemberPresence v i = part_name v i
part_of MemberOffset v i = part_name v i
part_of BitFieldWidth v i = part_name v i
part_of EnumeratorPresence v i = part_name v i
part_of EnumeratorValue v i = part_name v i
part_of PassingPlace v i = step_text v i
part_of other v i = []

-- the value of a whole type, for a rule that speaks of no part
unfoldable pub whole_value : Rule → PlainView → Value
whole_value KindOfType v = Word (kind_of_type v.kind)
whole_value TypeSize v = Bytes v.size
whole_value ScalarGroup v = Word (group_word v.group)
whole_value TypeAlignment v = Bytes v.align
whole_value DeclarationTag v = tag_value v.tag
whole_value ElementCount v = Count v.count
whole_value ParameterCount v = Count (params_of v)
whole_value VariadicArguments v = Word (yes_or_no v.variadic)
whole_value other v = Nothing

-- the value in the old type
unfoldable pub type_was : Rule → PlainView → ℕ → Value
type_was MemberPresence v i = Word (part_name v i)
type_was MemberOffset v i = Bits (bit_at v i)
type_was BitFieldWidth v i = Bits (width_at v i)
type_was EnumeratorPresence v i = Word (part_name v i)
type_was EnumeratorValue v i = Number (value_at v i)
type_was PassingPlace v i = Word (place_text (place_of (part_at v i) (number_of v i) v))
type_was other v i = whole_value other v

-- the value in the new type, at the match of the old part
unfoldable pub type_is : Rule → PlainView → PlainView → ℕ → Value
type_is MemberPresence v w i = Nothing
type_is MemberOffset v w i = Bits (unwrap_or (matched bit_at v w i) 0)
type_is BitFieldWidth v w i = Bits (unwrap_or (matched width_at v w i) 0)
type_is EnumeratorPresence v w i = Nothing
type_is EnumeratorValue v w i = Number (unwrap_or (matched value_at v w i) 0)
type_is PassingPlace v w i = Word (place_text (place_of (part_at v i) (number_of v i) w))
type_is other v w i = whole_value other w
