-- Agreement: two types look the same to a program, apart from their members and from what their parts lead to.
use Rattle.std.specs.Prelude.{◌≡◌, ◌<◌, ℕ, true, length, MatchBool, Some}
use Rattle.abi_types.specs.Types.{PlainView}
use Rattle.abi_types.specs.Forms.{is_enumerator, is_member}
use Rattle.abi_types.specs.Graphs.{part_at}
use Rattle.pair_rules.specs.Matching.{match_of, IsMatch}
use Rattle.pair_rules.specs.TypeRules.{has_alignment, is_declaration, are_compared, in_bytes, value_of, params_of, bit_at, width_at}

-- enumerator i has a match with an equal value, in the bytes of its enumeration
pub record HasValue (v w : PlainView) (i : ℕ) : Type 0 where
  pub place : ℕ
  pub match : IsMatch v w i place
  pub value : in_bytes v.size (value_of (part_at v i)) ≡ in_bytes v.size (value_of (part_at w place))

-- two definitions agree
pub record AgreeDefined (v w : PlainView) : Type 0 where
  pub sizes : v.size ≡ w.size
  pub groups : v.group ≡ w.group
  pub alignments : has_alignment v.kind ≡ true → v.align ≡ w.align
  pub counts : v.count ≡ w.count
  pub params : params_of v ≡ params_of w
  pub variadic : v.variadic ≡ w.variadic
  pub result_place : v.call.outcome ≡ w.call.outcome
  pub param_places : v.call.params ≡ w.call.params
  pub enumerators : (i : ℕ) → i < length v.parts → is_enumerator (part_at v i) ≡ true → HasValue v w i

-- Their kinds are equal. If one has no definition, their tags are equal; else they agree as definitions.
pub record Agree (v w : PlainView) : Type 0 where
  pub kinds : v.kind ≡ w.kind
  pub rest : MatchBool (is_declaration v w) (v.tag ≡ w.tag) (AgreeDefined v w)

-- member i of a compared type has no match with the same offset and the same width in bits
pub record MemberBreaks (v w : PlainView) (i : ℕ) : Type 0 where
  pub inside : i < length v.parts
  pub member : is_member (part_at v i) ≡ true
  pub compared : are_compared v w ≡ true
  pub unmatched : (j : ℕ) → match_of v w i ≡ Some j → bit_at v i ≡ bit_at w j → width_at v i ≡ width_at w j → ⊥
