-- From types that break no rule a move leads to matching parts.
use Rattle.std.proofs.Common.{◌≡◌, ◌<◌, ◌≤◌, ℕ, suc, Bool, true, false, not, List, [], ◌∷◌, length, take, Option, Some, None, refl, sym, ◌∙◌, ap, subst, eqb, arith, inl, inr}
use Rattle.std.specs.Prelude.{is_none, ◌&&◌, ◌||◌}
use Rattle.std.specs.List.{filter, Contains}
use Rattle.std.specs.Option.{option_map}
use Rattle.std.proofs.lemmas.Bool.{or_cases, not-false, eqb-true, false_from_ne_true, false≢true}
use Rattle.std.proofs.lemmas.List.Sums.{length-filter}
use Rattle.std.proofs.lemmas.Option.{none-some}
use denote.Enum.Bare.{sameb, same_true}
use Rattle.abi_base.proofs.lemmas.Lists.{fewer_before}
use Rattle.abi_types.specs.contracts.rule.Rule.{the_type}
use Rattle.abi_types.specs.declared.kind.Kind.{Kind}
use Rattle.abi_types.specs.declared.rule.Rule.{Rule}
use Rattle.abi_types.specs.declared.rule.Rule.TheVariants.{MemberPresence, MemberOffset, BitFieldWidth, ParameterCount}
use Rattle.abi_types.specs.Types.{PlainPart, Member, Enumerator, Target, Element, Outcome, Param, PlainView}
use Rattle.abi_types.specs.Forms.{is_function, is_member, is_param, HasForm, parts_fit}
use Rattle.abi_types.specs.Graphs.{part_at, no_part, to_of}
use Rattle.abi_types.specs.Parts.{like}
use Rattle.pair_rules.specs.declared.rules.Broken.{Broken}
use Rattle.pair_rules.specs.Matching.{match_of, IsMatch}
use Rattle.pair_rules.specs.TypeRules.{are_compared, breaks_whole, breaks_part, speaks_of_parts, definition_rules, rules_asked, broken_at, breaks, bit_at, width_at, params_of, differs, IsBroken}
use Rattle.pair_rules.proofs.lemmas.Asked.{rules_asked-defined}
use Rattle.accesses.specs.Moves.{Move, named, IsNamed}
use Rattle.accesses.proofs.Known.{Laws}
use Rattle.accesses.proofs.Naming.{named-match, is_single}
use Rattle.accesses.proofs.Forming.{single-first, single-too, param-function}

-- ---- what is not broken

pub nothing-in : (b : Broken) → Contains [] b → ⊥
nothing-in b (k, inside, at) = omega arith

-- no break is listed
pub unlisted : (v w : PlainView) → breaks v w ≡ [] → (b : Broken) → Contains (breaks v w) b → ⊥
unlisted v w none b there = nothing-in b (subst (λ (xs : List Broken). Contains xs b) none there)

-- a rule stands in a list
abbrev pub among : Rule → List Rule → Bool
among rule [] = false
among rule (r ∷ rules) = sameb the_type r rule || among rule rules

Contains-from_among : (rule : Rule) (rules : List Rule) → among rule rules ≡ true → Contains rules rule
Contains-from_among rule [] is = absurd cc
Contains-from_among rule (r ∷ rules) is =
    elim (or_cases (sameb the_type r rule) (among rule rules) is) [
      | inl here ↦ (0, omega arith, same_true the_type tt r rule here)
      | inr later ↦ let there = Contains-from_among rule rules later in (suc there.0, omega (arith, there.1), there.2)
    ]

asked-defined : (v w : PlainView) → are_compared v w ≡ true → (rule : Rule) → among rule definition_rules ≡ true → Contains (rules_asked v w) rule
asked-defined v w compared rule is_among =
    subst (λ (rules : List Rule). Contains rules rule) (sym (rules_asked-defined v w compared)) (Contains-from_among rule definition_rules is_among)

pub unbroken_part : Laws → (v w : PlainView) → are_compared v w ≡ true → breaks v w ≡ [] → (rule : Rule) → among rule definition_rules ≡ true → speaks_of_parts rule ≡ true → (i : ℕ) → i < length v.parts → breaks_part rule v w i ≡ false
unbroken_part laws v w compared none rule is_among speaks i inside =
    false_from_ne_true (breaks_part rule v w i)
    (λ broken.
    let is : IsBroken v w (broken_at rule i) = rw speaks (inside, broken) in
    unlisted v w none (broken_at rule i) ((laws.listed v w (broken_at rule i)).1 (asked-defined v w compared rule is_among, is)))

pub unbroken_whole : Laws → (v w : PlainView) → are_compared v w ≡ true → breaks v w ≡ [] → (rule : Rule) → among rule definition_rules ≡ true → speaks_of_parts rule ≡ false → breaks_whole rule v w ≡ false
unbroken_whole laws v w compared none rule is_among speaks =
    false_from_ne_true (breaks_whole rule v w)
    (λ broken.
    let is : IsBroken v w (broken_at rule 0) = rw speaks (refl, broken) in
    unlisted v w none (broken_at rule 0) ((laws.listed v w (broken_at rule 0)).1 (asked-defined v w compared rule is_among, is)))

-- ---- what a test that is not passed says

pub first_false : (x y : Bool) → (x && y) ≡ false → x ≡ true → y ≡ false
first_false true y e passes = e
first_false false y e passes = absurd cc

pub same-number : (m n : ℕ) → not (eqb m n) ≡ false → m ≡ n
same-number m n e = eqb-true m n (not-false (eqb m n) e)

-- ---- a part that names a node has a match

single-unmatched : Laws → (v w : PlainView) → HasForm v → HasForm w → v.kind ≡ w.kind → (i : ℕ) → is_single (part_at v i) ≡ true → match_of v w i ≡ None → ⊥
single-unmatched laws v w form form' kinds i single none =
    let first : i ≡ 0 = single-first v.kind v.parts i form.parts single in
    let fit : parts_fit v.kind w.parts ≡ true = subst (λ (k : Kind). parts_fit k w.parts ≡ true) (sym kinds) form'.parts in
    let there = single-too v.kind v.parts w.parts form.parts fit (subst (λ (j : ℕ). is_single (part_at v j) ≡ true) first single) in
    let few : length (filter (like (part_at v 0)) w.parts) ≤ 0 = (laws.missing v w 0).0 (subst (λ (j : ℕ). match_of v w j ≡ None) first none) in
    omega arith

param-unmatched : Laws → (v w : PlainView) → HasForm v → are_compared v w ≡ true → breaks v w ≡ [] → (i to : ℕ) → i < length v.parts → part_at v i ≡ Param to → match_of v w i ≡ None → ⊥
unfolding breaks_whole
param-unmatched laws v w form compared none i to inside is missing =
    let param : is_param (part_at v i) ≡ true = rw is refl in
    let function = param-function v.kind v.parts i form.parts inside param in
    let unbroken : (is_function v.kind && not (eqb (params_of v) (params_of w))) ≡ false = unbroken_whole laws v w compared none ParameterCount refl refl in
    let same = same-number (params_of v) (params_of w) (first_false (is_function v.kind) (not (eqb (params_of v) (params_of w))) unbroken function) in
    let like-param : like (part_at v i) ≡ is_param = rw is (λ k q. likes q k) in
    let P : (PlainPart → Bool) → Type 0 = λ f. length (filter f w.parts) ≤ length (filter f (take i v.parts)) in
    let few : length (filter is_param w.parts) ≤ length (filter is_param (take i v.parts)) = subst P like-param ((laws.missing v w i).0 missing) in
    let fewer = fewer_before is_param v.parts i no_part inside param in
    omega (arith, length-filter is_param v.parts, length-filter is_param w.parts)
  where
    likes : (q : PlainPart) → like (Param to) q ≡ is_param q
    likes (Param b) = refl
    likes q = refl

member-unmatched : Laws → (v w : PlainView) → are_compared v w ≡ true → breaks v w ≡ [] → (i : ℕ) → i < length v.parts → is_member (part_at v i) ≡ true → match_of v w i ≡ None → ⊥
unfolding breaks_part
member-unmatched laws v w compared none i inside member missing =
    let unbroken : (is_member (part_at v i) && is_none (match_of v w i)) ≡ false = unbroken_part laws v w compared none MemberPresence refl refl i inside in
    let some = first_false (is_member (part_at v i)) (is_none (match_of v w i)) unbroken member in
    false≢true (sym some ∙ ap is_none missing)

pub unmatched : Laws → (v w : PlainView) → HasForm v → HasForm w → v.kind ≡ w.kind → are_compared v w ≡ true → breaks v w ≡ [] → (i to : ℕ) → i < length v.parts → to_of (part_at v i) ≡ Some to → match_of v w i ≡ None → ⊥
unmatched laws v w form form' kinds compared none i to inside names missing = go (part_at v i) refl where
  go : (p : PlainPart) → part_at v i ≡ p → ⊥
  go (Member name bit width at) is = member-unmatched laws v w compared none i inside (rw is refl) missing
  go (Enumerator name value) is = none-some to (sym (ap to_of is) ∙ names)
  go (Target at) is = single-unmatched laws v w form form' kinds i (rw is refl) missing
  go (Element at) is = single-unmatched laws v w form form' kinds i (rw is refl) missing
  go (Outcome at) is = single-unmatched laws v w form form' kinds i (rw is refl) missing
  go (Param at) is = param-unmatched laws v w form compared none i at inside is missing

-- ---- and stands at the same bit with the same width

-- the part of the new type to which a move leads, beside that of the old one
pub record Advance (v w : PlainView) (move : Move) (i : ℕ) : Type 0 where
  pub place : ℕ
  pub match : IsMatch v w i place
  pub named_there : named w move ≡ Some place
  pub bits : is_member (part_at v i) ≡ true → bit_at v i ≡ bit_at w place
  pub widths : is_member (part_at v i) ≡ true → width_at v i ≡ width_at w place

same-bit : Laws → (v w : PlainView) → are_compared v w ≡ true → breaks v w ≡ [] → (i j : ℕ) → i < length v.parts → match_of v w i ≡ Some j → is_member (part_at v i) ≡ true → bit_at v i ≡ bit_at w j
unfolding breaks_part
same-bit laws v w compared none i j inside is member =
    let unbroken : (is_member (part_at v i) && differs (bit_at v i) (option_map (bit_at w) (match_of v w i))) ≡ false = unbroken_part laws v w compared none MemberOffset refl refl i inside in
    let same = first_false (is_member (part_at v i)) (differs (bit_at v i) (option_map (bit_at w) (match_of v w i))) unbroken member in
    same-number (bit_at v i) (bit_at w j) (sym (ap (λ o. differs (bit_at v i) (option_map (bit_at w) o)) is) ∙ same)

same-width : Laws → (v w : PlainView) → are_compared v w ≡ true → breaks v w ≡ [] → (i j : ℕ) → i < length v.parts → match_of v w i ≡ Some j → is_member (part_at v i) ≡ true → width_at v i ≡ width_at w j
unfolding breaks_part
same-width laws v w compared none i j inside is member =
    let unbroken : (is_member (part_at v i) && differs (width_at v i) (option_map (width_at w) (match_of v w i))) ≡ false = unbroken_part laws v w compared none BitFieldWidth refl refl i inside in
    let same = first_false (is_member (part_at v i)) (differs (width_at v i) (option_map (width_at w) (match_of v w i))) unbroken member in
    same-number (width_at v i) (width_at w j) (sym (ap (λ o. differs (width_at v i) (option_map (width_at w) o)) is) ∙ same)

pub advance : Laws → (v w : PlainView) → HasForm v → HasForm w → v.kind ≡ w.kind → are_compared v w ≡ true → breaks v w ≡ [] → (move : Move) (i to : ℕ) → IsNamed v move i → to_of (part_at v i) ≡ Some to → Advance v w move i
advance laws v w form form' kinds compared none move i to is names = go (match_of v w i) refl where
  go : (o : Option ℕ) → match_of v w i ≡ o → Advance v w move i
  go None e = absurd (unmatched laws v w form form' kinds compared none i to is.inside names e)
  go (Some j) e = record {
    place = j;
    match = (laws.found v w i j).0 e;
    named_there = named-match v w move i is ∙ e;
    bits = same-bit laws v w compared none i j is.inside e;
    widths = same-width laws v w compared none i j is.inside e;
  }
