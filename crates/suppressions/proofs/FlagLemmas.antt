-- Two lists of sections suppress together what each of them suppresses.
use Rattle.std.proofs.Common.{◌≡◌, ◌<◌, ◌≤◌, ◌+◌, ◌-◌, ℕ, Bool, true, false, List, [], ◌∷◌, ◌++◌, length, take, drop, get_or, map, set, Option, refl, sym, ◌∙◌, ap, subst, arith}
use Rattle.std.specs.Prelude.{◌||◌, not}
use Rattle.std.specs.List.{filter, list_any}
use Rattle.std.proofs.Math.Seq.{take-add}
use Rattle.std.proofs.lemmas.List.{length-map, length-take-le, take_more, length-set, take_all, take_more_set, get_or-set_other}
use Rattle.std.proofs.lemmas.List.Elements.{filter-append}
use Rattle.std.proofs.lemmas.List.Folds.{list_any-append}
use Rattle.abi_base.proofs.lemmas.Cases.{bool_cases}
use Rattle.abi_types.specs.declared.kind.Way.{Way}
use Rattle.abi_types.specs.declared.kind.Way.TheVariants.{Direct, Pointer}
use Rattle.abi_types.specs.Exports.{PlainExport}
use Rattle.abi_types.specs.Libraries.{PlainLibrary}
use Rattle.abi_types.specs.Types.{PlainLabel, PlainNode}
use Rattle.suppression_text.specs.Rules.{PlainSection, PlainRules}
use Rattle.suppressions.specs.declared.marking.Flags.{Flags}
use Rattle.suppressions.specs.Flags.{AreFlags, either, AreEither, AreOfOneSize}
use Rattle.suppressions.specs.Names.{asks_names, is_chosen, chosen}
use Rattle.suppressions.specs.Meaning.{section_holds, some_section_holds, drops, marks_name, marks_names, is_dropped, is_marked}
use Rattle.suppressions.specs.Subjects.{PlainSubject, export_subject, label_subject}

or_first : (a r f g : Bool) → r ≡ (f || g) → (a || r) ≡ ((a || f) || g)
or_first true r f g e = refl
or_first false r f g e = e

or_second : (a r f g : Bool) → r ≡ (f || g) → (a || r) ≡ (f || (a || g))
or_second true r true g e = refl
or_second true r false g e = refl
or_second false r f g e = e

or_both : (x y p q : Bool) → ((x || y) || (p || q)) ≡ ((x || p) || (y || q))
or_both true y p q = refl
or_both false true true q = refl
or_both false true false q = refl
or_both false false p q = refl

-- c matches a subject exactly where a or b does
abbrev pub Together : List PlainSection → List PlainSection → List PlainSection → Type 0
Together a b c = (s : PlainSubject) → some_section_holds c s ≡ (some_section_holds a s || some_section_holds b s)

pub together-append : (a b : List PlainSection) → Together a b (a ++ b)
together-append a b s = list_any-append (section_holds s) a b

any_parts : (h q : PlainSection → Bool) (xs : List PlainSection) → list_any h xs ≡ (list_any h (filter q xs) || list_any h (filter (λ x. not (q x)) xs))
any_parts h q [] = refl
any_parts h q (x ∷ xs) =
    let rest = any_parts h q xs in
    bool_cases (q x)
    (λ yes. rw yes (or_first (h x) (list_any h xs) (list_any h (filter q xs)) (list_any h (filter (λ y. not (q y)) xs)) rest))
    (λ no. rw no (or_second (h x) (list_any h xs) (list_any h (filter q xs)) (list_any h (filter (λ y. not (q y)) xs)) rest))

pub together-chosen : (sections : List PlainSection) → Together (chosen true sections) (chosen false sections) sections
unfolding chosen
together-chosen sections s = any_parts (section_holds s) asks_names sections

pub chosen-append : (asking : Bool) (a b : List PlainSection) → chosen asking (a ++ b) ≡ chosen asking a ++ chosen asking b
unfolding chosen
chosen-append asking a b = filter-append (is_chosen asking) a b

module _ (a b c : List PlainSection) (together : Together a b c) (soname : Option (List ℕ)) where
  pub drops-together : (e : PlainExport) → drops c soname e ≡ (drops a soname e || drops b soname e)
  drops-together e = together (export_subject soname e)

  pub marks-together : (way : Way) (labels : List PlainLabel) → marks_names c soname way labels ≡ (marks_names a soname way labels || marks_names b soname way labels)
  marks-together way [] = refl
  marks-together way (l ∷ labels) =
      let here = together (label_subject soname way l) in
      let rest = marks-together way labels in
      rw (here, rest) (or_both (marks_name a soname way l) (marks_name b soname way l) (marks_names a soname way labels) (marks_names b soname way labels))

either-map : {X : Type 0} (f g h : X → Bool) → ((x : X) → h x ≡ (f x || g x)) → (xs : List X) → either (map f xs) (map g xs) ≡ map h xs
unfolding either
either-map f g h is [] = refl
either-map f g h is (x ∷ xs) = rw (is x, either-map f g h is xs) refl

-- one more place
either-last : (ones others : List Bool) (x y : Bool) → length ones ≡ length others → either (ones ++ x ∷ []) (others ++ y ∷ []) ≡ either ones others ++ (x || y) ∷ []
unfolding either
either-last [] [] x y same = refl
either-last [] (b ∷ others) x y same = cc
either-last (a ∷ ones) [] x y same = cc
either-last (a ∷ ones) (b ∷ others) x y same =
    let rest = either-last ones others x y (omega (arith, same)) in
    rw rest refl

pub either-more : (ones others : List Bool) (i : ℕ) (flags now : List Bool) (flag : Bool) → length ones ≡ length others → i < length ones
    → flags ≡ either (take i ones) (take i others) → flag ≡ (get_or ones i false || get_or others i false) → now ≡ flags ++ flag ∷ [] → now ≡ either (take (i + 1) ones) (take (i + 1) others)
either-more ones others i flags now flag same inside was is put =
    let inside_too : i < length others = omega (arith, same, inside) in
    let len : length (take i ones) ≡ i = length-take-le i ones (omega (arith, inside)) in
    let len_too : length (take i others) ≡ i = length-take-le i others (omega (arith, inside_too)) in
    let x = get_or ones i false in
    let y = get_or others i false in
    put ∙ ap (λ (bs : List Bool). bs ++ flag ∷ []) was ∙ ap (λ (b : Bool). either (take i ones) (take i others) ++ b ∷ []) is
    ∙ sym (either-last (take i ones) (take i others) x y (len ∙ sym len_too))
    ∙ ap (λ (bs : List Bool). either bs (take i others ++ y ∷ [])) (sym (take_more ones i false inside))
    ∙ ap (λ (bs : List Bool). either (take (i + 1) ones) bs) (sym (take_more others i false inside_too))

-- the flags before place i are set where one of the two lists has them set, and the others are those of the first list
pub record IsJoined (ones others : List Bool) (i : ℕ) (flags : List Bool) : Type 0 where
  pub size : length flags ≡ length ones
  pub front : take i flags ≡ either (take i ones) (take i others)
  pub rest : (k : ℕ) → i ≤ k → get_or flags k false ≡ get_or ones k false

pub joined-start : (ones others : List Bool) → IsJoined ones others 0 ones
unfolding either
joined-start ones others = record { size = refl; front = refl; rest = λ k le. refl }

pub joined-more : (ones others flags now : List Bool) (i : ℕ) (flag : Bool) → length ones ≡ length others → i < length others
    → IsJoined ones others i flags → flag ≡ (get_or flags i false || get_or others i false) → now ≡ set flags i flag → IsJoined ones others (i + 1) now
joined-more ones others flags now i flag same inside was is put =
    let here : i < length flags = omega (arith, was.size, same, inside) in
    let inside_ones : i < length ones = omega (arith, same, inside) in
    record {
      size = ap length put ∙ length-set flags i flag ∙ was.size;
      front = either-more ones others i (take i flags) (take (i + 1) now) flag same inside_ones was.front (is ∙ ap (λ (b : Bool). b || get_or others i false) (was.rest i (omega arith)))
          (ap (λ (bs : List Bool). take (i + 1) bs) put ∙ take_more_set flags i flag here);
      rest = λ k le. ap (λ (bs : List Bool). get_or bs k false) put ∙ get_or-set_other flags i k flag false (λ e. omega (arith, le, e)) ∙ was.rest k (omega (arith, le));
    }

pub joined-end : (ones others flags : List Bool) (i : ℕ) → length ones ≡ length others → length others ≤ i → IsJoined ones others i flags → flags ≡ either ones others
joined-end ones others flags i same past all =
    let all_ones : take i ones ≡ ones = take_all i ones (omega (arith, same, past)) in
    let all_flags : take i flags ≡ flags = take_all i flags (omega (arith, all.size, same, past)) in
    sym all_flags ∙ all.front
    ∙ ap (λ (bs : List Bool). either bs (take i others)) all_ones
    ∙ ap (λ (bs : List Bool). either ones bs) (take_all i others past)

-- ---- rule files

pub dropped_by : (rules : PlainRules) (soname : Option (List ℕ)) (e : PlainExport) (named others : List PlainSection) (a b r : Bool) → named ≡ rules.sections → others ≡ rules.sections
    → a ≡ drops (chosen true named) soname e → b ≡ drops (chosen false others) soname e → r ≡ (a || b) → r ≡ is_dropped rules soname e
unfolding is_dropped
dropped_by rules soname e named others a b r is_named is_others is_a is_b is =
    is ∙ rw (is_a, is_b, is_named, is_others) (sym (drops-together (chosen true rules.sections) (chosen false rules.sections) rules.sections (together-chosen rules.sections) soname e))

pub marked_by : (rules : PlainRules) (soname : Option (List ℕ)) (labels : List PlainLabel) (way : Way) (named others : List PlainSection) (a b r : Bool) → named ≡ rules.sections → others ≡ rules.sections
    → a ≡ marks_names (chosen true named) soname way labels → b ≡ marks_names (chosen false others) soname way labels → r ≡ (a || b) → r ≡ is_marked rules soname labels way
unfolding is_marked
marked_by rules soname labels way named others a b r is_named is_others is_a is_b is =
    is ∙ rw (is_a, is_b, is_named, is_others) (sym (marks-together (chosen true rules.sections) (chosen false rules.sections) rules.sections (together-chosen rules.sections) soname way labels))

-- ---- flags

-- joining the flags of two lists gives the flags of all their sections
pub joined : (a b c : List PlainSection) (old : PlainLibrary) (one other flags : Flags) → Together a b c → AreFlags a old one → AreFlags b old other → AreEither one other flags → AreFlags c old flags
joined a b c old one other flags together ones others is = record {
  exports = is.exports ∙ rw (ones.exports, others.exports) (either-map (drops a old.soname) (drops b old.soname) (drops c old.soname) (drops-together a b c together old.soname) old.exports);
  direct = is.direct ∙ rw (ones.direct, others.direct) (either-map (λ (n : PlainNode). marks_names a old.soname Direct n.labels) (λ (n : PlainNode). marks_names b old.soname Direct n.labels) (λ (n : PlainNode). marks_names c old.soname Direct n.labels) (λ (n : PlainNode). marks-together a b c together old.soname Direct n.labels) old.graph);
  pointer = is.pointer ∙ rw (ones.pointer, others.pointer) (either-map (λ (n : PlainNode). marks_names a old.soname Pointer n.labels) (λ (n : PlainNode). marks_names b old.soname Pointer n.labels) (λ (n : PlainNode). marks_names c old.soname Pointer n.labels) (λ (n : PlainNode). marks-together a b c together old.soname Pointer n.labels) old.graph);
}

pub of_one_size : (a b : List PlainSection) (old : PlainLibrary) (one other : Flags) → AreFlags a old one → AreFlags b old other → AreOfOneSize one other
of_one_size a b old one other ones others = record {
  exports = ap length ones.exports ∙ length-map old.exports (drops a old.soname) ∙ sym (ap length others.exports ∙ length-map old.exports (drops b old.soname));
  direct = ap length ones.direct ∙ length-map old.graph (λ (n : PlainNode). marks_names a old.soname Direct n.labels) ∙ sym (ap length others.direct ∙ length-map old.graph (λ (n : PlainNode). marks_names b old.soname Direct n.labels));
  pointer = ap length ones.pointer ∙ length-map old.graph (λ (n : PlainNode). marks_names a old.soname Pointer n.labels) ∙ sym (ap length others.pointer ∙ length-map old.graph (λ (n : PlainNode). marks_names b old.soname Pointer n.labels));
}

-- one more block of sections
pub one_block_more : (asking : Bool) (sections : List PlainSection) (start end : ℕ) (old : PlainLibrary) (one other flags : Flags) → start ≤ end → AreFlags (chosen asking (take start sections)) old one
    → AreFlags (chosen asking (take (end - start) (drop start sections))) old other → AreEither one other flags → AreFlags (chosen asking (take end sections)) old flags
one_block_more asking sections start end old one other flags le ones others is =
    let a = take start sections in
    let b = take (end - start) (drop start sections) in
    let sum : start + (end - start) ≡ end = omega (arith, le) in
    let parts : a ++ b ≡ take end sections = sym (take-add start (end - start) sections) ∙ ap (λ (n : ℕ). take n sections) sum in
    subst (λ (c : List PlainSection). AreFlags (chosen asking c) old flags) parts
    (subst (λ (c : List PlainSection). AreFlags c old flags) (sym (chosen-append asking a b)) (joined (chosen asking a) (chosen asking b) (chosen asking a ++ chosen asking b) old one other flags (together-append (chosen asking a) (chosen asking b)) ones others is))
