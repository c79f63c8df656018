-- Nodes with equal labels have equal marks.
use Rattle.std.proofs.Common.{◌≡◌, ◌<◌, ◌+◌, ℕ, Bool, true, false, List, [], ◌∷◌, ◌++◌, length, take, get_or, map, refl, sym, ◌∙◌, ap}
use Rattle.std.proofs.lemmas.List.{length-map, get_or-map, take_more, map-append}
use Rattle.abi_types.specs.Types.{PlainNode, PlainLabel}
use Rattle.abi_types.specs.Graphs.{node_at, void_node}
use Rattle.abi_types.specs.declared.kind.Way.TheVariants.{Direct, Pointer}
use Rattle.abi_types.specs.Libraries.{PlainLibrary}
use Rattle.suppression_text.specs.Rules.{PlainSection, PlainRules}
use Rattle.suppressions.specs.declared.marking.Flags.{Flags}
use Rattle.suppressions.specs.Flags.{AreFlags, AreEither}
use Rattle.suppressions.specs.Names.{chosen}
use Rattle.suppressions.proofs.FlagLemmas.{together-chosen, joined}
use Rattle.suppressions.specs.Marks.{IsEven, AreEvenMarks, marks_of}
use Rattle.suppressions.specs.Meaning.{is_dropped, is_marked}
use Rattle.abi_types.proofs.lemmas.Records.{marks_with}

even : (f : List PlainLabel → Bool) (nodes : List PlainNode) (flags : List Bool) → flags ≡ map (λ (n : PlainNode). f n.labels) nodes → IsEven nodes flags
even f nodes flags is =
    let at = λ (a : ℕ) (lt : a < length nodes). ap (λ (bs : List Bool). get_or bs a false) is ∙ get_or-map (λ (n : PlainNode). f n.labels) nodes a void_node false lt in
    record {
      each = ap length is ∙ length-map nodes (λ (n : PlainNode). f n.labels);
      even = λ a b a_inside b_inside same. at a a_inside ∙ ap f same ∙ sym (at b b_inside);
    }

pub marks_are_even : (rules : PlainRules) (library : PlainLibrary) → AreEvenMarks library (marks_of rules library)
unfolding marks_of
marks_are_even rules library = record {
  exports = length-map library.exports (is_dropped rules library.soname);
  direct = even (λ (labels : List PlainLabel). is_marked rules library.soname labels Direct) library.graph (marks_of rules library).direct refl;
  pointer = even (λ (labels : List PlainLabel). is_marked rules library.soname labels Pointer) library.graph (marks_of rules library).pointer refl;
}

-- one more node
pub flags_more : (f : List PlainLabel → Bool) (nodes : List PlainNode) (i : ℕ) (flags now : List Bool) (labels : List PlainLabel) (flag : Bool) → i < length nodes
    → flags ≡ map (λ (n : PlainNode). f n.labels) (take i nodes) → labels ≡ (node_at nodes i).labels → flag ≡ f labels → now ≡ flags ++ flag ∷ [] → now ≡ map (λ (n : PlainNode). f n.labels) (take (i + 1) nodes)
flags_more f nodes i flags now labels flag lt was are is put =
    let g = λ (n : PlainNode). f n.labels in
    let here : flag ≡ g (node_at nodes i) = is ∙ ap f are in
    put ∙ ap (λ (bs : List Bool). bs ++ flag ∷ []) was ∙ ap (λ (b : Bool). map g (take i nodes) ++ b ∷ []) here
    ∙ sym (ap (map g) (take_more nodes i void_node lt) ∙ map-append g (take i nodes) (node_at nodes i ∷ []))

-- The sections that ask about names and the others together are all sections.
pub all_are : (old : PlainLibrary) (sections : List PlainSection) (named others flags : Flags) → AreFlags (chosen true sections) old named → AreFlags (chosen false sections) old others → AreEither named others flags → AreFlags sections old flags
all_are old sections named others flags is_named is_others is = joined (chosen true sections) (chosen false sections) sections old named others flags (together-chosen sections) is_named is_others is

-- The flags of all sections are the marks of the rule file.
pub marks_are : (rules : PlainRules) (old : PlainLibrary) (digest : List ℕ) (sections : List PlainSection) (flags : Flags) → digest ≡ rules.digest → sections ≡ rules.sections
    → AreFlags sections old flags → marks_with digest flags.exports flags.direct flags.pointer ≡ marks_of rules old
unfolding marks_of is_dropped is_marked
marks_are rules old digest sections flags is_digest is_sections all = rw (all.exports, all.direct, all.pointer, is_digest, is_sections) refl
