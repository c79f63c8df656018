-- An empty rule file.
use Rattle.std.proofs.Common.{◌≡◌, ℕ, Bool, false, List, [], ◌∷◌, length, map, Option, None, refl, ◌∙◌, ap}
use Rattle.std.specs.Prelude.{replicate}
use Rattle.std.specs.Str.{chars, is_utf8}
use Rattle.abi_types.specs.Exports.{PlainExport}
use Rattle.abi_types.specs.Libraries.{PlainLibrary}
use Rattle.abi_types.specs.Types.{PlainLabel, PlainNode}
use Rattle.abi_types.specs.declared.kind.Way.{Way}
use Rattle.abi_types.specs.declared.kind.Way.TheVariants.{Direct, Pointer}
use Rattle.pair_compare.specs.Marking.{no_marks}
use Rattle.suppression_text.specs.Faults.{rule_fault}
use Rattle.suppression_text.specs.Lines.{forms_of}
use Rattle.suppression_text.specs.Rules.{PlainRules, rules_of, sections_from}
use Rattle.suppressions.specs.Marks.{export_flags, marks_of, way_flags}
use Rattle.suppressions.specs.Meaning.{is_dropped, is_marked, marks_names}
use Rattle.abi_types.proofs.lemmas.Records.{marks_with}

pub no_fault : rule_fault [] ≡ None
unfolding rule_fault forms_of sections_from is_utf8 chars
no_fault = refl

pub no_sections : (rules_of []).sections ≡ []
unfolding forms_of sections_from
no_sections = refl

-- without sections nothing is dropped or marked

none_marked : (soname : Option (List ℕ)) (way : Way) (labels : List PlainLabel) → marks_names [] soname way labels ≡ false
none_marked soname way [] = refl
none_marked soname way (l ∷ labels) = none_marked soname way labels

pub not_dropped : (rules : PlainRules) (soname : Option (List ℕ)) (e : PlainExport) → rules.sections ≡ [] → is_dropped rules soname e ≡ false
unfolding is_dropped
not_dropped rules soname e none = rw none refl

pub not_marked : (rules : PlainRules) (soname : Option (List ℕ)) (labels : List PlainLabel) (way : Way) → rules.sections ≡ [] → is_marked rules soname labels way ≡ false
unfolding is_marked
not_marked rules soname labels way none = rw none (none_marked soname way labels)

all_false : {X : Type 0} (f : X → Bool) (xs : List X) → ((x : X) → f x ≡ false) → map f xs ≡ replicate (length xs) false
all_false f [] none = refl
all_false f (x ∷ xs) none = let head = none x in let tail = all_false f xs none in cc

pub nothing_marked : (old : PlainLibrary) → marks_of (rules_of []) old ≡ no_marks old
unfolding marks_of no_marks
nothing_marked old =
    let rules = rules_of [] in
    let exports : export_flags rules old ≡ replicate (length old.exports) false =
    all_false (is_dropped rules old.soname) old.exports (λ e. not_dropped rules old.soname e no_sections) in
    let by_way = λ (way : Way). all_false (λ (n : PlainNode). is_marked rules old.soname n.labels way) old.graph (λ n. not_marked rules old.soname n.labels way no_sections) in
    ap (λ (flags : List Bool). marks_with rules.digest flags (way_flags rules old Direct) (way_flags rules old Pointer)) exports
    ∙ ap (λ (flags : List Bool). marks_with rules.digest (replicate (length old.exports) false) flags (way_flags rules old Pointer)) (by_way Direct)
    ∙ ap (λ (flags : List Bool). marks_with rules.digest (replicate (length old.exports) false) (replicate (length old.graph) false) flags) (by_way Pointer)
