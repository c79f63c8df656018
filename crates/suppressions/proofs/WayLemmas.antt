-- Sections without `accessed_through`.
use Rattle.std.proofs.Common.{◌≡◌, ℕ, false, List, [], ◌∷◌, map, Option, refl}
use Rattle.std.specs.List.{list_all, list_any}
use Rattle.abi_base.proofs.lemmas.Bools.{or_is_false}
use Rattle.abi_types.specs.declared.kind.Way.TheVariants.{Direct, Pointer}
use Rattle.abi_types.specs.Libraries.{PlainLibrary}
use Rattle.abi_types.specs.Types.{PlainLabel, PlainNode}
use Rattle.suppression_text.specs.declared.key.Key.{Key}
use Rattle.suppression_text.specs.declared.key.Key.TheVariants.{Label, Name, NameRegexp, NameNotRegexp, SymbolName, SymbolNameRegexp, SymbolVersion, SymbolVersionRegexp, SonameRegexp, TypeKind, AccessedThrough}
use Rattle.suppression_text.specs.Keys.{same_key}
use Rattle.suppression_text.specs.Faults.{has}
use Rattle.suppression_text.specs.Rules.{PlainProperty, PlainSection, PlainRules}
use Rattle.suppressions.specs.Subjects.{asked, label_subject}
use Rattle.suppressions.specs.Meaning.{property_holds, section_holds, marks_name, marks_names, is_marked}
use Rattle.suppressions.specs.Marks.{AreAtBothWays, marks_of}
use Rattle.suppressions.specs.Reasons.{HasNoWays}

module _ (soname : Option (List ℕ)) (l : PlainLabel) where
  -- the subject has the same bytes by value and through a pointer
  same_asked : (key : Key) → same_key AccessedThrough key ≡ false → asked (label_subject soname Direct l) key ≡ asked (label_subject soname Pointer l) key
  same_asked Label other = refl
  same_asked Name other = refl
  same_asked NameRegexp other = refl
  same_asked NameNotRegexp other = refl
  same_asked SymbolName other = refl
  same_asked SymbolNameRegexp other = refl
  same_asked SymbolVersion other = refl
  same_asked SymbolVersionRegexp other = refl
  same_asked SonameRegexp other = refl
  same_asked TypeKind other = refl
  same_asked AccessedThrough other = cc

  same_holds : (p : PlainProperty) → same_key AccessedThrough p.key ≡ false → property_holds (label_subject soname Direct l) p ≡ property_holds (label_subject soname Pointer l) p
  unfolding property_holds
  same_holds p other = rw (same_asked p.key other) refl

  same_all : (ps : List PlainProperty) → list_any (λ (p : PlainProperty). same_key AccessedThrough p.key) ps ≡ false
      → list_all (property_holds (label_subject soname Direct l)) ps ≡ list_all (property_holds (label_subject soname Pointer l)) ps
  same_all [] none = refl
  same_all (p ∷ ps) none =
      let both = or_is_false (same_key AccessedThrough p.key) (list_any (λ (q : PlainProperty). same_key AccessedThrough q.key) ps) none in
      rw (same_holds p both.0, same_all ps both.1) refl

  same_section : (s : PlainSection) → has AccessedThrough s ≡ false → section_holds (label_subject soname Direct l) s ≡ section_holds (label_subject soname Pointer l) s
  unfolding section_holds
  same_section s none = rw (same_all s.properties none) refl

  same_sections : (ss : List PlainSection) → list_any (has AccessedThrough) ss ≡ false → marks_name ss soname Direct l ≡ marks_name ss soname Pointer l
  same_sections [] none = refl
  same_sections (s ∷ ss) none =
      let both = or_is_false (has AccessedThrough s) (list_any (has AccessedThrough) ss) none in
      rw (same_section s both.0, same_sections ss both.1) refl

pub same_ways : (sections : List PlainSection) (soname : Option (List ℕ)) (labels : List PlainLabel) → list_any (has AccessedThrough) sections ≡ false → marks_names sections soname Direct labels ≡ marks_names sections soname Pointer labels
same_ways sections soname [] none = refl
same_ways sections soname (l ∷ labels) none = rw (same_sections soname l sections none, same_ways sections soname labels none) refl

pub see_no_way : (rules : PlainRules) (soname : Option (List ℕ)) (labels : List PlainLabel) → HasNoWays rules → is_marked rules soname labels Direct ≡ is_marked rules soname labels Pointer
unfolding is_marked
see_no_way rules soname labels none = same_ways rules.sections soname labels none

same_flags : (rules : PlainRules) (soname : Option (List ℕ)) (nodes : List PlainNode) → HasNoWays rules
    → map (λ (n : PlainNode). is_marked rules soname n.labels Pointer) nodes ≡ map (λ (n : PlainNode). is_marked rules soname n.labels Direct) nodes
same_flags rules soname [] none = refl
same_flags rules soname (n ∷ nodes) none = let head = see_no_way rules soname n.labels none in let tail = same_flags rules soname nodes none in cc

pub marks_at_both_ways : (rules : PlainRules) (library : PlainLibrary) → HasNoWays rules → AreAtBothWays (marks_of rules library)
unfolding marks_of
marks_at_both_ways rules library none = same_flags rules library.soname library.graph none
