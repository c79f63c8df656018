-- Sections that ask about no name.
use Rattle.std.proofs.Common.{◌≡◌, ℕ, Bool, true, false, List, [], ◌∷◌, Option, refl, sym, ◌∙◌, ap}
use Rattle.std.specs.List.{list_all, list_any}
use Rattle.abi_base.proofs.lemmas.Bools.{or_is_false}
use Rattle.abi_types.specs.declared.kind.Way.TheVariants.{Direct, Pointer}
use Rattle.abi_types.specs.Exports.{PlainExport}
use Rattle.abi_types.specs.Types.{PlainLabel}
use Rattle.suppression_text.specs.declared.key.Key.{Key}
use Rattle.suppression_text.specs.declared.key.SectionKind.{SectionKind}
use Rattle.suppression_text.specs.declared.key.Key.TheVariants.{Label, Name, NameRegexp, NameNotRegexp, SymbolName, SymbolNameRegexp, SymbolVersion, SymbolVersionRegexp, SonameRegexp, TypeKind, AccessedThrough}
use Rattle.suppression_text.specs.Rules.{PlainProperty, PlainSection}
use Rattle.suppressions.specs.declared.accessed_through.MarkedByWay.{MarkedByWay}
use Rattle.suppressions.specs.Subjects.{PlainSubject, asked, unnamed, section_of_symbol, export_subject, kind_subject, label_subject}
use Rattle.suppressions.specs.Meaning.{property_holds, section_holds, some_section_holds, drops}
use Rattle.suppressions.specs.Known.{name_ways}
use Rattle.suppressions.specs.Names.{asks_name, asks_names, some_ask, judged_label}

module _ (s : PlainSubject) where
  -- the subject and the one without names have the same bytes
  same_asked : (key : Key) → asks_name key ≡ false → asked s key ≡ asked (unnamed s) key
  same_asked Label unasked = refl
  same_asked Name unasked = cc
  same_asked NameRegexp unasked = cc
  same_asked NameNotRegexp unasked = cc
  same_asked SymbolName unasked = cc
  same_asked SymbolNameRegexp unasked = cc
  same_asked SymbolVersion unasked = cc
  same_asked SymbolVersionRegexp unasked = cc
  same_asked SonameRegexp unasked = refl
  same_asked TypeKind unasked = refl
  same_asked AccessedThrough unasked = refl

  same_property : (p : PlainProperty) → asks_name p.key ≡ false → property_holds s p ≡ property_holds (unnamed s) p
  unfolding property_holds
  same_property p unasked = rw (same_asked p.key unasked) refl

  same_all : (ps : List PlainProperty) → list_any (λ (p : PlainProperty). asks_name p.key) ps ≡ false
      → list_all (property_holds s) ps ≡ list_all (property_holds (unnamed s)) ps
  same_all [] none = refl
  same_all (p ∷ ps) none =
      let both = or_is_false (asks_name p.key) (list_any (λ (q : PlainProperty). asks_name q.key) ps) none in
      rw (same_property p both.0, same_all ps both.1) refl

  same_section : (section : PlainSection) → asks_names section ≡ false → section_holds s section ≡ section_holds (unnamed s) section
  unfolding section_holds asks_names
  same_section section none = rw (same_all section.properties none) refl

  pub same_unnamed : (sections : List PlainSection) → some_ask sections ≡ false → some_section_holds sections s ≡ some_section_holds sections (unnamed s)
  same_unnamed [] none = refl
  same_unnamed (section ∷ sections) none =
      let both = or_is_false (asks_names section) (list_any asks_names sections) none in
      rw (same_section section both.0, same_unnamed sections both.1) refl

-- a name and the name that is judged for it have equal marks
pub judged_alike : (sections : List PlainSection) (soname : Option (List ℕ)) (l : PlainLabel) → name_ways sections soname (judged_label sections l) ≡ name_ways sections soname l
judged_alike sections soname l = by_asking (some_ask sections) refl where
  by_asking : (b : Bool) → some_ask sections ≡ b → name_ways sections soname (judged_label sections l) ≡ name_ways sections soname l
  by_asking true is = rw is refl
  by_asking false is =
      rw is (
      let direct = same_unnamed (label_subject soname Direct l) sections is in
      let pointer = same_unnamed (label_subject soname Pointer l) sections is in
      rw (direct, pointer) refl)

pub marked_as_judged : (sections : List PlainSection) (soname : Option (List ℕ)) (l judged : PlainLabel) (ways : MarkedByWay) → judged ≡ judged_label sections l → ways ≡ name_ways sections soname judged → ways ≡ name_ways sections soname l
marked_as_judged sections soname l judged ways same is = is ∙ ap (name_ways sections soname) same ∙ judged_alike sections soname l

-- sections that ask about no name drop all exports of a kind, or none
pub kind_alike : (sections : List PlainSection) (soname : Option (List ℕ)) (e : PlainExport) (kind : SectionKind) → some_ask sections ≡ false → section_of_symbol e.kind ≡ kind → some_section_holds sections (kind_subject soname kind) ≡ drops sections soname e
kind_alike sections soname e kind none is = sym (same_unnamed (export_subject soname e) sections none ∙ ap (λ (k : SectionKind). some_section_holds sections (kind_subject soname k)) is)
