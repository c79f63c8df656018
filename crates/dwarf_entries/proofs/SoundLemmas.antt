-- What holds of entries that have no fault.
use Rattle.std.proofs.Common.{◌≡◌, ◌∙◌, ℕ, zero, suc, ◌<◌, Bool, true, false, List, [], ◌∷◌, length, map, Option, Some, None, Result, Ok, Err, refl, sym, ap, subst, inl, inr}
use Rattle.std.specs.Prelude.{◌⊎◌, ◌&&◌, ◌==◌, find, is_some, IfSome, IsSome, IsOk}
use Rattle.std.specs.List.{list_any}
use Rattle.std.specs.Option.{option_map_or}
use Rattle.std.proofs.lemmas.Bool.{cases_Bool, or_parts}
use Rattle.std.proofs.lemmas.List.Quantifiers.{position-Some}
use Rattle.std.proofs.lemmas.Option.{same_Some}
use Rattle.abi_base.proofs.lemmas.Outcomes.{fault_if-none}
use Rattle.abi_base.proofs.lemmas.Cases.{option_cases}
use Rattle.abi_base.specs.Dwarf.{dw_at_name, dw_at_abstract_origin, dw_at_specification, dw_at_type}
use Rattle.abi_base.specs.declared.fault.Fault.{Fault}
use Rattle.abi_base.specs.declared.fault.FaultKind.{FaultKind}
use Rattle.abi_base.specs.declared.fault.FaultKind.TheVariants as kind
use Rattle.abi_base.specs.Outcome.{fault_if, first, or_end}
use Rattle.abi_base.specs.Tables.{entry_of_table}
use Rattle.dwarf_forms.specs.declared.values.Value.{Value}
use Rattle.dwarf_forms.specs.declared.values.Value.TheVariants as value
use Rattle.dwarf_forms.specs.Values.{fault}
use Rattle.dwarf_text.specs.Texts.{text_of}
use Rattle.dwarf_tree.specs.Trees.{PlainTree, entry_at, entry_of, head_at, no_entry, own_of}
use Rattle.dwarf_entries.specs.Addresses.{tag_at}
use Rattle.dwarf_entries.specs.Chains.{is_own_attribute, is_read_tag, is_too_deep, signed_of, target_of, linked, either_link, read_link, link_by, link_of, holder_of, attribute_along, name_of, own_text, known_text}
use Rattle.dwarf_entries.specs.declared.link.Link.{Link}
use Rattle.dwarf_entries.specs.declared.link.Link.TheVariants.{Missing, Nowhere, To}
use Rattle.dwarf_entries.specs.Debug.{PlainDwarf, bases_of, text_at_entry}
use Rattle.dwarf_entries.specs.Pass.{address_faults, entry_fault, entry_rows, has_bad_reference, name_fault, of_kind, references, refers_nowhere, is_signed, lacks_unit}
use Rattle.dwarf_entries.specs.Sound.{AreFaultless, IsSound, RefersThere}
use Rattle.dwarf_entries.proofs.ChainLemmas.{rest_of, holder_found}

-- ---- the rows of an entry

none_both : (o : Option Fault) (os : List (Option Fault)) → first (o ∷ os) ≡ None → (o ≡ None) × (first os ≡ None)
none_both None os h = (refl, h)
none_both (Some f) os h = absurd cc

-- a text has only these faults
abbrev IsOfText : ℕ → Fault → Type 0
IsOfText entry f = (fault kind.Text entry ≡ f) ⊎ (fault kind.Index entry ≡ f)

end_is : {A : Type 0} (o : Option A) (g f : Fault) → ◌≡◌ {A = Result A Fault} (or_end o g) (Err f) → g ≡ f
end_is {A = A} None g f h = ap (λ (r : Result A Fault). err_or g r) h
  where
    err_or : Fault → Result A Fault → Fault
    err_or d (Ok x) = d
    err_or d (Err e) = e
end_is (Some x) g f h = absurd cc

text_fault : (info str line_str offsets : List ℕ) (base : Option ℕ) (entry : ℕ) (v : Value) (f : Fault) → text_of info str line_str offsets base entry v ≡ Err f → IsOfText entry f
text_fault info str line_str offsets base entry (value.Inline place) f h = inl (end_is _ _ f h)
text_fault info str line_str offsets base entry (value.StrOffset place) f h = inl (end_is _ _ f h)
text_fault info str line_str offsets base entry (value.LineOffset place) f h = inl (end_is _ _ f h)
text_fault info str line_str offsets base entry (value.StrIndex k) f h =
    option_cases (entry_of_table 4 offsets base k) (λ is. inr (end_is {A = List ℕ} None (fault kind.Index entry) f (rw is at h))) (λ place is. inl (end_is _ _ f (rw is at h)))
text_fault info str line_str offsets base entry other f h = inl (end_is {A = List ℕ} None (fault kind.Text entry) f h)

of_text : (d : PlainDwarf) (e : ℕ) (v : Value) (f : Fault) → text_at_entry d e v ≡ Err f → IsOfText (entry_at d.tree e).offset f
unfolding text_at_entry
of_text d e v f at = text_fault d.sections.info d.sections.str d.sections.line_str d.sections.str_offsets (bases_of d (entry_at d.tree e).unit).str_offsets (entry_at d.tree e).offset v f at

some_of : (k : FaultKind) (f : Fault) → of_kind k (Some f) ≡ None → of_kind k (Some f) ≡ Some f → ⊥
some_of k f none some = cc

own_name : (d : PlainDwarf) (e : ℕ) (own : Option Value) → own_of d.tree e dw_at_name ≡ own → of_kind kind.Text (name_fault d e) ≡ None → of_kind kind.Index (name_fault d e) ≡ None
    → IfSome own (λ v. IsOk (text_at_entry d e v))
own_name d e None is no_text no_index = tt
own_name d e (Some v) is no_text no_index = cases (text_at_entry d e v) refl
  where
    name_is : (f : Fault) → text_at_entry d e v ≡ Err f → name_fault d e ≡ Some f
    name_is f at = rw (is, at) refl

    refused : (f : Fault) → text_at_entry d e v ≡ Err f → ⊥
    refused f at =
        elim (of_text d e v f at) [
          | inl text ↦ absurd (some_of kind.Text f (rw (name_is f at) at no_text) (subst (λ (g : Fault). of_kind kind.Text (Some g) ≡ Some g) text refl))
          | inr index ↦ absurd (some_of kind.Index f (rw (name_is f at) at no_index) (subst (λ (g : Fault). of_kind kind.Index (Some g) ≡ Some g) index refl))
        ]

    cases : (r : Result (List ℕ) Fault) → text_at_entry d e v ≡ r → IsOk (text_at_entry d e v)
    cases (Ok text) at = rw at refl
    cases (Err f) at = absurd (refused f at)

refers : (t : PlainTree) (value : Option Value) → refers_nowhere t value ≡ false → RefersThere t value
refers t None h = tt
refers t (Some v) h = there (target_of t v) refl
  where
    there : (o : Option ℕ) → target_of t v ≡ o → IsSome (target_of t v)
    there None is = absurd (let e = rw is at h in cc)
    there (Some f) is = rw is refl

pub entry_sound : (d : PlainDwarf) (e : ℕ) → entry_fault d e ≡ None → is_read_tag (tag_at d.tree e) ≡ true → IsSound d e
unfolding entry_fault entry_rows has_bad_reference
entry_sound d e none is_read =
    let rows = rw is_read at none in
    let text = none_both (of_kind kind.Text (name_fault d e)) _ rows in
    let index = none_both (first (map (of_kind kind.Index) (name_fault d e ∷ address_faults d e))) _ text.1 in
    let reference = none_both (fault_if (has_bad_reference d.tree e) kind.Reference (entry_at d.tree e).offset) _ index.1 in
    let deep = none_both (fault_if (is_too_deep d.tree e) kind.OriginTooDeep (entry_at d.tree e).offset) _ reference.1 in
    let own = none_both (of_kind kind.Index (name_fault d e)) (map (of_kind kind.Index) (address_faults d e)) index.0 in
    let sound = fault_if-none (has_bad_reference d.tree e) kind.Reference (entry_at d.tree e).offset reference.0 in
    let parts = or_parts (list_any (λ name. refers_nowhere d.tree (own_of d.tree e name)) references) (is_signed (tag_at d.tree e) && lacks_unit d.tree (own_of d.tree e _)) sound in
    let type = or_parts (refers_nowhere d.tree (own_of d.tree e dw_at_type)) _ parts.0 in
    let origin = or_parts (refers_nowhere d.tree (own_of d.tree e dw_at_abstract_origin)) _ type.1 in
    let specification = or_parts (refers_nowhere d.tree (own_of d.tree e dw_at_specification)) _ origin.1 in
    record {
      name = own_name d e (own_of d.tree e dw_at_name) refl text.0 own.0;
      type = refers d.tree (own_of d.tree e dw_at_type) type.0;
      abstract_origin = refers d.tree (own_of d.tree e dw_at_abstract_origin) origin.0;
      specification = refers d.tree (own_of d.tree e dw_at_specification) specification.0;
      chain = fault_if-none (is_too_deep d.tree e) kind.OriginTooDeep (entry_at d.tree e).offset deep.0;
    }

-- ---- entries of the chain exist, with a supported tag

pub record IsReadThere (t : PlainTree) (e : ℕ) : Type 0 where
  pub inside : e < length t.entries
  pub tag : is_read_tag (tag_at t e) ≡ true

entry_inside : (t : PlainTree) (offset f : ℕ) → entry_of t offset ≡ Some f → f < length t.entries
unfolding entry_of
entry_inside t offset f is = (position-Some (λ x. x.offset == offset) t.entries f no_entry is).0

type_inside : (t : PlainTree) (unit : Option ℕ) (f : ℕ) → option_map_or (λ k. entry_of t (head_at t k).type_entry) unit None ≡ Some f → f < length t.entries
type_inside t None f h = absurd cc
type_inside t (Some k) f h = entry_inside t (head_at t k).type_entry f h

target_inside : (t : PlainTree) (v : Value) (f : ℕ) → target_of t v ≡ Some f → f < length t.entries
unfolding signed_of
target_inside t (value.Reference offset) f h = entry_inside t offset f h
target_inside t (value.Signature signature) f h = type_inside t _ f h
target_inside t other f h = absurd cc

read_there : (t : PlainTree) (own : Option Value) (f : ℕ) → linked (read_link t own) ≡ Some f → IsReadThere t f
read_there t None f h = absurd cc
read_there t (Some v) f h =
    option_cases (target_of t v) (λ is. absurd (let e = rw is at h in cc)) (λ g is.
    let h1 = rw is at h in
    elim (cases_Bool (is_read_tag (tag_at t g))) [
      | inl read ↦ let h2 = rw read at h1 in
          let same : g ≡ f = cc in
          subst (λ (k : ℕ). IsReadThere t k) same (record { inside = target_inside t v g is; tag = read })
      | inr unread ↦ absurd (let e = rw unread at h1 in cc)
    ])

either_there : (link other : Link) (f : ℕ) → either_link link other ≡ Some f → (linked link ≡ Some f) ⊎ (linked other ≡ Some f)
either_there Missing other f h = inr h
either_there Nowhere other f h = absurd cc
either_there (To g) other f h = inl h

link_there : (t : PlainTree) (e f : ℕ) → link_of t e ≡ Some f → IsReadThere t f
unfolding link_of
link_there t e f h =
    elim (either_there (link_by t e dw_at_abstract_origin) (link_by t e dw_at_specification) f h) [
      | inl origin ↦ read_there t (own_of t e dw_at_abstract_origin) f origin
      | inr specification ↦ read_there t (own_of t e dw_at_specification) f specification
    ]

in_rest : (t : PlainTree) (p : ℕ → Bool) (n e f : ℕ) → IsReadThere t e → find p (rest_of t n e) ≡ Some f → IsReadThere t f
unfolding rest_of
in_rest t p zero e f there h = absurd cc
in_rest t p (suc n) e f there h =
    elim (cases_Bool (p e)) [
      | inl here ↦ subst (λ (k : ℕ). IsReadThere t k) (same_Some e f (rw here at h)) there
      | inr apart ↦ others (link_of t e) refl (rw apart at h) (λ g reached found. in_rest t p n g f reached found)
    ]
  where
    others : (link : Option ℕ) → link_of t e ≡ link → find p (option_map_or (rest_of t n) (link_of t e) []) ≡ Some f → ((g : ℕ) → IsReadThere t g → find p (rest_of t n g) ≡ Some f → IsReadThere t f)
        → IsReadThere t f
    others None is found on = absurd (let g = rw is at found in cc)
    others (Some g) is found on = on g (link_there t e g is) (rw is at found)

holder_there : (t : PlainTree) (e name f : ℕ) → IsReadThere t e → holder_of t e name ≡ Some f → IsReadThere t f
holder_there t e name f there h = in_rest t (λ g. is_some (own_of t g name)) 9 e f there (sym (holder_found t e name) ∙ h)

-- ---- what entries say along their chains

pub types_there : (d : PlainDwarf) (e : ℕ) → AreFaultless d → e < length d.tree.entries → is_read_tag (tag_at d.tree e) ≡ true → RefersThere d.tree (attribute_along d.tree e dw_at_type)
unfolding is_own_attribute
types_there d e faultless inside is_read = cases (holder_of d.tree e dw_at_type) refl
  where
    cases : (holder : Option ℕ) → holder_of d.tree e dw_at_type ≡ holder → RefersThere d.tree (option_map_or (λ f. own_of d.tree f dw_at_type) (holder_of d.tree e dw_at_type) None)
    cases None is = rw is tt
    cases (Some f) is =
        let there = holder_there d.tree e dw_at_type f (record { inside = inside; tag = is_read }) is in
        rw is (entry_sound d f (faultless f there.inside) there.tag).type

text_known : (r : Result (List ℕ) Fault) → IsOk r → true ≡ is_some (known_text (Some r))
text_known (Ok text) ok = refl
text_known (Err f) ok = absurd cc

pub names_there : (d : PlainDwarf) (e : ℕ) → AreFaultless d → e < length d.tree.entries → is_read_tag (tag_at d.tree e) ≡ true → is_some (attribute_along d.tree e dw_at_name) ≡ is_some (name_of d e)
unfolding is_own_attribute name_of
names_there d e faultless inside is_read = cases (holder_of d.tree e dw_at_name) refl
  where
    own : (f : ℕ) (value : Option Value) → own_of d.tree f dw_at_name ≡ value → IfSome value (λ v. IsOk (text_at_entry d f v)) → is_some (own_of d.tree f dw_at_name) ≡ is_some (known_text (own_text d f dw_at_name))
    own f None is sound = rw is refl
    own f (Some v) is sound = rw is (text_known (text_at_entry d f v) sound)

    cases : (holder : Option ℕ) → holder_of d.tree e dw_at_name ≡ holder
        → is_some (option_map_or (λ f. own_of d.tree f dw_at_name) (holder_of d.tree e dw_at_name) None) ≡ is_some (option_map_or (λ f. known_text (own_text d f dw_at_name)) (holder_of d.tree e dw_at_name) None)
    cases None is = rw is refl
    cases (Some f) is =
        let there = holder_there d.tree e dw_at_name f (record { inside = inside; tag = is_read }) is in
        rw is (own f (own_of d.tree f dw_at_name) refl (entry_sound d f (faultless f there.inside) there.tag).name)
