-- The faults of entries: the first of several, and the rows of an entry in the parts of their check.
use Rattle.std.proofs.Common.{◌≡◌, ◌∙◌, ℕ, Bool, false, List, [], ◌∷◌, Option, Some, None, map, refl, sym, ap, inl, inr}
use Rattle.std.specs.Prelude.{◌==◌, is_none, is_some}
use Rattle.std.specs.Option.{option_map_or, option_or}
use Rattle.std.proofs.lemmas.Bool.{cases_Bool, or_parts}
use Rattle.std.proofs.Math.Bool.{and-false}
use Rattle.abi_base.specs.Dwarf.{dw_at_abstract_origin, dw_at_signature, dw_at_specification, dw_at_type}
use Rattle.abi_base.specs.declared.fault.Fault.{Fault}
use Rattle.abi_base.specs.declared.fault.FaultKind.TheVariants as kind
use Rattle.abi_base.specs.Outcome.{fault_if, first}
use Rattle.dwarf_forms.specs.declared.values.Value.{Value}
use Rattle.dwarf_tree.specs.Trees.{PlainTree, entry_at, own_of}
use Rattle.dwarf_entries.specs.Addresses.{is_defined, tag_at}
use Rattle.dwarf_entries.specs.Chains.{after_links, is_read_tag, is_nowhere, is_too_deep, either_link, link_by, link_of, link_to, read_link, target_of}
use Rattle.dwarf_entries.specs.declared.link.Link.{Link}
use Rattle.dwarf_entries.specs.Debug.{PlainDwarf}
use Rattle.dwarf_entries.specs.Pass.{address_faults, entry_rows, has_bad_reference, is_signed, name_fault, of_kind, refers_nowhere}
use Rattle.dwarf_entries.specs.Rows.{are_addresses_asked, name_rows, reference_rows, rows_behind_name}
use Rattle.dwarf_entries.proofs.ChainLemmas.{after_first}

one_first : (a : Option Fault) → option_or None a ≡ first (a ∷ [])
one_first None = refl
one_first (Some f) = refl

pub first_one : (f : Option Fault → Option Fault) (a r : Option Fault) → r ≡ option_or None (f a) → r ≡ first (map f (a ∷ []))
first_one f a r is = is ∙ one_first (f a)

three_first : (a b c : Option Fault) → option_or (option_or (option_or None a) b) c ≡ first (a ∷ b ∷ c ∷ [])
three_first (Some f) b c = refl
three_first None (Some f) c = refl
three_first None None (Some f) = refl
three_first None None None = refl

pub first_three : (a b c r s t : Option Fault) → r ≡ option_or None a → s ≡ option_or r b → t ≡ option_or s c → t ≡ first (a ∷ b ∷ c ∷ [])
first_three a b c r s t is_a is_b is_c = is_c ∙ ap (λ (o : Option Fault). option_or o c) (is_b ∙ ap (λ (o : Option Fault). option_or o b) is_a) ∙ three_first a b c

-- ---- links that refer to no entry

nowhere_to : (t : PlainTree) (target : Option ℕ) → is_nowhere (link_to t target) ≡ is_none target
nowhere_to t None = refl
nowhere_to t (Some f) = elim (cases_Bool (is_read_tag (entry_at t f).tag)) [ inl read ↦ rw read refl | inr unread ↦ rw unread refl ]

nowhere_of : (t : PlainTree) (value : Option Value) → is_nowhere (read_link t value) ≡ refers_nowhere t value
nowhere_of t None = refl
nowhere_of t (Some v) = nowhere_to t (target_of t v)

pub nowhere_by_link : (t : PlainTree) (e name : ℕ) (link : Link) (nowhere : Bool) → link ≡ link_by t e name → nowhere ≡ is_nowhere link → nowhere ≡ refers_nowhere t (own_of t e name)
nowhere_by_link t e name link nowhere is says =
    says ∙ ap (λ (l : Link). is_nowhere l) is ∙ nowhere_of t (own_of t e name)

-- ---- a chain, by the links of its first entry

pub deep_by_links : (t : PlainTree) (e : ℕ) (origin specification : Link) (deep : Bool) → origin ≡ link_by t e dw_at_abstract_origin → specification ≡ link_by t e dw_at_specification
    → deep ≡ is_some (option_map_or (λ f. after_links t f 8) (either_link origin specification) None) → deep ≡ is_too_deep t e
unfolding link_of
deep_by_links t e origin specification deep by_origin by_specification says =
    says ∙ ap (λ (l : Link). is_some (option_map_or (λ f. after_links t f 8) (either_link l specification) None)) by_origin
    ∙ ap (λ (l : Link). is_some (option_map_or (λ f. after_links t f 8) (either_link (link_by t e dw_at_abstract_origin) l) None)) by_specification
    ∙ sym (ap (λ (o : Option ℕ). is_some o) (after_first t e 8 (link_of t e) refl))

-- ---- an entry without links

pub plain_rows : (t : PlainTree) (e : ℕ) → own_of t e dw_at_abstract_origin ≡ None → own_of t e dw_at_specification ≡ None → own_of t e dw_at_signature ≡ None
    → refers_nowhere t (own_of t e dw_at_type) ≡ false → first (reference_rows t e) ≡ None
unfolding has_bad_reference link_of
plain_rows t e origin specification signature type =
    let bad : has_bad_reference t e ≡ false = rw (type, origin, specification, signature) (and-false (is_signed (tag_at t e))) in
    let no_link : link_of t e ≡ None = rw (origin, specification) refl in
    let shallow : is_too_deep t e ≡ false = ap (λ (o : Option ℕ). is_some o) (after_first t e 8 None no_link) in
    rw (bad, shallow) refl

-- ---- the rows of an entry, in parts

name_here : (a b : Option Fault) (bs rest : List (Option Fault)) (f : Fault) → Some f ≡ first (a ∷ b ∷ []) → Some f ≡ first (a ∷ first (b ∷ bs) ∷ rest)
name_here (Some g) b bs rest f h = h
name_here None (Some g) bs rest f h = h
name_here None None bs rest f h = absurd cc

pub name_faulty : (d : PlainDwarf) (e : ℕ) (f : Fault) → Some f ≡ first (name_rows d e) → Some f ≡ first (entry_rows d e)
unfolding entry_rows
name_faulty d e f h = name_here (of_kind kind.Text (name_fault d e)) (of_kind kind.Index (name_fault d e)) (map (of_kind kind.Index) (address_faults d e)) _ f h

behind : (a b : Option Fault) (bs rest : List (Option Fault)) → None ≡ first (a ∷ b ∷ []) → first (first bs ∷ rest) ≡ first (a ∷ first (b ∷ bs) ∷ rest)
behind (Some g) b bs rest h = absurd cc
behind None (Some g) bs rest h = absurd cc
behind None None bs rest h = refl

pub name_sound : (d : PlainDwarf) (e : ℕ) (row : Option Fault) → None ≡ first (name_rows d e) → row ≡ first (rows_behind_name d e) → row ≡ first (entry_rows d e)
unfolding entry_rows
name_sound d e row h is = is ∙ behind (of_kind kind.Text (name_fault d e)) (of_kind kind.Index (name_fault d e)) (map (of_kind kind.Index) (address_faults d e)) _ h

-- where the entry has no addresses to check
references_alone : (x y : Option Fault) → first (x ∷ y ∷ []) ≡ first (None ∷ x ∷ y ∷ None ∷ [])
references_alone (Some g) y = refl
references_alone None (Some g) = refl
references_alone None None = refl

no_addresses : (d : PlainDwarf) (e : ℕ) → are_addresses_asked d.tree e ≡ false → address_faults d e ≡ []
unfolding address_faults
no_addresses d e none =
    let parts = or_parts ((entry_at d.tree e).depth == 0) (is_defined d.tree e) none in
    rw (parts.0, parts.1) refl

pub without_addresses : (d : PlainDwarf) (e : ℕ) → are_addresses_asked d.tree e ≡ false → first (reference_rows d.tree e) ≡ first (rows_behind_name d e)
without_addresses d e none =
    rw (no_addresses d e none)
    (references_alone (fault_if (has_bad_reference d.tree e) kind.Reference (entry_at d.tree e).offset) (fault_if (is_too_deep d.tree e) kind.OriginTooDeep (entry_at d.tree e).offset))
