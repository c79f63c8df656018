-- The entries of a unit without a fault are those of its tree, and a tree has its entries.
use Rattle.std.proofs.Common.{◌≡◌, ◌≢◌, ◌⊎◌, ◌<◌, ◌≤◌, ◌-◌, ◌+◌, ℕ, zero, suc, Bool, true, false, ltb, List, [], ◌∷◌, ◌++◌, Option, Some, None, Ok, Err, refl, sym, ap, ◌∙◌, subst, arith, inl, inr, append_assoc}
use Rattle.std.proofs.lemmas.List.{append-nil}
use Rattle.std.specs.Prelude.{◌↔◌, ◌==◌, not, slice_index, ◌&&◌}
use Rattle.std.specs.List.{list_any}
use Rattle.std.proofs.lemmas.Bool.{cases_Bool, ltb-true, lt-ltb, le-ltb, cases_lt, eqb-true}
use Rattle.std.proofs.lemmas.Bool.Decides.{eqb_tells}
use Rattle.abi_base.proofs.lemmas.Cases.{option_cases, result_cases}
use Rattle.abi_base.proofs.lemmas.Bools.{not_is_false}
use Rattle.abi_base.specs.Dwarf.{dw_at_language}
use Rattle.abi_base.specs.declared.fault.Fault.{Fault}
use Rattle.abi_base.specs.declared.fault.FaultKind.TheVariants as kind
use Rattle.abi_base.specs.Leb.{uleb_at}
use Rattle.abi_base.specs.Runs.{Run, ended, put_front}
use Rattle.dwarf_forms.specs.Values.{fault}
use Rattle.dwarf_units.specs.declared.entry.Entry.{Entry}
use Rattle.dwarf_units.specs.Grammar.{Siblings, ended_list, leaf, branch, listed, IsEntry, IsEnd, Spells, IsPadding, RootHas, IsTree, HasType, faultless}
use Rattle.dwarf_units.specs.Units.{PlainUnit, State, root_of, unit_bytes, entry_at, token_at, entries_from, entries_of, opened, is_root_tag, language_fits, attribute_of, is_type_entry, judged, end_with, is_type_unit}
use Rattle.dwarf_units.proofs.ValuesAfter.{ValuesMove}
use Rattle.dwarf_units.proofs.TokenLaws.{token_moves}
use Rattle.dwarf_units.proofs.EntriesLeft.{entries_give, entries_pass, entries_end}
use Rattle.abi_base.proofs.lemmas.Runs.{put_before}
use Rattle.abi_base.specs.Outcome.{fault_if}

abbrev EntryRun : Type 0
EntryRun = Run Entry (Option Fault)

-- ---- the token at a place of a unit that ends without a fault

no_fault : (u : PlainUnit) (s : State) (f : Fault) → token_at u s ≡ Err (Some f) → (entries_from u s).end ≡ None → ⊥
no_fault u s f is none = let same = ap (λ (r : EntryRun). r.end) (sym (entries_end u s (Some f) is)) ∙ none in cc

not_zero : (n : ℕ) → (n == 0) ≡ false → n ≢ 0
not_zero n is = λ zero_is. let bad : (0 == 0) ≡ false = rw zero_is at is in cc

is_zero : (n : ℕ) → (n == 0) ≡ true → n ≡ 0
is_zero n is = eqb-true n 0 is

-- inside a list: its end, or an entry
abbrev Inner : PlainUnit → ℕ → ℕ → Type 0
Inner u n at =
    ((after : ℕ) × IsEnd u at after × (token_at u (at, Some (suc n)) ≡ Ok (None, (after, Some n))))
    ⊎ ((e : Entry) × (c : Bool) × (after : ℕ) × IsEntry u (suc n) at e c after × (token_at u (at, Some (suc n)) ≡ Ok (Some e, (after, Some (opened c (suc n))))))

inner_is : (u : PlainUnit) (n at : ℕ) → (entries_from u (at, Some (suc n))).end ≡ None → Inner u n at
unfolding token_at
inner_is u n at none =
    elim (cases_Bool (ltb at u.end)) [
      | inl lt ↦ option_cases (uleb_at (unit_bytes u) at)
          (λ is. absurd (no_fault u (at, Some (suc n)) (fault kind.Cut at) (rw (lt, is) refl) none))
          (λ code is. elim (cases_Bool (code.0 == 0)) [
            | inl ends ↦ inl (code.1, (ltb-true at u.end lt, is ∙ ap (λ (k : ℕ). Some (k, code.1)) (is_zero code.0 ends)), rw (lt, is, ends) refl)
            | inr goes ↦ result_cases (entry_at u at (suc n) code)
                (λ e js. inr (e.0, e.1.0, e.1.1, (code, ltb-true at u.end lt, is, not_zero code.0 goes, js), rw (lt, is, goes, js) refl))
                (λ f js. absurd (no_fault u (at, Some (suc n)) f (rw (lt, is, goes, js) refl) none))
          ])
      | inr ge ↦ absurd (no_fault u (at, Some (suc n)) (fault kind.Tree at) (rw ge refl) none)
    ]

-- what an entry leaves
given_left : (moves : ValuesMove) (u : PlainUnit) (s next : State) (e : Entry) → token_at u s ≡ Ok (Some e, next) → (entries_from u s).end ≡ None
    → ((entries_from u s).items ≡ e ∷ (entries_from u next).items) × ((entries_from u next).end ≡ None)
given_left moves u s next e is none =
    let gives = entries_give moves u s e next is in
    (ap (λ (r : EntryRun). r.items) gives, ap (λ (r : EntryRun). r.end) (sym gives) ∙ none)

passed_left : (moves : ValuesMove) (u : PlainUnit) (s next : State) → token_at u s ≡ Ok (None, next) → (entries_from u s).end ≡ None
    → ((entries_from u s).items ≡ (entries_from u next).items) × ((entries_from u next).end ≡ None)
passed_left moves u s next is none =
    let gives = entries_pass moves u s next is in
    (ap (λ (r : EntryRun). r.items) gives, ap (λ (r : EntryRun). r.end) (sym gives) ∙ none)

-- ---- a list that ends without a fault is a list of siblings

abbrev AreSiblings : PlainUnit → ℕ → ℕ → Type 0
AreSiblings u n at =
    (f : Siblings) × (after : ℕ) × Spells u (suc n) at f after × (at < after)
    × ((entries_from u (at, Some (suc n))).items ≡ listed f ++ (entries_from u (after, Some n)).items) × ((entries_from u (after, Some n)).end ≡ None)

-- what a shorter list gives
abbrev Shorter : PlainUnit → ℕ → Type 0
Shorter u at = (n after : ℕ) → at < after → at < u.end → (entries_from u (after, Some (suc n))).end ≡ None → AreSiblings u n after

siblings_of : (moves : ValuesMove) (u : PlainUnit) (n at : ℕ) → (entries_from u (at, Some (suc n))).end ≡ None → Shorter u at → Inner u n at → AreSiblings u n at
unfolding Spells
siblings_of moves u n at none shorter (inl (after, is_end, is)) =
    let going = token_moves moves u (at, Some (suc n)) None (after, Some n) is in
    let left = passed_left moves u (at, Some (suc n)) (after, Some n) is none in
    (ended_list, after, is_end, going.0.on, left.0, left.1)
siblings_of moves u n at none shorter (inr (e, false, after, entry, is)) =
    let going = token_moves moves u (at, Some (suc n)) (Some e) (after, Some (suc n)) is in
    let left = given_left moves u (at, Some (suc n)) (after, Some (suc n)) e is none in
    let others = shorter n after going.0.on going.1 left.1 in
    (leaf e others.0, others.1, (after, entry, others.2), omega (arith, going.0.on, others.3), left.0 ∙ ap (λ (l : List Entry). e ∷ l) others.4, others.5)
siblings_of moves u n at none shorter (inr (e, true, inner, entry, is)) =
    let going = token_moves moves u (at, Some (suc n)) (Some e) (inner, Some (suc (suc n))) is in
    let left = given_left moves u (at, Some (suc n)) (inner, Some (suc (suc n))) e is none in
    let children = shorter (suc n) inner going.0.on going.1 left.1 in
    let next = children.1 in
    let others = shorter n next (omega (arith, going.0.on, children.3)) going.1 children.5 in
    let both : (entries_from u (inner, Some (suc (suc n)))).items ≡ (listed children.0 ++ listed others.0) ++ (entries_from u (others.1, Some n)).items =
    children.4 ∙ ap (λ (l : List Entry). listed children.0 ++ l) others.4 ∙ sym (append_assoc (listed children.0) (listed others.0) (entries_from u (others.1, Some n)).items) in
    (branch e children.0 others.0, others.1, (inner, next, entry, children.2, others.2), omega (arith, going.0.on, children.3, others.3), left.0 ∙ ap (λ (l : List Entry). e ∷ l) both, others.5)

siblings : (moves : ValuesMove) (k : ℕ) (u : PlainUnit) (n at : ℕ) → u.end - at < k → (entries_from u (at, Some (suc n))).end ≡ None → AreSiblings u n at
siblings moves zero u n at few none = absurd (omega arith)
siblings moves (suc k) u n at few none =
    siblings_of moves u n at none (λ m after on inside well. siblings moves k u m after (omega (arith, few, on, inside)) well) (inner_is u n at none)

-- ---- after the root's list

padded : (moves : ValuesMove) (k : ℕ) (u : PlainUnit) (at : ℕ) → u.end - at < k → (entries_from u (at, Some 0)).end ≡ None → ((entries_from u (at, Some 0)).items ≡ []) × IsPadding u at
unfolding token_at
padded moves zero u at few none = absurd (omega arith)
padded moves (suc k) u at few none =
    elim (cases_Bool (ltb at u.end)) [
      | inl lt ↦ elim (cases_Bool (slice_index u.info at == 0)) [
        | inl is_0 ↦ let is : token_at u (at, Some 0) ≡ Ok (None, (at + 1, Some 0)) = rw (lt, is_0) refl in
            let inside = ltb-true at u.end lt in
            let left = passed_left moves u (at, Some 0) (at + 1, Some 0) is none in
            let rest = padded moves k u (at + 1) (omega arith) left.1 in
            (left.0 ∙ rest.0, λ i from below. one_more i from below (is_zero (slice_index u.info at) is_0) rest.1)
        | inr other ↦ absurd (no_fault u (at, Some 0) (fault kind.Tree at) (rw (lt, other) refl) none)
      ]
      | inr ge ↦ let is : token_at u (at, Some 0) ≡ Err None = rw ge refl in
          (ap (λ (r : EntryRun). r.items) (entries_end u (at, Some 0) None is), λ i from below. absurd (let bad : ltb at u.end ≡ true = lt-ltb at u.end (omega arith) in cc))
    ]
  where
    one_more : (i : ℕ) → at ≤ i → i < u.end → slice_index u.info at ≡ 0 → IsPadding u (at + 1) → slice_index u.info i ≡ 0
    one_more i from below here rest = elim (cases_lt at i) [
      | inl lt ↦ rest i (omega arith) below
      | inr le ↦ let same : i ≡ at = omega arith in rw same here
    ]

-- ---- the whole unit

abbrev Rooted : PlainUnit → Type 0
Rooted u =
    (e : Entry) × (c : Bool) × (after : ℕ) × IsEntry u 0 (root_of u) e c after × (is_root_tag u e.tag ≡ true) × (language_fits (attribute_of e.attributes dw_at_language) ≡ true)
    × (token_at u (root_of u, None) ≡ Ok (Some e, (after, Some (opened c 0))))

root_is : (u : PlainUnit) → (entries_from u (root_of u, None)).end ≡ None → Rooted u
unfolding token_at
root_is u none =
    let at = root_of u in
    elim (cases_Bool (ltb at u.end)) [
      | inl lt ↦ option_cases (uleb_at (unit_bytes u) at)
          (λ is. absurd (no_fault u (at, None) (fault kind.Cut at) (rw (lt, is) refl) none))
          (λ code is. elim (cases_Bool (code.0 == 0)) [
            | inl ends ↦ absurd (no_fault u (at, None) (fault kind.Tree at) (rw (lt, is, ends) refl) none)
            | inr goes ↦ result_cases (entry_at u at 0 code)
                (λ e js. elim (cases_Bool (not (is_root_tag u e.0.tag))) [
                  | inl other ↦ absurd (no_fault u (at, None) (fault kind.Tree at) (rw (lt, is, goes, js, other) refl) none)
                  | inr tag ↦ elim (cases_Bool (not (language_fits (attribute_of e.0.attributes dw_at_language)))) [
                    | inl other ↦ absurd (no_fault u (at, None) (fault kind.Language at) (rw (lt, is, goes, js, tag, other) refl) none)
                    | inr fits ↦ (e.0, e.1.0, e.1.1, (code, ltb-true at u.end lt, is, not_zero code.0 goes, js), not_is_false _ tag, not_is_false _ fits, rw (lt, is, goes, js, tag, fits) refl)
                  ]
                ])
                (λ f js. absurd (no_fault u (at, None) f (rw (lt, is, goes, js) refl) none))
          ])
      | inr ge ↦ absurd (no_fault u (at, None) (fault kind.Tree at) (rw ge refl) none)
    ]

below_root : (moves : ValuesMove) (u : PlainUnit) (c : Bool) (after : ℕ) → (entries_from u (after, Some (opened c 0))).end ≡ None → RootHas u c after (entries_from u (after, Some (opened c 0))).items
below_root moves u false after none = padded moves (suc (u.end - after)) u after (omega arith) none
below_root moves u true after none =
    let list = siblings moves (suc (u.end - after)) u 0 after (omega arith) none in
    let rest = padded moves (suc (u.end - list.1)) u list.1 (omega arith) list.5 in
    (list.0, list.1, list.2, list.4 ∙ ap (λ (l : List Entry). listed list.0 ++ l) rest.0 ∙ append-nil (listed list.0), rest.1)

tree_of : (moves : ValuesMove) (u : PlainUnit) → (entries_from u (root_of u, None)).end ≡ None → IsTree u (entries_from u (root_of u, None)).items
tree_of moves u none =
    let root = root_is u none in
    let left = given_left moves u (root_of u, None) (root.2, Some (opened root.1 0)) root.0 root.6 none in
    record {
      root = root.0;
      children = root.1;
      after = root.2;
      below = (entries_from u (root.2, Some (opened root.1 0))).items;
      is_root = root.3;
      tag = root.4;
      language = root.5;
      has = below_root moves u root.1 root.2 left.1;
      all = left.0;
    }

-- a unit that ends without a fault had none before its end
ends_well : (u : PlainUnit) (met : Bool) (end : Option Fault) → end_with u met end ≡ None → end ≡ None
ends_well u met None is = refl
ends_well u met (Some f) is = absurd cc

ended_well : (u : PlainUnit) (r : EntryRun) → (judged u false r).end ≡ None → r.end ≡ None
unfolding judged
ended_well u r is = ends_well u (list_any (is_type_entry u) r.items) r.end is

judged_items : (u : PlainUnit) (r : EntryRun) → (judged u false r).items ≡ r.items
unfolding judged
judged_items u r = refl

-- ---- a tree has its entries

nonzero : (k : ℕ) → k ≢ 0 → (k == 0) ≡ false
nonzero k other = elim (eqb_tells k 0) [
  | inl same ↦ absurd (other same.1)
  | inr apart ↦ apart.0
]

end_token : (u : PlainUnit) (n at after : ℕ) → IsEnd u at after → token_at u (at, Some (suc n)) ≡ Ok (None, (after, Some n))
unfolding token_at
end_token u n at after (inside, is) = let lt = lt-ltb at u.end inside in rw (lt, is) refl

entry_token : (u : PlainUnit) (n at : ℕ) (e : Entry) (c : Bool) (after : ℕ) → IsEntry u (suc n) at e c after → token_at u (at, Some (suc n)) ≡ Ok (Some e, (after, Some (opened c (suc n))))
unfolding token_at
entry_token u n at e c after (code, inside, is, other, entry) =
    let lt = lt-ltb at u.end inside in
    let goes = nonzero code.0 other in
    rw (lt, is, goes, entry) refl

before_before : (xs ys : List Entry) (r : EntryRun) → put_before xs (put_before ys r) ≡ put_before (xs ++ ys) r
before_before xs ys r = ap (λ (l : List Entry). let q : EntryRun = record { items = l; end = r.end } in q) (sym (append_assoc xs ys r.items))

front_before : (e : Entry) (xs : List Entry) (r s : EntryRun) → s ≡ put_before xs r → put_front e s ≡ put_before (e ∷ xs) r
front_before e xs r s same = ap (λ (q : EntryRun). put_front e q) same

spelled_list : (moves : ValuesMove) (u : PlainUnit) (f : Siblings) (n at after : ℕ) → Spells u (suc n) at f after → entries_from u (at, Some (suc n)) ≡ put_before (listed f) (entries_from u (after, Some n))
unfolding Spells
spelled_list moves u ended_list n at after is = entries_pass moves u (at, Some (suc n)) (after, Some n) (end_token u n at after is)
spelled_list moves u (leaf e others) n at after (next, entry, rest) =
    entries_give moves u (at, Some (suc n)) e (next, Some (suc n)) (entry_token u n at e false next entry)
    ∙ front_before e (listed others) (entries_from u (after, Some n)) (entries_from u (next, Some (suc n))) (spelled_list moves u others n next after rest)
spelled_list moves u (branch e children others) n at after (inner, next, entry, below, rest) =
    let whole : entries_from u (inner, Some (suc (suc n))) ≡ put_before (listed children ++ listed others) (entries_from u (after, Some n)) =
    spelled_list moves u children (suc n) inner next below
    ∙ ap (λ (r : EntryRun). put_before (listed children) r) (spelled_list moves u others n next after rest)
    ∙ before_before (listed children) (listed others) (entries_from u (after, Some n)) in
    entries_give moves u (at, Some (suc n)) e (inner, Some (suc (suc n))) (entry_token u n at e true inner entry)
    ∙ front_before e (listed children ++ listed others) (entries_from u (after, Some n)) (entries_from u (inner, Some (suc (suc n)))) whole

zero_token : (u : PlainUnit) (at : ℕ) → at < u.end → slice_index u.info at ≡ 0 → token_at u (at, Some 0) ≡ Ok (None, (at + 1, Some 0))
unfolding token_at
zero_token u at inside is = let lt = lt-ltb at u.end inside in let zero_is : (slice_index u.info at == 0) ≡ true = rw is refl in rw (lt, zero_is) refl

last_token : (u : PlainUnit) (at : ℕ) → u.end ≤ at → token_at u (at, Some 0) ≡ Err None
unfolding token_at
last_token u at past = let ge = le-ltb at u.end past in rw ge refl

padding_ends : (moves : ValuesMove) (k : ℕ) (u : PlainUnit) (at : ℕ) → u.end - at < k → IsPadding u at → entries_from u (at, Some 0) ≡ ended None
padding_ends moves zero u at few pad = absurd (omega arith)
padding_ends moves (suc k) u at few pad = elim (cases_lt at u.end) [
  | inl inside ↦
      entries_pass moves u (at, Some 0) (at + 1, Some 0) (zero_token u at inside (pad at (omega arith) inside))
      ∙ padding_ends moves k u (at + 1) (omega (arith, few, inside)) (λ i from below. pad i (omega (arith, from)) below)
  | inr past ↦ entries_end u (at, Some 0) None (last_token u at past)
]

root_token_is : (u : PlainUnit) (e : Entry) (c : Bool) (after : ℕ) → IsEntry u 0 (root_of u) e c after → is_root_tag u e.tag ≡ true → language_fits (attribute_of e.attributes dw_at_language) ≡ true
    → token_at u (root_of u, None) ≡ Ok (Some e, (after, Some (opened c 0)))
unfolding token_at
root_token_is u e c after (code, inside, is, other, entry) tag language =
    let lt = lt-ltb (root_of u) u.end inside in
    let goes = nonzero code.0 other in
    rw (lt, is, goes, entry, tag, language) refl

below_is : (moves : ValuesMove) (u : PlainUnit) (c : Bool) (after : ℕ) (below : List Entry) → RootHas u c after below → entries_from u (after, Some (opened c 0)) ≡ faultless below
below_is moves u false after below (none, pad) = padding_ends moves (suc (u.end - after)) u after (omega arith) pad ∙ ap (λ (l : List Entry). faultless l) (sym none)
below_is moves u true after below (children, end, spells, all, pad) =
    spelled_list moves u children 0 after end spells
    ∙ ap (λ (r : EntryRun). put_before (listed children) r) (padding_ends moves (suc (u.end - end)) u end (omega arith) pad)
    ∙ ap (λ (l : List Entry). faultless l) (append-nil (listed children) ∙ sym all)

entries_of_tree : (moves : ValuesMove) (u : PlainUnit) (entries : List Entry) → IsTree u entries → entries_from u (root_of u, None) ≡ faultless entries
entries_of_tree moves u entries tree =
    entries_give moves u (root_of u, None) tree.root (tree.after, Some (opened tree.children 0)) (root_token_is u tree.root tree.children tree.after tree.is_root tree.tag tree.language)
    ∙ ap (λ (r : EntryRun). put_front tree.root r) (below_is moves u tree.children tree.after tree.below tree.has)
    ∙ ap (λ (l : List Entry). faultless l) (sym tree.all)

-- ---- with the entry of a type unit

typed_end : (is_type met : Bool) (offset : ℕ) → (is_type ≡ true → met ≡ true) → fault_if (is_type && not met) kind.TypeOffset offset ≡ None
typed_end true met offset has = rw (has refl) refl
typed_end false met offset has = refl

typed_met : (is_type met : Bool) (offset : ℕ) → fault_if (is_type && not met) kind.TypeOffset offset ≡ None → is_type ≡ true → met ≡ true
typed_met true true offset none is = refl
typed_met true false offset none is = absurd cc
typed_met false met offset none is = absurd cc

judged_faultless : (u : PlainUnit) (entries : List Entry) → HasType u entries → judged u false (faultless entries) ≡ faultless entries
unfolding judged
judged_faultless u entries has =
    ap (λ (end : Option Fault). let q : EntryRun = record { items = entries; end = end } in q) (typed_end (is_type_unit u) (list_any (is_type_entry u) entries) u.offset has)

judged_has : (u : PlainUnit) (r : EntryRun) → r.end ≡ None → (judged u false r).end ≡ None → HasType u r.items
unfolding judged
judged_has u r well none =
    let end : end_with u (list_any (is_type_entry u) r.items) None ≡ None = ap (λ (o : Option Fault). end_with u (list_any (is_type_entry u) r.items) o) (sym well) ∙ none in
    typed_met (is_type_unit u) (list_any (is_type_entry u) r.items) u.offset end

entries_judged : (u : PlainUnit) → entries_of u ≡ judged u false (entries_from u (root_of u, None))
unfolding entries_of
entries_judged u = refl

-- a unit has these entries and no fault exactly when they are its tree, with the entry of its type
pub one_tree : (moves : ValuesMove) (u : PlainUnit) (entries : List Entry) → (entries_of u ≡ faultless entries) ↔ (IsTree u entries × HasType u entries)
one_tree moves u entries = (
  (λ is.
      let left = entries_from u (root_of u, None) in
      let whole : judged u false left ≡ faultless entries = sym (entries_judged u) ∙ is in
      let none : (judged u false left).end ≡ None = ap (λ (r : EntryRun). r.end) whole in
      let well = ended_well u left none in
      let items : left.items ≡ entries = sym (judged_items u left) ∙ ap (λ (r : EntryRun). r.items) whole in
      (subst (λ (l : List Entry). IsTree u l) items (tree_of moves u well), subst (λ (l : List Entry). HasType u l) items (judged_has u left well none))),
  (λ has. entries_judged u ∙ ap (λ (r : EntryRun). judged u false r) (entries_of_tree moves u entries has.0) ∙ judged_faultless u entries has.1),
)
