-- The fault that a unit's entries end with is the first row of the first place that has one.
use Rattle.std.proofs.Common.{◌≡◌, ◌⊎◌, ℕ, zero, suc, ◌-◌, ◌≤◌, Bool, true, false, List, [], ◌∷◌, length, Option, Some, None, Ok, Err, refl, sym, ap, ◌∙◌, subst, arith, inl, inr}
use Rattle.std.specs.Prelude.{◌↔◌, ◌&&◌, not}
use Rattle.std.specs.List.{list_any, filter_map}
use Rattle.abi_base.specs.Outcome.{fault_if}
use Rattle.std.proofs.lemmas.Bool.{le-ltb}
use Rattle.std.proofs.lemmas.Option.{same_Some}
use Rattle.abi_base.proofs.lemmas.Cases.{option_cases, result_cases, same_Ok}
use Rattle.abi_base.specs.Runs.{Chain, Run}
use Rattle.abi_base.proofs.lemmas.Runs.{chain_run}
use Rattle.abi_base.specs.declared.fault.Fault.{Fault}
use Rattle.abi_base.specs.declared.fault.FaultKind.{FaultKind}
use Rattle.abi_base.specs.declared.fault.FaultKind.TheVariants as kind
use Rattle.dwarf_forms.specs.Values.{fault}
use Rattle.dwarf_units.specs.declared.entry.Entry.{Entry}
use Rattle.dwarf_units.specs.Grammar.{EntryStands}
use Rattle.dwarf_units.specs.Rows.{Row, rows, IsFirst, NoRow, GoesOn, FaultStands, AllWhole, IsFaultOf, IsWhole}
use Rattle.dwarf_units.specs.Units.{PlainUnit, State, Token, root_of, entry_at, token_at, tokens_from, opened, open_lists, entries_from, entries_of, judged, end_with, is_type_unit, is_type_entry}
use Rattle.dwarf_units.proofs.ValuesAfter.{ValuesMove}
use Rattle.dwarf_units.proofs.TokenLaws.{token_stands, token_falls, tokens_chain}
use Rattle.dwarf_units.proofs.TokenRows.{Stands, Judged, not_padding, judge}

-- ---- all tokens

judged_as : (moves : ValuesMove) (u : PlainUnit) (s : State) (t : Token) → token_at u s ≡ t → Judged u s t
judged_as moves u s t is = subst (λ (x : Token). Judged u s x) is (judge moves u s)

fault_stands : (moves : ValuesMove) (u : PlainUnit) (s : State) (xs : List (Option Entry)) (f : Fault) → Chain (token_at u) s xs (Some f) → FaultStands u s xs f
fault_stands moves u s [] f h =
    let j : Stands u s f = judged_as moves u s (Err (Some f)) h in
    let here : s ≡ (f.at, s.1) = ap (λ (n : ℕ). let r : State = (n, s.1) in r) (sym j.0) in
    (s.1, here, subst (λ (r : State). IsFirst (Row u r) rows f.kind) here j.1)
fault_stands moves u s (x ∷ xs) f (next, is, later) =
    let j : GoesOn u s x next × NoRow (Row u s) rows = judged_as moves u s (Ok (x, next)) is in
    let others = fault_stands moves u next xs f later in
    (others.0, (next, j.0, (token_stands moves u s x next is).on, j.1, others.1), others.2)

all_whole : (moves : ValuesMove) (u : PlainUnit) (s : State) (xs : List (Option Entry)) → Chain (token_at u) s xs None → AllWhole u s xs
all_whole moves u s [] h =
    let j : (s.1 ≡ Some 0) × (u.end ≤ s.0) × NoRow (Row u s) rows = judged_as moves u s (Err None) h in
    let here : s ≡ (s.0, Some 0) = ap (λ (o : Option ℕ). let r : State = (s.0, o) in r) j.0 in
    (s.0, here, j.1, subst (λ (r : State). NoRow (Row u r) rows) here j.2)
all_whole moves u s (x ∷ xs) (next, is, later) =
    let j : GoesOn u s x next × NoRow (Row u s) rows = judged_as moves u s (Ok (x, next)) is in
    let others = all_whole moves u next xs later in
    (others.0, (next, j.0, (token_stands moves u s x next is).on, j.1, others.1), others.2, others.3)

first_fault : (moves : ValuesMove) (u : PlainUnit) (f : Fault) → (tokens_from u (root_of u, None)).end ≡ Some f → FaultStands u (root_of u, None) (tokens_from u (root_of u, None)).items f
first_fault moves u f is =
    let s : State = (root_of u, None) in
    fault_stands moves u s (tokens_from u s).items f (subst (λ (e : Option Fault). Chain (token_at u) s (tokens_from u s).items e) is (tokens_chain moves u s))

no_fault_whole : (moves : ValuesMove) (u : PlainUnit) → (tokens_from u (root_of u, None)).end ≡ None → AllWhole u (root_of u, None) (tokens_from u (root_of u, None)).items
no_fault_whole moves u is =
    let s : State = (root_of u, None) in
    all_whole moves u s (tokens_from u s).items (subst (λ (e : Option Fault). Chain (token_at u) s (tokens_from u s).items e) is (tokens_chain moves u s))

-- ---- the reader reads what the bytes hold

-- the same code ends a list and begins no entry
end_same : (u : PlainUnit) (s : State) (n : State) (y : Option Entry) (m : State) → GoesOn u s None n → GoesOn u s y m → ◌≡◌ {A = Option Entry × State} (None, n) (y, m)
end_same u (at, None) n y m a b = absurd a
end_same u (at, Some zero) n None m a b = ap (λ (r : State). let q : Option Entry × State = (None, r) in q) (a.2 ∙ sym b.2)
end_same u (at, Some zero) n (Some g) m a b = absurd (b.in_list refl)
end_same u (at, Some (suc k)) n None m (after, there, is) (later, again, js) =
    let same : (0, after) ≡ (0, later) = same_Some (0, after) (0, later) (sym there.1 ∙ again.1) in
    ap (λ (r : State). let q : Option Entry × State = (None, r) in q) (is ∙ ap (λ (c : ℕ × ℕ). let r : State = (c.1, Some k) in r) same ∙ sym js)
end_same u (at, Some (suc k)) n (Some g) m (after, there, is) b =
    let e = b.there in
    let zero_is : e.0.0 ≡ 0 = ap (λ (c : ℕ × ℕ). c.0) (same_Some e.0 (0, after) (sym e.2 ∙ there.1)) in
    absurd (e.3 zero_is)

entry_same : (u : PlainUnit) (s : State) (e : Entry) (n : State) (g : Entry) (m : State) → EntryStands u s e n → EntryStands u s g m → ◌≡◌ {A = Option Entry × State} (Some e, n) (Some g, m)
entry_same u s e n g m a b =
    let x = a.there in
    let y = b.there in
    let same : x.0 ≡ y.0 = same_Some x.0 y.0 (sym x.2 ∙ y.2) in
    let one : (e, (a.children, n.0)) ≡ (g, (b.children, m.0)) =
    same_Ok (e, (a.children, n.0)) (g, (b.children, m.0)) (sym x.4 ∙ ap (λ (c : ℕ × ℕ). entry_at u s.0 (open_lists s.1) c) same ∙ y.4) in
    ap (λ (o : Option ℕ). let q : Option Entry × State = (Some e, (n.0, o)) in q) a.lists
    ∙ ap (λ (p : Entry × (Bool × ℕ)). let q : Option Entry × State = (Some p.0, (p.1.1, Some (opened p.1.0 (open_lists s.1)))) in q) one
    ∙ ap (λ (o : Option ℕ). let q : Option Entry × State = (Some g, (m.0, o)) in q) (sym b.lists)

goes_same : (u : PlainUnit) (s : State) (x : Option Entry) (n : State) (y : Option Entry) (m : State) → GoesOn u s x n → GoesOn u s y m → ◌≡◌ {A = Option Entry × State} (x, n) (y, m)
goes_same u s (Some e) n (Some g) m a b = entry_same u s e n g m a b
goes_same u s (Some e) n None m a b = sym (end_same u s m (Some e) n b a)
goes_same u s None n y m a b = end_same u s n y m a b

-- a first row is a row
first_not : (u : PlainUnit) (s : State) (ks : List FaultKind) (k : FaultKind) → IsFirst (Row u s) ks k → NoRow (Row u s) ks → ⊥
first_not u s [] k h none = h
first_not u s (j ∷ ks) k (inl h) none = none.0 h.1
first_not u s (j ∷ ks) k (inr h) none = first_not u s ks k h.1 none.1

-- there is one first row
first_same : (u : PlainUnit) (s : State) (ks : List FaultKind) (j k : FaultKind) → IsFirst (Row u s) ks j → IsFirst (Row u s) ks k → j ≡ k
first_same u s [] j k a b = absurd a
first_same u s (i ∷ ks) j k (inl a) (inl b) = a.0 ∙ sym b.0
first_same u s (i ∷ ks) j k (inl a) (inr b) = absurd (b.0 a.1)
first_same u s (i ∷ ks) j k (inr a) (inl b) = absurd (a.0 b.1)
first_same u s (i ∷ ks) j k (inr a) (inr b) = first_same u s ks j k a.1 b.1

module _ (moves : ValuesMove) (u : PlainUnit) where
  token_is : (s : State) (x : Option Entry) (next : State) → GoesOn u s x next → NoRow (Row u s) rows → token_at u s ≡ Ok (x, next)
  token_is s x next goes none =
      result_cases (token_at u s)
      (λ r is. let j : GoesOn u s r.0 r.1 × NoRow (Row u s) rows = judged_as moves u s (Ok r) is in
      is ∙ ap (λ (q : Option Entry × State). let t : Token = Ok q in t) (goes_same u s r.0 r.1 x next j.0 goes))
      (λ e is. option_cases e
      (λ js. absurd (ended (is ∙ ap (λ (o : Option Fault). let t : Token = Err o in t) js)))
      (λ f js. let j : Stands u s f = judged_as moves u s (Err (Some f)) (is ∙ ap (λ (o : Option Fault). let t : Token = Err o in t) js) in absurd (first_not u s rows f.kind j.1 none)))
    where
      padded : (s : State) (x : Option Entry) (next : State) → GoesOn u s x next → s.1 ≡ Some 0 → u.end ≤ s.0 → ⊥
      padded s (Some e) next goes is_0 ge = goes.in_list is_0
      padded (at, None) None next goes is_0 ge = goes
      padded (at, Some zero) None next goes is_0 ge = omega (arith, goes.0, ge)
      padded (at, Some (suc n)) None next goes is_0 ge = not_padding n is_0

      ended : token_at u s ≡ Err None → ⊥
      ended is = let j : (s.1 ≡ Some 0) × (u.end ≤ s.0) × NoRow (Row u s) rows = judged_as moves u s (Err None) is in padded s x next goes j.0 j.1

  fault_token : (f : Fault) (lists : Option ℕ) → IsFirst (Row u (f.at, lists)) rows f.kind → token_at u (f.at, lists) ≡ Err (Some f)
  fault_token f lists first =
      let s : State = (f.at, lists) in
      result_cases (token_at u s)
      (λ r is. let j : GoesOn u s r.0 r.1 × NoRow (Row u s) rows = judged_as moves u s (Ok r) is in absurd (first_not u s rows f.kind first j.1))
      (λ e is. option_cases e
      (λ js. let j : (s.1 ≡ Some 0) × (u.end ≤ s.0) × NoRow (Row u s) rows = judged_as moves u s (Err None) (is ∙ ap (λ (o : Option Fault). let t : Token = Err o in t) js) in
      absurd (first_not u s rows f.kind first j.2))
      (λ g js. let j : Stands u s g = judged_as moves u s (Err (Some g)) (is ∙ ap (λ (o : Option Fault). let t : Token = Err o in t) js) in
      let of_kind : g.kind ≡ f.kind = first_same u s rows g.kind f.kind j.1 first in
      let same : g ≡ f = ap (λ (k : FaultKind). let x : Fault = record { kind = k; at = g.at } in x) of_kind ∙ ap (λ (n : ℕ). let x : Fault = record { kind = f.kind; at = n } in x) j.0 in
      is ∙ ap (λ (o : Option Fault). let t : Token = Err o in t) (js ∙ ap Some same)))

  end_token : (at : ℕ) → u.end ≤ at → token_at u (at, Some 0) ≡ Err None
  unfolding token_at
  end_token at ge = let l = le-ltb at u.end ge in rw l refl

  chain_of_fault : (s : State) (xs : List (Option Entry)) (f : Fault) → FaultStands u s xs f → Chain (token_at u) s xs (Some f)
  chain_of_fault s [] f (lists, here, first) = subst (λ (r : State). token_at u r ≡ Err (Some f)) (sym here) (fault_token f lists first)
  chain_of_fault s (x ∷ xs) f (lists, (next, goes, on, none, later), first) = (next, token_is s x next goes none, chain_of_fault next xs f (lists, later, first))

  chain_of_whole : (s : State) (xs : List (Option Entry)) → AllWhole u s xs → Chain (token_at u) s xs None
  chain_of_whole s [] (at, here, ge, none) = subst (λ (r : State). token_at u r ≡ Err None) (sym here) (end_token at ge)
  chain_of_whole s (x ∷ xs) (at, (next, goes, on, none, later), ge, last) = (next, token_is s x next goes none, chain_of_whole next xs (at, later, ge, last))

  chain_length : (s : State) (xs : List (Option Entry)) (e : Option Fault) → Chain (token_at u) s xs e → length xs ≤ u.end - s.0
  chain_length s [] e h = omega arith
  chain_length s (x ∷ xs) e h = omega (arith, (token_falls moves u).falls s x h.0 h.1, chain_length h.0 xs e h.2)

  tokens_are : (s : State) (xs : List (Option Entry)) (e : Option Fault) → Chain (token_at u) s xs e → tokens_from u s ≡ record { items = xs; end = e }
  unfolding tokens_from
  tokens_are s xs e h = chain_run (token_at u) None (suc u.end) s xs e (omega (arith, chain_length s xs e h)) h

-- ---- with the entry of a type unit

typed_fault : (is_type met : Bool) (offset : ℕ) (f : Fault) → fault_if (is_type && not met) kind.TypeOffset offset ≡ Some f → (is_type ≡ true) × (met ≡ false) × (f ≡ fault kind.TypeOffset offset)
typed_fault true true offset f h = absurd cc
typed_fault true false offset f h = (refl, refl, cc)
typed_fault false met offset f h = absurd cc

typed_none : (is_type met : Bool) (offset : ℕ) → fault_if (is_type && not met) kind.TypeOffset offset ≡ None → is_type ≡ true → met ≡ false → ⊥
typed_none true true offset h is lacks = cc
typed_none true false offset h is lacks = cc
typed_none false met offset h is lacks = cc

end_why : (u : PlainUnit) (met : Bool) (e : Option Fault) (f : Fault) → end_with u met e ≡ Some f
    → (e ≡ Some f) ⊎ ((e ≡ None) × (is_type_unit u ≡ true) × (met ≡ false) × (f ≡ fault kind.TypeOffset u.offset))
end_why u met (Some g) f h = inl h
end_why u met None f h = let t = typed_fault (is_type_unit u) met u.offset f h in inr (refl, t.0, t.1, t.2)

end_none : (u : PlainUnit) (met : Bool) (e : Option Fault) → end_with u met e ≡ None → (e ≡ None) × (is_type_unit u ≡ true → met ≡ false → ⊥)
end_none u met (Some g) h = absurd cc
end_none u met None h = (refl, typed_none (is_type_unit u) met u.offset h)

-- how the entries end, by what the bytes hold
abbrev TokenRun : Type 0
TokenRun = Run (Option Entry) (Option Fault)

abbrev end_of : PlainUnit → TokenRun → Option Fault
end_of u r = end_with u (list_any (is_type_entry u) (filter_map (λ x. x) r.items)) r.end

entries_end_is : (u : PlainUnit) → (entries_of u).end ≡ end_of u (tokens_from u (root_of u, None))
unfolding entries_of judged entries_from
entries_end_is u = refl

end_typed : (is_type met : Bool) (offset : ℕ) → (is_type ≡ true → met ≡ false → ⊥) → fault_if (is_type && not met) kind.TypeOffset offset ≡ None
end_typed true true offset h = refl
end_typed true false offset h = absurd (h refl refl)
end_typed false met offset h = refl

module _ (moves : ValuesMove) (u : PlainUnit) where
  abbrev start : State
  start = (root_of u, None)

  abbrev all_tokens : List (Option Entry)
  all_tokens = (tokens_from u start).items

  abbrev met : List (Option Entry) → Bool
  met all = list_any (is_type_entry u) (filter_map (λ x. x) all)

  fault_is : (f : Fault) → (entries_of u).end ≡ Some f → IsFaultOf u f
  fault_is f h =
      elim (end_why u (met all_tokens) (tokens_from u start).end f (sym (entries_end_is u) ∙ h)) [
        | inl is ↦ inl (all_tokens, first_fault moves u f is)
        | inr why ↦ inr (all_tokens, no_fault_whole moves u why.0, (why.1, why.2), why.3)
      ]

  whole_is : (entries_of u).end ≡ None → IsWhole u
  whole_is h =
      let why = end_none u (met all_tokens) (tokens_from u start).end (sym (entries_end_is u) ∙ h) in
      (all_tokens, no_fault_whole moves u why.0, λ lacks. why.1 lacks.0 lacks.1)

  is_fault : (f : Fault) → IsFaultOf u f → (entries_of u).end ≡ Some f
  is_fault f (inl (before, stands)) =
      entries_end_is u ∙ ap (λ (r : TokenRun). end_of u r) (tokens_are moves u start before (Some f) (chain_of_fault moves u start before f stands))
  is_fault f (inr (all, whole, lacks, it)) =
      let last : fault_if (is_type_unit u && not (met all)) kind.TypeOffset u.offset ≡ Some (fault kind.TypeOffset u.offset) = rw (lacks.0, lacks.1) refl in
      entries_end_is u ∙ ap (λ (r : TokenRun). end_of u r) (tokens_are moves u start all None (chain_of_whole moves u start all whole)) ∙ last ∙ ap Some (sym it)

  is_whole : IsWhole u → (entries_of u).end ≡ None
  is_whole (all, whole, has) =
      entries_end_is u ∙ ap (λ (r : TokenRun). end_of u r) (tokens_are moves u start all None (chain_of_whole moves u start all whole))
      ∙ end_typed (is_type_unit u) (met all) u.offset (λ is lacks. has (is, lacks))

pub unit_fault_is : (moves : ValuesMove) (u : PlainUnit) (f : Fault) → ((entries_of u).end ≡ Some f) ↔ IsFaultOf u f
unit_fault_is moves u f = (fault_is moves u f, is_fault moves u f)

pub unit_whole_is : (moves : ValuesMove) (u : PlainUnit) → ((entries_of u).end ≡ None) ↔ IsWhole u
unit_whole_is moves u = (whole_is moves u, is_whole moves u)
