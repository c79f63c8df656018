-- If a section matches a subject, one of the subject's handles finds it.
use Rattle.std.proofs.Common.{◌≡◌, ◌<◌, ◌⊎◌, ℕ, zero, suc, Bool, true, false, cond, List, [], ◌∷◌, length, get_or, Option, Some, None, refl, sym, ap, subst, ◌∙◌, inl, inr, arith}
use Rattle.std.specs.Prelude.{◌||◌, Contains, find}
use Rattle.std.specs.List.{list_all, cons_option}
use Rattle.std.specs.Option.{option_map, option_map_or}
use Rattle.std.proofs.lemmas.Bool.{and_parts}
use Rattle.std.proofs.lemmas.List.{length-map, get_or-map}
use Rattle.std.proofs.lemmas.List.Elements.{All-from_get_or}
use Rattle.std.proofs.lemmas.List.Folds.{Any-from_list_any, list_any_at, list_any_none}
use Rattle.std.proofs.lemmas.Slice.Eq.{bytes_eq-Decides}
use Rattle.abi_base.proofs.lemmas.Bools.{or_true}
use Rattle.abi_base.proofs.lemmas.Cases.{bool_cases}
use Rattle.abi_base.proofs.lemmas.Contained.{at_front, in_rest}
use Rattle.suppression_text.specs.declared.key.Key.{Key}
use Rattle.suppression_text.specs.declared.key.Key.TheVariants.{Label, Name, NameRegexp, NameNotRegexp, SymbolName, SymbolNameRegexp, SymbolVersion, SymbolVersionRegexp, SonameRegexp, TypeKind, AccessedThrough}
use Rattle.suppression_text.specs.declared.key.SectionKind.TheVariants.{Types}
use Rattle.suppression_text.specs.Keys.{same_key}
use Rattle.suppression_text.specs.Passing.{passes}
use Rattle.suppression_text.specs.Patterns.{is_found, is_one_found}
use Rattle.suppression_text.specs.Rules.{PlainProperty, PlainSection, plain_property, headed_section, value_in}
use Rattle.suppressions.specs.Subjects.{PlainSubject}
use Rattle.suppressions.specs.Meaning.{property_holds, speaks_of, section_holds, some_section_holds}
use Rattle.suppressions.specs.Handles.{PlainHandle, any_handle, gate_handle, first_value, gate_of, gates_of, pattern_handle, symbol_handle, name_handle, handle_of, handles_of, handle_at, AreAt}
use Rattle.suppressions.specs.Holding.{section_at, one_section_holds, Holds, IsOneOfHandle, is_named_by}

other_class : (n : ℕ) (name : List ℕ) → n < 3 → (n, name) ≡ gate_handle → ⊥
other_class n name less is = let same : n ≡ 3 = ap (λ (h : PlainHandle). h.0) is in absurd (omega (arith, same, less))

apart : (b : Bool) → b ≡ true → b ≡ false → ⊥
apart b holds fails = cc

-- ---- properties

module _ (s : PlainSubject) where
  abbrev Found : Key → List ℕ → Type 0
  Found key v = (p : PlainProperty) × (p.value ≡ v) × (same_key key p.key ≡ true) × (property_holds s p ≡ true)

  abbrev value_of : Option PlainProperty → Option (List ℕ)
  value_of found = option_map (λ (p : PlainProperty). p.value) found

  same_some : (x y : List ℕ) → Some x ≡ Some y → x ≡ y
  same_some x y e = cc

  found : (key : Key) (ps : List PlainProperty) (v : List ℕ) → value_of (find (λ (p : PlainProperty). same_key key p.key) ps) ≡ Some v → list_all (property_holds s) ps ≡ true → Found key v
  found key [] v e all = cc
  found key (p ∷ ps) v e all =
      let both = and_parts (property_holds s p) (list_all (property_holds s) ps) all in
      let rest = find (λ (q : PlainProperty). same_key key q.key) ps in
      bool_cases (same_key key p.key)
      (λ holding. (p, same_some p.value v (ap (λ (b : Bool). value_of (cond b (Some p) rest)) (sym holding) ∙ e), holding, both.0))
      (λ failing. found key ps v (ap (λ (b : Bool). value_of (cond b (Some p) rest)) (sym failing) ∙ e) both.1)

  name_value : (k : Key) (v : List ℕ) → same_key Name k ≡ true → property_holds s (plain_property k v) ≡ true → v ≡ s.name
  unfolding property_holds passes
  name_value Label v same holds = cc
  name_value Name v same holds = (bytes_eq-Decides v s.name).0 holds
  name_value NameRegexp v same holds = cc
  name_value NameNotRegexp v same holds = cc
  name_value SymbolName v same holds = cc
  name_value SymbolNameRegexp v same holds = cc
  name_value SymbolVersion v same holds = cc
  name_value SymbolVersionRegexp v same holds = cc
  name_value SonameRegexp v same holds = cc
  name_value TypeKind v same holds = cc
  name_value AccessedThrough v same holds = cc

  is_symbol : (v : List ℕ) (symbol : Option (List ℕ)) → option_map_or (passes SymbolName v) symbol false ≡ true → symbol ≡ Some v
  unfolding passes
  is_symbol v None holds = cc
  is_symbol v (Some name) holds = ap Some (sym ((bytes_eq-Decides v name).0 holds))

  symbol_value : (k : Key) (v : List ℕ) → same_key SymbolName k ≡ true → property_holds s (plain_property k v) ≡ true → s.symbol ≡ Some v
  unfolding property_holds
  symbol_value Label v same holds = cc
  symbol_value Name v same holds = cc
  symbol_value NameRegexp v same holds = cc
  symbol_value NameNotRegexp v same holds = cc
  symbol_value SymbolName v same holds = is_symbol v s.symbol holds
  symbol_value SymbolNameRegexp v same holds = cc
  symbol_value SymbolVersion v same holds = cc
  symbol_value SymbolVersionRegexp v same holds = cc
  symbol_value SonameRegexp v same holds = cc
  symbol_value TypeKind v same holds = cc
  symbol_value AccessedThrough v same holds = cc

  -- ---- handles

  abbrev IsByHandle : PlainHandle → Type 0
  IsByHandle handle = (handle ≡ any_handle) ⊎ ((handle ≡ (1, s.name)) ⊎ (((name : List ℕ) × (s.symbol ≡ Some name) × (handle ≡ (2, name))) ⊎ (handle ≡ gate_handle)))

  by_gate : (gate : Option (List ℕ)) → IsByHandle (pattern_handle gate)
  by_gate None = inl refl
  by_gate (Some text) = inr (inr (inr refl))

  by_symbol : (ps : List PlainProperty) (symbol gate : Option (List ℕ)) → value_of (find (λ (p : PlainProperty). same_key SymbolName p.key) ps) ≡ symbol → list_all (property_holds s) ps ≡ true → IsByHandle (symbol_handle symbol gate)
  by_symbol ps None gate is all = by_gate gate
  by_symbol ps (Some v) gate is all =
      let p = found SymbolName ps v is all in
      let here : s.symbol ≡ Some p.0.value = symbol_value p.0.key p.0.value p.2 p.3 in
      inr (inr (inl (v, here ∙ ap Some p.1, refl)))

  by_name : (ps : List PlainProperty) (name symbol gate : Option (List ℕ)) → value_of (find (λ (p : PlainProperty). same_key Name p.key) ps) ≡ name → value_of (find (λ (p : PlainProperty). same_key SymbolName p.key) ps) ≡ symbol → list_all (property_holds s) ps ≡ true → IsByHandle (name_handle name symbol gate)
  by_name ps None symbol gate is other all = by_symbol ps symbol gate other all
  by_name ps (Some v) symbol gate is other all =
      let p = found Name ps v is all in
      let here : p.0.value ≡ s.name = name_value p.0.key p.0.value p.2 p.3 in
      inr (inl (ap (λ (n : List ℕ). (1, n)) (sym p.1 ∙ here)))

  by_handle : (section : PlainSection) → section_holds s section ≡ true → IsByHandle (handle_of section)
  unfolding section_holds
  by_handle section holds = by_name section.properties (value_in Name section) (value_in SymbolName section) (gate_of section) refl refl (and_parts (speaks_of section s) (list_all (property_holds s) section.properties) holds).1

  -- ---- patterns for names

  -- the pattern matches the name of the subject, or that of its symbol
  abbrev is_named : List ℕ → Bool
  is_named text = is_found text s.name || option_map_or (is_found text) s.symbol false

  name_found : (k : Key) (v : List ℕ) → same_key NameRegexp k ≡ true → property_holds s (plain_property k v) ≡ true → is_found v s.name ≡ true
  unfolding property_holds passes
  name_found Label v same holds = cc
  name_found Name v same holds = cc
  name_found NameRegexp v same holds = holds
  name_found NameNotRegexp v same holds = cc
  name_found SymbolName v same holds = cc
  name_found SymbolNameRegexp v same holds = cc
  name_found SymbolVersion v same holds = cc
  name_found SymbolVersionRegexp v same holds = cc
  name_found SonameRegexp v same holds = cc
  name_found TypeKind v same holds = cc
  name_found AccessedThrough v same holds = cc

  is_in_symbol : (v : List ℕ) (symbol : Option (List ℕ)) → option_map_or (passes SymbolNameRegexp v) symbol false ≡ true → option_map_or (is_found v) symbol false ≡ true
  unfolding passes
  is_in_symbol v None holds = cc
  is_in_symbol v (Some name) holds = holds

  symbol_found : (k : Key) (v : List ℕ) → same_key SymbolNameRegexp k ≡ true → property_holds s (plain_property k v) ≡ true → option_map_or (is_found v) s.symbol false ≡ true
  unfolding property_holds
  symbol_found Label v same holds = cc
  symbol_found Name v same holds = cc
  symbol_found NameRegexp v same holds = cc
  symbol_found NameNotRegexp v same holds = cc
  symbol_found SymbolName v same holds = cc
  symbol_found SymbolNameRegexp v same holds = is_in_symbol v s.symbol holds
  symbol_found SymbolVersion v same holds = cc
  symbol_found SymbolVersionRegexp v same holds = cc
  symbol_found SonameRegexp v same holds = cc
  symbol_found TypeKind v same holds = cc
  symbol_found AccessedThrough v same holds = cc

  gate_named : (ps : List PlainProperty) (v : List ℕ) (name symbol : Option (List ℕ)) → value_of (find (λ (p : PlainProperty). same_key NameRegexp p.key) ps) ≡ name → value_of (find (λ (p : PlainProperty). same_key SymbolNameRegexp p.key) ps) ≡ symbol
      → first_value name symbol ≡ Some v → list_all (property_holds s) ps ≡ true → is_named v ≡ true
  gate_named ps v (Some w) symbol is other first all =
      let p = found NameRegexp ps v (is ∙ first) all in
      let here : is_found v s.name ≡ true = ap (λ (text : List ℕ). is_found text s.name) (sym p.1) ∙ name_found p.0.key p.0.value p.2 p.3 in
      ap (λ (b : Bool). b || option_map_or (is_found v) s.symbol false) here
  gate_named ps v None symbol is other first all =
      let p = found SymbolNameRegexp ps v (other ∙ first) all in
      let here : option_map_or (is_found v) s.symbol false ≡ true = ap (λ (text : List ℕ). option_map_or (is_found text) s.symbol false) (sym p.1) ∙ symbol_found p.0.key p.0.value p.2 p.3 in
      ap (λ (b : Bool). is_found v s.name || b) here ∙ or_true (is_found v s.name)

  one_found : (texts : List (List ℕ)) (v bytes : List ℕ) → Contains texts v → is_found v bytes ≡ true → is_one_found texts bytes ≡ true
  one_found texts v bytes has is = list_any_at (λ (text : List ℕ). is_found text bytes) texts has.0 v has.1 (ap (λ (text : List ℕ). is_found text bytes) has.2 ∙ is)

  one_in_symbol : (texts : List (List ℕ)) (v : List ℕ) (symbol : Option (List ℕ)) → Contains texts v → option_map_or (is_found v) symbol false ≡ true → option_map_or (is_one_found texts) symbol false ≡ true
  one_in_symbol texts v None has is = cc
  one_in_symbol texts v (Some name) has is = one_found texts v name has is

  one_named : (texts : List (List ℕ)) (v : List ℕ) → Contains texts v → is_named v ≡ true → is_named_by texts s ≡ true
  one_named texts v has is =
      bool_cases (is_found v s.name)
      (λ yes. ap (λ (b : Bool). b || option_map_or (is_one_found texts) s.symbol false) (one_found texts v s.name has yes))
      (λ no.
      let rest : option_map_or (is_found v) s.symbol false ≡ true = ap (λ (b : Bool). b || option_map_or (is_found v) s.symbol false) (sym no) ∙ is in
      ap (λ (b : Bool). is_one_found texts s.name || b) (one_in_symbol texts v s.symbol has rest) ∙ or_true (is_one_found texts s.name))

  in_gates : (sections : List PlainSection) (k : ℕ) (d : PlainSection) (v : List ℕ) → k < length sections → gate_of (get_or sections k d) ≡ Some v → Contains (gates_of sections) v
  in_gates [] k d v inside is = absurd (omega arith)
  in_gates (section ∷ sections) zero d v inside is =
      subst (λ (texts : List (List ℕ)). Contains texts v) (ap (λ (gate : Option (List ℕ)). cons_option gate (gates_of sections)) (sym is)) (at_front v (gates_of sections))
  in_gates (section ∷ sections) (suc k) d v inside is = later (gate_of section) (in_gates sections k d v (omega (arith, inside)) is) where
    later : (gate : Option (List ℕ)) → Contains (gates_of sections) v → Contains (cons_option gate (gates_of sections)) v
    later None has = has
    later (Some text) has = in_rest text (gates_of sections) v has

  -- only a section with a pattern has this handle
  has_gate : (name symbol gate : Option (List ℕ)) → name_handle name symbol gate ≡ gate_handle → (v : List ℕ) × (gate ≡ Some v)
  has_gate (Some name) symbol gate is = absurd (other_class 1 name (omega arith) is)
  has_gate None (Some name) gate is = absurd (other_class 2 name (omega arith) is)
  has_gate None None None is = absurd (other_class 0 [] (omega arith) is)
  has_gate None None (Some v) is = (v, refl)

  -- ---- sections

  module _ (sections : List PlainSection) where
    pub one_of : (handle : PlainHandle) (numbers : List ℕ) (answer : Bool) → AreAt (handles_of sections) handle numbers → answer ≡ one_section_holds sections s numbers → IsOneOfHandle sections s handle answer
    one_of handle numbers answer are is =
        let p : ℕ → Bool = λ k. section_holds s (section_at sections k) in
        record {
          some = λ holding.
              let h = Any-from_list_any p numbers (sym is ∙ holding) in
              let k = h.1 in
              let place = (are k).0 (h.0, h.2, h.3) in
              let inside : k < length sections = rw (length-map sections handle_of) at place.0 in
              (k, (inside, h.4));
          none = λ failing k of_handle holds.
              let inside : k < length (handles_of sections) = rw (length-map sections handle_of) holds.0 in
              let at : handle_at (handles_of sections) k ≡ handle = get_or-map handle_of sections k (headed_section 0 Types []) any_handle holds.0 ∙ of_handle in
              let has = (are k).1 (inside, at) in
              let holding = list_any_at p numbers has.0 k has.1 (ap p has.2 ∙ holds.1) in
              apart answer (is ∙ holding) failing;
        }

    pub some_hold : (k : ℕ) → Holds sections s k → some_section_holds sections s ≡ true
    some_hold k holds = list_any_at (section_holds s) sections k (headed_section 0 Types []) holds.0 holds.1

    abbrev None_of : PlainHandle → Type 0
    None_of handle = (k : ℕ) → handle_of (section_at sections k) ≡ handle → Holds sections s k → ⊥

    -- if the patterns match no name of the subject, no section that has such a pattern and no name matches the subject
    pub none_let_in : is_named_by (gates_of sections) s ≡ false → None_of gate_handle
    unfolding section_holds
    none_let_in is k at holds =
        let section = section_at sections k in
        let gate = has_gate (value_in Name section) (value_in SymbolName section) (gate_of section) at in
        let all = (and_parts (speaks_of section s) (list_all (property_holds s) section.properties) holds.1).1 in
        let named = gate_named section.properties gate.0 (value_in NameRegexp section) (value_in SymbolNameRegexp section) refl refl gate.1 all in
        let has = in_gates sections k (headed_section 0 Types []) gate.0 holds.0 gate.1 in
        apart (is_named_by (gates_of sections) s) (one_named (gates_of sections) gate.0 has named) is

    pub one_let_in : (answer : Bool) → (answer ≡ false → is_named_by (gates_of sections) s ≡ false) → answer ≡ false → IsOneOfHandle sections s gate_handle false
    one_let_in answer is fails = record { some = λ yes. cc; none = λ failing. none_let_in (is fails) }

    pub none_hold : None_of any_handle → None_of (1, s.name) → None_of gate_handle → ((name : List ℕ) → s.symbol ≡ Some name → None_of (2, name)) → some_section_holds sections s ≡ false
    none_hold no_any no_name no_gate no_symbol =
        list_any_none (section_holds s) sections
        (All-from_get_or (λ (section : PlainSection). section_holds s section ≡ false) sections (headed_section 0 Types []) (λ k inside.
        bool_cases (section_holds s (section_at sections k)) (λ holding.
        elim (by_handle (section_at sections k) holding) [
          | inl any ↦ absurd (no_any k any (inside, holding))
          | inr other ↦ elim other [
            | inl named ↦ absurd (no_name k named (inside, holding))
            | inr unnamed ↦ elim unnamed [
              | inl symbol ↦ absurd (no_symbol symbol.0 symbol.1 k symbol.2 (inside, holding))
              | inr gate ↦ absurd (no_gate k gate (inside, holding))
            ]
          ]
        ]) (λ failing. failing)))

    same_symbol : (x y : List ℕ) → Some x ≡ Some y → x ≡ y
    same_symbol x y e = cc

    pub with_symbol : (symbol : List ℕ) (answer : Bool) → s.symbol ≡ Some symbol → None_of any_handle → None_of (1, s.name) → None_of gate_handle → IsOneOfHandle sections s (2, symbol) answer → answer ≡ some_section_holds sections s
    with_symbol symbol answer is no_any no_name no_gate one =
        bool_cases answer
        (λ holding. let k = one.some holding in holding ∙ sym (some_hold k.0 k.1))
        (λ failing. failing ∙ sym (none_hold no_any no_name no_gate (λ name is_name k at holds.
        let same : symbol ≡ name = same_symbol symbol name (sym is ∙ is_name) in
        one.none failing k (at ∙ ap (λ (n : List ℕ). (2, n)) (sym same)) holds)))

    pub without_symbol : s.symbol ≡ None → None_of any_handle → None_of (1, s.name) → None_of gate_handle → false ≡ some_section_holds sections s
    without_symbol is no_any no_name no_gate = sym (none_hold no_any no_name no_gate (λ name is_name k at holds. apart_symbol name (sym is ∙ is_name))) where
      apart_symbol : (name : List ℕ) → None ≡ Some name → ⊥
      apart_symbol name e = cc
