-- To look at the exports of one name, or of one name and one version, is to look at all exports.
use Rattle.std.proofs.Common.{◌≡◌, ◌<◌, ◌≤◌, ◌+◌, ℕ, zero, suc, Bool, true, false, cond, List, [], ◌∷◌, slice_get, Option, Some, None, refl, sym, ◌∙◌, ap, subst, inl, inr, ◌⊎◌, arith}
use Rattle.std.specs.Prelude.{◌==◌, ◌||◌, find, is_some, position, count_by}
use Rattle.std.specs.BTreeMap.{BTreeMap, get}
use Rattle.std.specs.Cmp.{unsigned_ties}
use Rattle.std.specs.List.{position_from}
use Rattle.std.specs.Option.{option_or}
use Rattle.std.specs.Ordering.{nat_cmp, is_eq}
use Rattle.std.proofs.lemmas.Bool.{cases_Bool, and_parts, eqb-true}
use Rattle.std.proofs.lemmas.Iterator.Adapters.{position_from-zero}
use Rattle.std.proofs.lemmas.List.Sums.{sum_by-cons}
use Rattle.std.proofs.lemmas.Option.{slice_get-map, slice_get_within, slice_get-get_or, get_or_from_slice_get, none-some, same_Some}
use Rattle.std.proofs.lemmas.Slice.Eq.{bytes_eq-Decides}
use Rattle.abi_base.proofs.lemmas.Bools.{and_left_true, and_of_true}
use Rattle.abi_types.specs.Exports.{PlainExport}
use Rattle.abi_types.specs.Names.{IsNamed, AreNamed, name_at}
use Rattle.abi_types.specs.Versions.{IsVersioned, AreVersioned}
use Rattle.elf_bind.specs.Binding.{is_named, has_version, has_first_version, is_default_version}
use Rattle.elf_bind.specs.Exports.{same_name}
use Rattle.elf_bind.proofs.lemmas.Names.{same_version, version_from_same}
use Rattle.elf_bind.specs.Named.{passes_at, some_version_among, some_version_of, bind_unversioned, AreAnswers}

pub ruleset reads = (slice_get-map)

-- ---- the places of the exports of one name, counted from a place on

module _ (q : PlainExport → Bool) where
  abbrev places_from : ℕ → List PlainExport → List ℕ
  places_from i [] = []
  places_from i (e ∷ es) = cond (q e) (i ∷ places_from (i + 1) es) (places_from (i + 1) es)

  -- an export that passes stands at a place
  record IsPlace (i : ℕ) (es : List PlainExport) (k : ℕ) : Type 0 where
    after : ℕ
    export : PlainExport
    is : k ≡ i + after
    at : slice_get es after ≡ Some export
    passes : q export ≡ true

  later : (i : ℕ) (e : PlainExport) (es : List PlainExport) (k : ℕ) → IsPlace (i + 1) es k → IsPlace i (e ∷ es) k
  later i e es k p = record { after = suc p.after; export = p.export; is = omega (arith, p.is); at = p.at; passes = p.passes }

  -- a place is the first one, whose export passes, or a later one
  first_or_later : (i : ℕ) (e : PlainExport) (es : List PlainExport) (k : ℕ) → IsPlace i (e ∷ es) k → ((k ≡ i) × (q e ≡ true)) ⊎ IsPlace (i + 1) es k
  first_or_later i e es k p = go p.after p.is p.at where
    go : (n : ℕ) → k ≡ i + n → slice_get (e ∷ es) n ≡ Some p.export → ((k ≡ i) × (q e ≡ true)) ⊎ IsPlace (i + 1) es k
    go zero is at = inl (omega (arith, is), ap q (same_Some e p.export at) ∙ p.passes)
    go (suc n) is at = inr (record { after = n; export = p.export; is = omega (arith, is); at = at; passes = p.passes })

  -- these places ascend, and are the places of the exports that pass
  record ArePlaces (i : ℕ) (es : List PlainExport) (ks : List ℕ) : Type 0 where
    ascend : (m n k l : ℕ) → m < n → slice_get ks m ≡ Some k → slice_get ks n ≡ Some l → k < l
    forth : (m k : ℕ) → slice_get ks m ≡ Some k → IsPlace i es k
    back : (k : ℕ) → IsPlace i es k → (m : ℕ) × (slice_get ks m ≡ Some k)

  none_there : (i : ℕ) (ks : List ℕ) → ArePlaces i [] ks → ks ≡ []
  none_there i [] are = refl
  none_there i (k ∷ ks) are = let p = are.forth 0 k refl in absurd (none-some p.export p.at)

  tail_places : (i : ℕ) (e : PlainExport) (es : List PlainExport) (ks : List ℕ) → ArePlaces i (e ∷ es) (i ∷ ks) → ArePlaces (i + 1) es ks
  tail_places i e es ks are = record {
    ascend = λ m n k l lt at_m at_n. are.ascend (suc m) (suc n) k l (omega arith) at_m at_n;
    forth = λ m k at. elim (first_or_later i e es k (are.forth (suc m) k at)) [
      | inl first ↦ absurd (let lt : i < k = are.ascend 0 (suc m) i k (omega arith) refl at in omega (arith, first.0))
      | inr after ↦ after
    ];
    back = λ k p. behind k p (are.back k (later i e es k p));
  }
    where
      behind : (k : ℕ) → IsPlace (i + 1) es k → (m : ℕ) × (slice_get (i ∷ ks) m ≡ Some k) → (m : ℕ) × (slice_get ks m ≡ Some k)
      behind k p (zero, at) = absurd (omega (arith, same_Some i k at, p.is))
      behind k p (suc m, at) = (m, at)

  same_places : (i : ℕ) (e : PlainExport) (es : List PlainExport) (ks : List ℕ) → q e ≡ false → ArePlaces i (e ∷ es) ks → ArePlaces (i + 1) es ks
  same_places i e es ks fails are = record {
    ascend = are.ascend;
    forth = λ m k at. elim (first_or_later i e es k (are.forth m k at)) [
      | inl first ↦ absurd (let two : true ≡ false = sym first.1 ∙ fails in cc)
      | inr after ↦ after
    ];
    back = λ k p. are.back k (later i e es k p);
  }

  -- the first of the places is the first one that passes
  begins : (i : ℕ) (e : PlainExport) (es : List PlainExport) (k : ℕ) (ks : List ℕ) → q e ≡ true → ArePlaces i (e ∷ es) (k ∷ ks) → k ≡ i
  begins i e es k ks passes are =
      let here : IsPlace i (e ∷ es) i = record { after = 0; export = e; is = omega arith; at = refl; passes = passes } in
      let p = are.forth 0 k refl in
      go (are.back i here) (let le : i ≤ k = omega (arith, p.is) in le)
    where
      go : (m : ℕ) × (slice_get (k ∷ ks) m ≡ Some i) → i ≤ k → k ≡ i
      go (zero, at) le = same_Some k i at
      go (suc m, at) le = absurd (let lt : k < i = are.ascend 0 (suc m) k i (omega arith) refl at in omega arith)

  places_are : (es : List PlainExport) (i : ℕ) (ks : List ℕ) → ArePlaces i es ks → ks ≡ places_from i es
  places_are [] i ks are = none_there i ks are
  places_are (e ∷ es) i ks are =
      elim (cases_Bool (q e)) [
        | inl passes ↦ rw passes (some_there passes ks are (λ ls there. places_are es (i + 1) ls there))
        | inr fails ↦ rw fails (places_are es (i + 1) ks (same_places i e es ks fails are))
      ]
    where
      some_there : q e ≡ true → (ks : List ℕ) → ArePlaces i (e ∷ es) ks → ((ls : List ℕ) → ArePlaces (i + 1) es ls → ls ≡ places_from (i + 1) es)
          → ks ≡ i ∷ places_from (i + 1) es
      some_there passes [] are others =
          let m = are.back i (record { after = 0; export = e; is = omega arith; at = refl; passes = passes }) in
          absurd (none-some i m.1)
      some_there passes (k ∷ ks) are others =
          let first = begins i e es k ks passes are in
          rw first (ap (λ (ls : List ℕ). i ∷ ls) (others ks (tail_places i e es ks (rw first at are))))

  first_same : (es : List PlainExport) (i : ℕ) → slice_get (places_from i es) 0 ≡ position_from q i es
  first_same [] i = refl
  first_same (e ∷ es) i = elim (cases_Bool (q e)) [ inl passes ↦ rw passes refl | inr fails ↦ rw fails (first_same es (i + 1)) ]

  -- a test of numbers tests the exports from a place on
  abbrev Agrees : (ℕ → Bool) → (PlainExport → Bool) → ℕ → List PlainExport → Type 0
  Agrees test p i es = (n : ℕ) (e : PlainExport) → slice_get es n ≡ Some e → test (i + n) ≡ p e

  module _ (test : ℕ → Bool) (p : PlainExport → Bool) (implied : (e : PlainExport) → p e ≡ true → q e ≡ true) where
    here : (i : ℕ) (e : PlainExport) (es : List PlainExport) → Agrees test p i (e ∷ es) → test i ≡ p e
    here i e es agrees =
        let same : i + 0 ≡ i = omega arith in
        subst (λ (n : ℕ). test n ≡ p e) same (agrees 0 e refl)

    behind : (i : ℕ) (e : PlainExport) (es : List PlainExport) → Agrees test p i (e ∷ es) → Agrees test p (i + 1) es
    behind i e es agrees n x at =
        let same : i + suc n ≡ i + 1 + n = omega arith in
        subst (λ (m : ℕ). test m ≡ p x) same (agrees (suc n) x at)

    fails_too : (e : PlainExport) → q e ≡ false → p e ≡ false
    fails_too e fails = elim (cases_Bool (p e)) [ inl passes ↦ absurd (let two : true ≡ false = sym (implied e passes) ∙ fails in cc) | inr fails_p ↦ fails_p ]

    find_same : (es : List PlainExport) (i : ℕ) → Agrees test p i es → find test (places_from i es) ≡ position_from p i es
    find_same [] i agrees = refl
    find_same (e ∷ es) i agrees =
        let rest : find test (places_from (i + 1) es) ≡ position_from p (i + 1) es = find_same es (i + 1) (behind i e es agrees) in
        elim (cases_Bool (q e)) [
          | inl passes ↦ rw (passes, here i e es agrees, rest) refl
          | inr fails ↦ rw (fails, fails_too e fails) rest
        ]

    count_same : (es : List PlainExport) (i : ℕ) → Agrees test p i es → count_by test (places_from i es) ≡ count_by p es
    count_same [] i agrees = refl
    count_same (e ∷ es) i agrees =
        let rest : count_by test (places_from (i + 1) es) ≡ count_by p es = count_same es (i + 1) (behind i e es agrees) in
        let first : cond (test i) 1 0 + count_by test (places_from (i + 1) es) ≡ cond (p e) 1 0 + count_by p es = rw (here i e es agrees, rest) refl in
        let all : count_by p (e ∷ es) ≡ cond (p e) 1 0 + count_by p es = sum_by-cons (λ x. cond (p x) 1 0) e es in
        elim (cases_Bool (q e)) [
          | inl passes ↦ rw passes (sum_by-cons (λ k. cond (test k) 1 0) i (places_from (i + 1) es) ∙ first ∙ sym all)
          | inr fails ↦
              let none : cond (p e) 1 0 + count_by p es ≡ count_by p es = rw (fails_too e fails) (omega arith) in
              rw fails (rest ∙ sym (all ∙ none))
        ]

-- ---- the exports of one name

module _ (exports : List PlainExport) (name : List ℕ) (places : List ℕ) (named : AreNamed exports name places) where
  named_places : places ≡ places_from (is_named name) 0 exports
  named_places =
      places_are (is_named name) exports 0 places (record {
        ascend = named.ascend;
        forth = λ m k at. place k ((named.exact k).0 (m, slice_get_within places m k at, get_or_from_slice_get places m k k at));
        back = λ k p. let (m, inside, is) = (named.exact k).1 (stands k p) in (m, slice_get-get_or places m k inside ∙ ap Some is);
      })
    where
      place : (k : ℕ) → IsNamed exports name k → IsPlace (is_named name) 0 exports k
      place k n = record { after = k; export = n.exported; is = omega arith; at = n.at; passes = (bytes_eq-Decides n.exported.name name).1 n.named }

      stands : (k : ℕ) → IsPlace (is_named name) 0 exports k → IsNamed exports name k
      stands k p =
          let same : p.after ≡ k = omega (arith, p.is) in
          record {
            exported = p.export;
            at = subst (λ (n : ℕ). slice_get exports n ≡ Some p.export) same p.at;
            named = (bytes_eq-Decides p.export.name name).0 p.passes;
          }

  agrees : (p : PlainExport → Bool) → Agrees (is_named name) (passes_at p exports) p 0 exports
  agrees p n e at = let same : 0 + n ≡ n = omega arith in rw (same, at) refl

  find_named : (p : PlainExport → Bool) → ((e : PlainExport) → p e ≡ true → is_named name e ≡ true) → find (passes_at p exports) places ≡ position p exports
  find_named p implied =
      ap (find (passes_at p exports)) named_places
      ∙ find_same (is_named name) (passes_at p exports) p implied exports 0 (agrees p)
      ∙ sym (position_from-zero p exports)

  count_named : (p : PlainExport → Bool) → ((e : PlainExport) → p e ≡ true → is_named name e ≡ true) → count_by (passes_at p exports) places ≡ count_by p exports
  count_named p implied =
      ap (count_by (passes_at p exports)) named_places
      ∙ count_same (is_named name) (passes_at p exports) p implied exports 0 (agrees p)

same_choice : (x x' y y' : Option ℕ) (n n' : ℕ) → x ≡ x' → n ≡ n' → y ≡ y' → option_or x (cond (n == 1) y None) ≡ option_or x' (cond (n' == 1) y' None)
same_choice x x' y y' n n' p q r = rw (p, q, r) refl

-- what an export without a version binds to among the exports of its name is what it binds to among all
pub some_version_is : (exports : List PlainExport) (name : List ℕ) (places : List ℕ) → AreNamed exports name places
    → some_version_among name places exports ≡ some_version_of name exports
some_version_is exports name places named =
    let find_by = find_named exports name places named in
    same_choice _ _ _ _ _ _
    (find_by (has_first_version name) (λ x h. and_left_true _ _ h))
    (count_named exports name places named (is_default_version name) (λ x h. and_left_true _ _ (and_left_true _ _ h)))
    (find_by (is_default_version name) (λ x h. and_left_true _ _ (and_left_true _ _ h)))

-- ---- the answers that are kept

module _ (offered : List PlainExport) (name : List ℕ) (places : List ℕ) (named : AreNamed offered name places) (first : ℕ) (at : Some first ≡ slice_get places 0) where
  -- the first of the positions is that of an export of the name
  first_named : name_at offered first ≡ name
  first_named =
      let is : IsNamed offered name first = (named.exact first).0 (0, slice_get_within places 0 first (sym at), get_or_from_slice_get places 0 first first (sym at)) in
      let there : slice_get offered first ≡ Some is.exported = is.at in
      let here : name_at offered first ≡ is.exported.name = rw there refl in
      here ∙ is.named

  module _ (answers : BTreeMap ℕ (Option ℕ)) (known : AreAnswers answers offered) (answer : Option ℕ) where
    pub answer_known : Some answer ≡ get nat_cmp answers first → answer ≡ some_version_of name offered
    answer_known is = known.each first answer (sym is) ∙ ap (λ (n : List ℕ). some_version_of n offered) first_named

    pub answers_more : answer ≡ some_version_of name offered → (next : BTreeMap ℕ (Option ℕ))
        → ((q : ℕ) → get nat_cmp next q ≡ cond (is_eq (nat_cmp first q)) (Some answer) (get nat_cmp answers q)) → AreAnswers next offered
    answers_more is next adds = record {
      each = λ k given has. elim (cases_Bool (is_eq (nat_cmp first k))) [
        | inl same ↦
            let new : get nat_cmp next k ≡ Some answer = adds k ∙ ap (λ (b : Bool). cond b (Some answer) (get nat_cmp answers k)) same in
            let place : first ≡ k = eqb-true first k (unsigned_ties first k ∙ same) in
            same_Some given answer (sym has ∙ new) ∙ is ∙ ap (λ (n : List ℕ). some_version_of n offered) (sym first_named) ∙ ap (λ (p : ℕ). some_version_of (name_at offered p) offered) place
        | inr other ↦
            let old : get nat_cmp next k ≡ get nat_cmp answers k = adds k ∙ ap (λ (b : Bool). cond b (Some answer) (get nat_cmp answers k)) other in
            known.each k given (sym old ∙ has)
      ];
    }

-- ---- what an export binds to, where one of its name and version is there and where none is

module _ (offered : List PlainExport) (name : List ℕ) where
  abbrev bind_by : Option (List ℕ) → Option ℕ
  bind_by version = cond (is_some version) (position (has_version name version) offered) (bind_unversioned name offered)

  pub binds_exactly : (version : Option (List ℕ)) (place : Option ℕ) → place ≡ position (has_version name version) offered → (is_some place || is_some version) ≡ true → place ≡ bind_by version
  binds_exactly (Some v) place is sure = is
  binds_exactly None (Some k) is sure = rw (← is) refl
  binds_exactly None None is sure = absurd cc

  pub binds_otherwise : (version : Option (List ℕ)) (place other : Option ℕ) → place ≡ position (has_version name version) offered → (is_some place || is_some version) ≡ false
      → other ≡ some_version_of name offered → other ≡ bind_by version
  binds_otherwise (Some v) None other is none found = absurd cc
  binds_otherwise (Some v) (Some k) other is none found = absurd cc
  binds_otherwise None (Some k) other is none found = absurd cc
  binds_otherwise None None other is none found = found ∙ rw (← is) refl

-- ---- the exports of one name and one version

module _ (exports : List PlainExport) (name : List ℕ) (version : Option (List ℕ)) (places : List ℕ) (are : AreVersioned exports name version places) where
  versioned_places : places ≡ places_from (has_version name version) 0 exports
  versioned_places =
      places_are (has_version name version) exports 0 places (record {
        ascend = are.ascend;
        forth = λ m k at. place k ((are.exact k).0 (m, slice_get_within places m k at, get_or_from_slice_get places m k k at));
        back = λ k p. let (m, inside, is) = (are.exact k).1 (stands k p) in (m, slice_get-get_or places m k inside ∙ ap Some is);
      })
    where
      place : (k : ℕ) → IsVersioned exports name version k → IsPlace (has_version name version) 0 exports k
      place k v = record {
        after = k;
        export = v.exported;
        is = omega arith;
        at = v.at;
        passes = and_of_true _ _ ((bytes_eq-Decides v.exported.name name).1 v.named) (same_version v.exported.version version v.versioned);
      }

      stands : (k : ℕ) → IsPlace (has_version name version) 0 exports k → IsVersioned exports name version k
      stands k p =
          let same : p.after ≡ k = omega (arith, p.is) in
          let parts = and_parts (is_named name p.export) (same_name p.export.version version) p.passes in
          record {
            exported = p.export;
            at = subst (λ (n : ℕ). slice_get exports n ≡ Some p.export) same p.at;
            named = (bytes_eq-Decides p.export.name name).0 parts.0;
            versioned = version_from_same p.export.version version parts.1;
          }

  -- the first of them is the first export of the name and the version
  pub first_of_version : slice_get places 0 ≡ position (has_version name version) exports
  first_of_version =
      ap (λ (ks : List ℕ). slice_get ks 0) versioned_places
      ∙ first_same (has_version name version) exports 0
      ∙ sym (position_from-zero (has_version name version) exports)
