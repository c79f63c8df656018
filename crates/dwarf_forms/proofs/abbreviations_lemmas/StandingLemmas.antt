-- The table that is read is the one in the bytes.
use Rattle.std.proofs.Common.{◌≡◌, ◌≢◌, ℕ, zero, suc, ◌+◌, ◌-◌, ◌<◌, ◌≤◌, Bool, true, false, List, [], ◌∷◌, ◌++◌, length, get_or, Option, Some, None, Result, Ok, Err, refl, sym, ap, ◌∙◌, subst, arith, append_assoc, length-append, eq-eqb, inl, inr}
use Rattle.std.specs.Prelude.{slice_get, ◌==◌, All}
use Rattle.std.proofs.lemmas.List.Elements.{All-nil, All-cons}
use Rattle.std.specs.List.{list_any}
use Rattle.std.specs.Option.{option_map}
use Rattle.std.proofs.lemmas.Bool.{cases_Bool, eqb-true, ne_eqb}
use Rattle.std.proofs.lemmas.List.{append-nil, get_or_append_left}
use Rattle.std.proofs.lemmas.List.Folds.{list_any_none}
use Rattle.std.proofs.lemmas.List.Quantifiers.{all_pairs_push}
use Rattle.std.proofs.Math.Seq.{get_or-append_seam}
use Rattle.abi_base.proofs.lemmas.Cases.{option_cases}
use Rattle.abi_base.specs.declared.fault.Fault.{Fault}
use Rattle.abi_base.specs.declared.fault.FaultKind.TheVariants as kind
use Rattle.abi_base.specs.Leb.{uleb_at}
use Rattle.abi_base.specs.Runs.{Run, Chain}
use Rattle.abi_base.proofs.lemmas.Runs.{Falls, run_chain, chain_run}
use Rattle.dwarf_forms.specs.declared.abbreviations.abbrev.Spec.{Spec}
use Rattle.dwarf_forms.specs.declared.abbreviations.abbrev.Abbrev.{Abbrev}
use Rattle.dwarf_forms.specs.abbreviations.Abbrevs.{spec_step, specs_run, specs_at, children_of, abbrev_step, table_run}
use Rattle.dwarf_forms.specs.abbreviations.Standing.{PairAt, NoPairAt, PairsAt, AbbrevAt, FollowAt, CodesApart, TableAt, HasPairs}
use Rattle.dwarf_forms.proofs.abbreviations_lemmas.AbbrevsLemmas.{zero_there, spec_falls, abbrev_falls, abbrev_read, pairs_inside}

-- a chain is no longer than its measure
chain_length : {S X E : Type 0} (step : S → Result (X × S) E) (measure : S → ℕ) (s : S) (xs : List X) (e : E) → Falls step measure → Chain step s xs e → length xs ≤ measure s
chain_length step measure s [] e falls h = omega arith
chain_length step measure s (x ∷ xs) e falls h =
    let lt = falls.falls s x h.0 h.1 in
    let le = chain_length step measure h.0 xs e falls h.2 in
    omega (arith, lt, le)

-- ---- pairs in the bytes are read

spec_made : (bytes : List ℕ) (at : ℕ) (x : Spec) (next : ℕ) → PairAt bytes at x next → spec_step bytes at ≡ Ok (x, next)
unfolding spec_step
spec_made bytes at x next p = rw (p.attribute, p.form, ne_eqb x.attribute 0 p.has_attribute, ne_eqb x.form 0 p.has_form, p.value) refl

no_spec : (bytes : List ℕ) (at after : ℕ) → NoPairAt bytes at after → spec_step bytes at ≡ Err (Some after)
unfolding spec_step
no_spec bytes at after p = rw (p.attribute, p.form) refl

chain_of_pairs : (bytes : List ℕ) (at : ℕ) (xs : List Spec) (after : ℕ) → PairsAt bytes at xs after → Chain (spec_step bytes) at xs (Some after)
chain_of_pairs bytes at [] after h = no_spec bytes at after h
chain_of_pairs bytes at (x ∷ xs) after h = (h.0, spec_made bytes at x h.0 h.1, chain_of_pairs bytes h.0 xs after h.2)

specs_are : (bytes : List ℕ) (at : ℕ) (xs : List Spec) (after : ℕ) → PairsAt bytes at xs after → specs_run bytes at ≡ record { items = xs; end = Some after }
unfolding specs_run
specs_are bytes at xs after h =
    let chain = chain_of_pairs bytes at xs after h in
    let le : length xs ≤ length bytes - at = chain_length (spec_step bytes) (λ at. length bytes - at) at xs (Some after) (spec_falls bytes) chain in
    chain_run (spec_step bytes) None (suc (length bytes)) at xs (Some after) (omega arith) chain

specs_made : (bytes : List ℕ) (at : ℕ) (xs : List Spec) (after : ℕ) → PairsAt bytes at xs after → specs_at bytes at ≡ Some (xs, after)
specs_made bytes at xs after h = ap (λ (r : Run Spec (Option ℕ)). option_map (λ after. (r.items, after)) r.end) (specs_are bytes at xs after h)

-- ---- so is an abbreviation

abbrev_made : (bytes : List ℕ) (at : ℕ) (seen : List Abbrev) (x : Abbrev) (after : ℕ) → AbbrevAt bytes at x after → list_any (λ a. a.code == x.code) seen ≡ false
    → abbrev_step bytes (at, seen) ≡ Ok (x, (after, seen ++ x ∷ []))
unfolding abbrev_step
abbrev_made bytes at seen x after a is_new =
    rw (a.code, ne_eqb x.code 0 a.has_code, is_new, a.tag, a.children, ← a.place, specs_made bytes x.specs_from x.specs after a.pairs) refl

no_abbrev : (bytes : List ℕ) (at : ℕ) (seen : List Abbrev) (after : ℕ) → uleb_at bytes at ≡ Some (0, after) → abbrev_step bytes (at, seen) ≡ Err None
unfolding abbrev_step
no_abbrev bytes at seen after is = rw is refl

-- the table ends at a code 0
abbrev_ended : (bytes : List ℕ) (s : ℕ × List Abbrev) → abbrev_step bytes s ≡ Err None → (after : ℕ) × (uleb_at bytes s.0 ≡ Some (0, after))
unfolding abbrev_step
abbrev_ended bytes s h =
    option_cases (uleb_at bytes s.0) (λ is. absurd (let e = rw is at h in cc)) (λ c ic.
    let h1 = rw ic at h in
    elim (cases_Bool (c.0 == 0)) [
      | inl is ↦ (c.1, zero_there bytes s.0 c ic (eqb-true c.0 0 is))
      | inr id ↦ let h2 = rw id at h1 in
          elim (cases_Bool (list_any (λ a. a.code == c.0) s.1)) [
            | inl is ↦ absurd (let e = rw is at h2 in cc)
            | inr ie ↦ let h3 = rw ie at h2 in
                option_cases (uleb_at bytes c.1) (λ is. absurd (let e = rw is at h3 in cc)) (λ t it.
                let h4 = rw it at h3 in
                option_cases (children_of (slice_get bytes t.1)) (λ is. absurd (let e = rw is at h4 in cc)) (λ b ib.
                let h5 = rw ib at h4 in
                option_cases (specs_at bytes (t.1 + 1)) (λ is. absurd (let e = rw is at h5 in cc)) (λ v iv. absurd (let e = rw iv at h5 in cc))))
          ]
    ])

-- a fault is the one of an abbreviation, at its place
abbrev_fault : (bytes : List ℕ) (s : ℕ × List Abbrev) (f : Fault) → abbrev_step bytes s ≡ Err (Some f) → f ≡ record { kind = kind.Abbrev; at = s.0 }
unfolding abbrev_step
abbrev_fault bytes s f h =
    option_cases (uleb_at bytes s.0) (λ is. this (rw is at h)) (λ c ic.
    let h1 = rw ic at h in
    elim (cases_Bool (c.0 == 0)) [
      | inl is ↦ absurd (let e = rw is at h1 in cc)
      | inr id ↦ let h2 = rw id at h1 in
          elim (cases_Bool (list_any (λ a. a.code == c.0) s.1)) [
            | inl is ↦ this (rw is at h2)
            | inr ie ↦ let h3 = rw ie at h2 in
                option_cases (uleb_at bytes c.1) (λ is. this (rw is at h3)) (λ t it.
                let h4 = rw it at h3 in
                option_cases (children_of (slice_get bytes t.1)) (λ is. this (rw is at h4)) (λ b ib.
                let h5 = rw ib at h4 in
                option_cases (specs_at bytes (t.1 + 1)) (λ is. this (rw is at h5)) (λ v iv. absurd (let e = rw iv at h5 in cc))))
          ]
    ])
  where
    this : ◌≡◌ {A = Result (Abbrev × (ℕ × List Abbrev)) (Option Fault)} (Err (Some (record { kind = kind.Abbrev; at = s.0 }))) (Err (Some f)) → f ≡ record { kind = kind.Abbrev; at = s.0 }
    this e = cc

-- ---- different codes

none_of : (test : Abbrev → Bool) (xs : List Abbrev) → list_any test xs ≡ false → (k : ℕ) (d : Abbrev) → k < length xs → test (get_or xs k d) ≡ false
none_of test [] none k d lt = absurd (omega arith)
none_of test (x ∷ xs) none zero d lt =
    elim (cases_Bool (test x)) [
      | inl is ↦ absurd (let e = rw is at none in cc)
      | inr apart ↦ apart
    ]
none_of test (x ∷ xs) none (suc k) d lt =
    elim (cases_Bool (test x)) [
      | inl is ↦ absurd (let e = rw is at none in cc)
      | inr apart ↦ none_of test xs (rw apart at none) k d (omega arith)
    ]

apart_push : (seen : List Abbrev) (x : Abbrev) → CodesApart seen → list_any (λ a. a.code == x.code) seen ≡ false → CodesApart (seen ++ x ∷ [])
apart_push seen x apart is_new = all_pairs_push (λ (a b : Abbrev). a.code ≢ b.code) seen x apart (λ k d lt same.
    absurd (let e = none_of (λ a. a.code == x.code) seen is_new k d lt in let f = eq-eqb (get_or seen k d).code x.code same in cc))

apart_new : (seen : List Abbrev) (x : Abbrev) (others : List Abbrev) → CodesApart (seen ++ x ∷ others) → list_any (λ a. a.code == x.code) seen ≡ false
apart_new seen x others apart = list_any_none (λ a. a.code == x.code) seen (λ k d lt. ne_eqb (get_or seen k d).code x.code (λ same. differs k d lt same))
  where
    differs : (k : ℕ) (d : Abbrev) → k < length seen → (get_or seen k d).code ≡ x.code → ⊥
    differs k d lt same =
        apart k (length seen) d lt (omega (arith, length-append seen (x ∷ others)))
        (ap (λ (a : Abbrev). a.code) (get_or_append_left seen (x ∷ others) d k lt) ∙ same ∙ sym (ap (λ (a : Abbrev). a.code) (get_or-append_seam seen x others d)))

-- ---- the whole table

-- what a chain of steps gives: abbreviations one after the other with different codes, and the step at their end
pub record Follows (bytes : List ℕ) (at : ℕ) (seen xs : List Abbrev) (e : Option Fault) : Type 0 where
  pub place : ℕ
  pub follow : FollowAt bytes at xs place
  pub apart : CodesApart (seen ++ xs)
  pub last : abbrev_step bytes (place, seen ++ xs) ≡ Err e

follows : (bytes : List ℕ) (at : ℕ) (seen xs : List Abbrev) (e : Option Fault) → CodesApart seen → Chain (abbrev_step bytes) (at, seen) xs e → Follows bytes at seen xs e
follows bytes at seen [] e apart h = record {
  place = at;
  follow = refl;
  apart = subst CodesApart (sym (append-nil seen)) apart;
  last = subst (λ (l : List Abbrev). abbrev_step bytes (at, l) ≡ Err e) (sym (append-nil seen)) h;
}
follows bytes at seen (x ∷ xs) e apart h =
    let r = abbrev_read bytes (at, seen) x h.0 h.1 in
    let chain = subst (λ (l : List Abbrev). Chain (abbrev_step bytes) (h.0.0, l) xs e) r.last h.2 in
    let rest = follows bytes h.0.0 (seen ++ x ∷ []) xs e (apart_push seen x apart r.is_new) chain in
    record {
      place = rest.place;
      follow = (h.0.0, r.there, rest.follow);
      apart = subst CodesApart (append_assoc seen (x ∷ []) xs) rest.apart;
      last = subst (λ (l : List Abbrev). abbrev_step bytes (rest.place, l) ≡ Err e) (append_assoc seen (x ∷ []) xs) rest.last;
    }

chain_of_table : (bytes : List ℕ) (at : ℕ) (seen xs : List Abbrev) (e : Option Fault) (place : ℕ) → FollowAt bytes at xs place → CodesApart (seen ++ xs) → abbrev_step bytes (place, seen ++ xs) ≡ Err e
    → Chain (abbrev_step bytes) (at, seen) xs e
chain_of_table bytes at seen [] e place follow apart last =
    subst (λ (n : ℕ). abbrev_step bytes (n, seen) ≡ Err e) (sym follow) (subst (λ (l : List Abbrev). abbrev_step bytes (place, l) ≡ Err e) (append-nil seen) last)
chain_of_table bytes at seen (x ∷ xs) e place follow apart last =
    let again = sym (append_assoc seen (x ∷ []) xs) in (
      (follow.0, seen ++ x ∷ []),
      abbrev_made bytes at seen x follow.0 follow.1 (apart_new seen x xs apart),
      chain_of_table bytes follow.0 (seen ++ x ∷ []) xs e place follow.2 (subst CodesApart again apart) (subst (λ (l : List Abbrev). abbrev_step bytes (place, l) ≡ Err e) again last),
    )

pub table_chain : (bytes : List ℕ) (at : ℕ) → Chain (abbrev_step bytes) (at, []) (table_run bytes at).items (table_run bytes at).end
unfolding table_run
table_chain bytes at = run_chain (abbrev_step bytes) None (λ s. length bytes - s.0) (suc (length bytes)) (at, []) (abbrev_falls bytes) (omega arith)

none_apart : CodesApart []
none_apart = λ i j d lt inside. absurd (omega arith)

table_follows : (bytes : List ℕ) (at : ℕ) → Follows bytes at [] (table_run bytes at).items (table_run bytes at).end
table_follows bytes at = follows bytes at [] (table_run bytes at).items (table_run bytes at).end none_apart (table_chain bytes at)

pub codes_apart : (bytes : List ℕ) (at : ℕ) → CodesApart (table_run bytes at).items
codes_apart bytes at = (table_follows bytes at).apart

pub table_stands : (bytes : List ℕ) (at : ℕ) → (table_run bytes at).end ≡ None → TableAt bytes at (table_run bytes at).items
table_stands bytes at none =
    let f = table_follows bytes at in
    let last = abbrev_ended bytes (f.place, (table_run bytes at).items) (f.last ∙ ap Err none) in
    record { end_at = f.place; after = last.0; follow = f.follow; end = last.1; apart = f.apart }

pub table_is : (bytes : List ℕ) (at : ℕ) (xs : List Abbrev) → TableAt bytes at xs → table_run bytes at ≡ record { items = xs; end = None }
unfolding table_run
table_is bytes at xs t =
    let chain = chain_of_table bytes at [] xs None t.end_at t.follow t.apart (no_abbrev bytes t.end_at xs t.after t.end) in
    let le : length xs ≤ length bytes - at = chain_length (abbrev_step bytes) (λ s. length bytes - s.0) (at, []) xs None (abbrev_falls bytes) chain in
    chain_run (abbrev_step bytes) None (suc (length bytes)) (at, []) xs None (omega arith) chain

-- ---- pairs where the abbreviation says

pairs_are : (bytes : List ℕ) (at : ℕ) (x : Abbrev) (after : ℕ) → AbbrevAt bytes at x after → HasPairs bytes x
pairs_are bytes at x after a =
    let i = pairs_inside bytes x.specs_from x.specs after a.pairs in
    record {
      inside = omega (arith, i.0, i.1);
      pairs = ap (λ (r : Run Spec (Option ℕ)). r.items) (specs_are bytes x.specs_from x.specs after a.pairs);
    }

all_pairs : (bytes : List ℕ) (at : ℕ) (xs : List Abbrev) (place : ℕ) → FollowAt bytes at xs place → All (HasPairs bytes) xs
all_pairs bytes at [] place follow = All-nil (HasPairs bytes)
all_pairs bytes at (x ∷ xs) place follow =
    All-cons (HasPairs bytes) x xs (pairs_are bytes at x follow.0 follow.1) (all_pairs bytes follow.0 xs place follow.2)

pub pairs_there : (bytes : List ℕ) (at : ℕ) → All (HasPairs bytes) (table_run bytes at).items
pairs_there bytes at = let f = table_follows bytes at in all_pairs bytes at (table_run bytes at).items f.place f.follow

-- ---- a fault

module _ (bytes : List ℕ) (at : ℕ) (f : Fault) (is : (table_run bytes at).end ≡ Some f) where
  abbrev last : Follows bytes at [] (table_run bytes at).items (table_run bytes at).end
  last = table_follows bytes at

  stops : abbrev_step bytes (last.place, (table_run bytes at).items) ≡ Err (Some f)
  stops = last.last ∙ ap Err is

  this_fault : f ≡ record { kind = kind.Abbrev; at = last.place }
  this_fault = abbrev_fault bytes (last.place, (table_run bytes at).items) f stops

  place_is : last.place ≡ f.at
  place_is = ap (λ (g : Fault). g.at) (sym this_fault)

  stops_there : abbrev_step bytes (f.at, (table_run bytes at).items) ≡ Err (Some f)
  stops_there = subst (λ (n : ℕ). abbrev_step bytes (n, (table_run bytes at).items) ≡ Err (Some f)) place_is stops

  pub fault_kind : f.kind ≡ kind.Abbrev
  fault_kind = ap (λ (g : Fault). g.kind) this_fault

  pub fault_follows : FollowAt bytes at (table_run bytes at).items f.at
  fault_follows = subst (λ (n : ℕ). FollowAt bytes at (table_run bytes at).items n) place_is last.follow

  pub fault_no_end : (after : ℕ) → uleb_at bytes f.at ≢ Some (0, after)
  fault_no_end after ends = absurd (let e = sym (no_abbrev bytes f.at (table_run bytes at).items after ends) ∙ stops_there in cc)

  pub fault_no_abbrev : (made : Abbrev) (after : ℕ) → AbbrevAt bytes f.at made after → list_any (λ a. a.code == made.code) (table_run bytes at).items ≡ true
  fault_no_abbrev made after there =
      elim (cases_Bool (list_any (λ a. a.code == made.code) (table_run bytes at).items)) [
        | inl stood ↦ stood
        | inr new ↦ absurd (let e = sym (abbrev_made bytes f.at (table_run bytes at).items made after there new) ∙ stops_there in cc)
      ]
