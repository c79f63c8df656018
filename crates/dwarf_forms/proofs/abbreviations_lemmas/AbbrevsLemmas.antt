-- What a step of reading found in the bytes, and that reading moves on.
use Rattle.std.proofs.Common.{◌≡◌, ◌≢◌, ℕ, suc, ◌+◌, ◌-◌, ◌<◌, ◌≤◌, Bool, true, false, cond, List, [], ◌∷◌, ◌++◌, length, Option, Some, None, Ok, Err, refl, ap, ◌∙◌, subst, arith, inl, inr}
use Rattle.std.specs.Prelude.{find, slice_get, ℤ, pos, ◌==◌, ◌&&◌, ◌||◌}
use Rattle.std.specs.List.{list_any}
use Rattle.std.specs.Option.{option_map}
use Rattle.std.proofs.lemmas.Bool.{cases_Bool, eqb-true, eqb-false}
use Rattle.std.proofs.lemmas.Option.{same_Some}
use Rattle.abi_base.proofs.lemmas.Cases.{option_cases, same_Ok, same_Err}
use Rattle.abi_base.specs.declared.fault.Fault.{Fault}
use Rattle.abi_base.specs.Dwarf.{dw_form_implicit_const}
use Rattle.abi_base.specs.Leb.{uleb_at, sleb_at}
use Rattle.abi_base.specs.Runs.{Run, run, put_front, Chain}
use Rattle.abi_base.proofs.lemmas.Leb.{uleb_inside, sleb_inside}
use Rattle.abi_base.proofs.lemmas.Runs.{Falls, put_before, run_more, run_end, loop_more, loop_end, run_chain}
use Rattle.dwarf_forms.specs.declared.abbreviations.abbrev.Spec.{Spec}
use Rattle.dwarf_forms.specs.declared.abbreviations.abbrev.Abbrev.{Abbrev}
use Rattle.dwarf_forms.specs.abbreviations.Abbrevs.{implicit_at, plain_pair, spec_step, specs_run, specs_at, children_of, abbrev_step, abbrev_of}
use Rattle.dwarf_forms.specs.abbreviations.Standing.{PairAt, NoPairAt, PairsAt, AbbrevAt}

-- ---- a pair

neither_zero : (a f : ℕ) → ((a == 0) || (f == 0)) ≡ false → ((a == 0) ≡ false) × ((f == 0) ≡ false)
neither_zero a f h =
    elim (cases_Bool (a == 0)) [
      | inl is ↦ absurd (let e = rw is at h in cc)
      | inr apart ↦ (apart, rw apart at h)
    ]

both_zero : (a f : ℕ) → ((a == 0) && (f == 0)) ≡ true → (a ≡ 0) × (f ≡ 0)
both_zero a f h =
    elim (cases_Bool (a == 0)) [
      | inl is ↦ (eqb-true a 0 is, eqb-true f 0 (rw is at h))
      | inr apart ↦ absurd (let e = rw apart at h in cc)
    ]

pub spec_read : (bytes : List ℕ) (at : ℕ) (x : Spec) (next : ℕ) → spec_step bytes at ≡ Ok (x, next) → PairAt bytes at x next
unfolding spec_step
spec_read bytes at x next h =
    option_cases (uleb_at bytes at) (λ is. absurd (let e = rw is at h in cc)) (λ a ia.
    let h1 = rw ia at h in
    option_cases (uleb_at bytes a.1) (λ is. absurd (let e = rw is at h1 in cc)) (λ f ib.
    let h2 = rw ib at h1 in
    elim (cases_Bool ((a.0 == 0) && (f.0 == 0))) [
      | inl is ↦ absurd (let e = rw is at h2 in cc)
      | inr ic ↦ let h3 = rw ic at h2 in
          elim (cases_Bool ((a.0 == 0) || (f.0 == 0))) [
            | inl is ↦ absurd (let e = rw is at h3 in cc)
            | inr id ↦ let h4 = rw id at h3 in
                option_cases (implicit_at bytes f.0 f.1) (λ is. absurd (let e = rw is at h4 in cc)) (λ v iv.
                let h5 = rw iv at h4 in
                let pair : Spec = record { attribute = a.0; form = f.0; implicit = v.0 } in
                let same = same_Ok (pair, v.1) (x, next) h5 in
                let zeros = neither_zero a.0 f.0 id in
                let there : PairAt bytes at pair v.1 = record {
                  form_at = a.1;
                  value_at = f.1;
                  attribute = ia;
                  form = ib;
                  has_attribute = eqb-false a.0 0 zeros.0;
                  has_form = eqb-false f.0 0 zeros.1;
                  value = iv;
                } in
                subst (λ (p : Spec × ℕ). PairAt bytes at p.0 p.1) same there)
          ]
    ]))

pub zero_there : (bytes : List ℕ) (at : ℕ) (r : ℕ × ℕ) → uleb_at bytes at ≡ Some r → r.0 ≡ 0 → uleb_at bytes at ≡ Some (0, r.1)
zero_there bytes at r is none = is ∙ ap (λ (n : ℕ). Some (n, r.1)) none

pub spec_ended : (bytes : List ℕ) (at after : ℕ) → spec_step bytes at ≡ Err (Some after) → NoPairAt bytes at after
unfolding spec_step
spec_ended bytes at after h =
    option_cases (uleb_at bytes at) (λ is. absurd (let e = rw is at h in cc)) (λ a ia.
    let h1 = rw ia at h in
    option_cases (uleb_at bytes a.1) (λ is. absurd (let e = rw is at h1 in cc)) (λ f ib.
    let h2 = rw ib at h1 in
    elim (cases_Bool ((a.0 == 0) && (f.0 == 0))) [
      | inl is ↦ let g = rw is at h2 in
          let zeros = both_zero a.0 f.0 is in
          let there : NoPairAt bytes at f.1 = record {
            form_at = a.1;
            attribute = zero_there bytes at a ia zeros.0;
            form = zero_there bytes a.1 f ib zeros.1;
          } in
          subst (λ (n : ℕ). NoPairAt bytes at n) (same_Some f.1 after (same_Err (Some f.1) (Some after) g)) there
      | inr ic ↦ let h3 = rw ic at h2 in
          elim (cases_Bool ((a.0 == 0) || (f.0 == 0))) [
            | inl is ↦ absurd (let e = rw is at h3 in cc)
            | inr id ↦ let h4 = rw id at h3 in
                option_cases (implicit_at bytes f.0 f.1) (λ is. absurd (let e = rw is at h4 in cc)) (λ v iv. absurd (let e = rw iv at h4 in cc))
          ]
    ]))

implicit_inside : (bytes : List ℕ) (form at : ℕ) (r : ℤ × ℕ) → at ≤ length bytes → implicit_at bytes form at ≡ Some r → (at ≤ r.1) × (r.1 ≤ length bytes)
implicit_inside bytes form at r le h = cases (form == dw_form_implicit_const) h
  where
    cases : (b : Bool) → cond b (sleb_at bytes at) (Some (pos 0, at)) ≡ Some r → (at ≤ r.1) × (r.1 ≤ length bytes)
    cases true e = let i = sleb_inside bytes at r e in (omega (arith, i.0), omega (arith, i.1))
    cases false e =
        let next : at ≡ r.1 = ap (λ (p : ℤ × ℕ). p.1) (same_Some (pos 0, at) r e) in
        (omega arith, omega arith)

pair_inside : (bytes : List ℕ) (at : ℕ) (x : Spec) (next : ℕ) → PairAt bytes at x next → (at < next) × (next ≤ length bytes)
pair_inside bytes at x next p =
    let la = uleb_inside bytes at (x.attribute, p.form_at) p.attribute in
    let lb = uleb_inside bytes p.form_at (x.form, p.value_at) p.form in
    let lv = implicit_inside bytes x.form p.value_at (x.implicit, next) lb.1 p.value in
    (omega (arith, la.0, lb.0, lv.0), omega (arith, lv.1))

pub spec_inside : (bytes : List ℕ) (at : ℕ) (x : Spec) (next : ℕ) → spec_step bytes at ≡ Ok (x, next) → (at < next) × (next ≤ length bytes)
spec_inside bytes at x next h = pair_inside bytes at x next (spec_read bytes at x next h)

pub spec_falls : (bytes : List ℕ) → Falls (spec_step bytes) (λ at. length bytes - at)
spec_falls bytes = record { falls = λ at x next h. let i = spec_inside bytes at x next h in omega (arith, i.0, i.1) }

-- ---- the pairs of an abbreviation

pairs_of_chain : (bytes : List ℕ) (at : ℕ) (xs : List Spec) (after : ℕ) → Chain (spec_step bytes) at xs (Some after) → PairsAt bytes at xs after
pairs_of_chain bytes at [] after h = spec_ended bytes at after h
pairs_of_chain bytes at (x ∷ xs) after h = (h.0, spec_read bytes at x h.0 h.1, pairs_of_chain bytes h.0 xs after h.2)

pub pairs_inside : (bytes : List ℕ) (at : ℕ) (xs : List Spec) (after : ℕ) → PairsAt bytes at xs after → (at < after) × (after ≤ length bytes)
pairs_inside bytes at [] after h =
    let la = uleb_inside bytes at (0, h.form_at) h.attribute in
    let lb = uleb_inside bytes h.form_at (0, after) h.form in
    (omega (arith, la.0, lb.0), omega (arith, lb.1))
pairs_inside bytes at (x ∷ xs) after h =
    let here = pair_inside bytes at x h.0 h.1 in
    let others = pairs_inside bytes h.0 xs after h.2 in
    (omega (arith, here.0, others.0), omega (arith, others.1))

pub specs_chain : (bytes : List ℕ) (at : ℕ) → Chain (spec_step bytes) at (specs_run bytes at).items (specs_run bytes at).end
unfolding specs_run
specs_chain bytes at = run_chain (spec_step bytes) None (λ at. length bytes - at) (suc (length bytes)) at (spec_falls bytes) (omega arith)

-- the pairs that are read are in the bytes
pub specs_read : (bytes : List ℕ) (at : ℕ) (r : List Spec × ℕ) → specs_at bytes at ≡ Some r → PairsAt bytes at r.0 r.1
specs_read bytes at r h = at_end (specs_run bytes at).end refl h
  where
    at_end : (e : Option ℕ) → (specs_run bytes at).end ≡ e → option_map (λ after. ((specs_run bytes at).items, after)) e ≡ Some r → PairsAt bytes at r.0 r.1
    at_end None is e = absurd cc
    at_end (Some after) is e =
        let chain = subst (λ (o : Option ℕ). Chain (spec_step bytes) at (specs_run bytes at).items o) is (specs_chain bytes at) in
        subst (λ (p : List Spec × ℕ). PairsAt bytes at p.0 p.1) (same_Some ((specs_run bytes at).items, after) r e) (pairs_of_chain bytes at (specs_run bytes at).items after chain)

-- ---- one pair after the other

pub specs_front : (bytes : List ℕ) (at : ℕ) (x : Spec) (next : ℕ) → spec_step bytes at ≡ Ok (x, next) → specs_run bytes at ≡ put_front x (specs_run bytes next)
unfolding specs_run
specs_front bytes at x next is = run_more (spec_step bytes) None (λ at. length bytes - at) (length bytes) at x next (spec_falls bytes) (omega arith) is

pub specs_over : (bytes : List ℕ) (at : ℕ) (e : Option ℕ) → spec_step bytes at ≡ Err e → (specs_run bytes at).items ≡ []
unfolding specs_run
specs_over bytes at e is = ap (λ (r : Run Spec (Option ℕ)). r.items) (run_end (spec_step bytes) None (length bytes) at e is)

-- ---- a pair of one byte each, with no value after it

pub short_step : (bytes : List ℕ) (at attribute form : ℕ) → uleb_at bytes at ≡ Some (attribute, at + 1) → uleb_at bytes (at + 1) ≡ Some (form, at + 1 + 1) → 0 < attribute → 0 < form → form ≢ dw_form_implicit_const
    → spec_step bytes at ≡ Ok (plain_pair attribute form, at + 2)
unfolding spec_step
short_step bytes at attribute form first second has_attribute has_form plain =
    let two : at + 1 + 1 ≡ at + 2 = omega arith in
    let first_not : (attribute == 0) ≡ false = not_zero attribute has_attribute in
    let second_not : (form == 0) ≡ false = not_zero form has_form in
    let not_implicit : (form == dw_form_implicit_const) ≡ false = apart form dw_form_implicit_const plain in
    rw (← two) (rw (first, second, first_not, second_not, not_implicit) refl)
  where
    apart : (n k : ℕ) → n ≢ k → (n == k) ≡ false
    apart n k other = elim (cases_Bool (n == k)) [
      | inl is ↦ absurd (other (eqb-true n k is))
      | inr is ↦ is
    ]

    not_zero : (n : ℕ) → 0 < n → (n == 0) ≡ false
    not_zero n some = grind arith

-- ---- the loop over the pairs

pub specs_more : (bytes : List ℕ) (place : ℕ) (x : Spec) (next : ℕ) (xs : List Spec) (whole : Run Spec (Option ℕ)) → spec_step bytes place ≡ Ok (x, next)
    → put_before xs (specs_run bytes place) ≡ whole → put_before (xs ++ x ∷ []) (specs_run bytes next) ≡ whole
unfolding specs_run
specs_more bytes place x next xs whole is so_far =
    loop_more (spec_step bytes) None (λ at. length bytes - at) (length bytes) place x next xs whole (spec_falls bytes) (omega arith) is so_far

pub specs_end : (bytes : List ℕ) (place : ℕ) (e : Option ℕ) (xs : List Spec) (whole : Run Spec (Option ℕ)) → spec_step bytes place ≡ Err e
    → put_before xs (specs_run bytes place) ≡ whole → (whole.items ≡ xs) × (whole.end ≡ e)
unfolding specs_run
specs_end bytes place e xs whole is so_far = loop_end (spec_step bytes) None (length bytes) place e xs whole is so_far

-- ---- an abbreviation

-- what a step read: an abbreviation at that place with a new code, appended
pub record Reads (bytes : List ℕ) (s : ℕ × List Abbrev) (x : Abbrev) (next : ℕ × List Abbrev) : Type 0 where
  pub there : AbbrevAt bytes s.0 x next.0
  pub is_new : list_any (λ a. a.code == x.code) s.1 ≡ false
  pub last : next.1 ≡ s.1 ++ x ∷ []

pub abbrev_read : (bytes : List ℕ) (s : ℕ × List Abbrev) (x : Abbrev) (next : ℕ × List Abbrev) → abbrev_step bytes s ≡ Ok (x, next) → Reads bytes s x next
unfolding abbrev_step
abbrev_read bytes s x next h =
    option_cases (uleb_at bytes s.0) (λ is. absurd (let e = rw is at h in cc)) (λ c ic.
    let h1 = rw ic at h in
    elim (cases_Bool (c.0 == 0)) [
      | inl is ↦ absurd (let e = rw is at h1 in cc)
      | inr id ↦ let h2 = rw id at h1 in
          elim (cases_Bool (list_any (λ a. a.code == c.0) s.1)) [
            | inl is ↦ absurd (let e = rw is at h2 in cc)
            | inr ie ↦ let h3 = rw ie at h2 in
                option_cases (uleb_at bytes c.1) (λ is. absurd (let e = rw is at h3 in cc)) (λ t it.
                let h4 = rw it at h3 in
                option_cases (children_of (slice_get bytes t.1)) (λ is. absurd (let e = rw is at h4 in cc)) (λ b ib.
                let h5 = rw ib at h4 in
                option_cases (specs_at bytes (t.1 + 1)) (λ is. absurd (let e = rw is at h5 in cc)) (λ v iv.
                let h6 = rw iv at h5 in
                let made : Abbrev = record { code = c.0; tag = t.0; children = b; specs_from = t.1 + 1; specs = v.0 } in
                let there : Reads bytes s made (v.1, s.1 ++ made ∷ []) = record {
                  there = record {
                    tag_at = c.1;
                    children_at = t.1;
                    code = ic;
                    has_code = eqb-false c.0 0 id;
                    tag = it;
                    children = ib;
                    place = refl;
                    pairs = specs_read bytes (t.1 + 1) v iv;
                  };
                  is_new = ie;
                  last = refl;
                } in
                subst (λ (p : Abbrev × (ℕ × List Abbrev)). Reads bytes s p.0 p.1) (same_Ok (made, (v.1, s.1 ++ made ∷ [])) (x, next) h6) there)))
          ]
    ])

pub abbrev_inside : (bytes : List ℕ) (at : ℕ) (x : Abbrev) (after : ℕ) → AbbrevAt bytes at x after → (at < after) × (after ≤ length bytes)
abbrev_inside bytes at x after a =
    let lc = uleb_inside bytes at (x.code, a.tag_at) a.code in
    let lt = uleb_inside bytes a.tag_at (x.tag, a.children_at) a.tag in
    let lv = pairs_inside bytes x.specs_from x.specs after a.pairs in
    (omega (arith, lc.0, lt.0, lv.0, a.place), omega (arith, lv.1))

-- ---- the loop over the abbreviations

pub abbrev_falls : (bytes : List ℕ) → Falls (abbrev_step bytes) (λ s. length bytes - s.0)
abbrev_falls bytes = record { falls = λ s x next h. let i = abbrev_inside bytes s.0 x next.0 (abbrev_read bytes s x next h).there in omega (arith, i.0, i.1) }

-- the table from a state on
abbrev pub rest_of_table : List ℕ → ℕ → List Abbrev → Run Abbrev (Option Fault)
rest_of_table bytes at seen = run (abbrev_step bytes) None (suc (length bytes)) (at, seen)

-- the place after an abbreviation
pub abbrev_after : (bytes : List ℕ) (at : ℕ) (seen : List Abbrev) (x : Abbrev) (after : ℕ) (more : List Abbrev) → abbrev_step bytes (at, seen) ≡ Ok (x, (after, more)) → (at < after) × (after ≤ length bytes)
abbrev_after bytes at seen x after more h = abbrev_inside bytes at x after (abbrev_read bytes (at, seen) x (after, more) h).there

-- no abbreviation before one has its code
pub abbrev_is_new : (bytes : List ℕ) (at : ℕ) (seen : List Abbrev) (x : Abbrev) (after : ℕ) (more : List Abbrev) → abbrev_step bytes (at, seen) ≡ Ok (x, (after, more))
    → abbrev_of seen x.code ≡ None
abbrev_is_new bytes at seen x after more h = not_found (λ a. a.code == x.code) seen (abbrev_read bytes (at, seen) x (after, more) h).is_new
  where
    not_found : (test : Abbrev → Bool) (xs : List Abbrev) → list_any test xs ≡ false → find test xs ≡ None
    not_found test [] none = refl
    not_found test (a ∷ others) none =
        elim (cases_Bool (test a)) [
          | inl is ↦ absurd (let e = rw is at none in cc)
          | inr apart ↦ ap (λ (b : Bool). cond b (Some a) (find test others)) apart ∙ not_found test others (rw apart at none)
        ]

pub table_more : (bytes : List ℕ) (at : ℕ) (seen : List Abbrev) (x : Abbrev) (after : ℕ) (more : List Abbrev) (whole : Run Abbrev (Option Fault))
    → abbrev_step bytes (at, seen) ≡ Ok (x, (after, more))
    → put_before seen (rest_of_table bytes at seen) ≡ whole → put_before (seen ++ x ∷ []) (rest_of_table bytes after more) ≡ whole
table_more bytes at seen x after more whole is so_far =
    loop_more (abbrev_step bytes) None (λ s. length bytes - s.0) (length bytes) (at, seen) x (after, more) seen whole (abbrev_falls bytes) (omega arith) is so_far

pub table_end : (bytes : List ℕ) (at : ℕ) (seen : List Abbrev) (e : Option Fault) (whole : Run Abbrev (Option Fault))
    → abbrev_step bytes (at, seen) ≡ Err e → put_before seen (rest_of_table bytes at seen) ≡ whole → (whole.items ≡ seen) × (whole.end ≡ e)
table_end bytes at seen e whole is so_far = loop_end (abbrev_step bytes) None (length bytes) (at, seen) e seen whole is so_far
