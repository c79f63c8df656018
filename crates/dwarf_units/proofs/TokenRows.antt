-- The first row of the table of faults that a place has: of an entry, of a token, and of the root.
use Rattle.std.proofs.Common.{◌≡◌, ℕ, zero, suc, ◌+◌, ◌<◌, ◌≤◌, Bool, true, false, List, Option, Some, None, Ok, Err, refl, sym, ap, ◌∙◌, subst, arith, inl, inr}
use Rattle.std.specs.Prelude.{◌==◌, slice_index}
use Rattle.std.proofs.lemmas.Bool.{cases_Bool, cases_lt, lt-ltb, le-ltb, eqb-true, eqb-false}
use Rattle.std.proofs.lemmas.Option.{same_Some}
use Rattle.abi_base.proofs.lemmas.Cases.{option_cases, result_cases, same_Ok}
use Rattle.abi_base.specs.Dwarf.{dw_at_language}
use Rattle.abi_base.specs.Leb.{uleb_at}
use Rattle.abi_base.specs.declared.fault.Fault.{Fault}
use Rattle.abi_base.specs.declared.fault.FaultKind.TheVariants as kind
use Rattle.dwarf_forms.specs.declared.abbreviations.abbrev.Abbrev.{Abbrev}
use Rattle.dwarf_forms.specs.declared.abbreviations.abbrev.Spec.{Spec}
use Rattle.dwarf_forms.specs.abbreviations.Abbrevs.{abbrev_of}
use Rattle.dwarf_forms.specs.declared.values.Value.{Value}
use Rattle.dwarf_forms.specs.Values.{fault}
use Rattle.dwarf_units.specs.declared.entry.Entry.{Entry}
use Rattle.dwarf_units.specs.Rows.{Row, IsUnknown, IsElsewhere, IsCut, IsDue, Begins, HasForm, HasUnread, CutRow, CodeRow, TreeRow, LanguageRow, rows, IsFirst, NoRow, GoesOn}
use Rattle.dwarf_units.specs.Units.{PlainUnit, State, Token, unit_bytes, values_at, entry_at, token_at, is_root_tag, language_fits, attribute_of, opened}
use Rattle.dwarf_units.proofs.ValuesAfter.{ValuesMove}
use Rattle.dwarf_units.proofs.TokenLaws.{token_stands}
use Rattle.dwarf_units.proofs.ValueFaults.{unknown_is, elsewhere_is, cut_is, kind_of, value_in, ValuesWhy, values_why, unread_is}

-- ---- rows that do not hold

-- the code and the abbreviation of an entry are the ones that are read there
pub unread_means : (u : PlainUnit) (s : State) (Kind : Spec → ℕ → Type 0) (f : Fault) → ((p : Spec) (at : ℕ) → Kind p at → value_in u s.0 p at ≡ Err f)
    → (code : ℕ × ℕ) (form : Abbrev) → uleb_at (unit_bytes u) s.0 ≡ Some code → abbrev_of u.table code.0 ≡ Some form → HasUnread u s Kind → values_at u s.0 form.specs code.1 ≡ Err f
unread_means u s Kind f each code form ic fo (c, g, has, un) =
    let same : c ≡ code = same_Some c code (sym has.begins.code_is ∙ ic) in
    let same_form : g ≡ form = same_Some g form (sym has.form_is ∙ ap (λ (k : ℕ × ℕ). abbrev_of u.table k.0) same ∙ fo) in
    let there = unread_is u s.0 Kind f each g.specs c.1 un in
    subst (λ (k : ℕ × ℕ). values_at u s.0 form.specs k.1 ≡ Err f) same (subst (λ (a : Abbrev). values_at u s.0 a.specs c.1 ≡ Err f) same_form there)

-- none of the rows of an entry holds
pub record Nots (u : PlainUnit) (s : State) : Type 0 where
  cut : CutRow u s → ⊥
  code : CodeRow u s → ⊥
  form : HasUnread u s (IsUnknown u) → ⊥
  elsewhere : HasUnread u s (IsElsewhere u) → ⊥

pub cut_not : (u : PlainUnit) (s : State) (code : ℕ × ℕ) → uleb_at (unit_bytes u) s.0 ≡ Some code → (HasUnread u s (IsCut u s.0) → ⊥) → CutRow u s → ⊥
cut_not u s code ic none (inl (due, is)) = let e = sym is ∙ ic in cc
cut_not u s code ic none (inr has) = none has

pub nots_due : (u : PlainUnit) (s : State) → (IsDue u s → ⊥) → Nots u s
nots_due u s none = record {
  cut = no_cut;
  code = λ h. none h.1.due;
  form = λ h. none h.2.begins.due;
  elsewhere = λ h. none h.2.begins.due;
}
  where
    no_cut : CutRow u s → ⊥
    no_cut (inl (due, is)) = none due
    no_cut (inr h) = none h.2.begins.due

module _ (u : PlainUnit) (s : State) (code : ℕ × ℕ) (ic : uleb_at (unit_bytes u) s.0 ≡ Some code) where
  same_code : (c : ℕ × ℕ) → Begins u s c → c ≡ code
  same_code c b = same_Some c code (sym b.code_is ∙ ic)

  nots_zero : code.0 ≡ 0 → Nots u s
  nots_zero is_0 =
      let none : (c : ℕ × ℕ) → Begins u s c → ⊥ = λ c b. b.no_end (ap (λ (k : ℕ × ℕ). k.0) (same_code c b) ∙ is_0) in
      record {
        cut = cut_not u s code ic (λ h. none h.0 h.2.begins);
        code = λ h. none h.0 h.1;
        form = λ h. none h.0 h.2.begins;
        elsewhere = λ h. none h.0 h.2.begins;
      }

  form_not : abbrev_of u.table code.0 ≡ None → (c : ℕ × ℕ) (g : Abbrev) → HasForm u s c g → ⊥
  form_not lacks c g has = let e = sym has.form_is ∙ ap (λ (k : ℕ × ℕ). abbrev_of u.table k.0) (same_code c has.begins) ∙ lacks in cc

  module _ (form : Abbrev) (fo : abbrev_of u.table code.0 ≡ Some form) where
    code_not : CodeRow u s → ⊥
    code_not h = let e = sym fo ∙ ap (λ (k : ℕ × ℕ). abbrev_of u.table k.0) (sym (same_code h.0 h.1)) ∙ h.2 in cc

    unknown_means : HasUnread u s (IsUnknown u) → values_at u s.0 form.specs code.1 ≡ Err (fault kind.Form s.0)
    unknown_means h = unread_means u s (IsUnknown u) (fault kind.Form s.0) (unknown_is u s.0) code form ic fo h

    elsewhere_means : HasUnread u s (IsElsewhere u) → values_at u s.0 form.specs code.1 ≡ Err (fault kind.Supplementary s.0)
    elsewhere_means h = unread_means u s (IsElsewhere u) (fault kind.Supplementary s.0) (elsewhere_is u s.0) code form ic fo h

    cut_means : HasUnread u s (IsCut u s.0) → values_at u s.0 form.specs code.1 ≡ Err (fault kind.Cut s.0)
    cut_means h = unread_means u s (IsCut u s.0) (fault kind.Cut s.0) (cut_is u s.0) code form ic fo h

    nots_read : (v : List (ℕ × Value) × ℕ) → values_at u s.0 form.specs code.1 ≡ Ok v → Nots u s
    nots_read v is = record {
      cut = cut_not u s code ic (λ h. (let e = sym is ∙ cut_means h in cc));
      code = code_not;
      form = λ h. (let e = sym is ∙ unknown_means h in cc);
      elsewhere = λ h. (let e = sym is ∙ elsewhere_means h in cc);
    }

-- ---- the first row

pub first_tree : (u : PlainUnit) (s : State) → Nots u s → TreeRow u s.0 s.1 → IsFirst (Row u s) rows kind.Tree
first_tree u s n t = inr (n.cut, inr (n.code, inr (n.form, inr (n.elsewhere, inl (refl, t)))))

pub first_language : (u : PlainUnit) (s : State) → Nots u s → (TreeRow u s.0 s.1 → ⊥) → LanguageRow u s.0 s.1 → IsFirst (Row u s) rows kind.Language
first_language u s n t l = inr (n.cut, inr (n.code, inr (n.form, inr (n.elsewhere, inr (t, inl (refl, l))))))

pub no_row : (u : PlainUnit) (s : State) → Nots u s → (TreeRow u s.0 s.1 → ⊥) → (LanguageRow u s.0 s.1 → ⊥) → NoRow (Row u s) rows
no_row u s n t l = (n.cut, (n.code, (n.form, (n.elsewhere, (t, (l, tt))))))

abbrev pub Stands : PlainUnit → State → Fault → Type 0
Stands u s f = (f.at ≡ s.0) × IsFirst (Row u s) rows f.kind

-- ---- an entry

module _ (u : PlainUnit) (s : State) (due : IsDue u s) (code : ℕ × ℕ) (ic : uleb_at (unit_bytes u) s.0 ≡ Some code) (other : (code.0 == 0) ≡ false) where
  begins_there : Begins u s code
  begins_there = record { due = due; code_is = ic; no_end = eqb-false code.0 0 other }

  unread_stands : (form : Abbrev) → abbrev_of u.table code.0 ≡ Some form → (f : Fault) → values_at u s.0 form.specs code.1 ≡ Err f → ValuesWhy u s.0 form.specs code.1 f → Stands u s f
  unread_stands form fo f is (inl (it, un)) =
      subst (λ (g : Fault). Stands u s g) (sym it) (refl, inl (refl, inr (code, form, record { begins = begins_there; form_is = fo }, un)))
  unread_stands form fo f is (inr (inl (it, un))) =
      let now : values_at u s.0 form.specs code.1 ≡ Err (fault kind.Form s.0) = is ∙ ap Err it in
      subst (λ (g : Fault). Stands u s g) (sym it) (
        refl,
        inr (
          cut_not u s code ic (λ h. (let e = kind_of (fault kind.Form s.0) (fault kind.Cut s.0) (sym now ∙ cut_means u s code ic form fo h) in cc)),
          inr (code_not u s code ic form fo, inl (refl, (code, form, record { begins = begins_there; form_is = fo }, un))),
        ),
      )
  unread_stands form fo f is (inr (inr (it, un))) =
      let now : values_at u s.0 form.specs code.1 ≡ Err (fault kind.Supplementary s.0) = is ∙ ap Err it in
      subst (λ (g : Fault). Stands u s g) (sym it) (
        refl,
        inr (
          cut_not u s code ic (λ h. (let e = kind_of (fault kind.Supplementary s.0) (fault kind.Cut s.0) (sym now ∙ cut_means u s code ic form fo h) in cc)),
          inr (
            code_not u s code ic form fo,
            inr ((λ h. (let e = kind_of (fault kind.Supplementary s.0) (fault kind.Form s.0) (sym now ∙ unknown_means u s code ic form fo h) in cc)), inl (refl, (code, form, record { begins = begins_there; form_is = fo }, un))),
          ),
        ),
      )

  entry_faulty : (depth : ℕ) (f : Fault) → entry_at u s.0 depth code ≡ Err f → Stands u s f
  unfolding entry_at
  entry_faulty depth f h =
      option_cases (abbrev_of u.table code.0)
      (λ lacks. let g = rw lacks at h in let it : f ≡ fault kind.AbbrevCode s.0 = cc in
      subst (λ (g : Fault). Stands u s g) (sym it) (
        refl,
        inr (cut_not u s code ic (λ h. form_not u s code ic lacks h.0 h.1 h.2), inl (refl, (code, begins_there, lacks))),
      ))
      (λ form fo. let h1 = rw fo at h in
      result_cases (values_at u s.0 form.specs code.1)
      (λ v is. absurd (let g = rw is at h1 in cc))
      (λ e is. let g = rw is at h1 in let same : e ≡ f = cc in let now = is ∙ ap Err same in
      unread_stands form fo f now (values_why u s.0 form.specs code.1 f now)))

-- what is read of an entry
pub record IsRead (u : PlainUnit) (at : ℕ) (code : ℕ × ℕ) (e : Entry) : Type 0 where
  form : Abbrev
  values : List (ℕ × Value) × ℕ
  form_is : abbrev_of u.table code.0 ≡ Some form
  values_are : values_at u at form.specs code.1 ≡ Ok values
  tag : e.tag ≡ form.tag

pub entry_read : (u : PlainUnit) (at depth : ℕ) (code : ℕ × ℕ) (e : Entry × (Bool × ℕ)) → entry_at u at depth code ≡ Ok e → IsRead u at code e.0
unfolding entry_at
entry_read u at depth code e h =
    option_cases (abbrev_of u.table code.0) (λ lacks. absurd (let g = rw lacks at h in cc)) (λ form fo.
    let h1 = rw fo at h in
    result_cases (values_at u at form.specs code.1)
    (λ v is. let h2 = rw is at h1 in
    let made : Entry = record { offset = at; depth = depth; tag = form.tag; specs_from = form.specs_from; attributes = v.0 } in
    record { form = form; values = v; form_is = fo; values_are = is; tag = ap (λ (p : Entry × (Bool × ℕ)). p.0.tag) (sym (same_Ok (made, (form.children, v.1)) e h2)) })
    (λ f is. absurd (let g = rw is at h1 in cc)))

-- ---- a token

abbrev pub Judged : PlainUnit → State → Token → Type 0
Judged u s (Ok r) = GoesOn u s r.0 r.1 × NoRow (Row u s) rows
Judged u s (Err None) = (s.1 ≡ Some 0) × (u.end ≤ s.0) × NoRow (Row u s) rows
Judged u s (Err (Some f)) = Stands u s f

pub come : (u : PlainUnit) (s : State) (t : Token) → token_at u s ≡ t → Judged u s t → Judged u s (token_at u s)
come u s t is j = subst (λ (x : Token). Judged u s x) (sym is) j

pub not_padding : (n : ℕ) → Some (suc n) ≡ Some 0 → ⊥
not_padding n same = let e : suc n ≡ 0 = cc in omega arith

pub not_before : ◌≡◌ {A = Option ℕ} None (Some 0) → ⊥
not_before same = cc

pub judge_padding : (u : PlainUnit) (at : ℕ) → Judged u (at, Some 0) (token_at u (at, Some 0))
unfolding token_at
judge_padding u at =
    let s : State = (at, Some 0) in
    let nots : Nots u s = nots_due u s (λ d. d.in_list refl) in
    elim (cases_lt at u.end) [
      | inl lt ↦ let l = lt-ltb at u.end lt in
          elim (cases_Bool (slice_index u.info at == 0)) [
            | inl is ↦ let zero_is = eqb-true (slice_index u.info at) 0 is in
                come u s (Ok (None, (at + 1, Some 0))) (rw (l, is) refl) ((lt, zero_is, refl), no_row u s nots (λ t. t.1 zero_is) (λ h. h))
            | inr is ↦ come u s (Err (Some (fault kind.Tree at))) (rw (l, is) refl) (refl, first_tree u s nots (lt, eqb-false (slice_index u.info at) 0 is))
          ]
      | inr ge ↦ let l = le-ltb at u.end ge in
          come u s (Err None) (rw l refl) (refl, ge, no_row u s nots (λ t. omega (arith, t.0, ge)) (λ h. h))
    ]

pub judge_inner : (moves : ValuesMove) (u : PlainUnit) (at n : ℕ) → Judged u (at, Some (suc n)) (token_at u (at, Some (suc n)))
unfolding token_at
judge_inner moves u at n =
    let s : State = (at, Some (suc n)) in
    elim (cases_lt at u.end) [
      | inl lt ↦ let l = lt-ltb at u.end lt in
          let due : IsDue u s = record { inside = lt; in_list = not_padding n } in
          option_cases (uleb_at (unit_bytes u) at)
          (λ is. come u s (Err (Some (fault kind.Cut at))) (rw (l, is) refl) (refl, inl (refl, inl (due, is))))
          (λ code is. elim (cases_Bool (code.0 == 0)) [
            | inl js ↦ let zero_is = eqb-true code.0 0 js in
                come u s (Ok (None, (code.1, Some n))) (rw (l, is, js) refl)
                ((code.1, (lt, is ∙ ap (λ (k : ℕ). Some (k, code.1)) zero_is), refl), no_row u s (nots_zero u s code is zero_is) (λ t. omega (arith, t, lt)) (λ h. h))
            | inr js ↦ result_cases (entry_at u at (suc n) code)
                (λ e read. let token : token_at u s ≡ Ok (Some e.0, (e.1.1, Some (opened e.1.0 (suc n)))) = rw (l, is, js, read) refl in
                let r = entry_read u at (suc n) code e read in
                come u s (Ok (Some e.0, (e.1.1, Some (opened e.1.0 (suc n))))) token
                ((token_stands moves u s (Some e.0) (e.1.1, Some (opened e.1.0 (suc n))) token).is, no_row u s (nots_read u s code is r.form r.form_is r.values r.values_are) (λ t. omega (arith, t, lt)) (λ h. h)))
                (λ f read. come u s (Err (Some f)) (rw (l, is, js, read) refl) (entry_faulty u s due code is js (suc n) f read))
          ])
      | inr ge ↦ let l = le-ltb at u.end ge in
          come u s (Err (Some (fault kind.Tree at))) (rw l refl) (refl, first_tree u s (nots_due u s (λ d. omega (arith, d.inside, ge))) ge)
    ]

-- ---- the root

module _ (u : PlainUnit) (at : ℕ) (lt : at < u.end) (code : ℕ × ℕ) (ic : uleb_at (unit_bytes u) at ≡ Some code) (other : (code.0 == 0) ≡ false) (e : Entry × (Bool × ℕ)) (read : entry_at u at 0 code ≡ Ok e) where
  abbrev before : State
  before = (at, None)

  is_read : IsRead u at code e.0
  is_read = entry_read u at 0 code e read

  nots_root : Nots u before
  nots_root = nots_read u before code ic is_read.form is_read.form_is is_read.values is_read.values_are

  tree_not : is_root_tag u e.0.tag ≡ true → TreeRow u at None → ⊥
  tree_not good (inl ge) = omega (arith, lt, ge)
  tree_not good (inr (inl (after, is_end))) =
      let zero_is : 0 ≡ code.0 = ap (λ (k : ℕ × ℕ). k.0) (same_Some (0, after) code (sym is_end.1 ∙ ic)) in
      eqb-false code.0 0 other (sym zero_is)
  tree_not good (inr (inr (c, g, has, bad))) =
      let same = same_code u before code ic c has.begins in
      let same_form : g ≡ is_read.form = same_Some g is_read.form (sym has.form_is ∙ ap (λ (k : ℕ × ℕ). abbrev_of u.table k.0) same ∙ is_read.form_is) in
      let clash : true ≡ false = sym good ∙ ap (λ (n : ℕ). is_root_tag u n) (is_read.tag ∙ ap (λ (a : Abbrev). a.tag) (sym same_form)) ∙ bad in
      cc

  other_root : is_root_tag u e.0.tag ≡ false → IsFirst (Row u before) rows kind.Tree
  other_root bad =
      let begins : Begins u before code = record { due = record { inside = lt; in_list = not_before }; code_is = ic; no_end = eqb-false code.0 0 other } in
      first_tree u before nots_root (inr (inr (code, is_read.form, record { begins = begins; form_is = is_read.form_is }, ap (λ (n : ℕ). is_root_tag u n) (sym is_read.tag) ∙ bad)))

  language_not : language_fits (attribute_of e.0.attributes dw_at_language) ≡ true → LanguageRow u at None → ⊥
  language_not fits (x, children, after, (c, inside, jc, non_zero, again), bad) =
      let same : c ≡ code = same_Some c code (sym jc ∙ ic) in
      let one : (x, (children, after)) ≡ e = same_Ok (x, (children, after)) e (sym again ∙ ap (λ (k : ℕ × ℕ). entry_at u at 0 k) same ∙ read) in
      let clash : true ≡ false = sym fits ∙ ap (λ (p : Entry × (Bool × ℕ)). language_fits (attribute_of p.0.attributes dw_at_language)) (sym one) ∙ bad in
      cc

  other_language : is_root_tag u e.0.tag ≡ true → language_fits (attribute_of e.0.attributes dw_at_language) ≡ false → IsFirst (Row u before) rows kind.Language
  other_language good bad =
      first_language u before nots_root (tree_not good) (e.0, e.1.0, e.1.1, (code, lt, ic, eqb-false code.0 0 other, read), bad)

pub judge_root : (moves : ValuesMove) (u : PlainUnit) (at : ℕ) → Judged u (at, None) (token_at u (at, None))
unfolding token_at
judge_root moves u at =
    let s : State = (at, None) in
    elim (cases_lt at u.end) [
      | inl lt ↦ let l = lt-ltb at u.end lt in
          let due : IsDue u s = record { inside = lt; in_list = not_before } in
          option_cases (uleb_at (unit_bytes u) at)
          (λ is. come u s (Err (Some (fault kind.Cut at))) (rw (l, is) refl) (refl, inl (refl, inl (due, is))))
          (λ code is. elim (cases_Bool (code.0 == 0)) [
            | inl js ↦ let zero_is = eqb-true code.0 0 js in
                come u s (Err (Some (fault kind.Tree at))) (rw (l, is, js) refl)
                (refl, first_tree u s (nots_zero u s code is zero_is) (inr (inl (code.1, (lt, is ∙ ap (λ (k : ℕ). Some (k, code.1)) zero_is)))))
            | inr js ↦ result_cases (entry_at u at 0 code)
                (λ e read. elim (cases_Bool (is_root_tag u e.0.tag)) [
                  | inl good ↦ elim (cases_Bool (language_fits (attribute_of e.0.attributes dw_at_language))) [
                    | inl fits ↦ let token : token_at u s ≡ Ok (Some e.0, (e.1.1, Some (opened e.1.0 0))) = rw (l, is, js, read, good, fits) refl in
                        come u s (Ok (Some e.0, (e.1.1, Some (opened e.1.0 0)))) token (
                          (token_stands moves u s (Some e.0) (e.1.1, Some (opened e.1.0 0)) token).is,
                          no_row u s (nots_root u at lt code is js e read) (tree_not u at lt code is js e read good) (language_not u at lt code is js e read fits),
                        )
                    | inr bad ↦ come u s (Err (Some (fault kind.Language at))) (rw (l, is, js, read, good, bad) refl) (refl, other_language u at lt code is js e read good bad)
                  ]
                  | inr bad ↦ come u s (Err (Some (fault kind.Tree at))) (rw (l, is, js, read, bad) refl) (refl, other_root u at lt code is js e read bad)
                ])
                (λ f read. come u s (Err (Some f)) (rw (l, is, js, read) refl) (entry_faulty u s due code is js 0 f read))
          ])
      | inr ge ↦ let l = le-ltb at u.end ge in
          come u s (Err (Some (fault kind.Tree at))) (rw l refl) (refl, first_tree u s (nots_due u s (λ d. omega (arith, d.inside, ge))) (inl ge))
    ]

pub judge : (moves : ValuesMove) (u : PlainUnit) (s : State) → Judged u s (token_at u s)
judge moves u (at, None) = judge_root moves u at
judge moves u (at, Some zero) = judge_padding u at
judge moves u (at, Some (suc n)) = judge_inner moves u at n
