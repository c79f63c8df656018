-- Why a value of an attribute is not read, and why the values of an entry are not.
use Rattle.std.proofs.Common.{◌≡◌, ◌⊎◌, ℕ, ◌+◌, leb, List, [], ◌∷◌, length, Option, Some, None, Result, Err, refl, sym, ap, ◌∙◌, inl, inr}
use Rattle.std.specs.Prelude.{ℤ}
use Rattle.std.proofs.lemmas.Bool.{cases_Bool}
use Rattle.abi_base.proofs.lemmas.Cases.{option_cases, result_cases, same_Err}
use Rattle.abi_base.specs.Leb.{uleb_at}
use Rattle.abi_base.specs.Numbers.{number_at, text_at}
use Rattle.abi_base.specs.declared.fault.Fault.{Fault}
use Rattle.abi_base.specs.declared.fault.FaultKind.TheVariants as kind
use Rattle.dwarf_forms.specs.declared.abbreviations.abbrev.Spec.{Spec}
use Rattle.dwarf_forms.specs.declared.values.Value.{Value}
use Rattle.dwarf_forms.specs.Values.{Shape, fixed, of_uleb, of_sleb, implicit_const, sixteen_bytes, block_behind, block_behind_uleb, inline_text, is_present, indirect, supplementary, shape_of, named_shape, spelled, value_of, value_at, fault}
use Rattle.abi_base.specs.Leb.{sleb_at}
use Rattle.dwarf_units.specs.Rows.{HasValue, IsUnknown, IsElsewhere, IsCut, FirstUnread}
use Rattle.dwarf_units.specs.Units.{PlainUnit, unit_bytes, values_at}

abbrev pub Reading : Type 0
Reading = Result (Value × ℕ) Fault

-- ---- why a value is not read

-- cut, or the one or the other form
abbrev pub Spelling : Shape → ℕ → Fault → Type 0
Spelling s entry f = (f ≡ fault kind.Cut entry) ⊎ (((s ≡ supplementary) × (f ≡ fault kind.Supplementary entry)) ⊎ ((s ≡ indirect) × (f ≡ fault kind.Form entry)))

-- equal faults have the same kind
pub kind_of : {A : Type 0} (f g : Fault) → ◌≡◌ {A = Result A Fault} (Err f) (Err g) → f.kind ≡ g.kind
kind_of f g e = ap (λ (x : Fault). x.kind) (same_Err f g e)

pub spelled_why : (s : Shape) (i : ℤ) (unit entry : ℕ) (bytes : List ℕ) (at : ℕ) (f : Fault) → spelled s i unit entry bytes at ≡ Err f → Spelling s entry f
spelled_why (fixed size m) i unit entry bytes at f h = option_cases (number_at size bytes at) (λ is. inl (let g = rw is at h in cc)) (λ n is. absurd (let g = rw is at h in cc))
spelled_why (of_uleb m) i unit entry bytes at f h = option_cases (uleb_at bytes at) (λ is. inl (let g = rw is at h in cc)) (λ n is. absurd (let g = rw is at h in cc))
spelled_why of_sleb i unit entry bytes at f h = option_cases (sleb_at bytes at) (λ is. inl (let g = rw is at h in cc)) (λ n is. absurd (let g = rw is at h in cc))
spelled_why implicit_const i unit entry bytes at f h = absurd cc
spelled_why sixteen_bytes i unit entry bytes at f h =
    elim (cases_Bool (leb (at + 16) (length bytes))) [
      | inl is ↦ absurd (let g = rw is at h in cc)
      | inr is ↦ inl (let g = rw is at h in cc)
    ]
spelled_why (block_behind size) i unit entry bytes at f h =
    option_cases (number_at size bytes at) (λ is. inl (let g = rw is at h in cc)) (λ n is.
    let h1 = rw is at h in
    elim (cases_Bool (leb (at + size + n) (length bytes))) [
      | inl js ↦ absurd (let g = rw js at h1 in cc)
      | inr js ↦ inl (let g = rw js at h1 in cc)
    ])
spelled_why block_behind_uleb i unit entry bytes at f h =
    option_cases (uleb_at bytes at) (λ is. inl (let g = rw is at h in cc)) (λ n is.
    let h1 = rw is at h in
    elim (cases_Bool (leb (n.1 + n.0) (length bytes))) [
      | inl js ↦ absurd (let g = rw js at h1 in cc)
      | inr js ↦ inl (let g = rw js at h1 in cc)
    ])
spelled_why inline_text i unit entry bytes at f h = option_cases (text_at bytes at) (λ is. inl (let g = rw is at h in cc)) (λ n is. absurd (let g = rw is at h in cc))
spelled_why is_present i unit entry bytes at f h = absurd cc
spelled_why indirect i unit entry bytes at f h = inr (inr (refl, cc))
spelled_why supplementary i unit entry bytes at f h = inr (inl (refl, cc))

pub named_not : (o : Option Shape) → named_shape o ≡ Some indirect → ⊥
named_not None h = cc
named_not (Some indirect) h = cc
named_not (Some implicit_const) h = cc
named_not (Some other) h = cc

-- the reading of one pair
abbrev pub value_in : PlainUnit → ℕ → Spec → ℕ → Reading
value_in u entry s at = value_at s.form s.implicit u.offset u.end entry u.info at

abbrev pub Why : PlainUnit → ℕ → Spec → ℕ → Fault → Type 0
Why u entry s at f = (f ≡ fault kind.Cut entry) ⊎ (((f ≡ fault kind.Form entry) × IsUnknown u s at) ⊎ ((f ≡ fault kind.Supplementary entry) × IsElsewhere u s at))

module _ (u : PlainUnit) (entry : ℕ) (s : Spec) (at : ℕ) where
  behind : (f : Fault) (n : ℕ × ℕ) (named : Shape) → shape_of s.form ≡ Some indirect → uleb_at (unit_bytes u) at ≡ Some n → named_shape (shape_of n.0) ≡ Some named → Spelling named entry f → Why u entry s at f
  behind f n named is begun so (inl cut) = inl cut
  behind f n named is begun so (inr (inl (same, it))) = inr (inr (it, inr (is, n, begun, so ∙ ap Some same)))
  behind f n named is begun so (inr (inr (same, it))) = absurd (named_not (shape_of n.0) (so ∙ ap Some same))

  direct : (f : Fault) (shape : Shape) → (shape ≡ indirect → ⊥) → shape_of s.form ≡ Some shape → Spelling shape entry f → Why u entry s at f
  direct f shape other is (inl cut) = inl cut
  direct f shape other is (inr (inl (same, it))) = inr (inr (it, inl (is ∙ ap Some same)))
  direct f shape other is (inr (inr (same, it))) = absurd (other same)

  shape_why : (f : Fault) (shape : Shape) → shape_of s.form ≡ Some shape → value_of shape s.implicit u.offset entry (unit_bytes u) at ≡ Err f → Why u entry s at f
  unfolding value_of
  shape_why f indirect is h =
      option_cases (uleb_at (unit_bytes u) at) (λ lacks. inl (let g = rw lacks at h in cc)) (λ n begun.
      let h1 = rw begun at h in
      option_cases (named_shape (shape_of n.0)) (λ none. inr (inl ((let g = rw none at h1 in cc), inr (is, n, begun, none)))) (λ named so.
      behind f n named is begun so (spelled_why named s.implicit u.offset entry (unit_bytes u) n.1 f (rw so at h1))))
  shape_why f other is h = direct f other (λ same. cc) is (spelled_why other s.implicit u.offset entry (unit_bytes u) at f h)

  value_why : (f : Fault) → value_in u entry s at ≡ Err f → Why u entry s at f
  unfolding value_at
  value_why f h =
      option_cases (shape_of s.form) (λ is. inr (inl ((let g = rw is at h in cc), inl is))) (λ shape is. shape_why f shape is (rw is at h))

  pub unknown_is : IsUnknown u s at → value_in u entry s at ≡ Err (fault kind.Form entry)
  unfolding value_at value_of
  unknown_is (inl is) = rw is refl
  unknown_is (inr (is, n, begun, none)) = rw (is, begun, none) refl

  pub elsewhere_is : IsElsewhere u s at → value_in u entry s at ≡ Err (fault kind.Supplementary entry)
  unfolding value_at value_of
  elsewhere_is (inl is) = rw is refl
  elsewhere_is (inr (is, n, begun, so)) = rw (is, begun, so) refl

  pub cut_is : IsCut u entry s at → value_in u entry s at ≡ Err (fault kind.Cut entry)
  cut_is cut = result_cases (value_in u entry s at) (λ v is. absurd (cut.no_value v is)) (λ f is. is ∙ ap Err (only f (value_why f is)))
    where
      only : (f : Fault) → Why u entry s at f → f ≡ fault kind.Cut entry
      only f (inl it) = it
      only f (inr (inl (it, unknown))) = absurd (cut.known unknown)
      only f (inr (inr (it, elsewhere))) = absurd (cut.here elsewhere)

  is_cut : value_in u entry s at ≡ Err (fault kind.Cut entry) → IsCut u entry s at
  is_cut is = record {
    no_value = λ v has. (let e = sym has ∙ is in cc);
    known = λ unknown. (let e = kind_of (fault kind.Form entry) (fault kind.Cut entry) (sym (unknown_is unknown) ∙ is) in cc);
    here = λ elsewhere. (let e = kind_of (fault kind.Supplementary entry) (fault kind.Cut entry) (sym (elsewhere_is elsewhere) ∙ is) in cc);
  }

-- ---- why values are not read

abbrev pub ValuesWhy : PlainUnit → ℕ → List Spec → ℕ → Fault → Type 0
ValuesWhy u entry specs at f =
    ((f ≡ fault kind.Cut entry) × FirstUnread u entry (IsCut u entry) specs at)
    ⊎ (((f ≡ fault kind.Form entry) × FirstUnread u entry (IsUnknown u) specs at)
    ⊎ ((f ≡ fault kind.Supplementary entry) × FirstUnread u entry (IsElsewhere u) specs at))

pub why_here : (u : PlainUnit) (entry : ℕ) (s : Spec) (specs : List Spec) (at : ℕ) (f : Fault) → value_in u entry s at ≡ Err f → Why u entry s at f → ValuesWhy u entry (s ∷ specs) at f
why_here u entry s specs at f is (inl it) = inl (it, inl (is_cut u entry s at (is ∙ ap Err it)))
why_here u entry s specs at f is (inr (inl (it, unknown))) = inr (inl (it, inl unknown))
why_here u entry s specs at f is (inr (inr (it, elsewhere))) = inr (inr (it, inl elsewhere))

pub why_later : (u : PlainUnit) (entry : ℕ) (s : Spec) (specs : List Spec) (at : ℕ) (f : Fault) (v : Value × ℕ) → HasValue u entry s at v → ValuesWhy u entry specs v.1 f → ValuesWhy u entry (s ∷ specs) at f
why_later u entry s specs at f v is (inl (it, later)) = inl (it, inr (v, is, later))
why_later u entry s specs at f v is (inr (inl (it, later))) = inr (inl (it, inr (v, is, later)))
why_later u entry s specs at f v is (inr (inr (it, later))) = inr (inr (it, inr (v, is, later)))

pub values_why : (u : PlainUnit) (entry : ℕ) (specs : List Spec) (at : ℕ) (f : Fault) → values_at u entry specs at ≡ Err f → ValuesWhy u entry specs at f
unfolding values_at
values_why u entry [] at f h = absurd cc
values_why u entry (s ∷ specs) at f h =
    result_cases (value_in u entry s at)
    (λ v is. let h1 = rw is at h in
    result_cases (values_at u entry specs v.1)
    (λ w js. absurd (let g = rw js at h1 in cc))
    (λ e js. why_later u entry s specs at f v is (values_why u entry specs v.1 f (let g = rw js at h1 in let same : e ≡ f = cc in js ∙ ap Err same))))
    (λ e is. let g = rw is at h in let same : e ≡ f = cc in let now = is ∙ ap Err same in why_here u entry s specs at f now (value_why u entry s at f now))

pub unread_is : (u : PlainUnit) (entry : ℕ) (Kind : Spec → ℕ → Type 0) (f : Fault) → ((s : Spec) (at : ℕ) → Kind s at → value_in u entry s at ≡ Err f)
    → (specs : List Spec) (at : ℕ) → FirstUnread u entry Kind specs at → values_at u entry specs at ≡ Err f
unfolding values_at
unread_is u entry Kind f each [] at h = absurd h
unread_is u entry Kind f each (s ∷ specs) at (inl here) = rw (each s at here) refl
unread_is u entry Kind f each (s ∷ specs) at (inr (v, is, later)) = rw (is, unread_is u entry Kind f each specs v.1 later) refl
