-- From what is passed to its type, and from a core to the end.
use Rattle.std.proofs.Common.{◌≡◌, ◌<◌, ◌≤◌, ◌+◌, ◌++◌, ℕ, suc, List, [], map, length, Some, None, refl, sym, ◌∙◌, ap, subst, arith, inl, inr, ◌⊎◌}
use Rattle.std.specs.Option.{option_map_or}
use Rattle.std.proofs.lemmas.List.{append-nil}
use Rattle.std.proofs.lemmas.List.Sums.{sum_by-append}
use Rattle.abi_base.specs.Budgets.{BudgetState}
use Rattle.abi_base.specs.declared.limit.Limit.{Limit}
use Rattle.dwarf_entries.specs.Debug.{PlainDwarf}
use Rattle.abi_types.specs.declared.view.Label.{Label}
use Rattle.abi_types.specs.Plain.{plain_label}
use Rattle.abi_types.specs.Types.{PlainLabel}
use Rattle.type_reach.specs.declared.role.Role.{Role}
use Rattle.type_reach.specs.declared.role.Role.TheVariants as role
use Rattle.type_reach.specs.References.{Type_, role_of, type_of}
use Rattle.type_reach.specs.Facts.{facts_of}
use Rattle.type_reach.specs.Flat.{own_label, labels_of}
use Rattle.type_reach.specs.PeeledCores.{StandsForNone}
use Rattle.type_reach.specs.TypeLaws.{IsShallow, TypeLaws}
use Rattle.type_graph.specs.Counts.{label_letters}
use Rattle.type_graph.specs.Spending.{PassesBy, Takes}
use Rattle.type_graph.proofs.lemmas.Spending.{takes-none, takes-as, takes-both, passes-after}

passed-or-not : (k : Role) → (k ≡ role.Wrapper) ⊎ (k ≡ role.Wrapper → ⊥)
passed-or-not role.Wrapper = inl refl
passed-or-not role.Aggregate = inr (λ h. (cc))
passed-or-not role.Function = inr (λ h. (cc))
passed-or-not role.Part = inr (λ h. (cc))
passed-or-not role.Pointer = inr (λ h. (cc))
passed-or-not role.Array = inr (λ h. (cc))
passed-or-not role.Enumeration = inr (λ h. (cc))
passed-or-not role.Base = inr (λ h. (cc))
passed-or-not role.Unknown = inr (λ h. (cc))

-- how many entries may still be passed, with the core
abbrev pub left : PlainDwarf → Type_ → ℕ
left d r = option_map_or (λ e. suc (facts_of d (Some e)).rank) r 0

-- the type that an entry is passed to, or the end
pub record IsNext (d : PlainDwarf) (e : ℕ) (next : Type_) : Type 0 where
  pub labels : own_label d e ++ labels_of d next ≡ labels_of d (Some e)
  pub shallow : IsShallow d next
  pub fewer : left d next < left d (Some e)

left-falls : (d : PlainDwarf) (n : ℕ) (r : Type_) → (facts_of d r).rank < n → left d r < suc n
left-falls d n None lt = omega arith
left-falls d n (Some e) lt = omega (arith, lt)

pub is-next : (d : PlainDwarf) → TypeLaws d → (e : ℕ) (next : Type_) → IsShallow d (Some e) → (role_of d.tree e ≡ role.Wrapper → next ≡ type_of d.tree e) → (StandsForNone d e → next ≡ None) → IsNext d e next
is-next d laws e next shallow passed last =
    elim (passed-or-not (role_of d.tree e)) [
      | inl is ↦
          let ty : Type_ = type_of d.tree e in
          let step = laws.passed_step e is in
          subst (IsNext d e) (sym (passed is)) (record {
            labels = sym (laws.labels_passed e shallow is);
            shallow = laws.shallow (Some e) ty shallow step;
            fewer = left-falls d (facts_of d (Some e)).rank ty (laws.falls (Some e) ty shallow step);
          })
      | inr other ↦ subst (IsNext d e) (sym (last other)) (record {
        labels = ap (λ ls. own_label d e ++ ls) laws.labels_void ∙ append-nil (own_label d e) ∙ sym (laws.labels_last e shallow other);
        shallow = laws.void_shallow;
        fewer = omega arith;
      })
    ]

-- ---- letters

pub labels-start : (labels : List Label) (letters : BudgetState) → labels ≡ [] → letters.taken ≤ letters.most → Takes letters letters (label_letters (map plain_label labels))
labels-start labels letters none sound =
    let no : label_letters (map plain_label labels) ≡ 0 = ap (λ (xs : List Label). label_letters (map plain_label xs)) none in
    takes-as letters letters 0 (label_letters (map plain_label labels)) (takes-none letters sound) (sym no)

pub labels-more : (before own after : List PlainLabel) (first letters next : BudgetState) → after ≡ before ++ own → Takes letters next (label_letters own) → Takes first letters (label_letters before) → Takes first next (label_letters after)
labels-more before own after first letters next grown more was =
    let sums = ap label_letters grown ∙ sum_by-append (λ (l : PlainLabel). length l.name) before own in
    takes-both first letters next (label_letters before) (label_letters own) (label_letters after) was more (sym sums)

-- the own name of an entry comes first
pub own-first : (d : PlainDwarf) → TypeLaws d → (e : ℕ) → IsShallow d (Some e) → (rest : List PlainLabel) × (own_label d e ++ rest ≡ labels_of d (Some e))
own-first d laws e shallow =
    elim (passed-or-not (role_of d.tree e)) [ inl is ↦ (labels_of d (type_of d.tree e), sym (laws.labels_passed e shallow is)) | inr other ↦ ([], append-nil (own_label d e) ∙ sym (laws.labels_last e shallow other)) ]

-- what the own name of an entry passes, all names pass
pub labels-pass : (before own rest all : List PlainLabel) (first letters : BudgetState) (l : Limit) → before ++ (own ++ rest) ≡ all → Takes first letters (label_letters before) → PassesBy letters (label_letters own) l → PassesBy first (label_letters all) l
labels-pass before own rest all first letters l is was passes =
    let f : PlainLabel → ℕ = λ x. length x.name in
    let sums = ap label_letters (sym is) ∙ sum_by-append f before (own ++ rest) in
    passes-after first letters (label_letters before) (label_letters own) (label_letters all) l was passes (omega (arith, sums, sum_by-append f own rest))
