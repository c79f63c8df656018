-- What the run-time tests of roots and marks tell.
use Rattle.std.proofs.Common.{◌≡◌, ◌<◌, ◌≤◌, ◌+◌, ℕ, Bool, false, length, List, get_or, slice_get, Some, refl, sym, ◌∙◌, ap, subst, inl, inr, arith}
use Rattle.std.proofs.lemmas.Bool.{cases_order, cases_lt}
use Rattle.std.proofs.lemmas.List.{get_or_default}
use Rattle.std.proofs.lemmas.Option.{slice_get_within, slice_get_read, same_Some}
use Rattle.abi_types.specs.Types.{PlainNode}
use Rattle.pair_rules.specs.Steps.{PlainRoot}
use Rattle.type_classes.specs.Classes.{PlainClasses, AreSound, rep_of}
use Rattle.pair_explorer.specs.Scopes.{AreInside, AreAscending, AreEvenMarks}
use Rattle.type_classes.proofs.lemmas.Reps.{rep_of-past}

-- the roots before number n are nodes
pub record AreInsideBelow (old new : List PlainNode) (roots : List PlainRoot) (n : ℕ) : Type 0 where
  pub each : (k : ℕ) (root : PlainRoot) → k < n → slice_get roots k ≡ Some root → (root.old < length old) × (root.new < length new)

pub AreInsideBelow-none : (old new : List PlainNode) (roots : List PlainRoot) → AreInsideBelow old new roots 0
AreInsideBelow-none old new roots = record { each = λ k root lt at. absurd (omega arith) }

pub AreInsideBelow-more : (old new : List PlainNode) (roots : List PlainRoot) (n : ℕ) (last : PlainRoot) → AreInsideBelow old new roots n → n < length roots → last ≡ get_or roots n last → (last.old < length old) × (last.new < length new) → AreInsideBelow old new roots (n + 1)
AreInsideBelow-more old new roots n last was inside is here = record {
  each = λ k root lt at. elim (cases_order k n) [
    | inl same ↦
        let there = slice_get_read roots (length roots) n last refl inside is in
        let one : last ≡ root = same_Some last root (sym there ∙ ap (slice_get roots) (sym same) ∙ at) in
        subst (λ (r : PlainRoot). (r.old < length old) × (r.new < length new)) one here
    | inr (inl below) ↦ was.each k root below at
    | inr (inr above) ↦ absurd (omega arith)
  ];
}

pub AreInside-from_below : (old new : List PlainNode) (roots : List PlainRoot) (n : ℕ) → AreInsideBelow old new roots n → length roots ≤ n → AreInside old new roots
AreInside-from_below old new roots n all past = λ k root at. all.each k root (omega (arith, slice_get_within roots k root at)) at

-- the roots before number n ascend
pub record AreAscendingBelow (roots : List PlainRoot) (n : ℕ) : Type 0 where
  pub each : (j k : ℕ) (first later : PlainRoot) → j < k → k < n → slice_get roots j ≡ Some first → slice_get roots k ≡ Some later → first.export < later.export

pub AreAscendingBelow-one : (roots : List PlainRoot) → AreAscendingBelow roots 1
AreAscendingBelow-one roots = record { each = λ j k first later lt below at_j at_k. absurd (omega arith) }

pub AreAscendingBelow-more : (roots : List PlainRoot) (m n : ℕ) (before last : PlainRoot) → AreAscendingBelow roots n → m + 1 ≡ n → n < length roots → before ≡ get_or roots m before → last ≡ get_or roots n last → before.export < last.export → AreAscendingBelow roots (n + 1)
AreAscendingBelow-more roots m n before last was next inside is_before is_last rises = record {
  each = λ j k first later lt below at_j at_k.
      let there_m = slice_get_read roots (length roots) m before refl (omega (arith, next, inside)) is_before in
      let there_n = slice_get_read roots (length roots) n last refl inside is_last in
      elim (cases_order k n) [
        | inl same ↦
            let one : last ≡ later = same_Some last later (sym there_n ∙ ap (slice_get roots) (sym same) ∙ at_k) in
            let up : before.export < later.export = subst (λ (r : PlainRoot). before.export < r.export) one rises in
            elim (cases_order j m) [
              | inl same_j ↦
                  let two : before ≡ first = same_Some before first (sym there_m ∙ ap (slice_get roots) (sym same_j) ∙ at_j) in
                  subst (λ (r : PlainRoot). r.export < later.export) two up
              | inr (inl below_j) ↦ omega (arith, was.each j m first before below_j (omega (arith, next)) at_j there_m, up)
              | inr (inr above_j) ↦ absurd (omega (arith, next, same, lt))
            ]
        | inr (inl earlier) ↦ was.each j k first later lt earlier at_j at_k
        | inr (inr above) ↦ absurd (omega arith)
      ];
}

pub AreAscending-from_below : (roots : List PlainRoot) (n : ℕ) → AreAscendingBelow roots n → length roots ≤ n → AreAscending roots
AreAscending-from_below roots n all past = λ j k first later lt at_j at_k. all.each j k first later lt (omega (arith, slice_get_within roots k later at_k)) at_j at_k

-- each node before number n has the mark of the one that stands for it
pub record AreEvenBelow (classes : PlainClasses) (marks : List Bool) (n : ℕ) : Type 0 where
  pub each : (a : ℕ) → a < n → get_or marks a false ≡ get_or marks (rep_of classes a) false

pub AreEvenBelow-none : (classes : PlainClasses) (marks : List Bool) → AreEvenBelow classes marks 0
AreEvenBelow-none classes marks = record { each = λ a lt. absurd (omega arith) }

pub AreEvenBelow-more : (classes : PlainClasses) (marks : List Bool) (n r : ℕ) (here there : Bool) → AreEvenBelow classes marks n → n < length marks → r < length marks → r ≡ rep_of classes n → here ≡ get_or marks n here → there ≡ get_or marks r there → here ≡ there → AreEvenBelow classes marks (n + 1)
AreEvenBelow-more classes marks n r here there was n_inside r_inside is_r is_here is_there same = record {
  each = λ a lt. elim (cases_order a n) [
    | inl at ↦
        let own : get_or marks n false ≡ get_or marks (rep_of classes n) false =
        get_or_default marks n false here n_inside ∙ sym is_here ∙ same ∙ is_there ∙ get_or_default marks r there false r_inside ∙ ap (λ k. get_or marks k false) is_r in
        ap (λ k. get_or marks k false) at ∙ own ∙ ap (λ k. get_or marks (rep_of classes k) false) (sym at)
    | inr (inl below) ↦ was.each a below
    | inr (inr above) ↦ absurd (omega arith)
  ];
}

own_mark : (classes : PlainClasses) (marks : List Bool) (n a : ℕ) → AreSound classes → AreEvenBelow classes marks n → length classes.nodes ≤ n → get_or marks a false ≡ get_or marks (rep_of classes a) false
own_mark classes marks n a sound all whole =
    elim (cases_lt a n) [
      | inl below ↦ all.each a below
      | inr past ↦ ap (λ k. get_or marks k false) (sym (rep_of-past classes a sound (omega arith)))
    ]

pub AreEvenMarks-from_below : (classes : PlainClasses) (marks : List Bool) (n : ℕ) → AreSound classes → AreEvenBelow classes marks n → length classes.nodes ≤ n → length marks ≡ length classes.nodes → AreEvenMarks classes marks
AreEvenMarks-from_below classes marks n sound all whole each = record {
  each = each;
  even = λ a b same. own_mark classes marks n a sound all whole ∙ ap (λ k. get_or marks k false) same ∙ sym (own_mark classes marks n b sound all whole);
}
