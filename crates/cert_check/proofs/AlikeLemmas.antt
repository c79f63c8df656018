-- One alike line.
use Rattle.std.proofs.Common.{◌≡◌, ℕ, Bool, true, false, List, Some, None, sym, ◌∙◌, ap, subst, slice_get}
use Rattle.std.specs.Prelude.{◌↔◌, is_none}
use Rattle.std.proofs.lemmas.Option.{same_Some, none-some}
use Rattle.abi_base.proofs.lemmas.Options.{is_none-true}
use Rattle.abi_types.specs.Types.{PlainNode}
use Rattle.abi_types.specs.Graphs.{node_at, node_of}
use Rattle.abi_types.specs.ClassLooks.{look_of}
use Rattle.cert_check.specs.Accepted.{class_in, line_of, IsAlikeLine, KeepsAlike}
use Rattle.pair_rules.proofs.lemmas.Truths.{never}

module _ (nodes : List PlainNode) (lines : List (ℕ × ℕ)) (k : ℕ) (line : ℕ × ℕ) (at : slice_get lines k ≡ Some line) where
  here : KeepsAlike nodes lines k → IsAlikeLine nodes lines line
  here keeps = keeps line at

  pub no_one : node_of nodes line.0 ≡ None → (false ≡ true) ↔ KeepsAlike nodes lines k
  no_one none = never (λ keeps. let l = here keeps in none-some l.one (sym none ∙ l.stands))

  pub no_other : node_of nodes line.1 ≡ None → (false ≡ true) ↔ KeepsAlike nodes lines k
  no_other none = never (λ keeps. let l = here keeps in none-some l.other (sym none ∙ l.for_it))

  pub not_own : is_none (line_of lines line.1) ≡ false → (false ≡ true) ↔ KeepsAlike nodes lines k
  not_own is = never (λ keeps. let l = here keeps in let bad : true ≡ false = sym (ap is_none l.own) ∙ is in cc)

  pub alike_told : (a b : ℕ) (r : Bool) → node_of nodes line.0 ≡ Some a → node_of nodes line.1 ≡ Some b → is_none (line_of lines line.1) ≡ true
      → (r ≡ true) ↔ (look_of (class_in nodes lines) (node_at nodes a) ≡ look_of (class_in nodes lines) (node_at nodes b)) → (r ≡ true) ↔ KeepsAlike nodes lines k
  alike_told a b r one other own iff = (
    λ right other_line told.
        let same : line ≡ other_line = same_Some line other_line (sym at ∙ told) in
        let l : IsAlikeLine nodes lines line = record {
          one = a;
          other = b;
          stands = one;
          for_it = other;
          own = is_none-true (line_of lines line.1) own;
          looks = iff.0 right;
        } in
        subst (IsAlikeLine nodes lines) same l,
    λ keeps.
        let l = here keeps in
        let x : l.one ≡ a = same_Some l.one a (sym l.stands ∙ one) in
        let y : l.other ≡ b = same_Some l.other b (sym l.for_it ∙ other) in
        iff.1 (ap (λ (i : ℕ). look_of (class_in nodes lines) (node_at nodes i)) (sym x) ∙ l.looks ∙ ap (λ (i : ℕ). look_of (class_in nodes lines) (node_at nodes i)) y),
  )
