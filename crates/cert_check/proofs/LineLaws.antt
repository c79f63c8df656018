-- What look-ups among the lines of a certificate find.
use Rattle.std.proofs.Common.{◌≡◌, ◌==◌, ℕ, zero, suc, true, List, [], ◌∷◌, slice_get, Some, None, refl, sym, ◌∙◌, ap, inl, inr}
use Rattle.std.specs.Prelude.{◌↔◌}
use Rattle.std.specs.List.{Contains}
use Rattle.std.proofs.lemmas.Bool.{cases_Bool, and_from, eq-eqb}
use Rattle.std.proofs.lemmas.Option.{none-some, same_Some}
use Rattle.abi_base.proofs.lemmas.Bools.{beq_same}
use Rattle.abi_base.proofs.lemmas.Lists.{contains_at, at_contains}
use Rattle.cert_text.specs.Certs.{PairLine, is_pointer}
use Rattle.cert_check.specs.Accepted.{line_of, same_line, is_line}
use Rattle.cert_check.proofs.Lines.{line_of-some, is_line-at}
use Rattle.pair_rules.proofs.lemmas.Lists.{any_is}

pub line_stands : (lines : List (ℕ × ℕ)) (n m : ℕ) → line_of lines n ≡ Some m → Contains lines (n, m)
line_stands lines n m e = let there = line_of-some lines n m e in contains_at lines there.place (n, m) there.at

missing_at : (lines : List (ℕ × ℕ)) (n m k : ℕ) → slice_get lines k ≡ Some (n, m) → line_of lines n ≡ None → ⊥
unfolding line_of
missing_at [] n m k at none = none-some (n, m) at
missing_at (x ∷ xs) n m zero at none =
    let here : (x.0 == n) ≡ true = eq-eqb x.0 n (ap (λ (l : ℕ × ℕ). l.0) (same_Some x (n, m) at)) in
    none-some x.1 (sym (rw here at none))
missing_at (x ∷ xs) n m (suc k) at none = elim (cases_Bool (x.0 == n)) [
  | inl here ↦ none-some x.1 (sym (rw here at none))
  | inr other ↦ missing_at xs n m k at (rw other at none)
]

pub line_missing : (lines : List (ℕ × ℕ)) (n m : ℕ) → line_of lines n ≡ None → Contains lines (n, m) → ⊥
line_missing lines n m none h = let there = at_contains lines (n, m) h in missing_at lines n m there.0 there.1 none

same_line-itself : (x : PairLine) → same_line x x ≡ true
same_line-itself x = and_from _ _ (and_from _ _ (eq-eqb x.0 x.0 refl) (eq-eqb x.1 x.1 refl)) (beq_same (is_pointer x.2))

is_line-from : (lines : List PairLine) (x : PairLine) → Contains lines x → is_line lines x ≡ true
unfolding is_line
is_line-from lines x (k, inside, is) = any_is (same_line x) lines k x inside (ap (same_line x) is ∙ same_line-itself x)

pub is_line_there : (lines : List PairLine) (x : PairLine) → (is_line lines x ≡ true) ↔ Contains lines x
is_line_there lines x = (λ e. let there = is_line-at lines x e in contains_at lines there.0 x there.1, is_line-from lines x)
