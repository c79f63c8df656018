-- The way from a type to what it stands for, entry by entry.
use Rattle.std.proofs.Common.{◌≡◌, ◌<◌, ◌≤◌, ◌+◌, ◌-◌, ◌∙◌, ℕ, suc, zero, Bool, true, false, Some, None, ap, sym, arith, refl}
use Rattle.std.specs.Prelude.{◌&&◌, ◌||◌, ◌==◌}
use Rattle.dwarf_tree.specs.Trees.{PlainTree}
use Rattle.dwarf_entries.specs.Addresses.{tag_at}
use Rattle.type_reach.specs.declared.role.Role.{Role}
use Rattle.type_reach.specs.declared.role.Role.TheVariants as role
use Rattle.type_reach.specs.References.{Type_, role_of, type_of}
use Rattle.type_notes.specs.Chains.{behind, is_passed, led_on, leads_further}

pub one_less : (n k : ℕ) → k < n → n - k ≡ suc (n - (k + 1))
one_less n k h = omega arith

pub none_left : (n k : ℕ) → n ≤ k → n - k ≡ zero
none_left n k h = omega arith

-- ---- what stands behind

pub behind_void : (t : PlainTree) (n k : ℕ) → k < n → behind t (n - k) None ≡ None
unfolding behind
behind_void t n k h = ap (λ (m : ℕ). behind t m None) (one_less n k h)

pub behind_next : (t : PlainTree) (n k e : ℕ) → k < n → role_of t e ≡ role.Wrapper → behind t (n - (k + 1)) (type_of t e) ≡ behind t (n - k) (Some e)
unfolding behind
behind_next t n k e h is =
    sym (ap (λ (m : ℕ). behind t m (Some e)) (one_less n k h) ∙ ap (λ (r : Role). led_on r e (behind t (n - (k + 1)) (type_of t e))) is)

led_on_last : (r : Role) (e : ℕ) (further : Type_) → (r ≡ role.Wrapper → ⊥) → led_on r e further ≡ Some e
led_on_last role.Wrapper e further h = absurd (h refl)
led_on_last _ e further h = refl

pub behind_last : (t : PlainTree) (n k e : ℕ) → k < n → (role_of t e ≡ role.Wrapper → ⊥) → behind t (n - k) (Some e) ≡ Some e
unfolding behind
behind_last t n k e h is =
    ap (λ (m : ℕ). behind t m (Some e)) (one_less n k h) ∙ led_on_last (role_of t e) e (behind t (n - (k + 1)) (type_of t e)) is

pub behind_end : (t : PlainTree) (n k : ℕ) (r : Type_) → n ≤ k → behind t (n - k) r ≡ None
unfolding behind
behind_end t n k r h = ap (λ (m : ℕ). behind t m r) (none_left n k h)

-- ---- what is passed

pub passed_void : (t : PlainTree) (tag n k : ℕ) → k < n → is_passed t tag (n - k) None ≡ false
unfolding is_passed
passed_void t tag n k h = ap (λ (m : ℕ). is_passed t tag m None) (one_less n k h)

passed_on : (t : PlainTree) (tag n k e : ℕ) → k < n → is_passed t tag (n - k) (Some e) ≡ (leads_further (role_of t e) && (tag_at t e == tag || is_passed t tag (n - (k + 1)) (type_of t e)))
unfolding is_passed
passed_on t tag n k e h = ap (λ (m : ℕ). is_passed t tag m (Some e)) (one_less n k h)

on_and : (a b c : Bool) → a ≡ true → b ≡ true → (a && (b || c)) ≡ true
on_and true true c g h = refl
on_and true false c g h = cc
on_and false b c g h = cc

on_only : (a b c : Bool) → a ≡ true → b ≡ false → (a && (b || c)) ≡ c
on_only true true c g h = cc
on_only true false c g h = refl
on_only false b c g h = cc

not_on : (a b : Bool) → a ≡ false → (a && b) ≡ false
not_on true b g = cc
not_on false b g = refl

pub passed_here : (t : PlainTree) (tag n k e : ℕ) → k < n → leads_further (role_of t e) ≡ true → (tag_at t e == tag) ≡ true → is_passed t tag (n - k) (Some e) ≡ true
passed_here t tag n k e h is same = passed_on t tag n k e h ∙ on_and (leads_further (role_of t e)) (tag_at t e == tag) (is_passed t tag (n - (k + 1)) (type_of t e)) is same

pub passed_next : (t : PlainTree) (tag n k e : ℕ) → k < n → leads_further (role_of t e) ≡ true → (tag_at t e == tag) ≡ false → is_passed t tag (n - (k + 1)) (type_of t e) ≡ is_passed t tag (n - k) (Some e)
passed_next t tag n k e h is other =
    sym (passed_on t tag n k e h ∙ on_only (leads_further (role_of t e)) (tag_at t e == tag) (is_passed t tag (n - (k + 1)) (type_of t e)) is other)

pub passed_last : (t : PlainTree) (tag n k e : ℕ) → k < n → leads_further (role_of t e) ≡ false → is_passed t tag (n - k) (Some e) ≡ false
passed_last t tag n k e h is = passed_on t tag n k e h ∙ not_on (leads_further (role_of t e)) (tag_at t e == tag || is_passed t tag (n - (k + 1)) (type_of t e)) is

pub passed_end : (t : PlainTree) (tag n k : ℕ) (r : Type_) → n ≤ k → is_passed t tag (n - k) r ≡ false
unfolding is_passed
passed_end t tag n k r h = ap (λ (m : ℕ). is_passed t tag m r) (none_left n k h)
