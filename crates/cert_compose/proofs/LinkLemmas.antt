-- Exports as the code reads them, and what they bind to.
use Rattle.std.proofs.Common.{◌≡◌, ◌||◌, not, ℕ, Bool, true, false, Some, None, refl, sym, ◌∙◌, ap, subst, slice_get}
use Rattle.std.specs.Prelude.{◌↔◌}
use Rattle.std.proofs.lemmas.Option.{none-some, same_Some}
use Rattle.abi_types.specs.Exports.{PlainExport}
use Rattle.elf_bind.specs.Binding.{bind_to}
use Rattle.cert_check.specs.Compatible.{bound, KeepsExport, is_typed}
use Rattle.cert_compose.specs.Chains.{PlainChain, near}
use Rattle.cert_compose.specs.Between.{BindsThrough, IsLink, KeepsBinding, KeepsRules, KeepsTyped}

module _ (ch : PlainChain) (e : PlainExport) where
  -- nothing between, nothing there, or another there
  pub no_between : bound (near ch) e ≡ None → BindsThrough ch e → ⊥
  no_between none b = none-some b.between (sym none ∙ b.link.one)

  pub no_straight : bind_to ch.last.exports e ≡ None → BindsThrough ch e → ⊥
  no_straight none b = none-some b.link.place (sym none ∙ b.link.straight)

  one_between : (f : PlainExport) → bound (near ch) e ≡ Some f → (b : BindsThrough ch e) → b.between ≡ f
  one_between f is b = same_Some b.between f (sym b.link.one ∙ is)

  on : (f : PlainExport) → bound (near ch) e ≡ Some f → (b : BindsThrough ch e) → bind_to ch.last.exports f ≡ Some b.link.place
  on f is b = ap (bind_to ch.last.exports) (sym (one_between f is b)) ∙ b.link.other

  pub no_other : (f : PlainExport) → bound (near ch) e ≡ Some f → bind_to ch.last.exports f ≡ None → BindsThrough ch e → ⊥
  no_other f is none b = none-some b.link.place (sym none ∙ on f is b)

  pub two_places : (f : PlainExport) (m n : ℕ) → bound (near ch) e ≡ Some f → bind_to ch.last.exports e ≡ Some m → bind_to ch.last.exports f ≡ Some n → (m ≡ n → ⊥) → BindsThrough ch e → ⊥
  two_places f m n is straight other differ b = differ (same_Some m b.link.place (sym straight ∙ b.link.straight) ∙ sym (same_Some n b.link.place (sym other ∙ on f is b)))

  pub no_partner : (f : PlainExport) (n : ℕ) → bound (near ch) e ≡ Some f → bind_to ch.last.exports f ≡ Some n → slice_get ch.last.exports n ≡ None → BindsThrough ch e → ⊥
  no_partner f n is other none b = none-some b.partner (sym none ∙ ap (slice_get ch.last.exports) (same_Some n b.link.place (sym other ∙ on f is b)) ∙ b.link.at)

  pub is_link : (f g : PlainExport) (m n : ℕ) → bound (near ch) e ≡ Some f → bind_to ch.last.exports e ≡ Some m → bind_to ch.last.exports f ≡ Some n → m ≡ n → slice_get ch.last.exports n ≡ Some g → IsLink ch e f g
  is_link f g m n is straight other same at = record { one = is; place = n; other = other; straight = straight ∙ ap Some same; at = at }

  pub one_link : (f g f' g' : PlainExport) → IsLink ch e f g → IsLink ch e f' g' → (f' ≡ f) × (g' ≡ g)
  one_link f g f' g' a b = (
    same_Some f' f (sym b.one ∙ a.one),
    same_Some g' g (sym b.at ∙ ap (slice_get ch.last.exports) (same_Some b.place a.place (sym b.straight ∙ a.straight)) ∙ a.at),
  )

-- ---- the export at a position

module _ (ch : PlainChain) (k : ℕ) (e : PlainExport) (at : slice_get ch.first.exports k ≡ Some e) where
  only : (other : PlainExport) → slice_get ch.first.exports k ≡ Some other → e ≡ other
  only other is = same_Some e other (sym at ∙ is)

  pub binding_none : (BindsThrough ch e → ⊥) → (false ≡ true) ↔ KeepsBinding ch k
  binding_none none = (λ bad. absurd cc, λ keeps. absurd (none (keeps e at)))

  pub binding_some : (f g : PlainExport) → IsLink ch e f g → (true ≡ true) ↔ KeepsBinding ch k
  binding_some f g link = (λ t other is. subst (BindsThrough ch) (only other is) (record { between = f; partner = g; link = link }), λ keeps. refl)

  link_here : (other f g : PlainExport) → slice_get ch.first.exports k ≡ Some other → IsLink ch other f g → IsLink ch e f g
  link_here other f g is link = subst (λ (x : PlainExport). IsLink ch x f g) (sym (only other is)) link

  pub rules_none : (BindsThrough ch e → ⊥) → (true ≡ true) ↔ KeepsRules ch k
  rules_none none = (λ t other f g is link. absurd (none (record { between = f; partner = g; link = link_here other f g is link })), λ keeps. refl)

  pub rules_some : (f g : PlainExport) (r : Bool) → IsLink ch e f g → (r ≡ true) ↔ KeepsExport e g → (r ≡ true) ↔ KeepsRules ch k
  rules_some f g r link iff = (
    λ right other f' g' is there.
        let same = one_link ch e f g f' g' link (link_here other f' g' is there) in
        subst (λ (x : PlainExport). KeepsExport x g') (only other is) (subst (KeepsExport e) (sym same.1) (iff.0 right)),
    λ keeps. iff.1 (keeps e f g at link),
  )

  pub typed_none : (BindsThrough ch e → ⊥) → (true ≡ true) ↔ KeepsTyped ch k
  typed_none none = (λ t other f g is link one two. absurd (none (record { between = f; partner = g; link = link_here other f g is link })), λ keeps. refl)

  implied : (a b c : Bool) → (not a || not b || c) ≡ true → a ≡ true → b ≡ true → c ≡ true
  implied true true c e p q = e
  implied true false c e p q = absurd cc
  implied false b c e p q = absurd cc

  implies : (a b c : Bool) → (a ≡ true → b ≡ true → c ≡ true) → (not a || not b || c) ≡ true
  implies true true c h = h refl refl
  implies true false c h = refl
  implies false b c h = refl

  pub typed_some : (f g : PlainExport) (r : Bool) → IsLink ch e f g → r ≡ (not (is_typed e) || not (is_typed g) || is_typed f) → (r ≡ true) ↔ KeepsTyped ch k
  typed_some f g r link is = (
    λ right other f' g' there link' one two.
        let same = one_link ch e f g f' g' link (link_here other f' g' there link') in
        ap is_typed same.0 ∙ implied (is_typed e) (is_typed g) (is_typed f) (sym is ∙ right) (ap is_typed (only other there) ∙ one) (ap is_typed (sym same.1) ∙ two),
    λ keeps. is ∙ implies (is_typed e) (is_typed g) (is_typed f) (keeps e f g at link),
  )
