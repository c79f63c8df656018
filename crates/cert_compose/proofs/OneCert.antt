-- What two certificates compose is one.
use Rattle.std.proofs.Common.{◌≡◌, ℕ, List, sym, ◌∙◌, ap}
use Rattle.std.specs.Cmp.{IsTotalOrder}
use Rattle.std.proofs.lemmas.Cmp.{nat_cmp_total, on_total}
use Rattle.cert_text.specs.Certs.{PlainCert, PairLine, first_cmp}
use Rattle.cert_compose.specs.Chains.{PlainChain}
use Rattle.cert_compose.specs.Composed.{IsComposed}
use Rattle.cert_check.proofs.lemmas.OneList.{one_list}
use Rattle.cert_compose.proofs.OrderLemmas.{line_total}

first_total : IsTotalOrder first_cmp
first_total = on_total (λ (x : ℕ × ℕ). x.0) nat_cmp_total

pub one_cert : (ch : PlainChain) (c d : PlainCert) → IsComposed ch c → IsComposed ch d → c ≡ d
one_cert ch c d one other =
    let binds : c.binds ≡ d.binds = one_list first_total c.binds d.binds one.cert.binds other.cert.binds (λ z h. (other.binds z).1 ((one.binds z).0 h)) (λ z h. (one.binds z).1 ((other.binds z).0 h)) in
    let pairs : c.pairs ≡ d.pairs = one_list line_total c.pairs d.pairs one.cert.pairs other.cert.pairs (λ z h. (other.pairs z).1 ((one.pairs z).0 h)) (λ z h. (one.pairs z).1 ((other.pairs z).0 h)) in
    let mk : List ℕ → List ℕ → List ℕ → List (ℕ × ℕ) → List (ℕ × ℕ) → List (ℕ × ℕ) → List PairLine → PlainCert =
    λ a b r s o n p. record { old_digest = a; new_digest = b; rules_digest = r; binds = s; alike_old = o; alike_new = n; pairs = p } in
    ap (λ a. mk a c.new_digest c.rules_digest c.binds c.alike_old c.alike_new c.pairs) (one.old_digest ∙ sym other.old_digest)
    ∙ ap (λ b. mk d.old_digest b c.rules_digest c.binds c.alike_old c.alike_new c.pairs) (one.new_digest ∙ sym other.new_digest)
    ∙ ap (λ r. mk d.old_digest d.new_digest r c.binds c.alike_old c.alike_new c.pairs) (one.rules_digest ∙ sym other.rules_digest)
    ∙ ap (λ s. mk d.old_digest d.new_digest d.rules_digest s c.alike_old c.alike_new c.pairs) binds
    ∙ ap (λ o. mk d.old_digest d.new_digest d.rules_digest d.binds o c.alike_new c.pairs) (one.alike_old ∙ sym other.alike_old)
    ∙ ap (λ n. mk d.old_digest d.new_digest d.rules_digest d.binds d.alike_old n c.pairs) (one.alike_new ∙ sym other.alike_new)
    ∙ ap (mk d.old_digest d.new_digest d.rules_digest d.binds d.alike_old d.alike_new) pairs
