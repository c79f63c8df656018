-- Lines of a certificate.
use Rattle.std.proofs.Common.{◌≡◌, ℕ, List, Some, refl, None, true, ◌∙◌, ap, ◌==◌, ◌&&◌}
use Rattle.cert_check.specs.Accepted.{line_of, rep, same_line}
use Rattle.std.specs.Bool.{beq}
use Rattle.abi_types.specs.declared.kind.Way.{Way}
use Rattle.abi_types.specs.declared.kind.Way.TheVariants.{Direct, Pointer}
use Rattle.cert_text.specs.Certs.{is_pointer, PairLine}
use Rattle.std.proofs.lemmas.Bool.{and_parts, eqb-true}

-- the two cases of a representative
pub rep-some : (lines : List (ℕ × ℕ)) (e r : ℕ) → line_of lines e ≡ Some r → rep lines e ≡ r
rep-some lines e r is = rw is refl

pub rep-none : (lines : List (ℕ × ℕ)) (e : ℕ) → line_of lines e ≡ None → rep lines e ≡ e
rep-none lines e is = rw is refl

pub same_way-is : (v w : Way) → beq (is_pointer v) (is_pointer w) ≡ true → v ≡ w
same_way-is Direct Direct e = refl
same_way-is Direct Pointer e = absurd cc
same_way-is Pointer Direct e = absurd cc
same_way-is Pointer Pointer e = refl

pub pair_is : (x y : PairLine) → x.0 ≡ y.0 → x.1 ≡ y.1 → x.2 ≡ y.2 → x ≡ y
pair_is x y a b c =
    let mk : ℕ → ℕ → Way → PairLine = λ m n w. (m, n, w) in
    ap (λ (m : ℕ). mk m x.1 x.2) a ∙ ap (λ (n : ℕ). mk y.0 n x.2) b ∙ ap (mk y.0 y.1) c

pub same_line-is : (x y : PairLine) → same_line x y ≡ true → x ≡ y
same_line-is x y e =
    let all = and_parts (x.0 == y.0 && x.1 == y.1) (beq (is_pointer x.2) (is_pointer y.2)) e in
    let firsts = and_parts (x.0 == y.0) (x.1 == y.1) all.0 in
    pair_is x y (eqb-true x.0 y.0 firsts.0) (eqb-true x.1 y.1 firsts.1) (same_way-is x.2 y.2 all.1)
