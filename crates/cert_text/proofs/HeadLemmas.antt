-- The first four lines.
use Rattle.std.proofs.Common.{◌≡◌, ◌<◌, ◌≤◌, ◌+◌, ◌==◌, ℕ, zero, suc, Bool, true, false, cond, List, [], ◌∷◌, ◌++◌, length, drop, Option, Some, None, refl, sym, ◌∙◌, ap, subst, arith}
use Rattle.std.specs.Prelude.{is_some}
use Rattle.std.specs.Str.{bytes_eq}
use Rattle.abi_base.proofs.lemmas.Orders.{bytes_eq-is_same}
use Rattle.abi_base.specs.declared.fault.Fault.{Fault}
use Rattle.abi_base.specs.declared.fault.FaultKind.TheVariants as kind
use Rattle.cert_text.specs.Forms.{behind, digest_behind}
use Rattle.cert_text.specs.Grammar.{answer, digest_line}
use Rattle.cert_text.specs.Faults.{Parts, parts, head_fault, answer_test, digest_test}
use Rattle.cert_text.specs.Steps.{IsRest, StandsAt, Passes, Fails, HasDigest, head_from}
use Rattle.cert_text.specs.declared.line.Version.{Version}
use Rattle.cert_text.proofs.NumberLemmas.{digest_is, IsDigestIn}

pub ended : (number : ℕ) (test : List ℕ → Bool) (bytes : List ℕ) (at : ℕ) → IsRest bytes at → Fails number test bytes at (record { kind = kind.End; at = number })
unfolding head_fault
ended number test bytes at rest v tests = ap (λ (lines : List (List ℕ)). head_fault v number (test ∷ tests) lines (parts (drop at bytes)).rest) rest.lines

pub refused : (number : ℕ) (test : List ℕ → Bool) (bytes : List ℕ) (at next : ℕ) (text : List ℕ) → StandsAt bytes at next text → test text ≡ false → Fails number test bytes at (record { kind = kind.CertLine; at = number })
unfolding head_fault
refused number test bytes at next text stands other v tests =
    ap (λ (lines : List (List ℕ)). head_fault v number (test ∷ tests) lines (parts (drop at bytes)).rest) stands.lines ∙ rw other refl

pub passes : (v : Version) (number : ℕ) (test : List ℕ → Bool) (bytes : List ℕ) (at next : ℕ) (text : List ℕ) → StandsAt bytes at next text → test text ≡ true → Passes v number test bytes at next text
unfolding head_fault
passes v number test bytes at next text stands right = record {
  stands = stands;
  same = λ tests.
      ap (λ (lines : List (List ℕ)). head_fault v number (test ∷ tests) lines (parts (drop at bytes)).rest) stands.lines
      ∙ ap (λ (rest : List ℕ). head_fault v number (test ∷ tests) (text ∷ (parts (drop next bytes)).lines) rest) stands.rest
      ∙ rw right refl;
}

stands_as : (bytes : List ℕ) (at next : ℕ) (text other : List ℕ) → text ≡ other → StandsAt bytes at next text → StandsAt bytes at next other
stands_as bytes at next text other e stands = subst (StandsAt bytes at next) e stands

pub answered : (v : Version) (bytes : List ℕ) (next : ℕ) (text : List ℕ) → StandsAt bytes 0 next text → bytes_eq text (answer v) ≡ true → Passes v 1 (answer_test v) bytes 0 next (answer v)
answered v bytes next text stands same =
    let e = bytes_eq-is_same text (answer v) same in
    passes v 1 (answer_test v) bytes 0 next (answer v) (stands_as bytes 0 next text (answer v) e stands) (subst (λ (t : List ℕ). bytes_eq t (answer v) ≡ true) e same)

pub digested : (number : ℕ) (word bytes : List ℕ) (at next : ℕ) (text digest : List ℕ) → StandsAt bytes at next text → digest_behind word text ≡ Some digest → HasDigest number word bytes at digest next
digested number word bytes at next text digest stands is =
    let here : IsDigestIn word text digest = digest_is word text digest is in
    let right : is_some (digest_behind word text) ≡ true = ap is_some is in
    record {
      size = here.size;
      passes = λ v. passes v number (digest_test word) bytes at next (digest_line word digest) (stands_as bytes at next text (digest_line word digest) here.is stands) (subst (λ (t : List ℕ). is_some (digest_behind word t) ≡ true) here.is right);
    }

pub compared : (t : Bool) (x text y other : List ℕ) → x ≡ text → y ≡ other → t ≡ bytes_eq x y → bytes_eq text other ≡ t
compared t x text y other e f is = sym (is ∙ ap (λ (z : List ℕ). bytes_eq z y) e ∙ ap (bytes_eq text) f)

pub undigested : (number : ℕ) (word bytes : List ℕ) (at next : ℕ) (text : List ℕ) → StandsAt bytes at next text → digest_behind word text ≡ None → Fails number (digest_test word) bytes at (record { kind = kind.CertLine; at = number })
undigested number word bytes at next text stands none = refused number (digest_test word) bytes at next text stands (ap is_some none)
