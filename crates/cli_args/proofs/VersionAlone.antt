-- The words that are `--version` alone, which `clap` does not take.
use Rattle.std.proofs.Common.{◌≡◌, ◌∙◌, ℕ, Bool, true, false, refl, ap, sym, List, [], ◌∷◌, length, codes, true≢false, eqb-true, arith}
use Rattle.std.specs.Prelude.{◌==◌}
use Rattle.std.specs.Str.{bytes_eq}
use Rattle.std.proofs.lemmas.Slice.Eq.{bytes_eq-Decides}
use Rattle.abi_base.proofs.lemmas.Bools.{and_is_true}
use Rattle.clap.specs.Words.{Kinds, fault_of}
use Rattle.clap.specs.declared.error.kind.ErrorKind.TheVariants as kind
use Rattle.clap.proofs.OnLiterals.{clap_on_literals}
use Rattle.cli_args.specs.Commands.{word_at}
use Rattle.cli_args.specs.Line.{line_app}
use Rattle.cli_args.specs.Release.{is_version_alone}

both : (words : List (List ℕ)) → is_version_alone words ≡ true → ((length words == 1) ≡ true) × (bytes_eq (word_at words 0) (codes "--version") ≡ true)
both words alone = and_is_true (length words == 1) (bytes_eq (word_at words 0) (codes "--version")) alone

pub alone_is : (words : List (List ℕ)) → is_version_alone words ≡ true → words ≡ codes "--version" ∷ []
alone_is [] alone = absurd (true≢false (sym alone))
alone_is (word ∷ []) alone = ap (λ (w : List ℕ). w ∷ []) ((bytes_eq-Decides word (codes "--version")).0 (both (word ∷ []) alone).1)
alone_is (word ∷ next ∷ rest) alone =
    let one : length (word ∷ next ∷ rest) ≡ 1 = eqb-true (length (word ∷ next ∷ rest)) 1 (both (word ∷ next ∷ rest) alone).0 in
    absurd (omega (arith, one))

version_fault : fault_of line_app (codes "--version" ∷ []) ≡ kind.UnknownArgument ∷ []
unfolding clap_on_literals
version_fault = refl

abbrev is_fault : Kinds → Bool
is_fault [] = false
is_fault (first ∷ rest) = true

-- what `clap` takes is not `--version` alone
pub taken_is_other : (words : List (List ℕ)) → fault_of line_app words ≡ [] → is_version_alone words ≡ false
taken_is_other words taken = go (is_version_alone words) refl
  where
    go : (b : Bool) → is_version_alone words ≡ b → is_version_alone words ≡ false
    go true alone = absurd (true≢false (ap is_fault (sym (ap (fault_of line_app) (alone_is words alone) ∙ version_fault) ∙ taken)))
    go false other = other
