-- What `compose` promises, given the bytes of three libraries of a chain and of two certificates: the certificate that the two
-- compose, or else which one is refused or what is lost.
use Rattle.std.specs.Prelude.{◌≡◌, ◌⊎◌, ◌≤◌, ℕ, List, [], ◌∷◌, length}
use Rattle.abi_base.specs.Limits.{input_limit}
use Rattle.cert_check.specs.declared.refused.Refused.{Refused as Refusal}
use Rattle.cert_check.specs.Accepted.{Case, IsAccepted}
use Rattle.cert_check.specs.Compatible.{Sides, IsCompatible}
use Rattle.cert_compose.specs.Between.{NothingBetween}
use Rattle.cert_compose.specs.Chains.{PlainChain, joint}
use Rattle.cert_compose.specs.Composed.{IsComposed}
use Rattle.cert_compose.specs.Refusals.{IsLost}
use Rattle.cert_text.specs.Certs.{PlainCert}
use Rattle.cert_text.specs.Grammar.{IsSpelled}
use Rattle.commands.specs.declared.verdict.Verdict.{Verdict}
use Rattle.commands.specs.declared.verdict.Verdict.TheVariants.{Yes, No, Refused, Done}
use Rattle.library_read.specs.Libraries.{library_of}
use Rattle.suppression_text.specs.Rules.{rules_of}
use Rattle.library_check.specs.declared.composing.ChainFiles.{ChainFiles}
use Rattle.library_check.specs.Judgements.{ruled}
use Rattle.library_check.specs.Text.{refused_first_text, refused_second_text, refused_text}
use Rattle.library_check.specs.Verifications.{IsAcceptedText, IsFirstRefusal, IsRefusedText, case_for}

-- three libraries and two certificates, by their bytes
pub record PlainFiles : Type 0 where
  pub first : List ℕ
  pub middle : List ℕ
  pub last : List ℕ
  pub certificate1 : List ℕ
  pub certificate2 : List ℕ

abbrev pub plain_files : ChainFiles → PlainFiles
plain_files f = record {
  first = f.first.now;
  middle = f.middle.now;
  last = f.last.now;
  certificate1 = f.certificate1.now;
  certificate2 = f.certificate2.now;
}

-- their bytes, in order
abbrev pub bytes_in_order : PlainFiles → List (List ℕ)
bytes_in_order p = p.first ∷ p.middle ∷ p.last ∷ p.certificate1 ∷ p.certificate2 ∷ []

-- ---- certificates for libraries after they are read

-- the first and the middle library; an empty rule file suppresses nothing
abbrev pub first_sides : PlainChain → Sides
first_sides ch = ruled ch.first ch.middle (rules_of [])

abbrev pub second_sides : PlainChain → Sides
second_sides ch = ruled ch.middle ch.last (rules_of [])

abbrev pub whole_sides : PlainChain → Sides
whole_sides ch = ruled ch.first ch.last (rules_of [])

abbrev pub first_case : PlainChain → Case
first_case ch = case_for (first_sides ch) ch.one

abbrev pub second_case : PlainChain → Case
second_case ch = case_for (second_sides ch) ch.other

-- each certificate is accepted
pub record AreAccepted (ch : PlainChain) : Type 0 where
  pub one : IsAccepted (first_case ch)
  pub other : IsAccepted (second_case ch)

-- Nothing is lost between the first library and the last. The text is that of the composed certificate, which is accepted for them,
-- and it is no longer than an input may be.
pub record IsComposedFor (ch : PlainChain) (text : List ℕ) : Type 0 where
  pub accepted : AreAccepted ch
  pub nothing : NothingBetween ch
  pub cert : PlainCert
  pub composed : IsComposed ch cert
  pub spelled : IsSpelled text cert
  pub proves : IsAccepted (case_for (whole_sides ch) cert)
  pub short : length text ≤ input_limit

-- this is the first loss between the first library and the last
pub record LosesBetween (ch : PlainChain) (refusal : Refusal) : Type 0 where
  pub accepted : AreAccepted ch
  pub lost : IsLost ch refusal.kind refusal.at

-- the text is the line on why two certificates do not compose: a refusal of the first one comes first, then a refusal of the second,
-- then a loss
abbrev pub JoinsNone : PlainChain → List ℕ → Type 0
JoinsNone ch text =
    (refusal : Refusal)
    × ((IsFirstRefusal (first_case ch) refusal × (text ≡ refused_first_text refusal))
    ⊎ ((IsAccepted (first_case ch) × IsFirstRefusal (second_case ch) refusal × (text ≡ refused_second_text refusal))
    ⊎ (LosesBetween ch refusal × (text ≡ refused_text refusal))))

-- what is said about two certificates for a chain of libraries
abbrev pub IsJoined : PlainChain → Verdict → List ℕ → Type 0
IsJoined ch Yes text = IsCompatible (whole_sides ch) × IsComposedFor ch text
IsJoined ch Refused text = JoinsNone ch text
IsJoined ch No text = ⊥
IsJoined ch Done text = ⊥

-- ---- texts

-- the chain of the libraries in three files, with two certificates
abbrev pub chain_with : PlainFiles → PlainCert → PlainCert → PlainChain
chain_with p one other = joint (library_of p.first) (library_of p.middle) (library_of p.last) one other

-- the texts spell two accepted certificates, and the text is that of the certificate that they compose
pub record IsComposedText (p : PlainFiles) (text : List ℕ) : Type 0 where
  pub one : PlainCert
  pub other : PlainCert
  pub one_spelled : IsSpelled p.certificate1 one
  pub other_spelled : IsSpelled p.certificate2 other
  pub whole : IsComposedFor (chain_with p one other) text

-- the texts spell two accepted certificates, and this is the first loss between them
pub record IsLostText (p : PlainFiles) (refusal : Refusal) : Type 0 where
  pub one : PlainCert
  pub other : PlainCert
  pub one_spelled : IsSpelled p.certificate1 one
  pub other_spelled : IsSpelled p.certificate2 other
  pub lost : LosesBetween (chain_with p one other) refusal

-- The two certificates do not compose, and P holds for the line that says why: the refusal of the first certificate, for the first and
-- the middle library; or, if the first is accepted, the refusal of the second, for the middle and the last library; or, if both are
-- accepted, what is lost between them.
abbrev pub ComposesNone : PlainFiles → (List ℕ → Type 0) → Type 0
ComposesNone p P =
    (refusal : Refusal)
    × ((IsRefusedText p.first p.middle [] p.certificate1 refusal × P (refused_first_text refusal))
    ⊎ ((IsAcceptedText p.first p.middle [] p.certificate1 × IsRefusedText p.middle p.last [] p.certificate2 refusal × P (refused_second_text refusal))
    ⊎ (IsLostText p refusal × P (refused_text refusal))))
