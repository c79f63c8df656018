-- What is said of two certificates for libraries that were read holds of their bytes and texts, and is one thing.
use Rattle.std.proofs.Common.{◌≡◌, ℕ, List, [], Option, None, refl, sym, ◌∙◌, ap, subst, inl, inr}
use Rattle.abi_base.specs.declared.remark.Remark.{Remark}
use Rattle.abi_types.specs.Libraries.{PlainLibrary}
use Rattle.cert_check.specs.declared.refused.Refused.{Refused}
use Rattle.cert_compose.specs.Between.{NothingBetween}
use Rattle.cert_compose.specs.Chains.{PlainChain, joint}
use Rattle.cert_compose.specs.Composed.{IsComposed}
use Rattle.cert_compose.specs.Refusals.{IsLost}
use Rattle.cert_text.specs.Certs.{PlainCert}
use Rattle.cert_text.specs.Grammar.{IsSpelled, text_of}
use Rattle.cert_text.specs.declared.line.Version.TheVariants.{Two}
use Rattle.commands.specs.declared.verdict.Verdict.{Verdict}
use Rattle.commands.specs.declared.verdict.Verdict.TheVariants as verdict
use Rattle.library_read.specs.Libraries.{library_of}
use Rattle.library_check.specs.Checks.{sides_of}
use Rattle.library_check.specs.Compositions.{ComposesNone, IsComposedText, IsJoined, IsLostText, JoinsNone, PlainFiles, chain_with}
use Rattle.library_check.specs.Rows.Compose.{ComposeSays}
use Rattle.library_check.specs.Text.{refused_first_text, refused_second_text, refused_text}
use Rattle.library_check.specs.Verifications.{IsAcceptance, IsRejection}
use Rattle.library_check.proofs.Verdicts.{AreOneCertificate, FailsOnce, apart, one_refusal}

-- ---- bytes

none_of_text : (p : PlainFiles) (one other : PlainCert) (text : List ℕ) → IsSpelled p.certificate1 one → IsSpelled p.certificate2 other → JoinsNone (chain_with p one other) text → ComposesNone p (λ line. text ≡ line)
none_of_text p one other text spelled spelled' (refusal, inl is) = (refusal, inl (record { cert = one; spelled = spelled; fails = is.0 }, is.1))
none_of_text p one other text spelled spelled' (refusal, inr (inl is)) =
    (refusal, inr (inl (record { cert = one; spelled = spelled; accepted = is.0 }, record { cert = other; spelled = spelled'; fails = is.1 }, is.2)))
none_of_text p one other text spelled spelled' (refusal, inr (inr is)) =
    (refusal, inr (inr (record { one = one; other = other; one_spelled = spelled; other_spelled = spelled'; lost = is.0 }, is.1)))

of_text : (p : PlainFiles) (one other : PlainCert) (v : Verdict) (text : List ℕ) → IsSpelled p.certificate1 one → IsSpelled p.certificate2 other → IsJoined (chain_with p one other) v text → ComposeSays p v text
of_text p one other verdict.Yes text spelled spelled' is = (is.0, record { one = one; other = other; one_spelled = spelled; other_spelled = spelled'; whole = is.1 })
of_text p one other verdict.Refused text spelled spelled' is = none_of_text p one other text spelled spelled' is
of_text p one other verdict.No text spelled spelled' is = is
of_text p one other verdict.Done text spelled spelled' is = is

pub of_texts : (p : PlainFiles) (first middle last : PlainLibrary) (one other : PlainCert) (v : Verdict) (untyped : Option Remark) (text : List ℕ)
    → first ≡ library_of p.first → middle ≡ library_of p.middle → last ≡ library_of p.last
    → IsSpelled p.certificate1 one → IsSpelled p.certificate2 other → IsJoined (joint first middle last one other) v text → untyped ≡ None → ComposeSays p v text × (untyped ≡ None)
of_texts p first middle last one other v untyped text first_is middle_is last_is spelled spelled' is unremarked =
    let in_first = subst (λ (l : PlainLibrary). IsJoined (joint l middle last one other) v text) first_is is in
    let in_middle = subst (λ (l : PlainLibrary). IsJoined (joint (library_of p.first) l last one other) v text) middle_is in_first in
    let in_last = subst (λ (l : PlainLibrary). IsJoined (joint (library_of p.first) (library_of p.middle) l one other) v text) last_is in_middle in
    (of_text p one other v text spelled spelled' in_last, unremarked)

-- ---- what the texts tell

one_accepted : (p : PlainFiles) (text : List ℕ) → IsComposedText p text → IsAcceptance (sides_of p.first p.middle []) p.certificate1
one_accepted p text is = record { cert = is.one; spelled = is.one_spelled; accepted = is.whole.accepted.one }

other_accepted : (p : PlainFiles) (text : List ℕ) → IsComposedText p text → IsAcceptance (sides_of p.middle p.last []) p.certificate2
other_accepted p text is = record { cert = is.other; spelled = is.other_spelled; accepted = is.whole.accepted.other }

one_accepted_before : (p : PlainFiles) (refusal : Refused) → IsLostText p refusal → IsAcceptance (sides_of p.first p.middle []) p.certificate1
one_accepted_before p refusal is = record { cert = is.one; spelled = is.one_spelled; accepted = is.lost.accepted.one }

other_accepted_before : (p : PlainFiles) (refusal : Refused) → IsLostText p refusal → IsAcceptance (sides_of p.middle p.last []) p.certificate2
other_accepted_before p refusal is = record { cert = is.other; spelled = is.other_spelled; accepted = is.lost.accepted.other }

pub composed_accepted : (p : PlainFiles) (text : List ℕ) → IsComposedText p text → IsAcceptance (sides_of p.first p.last []) text
composed_accepted p text is = record { cert = is.whole.cert; spelled = is.whole.spelled; accepted = is.whole.proves }

-- ---- one answer

-- what two certificates compose is one certificate
abbrev pub ComposeOne : Type 0
ComposeOne = (ch : PlainChain) (c d : PlainCert) → IsComposed ch c → IsComposed ch d → c ≡ d

-- one thing is the first that is lost
abbrev pub LoseOne : Type 0
LoseOne = (ch : PlainChain) (lost other : Refused) → IsLost ch lost.kind lost.at → IsLost ch other.kind other.at → lost ≡ other

-- none is where nothing is lost
abbrev pub LoseNone : Type 0
LoseNone = (ch : PlainChain) (lost : Refused) → NothingBetween ch → IsLost ch lost.kind lost.at → ⊥

module _ (one_text : AreOneCertificate) (p : PlainFiles) where
  -- the texts spell one pair of certificates
  moved : (P : PlainChain → Type 0) (a b c d : PlainCert) → IsSpelled p.certificate1 a → IsSpelled p.certificate2 b → IsSpelled p.certificate1 c → IsSpelled p.certificate2 d → P (chain_with p a b) → P (chain_with p c d)
  moved P a b c d a_is b_is c_is d_is is =
      subst (λ (x : PlainCert). P (chain_with p c x)) (one_text p.certificate2 b d b_is d_is) (subst (λ (x : PlainCert). P (chain_with p x b)) (one_text p.certificate1 a c a_is c_is) is)

  pub one_composed : ComposeOne → (text other : List ℕ) → IsComposedText p text → IsComposedText p other → text ≡ other
  one_composed compose_one text other one two =
      let here = moved (λ (ch : PlainChain). IsComposed ch one.whole.cert) one.one one.other two.one two.other one.one_spelled one.other_spelled two.one_spelled two.other_spelled one.whole.composed in
      let same = compose_one (chain_with p two.one two.other) one.whole.cert two.whole.cert here two.whole.composed in
      one.whole.spelled.is ∙ ap (text_of Two) same ∙ sym two.whole.spelled.is

  pub one_loss : LoseOne → (refusal another : Refused) → IsLostText p refusal → IsLostText p another → refusal ≡ another
  one_loss lose_one refusal another one two =
      let here = moved (λ (ch : PlainChain). IsLost ch refusal.kind refusal.at) one.one one.other two.one two.other one.one_spelled one.other_spelled two.one_spelled two.other_spelled one.lost.lost in
      lose_one (chain_with p two.one two.other) refusal another here two.lost.lost

  pub no_loss : LoseNone → (text : List ℕ) (refusal : Refused) → IsComposedText p text → IsLostText p refusal → ⊥
  no_loss lose_none text refusal one two =
      let here = moved NothingBetween one.one one.other two.one two.other one.one_spelled one.other_spelled two.one_spelled two.other_spelled one.whole.nothing in
      lose_none (chain_with p two.one two.other) refusal here two.lost.lost

  module _ (once : FailsOnce) (compose_one : ComposeOne) (lose_one : LoseOne) (lose_none : LoseNone) where
    first_apart : (refusal : Refused) → IsAcceptance (sides_of p.first p.middle []) p.certificate1 → IsRejection (sides_of p.first p.middle []) p.certificate1 refusal → ⊥
    first_apart refusal one other = apart one_text (sides_of p.first p.middle []) p.certificate1 refusal one other

    second_apart : (refusal : Refused) → IsAcceptance (sides_of p.middle p.last []) p.certificate2 → IsRejection (sides_of p.middle p.last []) p.certificate2 refusal → ⊥
    second_apart refusal one other = apart one_text (sides_of p.middle p.last []) p.certificate2 refusal one other

    -- a yes and a refusal do not meet
    yes_or_none : (text other : List ℕ) → IsComposedText p text → ComposesNone p (λ line. other ≡ line) → ⊥
    yes_or_none text other one (refusal, inl two) = first_apart refusal (one_accepted p text one) two.0
    yes_or_none text other one (refusal, inr (inl two)) = second_apart refusal (other_accepted p text one) two.1
    yes_or_none text other one (refusal, inr (inr two)) = no_loss lose_none text refusal one two.0

    one_none : (text other : List ℕ) → ComposesNone p (λ line. text ≡ line) → ComposesNone p (λ line. other ≡ line) → text ≡ other
    one_none text other (a, inl one) (b, inl two) = one.1 ∙ ap refused_first_text (one_refusal one_text once (sides_of p.first p.middle []) p.certificate1 a b one.0 two.0) ∙ sym two.1
    one_none text other (a, inl one) (b, inr (inl two)) = absurd (first_apart a two.0 one.0)
    one_none text other (a, inl one) (b, inr (inr two)) = absurd (first_apart a (one_accepted_before p b two.0) one.0)
    one_none text other (a, inr (inl one)) (b, inl two) = absurd (first_apart b one.0 two.0)
    one_none text other (a, inr (inl one)) (b, inr (inl two)) = one.2 ∙ ap refused_second_text (one_refusal one_text once (sides_of p.middle p.last []) p.certificate2 a b one.1 two.1) ∙ sym two.2
    one_none text other (a, inr (inl one)) (b, inr (inr two)) = absurd (second_apart a (other_accepted_before p b two.0) one.1)
    one_none text other (a, inr (inr one)) (b, inl two) = absurd (first_apart b (one_accepted_before p a one.0) two.0)
    one_none text other (a, inr (inr one)) (b, inr (inl two)) = absurd (second_apart b (other_accepted_before p a one.0) two.1)
    one_none text other (a, inr (inr one)) (b, inr (inr two)) = one.1 ∙ ap refused_text (one_loss lose_one a b one.0 two.0) ∙ sym two.1

    pub one_answer : (v w : Verdict) (text other : List ℕ) → ComposeSays p v text → ComposeSays p w other → (v ≡ w) × (text ≡ other)
    one_answer verdict.Yes verdict.Yes text other one two = (refl, one_composed compose_one text other one.1 two.1)
    one_answer verdict.Yes verdict.Refused text other one two = absurd (yes_or_none text other one.1 two)
    one_answer verdict.Refused verdict.Yes text other one two = absurd (yes_or_none other text two.1 one)
    one_answer verdict.Refused verdict.Refused text other one two = (refl, one_none text other one two)
    one_answer verdict.Yes verdict.No text other one two = absurd two
    one_answer verdict.Yes verdict.Done text other one two = absurd two
    one_answer verdict.Refused verdict.No text other one two = absurd two
    one_answer verdict.Refused verdict.Done text other one two = absurd two
    one_answer verdict.No w text other one two = absurd one
    one_answer verdict.Done w text other one two = absurd one
