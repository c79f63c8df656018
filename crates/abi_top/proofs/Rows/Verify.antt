-- `verify`: what its verdict says, and that it says one thing.
use Rattle.std.proofs.Common.{◌≡◌, ℕ, List, [], ◌∷◌, Option, Some, None, refl, sym, ◌∙◌, ap}
use Rattle.abi_base.specs.declared.remark.Remark.{Remark}
use Rattle.abi_top.specs.Calls.{Call}
use Rattle.abi_top.specs.Rows.Verify.{OnVerify}
use Rattle.cert_check.specs.declared.refused.Refused.{Refused as Refusal}
use Rattle.cli_args.specs.Commands.{verify}
use Rattle.cli_args.specs.ParsedArguments.{request, arguments_by}
use Rattle.commands.specs.Commands.{asks_of, places_of}
use Rattle.commands.specs.Faults.{AreReadable}
use Rattle.commands.specs.OneReply.{SaysOne}
use Rattle.commands.specs.Reading.{Gives}
use Rattle.commands.specs.declared.verdict.Verdict.{Verdict}
use Rattle.commands.specs.declared.verdict.Verdict.TheVariants as verdict
use Rattle.library_check.specs.Rows.Verify.{VerifySays, verify_inputs, verify_says}
use Rattle.library_check.specs.Text.{refused_text}
use Rattle.library_check.specs.Verifications.{IsVerified}

module _ (call : Call) (v : Verdict) (untyped : Option Remark) (text : List ℕ) where
  abbrev pub OfVerify : Type 0
  OfVerify = OnVerify call (λ old new rules certificate. VerifySays old new rules certificate v text × (untyped ≡ None))

  pub of_verify : (rules_name : Option (List ℕ)) (old_name new_name certificate_name : List ℕ) → arguments_by call.words ≡ request (verify rules_name old_name new_name certificate_name)
      → (all : List (List ℕ)) → Gives call.reading.told (places_of (verify_inputs rules_name old_name new_name certificate_name)) all → AreReadable (asks_of (verify_inputs rules_name old_name new_name certificate_name)) all
      → verify_says all v untyped text → OfVerify
  of_verify rules_name old_name new_name certificate_name is [] gives readable said = absurd said
  of_verify rules_name old_name new_name certificate_name is (a ∷ []) gives readable said = absurd said
  of_verify rules_name old_name new_name certificate_name is (a ∷ b ∷ []) gives readable said = absurd said
  of_verify rules_name old_name new_name certificate_name is (a ∷ b ∷ c ∷ []) gives readable said = absurd said
  of_verify rules_name old_name new_name certificate_name is (old ∷ new ∷ rules ∷ certificate ∷ []) gives readable said = (rules_name, old_name, new_name, certificate_name, old, new, rules, certificate, record { words = is; given = gives; readable = readable }, said)
  of_verify rules_name old_name new_name certificate_name is (a ∷ b ∷ c ∷ d ∷ e ∷ more) gives readable said = absurd said

-- the law by which it has one answer
abbrev pub HasOneVerification : Type 0
HasOneVerification = (old new rules certificate : List ℕ) (one other : Option Refusal) → IsVerified old new rules certificate one → IsVerified old new rules certificate other → one ≡ other

same_refusal : (a b : Refusal) → Some a ≡ Some b → a ≡ b
same_refusal a b is = cc

accepted_is_refused : (a : Refusal) → None ≡ Some a → ⊥
accepted_is_refused a is = cc

module _ (one_answer : HasOneVerification) where
  one_verification : (old new rules certificate : List ℕ) (v w : Verdict) (text other : List ℕ) → VerifySays old new rules certificate v text → VerifySays old new rules certificate w other → (v ≡ w) × (text ≡ other)
  one_verification old new rules certificate verdict.Yes verdict.Yes text other one two = (refl, one.3 ∙ sym two.3)
  one_verification old new rules certificate verdict.Yes verdict.Refused text other one two =
      absurd (accepted_is_refused two.0 (one_answer old new rules certificate None (Some two.0) (one.0, one.1) two.1))
  one_verification old new rules certificate verdict.Yes verdict.No text other one two = absurd two
  one_verification old new rules certificate verdict.Yes verdict.Done text other one two = absurd two
  one_verification old new rules certificate verdict.Refused verdict.Yes text other one two =
      absurd (accepted_is_refused one.0 (one_answer old new rules certificate None (Some one.0) (two.0, two.1) one.1))
  one_verification old new rules certificate verdict.Refused verdict.Refused text other one two =
      let same = same_refusal one.0 two.0 (one_answer old new rules certificate (Some one.0) (Some two.0) one.1 two.1) in
      (refl, one.2 ∙ ap refused_text same ∙ sym two.2)
  one_verification old new rules certificate verdict.Refused verdict.No text other one two = absurd two
  one_verification old new rules certificate verdict.Refused verdict.Done text other one two = absurd two
  one_verification old new rules certificate verdict.No w text other one two = absurd one
  one_verification old new rules certificate verdict.Done w text other one two = absurd one

  pub verify_says_one : (rules_name : Option (List ℕ)) (old_name new_name certificate_name : List ℕ) → SaysOne (verify_inputs rules_name old_name new_name certificate_name) verify_says
  verify_says_one rules_name old_name new_name certificate_name [] short readable v w u x text other one two = absurd one
  verify_says_one rules_name old_name new_name certificate_name (a ∷ []) short readable v w u x text other one two = absurd one
  verify_says_one rules_name old_name new_name certificate_name (a ∷ b ∷ []) short readable v w u x text other one two = absurd one
  verify_says_one rules_name old_name new_name certificate_name (a ∷ b ∷ c ∷ []) short readable v w u x text other one two = absurd one
  verify_says_one rules_name old_name new_name certificate_name (old ∷ new ∷ rules ∷ certificate ∷ []) short readable v w u x text other one two =
      let both = one_verification old new rules certificate v w text other one.0 two.0 in
      (both.0, one.1 ∙ sym two.1, both.1)
  verify_says_one rules_name old_name new_name certificate_name (a ∷ b ∷ c ∷ d ∷ e ∷ more) short readable v w u x text other one two = absurd one
