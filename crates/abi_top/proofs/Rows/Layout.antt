-- `layout`: what its verdict says, and that it says one thing.
use Rattle.std.proofs.Common.{◌≡◌, ◌≤◌, ℕ, List, [], ◌∷◌, length, Option, None, refl, sym, ◌∙◌}
use Rattle.abi_base.specs.Limits.{input_limit}
use Rattle.abi_base.specs.declared.remark.Remark.{Remark}
use Rattle.abi_top.specs.Calls.{Call}
use Rattle.abi_top.specs.Rows.Layout.{OnLayout}
use Rattle.cli_args.specs.Commands.{layout}
use Rattle.cli_args.specs.ParsedArguments.{request, arguments_by}
use Rattle.commands.specs.Commands.{asks_of, places_of}
use Rattle.commands.specs.Faults.{AreReadable}
use Rattle.commands.specs.OneReply.{SaysOne}
use Rattle.commands.specs.Reading.{Gives}
use Rattle.commands.specs.declared.verdict.Verdict.{Verdict}
use Rattle.commands.specs.declared.verdict.Verdict.TheVariants as verdict
use Rattle.library_layout.specs.Command.{LayoutSays, layout_inputs, layout_says}
use Rattle.library_layout.specs.Layouts.{HasNoTag, IsLayoutText}
use Rattle.library_read.specs.Faults.{library_fault}

module _ (call : Call) (v : Verdict) (untyped : Option Remark) (text : List ℕ) where
  abbrev pub OfLayout : Type 0
  OfLayout = OnLayout call (λ library tag. LayoutSays library tag v text × (untyped ≡ None))

  pub of_layout : (name tag : List ℕ) → arguments_by call.words ≡ request (layout name tag)
      → (all : List (List ℕ)) → Gives call.reading.told (places_of (layout_inputs name)) all → AreReadable (asks_of (layout_inputs name)) all → layout_says tag all v untyped text → OfLayout
  of_layout name tag is [] gives readable said = absurd said
  of_layout name tag is (library ∷ []) gives readable said = (name, tag, library, record { words = is; given = gives; readable = readable }, said)
  of_layout name tag is (a ∷ b ∷ more) gives readable said = absurd said

-- the laws by which it has one answer
pub record HasOneLayout : Type 0 where
  pub layout_text : (library tag text other : List ℕ) → length library ≤ input_limit → library_fault library ≡ None → IsLayoutText library tag text → IsLayoutText library tag other → text ≡ other
  pub layout_apart : (library tag text : List ℕ) → IsLayoutText library tag text → HasNoTag library tag → ⊥

module _ (have : HasOneLayout) where
  one_layout : (library tag : List ℕ) → length library ≤ input_limit → library_fault library ≡ None → (v w : Verdict) (text other : List ℕ) → LayoutSays library tag v text → LayoutSays library tag w other → (v ≡ w) × (text ≡ other)
  one_layout library tag few readable verdict.Done verdict.Done text other one two = (refl, have.layout_text library tag text other few readable one.0 two.0)
  one_layout library tag few readable verdict.Done verdict.Refused text other one two = absurd (have.layout_apart library tag text one.0 two.0)
  one_layout library tag few readable verdict.Refused verdict.Done text other one two = absurd (have.layout_apart library tag other two.0 one.0)
  one_layout library tag few readable verdict.Refused verdict.Refused text other one two = (refl, one.1 ∙ sym two.1)
  one_layout library tag few readable verdict.Done verdict.Yes text other one two = absurd two
  one_layout library tag few readable verdict.Done verdict.No text other one two = absurd two
  one_layout library tag few readable verdict.Refused verdict.Yes text other one two = absurd two
  one_layout library tag few readable verdict.Refused verdict.No text other one two = absurd two
  one_layout library tag few readable verdict.Yes w text other one two = absurd one
  one_layout library tag few readable verdict.No w text other one two = absurd one

  pub layout_says_one : (name tag : List ℕ) → SaysOne (layout_inputs name) (layout_says tag)
  layout_says_one name tag [] short readable v w u x text other one two = absurd one
  layout_says_one name tag (library ∷ []) short readable v w u x text other one two =
      let both = one_layout library tag short.0 readable.0 v w text other one.0 two.0 in
      (both.0, one.1 ∙ sym two.1, both.1)
  layout_says_one name tag (a ∷ b ∷ more) short readable v w u x text other one two = absurd one
