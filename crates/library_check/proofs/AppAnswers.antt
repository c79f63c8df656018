-- Of one application `app` says one thing.
use Rattle.std.proofs.Common.{◌≡◌, ℕ, List, refl, sym, ◌∙◌, subst}
use Rattle.std.specs.Prelude.{All}
use Rattle.abi_types.specs.Graphs.{IsGraph}
use Rattle.cert_check.specs.Compatible.{Sides, IsCompatible}
use Rattle.commands.specs.declared.verdict.Verdict.{Verdict}
use Rattle.commands.specs.declared.verdict.Verdict.TheVariants.{Yes, No, Refused, Done}
use Rattle.library_read.specs.Libraries.{library_of}
use Rattle.report.specs.Listening.{Voice}
use Rattle.library_check.specs.Applications.{ImportTheSame, IsSaidOfUsed, sides_for}
use Rattle.library_check.specs.Rows.App.{AppSays}
use Rattle.library_check.specs.Voices.{TellsItsText}
use Rattle.library_check.proofs.AppLemmas.{sides_alike}
use Rattle.library_check.proofs.Texts.{HaveOneAnswer, one_refusal}

module _ (have : HaveOneAnswer) (voices : List Voice) (tell : All TellsItsText voices) where
  pub one_said : (s : Sides) → IsGraph s.old.graph → IsGraph s.new.graph → (v w : Verdict) (text other : List ℕ) → IsSaidOfUsed voices s v text → IsSaidOfUsed voices s w other → (v ≡ w) × (text ≡ other)
  one_said s old_graph new_graph Yes Yes text other one two = (refl, one.1 ∙ sym two.1)
  one_said s old_graph new_graph Yes No text other one two = absurd (two.0 one.0)
  one_said s old_graph new_graph Yes Refused text other one two = absurd two
  one_said s old_graph new_graph Yes Done text other one two = absurd two
  one_said s old_graph new_graph No Yes text other one two = absurd (one.0 two.0)
  one_said s old_graph new_graph No No text other one two = (refl, one_refusal have s old_graph new_graph voices tell text other one.1 two.1)
  one_said s old_graph new_graph No Refused text other one two = absurd two
  one_said s old_graph new_graph No Done text other one two = absurd two
  one_said s old_graph new_graph Refused w text other one two = absurd one
  one_said s old_graph new_graph Done w text other one two = absurd one

  -- of applications that import the same too
  pub said_alike : (app other old new rules : List ℕ) → ImportTheSame app other → IsGraph (library_of old).graph → IsGraph (library_of new).graph
      → (v w : Verdict) (text answer : List ℕ) → AppSays voices app old new rules v text → AppSays voices other old new rules w answer → (v ≡ w) × (text ≡ answer)
  said_alike app other old new rules same old_graph new_graph v w text answer one two =
      one_said (sides_for other old new rules) old_graph new_graph v w text answer (subst (λ (s : Sides). IsSaidOfUsed voices s v text) (sides_alike app other old new rules same) one) two

-- where the new library may replace the old one there is no other answer than yes
pub not_no : (voices : List Voice) (s : Sides) (v : Verdict) (text : List ℕ) → IsCompatible s → IsSaidOfUsed voices s v text → v ≡ Yes
not_no voices s Yes text compatible is = refl
not_no voices s No text compatible is = absurd (is.0 compatible)
not_no voices s Refused text compatible is = absurd is
not_no voices s Done text compatible is = absurd is
