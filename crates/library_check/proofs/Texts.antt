-- What `check` prints is one text.
use Rattle.std.proofs.Common.{◌≡◌, ◌≢◌, ℕ, List, [], ◌∷◌, Option, Some, None, inl, inr, refl, sym, ◌∙◌, ap, subst}
use Rattle.std.specs.Prelude.{codes, All, IfSome, IsSome}
use Rattle.std.specs.List.{concat}
use Rattle.std.proofs.lemmas.List.Elements.{All-head, All-tail}
use Rattle.abi_types.specs.Graphs.{IsGraph}
use Rattle.report.specs.Render.{newline}
use Rattle.cert_check.specs.Compatible.{Sides}
use Rattle.cert_text.specs.Certs.{PlainCert}
use Rattle.cert_text.specs.Grammar.{text_of}
use Rattle.cert_text.specs.declared.line.Version.TheVariants.{Two}
use Rattle.pair_compare.specs.declared.comparing.Comparison.{Comparison}
use Rattle.pair_compare.specs.declared.comparing.Comparison.TheVariants.{Compatible, Broken}
use Rattle.pair_compare.specs.Judged.{IsRight}
use Rattle.library_read.specs.Libraries.{graph_of, library_of}
use Rattle.library_check.specs.Checks.{IsCertificateText, IsReportText, sides_of}
use Rattle.library_check.specs.Judgements.{IsRefusal}
use Rattle.library_check.specs.Voices.{TellsItsText}
use Rattle.report.specs.declared.row.Row.{Row}
use Rattle.report.specs.declared.style.Style.{Style}
use Rattle.report.specs.declared.style.Style.TheVariants.{Text, Table, Counts, First, Own}
use Rattle.report.specs.Listening.{InStyle, IsText, Reports, Voice, heard_of}

-- the rows decide the text in a style that is not the listener's own
same_in_style : (s : Style) → s ≢ Own → (rows : List Row) (text other : List ℕ) → InStyle s rows text → InStyle s rows other → text ≡ other
same_in_style Text apart rows text other one two = one ∙ sym two
same_in_style Table apart rows text other one two = one ∙ sym two
same_in_style Counts apart rows text other one two = one ∙ sym two
same_in_style (First n) apart rows text other one two = one ∙ sym two
same_in_style Own apart rows text other one two = absurd (apart refl)

-- a text that is told is one
same_told : (told : Option (List ℕ)) → IsSome told → (text other : List ℕ) → IfSome told (λ t. text ≡ t) → IfSome told (λ t. other ≡ t) → text ≡ other
same_told (Some t) some text other one two = one ∙ sym two
same_told None some text other one two = absurd (let bad = some in cc)

same_text : (voice : Voice) → TellsItsText voice → (rows : List Row) (text other : List ℕ) → IsText voice rows text → IsText voice rows other → text ≡ other
same_text voice (inl apart) rows text other one two = same_in_style voice.style apart rows text other one.styled two.styled
same_text voice (inr told) rows text other one two = same_told (voice.makes rows) (told rows) text other one.made two.made

same_texts : (voices : List Voice) → All TellsItsText voices → (rows : List Row) (texts others : List (List ℕ)) → Reports voices rows texts → Reports voices rows others → texts ≡ others
same_texts [] tell rows [] [] one two = refl
same_texts [] tell rows (t ∷ ts) others one two = absurd one
same_texts [] tell rows [] (u ∷ us) one two = absurd two
same_texts (voice ∷ voices) tell rows [] others one two = absurd one
same_texts (voice ∷ voices) tell rows (t ∷ ts) [] one two = absurd two
same_texts (voice ∷ voices) tell rows (t ∷ ts) (u ∷ us) one two =
    let head = same_text voice (All-head TellsItsText voice voices tell) (heard_of voice.style rows) t u one.0 two.0 in
    let tail = same_texts voices (All-tail TellsItsText voice voices tell) rows ts us one.1 two.1 in
    cc

-- what is told of two libraries is fixed by them
abbrev pub HaveOneAnswer : Type 0
HaveOneAnswer = (s : Sides) (one other : Comparison) → IsGraph s.old.graph → IsGraph s.new.graph → IsRight s one → IsRight s other → one ≡ other

same_cert : (a b : PlainCert) → Compatible a ≡ Compatible b → a ≡ b
same_cert a b is = cc

same_rows : (a b : List Row) → Broken a ≡ Broken b → a ≡ b
same_rows a b is = cc

-- the text of a no is fixed by what is compared
pub one_refusal : HaveOneAnswer → (s : Sides) → IsGraph s.old.graph → IsGraph s.new.graph → (voices : List Voice) → All TellsItsText voices → (text other : List ℕ) → IsRefusal voices s text → IsRefusal voices s other → text ≡ other
one_refusal have s old_graph new_graph voices tell text other one two =
    let same = same_rows one.rows two.rows (have s (Broken one.rows) (Broken two.rows) old_graph new_graph one.refuted two.refuted) in
    let heard = subst (λ (r : List Row). Reports voices r one.report.texts) same one.report.heard in
    let texts = same_texts voices tell two.rows one.report.texts two.report.texts heard two.report.heard in
    one.report.is ∙ ap (λ (t : List (List ℕ)). concat (codes "no" ∷ newline ∷ concat t ∷ [])) texts ∙ sym two.report.is

module _ (old new rules : List ℕ) (have : HaveOneAnswer) (old_graph : IsGraph (graph_of old)) (new_graph : IsGraph (graph_of new)) where
  pub one_certificate : (text other : List ℕ) → IsCertificateText old new rules text → IsCertificateText old new rules other → text ≡ other
  unfolding library_of
  one_certificate text other one two =
      let same = same_cert one.cert two.cert (have (sides_of old new rules) (Compatible one.cert) (Compatible two.cert) old_graph new_graph one.proved two.proved) in
      one.spelled.is ∙ ap (text_of Two) same ∙ sym two.spelled.is

  pub one_report : (voices : List Voice) → All TellsItsText voices → (text other : List ℕ) → IsReportText voices old new rules text → IsReportText voices old new rules other → text ≡ other
  unfolding library_of
  one_report = one_refusal have (sides_of old new rules) old_graph new_graph
