-- The rows decide the texts of listeners that are asked for in any style but their own.
use Rattle.std.proofs.Common.{◌≡◌, ◌≢◌, Bool, true, false, cond, List, [], ◌∷◌, inl, refl, sym, ◌∙◌, ap}
use Rattle.std.specs.Prelude.{All}
use Rattle.std.proofs.lemmas.List.Elements.{All-cons, All-nil}
use Rattle.report.specs.Listening.{Voice}
use Rattle.report.specs.declared.style.Style.{Style}
use Rattle.report.specs.declared.style.Style.TheVariants as style
use Rattle.report.specs.declared.styles.report_option.ReportStyle.{ReportStyle}
use Rattle.report.specs.declared.styles.report_option.ReportStyle.TheVariants.{Text, Table, Counts, First, Own}
use Rattle.report.specs.styles.Wanted.{is_wanted, wanted_voices}
use Rattle.library_check.specs.Voices.{TellsItsText}

own_is_not_wanted : (wanted : ReportStyle) → wanted ≢ Own → is_wanted wanted style.Own ≡ false
own_is_not_wanted Text apart = refl
own_is_not_wanted Table apart = refl
own_is_not_wanted Counts apart = refl
own_is_not_wanted First apart = refl
own_is_not_wanted Own apart = absurd (apart refl)

wanted_is_not_own : (wanted : ReportStyle) → wanted ≢ Own → (s : Style) → is_wanted wanted s ≡ true → s ≢ style.Own
wanted_is_not_own wanted apart s is own =
    let none : is_wanted wanted s ≡ false = ap (is_wanted wanted) own ∙ own_is_not_wanted wanted apart in
    let bad : true ≡ false = sym is ∙ none in cc

kept : (is : Bool) (voice : Voice) (voices : List Voice) → (is ≡ true → TellsItsText voice) → All TellsItsText voices → All TellsItsText (cond is (voice ∷ voices) voices)
kept true voice voices tells all = All-cons TellsItsText voice voices (tells refl) all
kept false voice voices tells all = all

pub wanted_tell : (wanted : ReportStyle) → wanted ≢ Own → (voices : List Voice) → All TellsItsText (wanted_voices wanted voices)
wanted_tell wanted apart [] = All-nil TellsItsText
wanted_tell wanted apart (voice ∷ voices) =
    kept (is_wanted wanted voice.style) voice (wanted_voices wanted voices) (λ is. inl (wanted_is_not_own wanted apart voice.style is)) (wanted_tell wanted apart voices)
