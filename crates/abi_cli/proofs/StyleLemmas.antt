-- The voices of a list to which listeners are added.
use Rattle.std.proofs.Common.{◌≡◌, List, [], ◌∷◌, ◌++◌, map, ap, ◌∙◌}
use Rattle.std.proofs.lemmas.List.{map-append}
use Rattle.report.specs.Listening.{Voice, styled}
use Rattle.report.specs.declared.style.Style.TheVariants.{Text, Table, Counts, First}
use Rattle.abi_cli.specs.Styles.{program_voices}

-- a list with one more listener
pub added : {B : Type 0} (voice : B → Voice) (old new : List B) (b : B) (v : Voice) → new ≡ old ++ b ∷ [] → voice b ≡ v → map voice new ≡ map voice old ++ v ∷ []
added {B = B} voice old new b v is said =
    ap (map voice) is ∙ map-append voice old (b ∷ []) ∙ ap (λ (w : Voice). map voice old ++ w ∷ []) said

-- four listeners that were added to none
pub four_added : {B : Type 0} (voice : B → Voice) (l0 l1 l2 l3 l4 : List B) → l0 ≡ []
    → map voice l1 ≡ map voice l0 ++ styled Text ∷ []
    → map voice l2 ≡ map voice l1 ++ styled Table ∷ []
    → map voice l3 ≡ map voice l2 ++ styled Counts ∷ []
    → map voice l4 ≡ map voice l3 ++ styled (First 10) ∷ []
    → map voice l4 ≡ program_voices
four_added {B = B} voice l0 l1 l2 l3 l4 none one two three four =
    four
    ∙ ap (λ (vs : List Voice). vs ++ styled (First 10) ∷ [])
    (three
    ∙ ap (λ (vs : List Voice). vs ++ styled Counts ∷ [])
    (two ∙ ap (λ (vs : List Voice). vs ++ styled Table ∷ []) (one ∙ ap (λ (l : List B). map voice l ++ styled Text ∷ []) none)))
