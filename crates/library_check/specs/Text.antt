-- The lines about certificates, as sequences of pieces. Every line ends with a line feed.
use Rattle.std.specs.Prelude.{ℕ, List, [], ◌∷◌, codes, decimal}
use Rattle.std.specs.List.{concat}
use Rattle.cert_check.specs.declared.refused.Refused.{Refused}
use Rattle.cert_check.specs.Refusals.{refused_number, refused_name}

-- the end of a line
abbrev pub newline : List ℕ
newline = 10 ∷ []

abbrev pub accepted_text : List ℕ
accepted_text = concat (codes "accepted" ∷ newline ∷ [])

abbrev pub refused_text : Refused → List ℕ
refused_text refused =
    concat (codes "refused " ∷ decimal (refused_number refused.kind) ∷ codes " " ∷ refused_name refused.kind ∷ codes " " ∷ decimal refused.at ∷ newline ∷ [])

-- the same for the first of two certificates, and for the second one
abbrev pub refused_first_text : Refused → List ℕ
refused_first_text refused =
    concat (codes "refused first " ∷ decimal (refused_number refused.kind) ∷ codes " " ∷ refused_name refused.kind ∷ codes " " ∷ decimal refused.at ∷ newline ∷ [])

abbrev pub refused_second_text : Refused → List ℕ
refused_second_text refused =
    concat (codes "refused second " ∷ decimal (refused_number refused.kind) ∷ codes " " ∷ refused_name refused.kind ∷ codes " " ∷ decimal refused.at ∷ newline ∷ [])
