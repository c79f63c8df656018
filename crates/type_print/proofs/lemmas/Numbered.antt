-- Members under their positions.
use Rattle.std.proofs.Common.{◌≡◌, ◌+◌, ℕ, List, [], ◌∷◌, ◌++◌, length, ◌∙◌, ap, inl, inr, arith}
use Rattle.std.proofs.lemmas.Bool.{cases_lt}
use Rattle.std.proofs.lemmas.List.{length-append, get_or_append_left, get_or_push}
use Rattle.type_print.specs.declared.extent.Extent.{Extent}
use Rattle.type_print.specs.Members.{no_member, member_at, AreNumbered}

-- one more member under its position
pub numbered_more : (members now : List Extent) (e : Extent) → AreNumbered members → e.part ≡ length members → now ≡ members ++ e ∷ [] → AreNumbered now
numbered_more members now e was is put k inside =
    let part_of = λ (m : Extent). m.part in
    let len : length now ≡ length members + 1 = ap length put ∙ length-append members (e ∷ []) in
    ap (λ (ms : List Extent). (member_at ms k).part) put ∙
    elim (cases_lt k (length members)) [
      | inl below ↦ ap part_of (get_or_append_left members (e ∷ []) no_member k below) ∙ was k below
      | inr past ↦ let here : length members ≡ k = omega arith in ap part_of (get_or_push members e no_member k here) ∙ is ∙ here
    ]
