use Rattle.std.proofs.Common.{◌≡◌, ◌++◌, List, ℕ, subst, string_bytes}
use Rattle.std.specs.Prelude.{OnOk, codes}
use Rattle.explain.specs.Faults.{offset_words}
use Rattle.explain.proofs.sentence.push_info.Goals as goal

pub returns : goal.returns
returns c =
    subst (λ (words : List ℕ). OnOk c.push_offset.result (string_bytes c.push_offset.new.text ≡ string_bytes c.args.text.now ++ offset_words c.args.at (codes ".debug_info") words))
    c.info_sentence.ensures c.push_offset.ensures
