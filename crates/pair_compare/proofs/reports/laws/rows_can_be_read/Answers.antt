-- The laws of the crates below, put together.
use Rattle.pair_compare.proofs.reports_lemmas.ReadableLemmas.{ReadingLaws, readable}
use Rattle.pair_compare.proofs.reports.laws.rows_can_be_read.Goals as goal

pub returns : goal.returns
returns c =
    let laws : ReadingLaws = record {
      sound = c.breaks_by_representatives.ensures.sound;
      same_breaks = c.breaks_by_representatives.ensures.breaks;
      along = c.parents_spell_paths.ensures.along;
      said = c.breaks_are_where_their_rules_say.ensures;
      walks = c.paths_end_where_they_lead.ensures.walks;
    } in
    λ s visits broken explored. readable laws s visits broken explored
