use Rattle.explain.proofs.NameLemmas.{lacking_are}
use Rattle.explain.proofs.applications.lacking_words.Goals as goal

pub returns : goal.returns
returns c =
    lacking_are c.args.library.now c.args.names.now _ _ _ _ _ c.in_ok-words.ensures c.first_names.ensures c.in_ok-push_names.ensures c.saturating_sub.ensures c.in_ok-push_more.ensures
