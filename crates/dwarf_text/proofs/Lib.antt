mod EndLemmas
mod ranges_lemmas
