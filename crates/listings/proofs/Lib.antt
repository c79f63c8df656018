mod entries_lemmas
mod LimitLemmas
mod LinesTaken
