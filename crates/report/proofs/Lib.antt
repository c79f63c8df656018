mod SeenLemmas
mod Telling
mod TextLemmas
mod styles_lemmas
