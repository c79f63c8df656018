-- Sections that are put in a file one after the other, and their headers.
use Rattle.std.proofs.Common.{◌≡◌, ℕ, ◌+◌, List, [], ◌∷◌, ◌++◌, length, replicate, refl, ap, ◌∙◌}
use Rattle.std.proofs.lemmas.List.{flat_map_more}
use Rattle.std.specs.List.{flat_map}
use Rattle.trial_libraries.specs.Abbreviations.{abbreviations}
use Rattle.trial_libraries.specs.Bytes.{filled, string_table}
use Rattle.trial_libraries.specs.Libraries.{contents_of, section_header, section_names, section_place, section_table}

-- one more section
more : {was now : List ℕ} (xs : List (List ℕ)) (x : List ℕ) → was ≡ flat_map filled xs → now ≡ was ++ filled x → now ≡ flat_map filled (xs ++ x ∷ [])
more xs x are next = next ∙ ap (λ (s : List ℕ). s ++ filled x) are ∙ flat_map_more filled [] xs x

-- What stood in a file behind each section that was put there: s before the first one, and behind sections 1 to 5.
pub record Put (a b d : List ℕ) (s s1 s2 s3 s4 s5 : List ℕ) : Type 0 where
  pub first : s ≡ []
  pub symbols : s1 ≡ s ++ filled a
  pub names : s2 ≡ s1 ++ filled b
  pub abbreviated : s3 ≡ s2 ++ filled abbreviations
  pub units : s4 ≡ s3 ++ filled d
  pub last : s5 ≡ s4 ++ filled (string_table section_names)

two : (a b d : List ℕ) {s s1 s2 s3 s4 s5 : List ℕ} → Put a b d s s1 s2 s3 s4 s5 → s2 ≡ flat_map filled (a ∷ b ∷ [])
two a b d p = more (a ∷ []) b (more [] a p.first p.symbols) p.names

four : (a b d : List ℕ) {s s1 s2 s3 s4 s5 : List ℕ} → Put a b d s s1 s2 s3 s4 s5 → s4 ≡ flat_map filled (a ∷ b ∷ abbreviations ∷ d ∷ [])
four a b d p = more (a ∷ b ∷ abbreviations ∷ []) d (more (a ∷ b ∷ []) abbreviations (two a b d p) p.abbreviated) p.units

pub sections_are : (a b d : List ℕ) {s s1 s2 s3 s4 s5 : List ℕ} → Put a b d s s1 s2 s3 s4 s5 → s5 ≡ flat_map filled (contents_of a b d)
sections_are a b d p = more (a ∷ b ∷ abbreviations ∷ d ∷ []) (string_table section_names) (four a b d p) p.last

-- The section table after each section.
pub record PlacedParts (a b d : List ℕ) (s s1 s2 s3 s4 : List ℕ) (t t1 t2 t3 t4 t5 : List ℕ) : Type 0 where
  pub first : t ≡ replicate 64 0
  pub symbols : t1 ≡ t ++ section_header 1 11 (64 + length s) (length a) 2 1 24
  pub names : t2 ≡ t1 ++ section_header 9 3 (64 + length s1) (length b) 0 0 0
  pub abbreviated : t3 ≡ t2 ++ section_header 17 1 (64 + length s2) (length abbreviations) 0 0 0
  pub units : t4 ≡ t3 ++ section_header 31 1 (64 + length s3) (length d) 0 0 0
  pub last : t5 ≡ t4 ++ section_header 43 3 (64 + length s4) (length (string_table section_names)) 0 0 0

pub table_is : (a b d : List ℕ) {s s1 s2 s3 s4 s5 t t1 t2 t3 t4 t5 : List ℕ} → Put a b d s s1 s2 s3 s4 s5 → PlacedParts a b d s s1 s2 s3 s4 t t1 t2 t3 t4 t5 → t5 ≡ section_table (contents_of a b d)
unfolding string_table section_table section_place
table_is a b d {s} {s1} {s2} {s3} {s4} {s5} {t} {t1} {t2} {t3} {t4} {t5} p q =
    let at0 = p.first in
    let at1 = more [] a p.first p.symbols in
    let at2 = two a b d p in
    let at3 = more (a ∷ b ∷ []) abbreviations at2 p.abbreviated in
    let at4 = four a b d p in
    let t5is = q.last in
    let t4is = q.units in
    let t3is = q.abbreviated in
    let t2is = q.names in
    let t1is = q.symbols in
    let tis = q.first in
    rw (t5is, t4is, t3is, t2is, t1is, tis, at4, at3, at2, at1, at0) refl
