-- Lines one after the other in a text.
use Rattle.std.proofs.Common.{◌≡◌, ◌<◌, ◌+◌, ℕ, List, [], ◌∷◌, ◌++◌, length, get_or, take, map, refl, sym, ◌∙◌, ap, append_assoc}
use Rattle.std.specs.List.{flat_map}
use Rattle.std.specs.Prelude.{codes}
use Rattle.hex.specs.Hex.{encode_lower}
use Rattle.std.proofs.lemmas.List.{take_more, map-append, append-nil}
use Rattle.std.proofs.lemmas.List.Concat.{flat_map-append}
use Rattle.cert_text.specs.declared.line.Version.TheVariants.{Two}
use Rattle.cert_text.specs.declared.line.Line.{Line}
use Rattle.cert_text.specs.declared.line.Line.TheVariants.{End}
use Rattle.cert_text.specs.Certs.{PlainCert, IsCert}
use Rattle.cert_text.specs.Grammar.{lined, spelling, body, head, text_of, digest_line, IsSpelled, bind_of, alike_old_of, alike_new_of, pair_of}
use Rattle.cert_text.proofs.BodyLemmas.{groups, body-groups}
use Rattle.cert_text.proofs.ReadingLemmas.{lined-map}

pub written_more : {X : Type 0} (f : X → Line) (xs : List X) (i : ℕ) (d : X) (before now next : List ℕ) → i < length xs → now ≡ before ++ lined (map (spelling Two) (map f (take i xs))) → next ≡ now ++ (spelling Two (f (get_or xs i d)) ++ 10 ∷ []) → next ≡ before ++ lined (map (spelling Two) (map f (take (i + 1) xs)))
written_more {X} f xs i d before now next lt so more =
    let lines = lined (map (spelling Two) (map f (take i xs))) in
    let line = spelling Two (f (get_or xs i d)) ++ 10 ∷ [] in
    let e : lined (map (spelling Two) (map f (take (i + 1) xs))) ≡ lines ++ line = ap (λ (ys : List X). lined (map (spelling Two) (map f ys))) (take_more xs i d lt) ∙ ap (λ (ys : List Line). lined (map (spelling Two) ys)) (map-append f (take i xs) (get_or xs i d ∷ [])) ∙ lined-map Two (map f (take i xs)) (f (get_or xs i d)) in
    more ∙ ap (λ (ys : List ℕ). ys ++ line) so ∙ append_assoc before lines line ∙ ap (λ (ys : List ℕ). before ++ ys) (sym e)

lined-append : (xs ys : List Line) → lined (map (spelling Two) (xs ++ ys)) ≡ lined (map (spelling Two) xs) ++ lined (map (spelling Two) ys)
lined-append xs ys = ap lined (map-append (spelling Two) xs ys) ∙ flat_map-append (λ (text : List ℕ). text ++ 10 ∷ []) (map (spelling Two) xs) (map (spelling Two) ys)

-- the lines of the four groups
lined-groups : (c : PlainCert) → lined (map (spelling Two) (body c)) ≡ lined (map (spelling Two) (map bind_of c.binds)) ++ (lined (map (spelling Two) (map alike_old_of c.alike_old)) ++ (lined (map (spelling Two) (map alike_new_of c.alike_new)) ++ lined (map (spelling Two) (map pair_of c.pairs))))
unfolding groups
lined-groups c =
    let bs = map bind_of c.binds in
    let os = map alike_old_of c.alike_old in
    let ns = map alike_new_of c.alike_new in
    let ps = map pair_of c.pairs in
    ap (λ (xs : List Line). lined (map (spelling Two) xs)) (body-groups c) ∙ lined-append bs (os ++ (ns ++ ps))
    ∙ ap (λ (xs : List ℕ). lined (map (spelling Two) bs) ++ xs) (lined-append os (ns ++ ps) ∙ ap (λ (xs : List ℕ). lined (map (spelling Two) os) ++ xs) (lined-append ns ps))

in_line : (h b o n p e : List ℕ) → ((((h ++ b) ++ o) ++ n) ++ p) ++ e ≡ h ++ ((b ++ (o ++ (n ++ p))) ++ e)
in_line h b o n p e = simp append_assoc

heads : (a b d e : List ℕ) → ((a ++ (b ++ [])) ++ (d ++ [])) ++ (e ++ []) ≡ a ++ (b ++ (d ++ (e ++ [])))
heads a b d e = simp (append_assoc, append-nil)

written_head : (c : PlainCert) (t0 t1 t2 t3 : List ℕ) → t0 ≡ codes "yes 2\n" → t1 ≡ t0 ++ lined (digest_line (codes "old ") c.old_digest ∷ []) → t2 ≡ t1 ++ lined (digest_line (codes "new ") c.new_digest ∷ []) → t3 ≡ t2 ++ lined (digest_line (codes "rules ") c.rules_digest ∷ []) → t3 ≡ lined (head Two c)
written_head c t0 t1 t2 t3 e0 e1 e2 e3 =
    let old = digest_line (codes "old ") c.old_digest ++ 10 ∷ [] in
    let new = digest_line (codes "new ") c.new_digest ++ 10 ∷ [] in
    let rules = digest_line (codes "rules ") c.rules_digest ++ 10 ∷ [] in
    e3 ∙ ap (λ (t : List ℕ). t ++ (rules ++ [])) (e2 ∙ ap (λ (t : List ℕ). t ++ (new ++ [])) (e1 ∙ ap (λ (t : List ℕ). t ++ (old ++ [])) e0)) ∙ heads (codes "yes 2\n") old new rules

pub written : (c : PlainCert) (t0 t1 t2 t3 t4 t5 t6 t7 t8 : List ℕ) → IsCert c → t0 ≡ codes "yes 2\n" → t1 ≡ t0 ++ lined (digest_line (codes "old ") c.old_digest ∷ []) → t2 ≡ t1 ++ lined (digest_line (codes "new ") c.new_digest ∷ []) → t3 ≡ t2 ++ lined (digest_line (codes "rules ") c.rules_digest ∷ [])
    → t4 ≡ t3 ++ lined (map (spelling Two) (map bind_of c.binds)) → t5 ≡ t4 ++ lined (map (spelling Two) (map alike_old_of c.alike_old)) → t6 ≡ t5 ++ lined (map (spelling Two) (map alike_new_of c.alike_new)) → t7 ≡ t6 ++ lined (map (spelling Two) (map pair_of c.pairs)) → t8 ≡ t7 ++ (spelling Two End ++ 10 ∷ []) → IsSpelled t8 c
unfolding text_of
written c t0 t1 t2 t3 t4 t5 t6 t7 t8 kept e0 e1 e2 e3 e4 e5 e6 e7 e8 =
    let h = lined (head Two c) in
    let b = lined (map (spelling Two) (map bind_of c.binds)) in
    let o = lined (map (spelling Two) (map alike_old_of c.alike_old)) in
    let n = lined (map (spelling Two) (map alike_new_of c.alike_new)) in
    let p = lined (map (spelling Two) (map pair_of c.pairs)) in
    let e = spelling Two End ++ 10 ∷ [] in
    record {
      kept = kept;
      is = e8 ∙ ap (λ (t : List ℕ). t ++ e) (e7 ∙ ap (λ (t : List ℕ). t ++ p) (e6 ∙ ap (λ (t : List ℕ). t ++ n) (e5 ∙ ap (λ (t : List ℕ). t ++ o) (e4 ∙ ap (λ (t : List ℕ). t ++ b) (written_head c t0 t1 t2 t3 e0 e1 e2 e3)))))
          ∙ in_line h b o n p e
          ∙ ap (λ (xs : List ℕ). h ++ (xs ++ e)) (sym (lined-groups c));
    }
