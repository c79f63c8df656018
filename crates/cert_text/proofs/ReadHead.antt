-- The four lines together.
use Rattle.std.proofs.Common.{◌≡◌, ◌<◌, ◌≤◌, ◌+◌, ℕ, Bool, List, [], ◌∷◌, ◌++◌, length, drop, Option, Some, None, refl, sym, ◌∙◌, ap, subst, arith, append_assoc}
use Rattle.std.specs.Prelude.{codes}
use Rattle.abi_base.specs.declared.fault.Fault.{Fault}
use Rattle.cert_text.specs.Grammar.{answer, digest_line, lined, head_lines}
use Rattle.cert_text.specs.Faults.{head_fault, head_tests, answer_test, digest_test, fault_of}
use Rattle.cert_text.specs.Steps.{StandsAt, Passes, Fails, HasDigest, HasHead, head_from, body_from}
use Rattle.cert_text.specs.declared.line.Version.{Version}

-- the tests that are left behind the first, second and third line
abbrev after_one : List (List ℕ → Bool)
after_one = digest_test (codes "old ") ∷ digest_test (codes "new ") ∷ digest_test (codes "rules ") ∷ []

abbrev after_two : List (List ℕ → Bool)
after_two = digest_test (codes "new ") ∷ digest_test (codes "rules ") ∷ []

abbrev after_three : List (List ℕ → Bool)
after_three = digest_test (codes "rules ") ∷ []

starts : (v : Version) (bytes : List ℕ) → fault_of v bytes ≡ head_from v 1 (head_tests v) bytes 0
unfolding fault_of
starts v bytes = refl

pub fails_at_one : (v : Version) (bytes : List ℕ) (fault : Fault) → Fails 1 (answer_test v) bytes 0 fault → fault_of v bytes ≡ Some fault
fails_at_one v bytes fault fails = starts v bytes ∙ fails v after_one

to_two : (v : Version) (bytes : List ℕ) (second : ℕ) → Passes v 1 (answer_test v) bytes 0 second (answer v) → fault_of v bytes ≡ head_from v 2 after_one bytes second
to_two v bytes second one = starts v bytes ∙ one.same after_one

pub fails_at_two : (v : Version) (bytes : List ℕ) (second : ℕ) (fault : Fault) → Passes v 1 (answer_test v) bytes 0 second (answer v) → Fails 2 (digest_test (codes "old ")) bytes second fault → fault_of v bytes ≡ Some fault
fails_at_two v bytes second fault one fails = to_two v bytes second one ∙ fails v after_two

to_three : (v : Version) (bytes : List ℕ) (second third : ℕ) (old : List ℕ) → Passes v 1 (answer_test v) bytes 0 second (answer v) → HasDigest 2 (codes "old ") bytes second old third → fault_of v bytes ≡ head_from v 3 after_two bytes third
to_three v bytes second third old one two = to_two v bytes second one ∙ (two.passes v).same after_two

pub fails_at_three : (v : Version) (bytes : List ℕ) (second third : ℕ) (old : List ℕ) (fault : Fault) → Passes v 1 (answer_test v) bytes 0 second (answer v) → HasDigest 2 (codes "old ") bytes second old third → Fails 3 (digest_test (codes "new ")) bytes third fault → fault_of v bytes ≡ Some fault
fails_at_three v bytes second third old fault one two fails = to_three v bytes second third old one two ∙ fails v after_three

to_four : (v : Version) (bytes : List ℕ) (second third fourth : ℕ) (old new : List ℕ) → Passes v 1 (answer_test v) bytes 0 second (answer v) → HasDigest 2 (codes "old ") bytes second old third → HasDigest 3 (codes "new ") bytes third new fourth → fault_of v bytes ≡ head_from v 4 after_three bytes fourth
to_four v bytes second third fourth old new one two three = to_three v bytes second third old one two ∙ (three.passes v).same after_three

pub fails_at_four : (v : Version) (bytes : List ℕ) (second third fourth : ℕ) (old new : List ℕ) (fault : Fault) → Passes v 1 (answer_test v) bytes 0 second (answer v) → HasDigest 2 (codes "old ") bytes second old third → HasDigest 3 (codes "new ") bytes third new fourth → Fails 4 (digest_test (codes "rules ")) bytes fourth fault → fault_of v bytes ≡ Some fault
fails_at_four v bytes second third fourth old new fault one two three fails = to_four v bytes second third fourth old new one two three ∙ fails v []

to_body : (v : Version) (bytes : List ℕ) (at : ℕ) → head_from v 5 [] bytes at ≡ body_from v 5 None bytes at
unfolding head_fault
to_body v bytes at = refl

-- a line in front of what is left
onward : (bytes : List ℕ) (at next : ℕ) (text : List ℕ) (lines : List (List ℕ)) (end : ℕ) → StandsAt bytes at next text → drop next bytes ≡ lined lines ++ drop end bytes → drop at bytes ≡ lined (text ∷ lines) ++ drop end bytes
onward bytes at next text lines end stands rest =
    stands.is ∙ ap (λ (xs : List ℕ). text ++ 10 ∷ xs) rest ∙ sym (append_assoc (text ++ 10 ∷ []) (lined lines) (drop end bytes) ∙ append_assoc text (10 ∷ []) (lined lines ++ drop end bytes))

pub whole : (v : Version) (bytes : List ℕ) (second third fourth fifth : ℕ) (old new rules : List ℕ) → Passes v 1 (answer_test v) bytes 0 second (answer v) → HasDigest 2 (codes "old ") bytes second old third → HasDigest 3 (codes "new ") bytes third new fourth → HasDigest 4 (codes "rules ") bytes fourth rules fifth → HasHead v bytes old new rules fifth
whole v bytes second third fourth fifth old new rules one two three four =
    let p2 = two.passes v in
    let p3 = three.passes v in
    let p4 = four.passes v in
    record {
      inside = p4.stands.inside;
      room = omega (arith, one.stands.later, p2.stands.later, p3.stands.later, p4.stands.later);
      old_digest = two.size;
      new_digest = three.size;
      rules_digest = four.size;
      is = onward bytes 0 second (answer v) (digest_line (codes "old ") old ∷ digest_line (codes "new ") new ∷ digest_line (codes "rules ") rules ∷ []) fifth one.stands (onward bytes second third (digest_line (codes "old ") old) (digest_line (codes "new ") new ∷ digest_line (codes "rules ") rules ∷ []) fifth p2.stands (onward bytes third fourth (digest_line (codes "new ") new) (digest_line (codes "rules ") rules ∷ []) fifth p3.stands (onward bytes fourth fifth (digest_line (codes "rules ") rules) [] fifth p4.stands refl)));
      same = to_four v bytes second third fourth old new one two three ∙ p4.same [] ∙ to_body v bytes fifth;
    }
