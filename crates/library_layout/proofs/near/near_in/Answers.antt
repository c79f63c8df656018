use Rattle.std.proofs.Common.{◌≡◌, ◌+◌, ◌++◌, ◌∷◌, [], ℕ, List, length, map, Option, ◌∙◌, ap, sym, subst, arith, Bor}
use Rattle.std.specs.Prelude.{IfSome, None, Some}
use Rattle.std.specs.List.{AllPairs}
use Rattle.std.specs.Option.{option_copied}
use Rattle.std.proofs.lemmas.List.{length_push, map-append}
use Rattle.library_layout.specs.Structures.{AreTagsIn, IsAsNear, IsLeftOut, IsNearestBeside}
use Rattle.library_layout.proofs.NearLemmas.{AreNearer, nearer_more, ordered_more, tags_more}
use Rattle.library_layout.proofs.near.near_in.Goals as goal

pub near-preserved : goal.near-preserved
near-preserved g c =
    let nodes = c.args.graph.now in
    let wanted = c.args.tag.now in
    let text_of : Bor (List ℕ) → List ℕ = λ t. t.now in
    let before = map text_of c.near.tags.items in
    let tag : List ℕ = c.in-Some.near.now in
    let grown = c.in_ok-push-in-Some.ensures.items in
    let long : length c.push.new.self.items ≡ length c.near.tags.items + 1 = ap length grown ∙ length_push c.near.tags.items c.in-Some.near in
    let many = c.near.tags.ok.0 in
    let mapped : map text_of c.push.new.self.items ≡ before ++ tag ∷ [] = ap (map text_of) grown ∙ map-append text_of c.near.tags.items (c.in-Some.near ∷ []) in
    let seen : map text_of c.as_slice.result.now ≡ before = ap (map text_of) c.as_slice.ensures.value in
    let out : IsLeftOut nodes before tag =
    subst (λ (ts : List (List ℕ)). IsLeftOut nodes ts tag) seen (subst (λ (o : Option (Bor (List ℕ))). IfSome o (λ n. IsLeftOut nodes (map text_of c.as_slice.result.now) n.now)) c.in-Some.is c.in_ok-near.ensures.new) in
    let nearest : IsNearestBeside nodes wanted before (Some tag) =
    subst (λ (ts : List (List ℕ)). IsNearestBeside nodes wanted ts (Some tag)) seen (subst (λ (o : Option (Bor (List ℕ))). IsNearestBeside nodes wanted (map text_of c.as_slice.result.now) (option_copied o)) c.in-Some.is c.in_ok-near.ensures.nearest) in
    record {
      few = omega arith;
      tags = subst (AreTagsIn nodes) (sym mapped) (tags_more nodes before tag c.near.invariant.tags out.0);
      ordered = subst (AllPairs (IsAsNear wanted)) (sym mapped) (ordered_more nodes wanted before tag c.near.invariant.ordered c.near.invariant.nearer out);
      nearer = subst (AreNearer nodes wanted) (sym mapped) (nearer_more nodes wanted before tag c.near.invariant.nearer nearest);
    }

pub returns-in-None-clause-nearest : goal.returns-in-None-clause-nearest
returns-in-None-clause-nearest g c =
    let nodes = c.args.graph.now in
    let wanted = c.args.tag.now in
    let text_of : Bor (List ℕ) → List ℕ = λ t. t.now in
    let before = map text_of c.near.tags.items in
    let seen : map text_of c.as_slice.result.now ≡ before = ap (map text_of) c.as_slice.ensures.value in
    let none : IsNearestBeside nodes wanted before None =
    subst (λ (ts : List (List ℕ)). IsNearestBeside nodes wanted ts None) seen (subst (λ (o : Option (Bor (List ℕ))). IsNearestBeside nodes wanted (map text_of c.as_slice.result.now) (option_copied o)) c.in-None.is c.in_ok-near.ensures.nearest) in
    record {
      ordered = c.near.invariant.ordered;
      nearer = c.near.invariant.nearer;
      full = λ other out. absurd (none other out);
    }
