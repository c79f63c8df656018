-- Looks from shapes: nodes that are equal in all but the nodes that parts name look the same by classes of these.
use Rattle.std.proofs.Common.{◌≡◌, ℕ, suc, List, [], ◌∷◌, map, get_or, Some, refl, sym, ◌∙◌, ap}
use Rattle.abi_types.specs.Types.{PlainPart, Member, Enumerator, Target, Element, Outcome, Param, PlainView, PlainNode, PlainLabel}
use Rattle.abi_types.specs.Graphs.{IsGraph, node_at, part_at, no_part, to_of}
use Rattle.abi_types.specs.ClassLooks.{part_seen, view_seen, Look, look_of, shape_of}
use Rattle.type_classes.specs.Alike.{AreAlike, KeepsAlike}

part_seen-same : (f : ℕ → ℕ) (p q : PlainPart) → part_seen (λ _. 0) p ≡ part_seen (λ _. 0) q → ((a b : ℕ) → to_of p ≡ Some a → to_of q ≡ Some b → f a ≡ f b) → part_seen f p ≡ part_seen f q
part_seen-same f (Member m b w s) (Member n c x t) e same = let s' = same s t refl refl in cc
part_seen-same f (Enumerator m v) (Enumerator n w) e same = cc
part_seen-same f (Target s) (Target t) e same = ap Target (same s t refl refl)
part_seen-same f (Element s) (Element t) e same = ap Element (same s t refl refl)
part_seen-same f (Outcome s) (Outcome t) e same = ap Outcome (same s t refl refl)
part_seen-same f (Param s) (Param t) e same = ap Param (same s t refl refl)
part_seen-same f _ _ e same = cc

parts_seen-same : (f : ℕ → ℕ) (ps qs : List PlainPart) → map (part_seen (λ _. 0)) ps ≡ map (part_seen (λ _. 0)) qs → ((k a b : ℕ) → to_of (get_or ps k no_part) ≡ Some a → to_of (get_or qs k no_part) ≡ Some b → f a ≡ f b) → map (part_seen f) ps ≡ map (part_seen f) qs
parts_seen-same f [] [] e same = refl
parts_seen-same f [] (q ∷ qs) e same = cc
parts_seen-same f (p ∷ ps) [] e same = cc
parts_seen-same f (p ∷ ps) (q ∷ qs) e same =
    let head : part_seen (λ _. 0) p ≡ part_seen (λ _. 0) q = cc in
    let tail : map (part_seen (λ _. 0)) ps ≡ map (part_seen (λ _. 0)) qs = cc in
    let here = part_seen-same f p q head (λ a b x y. same 0 a b x y) in
    let later = parts_seen-same f ps qs tail (λ k a b x y. same (suc k) a b x y) in
    rw (here, later) refl

-- a view without its parts
bare : PlainView → PlainView
bare v = record v { parts = [] }

bare-seen : (f : ℕ → ℕ) (v : PlainView) → bare (view_seen f v) ≡ bare v
unfolding bare view_seen
bare-seen f v = refl

view_seen-is : (f : ℕ → ℕ) (v : PlainView) → view_seen f v ≡ record (bare v) { parts = map (part_seen f) v.parts }
unfolding bare view_seen
view_seen-is f v = refl

parts-seen : (f : ℕ → ℕ) (v : PlainView) → (view_seen f v).parts ≡ map (part_seen f) v.parts
unfolding view_seen
parts-seen f v = refl

view_seen-same : (f : ℕ → ℕ) (v w : PlainView) → view_seen (λ _. 0) v ≡ view_seen (λ _. 0) w → ((k a b : ℕ) → to_of (part_at v k) ≡ Some a → to_of (part_at w k) ≡ Some b → f a ≡ f b) → view_seen f v ≡ view_seen f w
view_seen-same f v w e same =
    let others : bare v ≡ bare w = sym (bare-seen (λ _. 0) v) ∙ ap bare e ∙ bare-seen (λ _. 0) w in
    let shapes : map (part_seen (λ _. 0)) v.parts ≡ map (part_seen (λ _. 0)) w.parts = sym (parts-seen (λ _. 0) v) ∙ ap (λ (x : PlainView). x.parts) e ∙ parts-seen (λ _. 0) w in
    let parts = parts_seen-same f v.parts w.parts shapes same in
    view_seen-is f v
    ∙ ap (λ (x : PlainView). record x { parts = map (part_seen f) v.parts }) others
    ∙ ap (λ (ps : List PlainPart). record (bare w) { parts = ps }) parts
    ∙ sym (view_seen-is f w)

-- nodes of one shape look the same by classes where the nodes that their parts name at each position are of one class
pub same_look : (f : ℕ → ℕ) (m n : PlainNode) → shape_of m ≡ shape_of n → ((k a b : ℕ) → to_of (part_at m.view k) ≡ Some a → to_of (part_at n.view k) ≡ Some b → f a ≡ f b) → look_of f m ≡ look_of f n
same_look f m n shapes named =
    ap (λ (ls : List PlainLabel). let l : Look = record { labels = ls; view = view_seen f m.view } in l) (ap (λ (l : Look). l.labels) shapes)
    ∙ ap (λ (v : PlainView). let l : Look = record { labels = n.labels; view = v } in l) (view_seen-same f m.view n.view (ap (λ (l : Look). l.view) shapes) named)

-- alike nodes look the same by classes that alike nodes share
pub alike_look : (nodes : List PlainNode) (class : ℕ → ℕ) → IsGraph nodes → KeepsAlike nodes class → (i j : ℕ) → AreAlike nodes i j → look_of class (node_at nodes i) ≡ look_of class (node_at nodes j)
alike_look nodes class graph keeps i j (r, is, h) =
    same_look class (node_at nodes i) (node_at nodes j) (is.shapes i j h)
    (λ k a b to_a to_b. keeps a b (graph.inside i k a to_a) (graph.inside j k b to_b) (r, is, is.parts i j k a b h to_a to_b))
