-- The members of an aggregate, and the nodes of all entries that were found.
use Rattle.std.proofs.Common.{◌≡◌, ◌<◌, ◌≤◌, ◌+◌, ℕ, false, List, [], ◌∷◌, ◌++◌, length, map, take, get_or, slice_get, Some, None, refl, sym, ◌∙◌, ap, subst, arith}
use Rattle.std.specs.Prelude.{All, Contains, IfSome, ℤ, pos, ◌+ℤ◌}
use Rattle.std.specs.List.{list_any}
use Rattle.std.proofs.lemmas.Int.{ints}
use Rattle.std.proofs.lemmas.List.{take_more, take_all, map-append}
use Rattle.std.proofs.lemmas.List.Elements.{Contains-get_or}
use Rattle.std.proofs.lemmas.Option.{slice_get_within, get_or_from_slice_get}
use Rattle.abi_base.proofs.lemmas.Lists.{map-map}
use Rattle.dwarf_tree.specs.Trees.{PlainTree}
use Rattle.dwarf_entries.specs.Debug.{PlainDwarf}
use Rattle.abi_types.specs.Types.{PlainNode}
use Rattle.type_reach.specs.References.{Type_}
use Rattle.type_reach.specs.ByValue.{IsClosed}
use Rattle.type_reach.specs.Placement.{is_out_of_range}
use Rattle.type_reach.specs.Flat.{Flat, moved}
use Rattle.type_reach.specs.PeeledCores.{IsFound}
use Rattle.type_reach.specs.Sizes.{begins_beyond}
use Rattle.type_graph.specs.declared.flatten.Placed.{Placed}
use Rattle.type_graph.specs.Sharing.{first_node, first_nodes}
use Rattle.type_graph.specs.Placed.{plain_member, plain_members}
use Rattle.type_reach.proofs.lemmas.Mapped.{Contains-map}
use Rattle.type_graph.proofs.LimitLemmas.{none_beyond}

-- ---- members

moved-zero : (xs : List Flat) → map (moved (pos 0)) xs ≡ xs
moved-zero [] = refl
moved-zero (x ∷ xs) =
    let here : pos 0 +ℤ x.bit ≡ x.bit = omega (arith, ints) in
    let later = moved-zero xs in
    ap (λ z. record x { bit = z } ∷ map (moved (pos 0)) xs) here ∙ ap (λ ys. x ∷ ys) later

pub put-whole : (items none : List Placed) (flats : List Flat) (base : ℤ) → none ≡ [] → base ≡ pos 0 → plain_members items ≡ plain_members none ++ map (moved base) flats → plain_members items ≡ flats
put-whole items none flats base is outermost put = put ∙ ap (λ xs. plain_members xs ++ map (moved base) flats) is ∙ ap (λ bit. map (moved bit) flats) outermost ∙ moved-zero flats

pub near-each : (items : List Placed) (flats : List Flat) → plain_members items ≡ flats → list_any begins_beyond flats ≡ false → All (λ (m : Placed). is_out_of_range m.bit ≡ false) items
near-each items flats is none k d lt =
    none_beyond flats (plain_member (get_or items k d)) none (subst (λ xs. Contains xs (plain_member (get_or items k d))) is (Contains-map plain_member items (get_or items k d) (Contains-get_or items k d lt)))

pub there-each : (found : List ℕ) (items : List Placed) (flats : List Flat) → plain_members items ≡ flats → ((x : Flat) → Contains flats x → IsFound found x.to) → All (λ (m : Placed). IsFound found m.to) items
there-each found items flats is each k d lt =
    each (plain_member (get_or items k d)) (subst (λ xs. Contains xs (plain_member (get_or items k d))) is (Contains-map plain_member items (get_or items k d) (Contains-get_or items k d lt)))

-- ---- what was found is inside

pub found-inside : (t : PlainTree) (found : List ℕ) (r : Type_) → IsClosed t found → IsFound found r → IfSome r (λ e. e < length t.entries)
found-inside t found None closed there = tt
found-inside t found (Some e) closed there = closed.inside e there

-- ---- nodes, one after the other

pub node-more : (d : PlainDwarf) (found : List ℕ) (nodes new : List PlainNode) (k e : ℕ) (n : PlainNode) → nodes ≡ first_node d found None ∷ map (λ (f : ℕ). first_node d found (Some f)) (take k found) → slice_get found k ≡ Some e → n ≡ first_node d found (Some e) → new ≡ nodes ++ n ∷ []
    → new ≡ first_node d found None ∷ map (λ (f : ℕ). first_node d found (Some f)) (take (k + 1) found)
node-more d found nodes new k e n was at is grown =
    let f : ℕ → PlainNode = λ x. first_node d found (Some x) in
    let lt = slice_get_within found k e at in
    let more : take (k + 1) found ≡ take k found ++ e ∷ [] = take_more found k e lt ∙ ap (λ x. take k found ++ x ∷ []) (get_or_from_slice_get found k e e at) in
    grown ∙ ap (λ xs. xs ++ n ∷ []) was ∙ ap (λ x. (first_node d found None ∷ map f (take k found)) ++ x ∷ []) is
    ∙ ap (λ xs. first_node d found None ∷ xs) (sym (map-append f (take k found) (e ∷ [])) ∙ ap (map f) (sym more))

pub nodes-end : (d : PlainDwarf) (found : List ℕ) (nodes : List PlainNode) (k : ℕ) → nodes ≡ first_node d found None ∷ map (λ (f : ℕ). first_node d found (Some f)) (take k found) → length found ≤ k → nodes ≡ first_nodes d found
unfolding first_nodes
nodes-end d found nodes k was past =
    was
    ∙ ap (λ xs. first_node d found None ∷ map (λ (f : ℕ). first_node d found (Some f)) xs) (take_all k found past)
    ∙ ap (λ xs. first_node d found None ∷ xs) (sym (map-map (first_node d found) (λ (f : ℕ). Some f) found))
