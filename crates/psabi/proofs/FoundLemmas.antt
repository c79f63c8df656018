-- What is kept of the nodes of a graph.
use Rattle.std.proofs.Common.{◌≡◌, ◌<◌, ◌≢◌, ℕ, zero, suc, List, [], ◌∷◌, ◌++◌, length, get_or, set, Some, refl, get_or-set_other, get_or-set_same}
use Rattle.std.specs.Prelude.{Bool, true, false, ◌==◌}
use Rattle.std.proofs.lemmas.Bool.{eqb-true, eqb-false}
use Rattle.abi_types.specs.Types.{PlainNode}
use Rattle.psabi.specs.declared.found.Found.{Found}
use Rattle.psabi.specs.declared.class.Class.{Class}
use Rattle.psabi.specs.Alignment.{align_of}
use Rattle.psabi.specs.Classes.{classes_of}
use Rattle.psabi.specs.Past.{ends_past}
use Rattle.psabi.specs.Found.{nothing_found, IsRightOf, IsRight}

nothing-right : (nodes : List PlainNode) (i : ℕ) → IsRightOf nodes i nothing_found
nothing-right nodes i = record { align = λ a e. cc; past = λ b e. cc; classes = λ cs e. cc }

pub IsRight-none : (nodes : List PlainNode) (found : List Found) → ((i : ℕ) → get_or found i nothing_found ≡ nothing_found) → IsRight nodes found
IsRight-none nodes found none = record { right = λ i. rw (none i) (nothing-right nodes i) }

pub none-more : (found : List Found) → ((k : ℕ) → get_or found k nothing_found ≡ nothing_found) → (k : ℕ) → get_or (found ++ nothing_found ∷ []) k nothing_found ≡ nothing_found
none-more [] none zero = refl
none-more [] none (suc k) = refl
none-more (x ∷ found) none zero = none 0
none-more (x ∷ found) none (suc k) = none-more found (λ j. none (suc j)) k

pub IsRight-set : (nodes : List PlainNode) (found : List Found) (i : ℕ) (x : Found) → IsRight nodes found → i < length found → IsRightOf nodes i x → IsRight nodes (set found i x)
IsRight-set nodes found i x right lt is = record { right = λ k. go k (k == i) refl } where
  go : (k : ℕ) (b : Bool) → (k == i) ≡ b → IsRightOf nodes k (get_or (set found i x) k nothing_found)
  go k true at_i =
      let same : k ≡ i = eqb-true k i at_i in
      let here : get_or (set found i x) i nothing_found ≡ x = rw get_or-set_same refl in
      rw (same, here) is
  go k false at_i =
      let ne : k ≢ i = eqb-false k i at_i in
      let other : get_or (set found i x) k nothing_found ≡ get_or found k nothing_found = rw get_or-set_other refl in
      rw other (right.right k)

-- what was found of one node
pub found-align : (nodes : List PlainNode) (found : List Found) (i : ℕ) (x : Found) (a : ℕ) → IsRight nodes found → x ≡ get_or found i nothing_found → x.align ≡ Some a → a ≡ align_of nodes i
found-align nodes found i x a right is e =
    let here : IsRightOf nodes i x = rw is (right.right i) in
    here.align a e

pub found-past : (nodes : List PlainNode) (found : List Found) (i : ℕ) (x : Found) (b : Bool) → IsRight nodes found → x ≡ get_or found i nothing_found → x.ends_past ≡ Some b → b ≡ ends_past nodes i
found-past nodes found i x b right is e =
    let here : IsRightOf nodes i x = rw is (right.right i) in
    here.past b e

pub found-classes : (nodes : List PlainNode) (found : List Found) (i : ℕ) (x : Found) (cs : List Class) → IsRight nodes found → x ≡ get_or found i nothing_found → x.classes ≡ Some cs → cs ≡ classes_of nodes i
found-classes nodes found i x cs right is e =
    let here : IsRightOf nodes i x = rw is (right.right i) in
    here.classes cs e
