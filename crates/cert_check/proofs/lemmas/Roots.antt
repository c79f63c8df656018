-- The typed pair that a root is of.
use Rattle.std.proofs.Common.{◌≡◌, ℕ, length, slice_get, Some, ◌&&◌, false, Option, None, refl, ap, subst, inl, inr}
use Rattle.std.specs.List.{range_with_len}
use Rattle.pair_rules.specs.Steps.{PlainRoot}
use Rattle.cert_check.specs.Compatible.{Sides, typed_root, typed_roots, IsCompared, bound, is_typed, root_with, root_to, root_from}
use Rattle.cert_check.specs.TypedPairs.{IsTypedPair}
use Rattle.std.specs.Prelude.{slice_index_or}
use Rattle.std.proofs.lemmas.Bool.{cases_Bool, and_parts}
use Rattle.std.proofs.lemmas.Option.{same_Some, none-some}
use Rattle.abi_types.specs.Exports.{PlainExport}
use Rattle.abi_types.specs.Graphs.{node_of}
use Rattle.pair_rules.proofs.lemmas.Lists.{filter_map-given}

-- the place and the nodes of a root
pub root_with-parts : (k : ℕ) (o m : Option ℕ) (root : PlainRoot) → root_with k o m ≡ Some root → (k ≡ root.export) × (o ≡ Some root.old) × (m ≡ Some root.new)
root_with-parts k None m root e = absurd (none-some root e)
root_with-parts k (Some a) None root e = absurd (none-some root e)
root_with-parts k (Some a) (Some b) root e =
    let same = same_Some (record { export = k; old = a; new = b }) root e in
    (ap (λ (r : PlainRoot). r.export) same, ap (λ (r : PlainRoot). Some r.old) same, ap (λ (r : PlainRoot). Some r.new) same)

root_to-parts : (s : Sides) (k : ℕ) (e : PlainExport) (root : PlainRoot) (o : Option PlainExport) → IsCompared s k e → bound s e ≡ o → root_to s k e o ≡ Some root → IsTypedPair s root
root_to-parts s k e root None compared is h = absurd (none-some root h)
root_to-parts s k e root (Some f) compared is h =
    elim (cases_Bool (is_typed e && is_typed f)) [
      | inl typed ↦
          let types = and_parts (is_typed e) (is_typed f) typed in
          let parts = root_with-parts k (node_of s.old.graph e.entry) (node_of s.new.graph f.entry) root (rw typed at h) in
          record { old = e; new = f; compared = subst (λ (j : ℕ). IsCompared s j e) parts.0 compared; binds = is; old_typed = types.0; new_typed = types.1; old_node = parts.1; new_node = parts.2 }
      | inr untyped ↦ absurd (none-some root (rw untyped at h))
    ]

root_from-parts : (s : Sides) (k : ℕ) (root : PlainRoot) (o : Option PlainExport) → slice_get s.old.exports k ≡ o → root_from s k o ≡ Some root → IsTypedPair s root
root_from-parts s k root None is h = absurd (none-some root h)
root_from-parts s k root (Some e) is h =
    elim (cases_Bool (slice_index_or s.marks.exports k false)) [
      | inl dropped ↦ absurd (none-some root (rw dropped at h))
      | inr kept ↦ root_to-parts s k e root (bound s e) (record { at = is; kept = kept }) refl (rw kept at h)
    ]

typed_root-parts : (s : Sides) (k : ℕ) (root : PlainRoot) → typed_root s k ≡ Some root → IsTypedPair s root
unfolding typed_root
typed_root-parts s k root e = root_from-parts s k root (slice_get s.old.exports k) refl e

pub typed_pair : (s : Sides) (j : ℕ) (root : PlainRoot) → slice_get (typed_roots s) j ≡ Some root → IsTypedPair s root
unfolding typed_roots
typed_pair s j root e =
    let given = filter_map-given (typed_root s) (range_with_len 0 (length s.old.exports)) j root e in
    typed_root-parts s given.item root given.gives
