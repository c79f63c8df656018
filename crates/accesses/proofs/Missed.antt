-- The path of a break, read as an access, misses.
use Rattle.std.proofs.Common.{◌≡◌, ◌+◌, ℕ, true, false, not, List, [], ◌∷◌, Some, refl, sym, ◌∙◌, ap, subst, arith, inl, inr}
use Rattle.std.specs.List.{Contains}
use Rattle.std.proofs.lemmas.Bool.{and_parts, or_parts, not-true}
use Rattle.std.proofs.lemmas.Option.{same_Some}
use Rattle.abi_types.specs.declared.kind.Way.{Way}
use Rattle.abi_types.specs.Types.{PlainView}
use Rattle.abi_types.specs.Graphs.{IsGraph, part_at, view_at}
use Rattle.pair_rules.specs.declared.rules.Broken.{Broken}
use Rattle.pair_rules.specs.Same.{same_kind}
use Rattle.pair_rules.specs.Matching.{match_of}
use Rattle.pair_rules.specs.TypeRules.{are_compared, is_declaration, breaks, bit_at, width_at}
use Rattle.pair_rules.specs.Steps.{PlainRoot, Task, Triple, is_marked, breaks_of, step, IsStep}
use Rattle.pair_rules.specs.Paths.{Path, From, Then as Onward, PathLeadsTo}
use Rattle.accesses.specs.Moves.{named, move_at, IsNamed}
use Rattle.accesses.specs.Accesses.{Moves, Stay, Then, Spot, beyond, moved, moved_from, start, old_spot, new_spot, GoesOn}
use Rattle.accesses.specs.Agreement.{Agree, MemberBreaks}
use Rattle.accesses.specs.Landing.{StaysBeside, Lands, IsOpenAccess, AllLand, Misses}
use Rattle.accesses.specs.Readings.{triple_at, IsAccessed}
use Rattle.accesses.proofs.Known.{Laws}
use Rattle.accesses.proofs.Naming.{named-match, some_from_IsNamed}
use Rattle.accesses.proofs.Moving.{named-own, moved-is, moved-some, displaced-member, member-like, member-names}
use Rattle.accesses.proofs.Breaking.{break_cases}

-- types that are compared are both defined
pub both-defined : (v w : PlainView) → are_compared v w ≡ true → (v.declared_only ≡ false) × (w.declared_only ≡ false)
both-defined v w e = or_parts v.declared_only w.declared_only (not-true (is_declaration v w) (and_parts (same_kind v.kind w.kind) (not (is_declaration v w)) e).1)

-- an access goes on from two spots
pub goes-on : (t : Task) (root : PlainRoot) (moves : Moves) (old new : Spot) → old_spot t root moves ≡ Some old → new_spot t root moves ≡ Some new → is_marked t old.node old.way ≡ false
    → are_compared (view_at t.old old.node) (view_at t.new new.node) ≡ true → (s : Spot) → old_spot t root moves ≡ Some s → GoesOn t s (new_spot t root moves)
goes-on t root moves old new old_leads new_leads unmarked compared s e =
    let defined = both-defined (view_at t.old old.node) (view_at t.new new.node) compared in
    let same : old ≡ s = same_Some old s (sym old_leads ∙ e) in
    let here : GoesOn t old (new_spot t root moves) = record { unmarked = unmarked; old_defined = defined.0; new_defined = rw new_leads defined.1 } in
    subst (λ (u : Spot). GoesOn t u (new_spot t root moves)) same here

-- one step more
further : Laws → (t : Task) → IsGraph t.old → (x y : Triple) (part : ℕ) → (r : IsAccessed t x) → IsStep t (triple_at r.old r.new) part y → IsAccessed t y
further laws t graph x y part r is =
    let v = view_at t.old r.old.node in
    let w = view_at t.new r.new.node in
    let own : IsNamed v (move_at v part) part = named-own v part y.old (graph.forms r.old.node).parts is.old in
    let there : named w (move_at v part) ≡ Some is.new_part = named-match v w (move_at v part) part own ∙ (laws.found v w part is.new_part).1 is.partners.matched in
    let mk : Way → Triple = λ u. record { old = y.old; new = y.new; way = u } in
    record {
      root = r.root;
      export = r.export;
      typed = r.typed;
      moves = Then r.moves (move_at v part);
      old = beyond r.old (part_at v part) y.old;
      new = beyond r.new (part_at w is.new_part) y.new;
      old_leads = ap (moved_from t.old (move_at v part)) r.old_leads ∙ moved-is t.old r.old (move_at v part) part y.old (some_from_IsNamed v (move_at v part) part own) is.old;
      new_leads = ap (moved_from t.new (move_at v part)) r.new_leads ∙ moved-is t.new r.new (move_at v part) is.new_part y.new there is.new;
      opened = (r.opened, goes-on t r.root r.moves r.old r.new r.old_leads r.new_leads is.unmarked is.partners.compared);
      is = ap mk (sym is.way);
    }

pub read : Laws → (t : Task) → IsGraph t.old → (p : Path) (x : Triple) → PathLeadsTo t p x → IsAccessed t x
read laws t graph (From export) x (k, root, typed, e, is) = record {
  root = root;
  export = k;
  typed = typed;
  moves = Stay;
  old = start root.old;
  new = start root.new;
  old_leads = refl;
  new_leads = refl;
  opened = tt;
  is = sym is;
}
read laws t graph (Onward p part) y (x, leads, stepped) =
    let r = read laws t graph p x leads in
    let here : step t (triple_at r.old r.new) part ≡ Some y = subst (λ (z : Triple). step t z part ≡ Some y) (sym r.is) stepped in
    further laws t graph x y part r ((laws.steps t (triple_at r.old r.new) y part).0 here)

-- ---- where moves stay beside each other

pub stays-beside : (t : Task) (root : PlainRoot) (moves : Moves) (old new : Spot) → old_spot t root moves ≡ Some old → new_spot t root moves ≡ Some new → StaysBeside t root moves → (old.bit ≡ new.bit) × (old.width ≡ new.width)
stays-beside t root Stay old new old_leads new_leads stays =
    let one = same_Some (start root.old) old old_leads in
    let other = same_Some (start root.new) new new_leads in
    (sym (ap (λ (s : Spot). s.bit) one) ∙ ap (λ (s : Spot). s.bit) other, sym (ap (λ (s : Spot). s.width) one) ∙ ap (λ (s : Spot). s.width) other)
stays-beside t root (Then moves move) old new old_leads new_leads stays =
    let at = stays.1 in
    let one = same_Some at.old old (sym at.old_leads ∙ old_leads) in
    let other = same_Some at.new new (sym at.new_leads ∙ new_leads) in
    (sym (ap (λ (s : Spot). s.bit) one) ∙ at.bits ∙ ap (λ (s : Spot). s.bit) other, sym (ap (λ (s : Spot). s.width) one) ∙ at.widths ∙ ap (λ (s : Spot). s.width) other)

-- ---- a break is missed

disagreeing : (t : Task) (x : Triple) (r : IsAccessed t x) → is_marked t r.old.node r.old.way ≡ false → (Agree (view_at t.old r.old.node) (view_at t.new r.new.node) → ⊥) → Lands t r.root r.moves → ⊥
disagreeing t x r unmarked disagree lands =
    let one : lands.old ≡ r.old = same_Some lands.old r.old (sym lands.old_leads ∙ r.old_leads) in
    let other : lands.new ≡ r.new = same_Some lands.new r.new (sym lands.new_leads ∙ r.new_leads) in
    let agree = lands.agree (subst (λ (s : Spot). is_marked t s.node s.way ≡ false) (sym one) unmarked) in
    disagree (subst (λ (s : Spot). Agree (view_at t.old r.old.node) (view_at t.new s.node)) other (subst (λ (s : Spot). Agree (view_at t.old s.node) (view_at t.new lands.new.node)) one agree))

-- the access with one more step to a member
member-access : (t : Task) → IsGraph t.old → (x : Triple) (r : IsAccessed t x) (i : ℕ) → is_marked t r.old.node r.old.way ≡ false → MemberBreaks (view_at t.old r.old.node) (view_at t.new r.new.node) i
    → IsOpenAccess t r.root (Then r.moves (move_at (view_at t.old r.old.node) i))
member-access t graph x r i unmarked broken =
    let v = view_at t.old r.old.node in
    let named_to = member-names (part_at v i) broken.member in
    let own : IsNamed v (move_at v i) i = named-own v i named_to.0 (graph.forms r.old.node).parts named_to.1 in
    record {
      export = r.export;
      typed = r.typed;
      spot = beyond r.old (part_at v i) named_to.0;
      leads = ap (moved_from t.old (move_at v i)) r.old_leads ∙ moved-is t.old r.old (move_at v i) i named_to.0 (some_from_IsNamed v (move_at v i) i own) named_to.1;
      opened = (r.opened, goes-on t r.root r.moves r.old r.new r.old_leads r.new_leads unmarked broken.compared);
    }

same-more : (a b m n : ℕ) → a ≡ b → a + m ≡ b + n → m ≡ n
same-more a b m n e f = omega arith

-- it does not land
member-missed : Laws → (t : Task) → IsGraph t.old → (x : Triple) (r : IsAccessed t x) (i : ℕ) → MemberBreaks (view_at t.old r.old.node) (view_at t.new r.new.node) i
    → Lands t r.root (Then r.moves (move_at (view_at t.old r.old.node) i)) → ⊥
member-missed laws t graph x r i broken lands =
    let v = view_at t.old r.old.node in
    let w = view_at t.new r.new.node in
    let move = move_at v i in
    let named_to = member-names (part_at v i) broken.member in
    let own : IsNamed v move i = named-own v i named_to.0 (graph.forms r.old.node).parts named_to.1 in
    let at = lands.beside.1 in
    let old_leads : moved t.old r.old move ≡ Some at.old = sym (ap (moved_from t.old move) r.old_leads) ∙ at.old_leads in
    let new_leads : moved t.new r.new move ≡ Some at.new = sym (ap (moved_from t.new move) r.new_leads) ∙ at.new_leads in
    let old_at : beyond r.old (part_at v i) named_to.0 ≡ at.old =
    same_Some (beyond r.old (part_at v i) named_to.0) at.old (sym (moved-is t.old r.old move i named_to.0 (some_from_IsNamed v move i own) named_to.1) ∙ old_leads) in
    let new_at = moved-some t.new r.new move at.new new_leads in
    let matched : match_of v w i ≡ Some new_at.part = sym (named-match v w move i own) ∙ new_at.is in
    let alike = ((laws.found v w i new_at.part).0 matched).alike in
    let member = member-like (part_at v i) (part_at w new_at.part) alike broken.member in
    let beside = stays-beside t r.root r.moves r.old r.new r.old_leads r.new_leads lands.beside.0 in
    let old_bit : at.old.bit ≡ r.old.bit + bit_at v i = sym (ap (λ (s : Spot). s.bit) old_at) ∙ displaced-member (part_at v i) r.old.bit broken.member in
    let new_bit : at.new.bit ≡ r.new.bit + bit_at w new_at.part = sym (ap (λ (s : Spot). s.bit) new_at.leads) ∙ displaced-member (part_at w new_at.part) r.new.bit member in
    let bits : bit_at v i ≡ bit_at w new_at.part = same-more r.old.bit r.new.bit (bit_at v i) (bit_at w new_at.part) beside.0 (sym old_bit ∙ at.bits ∙ new_bit) in
    let widths : width_at v i ≡ width_at w new_at.part = ap (λ (s : Spot). s.width) old_at ∙ at.widths ∙ sym (ap (λ (s : Spot). s.width) new_at.leads) in
    broken.unmatched new_at.part matched bits widths

pub missed : Laws → (t : Task) → IsGraph t.old → (p : Path) (x : Triple) (b : Broken) → PathLeadsTo t p x → is_marked t x.old x.way ≡ false → Contains (breaks_of t x) b → Misses t
missed laws t graph p x b leads unmarked_x there_x =
    let r = read laws t graph p x leads in
    let unmarked : is_marked t r.old.node r.old.way ≡ false = subst (λ (z : Triple). is_marked t z.old z.way ≡ false) (sym r.is) unmarked_x in
    let there : Contains (breaks (view_at t.old r.old.node) (view_at t.new r.new.node)) b = subst (λ (z : Triple). Contains (breaks_of t z) b) (sym r.is) there_x in
    elim (break_cases laws (view_at t.old r.old.node) (view_at t.new r.new.node) b there) [
      | inl disagree ↦
          record {
            root = r.root;
            moves = r.moves;
            access = record { export = r.export; typed = r.typed; spot = r.old; leads = r.old_leads; opened = r.opened };
            fails = disagreeing t x r unmarked disagree;
          }
      | inr broken ↦
          record {
            root = r.root;
            moves = Then r.moves (move_at (view_at t.old r.old.node) b.part);
            access = member-access t graph x r b.part unmarked broken;
            fails = member-missed laws t graph x r b.part broken;
          }
    ]

-- what is missed does not all land
pub none-missed : Laws → (t : Task) → IsGraph t.old → AllLand t → (p : Path) (x : Triple) → PathLeadsTo t p x → is_marked t x.old x.way ≡ false → breaks_of t x ≡ []
none-missed laws t graph land p x leads unmarked = go (breaks_of t x) refl where
  go : (bs : List Broken) → breaks_of t x ≡ bs → breaks_of t x ≡ []
  go [] e = e
  go (b ∷ bs) e =
      let first : Contains (b ∷ bs) b = (0, omega arith, refl) in
      let m = missed laws t graph p x b leads unmarked (subst (λ (xs : List Broken). Contains xs b) (sym e) first) in
      absurd (m.fails (land m.root m.moves m.access))
