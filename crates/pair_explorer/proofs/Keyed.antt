-- The keys of visited triples, as one more visit is added.
use Rattle.std.proofs.Common.{◌≡◌, ◌==◌, ◌&&◌, Bool, true, false, cond, List, [], ◌∷◌, ◌++◌, not, refl, sym, ◌∙◌, ap}
use Rattle.std.specs.BTreeSet.{BTreeSet, IsEmpty, IsUnchanged, contains}
use Rattle.std.specs.Bool.{OnFalse, beq}
use Rattle.std.specs.Cmp.{both_tied, nat_eq_equiv, unsigned_ties}
use Rattle.std.specs.List.{list_any}
use Rattle.std.specs.Ordering.{bool_cmp, is_eq, nat_cmp, ordering_then}
use Rattle.std.proofs.lemmas.List.Folds.{list_any-append}
use Rattle.abi_base.proofs.lemmas.Bools.{cond_last}
use Rattle.pair_rules.specs.Steps.{Triple, is_pointer}
use Rattle.pair_explorer.specs.declared.visits.Visit.{Visit}
use Rattle.pair_explorer.specs.Adding.{added}
use Rattle.pair_explorer.specs.Keys.{AreKnown, Key, key_cmp, key_of}
use Rattle.pair_explorer.specs.Visits.{has, same_triple, same_way, seen}

-- ---- equal keys

bool_tied : (a b : Bool) → beq a b ≡ is_eq (bool_cmp a b)
bool_tied true true = refl
bool_tied true false = refl
bool_tied false true = refl
bool_tied false false = refl

beq-turned : (a b : Bool) → beq a b ≡ beq b a
beq-turned true true = refl
beq-turned true false = refl
beq-turned false true = refl
beq-turned false false = refl

-- keys compare equal exactly where their triples are the same
key_tied : (x y : Triple) → same_triple x y ≡ is_eq (key_cmp (key_of x) (key_of y))
key_tied x y =
    both_tied (x.old == y.old && x.new == y.new) (same_way x.way y.way) (ordering_then (nat_cmp x.old y.old) (nat_cmp x.new y.new)) (bool_cmp (is_pointer x.way) (is_pointer y.way))
    (both_tied (x.old == y.old) (x.new == y.new) (nat_cmp x.old y.old) (nat_cmp x.new y.new) (unsigned_ties x.old y.old) (unsigned_ties x.new y.new)) (bool_tied (is_pointer x.way) (is_pointer y.way))

same_triple-turned : (x y : Triple) → same_triple x y ≡ same_triple y x
same_triple-turned x y =
    ap (λ (b : Bool). b && x.new == y.new && same_way x.way y.way) (nat_eq_equiv.symm x.old y.old)
    ∙ ap (λ (b : Bool). y.old == x.old && b && same_way x.way y.way) (nat_eq_equiv.symm x.new y.new)
    ∙ ap (λ (b : Bool). y.old == x.old && y.new == x.new && b) (beq-turned (is_pointer x.way) (is_pointer y.way))

-- ---- one more visit

not_true : (b : Bool) → true ≡ not b → b ≡ false
not_true true e = absurd cc
not_true false e = refl

not_false : (b : Bool) → false ≡ not b → b ≡ true
not_false true e = refl
not_false false e = absurd cc

pub AreKnown-none : (known : BTreeSet Key) (visits : List Visit) → IsEmpty known → visits ≡ [] → AreKnown known visits
unfolding has
AreKnown-none known visits empty none = rw none (record { each = λ x. ap (λ (ks : List Key). list_any (λ k. is_eq (key_cmp (key_of x) k)) ks) empty })

-- what a set says after a key is put in
abbrev pub Puts : BTreeSet Key → BTreeSet Key → Key → Type 0
Puts known next key = (q : Key) → contains key_cmp next q ≡ cond (is_eq (key_cmp key q)) true (contains key_cmp known q)

module _ (known next : BTreeSet Key) (v : Visit) (key : Key) (is_new : Bool) (is : key ≡ key_of (seen v)) (tells : is_new ≡ not (contains key_cmp known key)) (visits : List Visit) (were : AreKnown known visits) where
  pub is_new-has : is_new ≡ not (has visits (seen v))
  is_new-has = tells ∙ ap (λ (k : Key). not (contains key_cmp known k)) is ∙ ap not (were.each (seen v))

  module _ (puts : Puts known next key) (fresh : has visits (seen v) ≡ false) where
    each_new : (x : Triple) → contains key_cmp next (key_of x) ≡ has (added visits v) x
    unfolding has added
    each_new x =
        let turned : is_eq (key_cmp key (key_of x)) ≡ same_triple x (seen v) = ap (λ (k : Key). is_eq (key_cmp k (key_of x))) is ∙ sym (key_tied (seen v) x) ∙ same_triple-turned (seen v) x in
        puts (key_of x) ∙ ap (λ (b : Bool). cond b true (contains key_cmp known (key_of x))) turned ∙ ap (λ (b : Bool). cond (same_triple x (seen v)) true b) (were.each x)
        ∙ cond_last (same_triple x (seen v)) (has visits x) ∙ sym (list_any-append (λ (u : Visit). same_triple x (seen u)) visits (v ∷ []))
        ∙ ap (λ (b : Bool). has (cond b visits (visits ++ v ∷ [])) x) (sym fresh)

  pub AreKnown-put : OnFalse is_new (IsUnchanged known next) → Puts known next key → AreKnown next (added visits v)
  unfolding added
  AreKnown-put stays puts = go is_new is_new-has stays
    where
      there : (next.keys ≡ known.keys) → has visits (seen v) ≡ true → AreKnown next (added visits v)
      there same old = record {
        each = λ x.
            ap (λ (ks : List Key). list_any (λ k. is_eq (key_cmp (key_of x) k)) ks) same ∙ were.each x
            ∙ ap (λ (b : Bool). has (cond b visits (visits ++ v ∷ [])) x) (sym old);
      }

      go : (b : Bool) → b ≡ not (has visits (seen v)) → OnFalse b (IsUnchanged known next) → AreKnown next (added visits v)
      go true e s = record { each = each_new puts (not_true (has visits (seen v)) e) }
      go false e s = there s (not_false (has visits (seen v)) e)

-- a new triple goes last
pub added-new : (visits items reserved more : List Visit) (v : Visit) (is_new : Bool) → items ≡ visits → reserved ≡ items → is_new ≡ not (has items (seen v)) → is_new ≡ true → more ≡ reserved ++ v ∷ [] → more ≡ added visits v
unfolding added
added-new visits items reserved more v is_new is kept tells so pushed =
    let fresh : has visits (seen v) ≡ false = sym (ap (λ (us : List Visit). has us (seen v)) is) ∙ not_true (has items (seen v)) (sym so ∙ tells) in
    pushed ∙ ap (λ (us : List Visit). us ++ v ∷ []) (kept ∙ is) ∙ ap (λ (b : Bool). cond b visits (visits ++ v ∷ [])) (sym fresh)

-- one that is known changes nothing
pub added-there : (visits items reserved : List Visit) (v : Visit) (is_new : Bool) → items ≡ visits → reserved ≡ items → is_new ≡ not (has items (seen v)) → is_new ≡ false → reserved ≡ added visits v
unfolding added
added-there visits items reserved v is_new is kept tells not_so =
    let old : has visits (seen v) ≡ true = sym (ap (λ (us : List Visit). has us (seen v)) is) ∙ not_false (has items (seen v)) (sym not_so ∙ tells) in
    kept ∙ is ∙ ap (λ (b : Bool). cond b visits (visits ++ v ∷ [])) (sym old)
