-- What one triple of each class tells of all others.
use Rattle.std.proofs.Common.{◌≡◌, ℕ, Bool, true, false, Option, Some, None, refl, sym, ◌∙◌, ap}
use Rattle.std.specs.Option.{option_map}
use Rattle.std.proofs.lemmas.Bool.{and_parts, and_from}
use Rattle.std.proofs.lemmas.Option.{same_Some, none-some}
use Rattle.abi_types.specs.declared.kind.Way.{Way}
use Rattle.abi_types.specs.Graphs.{node_at, view_at}
use Rattle.abi_types.specs.ClassLooks.{Look, look_of, view_seen}
use Rattle.pair_rules.specs.TypeRules.{breaks}
use Rattle.pair_rules.specs.Steps.{Task, Triple, is_marked, breaks_of, step, next_of}
use Rattle.pair_rules.specs.Closed.{IsClosed}
use Rattle.pair_rules.proofs.Leading.{step-parts, step-inside}
use Rattle.pair_rules.specs.Stable.{AreClasses, IsInside, is_inside, classed, StandsFor, related, LeadsLike}
use Rattle.pair_rules.proofs.Unseen.{next_of-seen}
use Rattle.pair_rules.proofs.BreaksUnseen.{breaks-seen}
use Rattle.pair_rules.proofs.lemmas.Triples.{IsInside-from, is_inside-from}
use Rattle.pair_rules.proofs.lemmas.Steps.{step-from_next}

module _ (t : Task) (old new : ℕ → ℕ) (classes : AreClasses t old new) where
  old_same : (x y : Triple) → IsInside t x → IsInside t y → classed old new x ≡ classed old new y → look_of old (node_at t.old x.old) ≡ look_of old (node_at t.old y.old)
  old_same x y inside there e = classes.old_stable x.old y.old inside.old there.old (ap (λ (z : Triple). z.old) e)

  new_same : (x y : Triple) → IsInside t x → IsInside t y → classed old new x ≡ classed old new y → look_of new (node_at t.new x.new) ≡ look_of new (node_at t.new y.new)
  new_same x y inside there e = classes.new_stable x.new y.new inside.new there.new (ap (λ (z : Triple). z.new) e)

  -- triples of the same classes are marked alike
  pub marked_same : (x y : Triple) → IsInside t x → IsInside t y → classed old new x ≡ classed old new y → is_marked t x.old x.way ≡ is_marked t y.old y.way
  marked_same x y inside there e =
      classes.even x.old y.old x.way inside.old there.old (ap (λ (l : Look). l.labels) (old_same x y inside there e)) ∙ ap (is_marked t y.old) (ap (λ (z : Triple). z.way) e)

  -- they break the same rules
  pub breaks_same : (x y : Triple) → IsInside t x → IsInside t y → classed old new x ≡ classed old new y → breaks_of t x ≡ breaks_of t y
  breaks_same x y inside there e =
      sym (breaks-seen old new (view_at t.old x.old) (view_at t.new x.new))
      ∙ ap (λ (l : Look). breaks l.view (view_seen new (view_at t.new x.new))) (old_same x y inside there e)
      ∙ ap (λ (l : Look). breaks (view_seen old (view_at t.old y.old)) l.view) (new_same x y inside there e)
      ∙ breaks-seen old new (view_at t.old y.old) (view_at t.new y.new)

  -- what a triple leads to, in classes
  next_same : (x y : Triple) (i : ℕ) → IsInside t x → IsInside t y → classed old new x ≡ classed old new y
      → option_map (classed old new) (next_of (view_at t.old x.old) (view_at t.new x.new) x.way i) ≡ option_map (classed old new) (next_of (view_at t.old y.old) (view_at t.new y.new) y.way i)
  next_same x y i inside there e =
      sym (next_of-seen old new (view_at t.old x.old) (view_at t.new x.new) x.way i)
      ∙ ap (λ (l : Look). next_of l.view (view_seen new (view_at t.new x.new)) x.way i) (old_same x y inside there e)
      ∙ ap (λ (l : Look). next_of (view_seen old (view_at t.old y.old)) l.view x.way i) (new_same x y inside there e)
      ∙ ap (λ (way : Way). next_of (view_seen old (view_at t.old y.old)) (view_seen new (view_at t.new y.new)) way i) (ap (λ (z : Triple). z.way) e)
      ∙ next_of-seen old new (view_at t.old y.old) (view_at t.new y.new) y.way i

  -- a step from one is a step from the other, to a triple of the same classes
  step_of : (x z : Triple) (i : ℕ) → is_marked t x.old x.way ≡ false → option_map (classed old new) (next_of (view_at t.old x.old) (view_at t.new x.new) x.way i) ≡ Some (classed old new z) → LeadsLike t old new x i z
  step_of x z i unmarked e = go (next_of (view_at t.old x.old) (view_at t.new x.new) x.way i) refl e where
    go : (o : Option Triple) → next_of (view_at t.old x.old) (view_at t.new x.new) x.way i ≡ o → option_map (classed old new) o ≡ Some (classed old new z) → LeadsLike t old new x i z
    go None is h = absurd (none-some (classed old new z) h)
    go (Some y) is h = record { to = y; stepped = step-from_next t x i unmarked ∙ is; is = same_Some (classed old new y) (classed old new z) h }

  pub step_same : (x y z : Triple) (i : ℕ) → IsInside t x → IsInside t y → classed old new x ≡ classed old new y → step t y i ≡ Some z → LeadsLike t old new x i z
  step_same x y z i inside there e stepped =
      let parts = step-parts t y z i stepped in
      step_of x z i (marked_same x y inside there e ∙ parts.0) (next_same x y i inside there e ∙ ap (option_map (classed old new)) parts.1)

  pub closed_by_classes : (listed : Triple → Bool) → ((x : Triple) → IsInside t x → listed (classed old new x) ≡ true → StandsFor t old new listed x) → IsClosed t (related t old new listed)
  closed_by_classes listed stands = record {
    keeps = λ x is unmarked.
        let both = and_parts (is_inside t x) (listed (classed old new x)) is in
        let inside = IsInside-from t x both.0 in
        let stand = stands x inside both.1 in
        breaks_same x stand.triple inside stand.inside (sym stand.is) ∙ stand.keeps (marked_same stand.triple x stand.inside inside stand.is ∙ unmarked);
    leads_on = λ x y i is stepped.
        let both = and_parts (is_inside t x) (listed (classed old new x)) is in
        let inside = IsInside-from t x both.0 in
        let stand = stands x inside both.1 in
        let led = step_same stand.triple x y i stand.inside inside stand.is stepped in
        let there = step-inside t x y i classes.old_graph classes.new_graph stepped in
        and_from _ _ (is_inside-from t y there) (ap listed (sym led.is) ∙ stand.leads_on led.to i led.stepped);
  }
