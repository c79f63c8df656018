-- What one node of each class tells of all others.
use Rattle.std.proofs.Common.{◌≡◌, ℕ, true, false, length, List, Option, None, refl, sym, ◌∙◌, ap, inl, inr, arith}
use Rattle.std.specs.Option.{option_map}
use Rattle.std.proofs.lemmas.Bool.{cases_Bool, cases_lt}
use Rattle.abi_types.specs.declared.kind.Way.{Way}
use Rattle.abi_types.specs.declared.kind.Way.TheVariants.{Direct, Pointer}
use Rattle.abi_types.specs.Types.{PlainNode, PlainView}
use Rattle.abi_types.specs.Graphs.{node_at, view_at}
use Rattle.pair_rules.specs.TypeRules.{breaks}
use Rattle.pair_rules.specs.Steps.{Triple, is_marked, breaks_of, step, next_of}
use Rattle.pair_rules.specs.Paths.{Path, From, Then, root_triple, PathLeadsTo}
use Rattle.abi_types.specs.ClassLooks.{Look, look_of, view_seen}
use Rattle.pair_rules.specs.Stable.{classed}
use Rattle.type_classes.specs.Classes.{PlainClasses, AreSound, rep_of}
use Rattle.pair_explorer.specs.Scopes.{Scope, rep, rep_step, LeadsByRep}
use Rattle.pair_explorer.specs.ByClass.{IsSound}
use Rattle.pair_explorer.proofs.Leading.{rep_step_of}
use Rattle.pair_rules.proofs.lemmas.Triples.{triple_eq}
use Rattle.pair_explorer.proofs.lemmas.Steps.{rep_step-parts}
use Rattle.pair_rules.proofs.lemmas.Steps.{step-from_next}
use Rattle.type_classes.proofs.lemmas.Reps.{rep_of-past}

-- what the law of rules says: rules and steps see of the nodes that parts name only which they are
pub record AreUnseen : Type 0 where
  pub breaks : (f g : ℕ → ℕ) (v w : PlainView) → breaks (view_seen f v) (view_seen g w) ≡ breaks v w
  pub steps : (f g : ℕ → ℕ) (v w : PlainView) (way : Way) (i : ℕ) → next_of (view_seen f v) (view_seen g w) way i ≡ option_map (classed f g) (next_of v w way i)

-- past the end each number stands for itself, so nodes and what is past them are never of one class
all_stable : (c : PlainClasses) → AreSound c → (a b : ℕ) → rep_of c a ≡ rep_of c b → look_of (rep_of c) (node_at c.nodes a) ≡ look_of (rep_of c) (node_at c.nodes b)
all_stable c sound a b e =
    elim (cases_lt a (length c.nodes)) [
      | inl a_in ↦ elim (cases_lt b (length c.nodes)) [
        | inl b_in ↦ sound.stable a b a_in b_in e
        | inr b_past ↦ let u = sound.inside a a_in in let v = rep_of-past c b sound b_past in absurd (omega arith)
      ]
      | inr a_past ↦ elim (cases_lt b (length c.nodes)) [
        | inl b_in ↦ let u = sound.inside b b_in in let v = rep_of-past c a sound a_past in absurd (omega arith)
        | inr b_past ↦ let same : a ≡ b = sym (rep_of-past c a sound a_past) ∙ e ∙ rep_of-past c b sound b_past in ap (λ (k : ℕ). look_of (rep_of c) (node_at c.nodes k)) same
      ]
    ]

-- nodes of one class look the same, apart from which nodes of one class their parts name
seen_same : (c : PlainClasses) (nodes : List PlainNode) (a b : ℕ) → AreSound c → c.nodes ≡ nodes → rep_of c a ≡ rep_of c b → view_seen (rep_of c) (view_at nodes a) ≡ view_seen (rep_of c) (view_at nodes b)
seen_same c nodes a b sound same e =
    let looks : view_seen (rep_of c) (view_at c.nodes a) ≡ view_seen (rep_of c) (view_at c.nodes b) = ap (λ (l : Look). l.view) (all_stable c sound a b e) in
    rw same at looks

module _ (unseen : AreUnseen) (s : Scope) (sound : IsSound s) where
  pub rep_twice : (x : Triple) → rep s (rep s x) ≡ rep s x
  rep_twice x = triple_eq (rep s (rep s x)) (rep s x) (sound.old.own x.old) (sound.new.own x.new) refl

  marked_at : (a b : ℕ) (way : Way) → rep_of s.old a ≡ rep_of s.old b → is_marked s.task a way ≡ is_marked s.task b way
  marked_at a b Direct e = sound.scope.direct.even a b e
  marked_at a b Pointer e = sound.scope.pointer.even a b e

  -- triples of the same classes, reached by the same way, are marked alike
  pub marked_same : (x y : Triple) → rep s x ≡ rep s y → is_marked s.task x.old x.way ≡ is_marked s.task y.old y.way
  marked_same x y e = marked_at x.old y.old x.way (ap (λ (z : Triple). z.old) e) ∙ ap (is_marked s.task y.old) (ap (λ (z : Triple). z.way) e)

  old_same : (x y : Triple) → rep s x ≡ rep s y → view_seen (rep_of s.old) (view_at s.task.old x.old) ≡ view_seen (rep_of s.old) (view_at s.task.old y.old)
  old_same x y e = seen_same s.old s.task.old x.old y.old sound.old sound.scope.nodes.old_nodes (ap (λ (z : Triple). z.old) e)

  new_same : (x y : Triple) → rep s x ≡ rep s y → view_seen (rep_of s.new) (view_at s.task.new x.new) ≡ view_seen (rep_of s.new) (view_at s.task.new y.new)
  new_same x y e = seen_same s.new s.task.new x.new y.new sound.new sound.scope.nodes.new_nodes (ap (λ (z : Triple). z.new) e)

  -- they break the same rules
  pub breaks_same : (x y : Triple) → rep s x ≡ rep s y → breaks_of s.task x ≡ breaks_of s.task y
  breaks_same x y e =
      sym (unseen.breaks (rep_of s.old) (rep_of s.new) (view_at s.task.old x.old) (view_at s.task.new x.new)) ∙ ap (λ v. breaks v (view_seen (rep_of s.new) (view_at s.task.new x.new))) (old_same x y e) ∙ ap (breaks (view_seen (rep_of s.old) (view_at s.task.old y.old))) (new_same x y e)
      ∙ unseen.breaks (rep_of s.old) (rep_of s.new) (view_at s.task.old y.old) (view_at s.task.new y.new)

  -- what the types of a triple lead to over representatives
  next : Triple → ℕ → Option Triple
  next x i = next_of (view_seen (rep_of s.old) (view_at s.task.old x.old)) (view_seen (rep_of s.new) (view_at s.task.new x.new)) x.way i

  next_same : (x y : Triple) (i : ℕ) → rep s x ≡ rep s y → next x i ≡ next y i
  unfolding next
  next_same x y i e =
      ap (λ v. next_of v (view_seen (rep_of s.new) (view_at s.task.new x.new)) x.way i) (old_same x y e) ∙ ap (λ w. next_of (view_seen (rep_of s.old) (view_at s.task.old y.old)) w x.way i) (new_same x y e)
      ∙ ap (λ (way : Way). next_of (view_seen (rep_of s.old) (view_at s.task.old y.old)) (view_seen (rep_of s.new) (view_at s.task.new y.new)) way i) (ap (λ (z : Triple). z.way) e)

  rep_step-marked : (x : Triple) (i : ℕ) → is_marked s.task x.old x.way ≡ true → rep_step s x i ≡ None
  unfolding rep_step step
  rep_step-marked x i marked = rw marked refl

  rep_step-unmarked : (x : Triple) (i : ℕ) → is_marked s.task x.old x.way ≡ false → rep_step s x i ≡ next x i
  unfolding rep_step next
  rep_step-unmarked x i unmarked = ap (option_map (rep s)) (step-from_next s.task x i unmarked) ∙ sym (unseen.steps (rep_of s.old) (rep_of s.new) (view_at s.task.old x.old) (view_at s.task.new x.new) x.way i)

  -- and they lead to the same representatives
  pub rep_step_same : (x y : Triple) (i : ℕ) → rep s x ≡ rep s y → rep_step s x i ≡ rep_step s y i
  rep_step_same x y i e =
      elim (cases_Bool (is_marked s.task x.old x.way)) [
        | inl marked ↦ rep_step-marked x i marked ∙ sym (rep_step-marked y i (sym (marked_same x y e) ∙ marked))
        | inr unmarked ↦ rep_step-unmarked x i unmarked ∙ next_same x y i e ∙ sym (rep_step-unmarked y i (sym (marked_same x y e) ∙ unmarked))
      ]

  -- a path over nodes is one over representatives
  pub goes : (path : Path) (x : Triple) → PathLeadsTo s.task path x → LeadsByRep s path (rep s x)
  goes (From export) x (k, root, at, is, e) = (k, root, at, is, ap (rep s) e)
  goes (Then path part) y (x, leads, stepped) = (rep s x, goes path x leads, rep_step_same (rep s x) x part (rep_twice x) ∙ rep_step_of s x y part stepped)

  -- and the other way round
  pub comes : (path : Path) (z : Triple) → LeadsByRep s path z → (x : Triple) × PathLeadsTo s.task path x × (rep s x ≡ z)
  comes (From export) z (k, root, at, is, e) = (root_triple root, (k, root, at, is, refl), sym e)
  comes (Then path part) z (y, leads, stepped) =
      let x = comes path y leads in
      let same : rep s x.0 ≡ rep s y = sym (rep_twice x.0) ∙ ap (rep s) x.2 in
      let to = rep_step-parts s x.0 z part (rep_step_same x.0 y part same ∙ stepped) in
      (to.to, (x.0, x.1, to.stepped), to.is)
