-- What is composed is accepted.
use Rattle.std.proofs.Common.{◌≡◌, ◌<◌, ◌&&◌, ◌||◌, ltb, not, ℕ, Bool, true, false, List, [], length, slice_get, Some, refl, sym, ◌∙◌, ap, subst}
use Rattle.std.specs.Prelude.{◌↔◌, IsSome, option_and_then}
use Rattle.std.specs.List.{Contains}
use Rattle.std.proofs.lemmas.Bool.{and_parts, and_from, ltb-true, lt-ltb}
use Rattle.std.proofs.lemmas.Option.{same_Some, slice_get_within, get_or_from_slice_get}
use Rattle.abi_base.proofs.lemmas.Options.{some_of}
use Rattle.abi_base.proofs.lemmas.Lists.{contains_at, at_contains}
use Rattle.abi_types.specs.declared.kind.Way.{Way}
use Rattle.abi_types.specs.declared.kind.Way.TheVariants.{Direct}
use Rattle.abi_types.specs.Types.{PlainView}
use Rattle.abi_types.specs.Exports.{PlainExport}
use Rattle.abi_types.specs.Forms.{HasForm}
use Rattle.abi_types.specs.Graphs.{IsGraph, node_at, node_of, view_at, part_at, to_of}
use Rattle.abi_types.specs.Limits.{symbol_limit}
use Rattle.pair_rules.specs.Same.{same_kind}
use Rattle.pair_rules.specs.TypeRules.{breaks}
use Rattle.pair_rules.specs.Partners.{IsPartner}
use Rattle.pair_rules.specs.Steps.{Task, Triple, step, IsStep}
use Rattle.pair_rules.specs.Closed.{IsClosed}
use Rattle.pair_rules.specs.Stable.{AreEven, is_inside, classed}
use Rattle.pair_rules.specs.Middles.{MeetInTheMiddle}
use Rattle.cert_text.specs.Certs.{PlainCert, PairLine}
use Rattle.cert_check.specs.Compatible.{Sides, IsCompared, bound, task_of, KeepsExport}
use Rattle.cert_check.specs.Accepted.{Case, IsAccepted, KeepsBinding, KeepsRules, KeepsAlike, KeepsRoot, KeepsRule, KeepsPartners, IsOf, is_line, rep, old_class, new_class, listed}
use Rattle.cert_check.specs.ProvedConditions.{KeepsAll}
use Rattle.cert_check.specs.Relation.{relation_of}
use Rattle.cert_check.specs.Unmarked.{MarkNothing}
use Rattle.cert_compose.specs.Chains.{PlainChain, IsChain, near, next, far, near_case, next_case, far_case}
use Rattle.cert_compose.specs.Composed.{IsThrough, IsJoined, IsComposed}
use Rattle.cert_compose.specs.Between.{NothingBetween, IsLink, BindsThrough, KeepsType}
use Rattle.abi_types.proofs.lemmas.Nodes.{node_of-is}
use Rattle.cert_compose.proofs.LineLemmas.{LineLaws, says, rep_own}
use Rattle.cert_check.proofs.lemmas.Lines.{rep-none}
use Rattle.cert_check.proofs.lemmas.Unmarked.{unmarked}
use Rattle.cert_check.proofs.lemmas.Exports.{bound_place}

-- what the laws below say
pub record Laws : Type 0 where
  pub lines : LineLaws
  pub keeps_all : (c : Case) → IsAccepted c ↔ KeepsAll c
  pub closed : (c : Case) → IsGraph c.sides.old.graph → IsGraph c.sides.new.graph → AreEven (task_of c.sides) → IsAccepted c → IsClosed (task_of c.sides) (relation_of c)
  pub steps : (t : Task) (x y : Triple) (i : ℕ) → (step t x i ≡ Some y) ↔ IsStep t x i y
  pub meet : (v u w : PlainView) (i j : ℕ) → HasForm v → HasForm u → u.declared_only ≡ false → breaks v u ≡ [] → IsPartner v w i j → MeetInTheMiddle v u w i j

-- ---- nothing is marked

pub even : (s : Sides) → MarkNothing s.marks → AreEven (task_of s)
even s m a b way below under same = unmarked s m a way ∙ sym (unmarked s m b way)

compared_at : (s : Sides) → MarkNothing s.marks → (k : ℕ) (e : PlainExport) → slice_get s.old.exports k ≡ Some e → IsCompared s k e
compared_at s m k e at = record { at = at; kept = m.exports k }

-- ---- what is related

-- two nodes and their line
pub record HasLine (c : Case) (x : Triple) : Type 0 where
  pub old : x.old < length c.sides.old.graph
  pub new : x.new < length c.sides.new.graph
  pub line : Contains c.cert.pairs (old_class c x.old, new_class c x.new, x.way)

pub related_from : LineLaws → (c : Case) (x : Triple) → HasLine c x → relation_of c x ≡ true
related_from laws c x h =
    and_from _ _ (and_from _ _ (lt-ltb x.old (length c.sides.old.graph) h.old) (lt-ltb x.new (length c.sides.new.graph) h.new))
    ((laws.pairs c.cert.pairs (old_class c x.old, new_class c x.new, x.way)).1 h.line)

pub related_parts : LineLaws → (c : Case) (x : Triple) → relation_of c x ≡ true → HasLine c x
related_parts laws c x e =
    let both = and_parts (is_inside (task_of c.sides) x) (listed c (classed (old_class c) (new_class c) x)) e in
    let inside = and_parts (ltb x.old (length c.sides.old.graph)) (ltb x.new (length c.sides.new.graph)) both.0 in
    record {
      old = ltb-true x.old (length c.sides.old.graph) inside.0;
      new = ltb-true x.new (length c.sides.new.graph) inside.1;
      line = (laws.pairs c.cert.pairs (old_class c x.old, new_class c x.new, x.way)).0 both.1;
    }

-- ---- small facts

-- where the outer two are compared, the middle one is no declaration
shown_middle : (a b d e : Bool) → (b && not a && not d) ≡ false → (e && not (a || d)) ≡ true → b ≡ false
shown_middle true b d e shown compared = absurd (not_both e compared) where
  not_both : (e : Bool) → (e && false) ≡ true → ⊥
  not_both true h = cc
  not_both false h = cc
shown_middle false b true e shown compared = absurd (not_both e compared) where
  not_both : (e : Bool) → (e && false) ≡ true → ⊥
  not_both true h = cc
  not_both false h = cc
shown_middle false true false e shown compared = absurd cc
shown_middle false false false e shown compared = refl

module _ (laws : Laws) (ch : PlainChain) (c : PlainCert) (chain : IsChain ch) (nothing : NothingBetween ch) (is : IsComposed ch c) where
  kept_one : KeepsAll (near_case ch)
  kept_one = (laws.keeps_all (near_case ch)).0 chain.one

  kept_other : KeepsAll (next_case ch)
  kept_other = (laws.keeps_all (next_case ch)).0 chain.other

  closed_one : IsClosed (task_of (near ch)) (relation_of (near_case ch))
  closed_one = laws.closed (near_case ch) chain.first_graph chain.middle_graph (even (near ch) chain.marks) chain.one

  closed_other : IsClosed (task_of (next ch)) (relation_of (next_case ch))
  closed_other = laws.closed (next_case ch) chain.middle_graph chain.last_graph (even (next ch) chain.onward) chain.other

  abbrev case : Case
  case = far_case ch c

  abbrev to_middle : Triple → ℕ → Triple
  to_middle x f = record { old = x.old; new = f; way = x.way }

  abbrev from_middle : Triple → ℕ → Triple
  from_middle x f = record { old = f; new = x.new; way = x.way }

  -- what an export binds to
  on_to : (e f g : PlainExport) → IsLink ch e f g → bound (next ch) f ≡ Some g
  on_to e f g link = ap (option_and_then (slice_get ch.last.exports)) link.other ∙ link.at

  far_to : (e f g : PlainExport) → IsLink ch e f g → bound (far ch) e ≡ Some g
  far_to e f g link = ap (option_and_then (slice_get ch.last.exports)) link.straight ∙ link.at

  -- ---- pair lines

  joined_at : (k : ℕ) (line : PairLine) → slice_get c.pairs k ≡ Some line → IsJoined ch line
  joined_at k line at = (is.pairs line).0 (contains_at c.pairs k line at)

  -- what is related through the middle library has a line
  joined_from : (x : Triple) (f : ℕ) → HasLine (near_case ch) (to_middle x f) → HasLine (next_case ch) (from_middle x f) → IsJoined ch (old_class (near_case ch) x.old, new_class (next_case ch) x.new, x.way)
  joined_from x f one other = record {
    old_own = rep_own laws.lines ch.first.graph ch.one.alike_old kept_one.alike_old (node_at ch.first.graph x.old).entry;
    new_own = rep_own laws.lines ch.last.graph ch.other.alike_new kept_other.alike_new (node_at ch.last.graph x.new).entry;
    node = f;
    inside = one.new;
    one = one.line;
    other = other.line;
  }

  -- the line of two representatives, as it is looked up
  far_line : (e g : ℕ) (way : Way) → IsJoined ch (rep ch.one.alike_old e, rep ch.other.alike_new g, way) → is_line c.pairs (rep c.alike_old e, rep c.alike_new g, way) ≡ true
  far_line e g way joined =
      subst (λ (ls : List (ℕ × ℕ)). is_line c.pairs (rep ls e, rep c.alike_new g, way) ≡ true) (sym is.alike_old)
      (subst (λ (ls : List (ℕ × ℕ)). is_line c.pairs (rep ch.one.alike_old e, rep ls g, way) ≡ true) (sym is.alike_new)
      ((laws.lines.pairs c.pairs (rep ch.one.alike_old e, rep ch.other.alike_new g, way)).1
      ((is.pairs (rep ch.one.alike_old e, rep ch.other.alike_new g, way)).1 joined)))

  module _ (line : PairLine) (j : IsJoined ch line) (x : Triple) (of : IsOf case line x) where
    old_is : (x.old < length ch.first.graph) × ((node_at ch.first.graph x.old).entry ≡ line.0)
    old_is = node_of-is ch.first.graph line.0 x.old of.old

    new_is : (x.new < length ch.last.graph) × ((node_at ch.last.graph x.new).entry ≡ line.1)
    new_is = node_of-is ch.last.graph line.1 x.new of.new

    old_itself : old_class (near_case ch) x.old ≡ line.0
    old_itself = ap (rep ch.one.alike_old) old_is.1 ∙ rep-none ch.one.alike_old line.0 j.old_own

    new_itself : new_class (next_case ch) x.new ≡ line.1
    new_itself = ap (rep ch.other.alike_new) new_is.1 ∙ rep-none ch.other.alike_new line.1 j.new_own

    one_line : HasLine (near_case ch) (to_middle x j.node)
    one_line = record {
      old = old_is.0;
      new = j.inside;
      line =
          subst (λ (e : ℕ). Contains ch.one.pairs (e, new_class (near_case ch) j.node, x.way)) (sym old_itself)
          (subst (λ (w : Way). Contains ch.one.pairs (line.0, new_class (near_case ch) j.node, w)) (sym of.way) j.one);
    }

    other_line : HasLine (next_case ch) (from_middle x j.node)
    other_line = record {
      old = j.inside;
      new = new_is.0;
      line =
          subst (λ (g : ℕ). Contains ch.other.pairs (old_class (next_case ch) j.node, g, x.way)) (sym new_itself)
          (subst (λ (w : Way). Contains ch.other.pairs (old_class (next_case ch) j.node, line.1, w)) (sym of.way) j.other);
    }

    one_related : relation_of (near_case ch) (to_middle x j.node) ≡ true
    one_related = related_from laws.lines (near_case ch) (to_middle x j.node) one_line

    other_related : relation_of (next_case ch) (from_middle x j.node) ≡ true
    other_related = related_from laws.lines (next_case ch) (from_middle x j.node) other_line

    type_kept : KeepsType ch x.old j.node x.new
    type_kept = nothing.types x.old j.node x.new x.way (record { one = one_related; other = other_related })

    abbrev v : PlainView
    v = view_at ch.first.graph x.old

    abbrev u : PlainView
    u = view_at ch.middle.graph j.node

    abbrev w : PlainView
    w = view_at ch.last.graph x.new

    unbroken : breaks v u ≡ []
    unbroken = closed_one.keeps (to_middle x j.node) one_related (unmarked (near ch) chain.marks x.old x.way)

    -- what the nodes of a line lead to
    module _ (y : Triple) (i : ℕ) (stepped : step (task_of (far ch)) x i ≡ Some y) where
      far_step : IsStep (task_of (far ch)) x i y
      far_step = (laws.steps (task_of (far ch)) x y i).0 stepped

      between : MeetInTheMiddle v u w i far_step.new_part
      between =
          laws.meet v u w i far_step.new_part (chain.first_graph.forms x.old) (chain.middle_graph.forms j.node)
          (shown_middle v.declared_only u.declared_only w.declared_only (same_kind v.kind w.kind) type_kept.shown far_step.partners.compared)
          unbroken far_step.partners

      there : (n : ℕ) × (to_of (part_at u between.between) ≡ Some n)
      there = some_of (to_of (part_at u between.between)) between.one.new_named

      one_led : relation_of (near_case ch) (to_middle y there.0) ≡ true
      one_led =
          closed_one.leads_on (to_middle x j.node) (to_middle y there.0) i one_related
          ((laws.steps (task_of (near ch)) (to_middle x j.node) (to_middle y there.0) i).1 (record {
            unmarked = unmarked (near ch) chain.marks x.old x.way;
            new_part = between.between;
            partners = between.one;
            old = far_step.old;
            new = there.1;
            way = far_step.way;
          }))

      other_led : relation_of (next_case ch) (from_middle y there.0) ≡ true
      other_led =
          closed_other.leads_on (from_middle x j.node) (from_middle y there.0) between.between other_related
          ((laws.steps (task_of (next ch)) (from_middle x j.node) (from_middle y there.0) between.between).1 (record {
            unmarked = unmarked (next ch) chain.onward j.node x.way;
            new_part = far_step.new_part;
            partners = between.other;
            old = there.1;
            new = far_step.new;
            way = far_step.way ∙ sym (between.way x.way);
          }))

      led : listed case (classed (old_class case) (new_class case) y) ≡ true
      led =
          far_line (node_at ch.first.graph y.old).entry (node_at ch.last.graph y.new).entry y.way
          (joined_from y there.0 (related_parts laws.lines (near_case ch) (to_middle y there.0) one_led) (related_parts laws.lines (next_case ch) (from_middle y there.0) other_led))

  partners_kept : (k : ℕ) → KeepsPartners case k
  partners_kept k line at x y i of stepped = led line (joined_at k line at) x of y i stepped

  rule_kept : (k : ℕ) → KeepsRule case k
  rule_kept k line at =
      let j = joined_at k line at in
      let one = at_contains ch.one.pairs (line.0, new_class (near_case ch) j.node, line.2) j.one in
      let other = at_contains ch.other.pairs (old_class (next_case ch) j.node, line.1, line.2) j.other in
      let here = kept_one.lines one.0 (line.0, new_class (near_case ch) j.node, line.2) one.1 in
      let there = kept_other.lines other.0 (old_class (next_case ch) j.node, line.1, line.2) other.1 in
      let x : Triple = record { old = here.triple.old; new = there.triple.new; way = line.2 } in
      let of : IsOf case line x = record { old = here.is.old; new = there.is.new; way = refl } in
      record { triple = x; is = of; keeps = λ unmarked. (type_kept line j x of).keeps }

  -- ---- exports

  root_kept : (k : ℕ) → KeepsRoot case k
  root_kept k e g compared binds typed typed' =
      let b = nothing.bindings k e compared.at in
      let same : b.partner ≡ g = same_Some b.partner g (sym (far_to e b.between b.partner b.link) ∙ binds) in
      let link : IsLink ch e b.between g = subst (λ (x : PlainExport). IsLink ch e b.between x) same b.link in
      let on = on_to e b.between g link in
      let middle = nothing.typed k e b.between g compared.at link typed typed' in
      let place = bound_place (near ch) e b.between b.link.one in
      let line = kept_one.roots k e b.between (compared_at (near ch) chain.marks k e compared.at) b.link.one typed middle in
      let line' = kept_other.roots place.0 b.between g (compared_at (next ch) chain.onward place.0 b.between place.1) on middle typed' in
      let found : IsSome (node_of ch.middle.graph b.between.entry) =
      subst (λ (f : PlainExport). IsSome (node_of ch.middle.graph f.entry)) (get_or_from_slice_get ch.middle.exports place.0 b.between b.between place.1)
      (chain.middle_library.entries place.0 b.between (slice_get_within ch.middle.exports place.0 b.between place.1)) in
      let node = some_of (node_of ch.middle.graph b.between.entry) found in
      let at = node_of-is ch.middle.graph b.between.entry node.0 node.1 in
      far_line e.entry g.entry Direct (record {
        old_own = rep_own laws.lines ch.first.graph ch.one.alike_old kept_one.alike_old e.entry;
        new_own = rep_own laws.lines ch.last.graph ch.other.alike_new kept_other.alike_new g.entry;
        node = node.0;
        inside = at.0;
        one =
            subst (λ (f : ℕ). Contains ch.one.pairs (rep ch.one.alike_old e.entry, rep ch.one.alike_new f, Direct)) (sym at.1)
            ((laws.lines.pairs ch.one.pairs (rep ch.one.alike_old e.entry, rep ch.one.alike_new b.between.entry, Direct)).0 line);
        other =
            subst (λ (f : ℕ). Contains ch.other.pairs (rep ch.other.alike_old f, rep ch.other.alike_new g.entry, Direct)) (sym at.1)
            ((laws.lines.pairs ch.other.pairs (rep ch.other.alike_old b.between.entry, rep ch.other.alike_new g.entry, Direct)).0 line');
      })

  through_at : (symbol k : ℕ) (e : PlainExport) → symbol < symbol_limit → IsCompared (far ch) k e → e.symbol ≡ symbol → (b : BindsThrough ch e) → IsThrough ch (symbol, b.partner.symbol)
  through_at symbol k e below compared is_symbol b =
      let place = bound_place (near ch) e b.between b.link.one in
      let one = (kept_one.bindings symbol below).bound k e (compared_at (near ch) chain.marks k e compared.at) is_symbol in
      let other = (kept_other.bindings b.between.symbol (chain.middle_library.numbered.below place.0 b.between place.1)).bound place.0 b.between (compared_at (next ch) chain.onward place.0 b.between place.1) refl in
      let same : one.partner ≡ b.between = same_Some one.partner b.between (sym one.binds ∙ b.link.one) in
      let same' : other.partner ≡ b.partner = same_Some other.partner b.partner (sym other.binds ∙ on_to e b.between b.partner b.link) in
      record {
        symbol = b.between.symbol;
        one = laws.lines.found ch.one.binds symbol b.between.symbol (one.says ∙ ap (λ (f : PlainExport). Some f.symbol) same);
        other = laws.lines.found ch.other.binds b.between.symbol b.partner.symbol (other.says ∙ ap (λ (f : PlainExport). Some f.symbol) same');
      }

  binding_kept : (symbol : ℕ) → symbol < symbol_limit → KeepsBinding case symbol
  binding_kept symbol below = record {
    bound = λ k e compared is_symbol.
        let b = nothing.bindings k e compared.at in
        record {
          partner = b.partner;
          binds = far_to e b.between b.partner b.link;
          says = says laws.lines c.binds is.cert.binds symbol b.partner.symbol ((is.binds (symbol, b.partner.symbol)).1 (through_at symbol k e below compared is_symbol b));
        };
    owned = λ j line.
        let through = (is.binds (symbol, j)).0 (laws.lines.found c.binds symbol j line) in
        let own = (kept_one.bindings symbol below).owned through.symbol (says laws.lines ch.one.binds chain.one_cert.binds symbol through.symbol through.one) in
        (own.0, own.1, compared_at (far ch) chain.marks own.0 own.1 own.2.at, own.3);
  }

  rules_kept : (k : ℕ) → KeepsRules case k
  rules_kept k e g compared binds =
      let b = nothing.bindings k e compared.at in
      subst (λ (x : PlainExport). KeepsExport e x) (same_Some b.partner g (sym (far_to e b.between b.partner b.link) ∙ binds)) (nothing.rules k e b.between b.partner compared.at b.link)

  -- ---- alike lines

  old_kept : (k : ℕ) → KeepsAlike ch.first.graph c.alike_old k
  old_kept k = subst (λ (ls : List (ℕ × ℕ)). KeepsAlike ch.first.graph ls k) (sym is.alike_old) (kept_one.alike_old k)

  new_kept : (k : ℕ) → KeepsAlike ch.last.graph c.alike_new k
  new_kept k = subst (λ (ls : List (ℕ × ℕ)). KeepsAlike ch.last.graph ls k) (sym is.alike_new) (kept_other.alike_new k)

  pub all_kept : KeepsAll case
  all_kept = record {
    old_digest = is.old_digest;
    new_digest = is.new_digest;
    rules_digest = is.rules_digest;
    sonames = kept_one.sonames ∙ kept_other.sonames;
    bindings = binding_kept;
    rules = rules_kept;
    alike_old = old_kept;
    alike_new = new_kept;
    roots = root_kept;
    lines = rule_kept;
    partners = partners_kept;
  }

  pub accepted : IsAccepted case
  accepted = (laws.keeps_all case).1 all_kept
