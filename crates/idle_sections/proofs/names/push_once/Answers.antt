-- The set has the name that is added, under the number of its kind.
use Rattle.std.proofs.Common.{◌≡◌, ◌∷◌, ◌++◌, [], List, ap, map, subst, sym, ◌∙◌}
use Rattle.std.proofs.lemmas.List.{map-append}
use Rattle.abi_types.specs.Plain.{plain_label}
use Rattle.abi_types.specs.Types.{PlainLabel}
use Rattle.idle_sections.specs.Names.{AreSeen}
use Rattle.idle_sections.proofs.NameLemmas.{seen_more}
use Rattle.idle_sections.proofs.names.push_once.Goals as goal

pub returns-clause-seen : goal.returns-clause-seen
returns-clause-seen c =
    let l = plain_label c.args.label.now in
    let names = map plain_label c.args.names.now.items in
    let grown : map plain_label c.push.new.self.items ≡ names ++ l ∷ [] = ap (map plain_label) c.in_ok-push.ensures.items ∙ map-append plain_label c.args.names.now.items (c.args.label.now ∷ []) in
    subst (λ (ls : List PlainLabel). AreSeen c.insert.new.self ls) (sym grown)
    (seen_more c.args.seen.now c.insert.new.self names l c.kind_number.result c.requires c.kind_number.ensures c.in_ok-insert.ensures.updates.0)
