use Rattle.std.proofs.Common.{◌≡◌, ◌+◌, ◌<◌, ◌∙◌, [], true, false, None, length, get_or, sym, ap, arith}
use Rattle.std.proofs.lemmas.List.{get_or-map, length-map}
use Rattle.std.proofs.lemmas.List.Sums.{count_by_more_yes, count_by_more_no}
use Rattle.abi_types.specs.Plain.{plain_exports}
use Rattle.elf.specs.symbols.Plain.{plain_symbols}
use Rattle.app_check.specs.Imports.{PlainImport}
use Rattle.app_check.specs.Links.{is_bound, is_missed}
use Rattle.app_check.specs.Plain.{plain_import, plain_imports}
use Rattle.app_check.proofs.LinksLemmas.{texts, bound_here, names_bound, names_unmissed, names_missed}
use Rattle.app_check.proofs.linking.links_of.Goals as goal
use Rattle.app_check.proofs.linking.links_of.Goals.{then-is_some, else-is_some+then-is_missed+in_ok-push, else-is_some+else-is_missed}

pub loop-index-preserved : goal.loop-index-preserved
loop-index-preserved c =
    let imports = c.args.imports.now in
    let xs = plain_imports imports in
    let i = c.loop-index.index in
    let exports = plain_exports c.args.exports.now in
    let symbols = plain_symbols c.args.symbols.now in
    let d : PlainImport = record { symbol = 0; name = []; need = None } in
    let inside : i < length xs = omega (arith, length-map imports plain_import, c.loop-index-test.true) in
    let here : c.is_some.result ≡ is_bound exports (get_or xs i d) =
    c.is_some.ensures ∙ bound_here xs i d inside symbols exports c.as_slice-places.result.now _ (c.as_slice-places.ensures ∙ c.in_ok-places.ensures.read) in
    elim c.if-is_some.branch [
      | then-is_some w ↦
          let yes : is_bound exports (get_or xs i d) ≡ true = sym here ∙ w.if-is_some.true in
          record {
            bound = w.bound-is ∙ ap (λ n. n + 1) c.loop-index.invariant.bound ∙ sym (count_by_more_yes (is_bound exports) xs i d inside yes);
            few = omega (arith, w.bound-is, c.loop-index.invariant.few);
            lacking = ap (λ v. texts v.items) w.lacking-is ∙ c.loop-index.invariant.lacking ∙ sym (names_bound xs i d inside symbols exports yes);
          }
      | else-is_some+then-is_missed+in_ok-push w ↦
          let no : is_bound exports (get_or xs i d) ≡ false = sym here ∙ w.if-is_some.false in
          let same = get_or-map plain_import imports i _ d c.loop-index-test.true in
          let missed : is_missed symbols (get_or xs i d) ≡ true = ap (is_missed symbols) same ∙ sym w.is_missed.ensures ∙ w.if-is_missed.true in
          record {
            bound = w.bound-is ∙ c.loop-index.invariant.bound ∙ sym (count_by_more_no (is_bound exports) xs i d inside no);
            few = omega (arith, w.bound-is, c.loop-index.invariant.few);
            lacking =
                names_missed xs i d inside symbols exports c.loop-index.lacking.items c.if-is_some.lacking.items _ no missed (sym (ap (λ (x : PlainImport). x.name) same))
                (ap (λ v. v.items) w.lacking-is ∙ w.in_ok-push.ensures.items) c.loop-index.invariant.lacking;
          }
      | else-is_some+else-is_missed w ↦
          let no : is_bound exports (get_or xs i d) ≡ false = sym here ∙ w.if-is_some.false in
          let missed : is_missed symbols (get_or xs i d) ≡ false = ap (is_missed symbols) (get_or-map plain_import imports i _ d c.loop-index-test.true) ∙ sym w.is_missed.ensures ∙ w.if-is_missed.false in
          record {
            bound = w.bound-is ∙ c.loop-index.invariant.bound ∙ sym (count_by_more_no (is_bound exports) xs i d inside no);
            few = omega (arith, w.bound-is, c.loop-index.invariant.few);
            lacking = ap (λ v. texts v.items) w.lacking-is ∙ c.loop-index.invariant.lacking ∙ sym (names_unmissed xs i d inside symbols exports no missed);
          }
    ]
