use Rattle.std.proofs.Common.{◌∙◌, ap, map}
use Rattle.std.specs.Prelude.{codes}
use Rattle.commands.specs.Commands.{items_of}
use Rattle.document_head.specs.Heads.{command_word}
use Rattle.document_head.specs.Inputs.{shown_of}
use Rattle.document_head.proofs.OtherMembers.{inputs_member, missing_member, notes_member, places_member, side_notes_member, types_member}
use Rattle.document_head.proofs.HeadLemmas.{answer_member, command_member, fault_member, format_member, status_member, text_member, untyped_member}
use Rattle.serde_json.specs.Find.{get}
use Rattle.serde_json.specs.View.{members_view, view}
use Rattle.document_head.proofs.head.head_of.Goals as goal

pub returns-clause-format : goal.returns-clause-format
returns-clause-format c =
    ap (get (codes "format")) c.in_ok-with_ending.ensures
    ∙ format_member (command_word (map (λ word. word.now) c.args.ending.now.words.now)) c.args.ending.now.outcome (view c.in_ok-text.text) (members_view c.put_inputs.new.head.entries)

pub returns-clause-command : goal.returns-clause-command
returns-clause-command c =
    ap (get (codes "command")) c.in_ok-with_ending.ensures
    ∙ command_member (command_word (map (λ word. word.now) c.args.ending.now.words.now)) c.args.ending.now.outcome (view c.in_ok-text.text) (members_view c.put_inputs.new.head.entries)

pub returns-clause-answer : goal.returns-clause-answer
returns-clause-answer c =
    ap (get (codes "answer")) c.in_ok-with_ending.ensures
    ∙ answer_member (command_word (map (λ word. word.now) c.args.ending.now.words.now)) c.args.ending.now.outcome (view c.in_ok-text.text) (members_view c.put_inputs.new.head.entries)

pub returns-clause-status : goal.returns-clause-status
returns-clause-status c =
    ap (get (codes "status")) c.in_ok-with_ending.ensures
    ∙ status_member (command_word (map (λ word. word.now) c.args.ending.now.words.now)) c.args.ending.now.outcome (view c.in_ok-text.text) (members_view c.put_inputs.new.head.entries)

pub returns-clause-fault : goal.returns-clause-fault
returns-clause-fault c =
    ap (get (codes "fault")) c.in_ok-with_ending.ensures
    ∙ fault_member (command_word (map (λ word. word.now) c.args.ending.now.words.now)) c.args.ending.now.outcome (view c.in_ok-text.text) (members_view c.put_inputs.new.head.entries)

pub returns-clause-untyped : goal.returns-clause-untyped
returns-clause-untyped c =
    ap (get (codes "untyped")) c.in_ok-with_ending.ensures
    ∙ untyped_member (command_word (map (λ word. word.now) c.args.ending.now.words.now)) c.args.ending.now.outcome (view c.in_ok-text.text) (members_view c.put_inputs.new.head.entries)

pub returns-clause-text : goal.returns-clause-text
returns-clause-text c =
    (view c.in_ok-text.text, c.in_ok-text.ensures, ap (get (codes "text")) c.in_ok-with_ending.ensures ∙ text_member (command_word (map (λ word. word.now) c.args.ending.now.words.now)) c.args.ending.now.outcome (view c.in_ok-text.text) (members_view c.put_inputs.new.head.entries))

pub returns-clause-notes : goal.returns-clause-notes
returns-clause-notes c =
    let there = notes_member (command_word (map (λ word. word.now) c.args.ending.now.words.now)) c.args.ending.now.outcome (shown_of c.args.ending.now.wanted.digests c.args.ending.now.read.now.roles.items (map items_of c.args.ending.now.read.now.all.items)) _ _ (view c.in_ok-text.text) _ _ _ _ c.in_ok-put_notes.ensures c.in_ok-put_inputs.ensures in
    (there.0, there.1, ap (get (codes "notes")) c.in_ok-with_ending.ensures ∙ there.2)

pub returns-clause-side_notes : goal.returns-clause-side_notes
returns-clause-side_notes c =
    ap (get (codes "side_notes")) c.in_ok-with_ending.ensures
    ∙ side_notes_member (command_word (map (λ word. word.now) c.args.ending.now.words.now)) c.args.ending.now.outcome (shown_of c.args.ending.now.wanted.digests c.args.ending.now.read.now.roles.items (map items_of c.args.ending.now.read.now.all.items)) _ _ (view c.in_ok-text.text) _ _ _ _ c.in_ok-put_notes.ensures c.in_ok-put_inputs.ensures

pub returns-clause-missing : goal.returns-clause-missing
returns-clause-missing c =
    ap (get (codes "missing_side_notes")) c.in_ok-with_ending.ensures
    ∙ missing_member (command_word (map (λ word. word.now) c.args.ending.now.words.now)) c.args.ending.now.outcome (shown_of c.args.ending.now.wanted.digests c.args.ending.now.read.now.roles.items (map items_of c.args.ending.now.read.now.all.items)) _ _ (view c.in_ok-text.text) _ (view c.args.missing) (members_view c.new-others.result.entries) _ _ _ c.in_ok-put_missing.ensures c.in_ok-put_notes.ensures c.in_ok-put_inputs.ensures

pub returns-clause-inputs : goal.returns-clause-inputs
returns-clause-inputs c =
    let there = inputs_member (command_word (map (λ word. word.now) c.args.ending.now.words.now)) c.args.ending.now.outcome (shown_of c.args.ending.now.wanted.digests c.args.ending.now.read.now.roles.items (map items_of c.args.ending.now.read.now.all.items)) _ (view c.in_ok-text.text) _ _ c.in_ok-put_inputs.ensures in
    (there.0, there.1, ap (get (codes "inputs")) c.in_ok-with_ending.ensures ∙ there.2)

pub returns-clause-places : goal.returns-clause-places
returns-clause-places c =
    let there = places_member (command_word (map (λ word. word.now) c.args.ending.now.words.now)) c.args.ending.now.outcome (shown_of c.args.ending.now.wanted.digests c.args.ending.now.read.now.roles.items (map items_of c.args.ending.now.read.now.all.items)) _ (view c.in_ok-text.text) _ _ c.in_ok-put_inputs.ensures in
    (there.0, ap (get (codes "places")) c.in_ok-with_ending.ensures ∙ there.1)

pub returns-clause-types : goal.returns-clause-types
returns-clause-types c =
    let there = types_member (command_word (map (λ word. word.now) c.args.ending.now.words.now)) c.args.ending.now.outcome (shown_of c.args.ending.now.wanted.digests c.args.ending.now.read.now.roles.items (map items_of c.args.ending.now.read.now.all.items)) _ (view c.in_ok-text.text) _ _ c.in_ok-put_inputs.ensures in
    (there.0, ap (get (codes "types")) c.in_ok-with_ending.ensures ∙ there.1)
