use Rattle.std.proofs.Common.{◌≤◌, List, ℕ, inl, length, map, subst, sym}
use Rattle.std.specs.Io.KnownBytes.{Appends}
use Rattle.abi_base.specs.Causes.{AppendsFront}
use Rattle.abi_top.specs.Answer.{Answers}
use Rattle.abi_top.specs.Calls.{Call}
use Rattle.cli_args.specs.Words.{texts}
use Rattle.commands.specs.Commands.{items_of}
use Rattle.commands.specs.Reading.{reading_of}
use Rattle.commands.specs.declared.outcome.Outcome.TheVariants.{Help}
use Rattle.abi_top.proofs.OfRead.{with_text}
use Rattle.abi_top.proofs.lemmas.ParsedArguments.{complete_says, fault_says}
use Rattle.abi_top.proofs.Rows.{done_says, itself_says, no_agreed, no_says, refused_says, yes_agreed, yes_leaves, yes_says}
use Rattle.abi_top.proofs.Single.{help_alone, help_says, usage_alone, version_alone}
use Rattle.abi_top.proofs.top.run.Goals as goal

pub returns-in-Ok-write_all-clause-yes : goal.returns-in-Ok-write_all-clause-yes
returns-in-Ok-write_all-clause-yes g c = λ untyped is.
    let call : Call = record { words = texts c.args.words.now; voices = map (λ b. (goal.Listener-dyn g (b.vtable, b.value)).voice b.value) c.args.listeners.items; reading = reading_of g.I.Inputs.told g.I.Inputs.faults g.I.Inputs.given g.I.Inputs.started c.args.inputs.now c.answer_to.new.inputs } in
    let A : List ℕ → Type 0 = λ t. Appends (g.S.Sink.held c.args.sink.now) (g.S.Sink.held c.write_all.new.sink) t in
    let whole : A c.in-Ok.answer.text.items = subst A c.deref.ensures.value c.in-Ok-write_all.ensures.whole in
    let answers = subst (λ o. Answers call o c.in-Ok.answer.text.items) is c.in-Ok.ensures.answers in
    yes_says call untyped c.in-Ok.answer.text.items A whole answers

pub returns-in-Ok-write_all-clause-read : goal.returns-in-Ok-write_all-clause-read
returns-in-Ok-write_all-clause-read g c =
    let call : Call = record { words = texts c.args.words.now; voices = map (λ b. (goal.Listener-dyn g (b.vtable, b.value)).voice b.value) c.args.listeners.items; reading = reading_of g.I.Inputs.told g.I.Inputs.faults g.I.Inputs.given g.I.Inputs.started c.args.inputs.now c.answer_to.new.inputs } in
    let A : List ℕ → Type 0 = λ t. Appends (g.S.Sink.held c.args.sink.now) (g.S.Sink.held c.write_all.new.sink) t in
    let whole : A c.in-Ok.answer.text.items = subst A c.deref.ensures.value c.in-Ok-write_all.ensures.whole in
    with_text call c.in-Ok.answer.read.roles.items (map items_of c.in-Ok.answer.read.all.items) c.in-Ok.answer.outcome c.in-Ok.answer.text.items A c.in-Ok.ensures.read whole

pub returns-in-Ok-write_all-clause-no : goal.returns-in-Ok-write_all-clause-no
returns-in-Ok-write_all-clause-no g c = λ untyped is.
    let call : Call = record { words = texts c.args.words.now; voices = map (λ b. (goal.Listener-dyn g (b.vtable, b.value)).voice b.value) c.args.listeners.items; reading = reading_of g.I.Inputs.told g.I.Inputs.faults g.I.Inputs.given g.I.Inputs.started c.args.inputs.now c.answer_to.new.inputs } in
    let A : List ℕ → Type 0 = λ t. Appends (g.S.Sink.held c.args.sink.now) (g.S.Sink.held c.write_all.new.sink) t in
    let whole : A c.in-Ok.answer.text.items = subst A c.deref.ensures.value c.in-Ok-write_all.ensures.whole in
    let answers = subst (λ o. Answers call o c.in-Ok.answer.text.items) is c.in-Ok.ensures.answers in
    no_says call untyped c.in-Ok.answer.text.items A whole answers

pub returns-in-Ok-write_all-clause-yes_agreed : goal.returns-in-Ok-write_all-clause-yes_agreed
returns-in-Ok-write_all-clause-yes_agreed g c = λ untyped is.
    let call : Call = record { words = texts c.args.words.now; voices = map (λ b. (goal.Listener-dyn g (b.vtable, b.value)).voice b.value) c.args.listeners.items; reading = reading_of g.I.Inputs.told g.I.Inputs.faults g.I.Inputs.given g.I.Inputs.started c.args.inputs.now c.answer_to.new.inputs } in
    let answers = subst (λ o. Answers call o c.in-Ok.answer.text.items) is c.in-Ok.ensures.answers in
    yes_agreed c.compatible_is_that_accesses_agree.ensures.exact c.compatible_is_that_accesses_agree.ensures.app call untyped c.in-Ok.answer.text.items answers

pub returns-in-Ok-write_all-clause-yes_leaves : goal.returns-in-Ok-write_all-clause-yes_leaves
returns-in-Ok-write_all-clause-yes_leaves g c = λ untyped is.
    let call : Call = record { words = texts c.args.words.now; voices = map (λ b. (goal.Listener-dyn g (b.vtable, b.value)).voice b.value) c.args.listeners.items; reading = reading_of g.I.Inputs.told g.I.Inputs.faults g.I.Inputs.given g.I.Inputs.started c.args.inputs.now c.answer_to.new.inputs } in
    let answers = subst (λ o. Answers call o c.in-Ok.answer.text.items) is c.in-Ok.ensures.answers in
    yes_leaves c.compatible_is_that_accesses_agree.ensures.leaves c.compatible_is_that_accesses_agree.ensures.app_leaves call untyped c.in-Ok.answer.text.items answers

pub returns-in-Ok-write_all-clause-no_agreed : goal.returns-in-Ok-write_all-clause-no_agreed
returns-in-Ok-write_all-clause-no_agreed g c = λ untyped is.
    let call : Call = record { words = texts c.args.words.now; voices = map (λ b. (goal.Listener-dyn g (b.vtable, b.value)).voice b.value) c.args.listeners.items; reading = reading_of g.I.Inputs.told g.I.Inputs.faults g.I.Inputs.given g.I.Inputs.started c.args.inputs.now c.answer_to.new.inputs } in
    let answers = subst (λ o. Answers call o c.in-Ok.answer.text.items) is c.in-Ok.ensures.answers in
    no_agreed c.compatible_is_that_accesses_agree.ensures.exact c.compatible_is_that_accesses_agree.ensures.app call untyped c.in-Ok.answer.text.items answers

pub returns-in-Ok-write_all-clause-refused : goal.returns-in-Ok-write_all-clause-refused
returns-in-Ok-write_all-clause-refused g c = λ untyped is.
    let call : Call = record { words = texts c.args.words.now; voices = map (λ b. (goal.Listener-dyn g (b.vtable, b.value)).voice b.value) c.args.listeners.items; reading = reading_of g.I.Inputs.told g.I.Inputs.faults g.I.Inputs.given g.I.Inputs.started c.args.inputs.now c.answer_to.new.inputs } in
    let A : List ℕ → Type 0 = λ t. Appends (g.S.Sink.held c.args.sink.now) (g.S.Sink.held c.write_all.new.sink) t in
    let whole : A c.in-Ok.answer.text.items = subst A c.deref.ensures.value c.in-Ok-write_all.ensures.whole in
    let answers = subst (λ o. Answers call o c.in-Ok.answer.text.items) is c.in-Ok.ensures.answers in
    refused_says call untyped c.in-Ok.answer.text.items A whole answers

pub returns-in-Ok-write_all-clause-done : goal.returns-in-Ok-write_all-clause-done
returns-in-Ok-write_all-clause-done g c = λ untyped is.
    let call : Call = record { words = texts c.args.words.now; voices = map (λ b. (goal.Listener-dyn g (b.vtable, b.value)).voice b.value) c.args.listeners.items; reading = reading_of g.I.Inputs.told g.I.Inputs.faults g.I.Inputs.given g.I.Inputs.started c.args.inputs.now c.answer_to.new.inputs } in
    let A : List ℕ → Type 0 = λ t. Appends (g.S.Sink.held c.args.sink.now) (g.S.Sink.held c.write_all.new.sink) t in
    let whole : A c.in-Ok.answer.text.items = subst A c.deref.ensures.value c.in-Ok-write_all.ensures.whole in
    let answers = subst (λ o. Answers call o c.in-Ok.answer.text.items) is c.in-Ok.ensures.answers in
    done_says call untyped c.in-Ok.answer.text.items A whole answers

pub returns-in-Ok-write_all-clause-itself : goal.returns-in-Ok-write_all-clause-itself
returns-in-Ok-write_all-clause-itself g c = λ rules_name report old_name new_name bytes untyped asked old_told new_told is.
    let call : Call = record { words = texts c.args.words.now; voices = map (λ b. (goal.Listener-dyn g (b.vtable, b.value)).voice b.value) c.args.listeners.items; reading = reading_of g.I.Inputs.told g.I.Inputs.faults g.I.Inputs.given g.I.Inputs.started c.args.inputs.now c.answer_to.new.inputs } in
    let A : List ℕ → Type 0 = λ t. Appends (g.S.Sink.held c.args.sink.now) (g.S.Sink.held c.write_all.new.sink) t in
    let whole : A c.in-Ok.answer.text.items = subst A c.deref.ensures.value c.in-Ok-write_all.ensures.whole in
    let answers = subst (λ o. Answers call o c.in-Ok.answer.text.items) is c.in-Ok.ensures.answers in
    itself_says call rules_name report old_name new_name bytes asked old_told new_told untyped A c.a_file_may_replace_itself.ensures
    (no_says call untyped c.in-Ok.answer.text.items A whole answers)

pub returns-in-Ok-write_all-clause-complete : goal.returns-in-Ok-write_all-clause-complete
returns-in-Ok-write_all-clause-complete g c = λ asked all is served sink memory.
    let call : Call = record { words = texts c.args.words.now; voices = map (λ b. (goal.Listener-dyn g (b.vtable, b.value)).voice b.value) c.args.listeners.items; reading = reading_of g.I.Inputs.told g.I.Inputs.faults g.I.Inputs.given g.I.Inputs.started c.args.inputs.now c.answer_to.new.inputs } in
    let A : List ℕ → Type 0 = λ t. Appends (g.S.Sink.held c.args.sink.now) (g.S.Sink.held c.write_all.new.sink) t in
    let whole : A c.in-Ok.answer.text.items = subst A c.deref.ensures.value c.in-Ok-write_all.ensures.whole in
    complete_says call asked is all served c.in-Ok.answer.outcome c.in-Ok.answer.text.items A c.in-Ok.ensures.answers whole

pub returns-in-Ok-write_all-clause-first_fault : goal.returns-in-Ok-write_all-clause-first_fault
returns-in-Ok-write_all-clause-first_fault g c = λ asked all which fault is tells after unfailed first sink memory.
    let call : Call = record { words = texts c.args.words.now; voices = map (λ b. (goal.Listener-dyn g (b.vtable, b.value)).voice b.value) c.args.listeners.items; reading = reading_of g.I.Inputs.told g.I.Inputs.faults g.I.Inputs.given g.I.Inputs.started c.args.inputs.now c.answer_to.new.inputs } in
    fault_says call asked is all tells after unfailed which fault first c.in-Ok.answer.outcome c.in-Ok.answer.text.items c.in-Ok.ensures.answers

pub returns-in-Ok-write_all-clause-help : goal.returns-in-Ok-write_all-clause-help
returns-in-Ok-write_all-clause-help g c = λ is other.
    let call : Call = record { words = texts c.args.words.now; voices = map (λ b. (goal.Listener-dyn g (b.vtable, b.value)).voice b.value) c.args.listeners.items; reading = reading_of g.I.Inputs.told g.I.Inputs.faults g.I.Inputs.given g.I.Inputs.started c.args.inputs.now c.answer_to.new.inputs } in
    let A : List ℕ → Type 0 = λ t. Appends (g.S.Sink.held c.args.sink.now) (g.S.Sink.held c.write_all.new.sink) t in
    let whole : A c.in-Ok.answer.text.items = subst A c.deref.ensures.value c.in-Ok-write_all.ensures.whole in
    let answers = subst (λ o. Answers call o c.in-Ok.answer.text.items) is c.in-Ok.ensures.answers in
    help_says call c.in-Ok.answer.text.items A whole answers other

pub returns-in-Ok-write_all-clause-version : goal.returns-in-Ok-write_all-clause-version
returns-in-Ok-write_all-clause-version g c = λ is asked.
    let call : Call = record { words = texts c.args.words.now; voices = map (λ b. (goal.Listener-dyn g (b.vtable, b.value)).voice b.value) c.args.listeners.items; reading = reading_of g.I.Inputs.told g.I.Inputs.faults g.I.Inputs.given g.I.Inputs.started c.args.inputs.now c.answer_to.new.inputs } in
    let A : List ℕ → Type 0 = λ t. Appends (g.S.Sink.held c.args.sink.now) (g.S.Sink.held c.write_all.new.sink) t in
    let whole : A c.in-Ok.answer.text.items = subst A c.deref.ensures.value c.in-Ok-write_all.ensures.whole in
    let answers = subst (λ o. Answers call o c.in-Ok.answer.text.items) is c.in-Ok.ensures.answers in
    subst A (version_alone call Help c.in-Ok.answer.text.items asked answers).1 whole

pub returns-in-Ok-write_all-clause-wrong_words : goal.returns-in-Ok-write_all-clause-wrong_words
returns-in-Ok-write_all-clause-wrong_words g c = λ asked.
    let call : Call = record { words = texts c.args.words.now; voices = map (λ b. (goal.Listener-dyn g (b.vtable, b.value)).voice b.value) c.args.listeners.items; reading = reading_of g.I.Inputs.told g.I.Inputs.faults g.I.Inputs.given g.I.Inputs.started c.args.inputs.now c.answer_to.new.inputs } in
    inl (usage_alone call c.in-Ok.answer.outcome c.in-Ok.answer.text.items asked c.in-Ok.ensures.answers).0

pub returns-in-Ok-write_all-clause-help_words : goal.returns-in-Ok-write_all-clause-help_words
returns-in-Ok-write_all-clause-help_words g c = λ asked.
    let call : Call = record { words = texts c.args.words.now; voices = map (λ b. (goal.Listener-dyn g (b.vtable, b.value)).voice b.value) c.args.listeners.items; reading = reading_of g.I.Inputs.told g.I.Inputs.faults g.I.Inputs.given g.I.Inputs.started c.args.inputs.now c.answer_to.new.inputs } in
    inl (help_alone call c.in-Ok.answer.outcome c.in-Ok.answer.text.items asked c.in-Ok.ensures.answers).0

pub returns-in-Ok-write_all-clause-version_words : goal.returns-in-Ok-write_all-clause-version_words
returns-in-Ok-write_all-clause-version_words g c = λ asked.
    let call : Call = record { words = texts c.args.words.now; voices = map (λ b. (goal.Listener-dyn g (b.vtable, b.value)).voice b.value) c.args.listeners.items; reading = reading_of g.I.Inputs.told g.I.Inputs.faults g.I.Inputs.given g.I.Inputs.started c.args.inputs.now c.answer_to.new.inputs } in
    inl (version_alone call c.in-Ok.answer.outcome c.in-Ok.answer.text.items asked c.in-Ok.ensures.answers).0

pub returns-clause-front : goal.returns-clause-front
returns-clause-front g c = λ is. (
  c.in-Ok.answer.outcome,
  c.in-Ok.answer.text.items,
  c.in-Ok.ensures.answers,
  subst (λ (t : List ℕ). AppendsFront (g.S.Sink.held c.args.sink.now) (g.S.Sink.held c.write_all.new.sink) t) c.deref.ensures.value c.in-Err-write_all.ensures.front,
)

pub returns-in-Ok-write_all-clause-steady_sink : goal.returns-in-Ok-write_all-clause-steady_sink
returns-in-Ok-write_all-clause-steady_sink g c = λ room unfailing there enough.
    c.write_all.ensures.steady room unfailing there
    (subst (λ (t : List ℕ). length t ≤ room) (sym c.deref.ensures.value) (enough c.in-Ok.answer.outcome c.in-Ok.answer.text.items c.in-Ok.ensures.answers))

pub returns-clause-steady_sink : goal.returns-clause-steady_sink
returns-clause-steady_sink g c = λ room unfailing there enough.
    c.write_all.ensures.steady room unfailing there
    (subst (λ (t : List ℕ). length t ≤ room) (sym c.deref.ensures.value) (enough c.in-Ok.answer.outcome c.in-Ok.answer.text.items c.in-Ok.ensures.answers))
