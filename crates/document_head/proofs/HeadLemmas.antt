-- Members that stay where others are added.
use Rattle.std.proofs.Common.{◌≡◌, ℕ, List, Some, false, true≢false, bytes_eq, refl, sym, ◌∙◌}
use Rattle.std.specs.Prelude.{codes}
use Rattle.std.proofs.lemmas.Slice.Eq.{bytes_eq-Decides}
use Rattle.commands.specs.Outcomes.{exit_number}
use Rattle.commands.specs.declared.outcome.Outcome.{Outcome}
use Rattle.serde_json.specs.Data.{Data, number, unsigned, string, object, Members, put}
use Rattle.serde_json.specs.Find.{get_member}
use Rattle.serde_json.proofs.Views.{get_member-put, get_member-put_other}
use Rattle.document_head.specs.Heads.{HasMember, answer_word, fault_value, untyped_value, with_all, with_outcome, with_remarks}

apart : (q k : List ℕ) → bytes_eq q k ≡ false → q ≡ k → ⊥
apart q k off same = true≢false (sym ((bytes_eq-Decides q k).1 same) ∙ off)

stays : (q k : List ℕ) (d v : Data) (ms : Members) → bytes_eq q k ≡ false → get_member q ms ≡ Some v → get_member q (put k d ms) ≡ Some v
stays q k d v ms off there = get_member-put_other q k d ms (apart q k off) ∙ there

-- what the code adds before the status, and before the answer, the command and the remarks
abbrev formatted : Members → Members
formatted ms = put (codes "format") (number (unsigned 1)) ms

abbrev commanded : List ℕ → Members → Members
commanded command ms = put (codes "command") (string command) (formatted ms)

abbrev answered : List ℕ → Outcome → Members → Members
answered command outcome ms = put (codes "answer") (string (answer_word outcome)) (commanded command ms)

abbrev faulted : List ℕ → Outcome → Members → Members
faulted command outcome ms = put (codes "fault") (fault_value outcome) (with_outcome command outcome ms)

pub text_member : (command : List ℕ) (outcome : Outcome) (text : Data) (ms : Members) → HasMember (codes "text") text (object (with_all command outcome text ms))
text_member command outcome text ms = get_member-put (codes "text") text (with_remarks outcome (with_outcome command outcome ms))

-- a member of what stands before the text is added
before_text : (q : List ℕ) (v : Data) (command : List ℕ) (outcome : Outcome) (text : Data) (ms : Members) → bytes_eq q (codes "text") ≡ false
    → get_member q (with_remarks outcome (with_outcome command outcome ms)) ≡ Some v → HasMember q v (object (with_all command outcome text ms))
before_text q v command outcome text ms other there = stays q (codes "text") text v (with_remarks outcome (with_outcome command outcome ms)) other there

pub untyped_member : (command : List ℕ) (outcome : Outcome) (text : Data) (ms : Members) → HasMember (codes "untyped") (untyped_value outcome) (object (with_all command outcome text ms))
untyped_member command outcome text ms =
    before_text (codes "untyped") (untyped_value outcome) command outcome text ms refl (get_member-put (codes "untyped") (untyped_value outcome) (faulted command outcome ms))

-- a member of what stands before the untyped exports are added
before_untyped : (q : List ℕ) (v : Data) (command : List ℕ) (outcome : Outcome) (text : Data) (ms : Members) → bytes_eq q (codes "text") ≡ false → bytes_eq q (codes "untyped") ≡ false
    → get_member q (faulted command outcome ms) ≡ Some v → HasMember q v (object (with_all command outcome text ms))
before_untyped q v command outcome text ms one two there =
    before_text q v command outcome text ms one (stays q (codes "untyped") (untyped_value outcome) v (faulted command outcome ms) two there)

pub fault_member : (command : List ℕ) (outcome : Outcome) (text : Data) (ms : Members) → HasMember (codes "fault") (fault_value outcome) (object (with_all command outcome text ms))
fault_member command outcome text ms =
    before_untyped (codes "fault") (fault_value outcome) command outcome text ms refl refl (get_member-put (codes "fault") (fault_value outcome) (with_outcome command outcome ms))

-- a member of what stands before the fault is added
before_fault : (q : List ℕ) (v : Data) (command : List ℕ) (outcome : Outcome) (text : Data) (ms : Members)
    → bytes_eq q (codes "text") ≡ false → bytes_eq q (codes "untyped") ≡ false → bytes_eq q (codes "fault") ≡ false
    → get_member q (with_outcome command outcome ms) ≡ Some v → HasMember q v (object (with_all command outcome text ms))
before_fault q v command outcome text ms one two three there =
    before_untyped q v command outcome text ms one two (stays q (codes "fault") (fault_value outcome) v (with_outcome command outcome ms) three there)

pub status_member : (command : List ℕ) (outcome : Outcome) (text : Data) (ms : Members)
    → HasMember (codes "status") (number (unsigned (exit_number outcome))) (object (with_all command outcome text ms))
status_member command outcome text ms =
    before_fault (codes "status") (number (unsigned (exit_number outcome))) command outcome text ms refl refl refl
    (get_member-put (codes "status") (number (unsigned (exit_number outcome))) (answered command outcome ms))

-- a member of what stands before the status is added
before_status : (q : List ℕ) (v : Data) (command : List ℕ) (outcome : Outcome) (ms : Members) → bytes_eq q (codes "status") ≡ false
    → get_member q (answered command outcome ms) ≡ Some v → get_member q (with_outcome command outcome ms) ≡ Some v
before_status q v command outcome ms other there = stays q (codes "status") (number (unsigned (exit_number outcome))) v (answered command outcome ms) other there

pub answer_member : (command : List ℕ) (outcome : Outcome) (text : Data) (ms : Members)
    → HasMember (codes "answer") (string (answer_word outcome)) (object (with_all command outcome text ms))
answer_member command outcome text ms =
    before_fault (codes "answer") (string (answer_word outcome)) command outcome text ms refl refl refl
    (before_status (codes "answer") (string (answer_word outcome)) command outcome ms refl (get_member-put (codes "answer") (string (answer_word outcome)) (commanded command ms)))

pub command_member : (command : List ℕ) (outcome : Outcome) (text : Data) (ms : Members)
    → HasMember (codes "command") (string command) (object (with_all command outcome text ms))
command_member command outcome text ms =
    before_fault (codes "command") (string command) command outcome text ms refl refl refl
    (before_status (codes "command") (string command) command outcome ms refl
    (stays (codes "command") (codes "answer") (string (answer_word outcome)) (string command) (commanded command ms) refl (get_member-put (codes "command") (string command) (formatted ms))))

pub format_member : (command : List ℕ) (outcome : Outcome) (text : Data) (ms : Members)
    → HasMember (codes "format") (number (unsigned 1)) (object (with_all command outcome text ms))
format_member command outcome text ms =
    before_fault (codes "format") (number (unsigned 1)) command outcome text ms refl refl refl
    (before_status (codes "format") (number (unsigned 1)) command outcome ms refl
    (stays (codes "format") (codes "answer") (string (answer_word outcome)) (number (unsigned 1)) (commanded command ms) refl
    (stays (codes "format") (codes "command") (string command) (number (unsigned 1)) (formatted ms) refl (get_member-put (codes "format") (number (unsigned 1)) ms))))

-- a member of the other members
pub kept_member : (q : List ℕ) (v : Data) (command : List ℕ) (outcome : Outcome) (text : Data) (ms : Members)
    → bytes_eq q (codes "text") ≡ false → bytes_eq q (codes "untyped") ≡ false → bytes_eq q (codes "fault") ≡ false → bytes_eq q (codes "status") ≡ false
    → bytes_eq q (codes "answer") ≡ false → bytes_eq q (codes "command") ≡ false → bytes_eq q (codes "format") ≡ false
    → get_member q ms ≡ Some v → HasMember q v (object (with_all command outcome text ms))
kept_member q v command outcome text ms one two three four five six seven there =
    before_fault q v command outcome text ms one two three
    (before_status q v command outcome ms four
    (stays q (codes "answer") (string (answer_word outcome)) v (commanded command ms) five
    (stays q (codes "command") (string command) v (formatted ms) six (stays q (codes "format") (number (unsigned 1)) v ms seven there))))

-- the members about the inputs
pub inputs_put : (inputs types places : Data) (ms : Members) → get_member (codes "inputs") (put (codes "inputs") inputs (put (codes "types") types (put (codes "places") places ms))) ≡ Some inputs
inputs_put inputs types places ms = get_member-put (codes "inputs") inputs (put (codes "types") types (put (codes "places") places ms))

pub types_put : (inputs types places : Data) (ms : Members) → get_member (codes "types") (put (codes "inputs") inputs (put (codes "types") types (put (codes "places") places ms))) ≡ Some types
types_put inputs types places ms =
    stays (codes "types") (codes "inputs") inputs types (put (codes "types") types (put (codes "places") places ms)) refl (get_member-put (codes "types") types (put (codes "places") places ms))

-- what stays behind them
behind_inputs : (q : List ℕ) (v inputs types places : Data) (ms : Members) → bytes_eq q (codes "inputs") ≡ false → bytes_eq q (codes "types") ≡ false
    → get_member q (put (codes "places") places ms) ≡ Some v → get_member q (put (codes "inputs") inputs (put (codes "types") types (put (codes "places") places ms))) ≡ Some v
behind_inputs q v inputs types places ms one two there =
    stays q (codes "inputs") inputs v (put (codes "types") types (put (codes "places") places ms)) one (stays q (codes "types") types v (put (codes "places") places ms) two there)

pub places_put : (inputs types places : Data) (ms : Members) → get_member (codes "places") (put (codes "inputs") inputs (put (codes "types") types (put (codes "places") places ms))) ≡ Some places
places_put inputs types places ms = behind_inputs (codes "places") places inputs types places ms refl refl (get_member-put (codes "places") places ms)

pub side_notes_put : (inputs types places side notes : Data) (ms : Members)
    → get_member (codes "side_notes") (put (codes "inputs") inputs (put (codes "types") types (put (codes "places") places (put (codes "side_notes") side (put (codes "notes") notes ms))))) ≡ Some side
side_notes_put inputs types places side notes ms =
    behind_inputs (codes "side_notes") side inputs types places (put (codes "side_notes") side (put (codes "notes") notes ms)) refl refl
    (stays (codes "side_notes") (codes "places") places side (put (codes "side_notes") side (put (codes "notes") notes ms)) refl
    (get_member-put (codes "side_notes") side (put (codes "notes") notes ms)))

pub notes_put : (inputs types places side notes : Data) (ms : Members)
    → get_member (codes "notes") (put (codes "inputs") inputs (put (codes "types") types (put (codes "places") places (put (codes "side_notes") side (put (codes "notes") notes ms))))) ≡ Some notes
notes_put inputs types places side notes ms =
    behind_inputs (codes "notes") notes inputs types places (put (codes "side_notes") side (put (codes "notes") notes ms)) refl refl
    (stays (codes "notes") (codes "places") places notes (put (codes "side_notes") side (put (codes "notes") notes ms)) refl
    (stays (codes "notes") (codes "side_notes") side notes (put (codes "notes") notes ms) refl (get_member-put (codes "notes") notes ms)))

pub missing_put : (inputs types places side notes missing : Data) (ms : Members)
    → get_member (codes "missing_side_notes") (put (codes "inputs") inputs (put (codes "types") types (put (codes "places") places (put (codes "side_notes") side (put (codes "notes") notes (put (codes "missing_side_notes") missing ms)))))) ≡ Some missing
missing_put inputs types places side notes missing ms =
    behind_inputs (codes "missing_side_notes") missing inputs types places (put (codes "side_notes") side (put (codes "notes") notes (put (codes "missing_side_notes") missing ms))) refl refl
    (stays (codes "missing_side_notes") (codes "places") places missing (put (codes "side_notes") side (put (codes "notes") notes (put (codes "missing_side_notes") missing ms))) refl
    (stays (codes "missing_side_notes") (codes "side_notes") side missing (put (codes "notes") notes (put (codes "missing_side_notes") missing ms)) refl
    (stays (codes "missing_side_notes") (codes "notes") notes missing (put (codes "missing_side_notes") missing ms) refl (get_member-put (codes "missing_side_notes") missing ms))))
