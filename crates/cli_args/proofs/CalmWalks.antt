-- A walk over arguments that ask for no help stays calm.
use Rattle.std.proofs.Common.{◌≡◌, ◌∙◌, ◌&&◌, ◌⊎◌, ℕ, Bool, cond, true, false, zero, suc, refl, sym, List, [], ◌∷◌, length, drop, Option, Some, None, codes, true≢false}
use Rattle.std.specs.Prelude.{encode_utf8, slice_get, nat_lt}
use Rattle.std.specs.Str.{bytes_eq, chars}
use Rattle.clap.specs.Values.{is_request}
use Rattle.clap.specs.Lexer.{long_of, short_of}
use Rattle.clap.specs.Walk.{is_pending, takes_several, is_multiple, Held, Outcome, Rule, Step, Text, Waiting, Walk, idle, option, positional, next, trailing, subcommand, value, done, waits, plain, refused, action_of, after_flag, after_step, arg_by_id, arg_by_index, arg_by_long, arg_by_short, attached_value, bundle_met, bundle_step, flag_met, long_met, long_or_other, most_values, option_met, option_word, pending_count, plain_word, pushed, reacted, settled, short_met, short_or_plain, started, subcommand_or_other, takes_values, to_positional, walked, walked_from, word_met, subcommand_met}

-- an argument that asks for no help
abbrev pub IsCalm : Rule → Type 0
IsCalm a = is_request (action_of a) ≡ false

abbrev pub IsCalmFound : Option Rule → Type 0
IsCalmFound None = Unit {0}
IsCalmFound (Some a) = IsCalm a

abbrev pub IsCalmPending : List Rule → Option (Text × List Text) → Type 0
IsCalmPending c None = Unit {0}
IsCalmPending c (Some p) = IsCalmFound (arg_by_id c p.0)

abbrev IsCalmWaiting : List Rule → Waiting → Type 0
IsCalmWaiting c (option id) = IsCalmFound (arg_by_id c id)
IsCalmWaiting c _ = Unit {0}

abbrev IsCalmOutcome : List Rule → Outcome → Type 0
IsCalmOutcome c (waits id) = IsCalmFound (arg_by_id c id)
IsCalmOutcome c _ = Unit {0}

abbrev IsCalmStep : List Rule → Step → Type 0
IsCalmStep c (next waiting) = IsCalmWaiting c waiting
IsCalmStep c _ = Unit {0}

-- nothing that is held asks for help, and no flag of a bundle is to be passed over
pub record Calm (c : List Rule) (h : Held) : Type 0 where
  pub pending : IsCalmPending c h.pending
  pub skip : h.skip ≡ 0

pub record CalmWalk (c : List Rule) (w : Walk) : Type 0 where
  pub held : Calm c w.held
  pub waiting : IsCalmWaiting c w.waiting

-- of the arguments, only one asks for help: `--help` and `-h`, which is the only short one
pub record Plain (c : List Rule) : Type 0 where
  pub by_long : (name : Text) (a : Rule) → arg_by_long c name ≡ Some a → IsCalm a ⊎ (name ≡ codes "help")
  pub by_short : (x : ℕ) (a : Rule) → arg_by_short c x ≡ Some a → (x ≡ 104) × (takes_values a ≡ false)
  pub long_id : (name : Text) (a : Rule) → arg_by_long c name ≡ Some a → takes_values a ≡ true → IsCalmFound (arg_by_id c a.id)
  pub index_id : (i : ℕ) (a : Rule) → arg_by_index c i ≡ Some a → IsCalmFound (arg_by_id c a.id)

calm_settled : (c : List Rule) (h : Held) → Calm c h → Calm c (settled c h)
calm_settled c h calm = record { pending = tt; skip = calm.skip }

calm_reacted : (c : List Rule) (a : Rule) (values : List Text) (h : Held) → Calm c h → Calm c (reacted c a values h)
calm_reacted c a values h calm = record { pending = tt; skip = calm.skip }

calm_started : (c : List Rule) (id : Text) (p : Option (Text × List Text)) → IsCalmFound (arg_by_id c id) → IsCalmPending c p → IsCalmFound (arg_by_id c (started id p).0)
calm_started c id None here calm = here
calm_started c id (Some p) here calm = calm

calm_pushed : (c : List Rule) (id word : Text) (h : Held) → IsCalmFound (arg_by_id c id) → Calm c h → Calm c (pushed id word h)
calm_pushed c id word h here calm = record { pending = calm_started c id h.pending here calm.pending; skip = calm.skip }

abbrev CalmMet : List Rule → Held × Outcome → Type 0
CalmMet c met = Calm c met.0 × IsCalmOutcome c met.1

calm_option : (c : List Rule) (a : Rule) (v : Option Text) (h : Held) → IsCalmFound (arg_by_id c a.id) → Calm c h → CalmMet c (option_met c a v h)
calm_option c a (Some v) h here calm = (calm_reacted c a (v ∷ []) h calm, tt)
calm_option c a None h here calm = (record { pending = here; skip = calm.skip }, here)

calm_flag : (c : List Rule) (a : Rule) (v : Option Text) (h : Held) → Calm c h → CalmMet c (flag_met c a v h)
calm_flag c a (Some v) h calm = (calm, tt)
calm_flag c a None h calm = (calm_reacted c a [] h calm, tt)

either_met : (c : List Rule) (b : Bool) (x y : Held × Outcome) → (b ≡ true → CalmMet c x) → CalmMet c y → CalmMet c (cond b x y)
either_met c true x y p q = p refl
either_met c false x y p q = q

calm_long : (c : List Rule) (found : Option Rule) (v : Option Text) (h : Held) → ((a : Rule) → found ≡ Some a → takes_values a ≡ true → IsCalmFound (arg_by_id c a.id)) →
    Calm c h → CalmMet c (long_met c found v h)
calm_long c None v h ids calm = (calm, tt)
calm_long c (Some a) v h ids calm =
    either_met c (takes_values a) (option_met c a v h) (flag_met c a v h) (λ takes. calm_option c a v h (ids a refl takes) calm) (calm_flag c a v h calm)

calm_short : (c : List Rule) (found : Option Rule) (rest : Text) (h : Held) (later : Held → Held × Outcome) → ((a : Rule) → found ≡ Some a → takes_values a ≡ false) →
    ((i : Held) → Calm c i → CalmMet c (later i)) → Calm c h → CalmMet c (short_met c found rest h later)
calm_short c None rest h later flags each calm = (calm, tt)
calm_short c (Some a) rest h later flags each calm =
    either_met c (takes_values a) (option_met c a (attached_value rest) h) (later (reacted c a [] h))
    (λ takes. absurd (true≢false (sym takes ∙ flags a refl))) (each (reacted c a [] h) (calm_reacted c a [] h calm))

calm_bundle_step : (c : List Rule) → Plain c → (x : Option ℕ) (flags : Text) (skip : ℕ) (so_far : Outcome) (h : Held) (later : Text → ℕ → Outcome → Held → Held × Outcome) →
    ((t : Text) (n : ℕ) (o : Outcome) (i : Held) → IsCalmOutcome c o → Calm c i → CalmMet c (later t n o i)) → IsCalmOutcome c so_far → Calm c h →
    CalmMet c (bundle_step c x flags skip so_far h later)
calm_bundle_step c p None flags skip so_far h later each out calm = (calm, out)
calm_bundle_step c p (Some x) flags zero so_far h later each out calm =
    let rest = drop (length (encode_utf8 x)) flags in
    calm_short c (arg_by_short c x) rest h (later rest 0 done) (λ a e. (p.by_short x a e).1) (λ i ok. each rest 0 done i tt ok) calm
calm_bundle_step c p (Some x) flags (suc skip) so_far h later each out calm =
    each (drop (length (encode_utf8 x)) flags) skip so_far h out calm

calm_bundle : (c : List Rule) → Plain c → (k : ℕ) (flags : Text) (skip : ℕ) (so_far : Outcome) (h : Held) → IsCalmOutcome c so_far → Calm c h → CalmMet c (bundle_met c k flags skip so_far h)
unfolding bundle_met
calm_bundle c p zero flags skip so_far h out calm = (calm, out)
calm_bundle c p (suc k) flags skip so_far h out calm =
    calm_bundle_step c p (slice_get (chars flags) 0) flags skip so_far h (bundle_met c k) (λ t n o i. calm_bundle c p k t n o i) out calm

abbrev CalmStepped : List Rule → Held × Step → Type 0
CalmStepped c met = Calm c met.0 × IsCalmStep c met.1

calm_cond_waiting : (c : List Rule) (b : Bool) (id : Text) → IsCalmFound (arg_by_id c id) → IsCalmWaiting c (cond b (option id) idle)
calm_cond_waiting c true id here = here
calm_cond_waiting c false id here = tt

calm_option_word : (c : List Rule) (found : Option Rule) (id word : Text) (h : Held) → IsCalmFound (arg_by_id c id) → Calm c h →
    Calm c (option_word found id word h).0 × IsCalmWaiting c (option_word found id word h).1
calm_option_word c None id word h here calm = (calm, here)
calm_option_word c (Some a) id word h here calm =
    (calm_pushed c id word h here calm, calm_cond_waiting c (nat_lt (pending_count a (pushed id word h).pending) (most_values a)) id here)

calm_plain_word : (c : List Rule) (waiting : Waiting) (word : Text) (h : Held) → IsCalmWaiting c waiting → Calm c h → CalmStepped c (plain_word c waiting word h)
calm_plain_word c idle word h here calm = (calm, tt)
calm_plain_word c positional word h here calm = (calm, tt)
calm_plain_word c (option id) word h here calm = calm_option_word c (arg_by_id c id) id word h here calm

calm_after_flag : (c : List Rule) (waiting : Waiting) (word : Text) (h : Held) (o : Outcome) → IsCalmWaiting c waiting → Calm c h → IsCalmOutcome c o → CalmStepped c (after_flag c waiting word h o)
calm_after_flag c waiting word h done here calm out = (calm, tt)
calm_after_flag c waiting word h (waits id) here calm out = (calm, out)
calm_after_flag c waiting word h plain here calm out = calm_plain_word c waiting word h here calm
calm_after_flag c waiting word h refused here calm out = calm_plain_word c waiting word h here calm

calm_short_or_plain : (c : List Rule) → Plain c → (waiting : Waiting) (word : Text) (found : Option Text) (h : Held) → IsCalmWaiting c waiting → Calm c h →
    CalmStepped c (short_or_plain c waiting word found h)
calm_short_or_plain c p waiting word None h here calm = calm_plain_word c waiting word h here calm
calm_short_or_plain c p waiting word (Some flags) h here calm =
    let begun : Calm c (record h { skip = 0 }) = record { pending = calm.pending; skip = refl } in
    let met = calm_bundle c p (length flags) flags h.skip plain (record h { skip = 0 }) tt begun in
    calm_after_flag c waiting word (bundle_met c (length flags) flags h.skip plain (record h { skip = 0 })).0 (bundle_met c (length flags) flags h.skip plain (record h { skip = 0 })).1 here met.0 met.1

calm_long_or_other : (c : List Rule) → Plain c → (waiting : Waiting) (word : Text) (found : Option (Text × Option Text)) (h : Held) → IsCalmWaiting c waiting → Calm c h →
    CalmStepped c (long_or_other c waiting word found h)
calm_long_or_other c p waiting word None h here calm = calm_short_or_plain c p waiting word (short_of word) h here calm
calm_long_or_other c p waiting word (Some q) h here calm =
    let met = calm_long c (arg_by_long c q.0) q.1 h (λ a e takes. p.long_id q.0 a e takes) calm in
    calm_after_flag c waiting word (long_met c (arg_by_long c q.0) q.1 h).0 (long_met c (arg_by_long c q.0) q.1 h).1 here met.0 met.1

either_step : (c : List Rule) (b : Bool) (x y : Held × Step) → CalmStepped c x → CalmStepped c y → CalmStepped c (cond b x y)
either_step c true x y p q = p
either_step c false x y p q = q

pub calm_word : (c : List Rule) → Plain c → (is_trailing : Bool) (waiting : Waiting) (position : ℕ) (word : Text) (h : Held) → IsCalmWaiting c waiting → Calm c h →
    CalmStepped c (word_met c [] is_trailing waiting position word h)
calm_word c p is_trailing waiting position word h here calm =
    let other = either_step c (bytes_eq word (45 ∷ 45 ∷ [])) (h, trailing position) (long_or_other c waiting word (long_of word) h) (calm, tt)
    (calm_long_or_other c p waiting word (long_of word) h here calm) in
    go waiting other
  where
    go : (now : Waiting) → CalmStepped c (subcommand_or_other c None waiting position word h) →
        CalmStepped c (cond is_trailing (h, value) (subcommand_or_other c (subcommand_met [] now word) waiting position word h))
    go idle other = either_step c is_trailing (h, value) (subcommand_or_other c None waiting position word h) (calm, tt) other
    go positional other = either_step c is_trailing (h, value) (subcommand_or_other c None waiting position word h) (calm, tt) other
    go (option id) other = either_step c is_trailing (h, value) (subcommand_or_other c None waiting position word h) (calm, tt) other

calm_either_held : (c : List Rule) (b : Bool) (x y : Held) → Calm c x → Calm c y → Calm c (cond b x y)
calm_either_held c true x y p q = p
calm_either_held c false x y p q = q

calm_positional_waiting : (c : List Rule) (b : Bool) → IsCalmWaiting c (cond b positional idle)
calm_positional_waiting c true = tt
calm_positional_waiting c false = tt

calm_to : (c : List Rule) (found : Option Rule) (word : Text) (w : Walk) (h : Held) → ((a : Rule) → found ≡ Some a → IsCalmFound (arg_by_id c a.id)) →
    IsCalmWaiting c w.waiting → Calm c h → CalmWalk c (to_positional c found word w h)
calm_to c None word w h ids here calm = record { held = calm; waiting = here }
calm_to c (Some a) word w h ids here calm = record {
  held = calm_pushed c a.id word (cond (is_pending a h.pending && takes_several a) h (settled c h)) (ids a refl)
      (calm_either_held c (is_pending a h.pending && takes_several a) h (settled c h) calm (calm_settled c h calm));
  waiting = calm_positional_waiting c (is_multiple a);
}

calm_after : (c : List Rule) → Plain c → (word : Text) (w : Walk) (h : Held) (step : Step) → IsCalmWaiting c w.waiting → Calm c h → IsCalmStep c step → CalmWalk c (after_step c word w h step)
calm_after c p word w h (next waiting) here calm ok = record { held = calm; waiting = ok }
calm_after c p word w h (trailing position) here calm ok = record { held = calm; waiting = here }
calm_after c p word w h (subcommand name) here calm ok = record { held = calm; waiting = here }
calm_after c p word w h value here calm ok = calm_to c (arg_by_index c w.position) word w h (λ a e. p.index_id w.position a e) here calm

calm_walked_from : (c : List Rule) → Plain c → (stopped : Option (Text × List Text)) (w : Walk) (word : Text) → CalmWalk c w → CalmWalk c (walked_from c [] stopped w word)
calm_walked_from c p (Some q) w word calm = record { held = calm.held; waiting = calm.waiting }
calm_walked_from c p None w word calm =
    let met = word_met c [] w.is_trailing w.waiting w.position word w.held in
    let ok = calm_word c p w.is_trailing w.waiting w.position word w.held calm.waiting calm.held in
    calm_after c p word w met.0 met.1 calm.waiting ok.0 ok.1

pub calm_walked : (c : List Rule) → Plain c → (w : Walk) (word : Text) → CalmWalk c w → CalmWalk c (walked c [] w word)
unfolding walked
calm_walked c p w word calm = calm_walked_from c p w.stopped w word calm
