-- What a plane that knows timestamps reports to the core of packets that it forwarded: that a source was alive then.
use Rattle.std.{specs.{Option.option_map_or, Prelude.{Option, Some, if◌then◌else◌, max, nat_lt, option_and_then, option_map, true, ℕ, ◌+◌, ◌<◌, ◌≡◌}}}
use Rattle.pim_ip.{specs.Ipv4.Packet}
use Rattle.pim_types.{specs.{declared.{event.Event.Event, fact.SourceRow.SourceRow}, Keys.source_key}}
use Rattle.pim_model.{specs.{Cache.{Plain, answers, cached}, Registers.keepalive_period, Sets.{is_kept_alive, spt_bit}, State.State, Step.step, Tables.{put, row_at}}}
use Rattle.law_events.{specs.{Rest.IsAtRest, Decided.IsDecided}}

-- When KAT(S,G) expires, if it runs.
unfoldable pub keepalive_end : State → ℕ → ℕ → Option ℕ
keepalive_end s g src = option_and_then (λ (r : SourceRow). r.keepalive) (row_at s.sources (source_key 0 g src))

-- The state with KAT(S,G) set to expire at a timestamp.
unfoldable pub kept_until : State → ℕ → ℕ → ℕ → State
kept_until s g src end =
    record s { sources = put s.sources (source_key 0 g src) (record { keepalive = Some end; spt = spt_bit s g src }) }

-- KAT(S,G), if it runs, expires 210 s after the timestamp, or when it was to expire if that is later; a timer that
-- doesn't run isn't started.
unfoldable pub keep : State → ℕ → ℕ → ℕ → State
keep s g src m =
    option_map_or
    (λ end. if nat_lt end (m + keepalive_period) then kept_until s g src (m + keepalive_period) else s)
    (keepalive_end s g src) s

-- ---- laws

abbrev pub KeepIsAtRest : Type 0
KeepIsAtRest = (s : State) (g src m : ℕ) → IsAtRest s → IsAtRest (keep s g src m)

-- `keep` changes no answer and no row, of its source or of another.
abbrev pub KeepChangesNoAnswer : Type 0
KeepChangesNoAnswer = (s : State) (g src m h x : ℕ) → answers (keep s g src m) h x ≡ answers s h x

abbrev pub KeepChangesNoRow : Type 0
KeepChangesNoRow = (s : State) (g src m h x : ℕ) → cached (keep s g src m) h x ≡ cached s h x

-- After `keep`, KAT(S,G) expires at the later of both timestamps.
abbrev pub KeepEndsLater : Type 0
KeepEndsLater = (s : State) (g src m : ℕ)
    → keepalive_end (keep s g src m) g src ≡ option_map (max (m + keepalive_period)) (keepalive_end s g src)

-- `keep` starts no source's timer.
abbrev pub KeepStartsNone : Type 0
KeepStartsNone = (s : State) (g src m h x : ℕ) → is_kept_alive (keep s g src m) h x ≡ is_kept_alive s h x

-- `keep` at the present time does what a plain packet does that shows its source alive, where the timer wasn't set at
-- this very timestamp.
abbrev pub KeepIsAPacket : Type 0
KeepIsAPacket = (s : State) (e : Event) (p : Packet) (how : Plain) (end : ℕ) → IsAtRest s → IsDecided s e p how
    → how.keeps ≡ true → keepalive_end s p.destination p.source ≡ Some end → end < s.present + keepalive_period
    → keep s p.destination p.source s.present ≡ (step s e).state
