-- A report of an older host that the router takes holds its group.
use Rattle.std.{proofs.{Common.{◌≡◌, ◌∙◌, ℕ, nat_le, nat_lt, Bool, true, false, not, List, length, Some, Ok, refl, sym, ap, subst, arith}, lemmas.Bool.{or_left, or_right, Decides.nat_tests}}}
use Rattle.pim_ip.{specs.{Ipv4.frame_limit, declared.refusal.Refusal.Refusal}}
use Rattle.pim_types.{specs.declared.{config.IfaceId.IfaceId, event.{Event.Event, EventKind.EventKind}, outcome.{Ignored.Ignored, Verdict.Verdict}}}
use Rattle.igmp_wire.{specs.Values.Record}
use Rattle.pim_model.{specs.{declared.accepted.Accepted.Accepted, Full.is_full, Judging.{Judged, frame_judged, igmp_judged, igmp_message_judged, ignore_if, judged, packet_judged, refuse_if, ◌>>◌}, Querier.report_seen, State.{State, iface_count, is_own, is_up}, Step.{Answered, change, concluded, done, step, taken, taken_unless_full}, Tables.Table}}
use Rattle.law_settled.{proofs.{RowLaws.row_put, UnchangedLaws.full_or_taken}}
use Rattle.law_streams.{proofs.Same.{Rows, settled_same}}
use Rattle.igmp_older.{specs.{Joined.{FrontedRouter, bytes_given, event_given, joined_step, kind_given, known_after, known_if, present_end, rows_of}, Modes.{heard, is_report}, Open.IsOpen, Presence.{Present, has_room, hosts_on, noted_of, report_noted, timers_at}, Translation.{Translation, packet_given, translation}, declared.{mode.PresentRow.PresentRow, older.{Older.Older, OlderKind.OlderKind}}}, proofs.{OpenLaws.{Tables, older_report_opens, same_open}, TakenLaws.{IsGivable, givable, message_reads, packet_reads, packet_size}}}
use Rattle.law_hosts.{specs.Held.{IsHeld, knows_until}}

-- ---- what was done was accepted

-- four tests before what is accepted
abbrev tested : Bool → Bool → Bool → Bool → Accepted → Judged
tested a b c d x =
    refuse_if a Refusal.NoInterface >> refuse_if (not b) Refusal.InterfaceDown >> refuse_if c Refusal.BadLength >> ignore_if d Ignored.Own >> Ok x

passed : (s : State) (next : Accepted → Answered) (a b c d : Bool) (x : Accepted) → (concluded s next (tested a b c d x)).answer ≡ Ok Verdict.Done
    → concluded s next (tested a b c d x) ≡ next x
passed s next a b c d x e = grind arith

not_full : (s : State) (w : ℕ) (a : Accepted) (b : Bool) → (full_or_taken s w a b).answer ≡ Ok Verdict.Done → full_or_taken s w a b ≡ taken s w a
not_full s w a b e = grind arith

-- what the front gives is judged by four tests
given_judged : (s : State) (i : IfaceId) (now : ℕ) (rows : Table PresentRow) (t : Translation) → IsGivable rows now i.number t
    → frame_judged s i (packet_given t)
    ≡ tested (nat_le (iface_count s) i.number) (is_up s i.number) false (is_own s t.source) (Accepted.Report i t.records)
unfolding frame_judged packet_judged igmp_message_judged igmp_judged
given_judged s i now rows t g =
    let short : nat_lt frame_limit (length (packet_given t)) ≡ false = grind (arith, nat_tests, packet_size t, g.size) in
    rw (short, packet_reads rows now i.number t g, message_reads rows now i.number t g) refl

-- ---- the front knows it

heard_until : (end : ℕ) (kind : OlderKind) (row : PresentRow) → is_report kind ≡ true → nat_le end end ≡ true → knows_until end (heard end kind row) ≡ true
heard_until end kind row e h = grind (arith, or_left, or_right)

noted_is : (kind : OlderKind) (p : Present) (i end : ℕ) (older : Older) → is_report kind ≡ true → noted_of kind p i older end ≡ report_noted p i older end
noted_is kind p i end older e = grind arith

noted_known : (p : Present) (i end : ℕ) (older : Older) → is_report older.kind ≡ true → has_room p i older.group.bits ≡ true
    → knows_until end (timers_at (report_noted p i older end).rows i older.group.bits) ≡ true
unfolding report_noted timers_at
noted_known p i end older told room = grind (arith, row_put, nat_tests, heard_until)

module _ (b : FrontedRouter) (w : ℕ) (i : IfaceId) (bytes : List ℕ) (t : Translation) (older : Older)
    (is : translation (rows_of b) b.state.present i.number (hosts_on b.present i.number) bytes ≡ Some t) (said : t.older ≡ Some older) (told : is_report older.kind ≡ true)
    (room : has_room b.present i.number older.group.bits ≡ true) where
  abbrev s : State
  s = b.state

  abbrev e : Event
  e = record { draw = w; kind = EventKind.Frame i bytes }

  abbrev report : Accepted
  report = Accepted.Report i t.records

  ok : IsGivable (rows_of b) s.present i.number t
  ok = givable (rows_of b) s.present i.number (hosts_on b.present i.number) bytes t is

  is_given : kind_given b (EventKind.Frame i bytes) ≡ EventKind.Frame i (packet_given t)
  unfolding kind_given bytes_given
  is_given = rw is refl

  judged_so : judged s (kind_given b (EventKind.Frame i bytes))
      ≡ tested (nat_le (iface_count s) i.number) (is_up s i.number) false (is_own s t.source) report
  unfolding judged
  judged_so = ap (λ (kind : EventKind). judged s kind) is_given ∙ given_judged s i s.present (rows_of b) t ok

  stepped : (step s (event_given b e)).answer ≡ Ok Verdict.Done → step s (event_given b e) ≡ taken s w report
  unfolding step event_given taken_unless_full
  stepped done =
      let by : concluded s (taken_unless_full s w) (judged s (kind_given b (EventKind.Frame i bytes)))
      ≡ concluded s (taken_unless_full s w) (tested (nat_le (iface_count s) i.number) (is_up s i.number) false (is_own s t.source) report) =
      ap (λ (j : Judged). concluded s (taken_unless_full s w) j) judged_so in
      let through = passed s (taken_unless_full s w) (nat_le (iface_count s) i.number) (is_up s i.number) false (is_own s t.source) report
      (ap (λ (a : Answered). a.answer) (sym by) ∙ done) in
      by ∙ through ∙ not_full s w report (is_full s report) (ap (λ (a : Answered). a.answer) (sym (by ∙ through)) ∙ done)

  opens : IsOpen (present_end s i.number) i.number older.group.bits (taken s w report).state
  unfolding taken done change
  opens =
      let parts = ok.reports older said told in
      let seen : State = (report_seen s i.number t.records).0 in
      let first : IsOpen (present_end s i.number) i.number older.group.bits seen =
      subst (λ (rs : List Record). IsOpen (present_end s i.number) i.number older.group.bits (report_seen s i.number rs).0) (sym parts.0)
      (older_report_opens i.number older.group.bits s parts.1) in
      same_open (present_end s i.number) i.number older.group.bits seen (taken s w report).state
      (ap (λ (x : Rows). let y : Tables (present_end s i.number) i.number older.group.bits = record { groups = x.groups; sources = x.sources } in y)
      (settled_same s (seen, (report_seen s i.number t.records).1) w)) first

  known_so : (after : State) → known_after b after (EventKind.Frame i bytes) ≡ report_noted b.present i.number older (present_end s i.number)
  unfolding known_after
  known_so after = rw (is, said) (noted_is older.kind b.present i.number (present_end s i.number) older told)

  held : (joined_step b e).0.answer ≡ Ok Verdict.Done → IsHeld (present_end s i.number) i.number older.group.bits (joined_step b e).1
  unfolding joined_step known_if
  held done = grind (arith, stepped, opens, known_so, noted_known)

pub older_begins : (b : FrontedRouter) (w : ℕ) (i : IfaceId) (bytes : List ℕ) (t : Translation) (older : Older) (g : ℕ)
    → translation (rows_of b) b.state.present i.number (hosts_on b.present i.number) bytes ≡ Some t → t.older ≡ Some older → is_report older.kind ≡ true
    → older.group.bits ≡ g → has_room b.present i.number g ≡ true
    → (let e : Event = record { draw = w; kind = EventKind.Frame i bytes } in
    (joined_step b e).0.answer ≡ Ok Verdict.Done → IsHeld (present_end b.state i.number) i.number g (joined_step b e).1)
older_begins b w i bytes t older g is said told same room done =
    subst (λ (x : ℕ). IsHeld (present_end b.state i.number) i.number x (joined_step b (record { draw = w; kind = EventKind.Frame i bytes })).1) same
    (held b w i bytes t older is said told (subst (λ (x : ℕ). has_room b.present i.number x ≡ true) (sym same) room) done)
