-- Every event leaves the rows sure, and time that passes leaves of them what is to stay.
use Rattle.std.{proofs.{Common.{◌≡◌, ◌∙◌, ℕ, ◌&&◌, ◌||◌, nat_lt, Bool, true, false, cond, List, [], ◌∷◌, filter, filter_map, is_some, length, map, Option, Some, None, Ok, refl, sym, ap, subst, arith}, lemmas.Bool.Decides.nat_tests}, specs.{List.{AllByRecursion, cons_option}, Option.option_map_or, Prelude.option_and_then}}
use Rattle.pim_types.{specs.{Keys.{group_in, iface_in, is_on, same_key, star_key}, declared.{config.IfaceId.IfaceId, event.{Event.Event, EventKind.EventKind}, fact.{GroupRecordRow.GroupRecordRow, Key.Key}, outcome.Verdict.Verdict}}, proofs.Keys.same_key_same}
use Rattle.pim_model.{specs.{Querier.group_end, State.State, Step.step, Tables.{Table, has_row, put, row_at}}}
use Rattle.law_settled.{proofs.{ListLaws.{each_both, each_more}, FineTables.{Fine, fine_dropped, fine_more}, RisingKeys.{sorted_of_up, up_of_sorted, up_put}}, specs.Ready.IsSettled}
use Rattle.law_streams.{proofs.Climbs.swapped}
use Rattle.igmp_older.{specs.{Joined.{FrontedRouter, bytes_given, event_given, joined, joined_step, kind_given, known_after, known_if, noted_if, older_of, present_end, rows_of}, Modes.{heard, is_report, row_by, runs}, Naming.groups_named, Open.runs_until, Presence.{Present, doubted, entry_after, forgotten, has_record, has_room, hosts_on, left, looked, noted_of, report_noted, row_after, timers_at}, Translation.{Translation, packet_given, translation}, declared.{mode.PresentRow.PresentRow, older.{Older.Older, OlderKind.OlderKind}}}, proofs.TakenLaws.givable}
use Rattle.law_hosts.{specs.Sure.{IsSure, IsSureRow, timers_of}, proofs.{Begins.older_begins, Held.still_settled, Named.{KindLeaves, Off, given_names, older_names}, Stays.event_keeps_timer, Sure.{Row, advance_leaves, all_doubted, all_stay, by_kind, looked_sure, none_at, off_by, only_put, stays_so, sure_closed}}}

-- ---- a packet

module _ (s : State) (e : Event) (rest : IsSettled s) (j : IfaceId) (bytes : List ℕ) (is : e.kind ≡ EventKind.Frame j bytes) where
  abbrev after : State
  after = (step s e).state

  unnamed : (t i g : ℕ) (gs : List ℕ) → groups_named bytes ≡ gs → Off i g j.number gs → KindLeaves t i g e.kind
  unnamed t i g gs names off = grind arith

  doubted_sure : (gs : List ℕ) → groups_named bytes ≡ gs → (p : Present) → Fine (IsSureRow s) p.rows → Fine (IsSureRow after) (doubted j.number gs p).rows
  unfolding doubted
  doubted_sure gs names p f = grind (arith, fine_more, stays_so, unnamed, all_doubted, sure_closed)

  module _ (older : Older) (end : ℕ) (names : groups_named bytes ≡ older.group.bits ∷ []) where
    abbrev key : Key
    key = star_key j.number older.group.bits

    heard_sure : (kind : OlderKind) (row : PresentRow) → is_report kind ≡ true → runs_until end (group_end after j.number older.group.bits) ≡ true
        → IsSureRow after (key, heard end kind row)
    heard_sure kind row told last = grind (arith, nat_tests, same_key_same)

    another : (x : Row) → IsSureRow s x → same_key key x.0 ≡ false → IsSureRow after x
    another x r off = grind (arith, stays_so, unnamed, off_by)

    no_row : (a b : Bool) → (a || b) ≡ false → a ≡ false
    no_row a b e = grind arith

    none_there : (o : Option PresentRow) → is_some o ≡ false → o ≡ None
    none_there o e = grind arith

    report_sure : is_report older.kind ≡ true → (p : Present)
        → (has_room p j.number older.group.bits ≡ true → runs_until end (group_end after j.number older.group.bits) ≡ true)
        → Fine (IsSureRow s) p.rows → Fine (IsSureRow after) (report_noted p j.number older end).rows
    unfolding report_noted has_row
    report_sure told p opens f = go (has_room p j.number older.group.bits) refl
      where
        new : PresentRow
        new = heard end older.kind (timers_at p.rows j.number older.group.bits)

        go : (b : Bool) → has_room p j.number older.group.bits ≡ b
            → Fine (IsSureRow after) (cond b (let q : Present = record p { rows = put p.rows key new } in q) p).rows
        go true room = record {
          up = up_put key new p.rows f.up;
          each =
              only_put key new (IsSureRow after) (heard_sure older.kind (timers_at p.rows j.number older.group.bits) told (opens room)) p.rows f.up
              (each_more (IsSureRow s) (λ x. same_key key x.0 ≡ false → IsSureRow after x) another p.rows f.each);
        }
        go false full = record {
          up = f.up;
          each =
              each_both (IsSureRow s) (λ (x : Row). same_key key x.0 ≡ false) (IsSureRow after) another p.rows f.each
              (none_at key p.rows (none_there (row_at p.rows key) (no_row (is_some (row_at p.rows key)) (nat_lt (length p.rows) p.limit) full)));
        }

-- ---- any event

module _ (b : FrontedRouter) (w : ℕ) (rest : IsSettled b.state) (f : Fine (IsSureRow b.state) b.present.rows) where
  abbrev event : EventKind → Event
  event kind = record { draw = w; kind = kind }

  abbrev state_after : EventKind → State
  state_after kind = (step b.state (event_given b (event kind))).state

  abbrev IsDone : EventKind → Type 0
  IsDone kind = (step b.state (event_given b (event kind))).answer ≡ Ok Verdict.Done

  module _ (i : IfaceId) (bytes : List ℕ) where
    abbrev content : List ℕ
    content = bytes_given (rows_of b) b.state.present i.number (hosts_on b.present i.number) bytes

    abbrev given : Event
    given = event_given b (event (EventKind.Frame i bytes))

    is_frame : given.kind ≡ EventKind.Frame i content
    unfolding event_given kind_given
    is_frame = refl

    content_is : (t : Translation) → translation (rows_of b) b.state.present i.number (hosts_on b.present i.number) bytes ≡ Some t → content ≡ packet_given t
    unfolding bytes_given
    content_is t is = ap (λ (o : Option Translation). option_map_or packet_given o bytes) is

    named : (t : Translation) (older : Older) → translation (rows_of b) b.state.present i.number (hosts_on b.present i.number) bytes ≡ Some t
        → t.older ≡ Some older → groups_named content ≡ older.group.bits ∷ []
    named t older is said =
        ap groups_named (content_is t is)
        ∙ (given_names (rows_of b) b.state.present i.number t (givable (rows_of b) b.state.present i.number (hosts_on b.present i.number) bytes t is)
        ∙ older_names (rows_of b) b.state.present i.number (hosts_on b.present i.number) older bytes t is said)

    frame_rows : IsDone (EventKind.Frame i bytes) → (joined_step b (event (EventKind.Frame i bytes))).0.answer ≡ Ok Verdict.Done
        → Fine (IsSureRow (state_after (EventKind.Frame i bytes)))
        (noted_if b.present i.number (present_end b.state i.number) content
        (older_of (translation (rows_of b) b.state.present i.number (hosts_on b.present i.number) bytes))).rows
    unfolding joined_step
    frame_rows done answered = go (translation (rows_of b) b.state.present i.number (hosts_on b.present i.number) bytes) refl
      where
        of_kind : (t : Translation) (older : Older) → translation (rows_of b) b.state.present i.number (hosts_on b.present i.number) bytes ≡ Some t
            → t.older ≡ Some older → (kind : OlderKind) → older.kind ≡ kind
            → Fine (IsSureRow (state_after (EventKind.Frame i bytes))) (noted_of kind b.present i.number older (present_end b.state i.number)).rows
        of_kind t older is said OlderKind.Leave same =
            doubted_sure b.state given rest i content is_frame (older.group.bits ∷ []) (named t older is said) b.present f
        of_kind t older is said OlderKind.ReportOne same =
            let told : is_report older.kind ≡ true = ap is_report same in
            report_sure b.state given rest i content is_frame older (present_end b.state i.number) (named t older is said) told b.present
            (λ room. ((older_begins b w i bytes t older older.group.bits is said told refl room answered).open_there).group) f
        of_kind t older is said OlderKind.ReportTwo same =
            let told : is_report older.kind ≡ true = ap is_report same in
            report_sure b.state given rest i content is_frame older (present_end b.state i.number) (named t older is said) told b.present
            (λ room. ((older_begins b w i bytes t older older.group.bits is said told refl room answered).open_there).group) f

        of_older : (t : Translation) → translation (rows_of b) b.state.present i.number (hosts_on b.present i.number) bytes ≡ Some t
            → (o : Option Older) → t.older ≡ o
            → Fine (IsSureRow (state_after (EventKind.Frame i bytes))) (noted_if b.present i.number (present_end b.state i.number) content o).rows
        of_older t is None said = doubted_sure b.state given rest i content is_frame (groups_named content) refl b.present f
        of_older t is (Some older) said = of_kind t older is said older.kind refl

        go : (o : Option Translation) → translation (rows_of b) b.state.present i.number (hosts_on b.present i.number) bytes ≡ o
            → Fine (IsSureRow (state_after (EventKind.Frame i bytes)))
            (noted_if b.present i.number (present_end b.state i.number) content (older_of o)).rows
        go None is = doubted_sure b.state given rest i content is_frame (groups_named content) refl b.present f
        go (Some t) is = of_older t is t.older refl

  -- an event that changes no row
  same_rows : (kind : EventKind) → ((t i g : ℕ) → KindLeaves t i g (event_given b (event kind)).kind) → Fine (IsSureRow (state_after kind)) b.present.rows
  same_rows kind leaves =
      fine_more (IsSureRow b.state) (IsSureRow (state_after kind))
      (λ x r. stays_so b.state (event_given b (event kind)) rest x r (λ later. leaves (x.1).look (iface_in x.0) (group_in x.0))) b.present.rows f

  done_rows : (kind : EventKind) → IsDone kind → (joined_step b (event kind)).0.answer ≡ Ok Verdict.Done
      → Fine (IsSureRow (state_after kind)) (known_after b (state_after kind) kind).rows
  unfolding known_after left event_given kind_given
  done_rows (EventKind.Frame i bytes) done answered = frame_rows i bytes done answered
  done_rows (EventKind.Advance m) done answered = grind (arith, looked_sure)
  done_rows (EventKind.Down j) done answered =
      fine_dropped (IsSureRow b.state) (IsSureRow (state_after (EventKind.Down j))) (is_on j.number)
      (λ x r off. stays_so b.state (event_given b (event (EventKind.Down j))) rest x r (λ later. swapped (iface_in x.0) j.number off)) b.present.rows f
  done_rows (EventKind.Unicast bytes) done answered = same_rows (EventKind.Unicast bytes) (λ t i g. tt)
  done_rows (EventKind.Up j) done answered = same_rows (EventKind.Up j) (λ t i g. tt)
  done_rows (EventKind.Routes routes) done answered = same_rows (EventKind.Routes routes) (λ t i g. tt)
  done_rows (EventKind.Rps rps) done answered = same_rows (EventKind.Rps rps) (λ t i g. tt)
  done_rows (EventKind.RpCandidates candidates) done answered = same_rows (EventKind.RpCandidates candidates) (λ t i g. tt)

  step_rows : (kind : EventKind) → Fine (IsSureRow (state_after kind)) (joined_step b (event kind)).1.present.rows
  unfolding joined_step known_if
  step_rows kind = grind (arith, done_rows, all_stay)

pub step_is_sure : (b : FrontedRouter) (e : Event) → IsSettled b.state → IsSure b → IsSure (joined_step b e).1
unfolding joined_step
step_is_sure b e rest sure =
    let after = step_rows b e.draw rest (record { up = up_of_sorted b.present.rows sure.rises; each = sure.rows }) e.kind in
    record { rises = sorted_of_up (joined_step b e).1.present.rows after.up; rows = after.each }

pub run_is_sure : (b : FrontedRouter) (es : List Event) → IsSettled b.state → IsSure b → IsSure (joined b es).1
unfolding joined
run_is_sure b [] rest sure = sure
run_is_sure b (e ∷ es) rest sure = run_is_sure (joined_step b e).1 es (still_settled b e rest) (step_is_sure b e rest sure)

-- ---- what time leaves

module _ (s : State) (e : Event) (rest : IsSettled s) (m : ℕ) (is : e.kind ≡ EventKind.Advance m) where
  abbrev groups : Table GroupRecordRow
  groups = (step s e).state.group_records

  abbrev test : Row → Bool
  test x = runs m x.1 && has_record groups x.0

  -- a row that isn't looked at is to stay
  runs_on : (x : Row) → IsSureRow s x → nat_lt m (x.1).look ≡ true → runs m x.1 ≡ true
  runs_on x f before = go (nat_lt m (x.1).one_end) (nat_lt m (x.1).two_end) refl refl
    where
      go : (a b : Bool) → nat_lt m (x.1).one_end ≡ a → nat_lt m (x.1).two_end ≡ b → (a || b) ≡ true
      go true b ea eb = refl
      go false true ea eb = refl
      go false false ea eb = absurd (grind (arith, nat_tests, f.within, before, ea, eb))

  timer_there : (o : Option GroupRecordRow) (t : ℕ) → runs_until t (option_and_then (λ (r : GroupRecordRow). r.end) o) ≡ true → is_some o ≡ true
  timer_there o t h = grind arith

  record_lasts : (x : Row) → IsSureRow s x → nat_lt m (x.1).look ≡ true → has_record groups x.0 ≡ true
  unfolding has_row
  record_lasts x f before =
      let later : nat_lt 0 (x.1).look ≡ true = grind (arith, nat_tests, before) in
      let i : ℕ = iface_in x.0 in
      let g : ℕ = group_in x.0 in
      timer_there (row_at groups (star_key i g)) (x.1).look
      (subst (λ (end : Option ℕ). runs_until (x.1).look end ≡ true)
      (sym (event_keeps_timer (x.1).look i g s e rest (f.lasts later) (by_kind s e rest (x.1).look i g (advance_leaves s e rest m is (x.1).look i g before))))
      (f.lasts later))

  one_row : (x : Row) → IsSureRow s x → (xs ys : Table PresentRow) → map timers_of xs ≡ map timers_of ys
      → map timers_of (cons_option (entry_after groups m x) xs) ≡ map timers_of (cond (test x) (x ∷ ys) ys)
  unfolding row_after row_by has_row
  one_row x f xs ys same = grind (arith, runs_on, record_lasts)

  all_rows : (t : Table PresentRow) → AllByRecursion (IsSureRow s) t
      → map timers_of (filter_map (entry_after groups m) t) ≡ map timers_of (filter test t)
  all_rows [] f = refl
  all_rows (x ∷ xs) f = one_row x f.0 (filter_map (entry_after groups m) xs) (filter test xs) (all_rows xs f.1)

pub time_forgets : (b : FrontedRouter) (w m : ℕ) → IsSettled b.state → IsSure b
    → (let e : Event = record { draw = w; kind = EventKind.Advance m } in
    let after : FrontedRouter = (joined_step b e).1 in
    (joined_step b e).0.answer ≡ Ok Verdict.Done
    → map timers_of after.present.rows ≡ map timers_of (forgotten after.state.group_records m b.present).rows)
unfolding joined_step known_if known_after looked forgotten event_given kind_given
time_forgets b w m rest sure done = grind (arith, all_rows)
