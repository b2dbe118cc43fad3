-- What the router accepts leaves the group timers of the groups that it doesn't name.
use Rattle.std.{proofs.Common.{◌≡◌, ℕ, ◌&&◌, ◌==◌, nat_le, Bool, true, false, not, cond, List, [], ◌∷◌, map, Option, Some, None, Result, Ok, Err, refl, subst, arith}, specs.List.AllByRecursion}
use Rattle.pim_ip.{specs.{Ipv4.{Packet, ipv4_reading, protocol_igmp}, declared.refusal.Refusal.Refusal}}
use Rattle.pim_types.{specs.declared.{config.IfaceId.IfaceId, event.EventKind.EventKind, outcome.{Ignored.Ignored, Stop.Stop, Verdict.Verdict}}}
use Rattle.pim_wire.{specs.{Messages.pim_reading, declared.view.PimView.PimView}}
use Rattle.igmp_wire.{specs.{Messages.igmp_reading, Values.Record, declared.view.IgmpView.IgmpView}}
use Rattle.pim_model.{specs.{declared.accepted.Accepted.Accepted, Cause.if_done, Judging.{Judged, advance_judged, assert_judged, candidates_judged, data_judged, down_judged, frame_judged, hello_judged, igmp_judged, igmp_message_judged, ignore_if, join_prune_judged, judged, of_read, packet_judged, pim_judged, pim_message_judged, pim_to_me_judged, refuse_if, register_judged, register_stop_judged, routes_judged, rps_judged, unicast_judged, unicast_packet_judged, up_judged, ◌>>◌}, State.State, Tables.Table}}
use Rattle.law_settled.{proofs.ListLaws.by_cond}
use Rattle.igmp_older.{specs.{Naming.{groups_named, groups_of_packet, groups_read}, Translation.{Translation, message_of, message_translated, of_reading, older_translated, packet_given, packet_translated, read_translated, report_translated, translation}, declared.{mode.{Mode.Mode, PresentRow.PresentRow}, older.Older.Older, setting.OlderHosts.OlderHosts}}, proofs.TakenLaws.{IsGivable, message_reads, packet_reads}}
use Rattle.law_hosts.{specs.Staying.KeepsTimer}

-- none of the groups, on interface j, is the group on interface i
abbrev pub Off : ℕ → ℕ → ℕ → List ℕ → Type 0
Off i g j gs = AllByRecursion (λ (h : ℕ). ((j == i) && (h == g)) ≡ false) gs

module _ (t i g : ℕ) where
  abbrev pub Accepts : Judged → Type 0
  Accepts (Err stop) = Unit {0}
  Accepts (Ok a) = KeepsTimer t i g (Some a)

  pub record IsLeft (r : Judged) : Type 0 where
    pub accepts : Accepts r

  accepted : (a : Accepted) → KeepsTimer t i g (Some a) → IsLeft (Ok a)
  accepted a f = record { accepts = f }

  stops : (stop : Stop) → IsLeft (Err stop)
  stops stop = record { accepts = tt }

  refuse_any : (b : Bool) (refusal : Refusal) (next : Judged) → IsLeft next → IsLeft (refuse_if b refusal >> next)
  refuse_any b refusal next f = grind (arith, stops)

  ignore_any : (b : Bool) (reason : Ignored) (next : Judged) → IsLeft next → IsLeft (ignore_if b reason >> next)
  ignore_any b reason next f = grind (arith, stops)

  read_then : {A : Type 0} (r : Result A Refusal) (next : A → Judged) → ((a : A) → r ≡ Ok a → IsLeft (next a)) → IsLeft (of_read r next)
  read_then r next f = grind (arith, stops)

  cond_then : (b : Bool) (x y : Judged) → (b ≡ true → IsLeft x) → IsLeft y → IsLeft (cond b x y)
  cond_then b x y f h = grind arith

  -- what was done was accepted
  pub left_done : (answer : Result Verdict Refusal) (r : Judged) → IsLeft r → KeepsTimer t i g (if_done answer r)
  left_done answer r f = grind arith

  -- ---- a frame

  module _ (s : State) (j : IfaceId) where
    pim_left : (from : ℕ) (view : PimView) → IsLeft (pim_judged s j from view)
    unfolding pim_judged hello_judged join_prune_judged assert_judged
    pim_left from view = grind (arith, ignore_any, accepted, by_cond, stops)

    pim_message_left : (p : Packet) → IsLeft (pim_message_judged s j p)
    unfolding pim_message_judged
    pim_message_left p = read_then (pim_reading p.payload) _ (λ view is. ignore_any _ Ignored.Own _ (pim_left p.source view))

    data_left : (p : Packet) → IsLeft (data_judged s j p)
    unfolding data_judged
    data_left p = ignore_any _ Ignored.Own _ (ignore_any _ Ignored.NotForMe _ (ignore_any _ Ignored.LinkLocal _ (accepted _ tt)))

    further : (a b c : Bool) → (a && b) ≡ false → (a && (b && c)) ≡ false
    further a b c e = grind arith

    each_record : (records : List Record) → Off i g j.number (map (λ (r : Record). r.group) records)
        → AllByRecursion (λ (r : Record). ((j.number == i) && (r.group == g)) ≡ false) records
    each_record [] f = tt
    each_record (r ∷ rs) f = (f.0, each_record rs f.1)

    igmp_left : (p : Packet) → Off i g j.number (groups_read (igmp_reading p.payload)) → IsLeft (igmp_message_judged s j p)
    unfolding igmp_message_judged igmp_judged
    igmp_left p off = read_then (igmp_reading p.payload) _ (λ view is. go view (subst (λ (r : Result IgmpView Refusal). Off i g j.number (groups_read r)) is off))
      where
        go : (view : IgmpView) → Off i g j.number (groups_read (Ok view)) → IsLeft (igmp_judged s j p view)
        go (IgmpView.Query q) off =
            ignore_any _ Ignored.Own _ (ignore_any _ Ignored.NotForMe _ (accepted _ (further (j.number == i) (q.group == g) (not q.suppress) off.0)))
        go (IgmpView.Report records) off = ignore_any _ Ignored.Own _ (ignore_any _ Ignored.NotForMe _ (accepted _ (each_record records off)))

    off_message : (bytes : List ℕ) (p : Packet) → Off i g j.number (groups_named bytes) → ipv4_reading bytes ≡ Ok p → (p.protocol == protocol_igmp) ≡ true
        → Off i g j.number (groups_read (igmp_reading p.payload))
    unfolding groups_named groups_of_packet
    off_message bytes p off is igmp = rw (is, igmp) at off

    pub frame_left : (bytes : List ℕ) → Off i g j.number (groups_named bytes) → IsLeft (frame_judged s j bytes)
    unfolding frame_judged packet_judged
    frame_left bytes off =
        grind (arith, refuse_any, read_then, cond_then, pim_message_left, igmp_left, off_message, data_left)

  -- ---- any other event

  pub unicast_left : (s : State) (bytes : List ℕ) → IsLeft (unicast_judged s bytes)
  unfolding unicast_judged unicast_packet_judged pim_to_me_judged register_judged register_stop_judged
  unicast_left s bytes = grind (arith, read_then, by_cond, ignore_any, stops, accepted)

  abbrev pub KindLeaves : EventKind → Type 0
  KindLeaves (EventKind.Frame j bytes) = Off i g j.number (groups_named bytes)
  KindLeaves (EventKind.Advance moment) = nat_le t moment ≡ false
  KindLeaves (EventKind.Down j) = (j.number == i) ≡ false
  KindLeaves kind = Unit {0}

  pub kind_left : (s : State) (kind : EventKind) → KindLeaves kind → IsLeft (judged s kind)
  unfolding judged up_judged down_judged routes_judged rps_judged candidates_judged advance_judged
  kind_left s kind f = grind (arith, frame_left, refuse_any, accepted, unicast_left, ignore_any)

-- ---- the group of an older message

module _ (rows : Table PresentRow) (now i : ℕ) (hosts : OlderHosts) (older : Older) where
  abbrev Names : Option Translation → Type 0
  Names None = Unit {0}
  Names (Some t) = t.older ≡ Some older → map (λ (r : Record). r.group) t.records ≡ older.group.bits ∷ []

  older_names_of : (mode : Mode) (source : ℕ) (x : Older) → Names (older_translated mode source x)
  unfolding older_translated
  older_names_of mode source x = grind arith

  report_names : (source : ℕ) (rs : List Record) → Names (report_translated rows now i source rs)
  unfolding report_translated
  report_names source rs = grind (arith, by_cond)

  read_names : (source : ℕ) (r : Result IgmpView Refusal) → Names (read_translated rows now i source r)
  read_names source r = grind (arith, report_names)

  message_names : (source : ℕ) (b : List ℕ) (o : Option Older) → Names (message_of rows now i hosts source b o)
  message_names source b o = grind (arith, by_cond, older_names_of, read_names)

  packet_names : (p : Packet) → Names (packet_translated rows now i hosts p)
  unfolding packet_translated message_translated
  packet_names p = grind (arith, by_cond, message_names)

  reading_names : (r : Result Packet Refusal) → Names (of_reading rows now i hosts r)
  reading_names r = grind (arith, packet_names)

  all_names : (b : List ℕ) → Names (translation rows now i hosts b)
  unfolding translation
  all_names b = grind (arith, by_cond, reading_names)

  pub older_names : (b : List ℕ) (t : Translation) → translation rows now i hosts b ≡ Some t → t.older ≡ Some older
      → map (λ (r : Record). r.group) t.records ≡ older.group.bits ∷ []
  older_names b t is said = (subst Names is (all_names b)) said

-- the groups of what is given
pub given_names : (rows : Table PresentRow) (now i : ℕ) (t : Translation) → IsGivable rows now i t
    → groups_named (packet_given t) ≡ map (λ (r : Record). r.group) t.records
unfolding groups_named groups_of_packet
given_names rows now i t ok = rw (packet_reads rows now i t ok, message_reads rows now i t ok) refl
