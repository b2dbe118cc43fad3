-- What the router accepts of what the front gives it: of the group of an older host no BLOCK, and no source of a TO_EX.
use Rattle.std.{proofs.{Common.{◌≡◌, ℕ, ◌&&◌, ◌==◌, nat_le, nat_lt, Bool, true, false, not, cond, List, length, Option, Some, None, Result, Ok, Err, sym, subst, arith, eqb-true}, lemmas.Bool.Decides.nat_tests}, specs.List.AllByRecursion}
use Rattle.pim_ip.{specs.{Ipv4.{Packet, all_pim_routers, frame_limit, ipv4_reading, is_multicast, protocol_igmp, protocol_pim}, declared.refusal.Refusal.Refusal}}
use Rattle.pim_types.{specs.declared.{config.IfaceId.IfaceId, event.EventKind.EventKind, outcome.{Ignored.Ignored, Stop.Stop}}}
use Rattle.pim_wire.{specs.{Messages.pim_reading, declared.view.PimView.PimView}}
use Rattle.igmp_wire.{specs.{Messages.igmp_reading, Reports.report_text, Values.Record, declared.view.IgmpView.IgmpView}}
use Rattle.pim_model.{specs.{declared.accepted.Accepted.Accepted, Judging.{Judged, advance_judged, assert_judged, candidates_judged, data_judged, down_judged, frame_judged, hello_judged, igmp_judged, igmp_message_judged, ignore_if, join_prune_judged, judged, of_read, packet_judged, pim_judged, pim_message_judged, pim_to_me_judged, refuse_if, register_judged, register_stop_judged, routes_judged, rps_judged, unicast_judged, unicast_packet_judged, up_judged, ◌>>◌}, State.State, Tables.Table}}
use Rattle.law_settled.{proofs.ListLaws.by_cond}
use Rattle.igmp_older.{specs.{Joined.{FrontedRouter, bytes_given, kind_given, rows_of}, Older.older_reading, Open.IsMildAbout, Presence.mode_at, Translation.{Translation, are_left_whole, message_of, message_translated, packet_given, packet_translated, report_translated, translation}, declared.{mode.{Mode.Mode, PresentRow.PresentRow}, older.Older.Older, setting.OlderHosts.OlderHosts}}, proofs.{MildLaws.all_whole_mild, TakenLaws.{IsGivable, givable, given_packet, message_reads, older_unread, packet_reads}}}
use Rattle.law_hosts.{specs.Held.KindHolds}

module _ (t i g : ℕ) where
  -- what is accepted, where time doesn't come to t
  abbrev pub Barred : Accepted → Type 0
  Barred (Accepted.Advance moment) = nat_le t moment ≡ false
  Barred (Accepted.Down j) = (j.number == i) ≡ false
  Barred (Accepted.Report j records) = (j.number == i) ≡ true → AllByRecursion (IsMildAbout 0 0 g) records
  Barred a = Unit {0}

  abbrev pub Accepts : Judged → Type 0
  Accepts (Err stop) = Unit {0}
  Accepts (Ok a) = Barred a

  pub record IsBarred (r : Judged) : Type 0 where
    pub accepts : Accepts r

  accepted : (a : Accepted) → Barred a → IsBarred (Ok a)
  accepted a f = record { accepts = f }

  stops : (stop : Stop) → IsBarred (Err stop)
  stops stop = record { accepts = tt }

  refuse_then : (b : Bool) (refusal : Refusal) (next : Judged) → (b ≡ false → IsBarred next) → IsBarred (refuse_if b refusal >> next)
  refuse_then b refusal next f = grind (arith, stops)

  ignore_then : (b : Bool) (reason : Ignored) (next : Judged) → (b ≡ false → IsBarred next) → IsBarred (ignore_if b reason >> next)
  ignore_then b reason next f = grind (arith, stops)

  read_then : {A : Type 0} (r : Result A Refusal) (next : A → Judged) → ((a : A) → r ≡ Ok a → IsBarred (next a)) → IsBarred (of_read r next)
  read_then r next f = grind (arith, stops)

  refuse_any : (b : Bool) (refusal : Refusal) (next : Judged) → IsBarred next → IsBarred (refuse_if b refusal >> next)
  refuse_any b refusal next f = grind (arith, stops)

  ignore_any : (b : Bool) (reason : Ignored) (next : Judged) → IsBarred next → IsBarred (ignore_if b reason >> next)
  ignore_any b reason next f = grind (arith, stops)

  read_any : {A : Type 0} (r : Result A Refusal) (next : A → Judged) → ((a : A) → IsBarred (next a)) → IsBarred (of_read r next)
  read_any r next f = grind (arith, stops)

  cond_then : (b : Bool) (x y : Judged) → (b ≡ true → IsBarred x) → IsBarred y → IsBarred (cond b x y)
  cond_then b x y f h = grind arith

  -- ---- a frame

  module _ (s : State) (j : IfaceId) where
    pim_barred : (from : ℕ) (view : PimView) → IsBarred (pim_judged s j from view)
    unfolding pim_judged hello_judged join_prune_judged assert_judged
    pim_barred from view = grind (arith, ignore_any, accepted, by_cond, stops)

    pim_message_barred : (p : Packet) → IsBarred (pim_message_judged s j p)
    unfolding pim_message_judged
    pim_message_barred p = read_any (pim_reading p.payload) _ (λ view. ignore_any _ Ignored.Own _ (pim_barred p.source view))

    data_barred : (p : Packet) → IsBarred (data_judged s j p)
    unfolding data_judged
    data_barred p = ignore_any _ Ignored.Own _ (ignore_any _ Ignored.NotForMe _ (ignore_any _ Ignored.LinkLocal _ (accepted _ tt)))

    not_false : (b : Bool) → not b ≡ false → b ≡ true
    not_false b e = grind arith

    -- of reports that are barred
    igmp_barred : (p : Packet)
        → ((records : List Record) → igmp_reading p.payload ≡ Ok (IgmpView.Report records) → is_multicast p.destination ≡ true
        → (j.number == i) ≡ true → AllByRecursion (IsMildAbout 0 0 g) records)
        → IsBarred (igmp_message_judged s j p)
    unfolding igmp_message_judged igmp_judged
    igmp_barred p f = grind (arith, read_then, ignore_any, accepted, ignore_then, not_false)

    -- of a packet that was read, in a frame that isn't too long
    frame_barred : (bytes : List ℕ)
        → ((p : Packet) (records : List Record) → nat_lt frame_limit (length bytes) ≡ false → ipv4_reading bytes ≡ Ok p
        → (p.protocol == protocol_igmp) ≡ true → is_multicast p.destination ≡ true → igmp_reading p.payload ≡ Ok (IgmpView.Report records)
        → (j.number == i) ≡ true → AllByRecursion (IsMildAbout 0 0 g) records)
        → IsBarred (frame_judged s j bytes)
    unfolding frame_judged packet_judged
    frame_barred bytes f =
        refuse_any _ Refusal.NoInterface _ (refuse_any _ Refusal.InterfaceDown _
        (refuse_then (nat_lt frame_limit (length bytes)) Refusal.BadLength (of_read (ipv4_reading bytes) (packet_judged s j)) (λ short.
        read_then (ipv4_reading bytes) (packet_judged s j) (λ p is.
        cond_then ((p.protocol == protocol_pim) && (p.destination == all_pim_routers)) (pim_message_judged s j p)
        (cond (p.protocol == protocol_igmp) (igmp_message_judged s j p) (data_judged s j p)) (λ e. pim_message_barred p)
        (cond_then (p.protocol == protocol_igmp) (igmp_message_judged s j p) (data_judged s j p)
        (λ igmp. igmp_barred p (λ records read group. f p records short is igmp group read)) (data_barred p))))))

  -- ---- a frame that the front gives

  module _ (rows : Table PresentRow) (now : ℕ) (hosts : OlderHosts) (other : mode_at rows now i g ≡ Mode.Three → ⊥) where
    -- a packet in the place of another
    given_barred : (s : State) (j : IfaceId) (b : List ℕ) (x : Translation) → translation rows now j.number hosts b ≡ Some x → j.number ≡ i
        → (p : Packet) (records : List Record) → ipv4_reading (packet_given x) ≡ Ok p → igmp_reading p.payload ≡ Ok (IgmpView.Report records)
        → AllByRecursion (IsMildAbout 0 0 g) records
    given_barred s j b x is here p records reads read =
        let ok : IsGivable rows now j.number x = givable rows now j.number hosts b x is in
        let same : given_packet x ≡ p = cc (packet_reads rows now j.number x ok) in
        let told : igmp_reading (report_text x.records) ≡ Ok (IgmpView.Report records) =
        subst (λ (q : Packet). igmp_reading q.payload ≡ Ok (IgmpView.Report records)) (sym same) read in
        let values : x.records ≡ records = cc (message_reads rows now j.number x ok) in
        subst (λ (rs : List Record). AllByRecursion (IsMildAbout 0 0 g) rs) values
        (ok.mild g (subst (λ (n : ℕ). mode_at rows now n g ≡ Mode.Three → ⊥) (sym here) other))

    -- a report that passes as it came
    whole_so : (source : ℕ) (rs : List Record) → report_translated rows now i source rs ≡ None → are_left_whole rows now i rs ≡ true
    unfolding report_translated
    whole_so source rs e = grind arith

    passing_barred : (source : ℕ) (b : List ℕ) (records : List Record) (o : Option Older) → older_reading b ≡ o
        → igmp_reading b ≡ Ok (IgmpView.Report records) → message_of rows now i hosts source b o ≡ None → AllByRecursion (IsMildAbout 0 0 g) records
    passing_barred source b records o is read e = grind (arith, older_unread, all_whole_mild, whole_so)

    same_barred : (b : List ℕ) → translation rows now i hosts b ≡ None → (p : Packet) (records : List Record)
        → nat_lt frame_limit (length b) ≡ false → ipv4_reading b ≡ Ok p → (p.protocol == protocol_igmp) ≡ true → is_multicast p.destination ≡ true
        → igmp_reading p.payload ≡ Ok (IgmpView.Report records) → AllByRecursion (IsMildAbout 0 0 g) records
    unfolding translation packet_translated message_translated
    same_barred b e p records short reads igmp group read = grind (arith, nat_tests, passing_barred)

    bytes_barred : (s : State) (j : IfaceId) (b : List ℕ) → IsBarred (frame_judged s j (bytes_given rows now j.number hosts b))
    unfolding bytes_given
    bytes_barred s j b = grind (arith, frame_barred, given_barred, eqb-true, same_barred)

  -- ---- any event

  unicast_barred : (s : State) (bytes : List ℕ) → IsBarred (unicast_judged s bytes)
  unfolding unicast_judged unicast_packet_judged pim_to_me_judged register_judged register_stop_judged
  unicast_barred s bytes = grind (arith, read_any, by_cond, ignore_any, stops, accepted)

  pub all_barred : (b : FrontedRouter) (kind : EventKind) → (mode_at (rows_of b) b.state.present i g ≡ Mode.Three → ⊥) → KindHolds t i kind
      → IsBarred (judged b.state (kind_given b kind))
  unfolding judged kind_given up_judged down_judged routes_judged rps_judged candidates_judged advance_judged
  all_barred b kind other f = grind (arith, bytes_barred, refuse_any, accepted, unicast_barred, ignore_any)
