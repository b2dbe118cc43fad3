-- Whether general queries and members' answers come in time, as ExactlyOneQuerier and MemberComesToBeKnown ask: tests, and
-- that where they pass they do.
use Rattle.std.{proofs.{Common.{◌≡◌, ◌∙◌, ℕ, ◌+◌, ◌*◌, ◌≤◌, ◌==◌, nat_le, nat_lt, not, ◌&&◌, Bool, true, false, List, ◌∷◌, inl, inr, is_some, Option, Some, None, refl, ap, subst, arith, eqb-true}, lemmas.{Bool.Decides.nat_tests}}, specs.{Cmp.{first_so, second_so}, List.{list_all, list_any}, Option.option_map_or, Prelude.slice_get}}
use Rattle.pim_ip.{specs.Ipv4.{header_text, igmp_packet_text, is_unicast}, specs.Checksum.with_checksum}
use Rattle.pim_types.{specs.{declared.{config.{Settings.Settings, SptSwitch.SptSwitch}, event.Event.Event, fact.{QuerierRole.QuerierRole, QuerierRow.QuerierRow}}}}
use Rattle.pim_model.{specs.{declared.accepted.Accepted.Accepted, Cause.done_as, Network.{Move, Network, Sent, Station, event_of, moved, station_at}, Querier.{group_end, group_membership_interval, is_lower_querier, querier_on}, State.{State, address_among, iface_count, is_own, is_up}, Tables.{same_option}}}
use Rattle.law_hosts.{specs.Members.{answers, leaves}}
use Rattle.law_streams.{specs.{Adjacent.{Adjacent, begins_or_ends}, Copies.happens, InTimeJoins.{IsReady, time_at}}}
use Rattle.law_converges.{specs.{LinkDr.{IsOne, Member, between}, LinkMembers.{AnswerComes, AnswerComesBy, AnswerInTime, AnswersInTime, MemberAnswers, ends_record}, LinkQuerier.{AskInTime, Asks, HoldsBack, KeepsLead, LeadsBy, QueriesInTime, QueryComes, QueryComesBy, QueryInTime, cuts, general_of, interval_of, is_own as goes_by_its_own, present_for, query_packet, role_end, takes_lead}}, proofs.{HelloTests.one_of, Tested.{Delivery, Found, comes_by, comes_so, delivery_so, found, happens_not, is_delivery, late_so, late_test, le_so, lt_so, moves_so, always_so, not_so, off_so, run_test, same_so, then, told_so, told_test}}}

abbrev same_spt : SptSwitch → SptSwitch → Bool
same_spt SptSwitch.Always SptSwitch.Always = true
same_spt SptSwitch.Never SptSwitch.Never = true
same_spt a b = false

spt_so : (a b : SptSwitch) → same_spt a b ≡ true → a ≡ b
spt_so SptSwitch.Always SptSwitch.Always e = refl
spt_so SptSwitch.Never SptSwitch.Never e = refl
spt_so SptSwitch.Always SptSwitch.Never e = cc e
spt_so SptSwitch.Never SptSwitch.Always e = cc e

abbrev same_settings : Settings → Settings → Bool
same_settings s t =
    (s.limit == t.limit) && (same_spt s.spt t.spt && ((s.robustness == t.robustness) && ((s.query_interval == t.query_interval)
    && ((s.query_response_interval == t.query_response_interval) && (s.last_member_query_interval == t.last_member_query_interval)))))

settings_so : (s t : Settings) → same_settings s t ≡ true → s ≡ t
settings_so s t e =
    then e (λ limit e. then e (λ spt e. then e (λ robustness e. then e (λ interval e. then e (λ response last.
    made (eqb-true _ _ limit) (spt_so _ _ spt) (eqb-true _ _ robustness) (eqb-true _ _ interval) (eqb-true _ _ response) (eqb-true _ _ last))))))
  where
    made : s.limit ≡ t.limit → s.spt ≡ t.spt → s.robustness ≡ t.robustness → s.query_interval ≡ t.query_interval
        → s.query_response_interval ≡ t.query_response_interval → s.last_member_query_interval ≡ t.last_member_query_interval → s ≡ t
    made a b c d e f = grind arith

query_is_igmp : (address : ℕ) (t : Settings) → slice_get (query_packet address t) 9 ≡ Some 2
unfolding igmp_packet_text header_text with_checksum
query_is_igmp address t = refl

module _ (d bound : ℕ) (started : ℕ → ℕ) where
  -- ---- queries

  module _ (t : Settings) (c : Adjacent) where
    abbrev pub asks_test : Network → Bool
    asks_test n = option_map_or (λ (st : Station). same_settings (st.state).settings t
        && (is_some (querier_on st.state c.iface) && (same_option (slice_get st.links c.iface) (Some c.link)
        && ((address_among (st.state).configured c.iface == c.address) && is_unicast c.address)))) (station_at n c.lower) false

    pub asks_so : (n : Network) → asks_test n ≡ true → Asks t c n
    asks_so n e =
        let f : Found Station _ (station_at n c.lower) = found Station _ (station_at n c.lower) e in
        then f.passes (λ settings e. then e (λ row e. then e (λ linked e. then e (λ own host. go f.it f.is settings
        (some_so (querier_on (f.it).state c.iface) row) linked own host))))
      where
        some_so : (o : Option QuerierRow) → is_some o ≡ true → Found QuerierRow (λ row. true) o
        some_so None e = cc e
        some_so (Some row) e = record { it = row; is = refl; passes = refl }

        go : (st : Station) → station_at n c.lower ≡ Some st → same_settings (st.state).settings t ≡ true
            → Found QuerierRow (λ row. true) (querier_on st.state c.iface) → same_option (slice_get st.links c.iface) (Some c.link) ≡ true
            → (address_among (st.state).configured c.iface == c.address) ≡ true → is_unicast c.address ≡ true → Asks t c n
        go st there settings row linked own host = record {
          station = st;
          there = there;
          settings = settings_so (st.state).settings t settings;
          row = row.it;
          found = row.is;
          linked = same_so _ _ linked;
          own = eqb-true _ _ own;
          from_host = host;
        }

    abbrev pub leads_test : Network → Bool
    leads_test n = option_map_or (λ (st : Station). option_map_or (λ (row : QuerierRow).
        goes_by_its_own t row.role row && nat_le (role_end row.role + started c.lower + 2 * d) bound) (querier_on st.state c.iface) false) (station_at n c.lower) false

    pub leads_so : (n : Network) → leads_test n ≡ true → LeadsBy t d bound started c n
    leads_so n e =
        let f : Found Station _ (station_at n c.lower) = found Station _ (station_at n c.lower) e in
        let g : Found QuerierRow _ (querier_on (f.it).state c.iface) = found QuerierRow _ _ f.passes in
        then g.passes (λ own by.
        record { station = f.it; there = f.is; row = g.it; found = g.is; own = own; by = le_so _ _ by })

    abbrev query_rows : State → Option QuerierRow
    query_rows s = querier_on s c.iface

    abbrev query_end : QuerierRow → ℕ
    query_end row = role_end row.role

    module _ (hold : ℕ) where
      abbrev pub hears_query : (sent : ℕ) → Station → Bool
      hears_query sent st =
          same_option (slice_get st.links c.down) (Some c.link) && (nat_lt c.down (iface_count st.state) && (is_up st.state c.down
          && (not (is_own st.state c.address) && (is_lower_querier st.state c.down c.address
          && (nat_le hold (present_for (st.state).settings (general_of t)) && nat_le sent (time_at started c.upper st))))))

      abbrev query_comes : (number sent : ℕ) → Network → Move → Bool
      query_comes number sent n m =
          is_delivery c.upper c.down number m && option_map_or (hears_query sent) (station_at n c.upper) false

      query_comes_so : (number sent : ℕ) (n : Network) (m : Move) → query_comes number sent n m ≡ true
          → QueryComes t hold started c number sent n m
      query_comes_so number sent n m e =
          then e (λ delivers e. go (delivery_so c.upper c.down number m delivers) (found Station (hears_query sent) (station_at n c.upper) e))
        where
          go : Delivery c.upper c.down number m → Found Station (hears_query sent) (station_at n c.upper)
              → QueryComes t hold started c number sent n m
          go f g =
              then g.passes (λ linked e. then e (λ configured e. then e (λ up e. then e (λ other e. then e (λ lower e. then e
              (λ lasts after. record {
                draw = f.draw;
                is = f.is;
                station = g.it;
                there = g.is;
                linked = same_so _ _ linked;
                listens = record { configured = lt_so _ _ configured; up = up; other = off_so _ other };
                lower = lower;
                lasts = le_so _ _ lasts;
                after = le_so _ _ after;
              }))))))

      -- a query by which another is taken for the querier for less time than before
      abbrev cuts_role : State → (i : ℕ) → QuerierRole → Option Accepted → Bool
      cuts_role s i (QuerierRole.Querier next left) a = false
      cuts_role s i (QuerierRole.NonQuerier until) a = cuts s i until a

      abbrev pub cuts_held : State → (i : ℕ) → Option Accepted → Bool
      cuts_held s i a = option_map_or (λ (row : QuerierRow). cuts_role s i row.role a) (querier_on s i) false

      pub held_lasts : (s : State) (i end : ℕ) (a : Option Accepted) → cuts_held s i a ≡ false → HoldsBack s i end → cuts s i end a ≡ false
      held_lasts s i end a e f =
          no_sooner s i end f.until f.lasts a
          (subst (λ role. cuts_role s i role a ≡ false) f.role
          (subst (λ o. option_map_or (λ (row : QuerierRow). cuts_role s i row.role a) o false ≡ false) f.found e))
        where
          no_sooner : (s : State) (i end until : ℕ) → end ≤ until → (a : Option Accepted) → cuts s i until a ≡ false → cuts s i end a ≡ false
          no_sooner s i end until le None e = refl
          no_sooner s i end until le (Some (Accepted.Query j from q)) e = grind (arith, nat_tests, le)
          no_sooner s i end until le (Some a) e = grind arith

      abbrev query_told : Network → List Move → Station → ℕ → Sent → Bool
      query_told next ms st k f =
          comes_by started (query_comes k (time_at started c.lower st)) c.upper (time_at started c.lower st + d) next ms

      abbrev query_test : Network → Move → Network → List Move → Bool
      query_test n m next ms =
          late_test d started query_rows query_end c.lower c.upper n next
          && (told_test c.lower c.link 2 (query_told next ms) n m next
          && (happens_not c.upper (λ s a. begins_or_ends c.down a) n m && happens_not c.upper (λ s a. cuts_held s c.down a) n m))

      query_so : (n : Network) (m : Move) (ms : List Move) → query_test n m (moved n m).1 ms ≡ true
          → QueryInTime t hold d started c n m ms
      query_so n m ms e =
          then e (λ late e. then e (λ told e. then e (λ follows lasts. record {
            timer = late_so d started query_rows query_end c.lower c.upper n (moved n m).1 late;
            queries = λ e st number ev at later got.
                comes_so started (query_comes number (time_at started c.lower st)) c.upper (time_at started c.lower st + d)
                (λ n ms. QueryComesBy t hold d started c number (time_at started c.lower st) n ms) (λ n. tt)
                (λ n m ms e. inl (query_comes_so number (time_at started c.lower st) n m e)) (λ n m ms by f. inr (by, f)) ms (moved n m).1
                (told_so c.lower c.link 2 (query_told (moved n m).1 ms) n m (moved n m).1 told e st number (query_packet c.address t) ev
                at later got (query_is_igmp c.address t));
            follows = not_so c.upper (λ s a. begins_or_ends c.down a) n m follows;
            lengthens = λ e st end ev at holds.
                held_lasts st.state c.down end (done_as (happens st.state e))
                (not_so c.upper (λ s a. cuts_held s c.down a) n m lasts e st ev at) holds;
          })))

      -- ---- answers

      module _ (g : ℕ) where
        -- a report that asks for the group, for so long at least
        abbrev is_answer : State → Option Accepted → Bool
        is_answer s (Some (Accepted.Report j records)) =
            (j.number == c.down) && (list_any (answers g) records && (not (list_any (leaves g) records)
            && nat_le hold (group_membership_interval s c.down)))
        is_answer s a = false

        abbrev answer_comes : (sent : ℕ) → Network → Move → Bool
        answer_comes sent n m = option_map_or (λ (x : ℕ × Event). (x.0 == c.upper) && option_map_or (λ (st : Station).
            is_answer st.state (done_as (happens st.state x.1)) && nat_le sent (time_at started c.upper st)) (station_at n c.upper) false) (event_of n m) false

        answer_comes_so : (sent : ℕ) (n : Network) (m : Move) → answer_comes sent n m ≡ true → AnswerComes hold started g c sent n m
        answer_comes_so sent n m e =
            let f : Found (ℕ × Event) _ (event_of n m) = found (ℕ × Event) _ (event_of n m) e in
            then f.passes (λ at e. there f.it f.is (eqb-true (f.it).0 c.upper at) (found Station _ (station_at n c.upper) e))
          where
            taken : (x : ℕ × Event) → event_of n m ≡ Some x → x.0 ≡ c.upper → (st : Station) → station_at n c.upper ≡ Some st
                → sent ≤ time_at started c.upper st → (o : Option Accepted) → done_as (happens st.state x.1) ≡ o
                → is_answer st.state o ≡ true → AnswerComes hold started g c sent n m
            taken x is same st at after None done e = cc e
            taken x is same st at after (Some (Accepted.Report j records)) done e =
                then e (λ on e. then e (λ asks e. then e (λ stays lasts. record {
                  event = x.1;
                  is = is ∙ ap (λ r. Some (r, x.1)) same;
                  station = st;
                  there = at;
                  records = records;
                  taken = done ∙ ap (λ i. Some (Accepted.Report (record { number = i }) records)) (eqb-true j.number c.down on);
                  asks = asks;
                  stays = off_so _ stays;
                  lasts = le_so _ _ lasts;
                  after = after;
                })))
            taken x is same st at after (Some a) done e = grind arith

            there : (x : ℕ × Event) → event_of n m ≡ Some x → x.0 ≡ c.upper → Found Station (λ (st : Station).
                is_answer st.state (done_as (happens st.state x.1)) && nat_le sent (time_at started c.upper st)) (station_at n c.upper)
                → AnswerComes hold started g c sent n m
            there x is same f =
                then f.passes (λ answer after.
                taken x is same f.it f.is (le_so _ _ after) (done_as (happens (f.it).state x.1)) refl answer)

        abbrev ends_known : State → (i : ℕ) → Option Accepted → Bool
        ends_known s i a = option_map_or (λ end. ends_record s i g end a) (group_end s i g) false

        abbrev answer_told : Network → List Move → Station → ℕ → Sent → Bool
        answer_told next ms st k f =
            comes_by started (answer_comes (time_at started c.lower st)) c.upper (time_at started c.lower st + d) next ms

        abbrev answer_test : Network → Move → Network → List Move → Bool
        answer_test n m next ms =
            late_test d started query_rows query_end c.lower c.upper n next
            && (told_test c.lower c.link 2 (answer_told next ms) n m next && happens_not c.upper (λ s a. ends_known s c.down a) n m)

        answer_so : (n : Network) (m : Move) (ms : List Move) → answer_test n m (moved n m).1 ms ≡ true
            → AnswerInTime t hold d started g c n m ms
        answer_so n m ms e =
            then e (λ late e. then e (λ told keeps. record {
              timer = late_so d started query_rows query_end c.lower c.upper n (moved n m).1 late;
              answers = λ e st number ev at later got.
                  comes_so started (answer_comes (time_at started c.lower st)) c.upper (time_at started c.lower st + d)
                  (λ n ms. AnswerComesBy hold d started g c (time_at started c.lower st) n ms) (λ n. tt)
                  (λ n m ms e. inl (answer_comes_so (time_at started c.lower st) n m e)) (λ n m ms by f. inr (by, f)) ms (moved n m).1
                  (told_so c.lower c.link 2 (answer_told (moved n m).1 ms) n m (moved n m).1 told e st number (query_packet c.address t) ev
                  at later got (query_is_igmp c.address t));
              keeps = λ e st end ev at is.
                  subst (λ o. option_map_or (λ end. ends_record st.state c.down g end (done_as (happens st.state e))) o false ≡ false) is
                  (not_so c.upper (λ s a. ends_known s c.down a) n m keeps e st ev at);
            }))

        -- ---- a router and a group

        abbrev lead_by : Network → Move → Bool
        lead_by n m = happens_not c.lower (λ s a. takes_lead s c.iface a) n m

        abbrev member_by : Network → Move → Network → List Move → Bool
        member_by n m next ms = lead_by n m && answer_test n m next ms

        abbrev pub member_test : Network → List Move → Bool
        member_test n ms = nat_lt (interval_of t + 2 * d) hold && run_test asks_test member_by n ms

        pub member_so : (n : Network) (ms : List Move) → IsReady c.lower n → IsReady c.upper n → member_test n ms ≡ true
            → MemberAnswers t hold d started g c n ms
        member_so n ms querier ready e =
            then e (λ often passed. record {
              often = lt_so _ _ often;
              querier_ready = querier;
              ready = ready;
              asks = always_so asks_test member_by (Asks t c) asks_so ms n passed;
              leads = moves_so asks_test member_by (KeepsLead c) (λ n. tt) (λ n m ms e f. (
                not_so c.lower (λ s a. takes_lead s c.iface a) n m
                    (first_so (lead_by n m) (answer_test n m (moved n m).1 ms) e),
                f,
              )) ms n passed;
              in_time = moves_so asks_test member_by (AnswersInTime t hold d started g c) (λ n. tt) (λ n m ms e f. (
                answer_so n m ms
                    (second_so (lead_by n m) (answer_test n m (moved n m).1 ms) e),
                f,
              )) ms n passed;
            })

  -- ---- all routers of a link

  module _ (t : Settings) (hold link : ℕ) (first : Member) (others : List Member) where
    abbrev to : Member → Adjacent
    to y = between link first y

    abbrev leads_by : Network → Move → Bool
    leads_by n m = happens_not first.router (λ s a. takes_lead s first.iface a) n m

    abbrev queries_by : Network → Move → Network → List Move → Bool
    queries_by n m next ms = list_all (λ y. query_test t (to y) hold n m next ms) others

    abbrev asks_by : Network → Move → Network → List Move → Bool
    asks_by n m next ms = leads_by n m && queries_by n m next ms

    abbrev pub ask_test : Network → List Move → Bool
    ask_test n ms =
        nat_lt (interval_of t + 2 * d) hold && (nat_lt t.robustness 8 && (leads_test t (to first) n && run_test (asks_test t (to first)) asks_by n ms))

    pub ask_so : (n : Network) (ms : List Move) → ((x : Member) → IsOne (first ∷ others) x → IsReady x.router n) → ask_test n ms ≡ true
        → AskInTime t hold d bound started link first others n ms
    ask_so n ms ready e =
        then e (λ often e. then e (λ robust e. then e (λ leads passed. record {
          often = lt_so _ _ often;
          robust = lt_so _ _ robust;
          first_ready = ready first (inl refl);
          ready = λ y a. ready y (inr a);
          asks = always_so (asks_test t (to first)) asks_by (Asks t (to first)) (asks_so t (to first)) ms n passed;
          leads = leads_so t (to first) n leads;
          keeps = moves_so (asks_test t (to first)) asks_by (KeepsLead (to first)) (λ n. tt)
              (λ n m ms e f. (
                not_so first.router (λ s a. takes_lead s first.iface a) n m
                    (first_so (leads_by n m) (queries_by n m (moved n m).1 ms) e),
                f,
              )) ms n passed;
          in_time = λ y a. moves_so (asks_test t (to first)) asks_by (QueriesInTime t hold d started (to y)) (λ n. tt)
              (λ n m ms e f. (
                query_so t (to y) hold n m ms (one_of (λ y. query_test t (to y) hold n m (moved n m).1 ms) others y
                    (second_so (leads_by n m) (queries_by n m (moved n m).1 ms) e) a),
                f,
              )) ms n passed;
        })))
