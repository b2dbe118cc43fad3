-- A querier's row stays as it is, or a general query leaves, and the next one within the query interval.
use Rattle.std.{proofs.{Common.{◌≡◌, ◌∙◌, ℕ, ◌+◌, ◌*◌, ◌-◌, ◌/◌, ◌≤◌, ◌&&◌, ◌==◌, nat_lt, Bool, true, false, is_some, List, [], ◌∷◌, ◌++◌, ◌⊎◌, inl, inr, length, Some, Ok, refl, sym, ap, subst, arith, eqb-true}, lemmas.{Bool.{both_ways}, List.Elements.{Contains-append_left, Contains-append_right}}}, specs.{Cmp.{first_so, second_so}, List.{Contains}, Prelude.if◌then◌else◌}}
use Rattle.pim_ip.{specs.Ipv4.{all_systems, igmp_packet_text}}
use Rattle.pim_types.{specs.{Keys.{iface_in, iface_key}, declared.{config.Settings.Settings, event.Event.Event, fact.{Key.Key, QuerierRole.QuerierRole, QuerierRow.QuerierRow}, outcome.Emission.Emission, timer.TimerKind.TimerKind}}}
use Rattle.igmp_wire.{specs.{Codes.value_code, Queries.query_text}}
use Rattle.pim_model.{specs.{declared.accepted.Accepted.Accepted, Cause.{done_as, if_done}, Clearing.clear, Firing.{fire_all, fire_instant, fire_once, fire_row, fired, settled, startup_left}, Judging.{Judged, judged}, Messages.Message, Querier.{each_in_turn, general_query, general_query_due, other_querier_gone, querier_on, querier_row, query_interval, query_sent, querying_on, robustness, startup_query_interval}, Reach.own_firing, State.{Addressing, State, address_among}, Step.{Answered, advanced, change, concluded, done, step, taken, taken_unless_full}, Tables.{Table, change_row, changed_entry, has_row, row_at, same_option}, Timers.{Ending, next_due, next_query, timers}, Upstream.upstream, Writing.{all_written, emission_of, on_link, write_all, written}}}
use Rattle.law_settled.{specs.Ready.{IsLawful, IsSettled}, proofs.{Ends.{Ends, shows}, LawfulFiring.one_firing_is_lawful, SettledStates.settled_is_lawful, TimerLaws.{is_next}, TurnLaws.kept_to_the_end, UnchangedLaws.{full_or_taken, taken_done}, Unsettled.{Unsettled, settling_leaves}}}
use Rattle.law_events.{proofs.Configured.{Ground, firing_ground}}
use Rattle.law_streams.{specs.Copies.happens, proofs.{Leaves.{ends_configured, told_configured}, Turns.to_the_end}}
use Rattle.law_converges.{specs.LinkQuerier.{general_of, interval_of, is_own, takes_lead}, proofs.Roles.{done_row, fired_row, its_end, leaves_row, settled_row}}

-- the router is the querier, by its own values, and queries by a timestamp
pub record QueriesBy (t : Settings) (i x : ℕ) (s : State) : Type 0 where
  pub row : QuerierRow
  pub found : querier_on s i ≡ Some row
  pub next : ℕ
  pub left : ℕ
  pub role : row.role ≡ QuerierRole.Querier next left
  pub soon : next ≤ x
  pub robust : row.robustness ≡ t.robustness
  pub often : row.query_interval ≡ t.query_interval

pub record SendsQuery (cs : Addressing) (t : Settings) (i : ℕ) (sent : List Emission) : Type 0 where
  pub is_sent : Contains sent (on_link i (igmp_packet_text (address_among cs i) all_systems (query_text (general_of t))))

-- ---- the messages and rows of a querier

replaced_row : (k : Key) (r : QuerierRow) (rows : Table QuerierRow) → has_row rows k ≡ true
    → row_at (change_row (λ (old : QuerierRow). Some r) k rows) k ≡ Some r
unfolding has_row row_at change_row changed_entry
replaced_row k r [] e = cc e
replaced_row k r (x ∷ rows) e = grind (arith, replaced_row k r rows)

on_row : (s : State) (i next left : ℕ) (q : QuerierRow) → querier_on s i ≡ Some q
    → querier_on (querying_on s i next left) i ≡ Some (querier_row s next left)
unfolding querying_on has_row
on_row s i next left q found = replaced_row (iface_key i) (querier_row s next left) s.queriers (ap is_some found)

whole : (n : ℕ) → 1000 * n / 1000 ≡ n
whole n = omega arith

message_is : (s : State) (i : ℕ) (q : QuerierRow) → querier_on s i ≡ Some q → general_query s i
    ≡ Message.Query i (record {
      max_response_code = value_code s.settings.query_response_interval;
      group = 0;
      suppress = false;
      robustness = q.robustness;
      interval_code = value_code q.query_interval;
      sources = [];
    })
unfolding query_sent robustness query_interval
message_is s i q found = rw (found, whole q.query_interval) refl

interval_is : (s : State) (i : ℕ) (q : QuerierRow) → querier_on s i ≡ Some q → query_interval s i ≡ 1000 * q.query_interval
unfolding query_interval
interval_is s i q found = rw found refl

-- what an expiring timer makes of it
record Queried (t : Settings) (i now : ℕ) (c : State × List Message) : Type 0 where
  message : c.1 ≡ Message.Query i (general_of t) ∷ []
  queries : QueriesBy t i (now + interval_of t) c.0

module _ (t : Settings) (s : State) (i : ℕ) (q : QuerierRow) (found : querier_on s i ≡ Some q) (settings : s.settings ≡ t) where
  gone_queries : Queried t i s.present (other_querier_gone s i)
  unfolding other_querier_gone querier_row querying_on
  gone_queries =
      let started : State = querying_on s i 0 0 in
      let x : ℕ = s.present + query_interval started i in
      let after : State = querying_on s i x 0 in
      let there : querier_on after i ≡ Some (querier_row s x 0) = on_row s i x 0 q found in
      let interval : query_interval started i ≡ 1000 * s.settings.query_interval =
      interval_is started i (querier_row s 0 0) (on_row s i 0 0 q found) in
      record {
        message = ap (λ (m : Message). m ∷ [])
            (message_is after i (querier_row s x 0) there ∙ ap (λ (u : Settings). Message.Query i (general_of u)) (same_settings x));
        queries = record {
          row = querier_row s x 0;
          found = there;
          next = x;
          left = 0;
          role = refl;
          soon = subst (λ (u : Settings). x ≤ s.present + interval_of u) settings (plus s.present _ _ interval);
          robust = ap (λ (u : Settings). u.robustness) settings;
          often = ap (λ (u : Settings). u.query_interval) settings;
        };
      }
    where
      plus : (p a b : ℕ) → a ≡ b → p + a ≤ p + b
      plus p a b e = omega (arith, e)

      same_settings : (x : ℕ) → (querying_on s i x 0).settings ≡ t
      same_settings x = settings

  module _ (robust : q.robustness ≡ t.robustness) (often : q.query_interval ≡ t.query_interval) (left : ℕ) where
    due_queries : Queried t i s.present (general_query_due s i left)
    unfolding general_query_due querier_row startup_query_interval
    due_queries =
        let x : ℕ = s.present + (if nat_lt 1 left then startup_query_interval s i else query_interval s i) in
        let interval : query_interval s i ≡ 1000 * t.query_interval = interval_is s i q found ∙ ap (λ (n : ℕ). 1000 * n) often in
        record {
          message = ap (λ (m : Message). m ∷ []) (message_is s i q found ∙ alike);
          queries = record {
            row = querier_row s x (left - 1);
            found = on_row s i x (left - 1) q found;
            next = x;
            left = left - 1;
            role = refl;
            soon = soon_by s.present (query_interval s i) (1000 * t.query_interval) interval (nat_lt 1 left);
            robust = ap (λ (u : Settings). u.robustness) settings;
            often = ap (λ (u : Settings). u.query_interval) settings;
          };
        }
      where
        alike : Message.Query i (record {
          max_response_code = value_code s.settings.query_response_interval;
          group = 0;
          suppress = false;
          robustness = q.robustness;
          interval_code = value_code q.query_interval;
          sources = [];
        }) ≡ Message.Query i (general_of t)
        alike = rw (robust, often, settings) refl

        soon_by : (p a b : ℕ) → a ≡ b → (c : Bool) → p + (if c then a / 4 else a) ≤ p + b
        soon_by p a b e true = omega (arith, e)
        soon_by p a b e false = omega (arith, e)

-- ---- it is written

head_there : {X : Type 0} (x : X) (xs : List X) → Contains (x ∷ xs) x
head_there x xs = (0, omega arith, refl)

first_written : (s : State) (t : Settings) (i : ℕ) (rest : List Message)
    → SendsQuery s.configured t i (write_all s (Message.Query i (general_of t) ∷ rest)).1
unfolding write_all all_written each_in_turn written emission_of
first_written s t i rest = record { is_sent = Contains-append_left (_ ∷ []) _ _ (head_there _ []) }

-- ---- a timer

abbrev is_general : TimerKind → Bool
is_general TimerKind.GeneralQuery = true
is_general _ = false

abbrev is_other : TimerKind → Bool
is_other TimerKind.OtherQuerier = true
is_other _ = false

general_is : (kind : TimerKind) → is_general kind ≡ true → kind ≡ TimerKind.GeneralQuery
general_is kind e = grind arith

other_is : (kind : TimerKind) → is_other kind ≡ true → kind ≡ TimerKind.OtherQuerier
other_is kind e = grind arith

-- a role whose next query is due is the querier's
record Leading (role : QuerierRole) : Type 0 where
  next : ℕ
  left : ℕ
  is : role ≡ QuerierRole.Querier next left

leading : (role : QuerierRole) (n : ℕ) → same_option (next_query role) (Some n) ≡ true → Leading role
leading (QuerierRole.Querier next left) n e = record { next = next; left = left; is = refl }
leading (QuerierRole.NonQuerier end) n e = cc e

module _ (i m : ℕ) (cs : Addressing) (t : Settings) where
  record Base (s : State) : Type 0 where
    lawful : IsLawful s
    settings : s.settings ≡ t
    configured : s.configured ≡ cs

  abbrev last : ℕ
  last = m + interval_of t

  abbrev Has : List Emission → Type 0
  Has sent = SendsQuery cs t i sent

  module _ (w : ℕ) (s : State) (d : Ending) (f : Base s) where
    abbrev opened : State
    opened = record s { present = d.end }

    abbrev c : State × List Message
    c = fired opened d.timer.kind d.timer.key

    abbrev u : State
    u = (fire_once w s d).0

    base_then : Base u
    unfolding fire_once own_firing
    base_then = record {
      lawful = one_firing_is_lawful w s d f.lawful;
      settings = ap (λ (x : Unsettled). x.settings) (settling_leaves s c w) ∙ (ap (λ (x : Ground). x.settings) (firing_ground s d) ∙ f.settings);
      configured = ap (λ (x : Unsettled). x.configured) (settling_leaves s c w) ∙ (ap (λ (x : Ground). x.configured) (firing_ground s d) ∙ f.configured);
    }

    sends : c.1 ≡ Message.Query i (general_of t) ∷ [] → Has (settled s c w).1
    unfolding settled own_firing
    sends is =
        subst (λ (ms : List Message). Has (write_all (upstream s (clear s c.0).0 w).0 (ms ++ (clear s c.0).1 ++ (upstream s (clear s c.0).0 w).1)).1) (sym is)
        (subst (λ (x : Addressing). SendsQuery x t i (write_all (upstream s (clear s c.0).0 w).0 (Message.Query i (general_of t) ∷ ((clear s c.0).1 ++ (upstream s (clear s c.0).0 w).1))).1)
        (told_configured s c w ∙ (sym (ends_configured s c w) ∙ same_cs))
        (first_written (upstream s (clear s c.0).0 w).0 t i ((clear s c.0).1 ++ (upstream s (clear s c.0).0 w).1)))
      where
        same_cs : (settled s c w).0.configured ≡ cs
        same_cs = ap (λ (x : Unsettled). x.configured) (settling_leaves s c w) ∙ (ap (λ (x : Ground). x.configured) (firing_ground s d) ∙ f.configured)

    module _ (row : QuerierRow) (found : querier_on s i ≡ Some row) (own : is_own t row.role row ≡ true) (low : d.end ≤ m)
        (shown : shows d.timer.kind (Ends d.timer.key d.end) s ≡ true) where
      abbrev Either : Type 0
      Either = (querier_on u i ≡ Some row) ⊎ (Has (fire_once w s d).1 × QueriesBy t i last u)

      by_then : (x y : ℕ) → x ≤ d.end + y → x ≤ m + y
      by_then x y e = omega (arith, e, low)

      -- the change queries
      it_queries : Queried t i d.end c → Either
      unfolding fire_once
      it_queries g = inr (
        sends g.message,
        record {
          row = (g.queries).row;
          found = settled_row i s c w ∙ (g.queries).found;
          next = (g.queries).next;
          left = (g.queries).left;
          role = (g.queries).role;
          soon = by_then (g.queries).next (interval_of t) (g.queries).soon;
          robust = (g.queries).robust;
          often = (g.queries).often;
        },
      )

      -- it leaves the row
      it_leaves : (d.timer.kind ≡ TimerKind.GeneralQuery → (iface_in d.timer.key == i) ≡ false)
          → (d.timer.kind ≡ TimerKind.OtherQuerier → (iface_in d.timer.key == i) ≡ false) → Either
      unfolding fire_once
      it_leaves a b = inl (settled_row i s c w ∙ (fired_row i opened d.timer.kind d.timer.key a b ∙ found))

      due_is : (next left : ℕ) → row.role ≡ QuerierRole.Querier next left → fired opened TimerKind.GeneralQuery (iface_key i) ≡ general_query_due opened i left
      unfolding fired fire_row
      due_is next left role = rw found (ap (λ (r : QuerierRole). general_query_due opened i (startup_left r)) role)

      gone_is : (k : Key) → iface_in k ≡ i → fired opened TimerKind.OtherQuerier k ≡ other_querier_gone opened i
      unfolding fired
      gone_is k at = ap (other_querier_gone opened) at

      values : (r : QuerierRole) → row.role ≡ r → Leading r → (row.robustness ≡ t.robustness) × (row.query_interval ≡ t.query_interval)
      values (QuerierRole.Querier next left) is lead =
          let both : ((row.robustness == t.robustness) && (row.query_interval == t.query_interval)) ≡ true =
          subst (λ (r : QuerierRole). is_own t r row ≡ true) is own in (
            eqb-true row.robustness t.robustness (first_so (row.robustness == t.robustness) (row.query_interval == t.query_interval) both),
            eqb-true row.query_interval t.query_interval (second_so (row.robustness == t.robustness) (row.query_interval == t.query_interval) both),
          )
      values (QuerierRole.NonQuerier end) is lead = absurd (no_lead end lead.next lead.left lead.is)
        where
          no_lead : (end next left : ℕ) → QuerierRole.NonQuerier end ≡ QuerierRole.Querier next left → ⊥
          no_lead end next left e = cc e

      on_general : d.timer.kind ≡ TimerKind.GeneralQuery → (iface_in d.timer.key == i) ≡ true → Either
      on_general is at =
          let its = its_end i s row f.lawful found d.timer.key next_query d.end
          (subst (λ (kind : TimerKind). shows kind (Ends d.timer.key d.end) s ≡ true) is shown) at in
          let lead : Leading row.role = leading row.role d.end its.1 in
          let both = values row.role refl lead in
          let same : c ≡ general_query_due opened i lead.left =
          ap (λ (q : TimerKind). fired opened q d.timer.key) is
          ∙ (ap (λ (k : Key). fired opened TimerKind.GeneralQuery k) its.0 ∙ due_is lead.next lead.left lead.is) in
          it_queries (subst (λ (x : State × List Message). Queried t i d.end x) (sym same)
          (due_queries t opened i row found f.settings both.0 both.1 lead.left))

      on_other : d.timer.kind ≡ TimerKind.OtherQuerier → (iface_in d.timer.key == i) ≡ true → Either
      on_other is at =
          let same : c ≡ other_querier_gone opened i =
          ap (λ (q : TimerKind). fired opened q d.timer.key) is ∙ gone_is d.timer.key (eqb-true (iface_in d.timer.key) i at) in
          it_queries (subst (λ (x : State × List Message). Queried t i d.end x) (sym same) (gone_queries t opened i row found f.settings))

      turn : Either
      turn = go (iface_in d.timer.key == i) refl (is_general d.timer.kind) refl (is_other d.timer.kind) refl
        where
          go : (a : Bool) → (iface_in d.timer.key == i) ≡ a → (b : Bool) → is_general d.timer.kind ≡ b → (e : Bool) → is_other d.timer.kind ≡ e → Either
          go false off b g e o = it_leaves (λ is. off) (λ is. off)
          go true at true g e o = on_general (general_is d.timer.kind g) at
          go true at false g true o = on_other (other_is d.timer.kind o) at
          go true at false g false o =
              it_leaves (λ is. absurd (both_ways (is_general d.timer.kind) g (ap is_general is)))
              (λ is. absurd (both_ways (is_other d.timer.kind) o (ap is_other is)))

  -- ---- time

  module _ (row : QuerierRow) (own : is_own t row.role row ≡ true) where
    record Before (s : State) : Type 0 where
      base : Base s
      found : querier_on s i ≡ Some row

    record After (s : State) : Type 0 where
      base : Base s
      queries : QueriesBy t i last s

    Turned : State × List Emission → Type 0
    Turned p = Before p.0 ⊎ (Has p.1 × After p.0)

    own_of : (s : State) (g : QueriesBy t i last s) → is_own t (g.row).role g.row ≡ true
    own_of s g = rw (g.role, g.robust, g.often) (both_same t.robustness t.query_interval)
      where
        both_same : (a b : ℕ) → ((a == a) && (b == b)) ≡ true
        both_same a b = grind arith

    module _ (w : ℕ) (s : State) (d : Ending) (low : d.end ≤ m) (shown : shows d.timer.kind (Ends d.timer.key d.end) s ≡ true) where
      once_turns : Before s → Before (fire_once w s d).0 ⊎ (Has (fire_once w s d).1 × After (fire_once w s d).0)
      once_turns f = go (turn w s d f.base row f.found own low shown)
        where
          go : (querier_on (fire_once w s d).0 i ≡ Some row) ⊎ (Has (fire_once w s d).1 × QueriesBy t i last (fire_once w s d).0)
              → Before (fire_once w s d).0 ⊎ (Has (fire_once w s d).1 × After (fire_once w s d).0)
          go (inl same) = inl (record { base = base_then w s d f.base; found = same })
          go (inr (has, g)) = inr (has, record { base = base_then w s d f.base; queries = g })

      once_stays : After s → After (fire_once w s d).0
      once_stays f = go (turn w s d f.base (f.queries).row (f.queries).found (own_of s f.queries) low shown)
        where
          go : (querier_on (fire_once w s d).0 i ≡ Some (f.queries).row) ⊎ (Has (fire_once w s d).1 × QueriesBy t i last (fire_once w s d).0)
              → After (fire_once w s d).0
          go (inl same) = record {
            base = base_then w s d f.base;
            queries = record {
              row = (f.queries).row;
              found = same;
              next = (f.queries).next;
              left = (f.queries).left;
              role = (f.queries).role;
              soon = (f.queries).soon;
              robust = (f.queries).robust;
              often = (f.queries).often;
            };
          }
          go (inr (has, g)) = record { base = base_then w s d f.base; queries = g }

    first : (xs ys : List Emission) → Has xs → Has (xs ++ ys)
    first xs ys f = record { is_sent = Contains-append_left xs ys _ f.is_sent }

    second : (xs ys : List Emission) → Has ys → Has (xs ++ ys)
    second xs ys f = record { is_sent = Contains-append_right xs ys _ f.is_sent }

    in_time : (a c : ℕ) → a ≤ c → c ≤ m → a ≤ m
    in_time a c e f = omega (arith, e, f)

    module _ (w : ℕ) where
      instant_turns : (s : State) (e : Ending) → e.end ≤ m → Before s
          → Before (fire_instant w s e).0 ⊎ (Has (fire_instant w s e).1 × After (fire_instant w s e).0)
      unfolding fire_instant
      instant_turns s e low f =
          to_the_end (next_due e.end) (fire_once w) Has Before After first second
          (λ u d there h. once_turns w u d (in_time d.end e.end (is_next e.end u d there).due low) (is_next e.end u d there).shown h)
          (λ u d h there. once_stays w u d (in_time d.end e.end (is_next e.end u d there).due low) (is_next e.end u d there).shown h)
          (length (timers s) + 1) s f

      instant_stays : (s : State) (e : Ending) → e.end ≤ m → After s → After (fire_instant w s e).0
      unfolding fire_instant
      instant_stays s e low f =
          kept_to_the_end (next_due e.end) (fire_once w) After
          (λ u d h there. once_stays w u d (in_time d.end e.end (is_next e.end u d there).due low) (is_next e.end u d there).shown h)
          (length (timers s) + 1) s f

      all_turns : (s : State) → Before s → Before (fire_all w m s).0 ⊎ (Has (fire_all w m s).1 × After (fire_all w m s).0)
      unfolding fire_all
      all_turns s f =
          to_the_end (next_due m) (fire_instant w) Has Before After first second
          (λ u d there h. instant_turns u d (is_next m u d there).due h)
          (λ u d h there. instant_stays u d (is_next m u d there).due h) (m + 2 - s.present) s f

      time_turns : (s : State) → Before s → (querier_on (advanced s w m).state i ≡ Some row)
          ⊎ (Has (advanced s w m).emissions × QueriesBy t i (((advanced s w m).state).present + interval_of t) (advanced s w m).state)
      unfolding advanced
      time_turns s f = go (all_turns s f)
        where
          go : Before (fire_all w m s).0 ⊎ (Has (fire_all w m s).1 × After (fire_all w m s).0)
              → (querier_on (fire_all w m s).0 i ≡ Some row) ⊎ (Has (fire_all w m s).1 × QueriesBy t i (m + interval_of t) (record ((fire_all w m s).0) { present = m }))
          go (inl g) = inl g.found
          go (inr (has, g)) = inr (
            has,
            record {
              row = (g.queries).row;
              found = (g.queries).found;
              next = (g.queries).next;
              left = (g.queries).left;
              role = (g.queries).role;
              soon = (g.queries).soon;
              robust = (g.queries).robust;
              often = (g.queries).often;
            },
          )

-- ---- any event

module _ (i : ℕ) (t : Settings) (s : State) (e : Event) (row : QuerierRow) (found : querier_on s i ≡ Some row)
    (own : is_own t row.role row ≡ true) (settings : s.settings ≡ t) (rest : IsSettled s) where
  abbrev pub RowLasts : Answered → Type 0
  RowLasts a = (querier_on a.state i ≡ Some row)
      ⊎ (SendsQuery s.configured t i a.emissions × QueriesBy t i ((a.state).present + interval_of t) a.state)

  by_time : (m : ℕ) → RowLasts (advanced s e.draw m)
  by_time m =
      time_turns i m s.configured t row own e.draw s
      (record { base = record { lawful = settled_is_lawful s rest; settings = settings; configured = refl }; found = found })

  leaves_so : (a : Accepted) → takes_lead s i (Some a) ≡ false → leaves_row i s a ≡ true
  leaves_so a off = grind arith

  by_done : (a : Accepted) → takes_lead s i (Some a) ≡ false → RowLasts (done s e.draw (change s e.draw a))
  by_done a off = inl (done_row i s e.draw a (leaves_so a off) ∙ found)

  by_taken : (a : Accepted) → takes_lead s i (Some a) ≡ false → RowLasts (taken s e.draw a)
  unfolding taken
  by_taken a off = grind (arith, by_time, by_done)

  by_full : (a : Accepted) (b : Bool) → takes_lead s i (if_done (full_or_taken s e.draw a b).answer (Ok a)) ≡ false → RowLasts (full_or_taken s e.draw a b)
  by_full a b off = grind (arith, found, by_taken, taken_done)

  by_judged : (j : Judged) → takes_lead s i (if_done (concluded s (taken_unless_full s e.draw) j).answer j) ≡ false
      → RowLasts (concluded s (taken_unless_full s e.draw) j)
  unfolding taken_unless_full
  by_judged j off = grind (arith, found, by_full)

  -- Whatever event comes, unless the interface goes up or down or a lower querier queries there, the querier's row stays,
  -- or a general query leaves, and the next one within the query interval.
  pub each_event_query : takes_lead s i (done_as (happens s e)) ≡ false → RowLasts (step s e)
  unfolding step done_as
  each_event_query off = by_judged (judged s e.kind) off
