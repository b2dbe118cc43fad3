-- Between two events nothing is due: what a packet flows by has a cause, and so have its copies.
use Rattle.std.{proofs.{Common.{◌≡◌, ◌∙◌, ℕ, ◌+◌, ◌-◌, nat_lt, Bool, true, false, List, [], ◌∷◌, ◌++◌, filter, length, map, Option, Some, None, Result, is_some, refl, sym, ap, arith, length-append}, Math.Seq.drop-append_seam, lemmas.{Bool.not-true, List.{append-nil, Elements.filter-append}}}, specs.{Cmp.{first_so, second_so}, List.AllByRecursion}}
use Rattle.pim_ip.{specs.{Ipv4.{Packet, copy_text}, declared.refusal.Refusal.Refusal}}
use Rattle.pim_types.{specs.{Keys.{source_key, star_key}, declared.{event.Event.Event, fact.{DownstreamRow.DownstreamRow, GroupRecordRow.GroupRecordRow, Key.Key, SourceRecordRow.SourceRecordRow}, outcome.{Emission.Emission, Verdict.Verdict}}}}
use Rattle.pim_model.{specs.{Cause.{Happened, IsAskedFor, Past, copies_in, done_as, is_on_link, packet_in}, Forwarding.Forwarded, Sets.members, State.{State, ifaces, is_up}, Tables.{has_row, row_at}, Writing.{copies_of, leaves, on_link, pim_to, register_of_packet, tunnel_of}}}
use Rattle.law_settled.{proofs.{ListLaws.{by_cond, each_map, each_passes, either}, Parts.{Downstreams, GroupRecords, SourceRecords}, FineStates.{Good, IsFine, Runs}, FineTables.good_row, SettledStates.settled_is_fine}, specs.Ready.IsSettled}
use Rattle.law_streams.{proofs.{CausesAsks.{GroupAsked, IsAsked, JoinAsked, KeyAsked, SourceAsked, UpTo}, Flows.{Flows, is_timed, is_timed_row, is_wanted}, Past.CausedBy, Same.rows_of}}

-- an end that runs lies beyond the present
at_present : (never : Type 0) (P : ℕ → Type 0) (m : ℕ) (end : Option ℕ) → UpTo never P end → Runs (nat_lt m) end
    → (end ≡ None → never → P m) → P m
at_present never P m end f runs none = grind arith

-- ---- who is wanted has a cause

module _ (past : Past) (s : State) (f : IsAsked (CausedBy past) s) (settled : IsSettled s) where
  abbrev late : ℕ → Bool
  late = nat_lt s.present

  fine : IsFine s.present late (is_up s) s
  fine = settled_is_fine s settled

  join_found : (k : Key) → k.rpt ≡ false → (o : Option DownstreamRow) → row_at s.downstream k ≡ o → is_some o ≡ true
      → KeyAsked (CausedBy past) k s.present
  join_found k e None there some = cc
  join_found k e (Some r) there some =
      at_present _ (KeyAsked (CausedBy past) k) s.present r.expiry
      (good_row (JoinAsked (CausedBy past)) s.downstream k r f.joins there e)
      (good_row (Good late (is_up s) Downstreams) s.downstream k r (fine.tables Downstreams) there).0
      (λ is all. all s.present)

  group_found : (i g src : ℕ) (o : Option GroupRecordRow) → row_at s.group_records (star_key i g) ≡ o
      → is_timed_row o ≡ true → CausedBy past i g src s.present
  group_found i g src None there on = cc
  group_found i g src (Some r) there on =
      let k : Key = star_key i g in
      at_present _ (λ now. (src : ℕ) → CausedBy past i g src now) s.present r.end
      (good_row (GroupAsked (CausedBy past)) s.group_records k r f.groups there)
      (good_row (Good late (is_up s) GroupRecords) s.group_records k r (fine.tables GroupRecords) there).1
      (λ is any. let off : true ≡ false = sym on ∙ ap (λ (o : Option ℕ). is_some o) is in cc) src

  source_found : (i g src : ℕ) → is_timed s.group_records i g ≡ false → (o : Option SourceRecordRow)
      → row_at s.source_records (source_key i g src) ≡ o → is_some o ≡ true → CausedBy past i g src s.present
  source_found i g src off None there some = cc
  source_found i g src off (Some r) there some =
      let k : Key = source_key i g src in
      at_present _ (CausedBy past i g src) s.present r.end
      (good_row (SourceAsked (CausedBy past) s.group_records) s.source_records k r f.sources there)
      (good_row (Good late (is_up s) SourceRecords) s.source_records k r (fine.tables SourceRecords) there).1
      (λ is timed. let both : false ≡ true = sym off ∙ timed in cc)

  cause_of : (g src i : ℕ) → is_wanted (rows_of s) g src i ≡ true → CausedBy past i g src s.present
  unfolding has_row
  cause_of g src i e =
      either _ _
      (λ first. either _ (is_timed s.group_records i g)
      (λ joined. either (has_row s.downstream (star_key i g)) (has_row s.downstream (source_key i g src))
      (λ star. join_found (star_key i g) refl _ refl star src) (join_found (source_key i g src) refl _ refl) joined)
      (group_found i g src _ refl) first)
      (λ last. source_found i g src (not-true _ (first_so _ _ last)) _ refl (second_so _ _ last)) e

-- ---- the copies of an outcome

-- a change's own emissions: copies on links, and what goes to the RP
pub record AreCopies (past : Past) (h : Happened) (copies registered : List Emission) : Type 0 where
  pub asked : AllByRecursion (IsAskedFor past h) copies
  pub to_rp : AllByRecursion (λ e. is_on_link e ≡ false) registered

all_on_links : (past : Past) (h : Happened) (es : List Emission) → AllByRecursion (IsAskedFor past h) es
    → filter is_on_link es ≡ es
all_on_links past h [] f = refl
all_on_links past h (e ∷ es) f =
    rw (ap is_on_link f.0.copied) (ap (λ (l : List Emission). e ∷ l) (all_on_links past h es f.1))

none_on_links : (es : List Emission) → AllByRecursion (λ e. is_on_link e ≡ false) es → filter is_on_link es ≡ []
none_on_links [] f = refl
none_on_links (e ∷ es) f = rw f.0 (none_on_links es f.1)

last_of : (a b : ℕ) → a + b - b ≡ a
last_of a b = omega arith

pub copies_are : (past : Past) (h : Happened) (answer : Result Verdict Refusal)
    (messages copies registered : List Emission)
    → AreCopies past h copies registered
    → copies_in (record { answer = answer; emissions = messages ++ copies ++ registered; copies = length copies })
    ≡ copies
unfolding copies_in
copies_are past h answer messages copies registered f =
    grind (arith, all_on_links, none_on_links, filter-append, append-nil, length-append, last_of, drop-append_seam)

-- ---- of a packet

to_the_rp : (s : State) (p : Packet) (to_tunnel : Bool)
    → AllByRecursion (λ e. is_on_link e ≡ false) (tunnel_of s p to_tunnel)
unfolding tunnel_of register_of_packet pim_to
to_the_rp s p to_tunnel = grind arith

module _ (past : Past) (s : State) (e : Event) (f : IsAsked (CausedBy past) s) (settled : IsSettled s) where
  abbrev here : Happened
  here = record { before = s; event = e }

  pub packet_copies : (p : Packet) (flow : Forwarded) → Flows s p.destination p.source flow
      → packet_in (done_as here) ≡ Some p
      → AreCopies past here (copies_of flow.state p flow.list) (tunnel_of flow.state p flow.to_tunnel)
  unfolding copies_of members
  packet_copies p flow flows brought = record {
    asked = by_cond (AllByRecursion (IsAskedFor past here)) (leaves p)
        (map (λ i. on_link i (copy_text p)) (filter flow.list (ifaces flow.state))) []
        (each_map (λ i. flow.list i ≡ true) (IsAskedFor past here) (λ i. on_link i (copy_text p))
        (λ i on. record {
          link = i;
          packet = p;
          brought = brought;
          copied = refl;
          cause = cause_of past s f settled p.destination p.source i (flows.list i on);
        }) (filter flow.list (ifaces flow.state)) (each_passes flow.list (ifaces flow.state))) tt;
    to_rp = to_the_rp flow.state p flow.to_tunnel;
  }
