-- How many of the facts that count beside the asserts an event adds.
use Rattle.std.{proofs.{Common.{◌≡◌, ◌∙◌, ℕ, suc, ◌+◌, ◌≤◌, ◌==◌, nat_lt, not, ◌&&◌, ◌||◌, Bool, true, false, cond, List, [], ◌∷◌, fold, length, Option, Some, None, is_some, option_and_then, refl, sym, arith, eqb-true, ◌⊎◌}, lemmas.{Bool.{or_left, or_right, Decides.nat_tests}, List.Folds.list_any-append}}, specs.Cmp.{first_so, second_so}}
use Rattle.pim_ip.{specs.Ipv4.Packet}
use Rattle.pim_types.{specs.{Keys.{group_in, neighbour_key, same_key, source_key, star_key}, declared.fact.{DownstreamRow.DownstreamRow, Key.Key, NeighbourRow.NeighbourRow, SourceRow.SourceRow}}, proofs.Keys.same_key_same}
use Rattle.pim_wire.{specs.{Values.JoinPrune, declared.hello.Hello.Hello as HelloValue}}
use Rattle.pim_model.{specs.{Asserts.{data_seen, wins, with_spt_bit}, Downstream.{is_named, joined_keys, joined_row, keys_taken, pruned_keys, pruned_row, pruned_rpt_row, row_after, to_me, touched_keys}, Forwarding.{Forwarded, forwarded, list_chosen, register_at_rp, register_received, source_here, source_joined, spt_updated, stray, watched, when}, Full.{counted, makeable_keys, needed, passes_limit}, Hellos.{hello_holdtime_of, hello_received, hello_triggered, neighbour_replaced, neighbour_restarted, neighbours_replaced}, Neighbours.is_neighbour, Registers.{keepalive_period, settle_register, with_keepalive}, Sets.spt_bit, State.State, Step.{Change, done}, Tables.{Table, has_row, keys_in, row_at, set_row}, Unicast.is_rp}}
use Rattle.law_settled.{proofs.{ListLaws.{by_cond, either}, TurnLaws.kept_by_fold, FineTables.{Fine, fine_put, fine_set_row}, RisingKeys.Up}}
use Rattle.law_streams.{specs.Bounded.{AddsAtMost, AddsNone, IsWithinLimit, counted_beside_asserts}, proofs.{Counting.{Within, in_keys, longer_by_needed, named_passing, none_needed, one_more, own_rows, put_there, shorter_at}, Fewer.{Same, adds_itself, adds_none, no_more, settled_none}}}

-- ---- what the room allows

not_passed : (a b : ℕ) → nat_lt a b ≡ false → b ≤ a
not_passed a b e = grind (arith, nat_tests, e)

pub room : (s : State) (n : ℕ) → passes_limit s n ≡ false → (n ≡ 0) ⊎ (counted s + n ≤ s.settings.limit)
unfolding passes_limit
room s n e = grind (arith, eqb-true, not_passed)

pub none_passes : (s : State) → passes_limit s 0 ≡ false
unfolding passes_limit
none_passes s = refl

-- the given numbers of rows more in each table
pub record More (a b c d e : ℕ) (s t : State) : Type 0 where
  pub settings : t.settings ≡ s.settings
  pub neighbours : length t.neighbours ≤ length s.neighbours + a
  pub groups : length t.group_records ≤ length s.group_records + b
  pub members : length t.source_records ≤ length s.source_records + c
  pub downstream : length t.downstream ≤ length s.downstream + d
  pub sources : length t.sources ≤ length s.sources + e

pub at_most : (n a b c d e : ℕ) (s t : State) → More a b c d e s t → a + b + c + d + e ≤ n → AddsAtMost n s t
at_most n a b c d e s t f le = grind arith

pub and_none : (a b : ℕ) → a ≤ b → a ≤ b + 0
and_none a b le = omega (arith, le)

pub same_and_none : (a : ℕ) → a ≤ a + 0
same_and_none a = omega arith

pub none_at_most : (n : ℕ) (s t : State) → AddsNone s t → AddsAtMost n s t
none_at_most n s t f = grind (arith, at_most, and_none)

less_than_most : (x y z n : ℕ) → x ≤ y → y ≤ z + n → x ≤ z + n
less_than_most x y z n f g = omega (arith, f, g)

fewer_together : (s t : State) → AddsNone s t → counted_beside_asserts t ≤ counted_beside_asserts s
fewer_together s t f = grind arith

pub then_less : (n : ℕ) (s t u : State) → AddsAtMost n s t → AddsNone t u → AddsAtMost n s u
then_less n s t u f g = grind (arith, less_than_most, fewer_together)

pub more_within : (n : ℕ) (s t : State) → AddsAtMost n s t → passes_limit s n ≡ false → IsWithinLimit s → IsWithinLimit t
unfolding counted
more_within n s t f e g = grind (arith, room)

pub done_at_most : (n : ℕ) (s : State) (w : ℕ) (c : Change) → AddsAtMost n s c.state → AddsAtMost n s (done s w c).state
unfolding done
done_at_most n s w c f = then_less n s c.state _ f (settled_none s (c.state, c.messages) w)

-- ---- a Hello

abbrev pub with_hello : State → ℕ → ℕ → HelloValue → State
with_hello s i address h = record s { neighbours = neighbours_replaced s.present i address h s.neighbours }

pub hello_same : (s : State) (i address : ℕ) (h : HelloValue) (w : ℕ) → Same (with_hello s i address h) (hello_received s i address h w)
unfolding hello_received hello_triggered neighbour_replaced neighbour_restarted
hello_same s i address h w = grind arith

module _ (s : State) (up : Up s.neighbours) where
  neighbours_more : (t : Table NeighbourRow) (n : ℕ) → length t ≤ length s.neighbours + n
      → AddsAtMost n s (record s { neighbours = t })
  neighbours_more t n le = grind (arith, at_most, same_and_none)

  set_adds : (i address : ℕ) (row : NeighbourRow) (ends there : Bool)
      → has_row s.neighbours (neighbour_key i address) ≡ there
      → AddsAtMost (cond (ends || there) 0 1) s
      (record s { neighbours = set_row s.neighbours (neighbour_key i address) (cond ends None (Some row)) })
  unfolding set_row
  set_adds i address row ends there e = grind (arith, neighbours_more, and_none, shorter_at, put_there, one_more)

  pub hello_adds : (i address : ℕ) (h : HelloValue) (w : ℕ)
      → AddsAtMost (cond ((hello_holdtime_of h == 0) || is_neighbour s i address) 0 1) s (hello_received s i address h w)
  unfolding neighbours_replaced
  hello_adds i address h w = grind (arith, then_less, set_adds, adds_none, hello_same)

-- ---- a Join/Prune

pub after_zero : (n : ℕ) → nat_lt 0 (suc n) ≡ true
after_zero n = grind (arith, nat_tests)

pub isnt_zero : (n : ℕ) → (suc n == 0) ≡ false
isnt_zero n = grind (arith, nat_tests)

row_cases : (o : Option DownstreamRow) (hold : ℕ) (rpt joined pruned all : Bool) (end pending : Option ℕ) (r : DownstreamRow)
    → cond rpt
    (cond pruned (pruned_rpt_row end hold pending (cond joined None o)) (cond all None (cond joined None o)))
    (cond pruned (pruned_row pending (cond joined (joined_row end hold o) o)) (cond joined (joined_row end hold o) o))
    ≡ Some r
    → (is_some o || (nat_lt 0 hold && ((not rpt && joined) || (rpt && pruned)))) ≡ true
row_cases o hold rpt joined pruned all end pending r e = grind (arith, after_zero)

module _ (s : State) (i : ℕ) (hold : ℕ) (joined pruned : List Key) where
  abbrev pub makeable : List Key
  makeable = cond (nat_lt 0 hold) (makeable_keys joined pruned) []

  abbrev pub after : Key → Option DownstreamRow
  after k = row_after s i hold joined pruned k

  makes : (k : Key) → ((not k.rpt && is_named joined k) || (k.rpt && is_named pruned k)) ≡ true
      → is_named (makeable_keys joined pruned) k ≡ true
  unfolding makeable_keys is_named
  makes k e = grind (arith, list_any-append, either, or_left, named_passing, or_right)

  made_within : (k : Key) (r : DownstreamRow) → after k ≡ Some r → Within s.downstream makeable (k, r)
  unfolding row_after has_row
  made_within k r e =
      either (is_some (row_at s.downstream k)) _
      (λ f. or_left (is_named (keys_in s.downstream) k) (is_named makeable k) (sym (in_keys s.downstream k) ∙ f))
      (λ f. or_right (is_named (keys_in s.downstream) k) (is_named makeable k) (there (nat_lt 0 hold) (first_so _ _ f) (makes k (second_so _ _ f))))
      (row_cases (row_at s.downstream k) hold k.rpt (is_named joined k) (is_named pruned k) (is_named joined (star_key i (group_in k))) _ _ r e)
    where
      there : (b : Bool) → b ≡ true → is_named (makeable_keys joined pruned) k ≡ true
          → is_named (cond b (makeable_keys joined pruned) []) k ≡ true
      there true f g = g
      there false f g = cc

  pub taken_fine : Up s.downstream
      → Fine (Within s.downstream makeable) (fold (λ t k. set_row t k (after k)) s.downstream (touched_keys s i joined pruned))
  taken_fine up =
      kept_by_fold (λ t k. set_row t k (after k)) (Fine (Within s.downstream makeable))
      (λ t k. fine_set_row (Within s.downstream makeable) t k (after k) (λ r e. made_within k r e))
      (touched_keys s i joined pruned) s.downstream (record { up = up; each = own_rows s.downstream makeable })

  made_most : (n : ℕ) → needed s.downstream (cond (nat_lt 0 n) (makeable_keys joined pruned) [])
      ≡ cond (n == 0) 0 (needed s.downstream (makeable_keys joined pruned))
  made_most n = grind (arith, none_needed, after_zero, isnt_zero)

  keys_add : Up s.downstream
      → AddsAtMost (cond (hold == 0) 0 (needed s.downstream (makeable_keys joined pruned))) s (keys_taken s i hold joined pruned)
  unfolding keys_taken
  keys_add up = grind (arith, taken_fine, longer_by_needed, made_most, at_most, same_and_none)

pub to_me_adds : (s : State) (i : ℕ) (m : JoinPrune) → Up s.downstream
    → AddsAtMost (cond (m.holdtime == 0) 0 (needed s.downstream (makeable_keys (joined_keys s i m) (pruned_keys i m)))) s (to_me s i m)
unfolding to_me
to_me_adds s i m up = keys_add s i m.holdtime (joined_keys s i m) (pruned_keys i m) up

-- ---- packets

module _ (s : State) (g src : ℕ) where
  abbrev pub source_only : List Key
  source_only = source_key 0 g src ∷ []

  -- no other source is new, and the other tables are as they were
  pub record OneSource (t : State) : Type 0 where
    pub same : Same s (record t { sources = s.sources })
    pub fine : Fine (Within s.sources source_only) t.sources

  its_key : (r : SourceRow) → Within s.sources source_only (source_key 0 g src, r)
  unfolding is_named
  its_key r = or_right _ _ (or_left (same_key (source_key 0 g src) (source_key 0 g src)) false (same_key_same (source_key 0 g src)))

  keepalive_one : (t : State) → OneSource t → OneSource (with_keepalive t g src)
  unfolding with_keepalive
  keepalive_one t f =
      let row : SourceRow = record { keepalive = Some (t.present + keepalive_period); spt = spt_bit t g src } in
      record { same = f.same; fine = fine_put (Within s.sources source_only) t.sources (source_key 0 g src) row (its_key row) f.fine }

  spt_one : (t : State) → OneSource t → OneSource (with_spt_bit t g src)
  unfolding with_spt_bit
  spt_one t f =
      let row : SourceRow = record {
        keepalive = option_and_then (λ (r : SourceRow). r.keepalive) (row_at t.sources (source_key 0 g src));
        spt = true;
      } in
      record { same = f.same; fine = fine_put (Within s.sources source_only) t.sources (source_key 0 g src) row (its_key row) f.fine }

  when_one : (b : Bool) (change : State → State) (t : State) → (OneSource t → OneSource (change t)) → OneSource t → OneSource (when b change t)
  when_one b change t f h = grind arith

  here_one : (iif : ℕ) (t : State) → OneSource t → OneSource (source_here t g src iif)
  unfolding source_here settle_register
  here_one iif t f = grind (arith, by_cond, keepalive_one)

  joined_one : (iif : ℕ) (t : State) → OneSource t → OneSource (source_joined t g src iif)
  unfolding source_joined
  joined_one iif t f = when_one _ (λ u. with_keepalive u g src) t (keepalive_one t) f

  updated_one : (iif : ℕ) (t : State) → OneSource t → OneSource (spt_updated t g src iif)
  unfolding spt_updated
  updated_one iif t f = when_one _ (λ u. with_spt_bit u g src) t (spt_one t) f

  watched_one : (t : State) → OneSource t → OneSource (watched t g src)
  unfolding watched
  watched_one t f = when_one _ (λ u. with_keepalive u g src) t (keepalive_one t) f

  seen_one : (t : State) (k : Key) → OneSource t → OneSource (data_seen t k).0
  unfolding data_seen wins
  seen_one t k f = grind (arith, by_cond)

  stray_one : (iif : ℕ) (t : State) → OneSource t → OneSource (stray t g src iif).state
  unfolding stray
  stray_one iif t f = grind (arith, by_cond, seen_one)

  chosen_one : (iif : ℕ) (t : State) → OneSource t → OneSource (list_chosen t g src iif).state
  unfolding list_chosen
  chosen_one iif t f = grind (arith, by_cond, watched_one, stray_one)

  at_first : Up s.sources → OneSource s
  at_first up = record { same = refl; fine = record { up = up; each = own_rows s.sources source_only } }

  pub forwarded_one : Up s.sources → (iif : ℕ) → OneSource (forwarded s g src iif).state
  unfolding forwarded
  forwarded_one up iif = chosen_one iif _ (updated_one iif _ (joined_one iif _ (here_one iif s (at_first up))))

  pub one_adds : (t : State) → OneSource t → AddsAtMost (needed s.sources source_only) s t
  one_adds t f = grind (arith, longer_by_needed, at_most, and_none, no_more)

  pub data_adds : Up s.sources → (iif : ℕ) → AddsAtMost (needed s.sources source_only) s (forwarded s g src iif).state
  data_adds up iif = one_adds (forwarded s g src iif).state (forwarded_one up iif)

  register_either : (b : Bool) (x y : Forwarded) → AddsAtMost (needed s.sources source_only) s x.state → AddsNone s y.state
      → AddsAtMost (cond b (needed s.sources source_only) 0) s (cond b x y).state
  register_either b x y f h = grind (arith, none_at_most)

  pub register_adds : Up s.sources → (p : Packet) (is_null : Bool)
      → AddsAtMost (cond (is_rp s g p.destination) (needed s.sources source_only) 0) s (register_received s p g src is_null).state
  unfolding register_received register_at_rp
  register_adds up p is_null = grind (arith, register_either, one_adds, when_one, keepalive_one, at_first, adds_itself)
