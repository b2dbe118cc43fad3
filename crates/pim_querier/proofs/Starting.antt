-- How querying starts and goes on, with the intervals as numbers.
use Rattle.std.{proofs.Common.{◌≡◌, ℕ, Bool, true, false, List, [], ◌∷◌, ◌++◌, Result, Ok, Err, OnOk, Option, Some, None, option_map, refl, ap, subst, ◌∙◌, ◌+◌, ◌*◌, ◌/◌, ◌-◌, arith, append-nil, append_assoc}}
use Rattle.pim_types.{specs.{declared.fact.{Key.Key, QuerierRow.QuerierRow}, Keys.{iface_key, same_key}}}
use Rattle.igmp_wire.{specs.{Written.{query_with, bits_of}, declared.write.QueryHeader.QueryHeader}}
use Rattle.pim_ip.{specs.declared.addr.Addr.Addr}
use Rattle.pim_model.{specs.{Messages.Message, Querier.{general_query, other_querier_gone, querier_on, querier_row, querier_up, query_interval, query_sent, querying, querying_on, specific_queries, specific_query, startup_query_interval}, State.State, Tables.{Table, change_row, changed_entry, row_at}}}
use Rattle.law_settled.{proofs.RowLaws.row_put}
use Rattle.pim_state.{specs.Turns.{Taking, saying}}
use Rattle.pim_querier.{specs.Queries.{all_queries, asking, general_header, specific_header}}

module _ {R : Type 0} (k : Key) (r : R) where
  replaced_step : (e : Key × R) (t : Table R) (b : Bool) → same_key k e.0 ≡ b
      → row_at (change_row (λ old. Some r) k t) k ≡ option_map (λ old. r) (row_at t k)
      → row_at (change_row (λ old. Some r) k (e ∷ t)) k ≡ option_map (λ old. r) (row_at (e ∷ t) k)
  unfolding row_at change_row changed_entry
  replaced_step e t true is later = rw is (rw is refl)
  replaced_step e t false is later = rw is (rw is later)

  -- a row that was replaced by this one
  pub row_replaced : (t : Table R) → row_at (change_row (λ old. Some r) k t) k ≡ option_map (λ old. r) (row_at t k)
  unfolding row_at change_row
  row_replaced [] = refl
  row_replaced (e ∷ t) = replaced_step e t (same_key k e.0) refl (row_replaced t)

module _ (s : State) (i : ℕ) where
  -- with a querier of the configured values
  interval_started : query_interval (querying s i 0 0) i ≡ 1000 * s.settings.query_interval
  unfolding query_interval querying querier_row
  interval_started = rw (row_put (iface_key i) (querier_row s 0 0) s.queriers) refl

  -- with one where there was any
  interval_by : (o : Option QuerierRow) → querier_on (querying_on s i 0 0) i ≡ option_map (λ old. querier_row s 0 0) o
      → query_interval (querying_on s i 0 0) i ≡ 1000 * s.settings.query_interval
  unfolding query_interval querying_on querier_row
  interval_by None is = rw is refl
  interval_by (Some row) is = rw is refl

  interval_again : query_interval (querying_on s i 0 0) i ≡ 1000 * s.settings.query_interval
  unfolding querying_on
  interval_again = interval_by (querier_on s i) found
    where
      found : querier_on (querying_on s i 0 0) i ≡ option_map (λ old. querier_row s 0 0) (querier_on s i)
      found = row_replaced (iface_key i) (querier_row s 0 0) s.queriers

  startup_started : startup_query_interval (querying s i 0 0) i ≡ 250 * s.settings.query_interval
  unfolding startup_query_interval
  startup_started = rw interval_started (quarter s.settings.query_interval)
    where
      quarter : (n : ℕ) → 1000 * n / 4 ≡ 250 * n
      quarter n = omega arith

  abbrev started_at : ℕ → State × List Message
  started_at n =
      let after : State = querying s i (s.present + n) (s.settings.robustness - 1) in
      (after, general_query after i ∷ [])

  pub starts : querier_up s i ≡ started_at (250 * s.settings.query_interval)
  unfolding querier_up
  starts = ap started_at startup_started

  abbrev again_at : ℕ → State × List Message
  again_at n = let after : State = querying_on s i (s.present + n) 0 in (after, general_query after i ∷ [])

  pub starts_again : other_querier_gone s i ≡ again_at (1000 * s.settings.query_interval)
  unfolding other_querier_gone
  starts_again = ap again_at interval_again

  pub general_sent : Message.Query i (query_with (general_header s i) []) ≡ general_query s i
  unfolding query_sent
  general_sent = refl

  pub specific_sent : (g : ℕ) (suppress : Bool) (sources : List Addr)
      → Message.Query i (query_with (specific_header s i g suppress) sources)
      ≡ specific_query s i g suppress (bits_of sources)
  unfolding query_sent
  specific_sent g suppress sources = refl

-- what was sent in a turn stands behind what it had sent before
pub said : {E : Type 0} (r : Result (Unit {0}) E) (draw : ℕ) (before after more : List Message) (t : Taking)
    → (let u : Taking = record { draw = draw; messages = before } in u) ≡ t → OnOk r (after ≡ before ++ more)
    → OnOk r ((let u : Taking = record { draw = draw; messages = after } in u) ≡ saying t more)
said (Ok done) draw before after more t is e =
    ap (λ (ms : List Message). let u : Taking = record { draw = draw; messages = ms } in u) e
    ∙ ap (λ (u : Taking). saying u more) is
said (Err refused) draw before after more t is e = tt

pub nothing_said : (t : Taking) → saying t [] ≡ t
nothing_said t =
    ap (λ (ms : List Message). let u : Taking = record { draw = t.draw; messages = ms } in u) (append-nil t.messages)

pub said_twice : (t : Taking) (first second : List Message)
    → saying (saying t first) second ≡ saying t (first ++ second)
said_twice t first second =
    ap (λ (ms : List Message). let u : Taking = record { draw = t.draw; messages = ms } in u)
    (append_assoc t.messages first second)

-- one message that was put into a turn
pub said_one : {E : Type 0} (r : Result (Unit {0}) E) (draw : ℕ) (before after : List Message) (put said_is : Message)
    (t : Taking) → (let u : Taking = record { draw = draw; messages = before } in u) ≡ t → put ≡ said_is
    → OnOk r (after ≡ before ++ put ∷ [])
    → OnOk r ((let u : Taking = record { draw = draw; messages = after } in u) ≡ saying t (said_is ∷ []))
said_one r draw before after put said_is t is same e =
    said r draw before after (said_is ∷ []) t is (subst (λ (m : Message). OnOk r (after ≡ before ++ m ∷ [])) same e)

module _ (s : State) (i : ℕ) where
  pub general_by : (h : QueryHeader) → h ≡ general_header s i → Message.Query i (query_with h []) ≡ general_query s i
  general_by h is = ap (λ (x : QueryHeader). Message.Query i (query_with x [])) is ∙ general_sent s i

  pub specific_by : (g : ℕ) (suppress : Bool) (sources : List Addr) (h : QueryHeader)
      → h ≡ specific_header s i g suppress
      → Message.Query i (query_with h sources) ≡ specific_query s i g suppress (bits_of sources)
  specific_by g suppress sources h is =
      ap (λ (x : QueryHeader). Message.Query i (query_with x sources)) is ∙ specific_sent s i g suppress sources

  pub all_specific : (g : ℕ) (suppress : Bool) (sources : List ℕ) (h : QueryHeader) → h ≡ specific_header s i g suppress
      → all_queries (asking i h) sources ≡ specific_queries s i g suppress sources
  unfolding query_sent
  all_specific g suppress sources h is = ap (λ (x : QueryHeader). all_queries (asking i x) sources) is

pub on_ok : {A E : Type 0} {P : Type 0} (r : Result A E) → P → OnOk r P
on_ok (Ok a) p = p
on_ok (Err e) p = tt

pub then_ok : {A E : Type 0} {P Q : Type 0} (r : Result A E) → (P → Q) → OnOk r P → OnOk r Q
then_ok (Ok a) f p = f p
then_ok (Err e) f p = tt

-- what is said of one state and of its change is said of both under other names
pub said_as : (told before now : Taking) (p q : State × List Message) → told ≡ saying before p.1 → before ≡ now → p ≡ q
    → told ≡ saying now q.1
said_as told before now p q said turn same =
    said ∙ ap (λ (t : Taking). saying t p.1) turn ∙ ap (λ (x : State × List Message). saying now x.1) same
