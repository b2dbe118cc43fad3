-- The list of a packet holds only interfaces with a row of a Join or of membership.
use Rattle.std.{proofs.Common.{◌≡◌, ℕ, Bool, true, false, not, ◌&&◌, ◌||◌, Option, is_some, arith}, specs.Option.option_map_or}
use Rattle.pim_ip.{specs.Ipv4.Packet}
use Rattle.pim_types.{specs.{Keys.{source_key, star_key}, declared.fact.GroupRecordRow.GroupRecordRow}}
use Rattle.pim_model.{specs.{Forwarding.{Forwarded, forwarded, list_chosen, register_at_rp, register_received, stray}, Receivers.{is_exclude, is_exclude_among, local_receiver_include, local_receiver_include_among}, Registers.with_keepalive, Sets.{inherited_olist, inherited_olist_rpt, joins, joins_star, pim_include, pim_include_star}, State.State, Tables.{Table, has_row, row_at}}}
use Rattle.law_streams.{proofs.Same.{Rows, Same, data_seen_same, here_same, joined_same, rows_of, spt_same, watched_same}}

-- the group timer runs on the interface
abbrev pub is_timed_row : Option GroupRecordRow → Bool
is_timed_row o = option_map_or (λ (r : GroupRecordRow). is_some r.end) o false

abbrev pub is_timed : Table GroupRecordRow → ℕ → ℕ → Bool
is_timed groups i g = is_timed_row (row_at groups (star_key i g))

-- a row of (*,G), a row of (S,G), the group in EXCLUDE, the source in INCLUDE
abbrev pub is_wanted : Rows → ℕ → ℕ → ℕ → Bool
is_wanted r g src i =
    has_row r.downstream (star_key i g) || has_row r.downstream (source_key i g src)
    || is_timed r.groups i g || (not (is_timed r.groups i g) && has_row r.sources (source_key i g src))

module _ (s : State) (g src i : ℕ) where
  in_rpt : inherited_olist_rpt s g src i ≡ true → is_wanted (rows_of s) g src i ≡ true
  unfolding inherited_olist_rpt pim_include_star joins_star is_exclude is_exclude_among
  in_rpt e = grind (arith, e)

  in_olist : inherited_olist s g src i ≡ true → is_wanted (rows_of s) g src i ≡ true
  unfolding inherited_olist pim_include joins local_receiver_include local_receiver_include_among is_exclude_among has_row
  in_olist e = grind (arith, e, in_rpt)

-- ---- a packet

-- the rows are as they were, and of those on the list
pub record Flows (s : State) (g src : ℕ) (f : Forwarded) : Type 0 where
  pub state : Same s f.state
  pub list : (i : ℕ) → f.list i ≡ true → is_wanted (rows_of s) g src i ≡ true

module _ (s : State) (g src iif : ℕ) where
  stray_same : Same s (stray s g src iif).state
  unfolding stray
  stray_same = grind (arith, data_seen_same)

  chosen_same : Same s (list_chosen s g src iif).state
  unfolding list_chosen
  chosen_same = grind (arith, watched_same, stray_same)

  chosen_wanted : (i : ℕ) → (list_chosen s g src iif).list i ≡ true → is_wanted (rows_of s) g src i ≡ true
  unfolding list_chosen stray
  chosen_wanted i e = grind (arith, e, in_olist, in_rpt)

pub forwarded_flows : (s : State) (g src iif : ℕ) → Flows s g src (forwarded s g src iif)
unfolding forwarded
forwarded_flows s g src iif = grind (arith, spt_same, joined_same, here_same, chosen_same, chosen_wanted)

-- ---- a Register

pub register_flows : (s : State) (p : Packet) (g src : ℕ) (is_null : Bool)
    → Flows s g src (register_received s p g src is_null)
unfolding register_received register_at_rp with_keepalive
register_flows s p g src is_null = record { state = grind arith; list = λ i e. grind (arith, e, in_rpt) }
