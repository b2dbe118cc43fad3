-- What a sight shows where only sources change, or only registers.
use Rattle.std.{proofs.Common.{◌≡◌, ◌+◌, ℕ, Bool, Option, true, false, None, Some, ap, refl, sym, ◌∙◌}, specs.{Option.option_map_or, Prelude.{is_some, option_and_then}}}
use Rattle.pim_types.{specs.{declared.fact.{RegisterRow.RegisterRow, SourceRow.SourceRow}, Keys.source_key}}
use Rattle.law_settled.{proofs.RowLaws.row_put}
use Rattle.pim_model.{specs.{Asserts.with_spt_bit, Neighbours.{is_dr, nbr}, Receivers.{is_exclude, local_receiver_exclude, local_receiver_include}, Registers.with_keepalive, Sets.{is_beaten, is_kept_alive, joins, joins_star, prunes, spt_bit, spt_metric, tunnel}, State.State, Tables.{Table, put, row_at}, Unicast.{route, rp_of, rp_route, rpf_interface, rpf_interface_rp}}}
use Rattle.pim_macros.{specs.{declared.sight.{SourceSight.SourceSight, StarSight.StarSight}, Sights.{ShowsSource, ShowsStar}}}

-- the state with these sources and registers
abbrev with_rows : State → Table SourceRow → Table RegisterRow → State
with_rows s t u = record s { sources = t; registers = u }

star_kept : (s : State) (t : Table SourceRow) (u : Table RegisterRow) (g : ℕ) (star : StarSight) → ShowsStar s g star
    → ShowsStar (with_rows s t u) g star
unfolding rp_of rp_route route nbr rpf_interface_rp joins_star is_exclude is_dr
star_kept s t u g star h = record {
  rp = h.rp;
  rp_path = h.rp_path;
  next_hop = h.next_hop;
  winner = h.winner;
  joined = h.joined;
  lost = h.lost;
  won = h.won;
  receivers = h.receivers;
  dr = h.dr;
  configured = h.configured;
  bare = h.bare;
  few = h.few;
  is_own_rp = h.is_own_rp;
  short = h.short;
}

-- a sight that differs from a true one in what it shows of these rows alone
source_kept : (s : State) (t : Table SourceRow) (u : Table RegisterRow) (g src : ℕ) (sight : SourceSight)
    (spt kept through : Bool) → ShowsSource s g src sight → spt ≡ spt_bit (with_rows s t u) g src
    → kept ≡ is_kept_alive (with_rows s t u) g src → through ≡ tunnel (with_rows s t u) g src
    → ShowsSource (with_rows s t u) g src (record sight { spt = spt; is_kept_alive = kept; tunnel = through })
unfolding route nbr rpf_interface rpf_interface_rp rp_route rp_of joins prunes is_beaten spt_metric local_receiver_include local_receiver_exclude is_dr
source_kept s t u g src sight spt kept through h a b c = record {
  star = star_kept s t u g sight.star h.star;
  path = h.path;
  next_hop = h.next_hop;
  winner = h.winner;
  tree_winner = h.tree_winner;
  joined = h.joined;
  pruned = h.pruned;
  lost = h.lost;
  won = h.won;
  beaten = h.beaten;
  included = h.included;
  excluded = h.excluded;
  spt = a;
  is_kept_alive = b;
  tunnel = c;
  is_own = h.is_own;
  is_dr = h.is_dr;
  is_spt_wanted = h.is_spt_wanted;
  short = h.short;
}

abbrev kept_row : State → ℕ → ℕ → SourceRow
kept_row s g src = record { keepalive = Some (s.present + 210000); spt = spt_bit s g src }

pub kept_alive : (s : State) (g src : ℕ) (sight : SourceSight) → ShowsSource s g src sight
    → ShowsSource (with_keepalive s g src) g src (record sight { is_kept_alive = true })
unfolding with_keepalive spt_bit is_kept_alive tunnel
kept_alive s g src sight h =
    let found = row_put (source_key 0 g src) (kept_row s g src) s.sources in
    source_kept s (put s.sources (source_key 0 g src) (kept_row s g src)) s.registers g src sight sight.spt true sight.tunnel h
    (h.spt ∙ ap (λ o. option_map_or (λ (r : SourceRow). r.spt) o false) (sym found))
    (ap (λ o. option_map_or (λ (r : SourceRow). is_some r.keepalive) o false) (sym found))
    h.tunnel

end_some : (o : Option SourceRow) → is_some (option_and_then (λ (r : SourceRow). r.keepalive) o)
    ≡ option_map_or (λ (r : SourceRow). is_some r.keepalive) o false
end_some None = refl
end_some (Some r) = refl

abbrev spt_row : State → ℕ → ℕ → SourceRow
spt_row s g src = record {
  keepalive = option_and_then (λ (r : SourceRow). r.keepalive) (row_at s.sources (source_key 0 g src));
  spt = true;
}

pub spt_set : (s : State) (g src : ℕ) (sight : SourceSight) → ShowsSource s g src sight
    → ShowsSource (with_spt_bit s g src) g src (record sight { spt = true })
unfolding with_spt_bit spt_bit is_kept_alive tunnel
spt_set s g src sight h =
    let found = row_put (source_key 0 g src) (spt_row s g src) s.sources in
    source_kept s (put s.sources (source_key 0 g src) (spt_row s g src)) s.registers g src sight true sight.is_kept_alive
    sight.tunnel h (ap (λ o. option_map_or (λ (r : SourceRow). r.spt) o false) (sym found))
    (h.is_kept_alive
    ∙ sym (end_some (row_at s.sources (source_key 0 g src)))
    ∙ ap (λ o. option_map_or (λ (r : SourceRow). is_some r.keepalive) o false) (sym found))
    h.tunnel

pub tunnel_set : (s : State) (t : Table RegisterRow) (g src : ℕ) (sight : SourceSight) (through : Bool)
    → ShowsSource s g src sight → through ≡ tunnel (record s { registers = t }) g src
    → ShowsSource (record s { registers = t }) g src (record sight { tunnel = through })
unfolding spt_bit is_kept_alive
tunnel_set s t g src sight through h is =
    source_kept s s.sources t g src sight sight.spt sight.is_kept_alive through h h.spt h.is_kept_alive is
