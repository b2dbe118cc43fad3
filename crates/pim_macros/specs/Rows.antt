-- A row of the forwarding cache: its answers about its source, and when these are those of a state.
use Rattle.std.{specs.Prelude.{Option, Some, false, nat_lt, option_map, true, ℕ, ◌≡◌}}
use Rattle.pim_ifset.{specs.Members.has}
use Rattle.pim_ip.{specs.declared.addr.Addr.Addr}
use Rattle.pim_types.{specs.declared.config.IfaceId.IfaceId}
use Rattle.pim_model.{specs.Cache.Answers}
use Rattle.pim_state.{specs.Shown.Shows}
use Rattle.pim_macros.{specs.declared.rows.SourceAnswers.SourceAnswers}

-- what is evaluated of a source
pub record MadeRow : Type 0 where
  pub group : Addr
  pub source : Addr
  pub answers : SourceAnswers

-- the number of an interface, if there is one
abbrev pub number_of : Option IfaceId → Option ℕ
number_of iface = option_map (λ (i : IfaceId). i.number) iface

-- The answers of a row: of the sets, the interfaces below 120.
unfoldable pub answers_of : SourceAnswers → Answers
answers_of row = record {
  immediate = has row.immediate;
  inherited = has row.inherited;
  inherited_rpt = has row.inherited_rpt;
  has_tunnel = row.inherited.tunnel;
  rpf = number_of row.rpf;
  rp_rpf = number_of row.rp_rpf;
  spt = row.spt;
  connected = row.is_connected;
  may_register = row.may_register;
  registered = row.is_registered;
  desired = row.is_desired;
  flows = row.flows;
  reaches = row.reaches_spt;
  watches = row.watches;
  contested = has row.contested;
}

-- A row has the answers of a source. Whether SPTbit is reached is only compared where RPF_interface(S) is below 120.
pub record ShowsAnswers (row : SourceAnswers) (a : Answers) : Type 0 where
  pub immediate : Shows row.immediate a.immediate
  pub immediate_tunnel : row.immediate.tunnel ≡ a.has_tunnel
  pub inherited : Shows row.inherited a.inherited
  pub inherited_tunnel : row.inherited.tunnel ≡ a.has_tunnel
  pub inherited_rpt : Shows row.inherited_rpt a.inherited_rpt
  pub rpt_tunnel : row.inherited_rpt.tunnel ≡ false
  pub rpf : number_of row.rpf ≡ a.rpf
  pub rp_rpf : number_of row.rp_rpf ≡ a.rp_rpf
  pub spt : row.spt ≡ a.spt
  pub connected : row.is_connected ≡ a.connected
  pub may_register : row.may_register ≡ a.may_register
  pub registered : row.is_registered ≡ a.registered
  pub desired : row.is_desired ≡ a.desired
  pub flows : row.flows ≡ a.flows
  pub reaches : (i : ℕ) → nat_lt i 120 ≡ true → a.rpf ≡ Some i → row.reaches_spt ≡ a.reaches
  pub watches : row.watches ≡ a.watches
  pub contested : Shows row.contested a.contested
