-- What a network comes to, in one.
use Rattle.law_settled.{proofs.ListLaws.each_more}
use Rattle.law_converges.{proofs.{AskedByMembers.links_come_to_lead_to_hosts, CarriedNetwork.carried_network_settles, EachMember.each_member_is_served}, specs.{EachMember.{IsReached, IsServed}, NetworkConverges.{MemberWay, NetworkConverges}}}

pub network_converges : NetworkConverges
network_converges g src rp x started t came plan routing ways far n ms f = record {
  settled = carried_network_settles x.d x.late x.lag x.bound started t came plan n ms f.quiet;
  served = each_more
      (λ (w : MemberWay). IsReached g src x.d x.lag x.bound x.limit w.distance started plan routing n ms w.lan w.router w.hop w.hops)
      (λ w. IsServed g src rp x.d x.bound x.limit started t plan n ms w.lan w.router w.hop w.hops)
      (λ w o. each_member_is_served g src rp x.d x.late x.lag x.bound x.limit w.distance started t came plan routing n ms w.lan w.router w.hop w.hops
      f.quiet f.members f.lead f.over_rpf f.joins o) ways f.reached;
  wanted = links_come_to_lead_to_hosts g src x.life x.d x.tick x.over far.from_rp far.from_source far.of started t n ms f.goes_far f.asked f.sent f.up
      f.near_rp f.near_source;
}
