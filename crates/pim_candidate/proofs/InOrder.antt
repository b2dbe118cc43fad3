-- What a candidacy holds of RPs stays in order.
use Rattle.std.{proofs.Common.{ℕ, ◌^◌, ◌<◌, Bool, true, false, nat_le, List, Option, Some, None, Result, Ok, Err, arith}, specs.Prelude.if◌then◌else◌}
use Rattle.pim_ip.{specs.{Ipv4.{Packet, ipv4_reading}, declared.{addr.Addr.Addr, refusal.Refusal.Refusal}}}
use Rattle.pim_bootstrap.{specs.Advertisements.{Advertisement, advertisement_reading}}
use Rattle.pim_bsr.{specs.{Hearing.Around, Laws.is_taken, Standing.{Arrival, arrival_in, arrival_taken, why_arrival}, Table.{Known, at_time}, declared.heard.{Heard.Heard, Why.Why}}}
use Rattle.pim_candidate.{specs.{Candidacy.{Candidacy, Left, StandingRp, advertised_read, advertised_to, advertisement_bytes, advertises_later, advertising_by, advertising_passed, arrived, candidacy_heard, done, elected_by, election_passed, expired_as, expired_done, followed, heard_by, holdtime, is_advertised, is_advertisement, is_itself, most_held, not_advertised, originates, quiet, sender_of, set_passed, set_passed_by, tells, tells_by, time_passed, told_itself, told_to, unicast_by, unicast_heard, unicast_packet, unicast_reading, untold, weighed, weighed_if, yields}, Advertising.sent, CandidacyLaws.OrderStays, Election.{expired, heard, is_elected}, Sound.IsSoundSet, declared.{candidacy.{CandidacyHeard.CandidacyHeard, StandingBsr.StandingBsr}, election.{Action.Action, Election.Election, Outcome.Outcome}}}, proofs.Sound.{empty_is_sound, sound_in_time, sound_stays}}

-- ---- packets on links

module _ (c : Candidacy) (sound : IsSoundSet c.rp_set) where
  yields_or : (b : StandingBsr) (t : Bool) → IsSoundSet (if t then yields c b else c).rp_set
  yields_or b true = empty_is_sound
  yields_or b false = sound

  of_action : (act : Action) (e : Election) (s : Around) (b : StandingBsr) (k : Known) (a : Arrival)
      → IsSoundSet (done act e s c b k a).left.candidacy.rp_set
  unfolding originates
  of_action Action.Nothing e s b k a = sound
  of_action Action.Take e s b k a = yields_or (record b { election = e }) (is_taken (arrival_taken s k a).answer)
  of_action Action.PassOn e s b k a = sound
  of_action Action.Originate e s b k a = sound

  of_why : (why : Option Why) (s : Around) (b : StandingBsr) (k : Known) (a : Arrival)
      → IsSoundSet (weighed_if why s c b k a).left.candidacy.rp_set
  of_why (Some why) s b k a = sound
  of_why None s b k a =
      let o : Outcome = heard b.election (sender_of a.message) s.present in
      of_action o.action o.left s b k a

  of_arrival : (r : Result Arrival Heard) (s : Around) (b : StandingBsr) (k : Known)
      → IsSoundSet (arrived s c b k r).left.candidacy.rp_set
  unfolding weighed
  of_arrival (Ok a) s b k = of_why (why_arrival s k a) s b k a
  of_arrival (Err _) s b k = sound

  of_bsr : (o : Option StandingBsr) (s : Around) (k : Known) (i : ℕ) (bytes : List ℕ)
      → IsSoundSet (heard_by o s c k i bytes).left.candidacy.rp_set
  of_bsr None s k i bytes = sound
  of_bsr (Some b) s k i bytes = of_arrival (arrival_in i bytes) s b k

  hears : (s : Around) (k : Known) (i : ℕ) (bytes : List ℕ) (draw : ℕ)
      → IsSoundSet (candidacy_heard s c k i bytes draw).left.candidacy.rp_set
  unfolding candidacy_heard followed
  hears s k i bytes draw = of_bsr c.bsr s k i bytes

  -- ---- advertisements

  few : (b : StandingBsr) → most_held b < 2 ^ 8
  few b = omega arith

  of_reading : (now : ℕ) (b : StandingBsr) (r : Result Advertisement Refusal) → IsSoundSet (advertised_read now c b r).candidacy.rp_set
  of_reading now b (Ok a) = sound_stays now (most_held b) c.rp_set a (few b) sound
  of_reading now b (Err refusal) = sound

  took : (now : ℕ) (b : StandingBsr) (bytes : List ℕ) → IsSoundSet (advertised_to now c b bytes).candidacy.rp_set
  unfolding advertised_to
  took now b bytes = go (is_elected b.election.role)
    where
      go : (t : Bool) → IsSoundSet (if t then advertised_read now c b (advertisement_reading bytes) else record { answer = CandidacyHeard.NotElected; candidacy = c }).candidacy.rp_set
      go true = of_reading now b (advertisement_reading bytes)
      go false = sound

  of_packet : (now : ℕ) (b : StandingBsr) (r : Result Packet Refusal) → IsSoundSet (unicast_reading now c b r).candidacy.rp_set
  unfolding unicast_packet
  of_packet now b (Ok p) = go (is_advertisement b p)
    where
      go : (t : Bool) → IsSoundSet (if t then advertised_to now c b p.payload else not_advertised c).candidacy.rp_set
      go true = took now b p.payload
      go false = sound
  of_packet now b (Err refusal) = sound

  of_candidate : (o : Option StandingBsr) (now : ℕ) (bytes : List ℕ) → IsSoundSet (unicast_by o now c bytes).candidacy.rp_set
  of_candidate None now bytes = sound
  of_candidate (Some b) now bytes = of_packet now b (ipv4_reading bytes)

  takes : (s : Around) (bytes : List ℕ) → IsSoundSet (unicast_heard s c bytes).candidacy.rp_set
  unfolding unicast_heard
  takes s bytes = of_candidate c.bsr s.present bytes

  -- ---- time

  set_by : (o : Option StandingBsr) (now : ℕ) → IsSoundSet (set_passed_by o now c).rp_set
  set_by None now = sound
  set_by (Some b) now = sound_in_time now c.rp_set sound

  expired_by : (act : Action) (e : Election) (s : Around) (now : ℕ) (b : StandingBsr) (k : Known)
      → IsSoundSet (expired_done act e s now c b k).candidacy.rp_set
  unfolding originates
  expired_by Action.Nothing e s now b k = sound
  expired_by Action.Take e s now b k = sound
  expired_by Action.PassOn e s now b k = sound
  expired_by Action.Originate e s now b k = sound

  elected : (o : Option StandingBsr) (s : Around) (now : ℕ) (k : Known) → IsSoundSet (elected_by o s now c k).candidacy.rp_set
  elected None s now k = sound
  elected (Some b) s now k = go (nat_le b.election.end now)
    where
      go : (t : Bool) → IsSoundSet (if t then expired_as (expired b.election) s now c b k else quiet c k).candidacy.rp_set
      go true = expired_by (expired b.election).action (expired b.election).left s now b k
      go false = sound

  itself : (o : Option StandingBsr) (now : ℕ) (bytes : List ℕ) → IsSoundSet (told_itself o now c bytes).rp_set
  itself None now bytes = sound
  itself (Some b) now bytes = took now b bytes

  tells_one : (now : ℕ) (r : StandingRp) (bsr : Addr) → IsSoundSet (tells now c r bsr).candidacy.rp_set
  unfolding tells
  tells_one now r bsr = go (is_itself c.bsr bsr)
    where
      given : (t : Bool) → IsSoundSet (if t then told_itself c.bsr now c (advertisement_bytes holdtime r) else c).rp_set
      given true = itself c.bsr now (advertisement_bytes holdtime r)
      given false = sound

      go : (t : Bool) → IsSoundSet (if t
          then untold (if is_advertised r then told_itself c.bsr now c (advertisement_bytes holdtime r) else c)
          else record { candidacy = c; sent = told_to holdtime r bsr }).candidacy.rp_set
      go true = given (is_advertised r)
      go false = sound

  tells_any : (o : Option StandingRp) (now : ℕ) (bsr : Addr) → IsSoundSet (tells_by o now c bsr).candidacy.rp_set
  tells_any None now bsr = sound
  tells_any (Some r) now bsr = tells_one now r bsr

  advertises : (o : Option StandingRp) (bsr : Option Addr) (now draw : ℕ) → IsSoundSet (advertising_by o bsr now draw c).candidacy.rp_set
  advertises None bsr now draw = sound
  advertises (Some r) None now draw = sound
  advertises (Some r) (Some bsr) now draw = go (nat_le c.advertising.end now)
    where
      go : (t : Bool) → IsSoundSet (if t then advertises_later (sent c.advertising draw) (tells_by c.rp now c bsr) else untold c).candidacy.rp_set
      go true = tells_any c.rp now bsr
      go false = sound

passes : (c : Candidacy) → IsSoundSet c.rp_set → (s : Around) (k : Known) (now draw : ℕ)
    → IsSoundSet (time_passed s c k now draw).candidacy.rp_set
unfolding time_passed set_passed election_passed advertising_passed followed
passes c sound s k now draw =
    let one : Candidacy = set_passed now c in
    let two : Left = election_passed s now one (at_time now k) in
    let three : Candidacy = followed draw now two.known two.candidacy in
    advertises three (elected one (set_by c sound c.bsr now) one.bsr s now (at_time now k)) three.rp three.advertising.bsr now draw

pub order_stays : OrderStays
order_stays c sound = record { hears = hears c sound; takes = takes c sound; passes = passes c sound }
