-- The order that is derived for timers is `timer_cmp`.
use Rattle.std.{proofs.{Common.{◌≡◌, ℕ, Bool, true, false, Option, Some, None, ◌==◌, ◌&&◌, refl, sym, ap, ◌∙◌, arith}, lemmas.Bool.Decides.nat_tests}, specs.{Ordering.{nat_cmp, bool_cmp, ordering_then, is_eq}, Option.{option_eq, option_cmp}, declared.cmp.Ordering.{Ordering, TheVariants.{Less, Equal, Greater}}, Bool.beq}}
use Rattle.pim_types.{specs.{declared.{timer.{TimerKind.{TimerKind, TheVariants.{Neighbour, PrunePending, DownstreamExpiry, GroupRecord, SourceRecord, Assert, Keepalive, Register, Override, Join, OtherQuerier, GroupRepeat, SourceRepeat, GeneralQuery, Hello}}, Timer.Timer}, fact.Key.Key}, Timers.{rank, timer_cmp}, Keys.{key_cmp, addr_cmp}}}
use Rattle.pim_ip.{specs.declared.addr.Addr.Addr}
use Rattle.pim_timers.{specs.{Ends.same_timer, Order.due_cmp}}
use Rattle.pim_types.specs.contracts.timer.TimerKindOrd.TheImpl as kind_ord
use Rattle.pim_types.specs.contracts.timer.TimerOrd.TheImpl as timer_ord
use Rattle.pim_types.specs.contracts.timer.TimerKindPartialEq.TheImpl as kind_eq
use Rattle.pim_ip.specs.contracts.addr.AddrPartialEq.TheImpl as addr_eq
use Rattle.pim_types.specs.contracts.timer.TimerPartialEq.TheImpl as timer_eq

-- kinds compare by their ranks
pub kind_order : (a b : TimerKind) → (kind_ord.ghosts).cmp a b ≡ nat_cmp (rank a) (rank b)
unfolding rank
kind_order Neighbour = elim [ Neighbour ↦ refl | _ ↦ refl ]
kind_order PrunePending = elim [ Neighbour ↦ refl | _ ↦ refl ]
kind_order DownstreamExpiry = elim [ Neighbour ↦ refl | _ ↦ refl ]
kind_order GroupRecord = elim [ Neighbour ↦ refl | _ ↦ refl ]
kind_order SourceRecord = elim [ Neighbour ↦ refl | _ ↦ refl ]
kind_order Assert = elim [ Neighbour ↦ refl | _ ↦ refl ]
kind_order Keepalive = elim [ Neighbour ↦ refl | _ ↦ refl ]
kind_order Register = elim [ Neighbour ↦ refl | _ ↦ refl ]
kind_order Override = elim [ Neighbour ↦ refl | _ ↦ refl ]
kind_order Join = elim [ Neighbour ↦ refl | _ ↦ refl ]
kind_order OtherQuerier = elim [ Neighbour ↦ refl | _ ↦ refl ]
kind_order GroupRepeat = elim [ Neighbour ↦ refl | _ ↦ refl ]
kind_order SourceRepeat = elim [ Neighbour ↦ refl | _ ↦ refl ]
kind_order GeneralQuery = elim [ Neighbour ↦ refl | _ ↦ refl ]
kind_order Hello = elim [ Neighbour ↦ refl | _ ↦ refl ]

pub timer_order : (a b : Timer) → (timer_ord.ghosts).cmp a b ≡ timer_cmp a b
unfolding timer_cmp key_cmp addr_cmp
timer_order a b = ap (λ o. ordering_then o (key_cmp a.key b.key)) (kind_order a.kind b.kind)

-- the order of timestamps with their timers is `due_cmp`
pub due_order : (a b : ℕ × Timer) → ordering_then (nat_cmp a.0 b.0) ((timer_ord.ghosts).cmp a.1 b.1) ≡ due_cmp a b
unfolding due_cmp
due_order a b = ap (ordering_then (nat_cmp a.0 b.0)) (timer_order a.1 b.1)

is_eq_then : (a b : Ordering) → is_eq (ordering_then a b) ≡ (is_eq a && is_eq b)
is_eq_then Less b = refl
is_eq_then Equal b = refl
is_eq_then Greater b = refl

pub nat_ties : (x y : ℕ) → (x == y) ≡ is_eq (nat_cmp x y)
nat_ties x y = grind (arith, nat_tests)

bool_ties : (a b : Bool) → beq a b ≡ is_eq (bool_cmp a b)
bool_ties true true = refl
bool_ties true false = refl
bool_ties false true = refl
bool_ties false false = refl

pub kind_ties : (a b : TimerKind) → (kind_eq.ghosts).eq a b ≡ is_eq (nat_cmp (rank a) (rank b))
unfolding rank
kind_ties Neighbour = elim [ Neighbour ↦ refl | _ ↦ refl ]
kind_ties PrunePending = elim [ Neighbour ↦ refl | _ ↦ refl ]
kind_ties DownstreamExpiry = elim [ Neighbour ↦ refl | _ ↦ refl ]
kind_ties GroupRecord = elim [ Neighbour ↦ refl | _ ↦ refl ]
kind_ties SourceRecord = elim [ Neighbour ↦ refl | _ ↦ refl ]
kind_ties Assert = elim [ Neighbour ↦ refl | _ ↦ refl ]
kind_ties Keepalive = elim [ Neighbour ↦ refl | _ ↦ refl ]
kind_ties Register = elim [ Neighbour ↦ refl | _ ↦ refl ]
kind_ties Override = elim [ Neighbour ↦ refl | _ ↦ refl ]
kind_ties Join = elim [ Neighbour ↦ refl | _ ↦ refl ]
kind_ties OtherQuerier = elim [ Neighbour ↦ refl | _ ↦ refl ]
kind_ties GroupRepeat = elim [ Neighbour ↦ refl | _ ↦ refl ]
kind_ties SourceRepeat = elim [ Neighbour ↦ refl | _ ↦ refl ]
kind_ties GeneralQuery = elim [ Neighbour ↦ refl | _ ↦ refl ]
kind_ties Hello = elim [ Neighbour ↦ refl | _ ↦ refl ]

source_ties : (a b : Option Addr) → option_eq (addr_eq.ghosts).eq a b ≡ is_eq (option_cmp addr_cmp a b)
unfolding addr_cmp
source_ties None None = refl
source_ties None (Some b) = refl
source_ties (Some a) None = refl
source_ties (Some a) (Some b) = nat_ties a.bits b.bits

pub key_ties : (a b : Key) → (a.iface.number == b.iface.number &&
    (a.group.bits == b.group.bits && (option_eq (addr_eq.ghosts).eq a.source b.source && beq a.rpt b.rpt))) ≡ is_eq
    (key_cmp a b)
unfolding key_cmp addr_cmp
key_ties a b =
    let iface = nat_ties a.iface.number b.iface.number in
    let group = nat_ties a.group.bits b.group.bits in
    let source = source_ties a.source b.source in
    let rpt = bool_ties a.rpt b.rpt in
    (λ i. iface i && (group i && (source i && rpt i)))
    ∙ sym (is_eq_then (nat_cmp a.iface.number b.iface.number) _
    ∙ ap (λ x. is_eq (nat_cmp a.iface.number b.iface.number) && x)
    (is_eq_then (nat_cmp a.group.bits b.group.bits) _
    ∙ ap (λ x. is_eq (nat_cmp a.group.bits b.group.bits) && x)
    (is_eq_then (option_cmp addr_cmp a.source b.source) (bool_cmp a.rpt b.rpt))))

-- timers are equal where they tie
pub timer_ties : (a b : Timer) → (timer_eq.ghosts).eq a b ≡ same_timer a b
unfolding same_timer timer_cmp
timer_ties a b =
    let kind = kind_ties a.kind b.kind in
    let key = key_ties a.key b.key in
    (λ i. kind i && key i) ∙ sym (is_eq_then (nat_cmp (rank a.kind) (rank b.kind)) (key_cmp a.key b.key))
