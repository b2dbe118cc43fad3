-- Where a settle delivers: by the list that is left.
use Rattle.std.{proofs.{Common.{◌≡◌, ◌∙◌, ◌<◌, ◌≤◌, ◌+◌, ◌++◌, ℕ, suc, List, [], ◌∷◌, Option, Some, None, ap, sym, refl, arith, append_assoc, append-nil, add-one, drop, drop-cons, get_or, length, option_to_list}, lemmas.List.drop_all}, specs.Prelude.MatchOption}
use Rattle.pim_scenario.{specs.declared.scenario.Link.Link}
use Rattle.lab_parts.{specs.{Settling.{deliveries_of, next_delivery, received, to_interfaces, to_routers}, declared.{frames.{Delivery.Delivery, Frame.Frame, OnLink.OnLink}, station.Station.Station}}}

-- a list of no length
pub no_items : {A : Type 0} (xs : List A) (n : ℕ) → n ≡ length xs → n ≡ 0 → xs ≡ []
no_items [] n long none = refl
no_items (x ∷ xs) n long none = absurd (omega (arith, long, none))

-- a delivery of the frame begun comes first
next-begun : (stations : List Station) (sent : ℕ) (waiting : List Frame) (begun left : List Delivery) (d : Delivery)
    → begun ≡ d ∷ left
    → next_delivery stations sent waiting begun ≡ (Some d, record { sent = sent; begun = left; waiting = waiting })
unfolding next_delivery
next-begun stations sent [] begun left d is = rw is refl
next-begun stations sent (f ∷ fs) begun left d is = rw is refl

pub next-popped : (stations : List Station) (sent : ℕ) (waiting : List Frame) (begun left : List Delivery)
    (popped : Option Delivery) (n m : ℕ) → begun ≡ option_to_list popped ++ left → 0 < n
    → MatchOption popped ((n ≡ 0) × (m ≡ 0)) (λ _. m + 1 ≡ n)
    → next_delivery stations sent waiting begun ≡ (popped, record { sent = sent; begun = left; waiting = waiting })
next-popped stations sent waiting begun left None n m is some counts = absurd (omega (arith, counts.0, some))
next-popped stations sent waiting begun left (Some d) n m is some counts =
    next-begun stations sent waiting begun left d is

-- a frame is begun
pub next-waiting : (stations : List Station) (sent : ℕ) (waiting left : List Frame) (begun new : List Delivery) (f : Frame)
    → begun ≡ [] → waiting ≡ f ∷ left → new ≡ deliveries_of stations f.number f.departure
    → next_delivery stations sent waiting begun ≡ next_delivery stations sent left new
unfolding next_delivery
next-waiting stations sent waiting left begun new f none is put = rw (none, is, put) refl

-- all was delivered
pub next-none : (stations : List Station) (sent : ℕ) (waiting left : List Frame) (begun : List Delivery)
    → begun ≡ [] → waiting ≡ [] → left ≡ []
    → next_delivery stations sent waiting begun ≡ (None, record { sent = sent; begun = begun; waiting = left })
unfolding next_delivery
next-none stations sent waiting left begun none no_frame same = rw (none, no_frame, same) refl

-- an interface more
interfaces-more : (f : OnLink) (router i : ℕ) (l : Link) (ls : List Link) (found : List Delivery)
    → found ++ to_interfaces f router i (l ∷ ls)
    ≡ (found ++ received f router i l) ++ to_interfaces f router (suc i) ls
unfolding to_interfaces
interfaces-more f router i l ls found =
    sym (append_assoc found (received f router i l) (to_interfaces f router (suc i) ls))

pub interfaces-step : (f : OnLink) (router i : ℕ) (links : List Link) (l : Link) (found new : List Delivery)
    → i < length links → l ≡ get_or links i l → new ≡ found ++ received f router i l
    → found ++ to_interfaces f router i (drop i links) ≡ new ++ to_interfaces f router (i + 1) (drop (i + 1) links)
interfaces-step f router i links l found new below here put =
    let left : drop i links ≡ l ∷ drop (suc i) links =
    drop-cons links i l below ∙ ap (λ (x : Link). x ∷ drop (suc i) links) (sym here) in
    rw (add-one, left, put) (interfaces-more f router i l (drop (suc i) links) found)

pub interfaces-done : (f : OnLink) (router i : ℕ) (links : List Link) (found : List Delivery)
    → length links ≤ i → found ++ to_interfaces f router i (drop i links) ≡ found
unfolding to_interfaces
interfaces-done f router i links found past = rw (drop_all i links past, append-nil) refl

-- the interfaces of a router more
routers-more : (f : OnLink) (router : ℕ) (s : Station) (ss : List Station) (found : List Delivery)
    → found ++ to_routers f router (s ∷ ss) ≡ (found ++ to_interfaces f router 0 s.links) ++ to_routers f (suc router) ss
unfolding to_routers
routers-more f router s ss found =
    sym (append_assoc found (to_interfaces f router 0 s.links) (to_routers f (suc router) ss))

pub routers-step : (f : OnLink) (i : ℕ) (stations : List Station) (s : Station) (found new : List Delivery)
    → i < length stations → s ≡ get_or stations i s → new ≡ found ++ to_interfaces f i 0 s.links
    → found ++ to_routers f i (drop i stations) ≡ new ++ to_routers f (i + 1) (drop (i + 1) stations)
routers-step f i stations s found new below here put =
    let left : drop i stations ≡ s ∷ drop (suc i) stations =
    drop-cons stations i s below ∙ ap (λ (x : Station). x ∷ drop (suc i) stations) (sym here) in
    rw (add-one, left, put) (routers-more f i s (drop (suc i) stations) found)

pub routers-done : (f : OnLink) (i : ℕ) (stations : List Station) (found : List Delivery)
    → length stations ≤ i → found ++ to_routers f i (drop i stations) ≡ found
unfolding to_routers
routers-done f i stations found past = rw (drop_all i stations past, append-nil) refl
