-- Plans of events: each kind's fits where its parts do.
use Rattle.std.{specs.{Box.box_value, Prelude.if◌then◌else◌}, proofs.Common.{◌≡◌, ◌<◌, ℕ, Bool, Box, Global, true, false, List, [], ap, inl, inr, refl, subst, sym, ◌∙◌}}
use Rattle.pim_types.{specs.declared.{fact.Key.Key, config.{IfaceId.IfaceId, Route.Route, RpTable.RpTable}}}
use Rattle.pim_model.{specs.{declared.accepted.Accepted.Accepted, Full.{is_full, join_prune_is_full, keys_are_full, source_is_full}, State.{State, iface_count}, Step.{change, rps_replaced}, Downstream.{joined_keys, pruned_keys}}}
use Rattle.law_events.{specs.{Rest.IsAtRest, Moved.{MovesAlone, keys_by_routes, keys_by_rps}}, proofs.MovedKeys.{routes_move, rps_move}}
use Rattle.pim_rerouted.{specs.{Few.few_or_all, OtherRoutes.with_routes}}
use Rattle.pim_plan.{specs.{Repeats.keys_of_packet, Acting.{HasRead, IsSightOf, act_event}, Planning.{Fits, IsPlanned, touched_of}, declared.{act.{Act.Act, Control.Control}, plan.{Plan.Plan, Planning.Planning}}}, proofs.Touching.{MakesNone, facts_covered, packet_covered}}
use Rattle.pim_macros.{specs.{Sights.IsSourceSight, declared.sight.SourceSight.SourceSight}}
use Rattle.pim_ip.{specs.Ipv4.Packet}
use Rattle.pim_views.{specs.Covers.Concerns}
use Rattle.pim_fanout.{specs.Contains.{Contains, Moves}}
use Rattle.pim_mrib.{specs.Routes.RouteTable}
use Rattle.pim_state.{specs.declared.touched.Touched.Touched}
use Rattle.pim_wire.{specs.Values.JoinPrune}

module _ (s : State) (a : Accepted) (planning : Planning) (act : Act) (event : act_event act ≡ a) (read : HasRead s act)
    (room : is_full s a ≡ false) where
  -- some keys are touched
  pub keys_fit : (keys : List Key)
      → (let p : Plan = record { touched = Touched.Keys keys; act = act } in planning ≡ Planning.Change p)
      → Touched.Keys keys ≡ touched_of s a → ((w : ℕ) → Concerns keys s (change s w a).state) → IsPlanned s a planning
  keys_fit keys is touches covers =
      subst (λ (p : Planning). IsPlanned s a p) (sym is)
      (record { event = event; read = read; room = room; touches = touches; covers = λ w. inl (inl (covers w)) })

  -- all may be touched
  pub all_fit : (let p : Plan = record { touched = Touched.All; act = act } in planning ≡ Planning.Change p)
      → Touched.All ≡ touched_of s a → MakesNone a → IsPlanned s a planning
  all_fit is touches none =
      subst (λ (p : Planning). IsPlanned s a p) (sym is)
      (record {
        event = event;
        read = read;
        room = room;
        touches = touches;
        covers = λ w. inl (inl (facts_covered s w a none));
      })

  -- an interface that goes up or down moves nothing
  pub none_fits : (let p : Plan = record { touched = Touched.Keys []; act = act } in planning ≡ Planning.Change p)
      → Touched.Keys [] ≡ touched_of s a → ((w : ℕ) → MovesAlone [] s (change s w a).state) → IsPlanned s a planning
  none_fits is touches moves =
      subst (λ (p : Planning). IsPlanned s a p) (sym is)
      (record { event = event; read = read; room = room; touches = touches; covers = λ w. inr (inr (moves w)) })

-- what is planned of an event whose kind is known
pub planned_of : (s : State) (a b : Accepted) (planning : Planning) → a ≡ b → IsPlanned s b planning → IsPlanned s a planning
planned_of s a b planning is planned = subst (λ (x : Accepted). IsPlanned s x planning) (sym is) planned

-- the keys of what depends on a neighbour are touched, or all
pub adjoins_fit : (s : State) (act : Act) (keys : List Key) (touched : Touched) → HasRead s act → touched ≡ few_or_all keys
    → few_or_all keys ≡ touched_of s (act_event act) → is_full s (act_event act) ≡ false
    → ((w : ℕ) → Contains (few_or_all keys) s (change s w (act_event act)).state)
    → (let p : Plan = record { touched = touched; act = act } in Fits s (act_event act) p)
adjoins_fit s act keys touched read those touches room covers = record {
  event = refl;
  read = read;
  room = room;
  touches = those ∙ touches;
  covers = λ w. subst (λ (t : Touched). Contains t s (change s w (act_event act)).state) (sym those) (covers w);
}

-- all is touched, or nothing
pub all_where : (on : Bool) → on ≡ true → Touched.All ≡ (if on then Touched.All else Touched.Keys [])
all_where on is = rw is refl

pub none_where : (on : Bool) → on ≡ false → Touched.Keys [] ≡ (if on then Touched.All else Touched.Keys [])
none_where on isnt = rw isnt refl

-- something else is touched on a condition
pub else_where : (on : Bool) (none otherwise : Touched) → on ≡ false → otherwise ≡ (if on then none else otherwise)
else_where on none otherwise isnt = rw isnt refl

pub these_where : (on : Bool) (keys first second : List Key) → on ≡ true → keys ≡ first
    → Touched.Keys keys ≡ Touched.Keys (if on then first else second)
these_where on keys first second is are = rw is (ap Touched.Keys are)

pub those_where : (on : Bool) (keys first second : List Key) → on ≡ false → keys ≡ second
    → Touched.Keys keys ≡ Touched.Keys (if on then first else second)
those_where on keys first second is are = rw is (ap Touched.Keys are)

-- ---- routes and RP ranges

-- these keys are touched, which take all that is moved
module _ (s : State) (a : Accepted) (touched : Touched) (act : Act) (keys : List Key) where
  moved_fits : act_event act ≡ a → HasRead s act → Touched.Keys keys ≡ touched_of s a → is_full s a ≡ false
      → ((w : ℕ) → Moves (Touched.Keys keys) s (change s w a).state) → touched ≡ Touched.Keys keys
      → (let p : Plan = record { touched = touched; act = act } in Fits s a p)
  moved_fits event read touches room moves those = record {
    event = event;
    read = read;
    room = room;
    touches = those ∙ touches;
    covers = λ w. subst (λ (t : Touched). Contains t s (change s w a).state) (sym those) (inl (inr (moves w)));
  }

pub routes_fit : (s : State) (routes : List Route) (touched : Touched) (table : Box RouteTable Global)
    → touched ≡ Touched.Keys (keys_by_routes s (with_routes s routes)) → (box_value table).routes ≡ routes
    → (let p : Plan = record { touched = touched; act = Act.Control (Control.Routes table) } in
    Fits s (Accepted.Routes routes) p)
unfolding is_full change touched_of
routes_fit s routes touched table those brings =
    moved_fits s (Accepted.Routes routes) touched (Act.Control (Control.Routes table))
    (keys_by_routes s (with_routes s routes)) (ap Accepted.Routes brings) tt refl refl (λ w. (routes_move s w routes, refl)) those

pub rps_fit : (s : State) (ranges : RpTable) (touched : Touched) (table : Box RouteTable Global)
    → touched ≡ Touched.Keys (keys_by_rps s (rps_replaced s ranges)) → (box_value table).ranges ≡ ranges
    → (let p : Plan = record { touched = touched; act = Act.Control (Control.Ranges table) } in
    Fits s (Accepted.Rps ranges) p)
unfolding is_full change touched_of rps_replaced
rps_fit s ranges touched table those brings =
    moved_fits s (Accepted.Rps ranges) touched (Act.Control (Control.Ranges table))
    (keys_by_rps s (rps_replaced s ranges)) (ap Accepted.Rps brings) tt refl refl (λ w. (rps_move s w ranges, refl)) those

-- ---- room

pub join_prune_room : (s : State) (i : IfaceId) (m : JoinPrune) (holdtime : ℕ) (joined pruned : List Key) (full b : Bool)
    → holdtime ≡ m.holdtime → joined ≡ joined_keys s i.number m → pruned ≡ pruned_keys i.number m
    → full ≡ keys_are_full s holdtime joined pruned → full ≡ b → is_full s (Accepted.JoinPruneToMe i m) ≡ b
unfolding is_full join_prune_is_full
join_prune_room s i m holdtime joined pruned full b lasts joins prunes is e =
    ap (λ (n : ℕ). keys_are_full s n (joined_keys s i.number m) (pruned_keys i.number m)) (sym lasts)
    ∙ ap (λ (ks : List Key). keys_are_full s holdtime ks (pruned_keys i.number m)) (sym joins)
    ∙ ap (λ (ks : List Key). keys_are_full s holdtime joined ks) (sym prunes)
    ∙ sym is ∙ e

module _ (s : State) (i : IfaceId) (p : Packet) where
  pub source_room : (g src : ℕ) (full b : Bool) → g ≡ p.destination → src ≡ p.source → full ≡ source_is_full s g src
      → full ≡ b → is_full s (Accepted.Data i p) ≡ b
  unfolding is_full
  source_room g src full b group source is e =
      ap (λ (n : ℕ). source_is_full s n p.source) (sym group) ∙ ap (λ (n : ℕ). source_is_full s g n) (sym source)
      ∙ sym is ∙ e

  pub data_fits : IsAtRest s → i.number < iface_count s → (sight : SourceSight) (box : Box SourceSight Global)
      → box_value box ≡ sight → (keys : List Key) (planning : Planning)
      → (let q : Plan = record { touched = Touched.Keys keys; act = Act.Data i p box } in planning ≡ Planning.Change q)
      → sight.star.group.bits ≡ p.destination → sight.source.bits ≡ p.source → IsSourceSight s sight
      → is_full s (Accepted.Data i p) ≡ false
      → keys ≡ keys_of_packet s sight.star.group.bits sight.source.bits i.number
      → IsPlanned s (Accepted.Data i p) planning
  unfolding touched_of
  data_fits rest below sight box holds keys planning is group source shown room those =
      let are : keys ≡ keys_of_packet s p.destination p.source i.number =
      those ∙ ap (λ (n : ℕ). keys_of_packet s n sight.source.bits i.number) group
      ∙ ap (λ (n : ℕ). keys_of_packet s p.destination n i.number) source in
      keys_fit s (Accepted.Data i p) planning (Act.Data i p box) refl
      (subst (λ (x : SourceSight). IsSightOf s p.destination p.source x) (sym holds)
      (record { shown = shown; group = group; source = source })) room keys is (ap Touched.Keys are)
      (packet_covered s rest i p keys below are)
